use Rattle.std.proofs.Common.{◌∙◌, List, ap, subst}
use Rattle.kdg_graph.proofs.Common.{writes, writers_of, Node, IsGraph, least_of}
use Rattle.kdg_graph.proofs.Earliest.{first_writing}
use Rattle.kdg_graph.proofs.Left.{least_there}
use Rattle.kdg_graph.proofs.graph.Graph.earliest_writing.Goals as goal

pub returns-clause-earliest : goal.returns-clause-earliest
returns-clause-earliest c =
    c.first_writer.ensures
    ∙ first_writing c.self.inside.nodes.nodes c.locations.result.now.locations.items c.args.loc c.locations.ensures
    ∙ ap (λ (l : List Node). least_of (writers_of l c.args.loc)) c.self.view_is

pub returns-clause-there : goal.returns-clause-there
returns-clause-there c = least_there c.args.self.now (λ node. writes node.set c.args.loc) c.first_writer.result (subst IsGraph c.self.view_is c.self.invariant) (returns-clause-earliest c)
