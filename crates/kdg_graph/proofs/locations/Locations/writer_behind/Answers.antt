use Rattle.std.proofs.Common.{◌≡◌, ◌∙◌, List, ap, arith, subst}
use Rattle.kdg_graph.proofs.Common.{Read, IsRankPast, clashing_at, Node, least_of}
use Rattle.kdg_graph.proofs.Earliest.{first_filed}
use Rattle.kdg_graph.proofs.Fronting.{writers_later}
use Rattle.kdg_graph.proofs.locations.Locations.writer_behind.Goals as goal

pub returns : goal.returns
returns c =
    let nodes : List Node = c.args.nodes.now.nodes in
    let zero_start : c.args.start ≡ 0 = omega (arith, c.if-start-gt0.false) in
    let at_first : IsRankPast c.args.key.now (clashing_at c.args.loc c.args.access nodes) 0 = subst (λ n. IsRankPast c.args.key.now (clashing_at c.args.loc c.args.access nodes) n) zero_start c.requires.rank in
    c.first_writer.ensures ∙ first_filed nodes c.args.self.now.locations.items c.args.loc Read c.requires.filed ∙ ap least_of (writers_later c.args.key.now c.args.loc c.args.access nodes at_first)
