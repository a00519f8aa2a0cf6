use Rattle.std.proofs.Common.{ap, ◌∙◌}
use Rattle.std.specs.List.{slice_get}
use Rattle.kdg_graph.specs.Edges.{writers_of}
use Rattle.kdg_graph.specs.Nodes.{tasks_of}
use Rattle.graph_update.proofs.pending.PendingPendingTasks.earliest_writing.Goals as goal

pub returns : goal.returns
returns c = c.earliest_writing.ensures ∙ ap (λ nodes. slice_get (tasks_of (writers_of nodes c.args.loc)) 0) c.self.view_is
