use Rattle.std.proofs.Common.{◌∙◌, ap}
use Rattle.kdg_graph.proofs.Common.{ids_in, not_running}
use Rattle.kdg_graph.proofs.Left.{all_left, not_running_unblocked}
use Rattle.kdg_graph.proofs.sources.Sources.among.Goals as goal

pub returns : goal.returns
returns c = ap (not_running c.args.nodes.now.nodes) (all_left c.args.nodes.now.nodes (ids_in c.args.unblocked.now) ∙ c.requires.unblocked) ∙ not_running_unblocked c.args.nodes.now.nodes c.len-graph.ensures.graph
