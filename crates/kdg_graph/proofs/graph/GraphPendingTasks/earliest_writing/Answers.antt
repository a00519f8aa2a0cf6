use Rattle.kdg_graph.proofs.Common.{writes}
use Rattle.kdg_graph.proofs.Earliest.{least_task}
use Rattle.kdg_graph.proofs.graph.GraphPendingTasks.earliest_writing.Goals as goal

pub returns : goal.returns
returns c = least_task c.args.self.now (λ node. writes node.set c.args.loc) c.in_ok-writer.writer c.task.result.now c.in_ok-writer.ensures.graph c.in_ok-writer.ensures.earliest c.task.ensures
