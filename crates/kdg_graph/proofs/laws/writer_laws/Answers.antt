use Rattle.kdg_graph.proofs.Earliest.{writers_are_of_tasks}
use Rattle.kdg_graph.proofs.laws.writer_laws.Goals as goal

pub returns : goal.returns
returns c = writers_are_of_tasks
