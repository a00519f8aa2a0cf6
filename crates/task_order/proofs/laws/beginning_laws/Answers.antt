use Rattle.task_order.proofs.Beginnings.{lower_beginnings_come_first}
use Rattle.task_order.proofs.laws.beginning_laws.Goals as goal

pub returns : goal.returns
returns c = lower_beginnings_come_first
