use Rattle.mark_rounds.proofs.Places.{task_at}
use Rattle.mark_rounds.proofs.pending.task_at.Goals as goal

pub returns : goal.returns
returns c = task_at c.args.tasks.now c.args.rank c.index-tasks-rank.result c.requires c.index-tasks-rank.is
