use Rattle.free_pool.proofs.Working.{IsWorking}
use Rattle.free_pool.proofs.worker.work_counted.Given as goal

abbrev pub invariant-loop : goal.invariant-loop
invariant-loop g l = IsWorking g.A.App.meaning l.fn.post.hall.now l.fn.post.seat l.seat l.hand.dones.items
