use Rattle.std.proofs.Common.{◌≡◌, ◌+◌, length}
use Rattle.source_pool.proofs.Dealing.{AreDealtBefore}
use Rattle.source_pool.proofs.hands.deal_in_turn.Given as goal

-- the jobs before a number are dealt out
abbrev pub invariant-loop-job : goal.invariant-loop-job
invariant-loop-job g l = record {
  dealt : AreDealtBefore (length l.fn.hands.items) l.fn.jobs.items l.number l.jobs.items l.hands.items;
  few : l.number + length l.jobs.items ≡ length l.fn.jobs.items;
}

abbrev pub decreases-loop-job : goal.decreases-loop-job
decreases-loop-job g l = length l.jobs.items
