use Rattle.std.proofs.Common.{◌≡◌, ◌+◌, ◌++◌, length, IsPermutation}
use Rattle.source_pool.specs.Performing.{dealt_jobs}
use Rattle.source_pool.proofs.hands.deal_in_order.Given as goal

-- what is dealt so far is in hands
abbrev pub invariant-loop-job : goal.invariant-loop-job
invariant-loop-job g l = record {
  count : length l.hands.items ≡ length l.fn.hands.items;
  all : IsPermutation l.fn.jobs.items (dealt_jobs l.hands.items ++ l.jobs.items);
  few : l.number + length l.jobs.items ≡ length l.fn.jobs.items;
}

abbrev pub decreases-loop-job : goal.decreases-loop-job
decreases-loop-job g l = length l.jobs.items
