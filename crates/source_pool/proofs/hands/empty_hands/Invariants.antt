use Rattle.std.proofs.Common.{◌≡◌, ◌-◌, ◌≤◌, [], vec_len}
use Rattle.std.specs.List.{All}
use Rattle.source_pool.proofs.hands.empty_hands.Given as goal

-- no more hands than are to be, all of them without jobs
abbrev pub invariant-loop-alloc : goal.invariant-loop-alloc
invariant-loop-alloc g l = record {
  few : vec_len l.hands ≤ l.workers;
  empty : All (λ hand. hand.jobs.items ≡ []) l.hands.items;
}

abbrev pub decreases-loop-alloc : goal.decreases-loop-alloc
decreases-loop-alloc g l = l.workers - vec_len l.hands
