use Rattle.std.proofs.Common.{◌≡◌, [], length, vec_len}
use Rattle.std.specs.List.{AllWithin}
use Rattle.source_pool.proofs.hands.clear_jobs.Given as goal

-- the first hands have no jobs
abbrev pub invariant-loop-place : goal.invariant-loop-place
invariant-loop-place g l = record {
  len : vec_len l.hands ≡ l.place-end;
  count : length l.hands.items ≡ length l.fn.hands.items;
  empty : AllWithin (λ hand. hand.jobs.items ≡ []) l.hands.items 0 l.place;
}
