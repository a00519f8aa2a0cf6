use Rattle.std.proofs.Common.{◌≡◌, length}
use Rattle.rw_sets.proofs.Joins.{IsJoined}
use Rattle.rw_sets.proofs.walk.join_repeats.Given as goal

abbrev pub invariant-loop-i : goal.invariant-loop-i
invariant-loop-i l = record {
  to_the_end : l.i-end ≡ length l.fn.pairs.items;
  joined : IsJoined l.fn.pairs.items l.pairs.items l.kept l.i;
}
