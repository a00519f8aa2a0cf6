use Rattle.std.proofs.Common.{length, ◌+◌, ◌↔◌}
use Rattle.rw_sets.specs.Accesses.{IsAscending, Conflicts}
use Rattle.rw_sets.proofs.walk.pairs_conflict.Given as goal

-- what is left of the two sets conflicts where the sets do
abbrev pub invariant-loop-left : goal.invariant-loop-left
invariant-loop-left l = record {
  left_ascends : IsAscending l.left;
  right_ascends : IsAscending l.right;
  same_answer : Conflicts l.left l.right ↔ Conflicts l.a l.b;
}

abbrev pub decreases-loop-left : goal.decreases-loop-left
decreases-loop-left l = length l.left + length l.right
