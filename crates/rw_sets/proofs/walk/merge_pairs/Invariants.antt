use Rattle.std.proofs.Common.{◌≡◌, length, ◌+◌, ◌++◌}
use Rattle.rw_sets.specs.Accesses.{IsAscending, merged}
use Rattle.rw_sets.specs.Storage.{pairs_of}
use Rattle.rw_sets.proofs.walk.merge_pairs.Given as goal

-- the pairs so far, and then the merge of what is left, are the merge of the sets
abbrev pub invariant-loop-left : goal.invariant-loop-left
invariant-loop-left l = record {
  left_ascends : IsAscending l.left;
  right_ascends : IsAscending l.right;
  same_merge : pairs_of l.pairs ++ merged l.left l.right ≡ merged l.a l.b;
}

abbrev pub decreases-loop-left : goal.decreases-loop-left
decreases-loop-left l = length l.left + length l.right
