use Rattle.std.proofs.Common.{◌≡◌, ◌+◌, [], length, vec_capacity}
use Rattle.std.specs.VecDeque.{deque_capacity}
use Rattle.tiered_list.specs.Tiers.{AreTiers}
use Rattle.tiered_list.proofs.tiers.Tiers.clear.Given as goal

-- the ends are empty, and each tier between them is a full one or a spare one
abbrev pub invariant-loop-tier : goal.invariant-loop-tier
invariant-loop-tier g l = record {
  front : l.self-inside.front ≡ [];
  back : l.self-inside.back ≡ [];
  tiers : AreTiers l.self-inside.middle.items l.self-inside.spare.items (deque_capacity l.self-inside.middle) (vec_capacity l.self-inside.spare);
  count : length l.self-inside.middle.items + length l.self-inside.spare.items ≡ length l.fn.self.middle + l.fn.self.spare;
}

abbrev pub decreases-loop-tier : goal.decreases-loop-tier
decreases-loop-tier g l = length l.self-inside.middle.items
