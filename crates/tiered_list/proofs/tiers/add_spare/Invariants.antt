use Rattle.std.proofs.Common.{◌≡◌, ◌-◌, ◌≤◌, length, vec_capacity}
use Rattle.std.specs.List.{AllByRecursion}
use Rattle.tiered_list.specs.Tiers.{IsEmpty}
use Rattle.tiered_list.proofs.tiers.add_spare.Given as goal

-- there are no fewer tiers than before, and no more than asked for, all of them empty
abbrev pub invariant-loop-alloc : goal.invariant-loop-alloc
invariant-loop-alloc g l =
    (length l.initial.spare.items ≤ length l.spare.items)
    × (length l.spare.items ≤ l.count)
    × AllByRecursion IsEmpty l.spare.items
    × (vec_capacity l.spare ≡ vec_capacity l.initial.spare)

abbrev pub decreases-loop-alloc : goal.decreases-loop-alloc
decreases-loop-alloc g l = l.count - length l.spare.items
