use Rattle.std.proofs.Common.{◌≡◌, ◌+◌, ◌≤◌, ◌++◌, length}
use Rattle.tiered_list.specs.Tiers.{all_items, room_for}
use Rattle.tiered_list.proofs.form.move_all.Given as goal

-- no item is lost, and there is room for those that are left
abbrev pub invariant-loop-item : goal.invariant-loop-item
invariant-loop-item g l =
    (all_items l.tiers ++ l.ring.items ≡ all_items l.initial.tiers ++ l.initial.ring.items)
    × (room_for l.tiers ≡ room_for l.initial.tiers)
    × (length (all_items l.tiers) + length l.ring.items ≤ room_for l.tiers)

abbrev pub decreases-loop-item : goal.decreases-loop-item
decreases-loop-item g l = length l.ring.items
