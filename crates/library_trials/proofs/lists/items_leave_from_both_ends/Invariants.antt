use Rattle.std.proofs.Common.{◌≡◌, ◌+◌, ◌*◌, ◌≤◌, length}
use Rattle.library_trials.proofs.lists.items_leave_from_both_ends.Given as goal

-- there is room for all
abbrev pub invariant-loop-item : goal.invariant-loop-item
invariant-loop-item g l = (length l.list.items ≡ l.item) × (1000 ≤ l.list.capacity)

-- two items leave at each step
abbrev pub invariant-loop-item-2 : goal.invariant-loop-item-2
invariant-loop-item-2 g l = length l.list.items + 2 * l.item ≡ 1000
