use Rattle.std.proofs.Common.{◌≡◌, length}
use Rattle.std.specs.List.{AllByRecursion}
use Rattle.std.specs.VecDeque.{deque_capacity}
use Rattle.tiered_list.specs.Tiers.{items_with, IsFull}
use Rattle.tiered_list.proofs.middle.pass_forward.Given as goal

-- the items with the one that is on its way are those with the one that came in
abbrev pub invariant-loop-at : goal.invariant-loop-at
invariant-loop-at g l =
    (items_with l.middle.items l.at l.item ≡ items_with l.initial.middle.items l.from l.initial.item)
    × AllByRecursion IsFull l.middle.items
    × (length l.middle.items ≡ length l.initial.middle.items)
    × (deque_capacity l.middle ≡ deque_capacity l.initial.middle)
