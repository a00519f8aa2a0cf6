use Rattle.std.proofs.Common.{◌≡◌, ◌≤◌, length, take}
use Rattle.std.specs.VecDeque.{deque_capacity}
use Rattle.tiered_list.proofs.form.in_memory.Given as goal

-- the items so far stand in the ring, which has memory for all
abbrev pub invariant-loop-item : goal.invariant-loop-item
invariant-loop-item g l = record {
  so_far : l.ring.items ≡ take l.item-index l.items;
  room : length l.items ≤ deque_capacity l.ring;
}
