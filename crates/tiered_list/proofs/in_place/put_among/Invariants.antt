use Rattle.tiered_list.specs.Form.{in_place}
use Rattle.std.proofs.Common.{◌≡◌, ℕ, ◌+◌, ◌<◌, ◌≤◌, get_or, length}
use Rattle.tiered_list.proofs.in_place.put_among.Given as goal

-- the items from the place on have moved up, and those before are as they were
abbrev pub invariant-loop-next : goal.invariant-loop-next
invariant-loop-next g l = record {
  above : l.place ≤ l.next;
  within : l.next ≤ l.len;
  size : length l.items ≡ in_place;
  same : (k : ℕ) (d : g.row.T.Denot) → k ≤ l.next → get_or l.items k d ≡ get_or l.fn.items k d;
  moved : (k : ℕ) (d : g.row.T.Denot) → l.next ≤ k → k < l.len → get_or l.items (k + 1) d ≡ get_or l.fn.items k d;
}

abbrev pub decreases-loop-next : goal.decreases-loop-next
decreases-loop-next g l = l.next
