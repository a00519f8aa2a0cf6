use Rattle.tiered_list.specs.Form.{in_place}
use Rattle.std.proofs.Common.{◌≡◌, ℕ, ◌+◌, ◌<◌, ◌≤◌, get_or, length}
use Rattle.tiered_list.proofs.in_place.take_from.Given as goal

-- the items from the place on have moved down, and the others are as they were
abbrev pub invariant-loop-at : goal.invariant-loop-at
invariant-loop-at g l = record {
  size : length l.items ≡ in_place;
  before : (k : ℕ) (d : g.row.T.Denot) → k < l.place → get_or l.items k d ≡ get_or l.fn.items k d;
  moved : (k : ℕ) (d : g.row.T.Denot) → l.place ≤ k → k < l.at → get_or l.items k d ≡ get_or l.fn.items (k + 1) d;
  same : (k : ℕ) (d : g.row.T.Denot) → l.at ≤ k → get_or l.items k d ≡ get_or l.fn.items k d;
}
