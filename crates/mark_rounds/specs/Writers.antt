-- Which of several sets is the first that writes a location.
use Rattle.std.specs.Prelude.{◌≡◌, ℕ, suc, List, [], ◌∷◌, Option, Some, None, slice_get, if◌then◌else◌}
use Rattle.rw_sets.specs.Accesses.{Accesses, writes}

-- the place of the first set that writes the location, where places are counted from a number on
abbrev pub first_writer : ℕ → List Accesses → ℕ → Option ℕ
first_writer rank [] loc = None
first_writer rank (set ∷ sets) loc = if writes set loc then Some rank else first_writer (suc rank) sets loc

-- at each location that one of the sets writes stands the place of the first that does
abbrev pub HaveFirstWriters : List ℕ → ℕ → List Accesses → Type 0
HaveFirstWriters writers rank sets = (loc first : ℕ) → first_writer rank sets loc ≡ Some first → slice_get writers loc ≡ Some first
