-- How often a number stands in a list.
use Rattle.std.specs.Prelude.{◌≡◌, ℕ, ◌≤◌, ◌==◌, List, count_by}

abbrev pub times : ℕ → List ℕ → ℕ
times number numbers = count_by (λ other. other == number) numbers

-- no number stands there more often than this, and one does as often
pub record IsMost (numbers : List ℕ) (most : ℕ) : Type 0 where
  pub upper : (number : ℕ) → times number numbers ≤ most
  pub number : ℕ
  pub as_often : times number numbers ≡ most
