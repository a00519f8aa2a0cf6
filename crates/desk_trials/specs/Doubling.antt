-- What is given, and what comes back for it.
use Rattle.std.specs.Prelude.{◌≡◌, ℕ, ◌*◌, ◌<◌}

abbrev pub is_small : {K : Type 0} → K → ℕ → Type 0
is_small key x = x < 1000

abbrev pub is_double : {K : Type 0} → K → ℕ → ℕ → Type 0
is_double key x y = y ≡ 2 * x
