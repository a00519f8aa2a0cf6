-- Lists of numbers without one of them.
use Rattle.std.proofs.Common.{◌≡◌, ◌≢◌, ◌==◌, eq-eqb, ne_eqb, not, true, false, ℕ, ◌<◌, List, [], ◌∷◌, ap, sym, ◌∙◌, arith}
use Rattle.std.specs.Prelude.{Contains, filter}
use Rattle.std.specs.List.{AllByRecursion}
use Rattle.std.proofs.lemmas.Bool.{true≢false}
use Rattle.plain_laws.specs.Members.{from_filter, here, in_filter, there}

pub stays : (y gone : ℕ) → y ≢ gone → not (y == gone) ≡ true
stays y gone other = ap not (ne_eqb y gone other)

pub goes : (y gone : ℕ) → y ≡ gone → not (y == gone) ≡ false
goes y gone same = ap not (eq-eqb y gone same)

pub kept_in : (gone x : ℕ) (xs : List ℕ) → Contains xs x → x ≢ gone → Contains (filter (λ y. not (y == gone)) xs) x
kept_in gone x xs has other = in_filter (λ y. not (y == gone)) xs x has (stays x gone other)

pub kept_from : (gone x : ℕ) (xs : List ℕ) → Contains (filter (λ y. not (y == gone)) xs) x → Contains xs x × (x ≢ gone)
kept_from gone x xs has = let its = from_filter (λ y. not (y == gone)) xs x has in (its.0, λ same. true≢false (sym its.1 ∙ goes x gone same))

-- a number that is above each of a list differs from each
pub all_apart : (y : ℕ) (xs : List ℕ) → ((x : ℕ) → Contains xs x → x < y) → AllByRecursion (λ x. y ≢ x) xs
all_apart y [] below = tt
all_apart y (x ∷ xs) below =
    ((λ same. let less = below x (here x xs) in absurd (omega (arith, less, same))), all_apart y xs (λ z has. below z (there x z xs has)))
