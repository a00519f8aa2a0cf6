-- What is gathered of the first of several tasks.
use Rattle.std.proofs.Common.{◌≡◌, ◌≤◌, ◌+◌, ℕ, zero, suc, Bool, true, false, ◌||◌, List, [], ◌∷◌, ◌++◌, take, Some, refl, ap, ◌∙◌, add-one, arith}
use Rattle.std.specs.Prelude.{slice_get}
use Rattle.std.specs.List.{list_any}
use Rattle.std.proofs.lemmas.Bool.{false≢true}
use Rattle.std.proofs.lemmas.List.Folds.{list_any-append}
use Rattle.plain_laws.specs.Bools.{or_false}

-- ---- one place of a list

taken : {X : Type 0} (xs : List X) (place : ℕ) (x : X) → slice_get xs place ≡ Some x → take (suc place) xs ≡ take place xs ++ x ∷ []
taken [] place x at = absurd cc
taken (first ∷ xs) zero x at = let same : first ≡ x = cc in ap (λ y. y ∷ []) same
taken (first ∷ xs) (suc place) x at = ap (λ rest. first ∷ rest) (taken xs place x at)

pub one_more_taken : {X : Type 0} (xs : List X) (place : ℕ) (x : X) → slice_get xs place ≡ Some x → take (place + 1) xs ≡ take place xs ++ x ∷ []
one_more_taken xs place x at = rw add-one (taken xs place x at)

-- one more of which some pass
pub one_more_counts : {X : Type 0} (counts : X → Bool) (xs : List X) (place : ℕ) (x : X) → slice_get xs place ≡ Some x
    → list_any counts (take (place + 1) xs) ≡ (list_any counts (take place xs) || counts x)
one_more_counts counts xs place x at =
    ap (list_any counts) (one_more_taken xs place x at) ∙ list_any-append counts (take place xs) (x ∷ [])
    ∙ ap (λ (b : Bool). list_any counts (take place xs) || b) (or_false (counts x))

-- what the first ones have, more of them have
pub more_have : {X : Type 0} (counts : X → Bool) (xs : List X) (count place : ℕ) → count ≤ place → list_any counts (take count xs) ≡ true → list_any counts (take place xs) ≡ true
more_have counts xs zero place le has = absurd (false≢true has)
more_have counts [] (suc count) place le has = absurd (false≢true has)
more_have counts (x ∷ xs) (suc count) zero le has = absurd (omega (arith, le))
more_have {X} counts (x ∷ xs) (suc count) (suc place) le has = by_test (counts x) has (more_have counts xs count place (omega (arith, le)))
  where
    by_test : (here : Bool) → (here || list_any counts (take count xs)) ≡ true → (list_any counts (take count xs) ≡ true → list_any counts (take place xs) ≡ true)
        → (here || list_any counts (take place xs)) ≡ true
    by_test true is again = refl
    by_test false is again = again is
