-- Filters of filters.
use Rattle.std.proofs.Common.{◌≡◌, Bool, true, false, cond, List, [], ◌∷◌, refl, sym, ◌∙◌, ap}
use Rattle.std.specs.List.{filter}

pub filter-cons : {X : Type 0} (p : X → Bool) (x : X) (xs : List X) (test : Bool) → p x ≡ test → filter p (x ∷ xs) ≡ cond test (x ∷ filter p xs) (filter p xs)
filter-cons p x xs test is = ap (λ b. cond b (x ∷ filter p xs) (filter p xs)) is

module _ {X : Type 0} (p q : X → Bool) where
  stays_step : (x : X) (xs : List X) → ((x : X) → p x ≡ true → q x ≡ true) → (test : Bool) → p x ≡ test → filter q (filter p xs) ≡ filter p xs
      → filter q (cond test (x ∷ filter p xs) (filter p xs)) ≡ cond test (x ∷ filter p xs) (filter p xs)
  stays_step x xs passes true is rest = filter-cons q x (filter p xs) true (passes x is) ∙ ap (λ l. x ∷ l) rest
  stays_step x xs passes false is rest = rest

  -- what passes the first test passes the second
  pub filter_stays : ((x : X) → p x ≡ true → q x ≡ true) → (xs : List X) → filter q (filter p xs) ≡ filter p xs
  filter_stays passes [] = refl
  filter_stays passes (x ∷ xs) = stays_step x xs passes (p x) refl (filter_stays passes xs)

  none_step : (x : X) (xs : List X) → ((x : X) → p x ≡ true → q x ≡ false) → (test : Bool) → p x ≡ test → filter q (filter p xs) ≡ []
      → filter q (cond test (x ∷ filter p xs) (filter p xs)) ≡ []
  none_step x xs fails true is rest = filter-cons q x (filter p xs) false (fails x is) ∙ rest
  none_step x xs fails false is rest = rest

  -- what passes the first test fails the second
  pub filter_none : ((x : X) → p x ≡ true → q x ≡ false) → (xs : List X) → filter q (filter p xs) ≡ []
  filter_none fails [] = refl
  filter_none fails (x ∷ xs) = none_step x xs fails (p x) refl (filter_none fails xs)

  swap_step : (x : X) (xs : List X) (one two : Bool) → p x ≡ one → q x ≡ two → filter q (filter p xs) ≡ filter p (filter q xs)
      → filter q (cond one (x ∷ filter p xs) (filter p xs)) ≡ filter p (cond two (x ∷ filter q xs) (filter q xs))
  swap_step x xs true true one two rest = filter-cons q x (filter p xs) true two ∙ ap (λ l. x ∷ l) rest ∙ sym (filter-cons p x (filter q xs) true one)
  swap_step x xs true false one two rest = filter-cons q x (filter p xs) false two ∙ rest
  swap_step x xs false true one two rest = rest ∙ sym (filter-cons p x (filter q xs) false one)
  swap_step x xs false false one two rest = rest

  -- the order of the tests doesn't matter
  pub filter_swap : (xs : List X) → filter q (filter p xs) ≡ filter p (filter q xs)
  filter_swap [] = refl
  filter_swap (x ∷ xs) = swap_step x xs (p x) (q x) refl refl (filter_swap xs)
