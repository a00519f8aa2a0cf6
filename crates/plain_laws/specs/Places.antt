-- Items of lists by their places.
use mathlib.Core.Option.{some, some-injective, some-ne-none}
use lib.ListN.{get_elem?}
use Rattle.std.proofs.Common.{◌≡◌, ◌⊎◌, inl, inr, ⊎_elim, ℕ, zero, suc, ◌<◌, List, [], ◌∷◌, ◌++◌, length, set, refl, sym, ap, ◌∙◌, arith}

module _ {A : Type 0} where
  pub at_inside : (l : List A) (place : ℕ) (a : A) → get_elem? l place ≡ some a → place < length l
  at_inside [] place a at = absurd (some-ne-none a (sym at))
  at_inside (x ∷ l) zero a at = omega arith
  at_inside (x ∷ l) (suc place) a at = let rest = at_inside l place a at in omega (arith, rest)

  pub at_one : (l : List A) (place : ℕ) (a b : A) → get_elem? l place ≡ some a → get_elem? l place ≡ some b → a ≡ b
  at_one l place a b one other = some-injective a b (sym one ∙ other)

  pub set_twice : (l : List A) (place : ℕ) (a b : A) → set (set l place a) place b ≡ set l place b
  set_twice [] place a b = refl
  set_twice (x ∷ l) zero a b = refl
  set_twice (x ∷ l) (suc place) a b = ap (λ (rest : List A). x ∷ rest) (set_twice l place a b)

  -- a member of a list with one more at its end
  pub at_end : (l : List A) (a b : A) (place : ℕ) → get_elem? (l ++ a ∷ []) place ≡ some b → (get_elem? l place ≡ some b) ⊎ ((place ≡ length l) × (a ≡ b))
  at_end [] a b zero at = inr (refl, some-injective a b at)
  at_end [] a b (suc place) at = absurd (some-ne-none b (sym at))
  at_end (x ∷ l) a b zero at = inl at
  at_end (x ∷ l) a b (suc place) at = ⊎_elim inl (λ here. inr (ap suc here.0, here.1)) (at_end l a b place at)
