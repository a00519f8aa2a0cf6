-- Members of lists, and their places.
use Rattle.std.proofs.Common.{◌≡◌, ◌⊎◌, inl, inr, ⊎_elim, subst, ℕ, zero, suc, ◌+◌, ◌<◌, List, [], ◌∷◌, ◌++◌, length, get_or, take, refl, sym, ap}
use Rattle.std.specs.Prelude.{Contains}
use Rattle.std.proofs.lemmas.List.{take_more}
use Rattle.std.proofs.lemmas.List.Elements.{Contains-append_cases}
use Rattle.plain_laws.specs.Members.{cases, none}
use mathlib.Core.Option.{some, some-injective, some-ne-none}
use lib.ListN.{get_elem?}

module _ {A : Type 0} where
  -- ---- members

  pub in_one : (b a : A) → Contains (b ∷ []) a → b ≡ a
  in_one b a has = ⊎_elim (λ same. same) (λ wrong. absurd (none a wrong)) (cases b a [] has)

  -- a member of the first ones is one of those before, or the last of them
  pub by_next : (l : List A) (i : ℕ) (a d : A) → i < length l → Contains (take (i + 1) l) a → Contains (take i l) a ⊎ (get_or l i d ≡ a)
  by_next l i a d inside has = ⊎_elim inl (λ last. inr (in_one (get_or l i d) a last))
      (Contains-append_cases (take i l) (get_or l i d ∷ []) a (subst (λ (xs : List A). Contains xs a) (take_more l i d inside) has))

  -- ---- places

  pub length_more : (l : List A) (a : A) → length (l ++ a ∷ []) ≡ suc (length l)
  length_more [] a = refl
  length_more (x ∷ l) a = ap suc (length_more l a)

  pub index_at : (l : List A) (place : ℕ) (a d : A) → get_elem? l place ≡ some a → get_or l place d ≡ a
  index_at [] place a d at = absurd (some-ne-none a (sym at))
  index_at (x ∷ l) zero a d at = some-injective x a at
  index_at (x ∷ l) (suc place) a d at = index_at l place a d at
