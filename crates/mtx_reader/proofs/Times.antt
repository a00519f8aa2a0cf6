-- How often a place is there in a list.
use Rattle.std.specs.Prelude.{◌≡◌, ℕ, ◌+◌, ◌<◌, true, false, cond, List, [], ◌∷◌, ◌++◌, refl, count_by}
use Rattle.std.specs.declared.cmp.Ordering.TheVariants.{Less}
use Rattle.std.proofs.Common.{inl, inr, arith, sym, ◌∙◌, subst}
use Rattle.std.proofs.lemmas.Bool.{false_from_ne_true, cases_Bool, cond-true, cond-false}
use Rattle.std.proofs.lemmas.List.Sums.{sum_by-cons, sum_by_push}
use Rattle.mtx_reader.specs.Ascending.{IsAscendingBy, IsIn, all_in, not_before_itself}
use Rattle.mtx_reader.specs.Places.{Place, is_same, place_cmp}
use Rattle.mtx_reader.proofs.Listing.{place_alike, same_place, place_itself}
use Rattle.mtx_reader.specs.PlaceLaws.{place_total}

-- how often a place is there
abbrev pub times : Place → List Place → ℕ
times place places = count_by (is_same place) places

-- 1 where a place is the other one, and else 0
abbrev pub once : Place → Place → ℕ
once place other = cond (is_same place other) 1 0

pub times-cons : (place first : Place) (places : List Place) → times place (first ∷ places) ≡ once place first + times place places
times-cons place first places = sum_by-cons (once place) first places

pub times-push : (place last : Place) (places : List Place) → times place (places ++ last ∷ []) ≡ times place places + once place last
times-push place last places = sum_by_push (once place) places last

pub once-at_same : (place other : Place) → is_same place other ≡ true → once place other ≡ 1
once-at_same place other same = cond-true (is_same place other) 1 0 same

pub once-at_other : (place other : Place) → is_same place other ≡ false → once place other ≡ 0
once-at_other place other differs = cond-false (is_same place other) 1 0 differs

differs-from : (place other : Place) → (place ≡ other → ⊥) → is_same place other ≡ false
differs-from place other apart = false_from_ne_true (is_same place other) (λ same. apart (same_place place other same))

pub in-from_times : (places : List Place) (place : Place) → 0 < times place places → IsIn places place
in-from_times [] place some = absurd (omega arith)
in-from_times (first ∷ places) place some = elim (cases_Bool (is_same place first)) [
  | inl same ↦ inl (sym (same_place place first same))
  | inr differs ↦
      let whole = times-cons place first places in
      let none = once-at_other place first differs in
      inr (in-from_times places place (omega arith))
]

times-none : (places : List Place) (place : Place) → (IsIn places place → ⊥) → times place places ≡ 0
times-none [] place absent = refl
times-none (first ∷ places) place absent =
    let none = once-at_other place first (differs-from place first (λ same. absent (inl (sym same)))) in
    times-cons place first places ∙ rw (none, times-none places place (λ there. absent (inr there))) refl

-- a list that ascends has each of its places once
pub times-ascending : (places : List Place) (place : Place) → IsAscendingBy place_cmp places → IsIn places place → times place places ≡ 1
times-ascending [] place up there = absurd there
times-ascending (first ∷ places) place up (inl at) =
    let one = once-at_same place first (subst (λ p. is_same place p ≡ true) (sym at) (place_itself place)) in
    let absent : IsIn places place → ⊥ = λ there. not_before_itself place_total place_alike place (subst (λ p. place_cmp p place ≡ Less) at (all_in (λ p. place_cmp first p ≡ Less) places place up.0 there)) in
    times-cons place first places ∙ rw (one, times-none places place absent) refl
times-ascending (first ∷ places) place up (inr there) =
    let before = all_in (λ p. place_cmp first p ≡ Less) places place up.0 there in
    let apart : place ≡ first → ⊥ = λ same. not_before_itself place_total place_alike place (subst (λ p. place_cmp p place ≡ Less) (sym same) before) in
    let none = once-at_other place first (differs-from place first apart) in
    times-cons place first places ∙ rw (none, times-ascending places place up.1 there) refl
