-- Places in order, of which those are kept that are there an odd number of times.
use Rattle.std.specs.Prelude.{◌≡◌, ℕ, ◌+◌, ◌-◌, ◌<◌, ◌≤◌, ◌%◌, ◌==◌, true, false, List, [], ◌∷◌, ◌++◌, length, get_or, set, take, drop, refl, ◌⊎◌}
use Rattle.std.specs.List.{AllByRecursion}
use Rattle.std.specs.List.Sorted.{IsPermutation, IsSorted}
use Rattle.std.specs.Ordering.{ordering_reverse, is_lt}
use Rattle.std.specs.declared.cmp.Ordering.{Ordering}
use Rattle.std.specs.declared.cmp.Ordering.TheVariants.{Less, Equal, Greater}
use Rattle.std.proofs.Common.{inl, inr, arith, sym, ap, ◌∙◌, subst}
use Rattle.std.proofs.lemmas.Bool.{both_ways, eqb-true, eq-eqb, cases_eq}
use Rattle.std.proofs.lemmas.List.{get_or_default, get_or-take, get_or-drop, length-set, length-take-le, take_more, take_more_set, take_all, drop-set-lt, drop-drop}
use Rattle.std.proofs.lemmas.List.Sorted.{sorted_far, sum_by-IsPermutation, ranks_by}
use Rattle.mtx_reader.specs.Ascending.{IsAscendingBy, IsIn, all_in, all_from_in, in_left, in_right, in_either, ascending_push, not_both}
use Rattle.mtx_reader.specs.Places.{Place, is_same, place_cmp, IsWithin, ArePlaces}
use Rattle.mtx_reader.specs.Readings.{places_named_oddly}
use Rattle.mtx_reader.proofs.Listing.{place_alike, same_place, place_itself, contains_from_in, is_grid}
use Rattle.mtx_reader.proofs.Times.{times, once, times-push, times-ascending, in-from_times}
use Rattle.mtx_reader.specs.PlaceLaws.{place_total}

ascending-front : (xs ys : List Place) → IsAscendingBy place_cmp (xs ++ ys) → IsAscendingBy place_cmp xs
ascending-front [] ys up = tt
ascending-front (x ∷ xs) ys up = (all_from_in (λ y. place_cmp x y ≡ Less) xs (λ y there. all_in (λ z. place_cmp x z ≡ Less) (xs ++ ys) y up.0 (in_left xs ys y there)), ascending-front xs ys up.1)

ascending-across : (xs ys : List Place) (x y : Place) → IsAscendingBy place_cmp (xs ++ ys) → IsIn xs x → IsIn ys y → place_cmp x y ≡ Less
ascending-across [] ys x y up here there = absurd here
ascending-across (z ∷ xs) ys x y up (inl at) there = subst (λ p. place_cmp p y ≡ Less) at (all_in (λ p. place_cmp z p ≡ Less) (xs ++ ys) y up.0 (in_right xs ys y there))
ascending-across (z ∷ xs) ys x y up (inr here) there = ascending-across xs ys x y up.1 here there

-- a place is the other one or comes before it
abbrev pub IsUpTo : Place → Place → Type 0
IsUpTo other place = (place ≡ other) ⊎ (place_cmp place other ≡ Less)

-- each place that was seen an odd number of times is kept, once
pub record IsSettled (seen kept : List Place) : Type 0 where
  pub up : IsAscendingBy place_cmp kept
  pub among : (place : Place) → IsIn kept place → IsIn seen place
  pub odd : (place : Place) → times place kept % 2 ≡ times place seen % 2

-- the place that was kept last, once more
settled-drop : (seen front : List Place) (place : Place) → IsSettled seen (front ++ place ∷ []) → IsSettled (seen ++ place ∷ []) front
settled-drop seen front place h = record {
  up = ascending-front front (place ∷ []) h.up;
  among = λ other there. in_left seen (place ∷ []) other (h.among other (in_left front (place ∷ []) other there));
  odd = λ other.
      let kept = times-push other place front in
      let whole = times-push other place seen in
      let even = h.odd other in
      omega arith;
}

-- a place that is not kept
settled-push : (seen kept : List Place) (place : Place) → ((other : Place) → IsIn seen other → IsUpTo place other) → (IsIn kept place → ⊥) → IsSettled seen kept → IsSettled (seen ++ place ∷ []) (kept ++ place ∷ [])
settled-push seen kept place before absent h = record {
  up = ascending_push place_cmp kept place h.up (all_from_in (λ other. place_cmp other place ≡ Less) kept (λ other there. elim (before other (h.among other there)) [
    | inl same ↦ absurd (absent (subst (IsIn kept) same there))
    | inr less ↦ less
  ]));
  among = λ other there. elim (in_either kept (place ∷ []) other there) [
    | inl here ↦ in_left seen (place ∷ []) other (h.among other here)
    | inr last ↦ in_right seen (place ∷ []) other last
  ];
  odd = λ other.
      let more = times-push other place kept in
      let whole = times-push other place seen in
      let same = h.odd other in
      omega arith;
}

-- where the last place that is kept is another, the place isn't kept
absent-behind : (seen front : List Place) (last place : Place) → ((other : Place) → IsIn seen other → IsUpTo place other) → (last ≡ place → ⊥) → IsSettled seen (front ++ last ∷ []) → IsIn (front ++ last ∷ []) place → ⊥
absent-behind seen front last place before apart h there = elim (in_either front (last ∷ []) place there) [
  | inl earlier ↦
      let less : place_cmp place last ≡ Less = ascending-across front (last ∷ []) place last h.up earlier (inl refl) in
      elim (before last (h.among last (in_right front (last ∷ []) last (inl refl)))) [
        | inl same ↦ apart same
        | inr greater ↦ not_both place_total place_alike place last less greater
      ]
  | inr here ↦ elim here [
    | inl at ↦ apart at
    | inr never ↦ absurd never
  ]
]

-- the first places of a list that was sorted are settled in its first places
pub record IsSettledTo (all now : List Place) (kept next : ℕ) : Type 0 where
  pub few : kept ≤ next
  pub as_many : length now ≡ length all
  pub settled : IsSettled (take next all) (take kept now)
  pub rest : drop next now ≡ drop next all

pub settled-none : (all : List Place) → IsSettledTo all all 0 0
settled-none all = record {
  few = omega arith;
  as_many = refl;
  settled = record { up = tt; among = λ place there. absurd there; odd = λ place. refl };
  rest = refl;
}

place_order : (places : List Place) (sorted : IsSorted place_cmp places) (i j : ℕ) (d : Place) → i ≤ j → j < length places → is_lt (place_cmp (get_or places j d) (get_or places i d)) ≡ false
place_order places sorted i j d = sorted_far (λ x y. is_lt (place_cmp x y)) (ranks_by place_total (λ (place : Place). place)) places sorted i j d

up_to : (place other : Place) → is_lt (place_cmp place other) ≡ false → IsUpTo place other
up_to place other not-less = by_cmp (place_cmp place other) refl
  where
    by_cmp : (o : Ordering) → place_cmp place other ≡ o → IsUpTo place other
    by_cmp Less is = absurd (both_ways (is_lt (place_cmp place other)) not-less (ap is_lt is))
    by_cmp Equal is = inl (sym (place_alike place other is))
    by_cmp Greater is = inr (place_total.antisymm other place ∙ ap ordering_reverse is)

module _ (all now : List Place) (kept next : ℕ) (h : IsSettledTo all now kept next) (below : next < length all) where
  abbrev pub origin : Place
  origin = (0, 0)

  abbrev pub here : Place
  here = get_or now next origin

  here_is : here ≡ get_or all next origin
  here_is = sym (at-start now) ∙ ap (λ l. get_or l 0 origin) h.rest ∙ at-start all
    where
      at-start : (l : List Place) → get_or (drop next l) 0 origin ≡ get_or l next origin
      at-start l = let same : next + 0 ≡ next = omega arith in get_or-drop next l 0 origin ∙ ap (λ k. get_or l k origin) same

  one_more : take (next + 1) all ≡ take next all ++ here ∷ []
  one_more = take_more all next origin below ∙ ap (λ place. take next all ++ place ∷ []) (sym here_is)

  rest_then : drop (next + 1) now ≡ drop (next + 1) all
  rest_then = sym (drop-drop 1 next now) ∙ ap (drop 1) h.rest ∙ drop-drop 1 next all

  before : IsSorted place_cmp all → (other : Place) → IsIn (take next all) other → IsUpTo here other
  before sorted other there =
      let found = contains_from_in (take next all) other there in
      let short : found.0 < next = omega (arith, found.1, length-take-le next all (omega arith)) in
      let at : other ≡ get_or all found.0 origin = sym found.2 ∙ get_or_default (take next all) found.0 other origin found.1 ∙ get_or-take next all found.0 origin short in
      up_to here other (subst (λ p. is_lt (place_cmp here p) ≡ false) (sym at) (subst (λ p. is_lt (place_cmp p (get_or all found.0 origin)) ≡ false) (sym here_is) (place_order all sorted found.0 next origin (omega (arith, short)) below)))

  -- the last place that is kept
  last_kept : 0 < kept → take kept now ≡ take (kept - 1) now ++ get_or now (kept - 1) origin ∷ []
  last_kept some =
      let e : kept - 1 + 1 ≡ kept = omega arith in
      ap (λ k. take k now) (sym e) ∙ take_more now (kept - 1) origin (omega (arith, h.few, h.as_many))

  settled_same : 0 < kept → get_or now (kept - 1) origin ≡ here → IsSettledTo all now (kept - 1) (next + 1)
  settled_same some same = record {
    few = omega (arith, h.few);
    as_many = h.as_many;
    settled = subst (λ seen. IsSettled seen (take (kept - 1) now)) (sym one_more)
        (settled-drop (take next all) (take (kept - 1) now) here (subst (IsSettled (take next all)) (last_kept some ∙ ap (λ place. take (kept - 1) now ++ place ∷ []) same) h.settled));
    rest = rest_then;
  }

  settled_new : IsSorted place_cmp all → (0 < kept → get_or now (kept - 1) origin ≡ here → ⊥) → IsSettledTo all (set now kept here) (kept + 1) (next + 1)
  settled_new sorted apart = record {
    few = omega (arith, h.few);
    as_many = length-set now kept here ∙ h.as_many;
    settled = subst (λ kept-now. IsSettled (take (next + 1) all) kept-now) (sym (take_more_set now kept here (omega (arith, h.few, h.as_many))))
        (subst (λ seen. IsSettled seen (take kept now ++ here ∷ [])) (sym one_more) (settled-push (take next all) (take kept now) here (before sorted) absent h.settled));
    rest = drop-set-lt (next + 1) now kept here (omega (arith, h.few)) ∙ rest_then;
  }
    where
      absent-some : 0 < kept → IsIn (take kept now) here → ⊥
      absent-some some there = absent-behind (take next all) (take (kept - 1) now) (get_or now (kept - 1) origin) here (before sorted) (apart some)
          (subst (IsSettled (take next all)) (last_kept some) h.settled) (subst (λ places. IsIn places here) (last_kept some) there)

      absent-none : kept ≡ 0 → IsIn (take kept now) here → ⊥
      absent-none none there = subst (λ k. IsIn (take k now) here) none there

      absent : IsIn (take kept now) here → ⊥
      absent = elim (cases_eq kept 0) [
        | inl none ↦ absent-none none
        | inr some ↦ absent-some (omega (arith, some))
      ]

  -- the same of places as an index reads them
  pub settled_same_read : (place last : Place) → place ≡ get_or now next place → last ≡ get_or now (kept - 1) last → 0 < kept → is_same last place ≡ true → IsSettledTo all now (kept - 1) (next + 1)
  settled_same_read place last read read-last some same =
      let place-is : place ≡ here = read ∙ get_or_default now next place origin (omega (arith, h.as_many)) in
      let last-is : last ≡ get_or now (kept - 1) origin = read-last ∙ get_or_default now (kept - 1) last origin (omega (arith, h.few, h.as_many)) in
      settled_same some (sym last-is ∙ same_place last place same ∙ place-is)

  pub settled_new_read : (place : Place) → place ≡ get_or now next place → IsSorted place_cmp all → (0 < kept → (last : Place) × (last ≡ get_or now (kept - 1) last) × (is_same last place ≡ false)) → IsSettledTo all (set now kept place) (kept + 1) (next + 1)
  settled_new_read place read sorted differs =
      let place-is : place ≡ here = read ∙ get_or_default now next place origin (omega (arith, h.as_many)) in
      rw place-is (settled_new sorted (λ some same. apart place-is some (differs some) same))
    where
      apart : place ≡ here → 0 < kept → (last : Place) × (last ≡ get_or now (kept - 1) last) × (is_same last place ≡ false) → get_or now (kept - 1) origin ≡ here → ⊥
      apart place-is some (last, read-last, differ) same =
          let last-is : last ≡ get_or now (kept - 1) origin = read-last ∙ get_or_default now (kept - 1) last origin (omega (arith, h.few, h.as_many)) in
          let is : last ≡ place = last-is ∙ same ∙ sym place-is in
          both_ways (is_same last place) differ (subst (λ p. is_same last p ≡ true) is (place_itself last))

pub settled-all : (all now : List Place) (kept next : ℕ) → next ≡ length all → IsSettledTo all now kept next → IsSettled all (take kept now)
settled-all all now kept next e h = subst (λ seen. IsSettled seen (take kept now)) (take_all next all (omega arith)) h.settled

-- what is left of places that were sorted, where those were kept that are there an odd number of times
module _ (named sorted left : List Place) (moved : IsPermutation named sorted) (up : IsAscendingBy place_cmp left) (odd : (place : Place) → times place left % 2 ≡ times place sorted % 2) where
  odd-named : (place : Place) → times place left % 2 ≡ times place named % 2
  odd-named place = odd place ∙ ap (λ n. n % 2) (sum_by-IsPermutation (once place) named sorted moved)

  odd-from_left : (place : Place) → IsIn left place → times place named % 2 ≡ 1
  odd-from_left place there = sym (odd-named place) ∙ ap (λ n. n % 2) (times-ascending left place up there)

  named-from_odd : (place : Place) → IsIn left place → IsIn named place
  named-from_odd place there =
      let one = odd-from_left place there in
      in-from_times named place (omega arith)

  pub odd-are_places : (rows columns : ℕ) → AllByRecursion (IsWithin rows columns) named → ArePlaces left
  odd-are_places rows columns within = record {
    from_one = all_from_in (λ place. (1 ≤ place.0) × (1 ≤ place.1)) left (λ place there.
        let inside = all_in (IsWithin rows columns) named place within (named-from_odd place there) in (inside.row.0, inside.column.0));
    ascending = up;
  }

  pub odd-is_grid : (rows columns : ℕ) → AllByRecursion (IsWithin rows columns) named → left ≡ places_named_oddly rows columns named
  odd-is_grid rows columns within =
      is_grid rows columns (λ place. times place named % 2 == 1) left up
      (λ place there. (eq-eqb (times place named % 2) 1 (odd-from_left place there), all_in (IsWithin rows columns) named place within (named-from_odd place there)))
      (λ place passes.
      let one = odd-named place ∙ eqb-true (times place named % 2) 1 passes in
      in-from_times left place (omega arith))
