-- What a search finds in an ascending list, and what an access that is put in there leaves.
use Rattle.std.proofs.Common.{◌≡◌, ℕ, zero, suc, ◌-◌, ◌<◌, ◌≤◌, [], ◌∷◌, length, get_or, set, take, Some, None, Result, Ok, Err, IfOk, IfErr, OnOk, OnErr, refl, sym, ap, ◌∙◌, arith}
use Rattle.std.specs.List.{insert}
use Rattle.std.specs.List.Sorted.{IsSearchInRange, IsBinarySearchResult, IsNonDecreasingBy}
use Rattle.std.specs.Ordering.{nat_cmp, ordering_index}
use Rattle.std.proofs.lemmas.Cmp.{ranked}
use Rattle.std.proofs.lemmas.List.{get_or-take, length-take-le}
use Rattle.std.proofs.lemmas.List.Sorted.{IsNonDecreasingBy-from_default}
use Rattle.std.proofs.lemmas.Bool.Decides.{nat_tests}
use Rattle.rw_sets.specs.declared.access.Access.{Access}
use Rattle.rw_sets.specs.declared.access.Access.TheVariants.{Read}
use Rattle.rw_sets.specs.Accesses.{Accesses, IsAscending, access_at, stronger, put_access}
use Rattle.rw_sets.specs.Places.{location_at, IsAt, IsGapFor}
use Rattle.rw_sets.specs.AccessLaws.{ascending_first, ascending_rest, access_first, access_other, location_beyond}
use Rattle.rw_sets.specs.MergeLaws.{ascending_put, put_below, put_at, put_above}

-- the access at place i
abbrev pub access_in : Accesses → ℕ → Access
access_in l i = let pair = get_or l i (0, Read) in pair.1

-- the locations rise from place to place
locations_rise : (l : Accesses) → IsAscending l → (i j : ℕ) → i ≤ j → j < length l → location_at l i ≤ location_at l j
locations_rise [] up i j le lt = absurd (omega arith)
locations_rise (p ∷ ps) up zero zero le lt = omega arith
locations_rise (p ∷ ps) up zero (suc j) le lt = omega (arith, location_beyond p.0 ps (ascending_first _ _ up) j (omega arith))
locations_rise (p ∷ ps) up (suc i) zero le lt = absurd (omega arith)
locations_rise (p ∷ ps) up (suc i) (suc j) le lt = locations_rise ps (ascending_rest _ _ up) i j (omega arith) (omega arith)

-- what is last before a location leaves the gap for it at the end
pub gap_at_end : (l : Accesses) (loc n : ℕ) → IsAscending l → n ≡ length l → (0 < n → location_at l (n - 1) < loc) → IsGapFor l loc n
gap_at_end l loc n up e last = record {
  in_range = omega arith;
  lower_before = λ j lt. omega (arith, locations_rise l up j (n - 1) (omega arith) (omega arith), last (omega arith));
  higher_after = λ j le lt. absurd (omega arith);
}

-- what a search for a location answers
pub record IsFound (l : Accesses) (loc : ℕ) (r : Result ℕ ℕ) : Type 0 where
  pub found : IfOk r (IsAt l loc)
  pub absent : IfErr r (IsGapFor l loc)

module _ (l : Accesses) (up : IsAscending l) (loc : ℕ) where
  -- the comparisons with the location rise along the list, as a search by halving asks
  comparisons_rise : IsNonDecreasingBy (λ pair. ordering_index (nat_cmp pair.0 loc)) l
  comparisons_rise = IsNonDecreasingBy-from_default (λ pair. ordering_index (nat_cmp pair.0 loc)) l (0, Read) (λ i j le lt.
      let rise = locations_rise l up i j le lt in
      grind (arith, nat_tests))

  pub searched : (r : Result ℕ ℕ) → IsSearchInRange r (length l) → IsBinarySearchResult (λ pair. nat_cmp pair.0 loc) l r → IsFound l loc r
  searched (Ok at) in_range equal = record { found = record { in_range = in_range; here = ranked _ loc _ (sym (equal (0, Read))) }; absent = tt }
  searched (Err at) in_range parted = record {
    found = tt;
    absent = record {
      in_range = in_range;
      lower_before = λ j lt. ranked _ loc _ (sym ((parted comparisons_rise).0 j (0, Read) (omega arith) lt));
      higher_after = λ j le lt. ranked _ loc _ (sym ((parted comparisons_rise).1 j (0, Read) le lt));
    };
  }

at_tail : (q : ℕ × Access) (l : Accesses) (loc i : ℕ) → IsAt (q ∷ l) loc (suc i) → IsAt l loc i
at_tail q l loc i h = record { in_range = omega (arith, h.in_range); here = h.here }

gap_tail : (q : ℕ × Access) (l : Accesses) (loc i : ℕ) → IsGapFor (q ∷ l) loc (suc i) → IsGapFor l loc i
gap_tail q l loc i h = record {
  in_range = omega (arith, h.in_range);
  lower_before = λ j lt. h.lower_before (suc j) (omega arith);
  higher_after = λ j le lt. h.higher_after (suc j) (omega arith) (omega arith);
}

-- the first location is below the one at a later place
first_below : (q : ℕ × Access) (l : Accesses) (loc i : ℕ) → IsAscending (q ∷ l) → IsAt (q ∷ l) loc (suc i) → q.0 < loc
first_below q l loc i up h = omega (arith, location_beyond q.0 l (ascending_first _ _ up) i (omega (arith, h.in_range)), h.here)

-- the look-up finds what is at the place
pub access_at_place : (l : Accesses) (loc i : ℕ) → IsAscending l → IsAt l loc i → access_at l loc ≡ Some (access_in l i)
access_at_place [] loc i up h = absurd (omega (arith, h.in_range))
access_at_place (q ∷ l) loc zero up h = access_first q l loc h.here
access_at_place (q ∷ l) loc (suc i) up h =
    let below = first_below q l loc i up h in
    access_other q l loc (λ e. omega arith) ∙ access_at_place l loc i (ascending_rest _ _ up) (at_tail q l loc i h)

-- and nothing in a gap
pub absent_in_gap : (l : Accesses) (loc i : ℕ) → IsGapFor l loc i → access_at l loc ≡ None
absent_in_gap [] loc i h = refl
absent_in_gap (q ∷ l) loc zero h =
    let above : loc < q.0 = h.higher_after 0 (omega arith) (omega arith) in
    access_other q l loc (λ e. omega arith) ∙ absent_in_gap l loc zero (record {
      in_range = omega arith;
      lower_before = λ j lt. absurd (omega arith);
      higher_after = λ j le lt. h.higher_after (suc j) (omega arith) (omega arith);
    })
absent_in_gap (q ∷ l) loc (suc i) h =
    let below : q.0 < loc = h.lower_before 0 (omega arith) in
    access_other q l loc (λ e. omega arith) ∙ absent_in_gap l loc i (gap_tail q l loc i h)

-- the first places of a longer list
location_in_front : (n : ℕ) (l : Accesses) (i : ℕ) → i < n → location_at (take n l) i ≡ location_at l i
location_in_front n l i lt = ap (λ pair. pair.0) (get_or-take n l i (0, Read) lt)

pub at_in_front : (n : ℕ) (l : Accesses) (loc i : ℕ) → n ≤ length l → i < n → location_at l i ≡ loc → IsAt (take n l) loc i
at_in_front n l loc i some lt here = record { in_range = omega (arith, length-take-le n l some); here = location_in_front n l i lt ∙ here }

pub in_front_at : (n : ℕ) (l : Accesses) (loc i : ℕ) → i < n → IsAt (take n l) loc i → location_at l i ≡ loc
in_front_at n l loc i lt at = sym (location_in_front n l i lt) ∙ at.here

-- a location that is at none of a few places isn't there
absent_everywhere : (l : Accesses) (loc : ℕ) → ((i : ℕ) → IsAt l loc i → ⊥) → access_at l loc ≡ None
absent_everywhere [] loc nowhere = refl
absent_everywhere (q ∷ l) loc nowhere =
    access_other q l loc (λ e. nowhere 0 (record { in_range = omega arith; here = e }))
    ∙ absent_everywhere l loc (λ i at. nowhere (suc i) (record { in_range = omega (arith, at.in_range); here = at.here }))

pub absent_from_few : (l : Accesses) (loc : ℕ) → length l ≤ 4 → (IsAt l loc 0 → ⊥) → (IsAt l loc 1 → ⊥) → (IsAt l loc 2 → ⊥) → (IsAt l loc 3 → ⊥) → access_at l loc ≡ None
absent_from_few l loc few not-first not-second not-third not-fourth = absent_everywhere l loc nowhere
  where
    nowhere : (i : ℕ) → IsAt l loc i → ⊥
    nowhere zero at = not-first at
    nowhere (suc zero) at = not-second at
    nowhere (suc (suc zero)) at = not-third at
    nowhere (suc (suc (suc zero))) at = not-fourth at
    nowhere (suc (suc (suc (suc i)))) at = absurd (omega (arith, few, at.in_range))

-- the pair at the place is written over
pub put_at_place : (l : Accesses) (p : ℕ × Access) (i : ℕ) → IsAscending l → IsAt l p.0 i → put_access l p ≡ set l i (p.0, stronger (access_in l i) p.1)
put_at_place [] p i up h = absurd (omega (arith, h.in_range))
put_at_place (q ∷ l) p zero up h = put_at q p l (sym h.here) ∙ ap (λ n. (n, stronger q.1 p.1) ∷ l) h.here
put_at_place (q ∷ l) p (suc i) up h = put_above q p l (first_below q l p.0 i up h) ∙ ap (λ r. q ∷ r) (put_at_place l p i (ascending_rest _ _ up) (at_tail q l p.0 i h))

-- or the pair is inserted in the gap
pub put_in_gap : (l : Accesses) (p : ℕ × Access) (i : ℕ) → IsGapFor l p.0 i → put_access l p ≡ insert l i p
put_in_gap [] p zero h = refl
put_in_gap [] p (suc i) h = absurd (omega (arith, h.in_range))
put_in_gap (q ∷ l) p zero h = put_below q p l (h.higher_after 0 (omega arith) (omega arith))
put_in_gap (q ∷ l) p (suc i) h = put_above q p l (h.lower_before 0 (omega arith)) ∙ ap (λ r. q ∷ r) (put_in_gap l p i (gap_tail q l p.0 i h))

-- the pair at the place with another access
pub written_over : (l : Accesses) (loc i : ℕ) (x new : Access) → IsAscending l → IsAt l loc i → new ≡ stronger (access_in l i) x → set l i (loc, new) ≡ put_access l (loc, x)
written_over l loc i x new up at e = ap (λ (y : Access). set l i (loc, y)) e ∙ sym (put_at_place l (loc, x) i up at)

-- after an insertion that may have found no memory
pub inserted_or_not : {E : Type 0} (l l' : Accesses) (loc i : ℕ) (x : Access) (r : Result (Unit {0}) E) → IsAscending l → IsGapFor l loc i → OnOk r (l' ≡ insert l i (loc, x)) → OnErr r (l' ≡ l) → IsAscending l' × OnOk r (l' ≡ put_access l (loc, x))
inserted_or_not l l' loc i x (Ok done) up gap ok err =
    let put : l' ≡ put_access l (loc, x) = ok ∙ sym (put_in_gap l (loc, x) i gap) in
    (rw put (ascending_put l (loc, x) up), put)
inserted_or_not l l' loc i x (Err e) up gap ok err = (rw err up, tt)
