-- What reading and putting the values of a set leaves.
use Rattle.std.specs.Prelude.{◌≡◌, ◌≢◌, ℕ, zero, suc, ◌<◌, List, [], ◌∷◌, length, slice_get, slice_set, Some, IsSome, IsFalse, refl}
use Rattle.std.specs.List.{AllByRecursion}
use Rattle.std.proofs.Common.{arith, inl, inr, ap, sym, subst, ◌∙◌, length-set}
use Rattle.std.proofs.lemmas.Bool.{cases_eq, false≢true}
use Rattle.std.proofs.lemmas.Option.{get_or_from_slice_get, slice_get_within}
use Rattle.plain_laws.specs.Lists.{All-get_or, get-set_same}
use Rattle.rw_sets.specs.declared.access.Access.{Access}
use Rattle.rw_sets.specs.declared.access.Access.TheVariants.{Read, Write}
use Rattle.rw_sets.specs.Accesses.{Accesses, IsAscending, IsInRange, access_at, allows_write, writes}
use Rattle.rw_sets.specs.AccessLaws.{access_first, access_other, absent_beyond, ascending_first, ascending_rest, has_later}
use Rattle.hook_app.specs.Values.{values_at, put_values, KeepsRead}

-- ---- sets

-- the first location is one of the set
pub named_first : (p : ℕ × Access) (ps : Accesses) → IsSome (access_at (p ∷ ps) p.0)
named_first p ps = rw (access_first p ps p.0 refl) refl

-- where the set doesn't write a location, the others don't either
unwritten_later : (p : ℕ × Access) (ps : Accesses) (loc : ℕ) → IsAscending (p ∷ ps) → IsFalse (writes (p ∷ ps) loc) → IsFalse (writes ps loc)
unwritten_later p ps loc up unwritten = elim (cases_eq p.0 loc) [
  | inl is ↦ ap allows_write (absent_beyond loc p.0 ps (omega arith) (ascending_first p ps up))
  | inr differs ↦ sym (ap allows_write (access_other p ps loc differs)) ∙ unwritten
]

-- the first location is none of the others
pub first_unwritten : (p : ℕ × Access) (ps : Accesses) → IsAscending (p ∷ ps) → IsFalse (writes ps p.0)
first_unwritten p ps up = ap allows_write (absent_beyond p.0 p.0 ps (omega arith) (ascending_first p ps up))

written_is : (at loc : ℕ) (ps : Accesses) → IsFalse (writes ((at, Write) ∷ ps) loc) → loc ≢ at
written_is at loc ps unwritten is = false≢true (sym unwritten ∙ ap allows_write (access_first (at, Write) ps loc (sym is)))

module _ {V : Type 0} where
  -- ---- a list that is changed at one place

  pub get-set_other : (values : List V) (at loc : ℕ) (value : V) → loc ≢ at → slice_get (slice_set values at value) loc ≡ slice_get values loc
  get-set_other [] at loc value differs = refl
  get-set_other (x ∷ xs) zero zero value differs = absurd (differs refl)
  get-set_other (x ∷ xs) zero (suc loc) value differs = refl
  get-set_other (x ∷ xs) (suc at) zero value differs = refl
  get-set_other (x ∷ xs) (suc at) (suc loc) value differs = get-set_other xs at loc value (λ e. differs (ap suc e))

  get-set_alike : (values others : List V) (at loc : ℕ) (value : V) → slice_get values loc ≡ slice_get others loc
      → slice_get (slice_set values at value) loc ≡ slice_get (slice_set others at value) loc
  get-set_alike [] [] at loc value same = refl
  get-set_alike [] (y ∷ ys) at zero value same = absurd cc
  get-set_alike [] (y ∷ ys) zero (suc loc) value same = same
  get-set_alike [] (y ∷ ys) (suc at) (suc loc) value same = get-set_alike [] ys at loc value same
  get-set_alike (x ∷ xs) [] at zero value same = absurd cc
  get-set_alike (x ∷ xs) [] zero (suc loc) value same = same
  get-set_alike (x ∷ xs) [] (suc at) (suc loc) value same = get-set_alike xs [] at loc value same
  get-set_alike (x ∷ xs) (y ∷ ys) zero zero value same = refl
  get-set_alike (x ∷ xs) (y ∷ ys) zero (suc loc) value same = same
  get-set_alike (x ∷ xs) (y ∷ ys) (suc at) zero value same = same
  get-set_alike (x ∷ xs) (y ∷ ys) (suc at) (suc loc) value same = get-set_alike xs ys at loc value same

  -- what is at a place below the end
  pub found : (values : List V) (loc : ℕ) → loc < length values → (value : V) × (slice_get values loc ≡ Some value)
  found [] loc below = absurd (omega arith)
  found (x ∷ xs) zero below = (x, refl)
  found (x ∷ xs) (suc loc) below = found xs loc (omega arith)

  all_set : (P : V → Type 0) (values : List V) (at : ℕ) (value : V) → P value → AllByRecursion P values → AllByRecursion P (slice_set values at value)
  all_set P [] at value new all = tt
  all_set P (x ∷ xs) zero value new all = (new, all.1)
  all_set P (x ∷ xs) (suc at) value new all = (all.0, all_set P xs at value new all.1)

  -- what is so of all values is so of one that is found
  all_found : (P : V → Type 0) (values : List V) (loc : ℕ) (value : V) → AllByRecursion P values → slice_get values loc ≡ Some value → P value
  all_found P values loc value all is = subst P (get_or_from_slice_get values loc value value is) (All-get_or P values loc value (slice_get_within values loc value is) all)

  -- ---- the values of a set

  -- the values of a set, by the first location and the others
  pub values_first : (p : ℕ × Access) (ps : Accesses) (values : List V) (value : V) → slice_get values p.0 ≡ Some value → values_at (p ∷ ps) values ≡ value ∷ values_at ps values
  values_first p ps values value is = rw is refl

  pub length-values_at : (set : Accesses) (values : List V) → IsInRange set (length values) → length (values_at set values) ≡ length set
  length-values_at [] values below = refl
  length-values_at (p ∷ ps) values below =
      let here = found values p.0 (below p.0 (named_first p ps)) in
      ap length (values_first p ps values here.0 here.1) ∙ ap suc (length-values_at ps values (λ loc named. below loc (has_later p ps loc named)))

  pub values_at-fit : (P : V → Type 0) (set : Accesses) (values : List V) → IsInRange set (length values) → AllByRecursion P values → AllByRecursion P (values_at set values)
  values_at-fit P [] values below all = tt
  values_at-fit P (p ∷ ps) values below all =
      let here = found values p.0 (below p.0 (named_first p ps)) in
      subst (AllByRecursion P) (sym (values_first p ps values here.0 here.1))
      (all_found P values p.0 here.0 all here.1, values_at-fit P ps values (λ loc named. below loc (has_later p ps loc named)) all)

  pub values_at-alike : (set : Accesses) (values others : List V) → ((loc : ℕ) → IsSome (access_at set loc) → slice_get values loc ≡ slice_get others loc) → values_at set values ≡ values_at set others
  values_at-alike [] values others agree = refl
  values_at-alike (p ∷ ps) values others agree =
      let rest = values_at-alike ps values others (λ loc named. agree loc (has_later p ps loc named)) in
      rw (agree p.0 (named_first p ps), rest) refl

  -- ---- new values of a set

  pub length-put_values : (set : Accesses) (new values : List V) → length (put_values set new values) ≡ length values
  length-put_values [] new values = refl
  length-put_values (p ∷ ps) [] values = refl
  length-put_values ((at, Read) ∷ ps) (x ∷ xs) values = length-put_values ps xs values
  length-put_values ((at, Write) ∷ ps) (x ∷ xs) values = length-put_values ps xs (slice_set values at x) ∙ length-set values at x

  pub put_values-fit : (P : V → Type 0) (set : Accesses) (new values : List V) → AllByRecursion P new → AllByRecursion P values → AllByRecursion P (put_values set new values)
  put_values-fit P [] new values fresh all = all
  put_values-fit P (p ∷ ps) [] values fresh all = all
  put_values-fit P ((at, Read) ∷ ps) (x ∷ xs) values fresh all = put_values-fit P ps xs values fresh.1 all
  put_values-fit P ((at, Write) ∷ ps) (x ∷ xs) values fresh all = put_values-fit P ps xs (slice_set values at x) fresh.1 (all_set P values at x fresh.0 all)

  -- what the set doesn't write stays
  pub put_values-elsewhere : (set : Accesses) (new values : List V) (loc : ℕ) → IsAscending set → IsFalse (writes set loc) → slice_get (put_values set new values) loc ≡ slice_get values loc
  put_values-elsewhere [] new values loc up unwritten = refl
  put_values-elsewhere (p ∷ ps) [] values loc up unwritten = refl
  put_values-elsewhere ((at, Read) ∷ ps) (x ∷ xs) values loc up unwritten =
      put_values-elsewhere ps xs values loc (ascending_rest _ _ up) (unwritten_later (at, Read) ps loc up unwritten)
  put_values-elsewhere ((at, Write) ∷ ps) (x ∷ xs) values loc up unwritten =
      put_values-elsewhere ps xs (slice_set values at x) loc (ascending_rest _ _ up) (unwritten_later (at, Write) ps loc up unwritten)
      ∙ get-set_other values at loc x (written_is at loc ps unwritten)

  -- and what two lists share they share after the same new values
  pub put_values-alike : (set : Accesses) (new values others : List V) (loc : ℕ) → slice_get values loc ≡ slice_get others loc → slice_get (put_values set new values) loc ≡ slice_get (put_values set new others) loc
  put_values-alike [] new values others loc same = same
  put_values-alike (p ∷ ps) [] values others loc same = same
  put_values-alike ((at, Read) ∷ ps) (x ∷ xs) values others loc same = put_values-alike ps xs values others loc same
  put_values-alike ((at, Write) ∷ ps) (x ∷ xs) values others loc same =
      put_values-alike ps xs (slice_set values at x) (slice_set others at x) loc (get-set_alike values others at loc x same)

  -- the values of the set are the new ones then
  pub values_at-put_values : (set : Accesses) (new values : List V) → IsAscending set → IsInRange set (length values) → length new ≡ length set →
      KeepsRead set (values_at set values) new → values_at set (put_values set new values) ≡ new
  values_at-put_values [] [] values up below one_each kept = refl
  values_at-put_values [] (x ∷ xs) values up below one_each kept = absurd (omega arith)
  values_at-put_values (p ∷ ps) [] values up below one_each kept = absurd (omega arith)
  values_at-put_values ((at, Read) ∷ ps) (x ∷ xs) values up below one_each kept =
      let here = found values at (below at (named_first (at, Read) ps)) in
      let kept-parts : (x ≡ here.0) × KeepsRead ps (values_at ps values) xs = subst (λ (old : List V). KeepsRead ((at, Read) ∷ ps) old (x ∷ xs)) (values_first (at, Read) ps values here.0 here.1) kept in
      let rest = values_at-put_values ps xs values (ascending_rest _ _ up) (λ loc named. below loc (has_later (at, Read) ps loc named)) (omega arith) kept-parts.1 in
      let first : slice_get (put_values ps xs values) at ≡ Some x = put_values-elsewhere ps xs values at (ascending_rest _ _ up) (first_unwritten (at, Read) ps up) ∙ here.1 ∙ ap Some (sym kept-parts.0) in
      values_first (at, Read) ps (put_values ps xs values) x first ∙ ap (λ (vs : List V). x ∷ vs) rest
  values_at-put_values ((at, Write) ∷ ps) (x ∷ xs) values up below one_each kept =
      let here = found values at (below at (named_first (at, Write) ps)) in
      let written = slice_set values at x in
      let old-rest : values_at ps written ≡ values_at ps values =
      values_at-alike ps written values (λ loc named. get-set_other values at loc x (λ is. beyond_differs (at, Write) ps loc up named is)) in
      let kept-rest : KeepsRead ps (values_at ps values) xs = subst (λ (old : List V). KeepsRead ((at, Write) ∷ ps) old (x ∷ xs)) (values_first (at, Write) ps values here.0 here.1) kept in
      let rest = values_at-put_values ps xs written (ascending_rest _ _ up)
      (λ loc named. let e = length-set values at x in omega (arith, e, below loc (has_later (at, Write) ps loc named))) (omega arith)
      (subst (λ (old : List V). KeepsRead ps old xs) (sym old-rest) kept-rest) in
      let first : slice_get (put_values ps xs written) at ≡ Some x =
      put_values-elsewhere ps xs written at (ascending_rest _ _ up) (first_unwritten (at, Write) ps up)
      ∙ get-set_same values at x (below at (named_first (at, Write) ps)) in
      values_first (at, Write) ps (put_values ps xs written) x first ∙ ap (λ (vs : List V). x ∷ vs) rest
    where
      beyond_differs : (p : ℕ × Access) (qs : Accesses) (loc : ℕ) → IsAscending (p ∷ qs) → IsSome (access_at qs loc) → loc ≡ p.0 → ⊥
      beyond_differs p qs loc ascending named is =
          false≢true (subst (λ (found : _). IsSome found) (absent_beyond loc p.0 qs (omega arith) (ascending_first p qs ascending)) named)
