-- What a look-up finds after pairs in any order were merged into a set.
use Rattle.std.proofs.Common.{◌≡◌, ◌↔◌, ◌⊎◌, ℕ, zero, suc, ◌||◌, [], ◌∷◌, Option, Some, None, IsSome, IsTrue, refl, sym, ap, ◌∙◌, subst, inl, inr, arith}
use Rattle.std.specs.List.{Contains}
use Rattle.std.specs.List.Sorted.{IsPermutation}
use Rattle.std.proofs.lemmas.Bool.{cases_eq, false≢true}
use Rattle.std.proofs.lemmas.List.Sorted.{Contains-permutation, IsPermutation-sym}
use Rattle.std.specs.Cmp.Lexicographic.{pointwise_decides}
use Rattle.std.specs.Bool.{Decides, ◌==◌}
use Rattle.std.proofs.lemmas.Bool.Decides.{Decides-like, Decides-and, Decides-eqb}
use mathlib.Core.Bool.{beq}
use Rattle.rw_sets.specs.declared.access.Access.{Access}
use Rattle.rw_sets.specs.declared.access.Access.TheVariants.{Read, Write}
use Rattle.rw_sets.specs.Accesses.{Accesses, AllBeyond, IsAscending, access_at, allows_write, writes, joined, put_access, merged, is_write, same_pair}
use Rattle.rw_sets.specs.Laws.{SameIsEqual, LookupsFindPairs, MergesWriteWhatOneDoes, PairsAreNamed, PairsAreWritten, PairsInAnyOrder, PairsByParts}
use Rattle.rw_sets.specs.AccessLaws.{ascending_first, ascending_rest, access_first, access_other, same_from_lookups}
use Rattle.rw_sets.specs.MergeLaws.{ascending_put, ascending_merged, access_put_here, access_put_other, access_merged}

pair_is : (p : ℕ × Access) (loc : ℕ) (access : Access) → p.0 ≡ loc → p.1 ≡ access → p ≡ (loc, access)
pair_is (n, x) loc access e f = ap (λ m. (m, x)) e ∙ ap (λ y. (loc, y)) f

contains_here : (p : ℕ × Access) (ps : Accesses) → Contains (p ∷ ps) p
contains_here p ps = (0, omega arith, refl)

pub contains_later : (p : ℕ × Access) (ps : Accesses) (x : ℕ × Access) → Contains ps x → Contains (p ∷ ps) x
contains_later p ps x (k, lt, e) = (suc k, omega arith, e)

contains_cases : (p : ℕ × Access) (ps : Accesses) (x : ℕ × Access) → Contains (p ∷ ps) x → (p ≡ x) ⊎ Contains ps x
contains_cases p ps x (zero, lt, e) = inl e
contains_cases p ps x (suc k, lt, e) = inr (k, omega arith, e)

-- no pair of a list beyond a location has it
not_beyond : (loc n : ℕ) (access : Access) (ps : Accesses) → loc ≡ n → AllBeyond n ps → Contains ps (loc, access) → ⊥
not_beyond loc n access [] e beyond (k, lt, at) = omega arith
not_beyond loc n access (p ∷ ps) e beyond h = elim (contains_cases p ps (loc, access) h) [
  | inl here ↦ let same : p.0 ≡ loc = ap (λ (q : ℕ × Access). q.0) here in omega (arith, beyond.0)
  | inr later ↦ not_beyond loc n access ps e beyond.1 later
]

pub lookups_find_pairs : LookupsFindPairs
lookups_find_pairs set loc access up = (found set, listed set up)
  where
    found : (ps : Accesses) → access_at ps loc ≡ Some access → Contains ps (loc, access)
    found [] h = absurd cc
    found ((n, x) ∷ ps) h = elim (cases_eq n loc) [
      | inl e ↦
          let first = access_first (n, x) ps loc e in
          let same : x ≡ access = cc in
          subst (λ (p : ℕ × Access). Contains ((n, x) ∷ ps) p) (pair_is (n, x) loc access e same) (contains_here (n, x) ps)
      | inr differs ↦ contains_later (n, x) ps (loc, access) (found ps (sym (access_other (n, x) ps loc differs) ∙ h))
    ]

    listed : (ps : Accesses) → IsAscending ps → Contains ps (loc, access) → access_at ps loc ≡ Some access
    listed [] up h = absurd (omega arith)
    listed (p ∷ ps) up h = elim (contains_cases p ps (loc, access) h) [
      | inl here ↦ access_first p ps loc (ap (λ (q : ℕ × Access). q.0) here) ∙ ap (λ (q : ℕ × Access). Some q.1) here
      | inr later ↦ access_other p ps loc (λ e. not_beyond loc p.0 access ps (sym e) (ascending_first _ _ up) later) ∙ listed ps (ascending_rest _ _ up) later
    ]

-- what a location has after one access was put in
put_at_location : (a : Accesses) (p : ℕ × Access) (loc : ℕ) → IsAscending a → p.0 ≡ loc → access_at (put_access a p) loc ≡ joined (access_at a loc) (Some p.1)
put_at_location a p loc up e = subst (λ l. access_at (put_access a p) l ≡ joined (access_at a l) (Some p.1)) e (access_put_here a p up)

some_joined : (x : Option Access) (y : Access) → IsSome (joined x (Some y))
some_joined None y = refl
some_joined (Some x) y = refl

put_named : (a : Accesses) (p : ℕ × Access) (loc : ℕ) → IsAscending a → IsSome (access_at (put_access a p) loc) ↔ (IsSome (access_at a loc) ⊎ (p.0 ≡ loc))
put_named a p loc up = elim (cases_eq p.0 loc) as (λ _. IsSome (access_at (put_access a p) loc) ↔ (IsSome (access_at a loc) ⊎ (p.0 ≡ loc))) [
  | inl e ↦ (λ has. inr e, λ either. rw (put_at_location a p loc up e) (some_joined (access_at a loc) p.1))
  | inr differs ↦
      let same = access_put_other a p loc differs in
      (λ has. inl (rw same at has), λ either. rw same (elim either [ inl has ↦ has | inr e ↦ absurd (differs e) ]))
]

-- a joined access is Write where one of the two is
writes_joined : (x : Option Access) (y : Access) → IsTrue (allows_write (joined x (Some y))) ↔ (IsTrue (allows_write x) ⊎ (y ≡ Write))
writes_joined None Read = (λ h. absurd (false≢true h), λ either. elim either [ inl h ↦ h | inr e ↦ absurd cc ])
writes_joined None Write = (λ h. inr refl, λ either. refl)
writes_joined (Some Read) Read = (λ h. absurd (false≢true h), λ either. elim either [ inl h ↦ h | inr e ↦ absurd cc ])
writes_joined (Some Read) Write = (λ h. inr refl, λ either. refl)
writes_joined (Some Write) y = (λ h. inl refl, λ either. refl)

put_written : (a : Accesses) (p : ℕ × Access) (loc : ℕ) → IsAscending a → IsTrue (writes (put_access a p) loc) ↔ (IsTrue (writes a loc) ⊎ (p ≡ (loc, Write)))
put_written a p loc up = elim (cases_eq p.0 loc) as (λ _. IsTrue (writes (put_access a p) loc) ↔ (IsTrue (writes a loc) ⊎ (p ≡ (loc, Write)))) [
  | inl e ↦
      let here = put_at_location a p loc up e in
      let both = writes_joined (access_at a loc) p.1 in (
        λ h. elim (both.0 (rw here at h)) [ inl before ↦ inl before | inr new ↦ inr (pair_is p loc Write e new) ],
        λ either. rw here (both.1 (elim either as (λ _. IsTrue (writes a loc) ⊎ (p.1 ≡ Write)) [ inl before ↦ inl before | inr new ↦ inr (ap (λ (q : ℕ × Access). q.1) new) ])),
      )
  | inr differs ↦
      let same = access_put_other a p loc differs in
      (λ h. inl (rw same at h), λ either. rw same (elim either [ inl h ↦ h | inr new ↦ absurd (differs (ap (λ (q : ℕ × Access). q.0) new)) ]))
]

pub pairs_are_named : PairsAreNamed
pairs_are_named a pairs loc up = (to_parts a pairs up, from_parts a pairs up)
  where
    to_parts : (a pairs : Accesses) → IsAscending a → IsSome (access_at (merged a pairs) loc) → IsSome (access_at a loc) ⊎ ((access : Access) × Contains pairs (loc, access))
    to_parts a [] up h = inl h
    to_parts a (p ∷ ps) up h = elim (to_parts (put_access a p) ps (ascending_put a p up) h) [
      | inl put ↦ elim ((put_named a p loc up).0 put) [
        | inl before ↦ inl before
        | inr here ↦ inr (p.1, subst (λ (q : ℕ × Access). Contains (p ∷ ps) q) (pair_is p loc p.1 here refl) (contains_here p ps))
      ]
      | inr (access, later) ↦ inr (access, contains_later p ps (loc, access) later)
    ]

    from_parts : (a pairs : Accesses) → IsAscending a → IsSome (access_at a loc) ⊎ ((access : Access) × Contains pairs (loc, access)) → IsSome (access_at (merged a pairs) loc)
    from_parts a [] up (inl h) = h
    from_parts a [] up (inr (access, (k, lt, e))) = absurd (omega arith)
    from_parts a (p ∷ ps) up (inl h) = from_parts (put_access a p) ps (ascending_put a p up) (inl ((put_named a p loc up).1 (inl h)))
    from_parts a (p ∷ ps) up (inr (access, h)) = from_parts (put_access a p) ps (ascending_put a p up) (elim (contains_cases p ps (loc, access) h) [
      | inl here ↦ inl ((put_named a p loc up).1 (inr (ap (λ (q : ℕ × Access). q.0) here)))
      | inr later ↦ inr (access, later)
    ])

pub pairs_are_written : PairsAreWritten
pairs_are_written a pairs loc up = (to_parts a pairs up, from_parts a pairs up)
  where
    to_parts : (a pairs : Accesses) → IsAscending a → IsTrue (writes (merged a pairs) loc) → IsTrue (writes a loc) ⊎ Contains pairs (loc, Write)
    to_parts a [] up h = inl h
    to_parts a (p ∷ ps) up h = elim (to_parts (put_access a p) ps (ascending_put a p up) h) [
      | inl put ↦ elim ((put_written a p loc up).0 put) [
        | inl before ↦ inl before
        | inr here ↦ inr (subst (λ (q : ℕ × Access). Contains (p ∷ ps) q) here (contains_here p ps))
      ]
      | inr later ↦ inr (contains_later p ps (loc, Write) later)
    ]

    from_parts : (a pairs : Accesses) → IsAscending a → IsTrue (writes a loc) ⊎ Contains pairs (loc, Write) → IsTrue (writes (merged a pairs) loc)
    from_parts a [] up (inl h) = h
    from_parts a [] up (inr (k, lt, e)) = absurd (omega arith)
    from_parts a (p ∷ ps) up (inl h) = from_parts (put_access a p) ps (ascending_put a p up) (inl ((put_written a p loc up).1 (inl h)))
    from_parts a (p ∷ ps) up (inr h) = from_parts (put_access a p) ps (ascending_put a p up) (elim (contains_cases p ps (loc, Write) h) [
      | inl here ↦ inl ((put_written a p loc up).1 (inr here))
      | inr later ↦ inr later
    ])

-- an access is known by whether it is there and whether it writes
same_access : (x y : Option Access) → (IsSome x → IsSome y) → (IsSome y → IsSome x) → (IsTrue (allows_write x) → IsTrue (allows_write y)) → (IsTrue (allows_write y) → IsTrue (allows_write x)) → x ≡ y
same_access None None to back w-to w-back = refl
same_access None (Some y) to back w-to w-back = absurd (false≢true (back refl))
same_access (Some x) None to back w-to w-back = absurd (false≢true (to refl))
same_access (Some Read) (Some Read) to back w-to w-back = refl
same_access (Some Read) (Some Write) to back w-to w-back = absurd (false≢true (w-back refl))
same_access (Some Write) (Some Read) to back w-to w-back = absurd (false≢true (w-to refl))
same_access (Some Write) (Some Write) to back w-to w-back = refl

pub pairs_in_any_order : PairsInAnyOrder
pairs_in_any_order a pairs others up moved = same_from_lookups _ _ (ascending_merged a pairs up) (ascending_merged a others up) (λ loc.
    same_access _ _
    (λ h. named pairs others moved loc h) (λ h. named others pairs (IsPermutation-sym pairs others moved) loc h)
    (λ h. written pairs others moved loc h) (λ h. written others pairs (IsPermutation-sym pairs others moved) loc h))
  where
    named : (xs ys : Accesses) → IsPermutation xs ys → (loc : ℕ) → IsSome (access_at (merged a xs) loc) → IsSome (access_at (merged a ys) loc)
    named xs ys same loc h = (pairs_are_named a ys loc up).1 (elim ((pairs_are_named a xs loc up).0 h) [
      | inl before ↦ inl before
      | inr (access, listed) ↦ inr (access, Contains-permutation xs ys (loc, access) same listed)
    ])

    written : (xs ys : Accesses) → IsPermutation xs ys → (loc : ℕ) → IsTrue (writes (merged a xs) loc) → IsTrue (writes (merged a ys) loc)
    written xs ys same loc h = (pairs_are_written a ys loc up).1 (elim ((pairs_are_written a xs loc up).0 h) [
      | inl before ↦ inl before
      | inr listed ↦ inr (Contains-permutation xs ys (loc, Write) same listed)
    ])

pub pairs_by_parts : PairsByParts
pairs_by_parts a [] others = refl
pairs_by_parts a (p ∷ ps) others = pairs_by_parts (put_access a p) ps others

allows_joined : (x y : Option Access) → allows_write (joined x y) ≡ (allows_write x || allows_write y)
allows_joined None y = refl
allows_joined (Some Read) None = refl
allows_joined (Some Write) None = refl
allows_joined (Some Read) (Some y) = refl
allows_joined (Some Write) (Some y) = refl

pub merges_write_what_one_does : MergesWriteWhatOneDoes
merges_write_what_one_does a b up-a up-b loc = ap allows_write (access_merged a b up-a up-b loc) ∙ allows_joined (access_at a loc) (access_at b loc)

same_pair_decides : (p q : ℕ × Access) → Decides (same_pair p q) (p ≡ q)
same_pair_decides p q = Decides-like (same_pair p q) (λ both. to p q both.0 both.1) (λ e. (ap (λ (r : ℕ × Access). r.0) e, ap (λ (r : ℕ × Access). r.1) e)) (Decides-and (p.0 == q.0) (beq (is_write p.1) (is_write q.1)) (Decides-eqb p.0 q.0) (same_access_decides p.1 q.1))
  where
    to : (p q : ℕ × Access) → p.0 ≡ q.0 → p.1 ≡ q.1 → p ≡ q
    to p q e f = pair_is p q.0 q.1 e f

    same_access_decides : (x y : Access) → Decides (beq (is_write x) (is_write y)) (x ≡ y)
    same_access_decides Read Read = (λ h. refl, λ e. refl)
    same_access_decides Read Write = (λ h. absurd (false≢true h), λ e. absurd cc)
    same_access_decides Write Read = (λ h. absurd (false≢true h), λ e. absurd cc)
    same_access_decides Write Write = (λ h. refl, λ e. refl)

pub same_is_equal : SameIsEqual
same_is_equal a b = pointwise_decides same_pair_decides a b
