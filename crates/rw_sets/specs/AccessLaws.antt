-- What a look-up finds in ascending lists, and that it determines them.
use Rattle.std.proofs.Common.{◌≡◌, ℕ, ◌≤◌, [], ◌∷◌, Some, None, refl, sym, inl, inr, arith, zero, suc, drop, IsTrue, IsSome, Option, length, get_or, ◌<◌}
use Rattle.std.specs.List.{AllByRecursion}
use Rattle.std.specs.List.Sorted.{IsStrictlySortedBy}
use Rattle.std.specs.declared.cmp.Ordering.TheVariants.{Less}
use Rattle.std.proofs.lemmas.Cmp.{ranked}
use Rattle.std.proofs.lemmas.Bool.{cases_eq, cases_lt, cases_order, false≢true, true≢false}
use Rattle.std.proofs.lemmas.Bool.Decides.{nat_tests}
use Rattle.std.specs.Prelude.{true}
use Rattle.std.specs.Option.{is_some}
use Rattle.rw_sets.specs.declared.access.Access.{Access}
use Rattle.rw_sets.specs.Laws.{AscendingByParts}
use Rattle.rw_sets.specs.Accesses.{Accesses, by_location, AllBeyond, IsAscending, access_at, writes, allows_write, clash}
use Rattle.rw_sets.specs.Places.{location_at}
use Rattle.rw_sets.specs.declared.access.Access.TheVariants.{Read, Write}

-- an ascending list by its first pair and its rest
pub ascending_first : (p : ℕ × Access) (ps : Accesses) → IsAscending (p ∷ ps) → AllBeyond p.0 ps
unfolding IsStrictlySortedBy
ascending_first p ps up = beyond ps up.0
  where
    beyond : (qs : Accesses) → AllByRecursion (λ q. by_location p q ≡ Less) qs → AllBeyond p.0 qs
    beyond [] h = tt
    beyond (q ∷ qs) h = (ranked p.0 q.0 Less (sym h.0), beyond qs h.1)

pub ascending_rest : (p : ℕ × Access) (ps : Accesses) → IsAscending (p ∷ ps) → IsAscending ps
unfolding IsStrictlySortedBy
ascending_rest p ps up = up.1

pub ascending_none : IsAscending []
unfolding IsStrictlySortedBy
ascending_none = tt

pub ascending_cons : (p : ℕ × Access) (ps : Accesses) → AllBeyond p.0 ps → IsAscending ps → IsAscending (p ∷ ps)
unfolding IsStrictlySortedBy
ascending_cons p ps beyond up = (lower ps beyond, up)
  where
    lower : (qs : Accesses) → AllBeyond p.0 qs → AllByRecursion (λ q. by_location p q ≡ Less) qs
    lower [] h = tt
    lower (q ∷ qs) h = (grind (arith, nat_tests, h.0), lower qs h.1)

pub ascending_by_parts : AscendingByParts
ascending_by_parts loc access rest = (λ up. (ascending_first _ _ up, ascending_rest _ _ up), λ parts. ascending_cons _ _ parts.0 parts.1)

-- what is beyond a location is beyond each lower one
pub beyond_lower : (m n : ℕ) (ps : Accesses) → m ≤ n → AllBeyond n ps → AllBeyond m ps
beyond_lower m n [] le h = tt
beyond_lower m n (p ∷ ps) le h = (omega (arith, h.0), beyond_lower m n ps le h.1)

-- a list beyond a location lacks it, and each lower one
pub absent_beyond : (loc n : ℕ) (ps : Accesses) → loc ≤ n → AllBeyond n ps → access_at ps loc ≡ None
absent_beyond loc n [] le h = refl
absent_beyond loc n (p ∷ ps) le h = grind (arith, nat_tests, h.0, absent_beyond loc n ps le h.1)

-- the first location is found first
pub access_first : (p : ℕ × Access) (ps : Accesses) (loc : ℕ) → p.0 ≡ loc → access_at (p ∷ ps) loc ≡ Some p.1
access_first p ps loc same = grind (arith, nat_tests)

-- another location is found in the rest
pub access_other : (p : ℕ × Access) (ps : Accesses) (loc : ℕ) → (p.0 ≡ loc → ⊥) → access_at (p ∷ ps) loc ≡ access_at ps loc
access_other p ps loc differs = grind (arith, nat_tests)

-- a list whose look-up finds nothing up to a location is beyond it
pub beyond_from_absent : (n : ℕ) (ps : Accesses) → ((loc : ℕ) → loc ≤ n → access_at ps loc ≡ None) → IsAscending ps → AllBeyond n ps
beyond_from_absent n [] h up = tt
beyond_from_absent n (p ∷ ps) h up = elim (cases_lt n p.0) [
  | inl beyond ↦ (beyond, beyond_lower n p.0 ps (omega arith) (ascending_first _ _ up))
  | inr lower ↦ absurd (cc (access_first p ps p.0 refl, h p.0 lower))
]

-- the rests of two lists with the same look-up and the same first location
same_rests : (p q : ℕ × Access) (ps qs : Accesses) → p.0 ≡ q.0 → IsAscending (p ∷ ps) → IsAscending (q ∷ qs) → ((loc : ℕ) → access_at (p ∷ ps) loc ≡ access_at (q ∷ qs) loc) → (loc : ℕ) → access_at ps loc ≡ access_at qs loc
same_rests p q ps qs first up-p up-q same loc = elim (cases_lt p.0 loc) [
  | inl beyond ↦ cc (access_other p ps loc (λ e. omega arith), access_other q qs loc (λ e. omega arith), same loc)
  | inr lower ↦ cc (absent_beyond loc p.0 ps lower (ascending_first _ _ up-p), absent_beyond loc q.0 qs (omega arith) (ascending_first _ _ up-q))
]

-- ascending lists with the same look-up are one
pub same_from_lookups : (a b : Accesses) → IsAscending a → IsAscending b → ((loc : ℕ) → access_at a loc ≡ access_at b loc) → a ≡ b
same_from_lookups [] [] up-a up-b same = refl
same_from_lookups [] (q ∷ qs) up-a up-b same = absurd (cc (access_first q qs q.0 refl, same q.0))
same_from_lookups (p ∷ ps) [] up-a up-b same = absurd (cc (access_first p ps p.0 refl, same p.0))
same_from_lookups ((m, x) ∷ ps) ((n, y) ∷ qs) up-a up-b same = elim (cases_order m n) [
  | inl e ↦
      let rest = same_from_lookups ps qs (ascending_rest _ _ up-a) (ascending_rest _ _ up-b) (same_rests (m, x) (n, y) ps qs e up-a up-b same) in
      let found-a = access_first (m, x) ps m refl in
      let found-b = access_first (n, y) qs m (sym e) in
      let here = same m in
      cc
  | inr (inl below) ↦ absurd (cc (access_first (m, x) ps m refl, same m, absent_beyond m n qs (omega arith) (ascending_first _ _ up-b), access_other (n, y) qs m (λ e. omega arith)))
  | inr (inr above) ↦ absurd (cc (access_first (n, y) qs n refl, same n, absent_beyond n m ps (omega arith) (ascending_first _ _ up-a), access_other (m, x) ps n (λ e. omega arith)))
]

-- the rest of an ascending list
pub ascending_drop : (i : ℕ) (ps : Accesses) → IsAscending ps → IsAscending (drop i ps)
ascending_drop zero ps up = up
ascending_drop (suc i) [] up = ascending_none
ascending_drop (suc i) (p ∷ ps) up = ascending_drop i ps (ascending_rest _ _ up)

-- what is written is there
pub has_from_writes : (ps : Accesses) (loc : ℕ) → IsTrue (writes ps loc) → IsSome (access_at ps loc)
has_from_writes ps loc h = some_from (access_at ps loc) h
  where
    some_from : (x : Option Access) → IsTrue (allows_write x) → IsSome x
    some_from None k = absurd (false≢true k)
    some_from (Some x) k = refl

pub has_in_place : (ps : Accesses) (i : ℕ) (d : ℕ × Access) → i < length ps → IsSome (access_at ps (get_or ps i d).0)
has_in_place [] i d lt = absurd (omega arith)
has_in_place (p ∷ ps) zero d lt = rw (access_first p ps p.0 refl) refl
has_in_place (p ∷ ps) (suc i) d lt = elim (cases_eq p.0 (get_or ps i d).0) [
  | inl same ↦ rw (access_first p ps (get_or ps i d).0 same) refl
  | inr differs ↦ rw (access_other p ps (get_or ps i d).0 differs) (has_in_place ps i d (omega arith))
]

pub has_later : (p : ℕ × Access) (ps : Accesses) (loc : ℕ) → IsSome (access_at ps loc) → IsSome (access_at (p ∷ ps) loc)
has_later p ps loc has = elim (cases_eq p.0 loc) [
  | inl same ↦ rw (access_first p ps loc same) refl
  | inr differs ↦ rw (access_other p ps loc differs) has
]

pub location_beyond : (n : ℕ) (ps : Accesses) → AllBeyond n ps → (j : ℕ) → j < length ps → n < location_at ps j
location_beyond n [] h j lt = absurd (omega arith)
location_beyond n (p ∷ ps) h zero lt = h.0
location_beyond n (p ∷ ps) h (suc j) lt = location_beyond n ps h.1 j (omega arith)

pub some_from_writes : (x : Option Access) → allows_write x ≡ true → is_some x ≡ true
some_from_writes None writes = writes
some_from_writes (Some x) writes = refl

pub clash_where_written : (x y : Option Access) → allows_write x ≡ true → is_some y ≡ true → clash x y ≡ true
clash_where_written None y writes there = absurd (true≢false (sym writes))
clash_where_written (Some Read) y writes there = absurd (true≢false (sym writes))
clash_where_written (Some Write) None writes there = absurd (true≢false (sym there))
clash_where_written (Some Write) (Some y) writes there = refl
