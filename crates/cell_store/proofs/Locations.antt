-- What a set has at its locations, and the cells that go with them.
use Rattle.std.proofs.Common.{◌≡◌, ℕ, zero, suc, ◌<◌, true, false, eqb, cond, List, [], ◌∷◌, length, map, get_or, set, Option, Some, None, IsSome, is_some, IsTrue, refl, sym, ap, ◌∙◌, subst, inl, inr, arith}
use Rattle.std.proofs.lemmas.List.{get_or_default}
use Rattle.std.proofs.lemmas.Bool.{cases_eq, false≢true}
use Rattle.std.proofs.lemmas.Bool.Decides.{nat_tests}
use Rattle.rw_sets.specs.declared.access.Access.{Access}
use Rattle.rw_sets.specs.declared.access.Access.TheVariants.{Read, Write}
use Rattle.rw_sets.specs.Accesses.{Accesses, AllBeyond, IsAscending, access_at, is_write, allows_write, writes, covers, IsWithin}
use Rattle.rw_sets.specs.Places.{IsAt}
use Rattle.rw_sets.specs.AccessLaws.{location_beyond, access_first, access_other, ascending_first, ascending_rest}
use Rattle.cell_store.specs.declared.cell.Cell.{Cell}
use Rattle.cell_store.specs.declared.cell.Cell.TheVariants.{Out}
use Rattle.cell_store.specs.Home.{IsHome}
use Rattle.cell_store.specs.Cells.{cell_at, held_at, with_written, put_at}

pub writes_first : (p : ℕ × Access) (ps : Accesses) (loc : ℕ) → p.0 ≡ loc → writes (p ∷ ps) loc ≡ is_write p.1
writes_first p ps loc e = ap allows_write (access_first p ps loc e)

pub writes_other : (p : ℕ × Access) (ps : Accesses) (loc : ℕ) → (p.0 ≡ loc → ⊥) → writes (p ∷ ps) loc ≡ writes ps loc
writes_other p ps loc differs = ap allows_write (access_other p ps loc differs)

-- a list beyond a location lacks it
pub absent_beyond : (loc : ℕ) (ps : Accesses) → AllBeyond loc ps → access_at ps loc ≡ None
absent_beyond loc [] h = refl
absent_beyond loc (p ∷ ps) h = access_other p ps loc (λ e. omega (arith, h.0)) ∙ absent_beyond loc ps h.1

pub unwritten_beyond : (loc : ℕ) (ps : Accesses) → AllBeyond loc ps → writes ps loc ≡ false
unwritten_beyond loc ps h = ap allows_write (absent_beyond loc ps h)

-- the pair at a place is what the set has at its location
pub access_in_place : (ps : Accesses) (i : ℕ) (d : ℕ × Access) → IsAscending ps → i < length ps → access_at ps (get_or ps i d).0 ≡ Some (get_or ps i d).1
access_in_place [] i d up lt = absurd (omega arith)
access_in_place (p ∷ ps) zero d up lt = access_first p ps p.0 refl
access_in_place (p ∷ ps) (suc i) d up lt =
    let beyond = location_beyond p.0 ps (ascending_first _ _ up) i (omega arith) in
    let same : get_or ps i d ≡ get_or ps i (0, Read) = get_or_default ps i d (0, Read) (omega arith) in
    let later : p.0 < (get_or ps i d).0 = subst (λ (q : ℕ × Access). p.0 < q.0) (sym same) beyond in
    access_other p ps (get_or ps i d).0 (λ e. omega arith) ∙ access_in_place ps i d (ascending_rest _ _ up) (omega arith)

pub writes_in_place : (ps : Accesses) (i : ℕ) (d : ℕ × Access) → IsAscending ps → i < length ps → is_write (get_or ps i d).1 ≡ true → IsTrue (writes ps (get_or ps i d).0)
writes_in_place ps i d up lt e = ap allows_write (access_in_place ps i d up lt) ∙ e

-- what lies within another set is written there
pub writes_within : (a b : Accesses) → IsWithin a b → (loc : ℕ) → IsTrue (writes a loc) → IsTrue (writes b loc)
writes_within a b within loc = covered (access_at a loc) (access_at b loc) (within loc)
  where
    covered : (x y : Option Access) → IsTrue (covers x y) → IsTrue (allows_write x) → IsTrue (allows_write y)
    covered None y h written = absurd (false≢true written)
    covered (Some x) None h written = absurd (false≢true h)
    covered (Some Read) (Some y) h written = absurd (false≢true written)
    covered (Some Write) (Some Read) h written = absurd (false≢true h)
    covered (Some Write) (Some Write) h written = refl

-- what holds of each location that a set writes holds of those after the first
written_rest : {P : ℕ → Type 0} (p : ℕ × Access) (ps : Accesses) → AllBeyond p.0 ps → ((loc : ℕ) → IsTrue (writes (p ∷ ps) loc) → P loc) → (loc : ℕ) → IsTrue (writes ps loc) → P loc
written_rest p ps beyond h loc written = h loc (elim (cases_eq p.0 loc) [
  | inl same ↦ absurd (cc (unwritten_beyond p.0 ps beyond))
  | inr differs ↦ writes_other p ps loc differs ∙ written
])

module _ {V : Type 0} where
  pub held_first : (p : ℕ × Access) (ps : Accesses) (cell : Cell V) (cells : List (Cell V)) (loc : ℕ) → p.0 ≡ loc → held_at (p ∷ ps) (cell ∷ cells) loc ≡ cell
  held_first p ps cell cells loc e = grind (arith, nat_tests)

  pub held_other : (p : ℕ × Access) (ps : Accesses) (cell : Cell V) (cells : List (Cell V)) (loc : ℕ) → (p.0 ≡ loc → ⊥) → held_at (p ∷ ps) (cell ∷ cells) loc ≡ held_at ps cells loc
  held_other p ps cell cells loc differs = grind (arith, nat_tests)

  -- a cell that is home is one of the cells
  pub home_in_range : (cells : List (Cell V)) (loc : ℕ) → IsHome (cell_at cells loc) → loc < length cells
  home_in_range [] loc h = absurd h
  home_in_range (c ∷ cs) zero h = omega arith
  home_in_range (c ∷ cs) (suc loc) h = omega (arith, home_in_range cs loc h)

  -- the cell at the place of a location
  pub held_in_place : (ps : Accesses) (cells : List (Cell V)) (loc i : ℕ) → IsAscending ps → length cells ≡ length ps → IsAt ps loc i → held_at ps cells loc ≡ get_or cells i Out
  held_in_place [] cells loc i up e at = absurd (omega (arith, at.in_range))
  held_in_place (p ∷ ps) [] loc i up e at = absurd (omega arith)
  held_in_place (p ∷ ps) (c ∷ cs) loc zero up e at = held_first p ps c cs loc at.here
  held_in_place (p ∷ ps) (c ∷ cs) loc (suc i) up e at =
      let beyond = location_beyond p.0 ps (ascending_first _ _ up) i (omega (arith, at.in_range)) in
      held_other p ps c cs loc (λ same. omega (arith, at.here)) ∙ held_in_place ps cs loc i (ascending_rest _ _ up) (omega arith) (record { in_range = omega (arith, at.in_range); here = at.here })

  put_first : (p : ℕ × Access) (ps : Accesses) (c : Cell V) (cs : List (Cell V)) (loc : ℕ) (new : Cell V) → p.0 ≡ loc → put_at (p ∷ ps) (c ∷ cs) loc new ≡ new ∷ cs
  put_first p ps c cs loc new e = grind (arith, nat_tests)

  put_other : (p : ℕ × Access) (ps : Accesses) (c : Cell V) (cs : List (Cell V)) (loc : ℕ) (new : Cell V) → (p.0 ≡ loc → ⊥) → put_at (p ∷ ps) (c ∷ cs) loc new ≡ c ∷ put_at ps cs loc new
  put_other p ps c cs loc new differs = grind (arith, nat_tests)

  pub put_in_place : (ps : Accesses) (cells : List (Cell V)) (loc i : ℕ) (new : Cell V) → IsAscending ps → length cells ≡ length ps → IsAt ps loc i → put_at ps cells loc new ≡ set cells i new
  put_in_place [] cells loc i new up e at = absurd (omega (arith, at.in_range))
  put_in_place (p ∷ ps) [] loc i new up e at = absurd (omega arith)
  put_in_place (p ∷ ps) (c ∷ cs) loc zero new up e at = put_first p ps c cs loc new at.here
  put_in_place (p ∷ ps) (c ∷ cs) loc (suc i) new up e at =
      let beyond = location_beyond p.0 ps (ascending_first _ _ up) i (omega (arith, at.in_range)) in
      put_other p ps c cs loc new (λ same. omega (arith, at.here)) ∙ ap (λ rest. c ∷ rest) (put_in_place ps cs loc i new (ascending_rest _ _ up) (omega arith) (record { in_range = omega (arith, at.in_range); here = at.here }))

  -- another cell at one location, and the others as they were
  pub held-put_same : (ps : Accesses) (cells : List (Cell V)) (loc : ℕ) (new : Cell V) → length cells ≡ length ps → IsSome (access_at ps loc) → held_at ps (put_at ps cells loc new) loc ≡ new
  held-put_same [] cells loc new e h = absurd (false≢true h)
  held-put_same (p ∷ ps) [] loc new e h = absurd (omega arith)
  held-put_same (p ∷ ps) (c ∷ cs) loc new e h = elim (cases_eq p.0 loc) [
    | inl same ↦ rw (put_first p ps c cs loc new same) (held_first p ps new cs loc same)
    | inr differs ↦ rw (put_other p ps c cs loc new differs, held_other p ps c (put_at ps cs loc new) loc differs) (held-put_same ps cs loc new (omega arith) (rw (access_other p ps loc differs) at h))
  ]

  pub held-put_other : (ps : Accesses) (cells : List (Cell V)) (loc other : ℕ) (new : Cell V) → (loc ≡ other → ⊥) → held_at ps (put_at ps cells loc new) other ≡ held_at ps cells other
  held-put_other [] cells loc other new apart = refl
  held-put_other (p ∷ ps) [] loc other new apart = refl
  held-put_other (p ∷ ps) (c ∷ cs) loc other new apart = elim (cases_eq p.0 loc) [
    | inl same ↦ rw (put_first p ps c cs loc new same, held_other p ps new cs other (λ e. apart (sym same ∙ e)), held_other p ps c cs other (λ e. apart (sym same ∙ e))) refl
    | inr differs ↦ rw (put_other p ps c cs loc new differs) (ap (cond (eqb p.0 other) c) (held-put_other ps cs loc other new apart))
  ]

  pub length-put_at : (ps : Accesses) (cells : List (Cell V)) (loc : ℕ) (new : Cell V) → length (put_at ps cells loc new) ≡ length cells
  length-put_at [] cells loc new = refl
  length-put_at (p ∷ ps) [] loc new = refl
  length-put_at (p ∷ ps) (c ∷ cs) loc new = elim (cases_eq p.0 loc) [
    | inl same ↦ rw (put_first p ps c cs loc new same) refl
    | inr differs ↦ rw (put_other p ps c cs loc new differs) (ap suc (length-put_at ps cs loc new))
  ]

  -- cells that a function gives to each pair of a set
  pub held_map : (f : ℕ × Access → Cell V) (ps : Accesses) (loc : ℕ) (access : Access) → access_at ps loc ≡ Some access → held_at ps (map f ps) loc ≡ f (loc, access)
  held_map f [] loc access h = absurd cc
  held_map f ((n, x) ∷ ps) loc access h = elim (cases_eq n loc) [
    | inl same ↦ held_first (n, x) ps (f (n, x)) (map f ps) loc same ∙ cc (access_first (n, x) ps loc same)
    | inr differs ↦ held_other (n, x) ps (f (n, x)) (map f ps) loc differs ∙ held_map f ps loc access (sym (access_other (n, x) ps loc differs) ∙ h)
  ]

  -- no cell goes with a location that the set lacks
  pub held_absent : (ps : Accesses) (cells : List (Cell V)) (loc : ℕ) → access_at ps loc ≡ None → held_at ps cells loc ≡ Out
  held_absent [] cells loc h = refl
  held_absent (p ∷ ps) [] loc h = refl
  held_absent (p ∷ ps) (c ∷ cs) loc h = elim (cases_eq p.0 loc) [
    | inl same ↦ absurd (cc (access_first p ps loc same))
    | inr differs ↦ held_other p ps c cs loc differs ∙ held_absent ps cs loc (sym (access_other p ps loc differs) ∙ h)
  ]

  -- the cells after a rewrite of those that the set writes
  pub held-with_written : (f : ℕ → Cell V) (ps : Accesses) (cells : List (Cell V)) (loc : ℕ) → length cells ≡ length ps → held_at ps (with_written f ps cells) loc ≡ cond (writes ps loc) (f loc) (held_at ps cells loc)
  held-with_written f [] cells loc e = refl
  held-with_written f (p ∷ ps) [] loc e = absurd (omega arith)
  held-with_written f ((n, x) ∷ ps) (c ∷ cs) loc e = elim (cases_eq n loc) [
    | inl same ↦
        let first : held_at ((n, x) ∷ ps) (with_written f ((n, x) ∷ ps) (c ∷ cs)) loc ≡ cond (is_write x) (f n) c = held_first (n, x) ps (cond (is_write x) (f n) c) (with_written f ps cs) loc same in
        rw (first, writes_first (n, x) ps loc same, held_first (n, x) ps c cs loc same, same) refl
    | inr differs ↦ rw (held_other (n, x) ps (cond (is_write x) (f n) c) (with_written f ps cs) loc differs, writes_other (n, x) ps loc differs, held_other (n, x) ps c cs loc differs) (held-with_written f ps cs loc (omega arith))
  ]

  pub length-with_written : (f : ℕ → Cell V) (ps : Accesses) (cells : List (Cell V)) → length cells ≡ length ps → length (with_written f ps cells) ≡ length ps
  length-with_written f [] cells e = refl
  length-with_written f (p ∷ ps) [] e = absurd (omega arith)
  length-with_written f (p ∷ ps) (c ∷ cs) e = ap suc (length-with_written f ps cs (omega arith))

  -- a rewrite goes by the locations that the set writes alone
  pub with_written_same : (f g : ℕ → Cell V) (ps : Accesses) (cells : List (Cell V)) → IsAscending ps → ((loc : ℕ) → IsTrue (writes ps loc) → f loc ≡ g loc) → with_written f ps cells ≡ with_written g ps cells
  with_written_same f g [] cells up same = refl
  with_written_same f g (p ∷ ps) [] up same = refl
  with_written_same f g ((n, Read) ∷ ps) (c ∷ cs) up same = ap (λ rest. c ∷ rest) (with_written_same f g ps cs (ascending_rest _ _ up) (written_rest (n, Read) ps (ascending_first _ _ up) same))
  with_written_same f g ((n, Write) ∷ ps) (c ∷ cs) up same =
      let first = same n (writes_first (n, Write) ps n refl) in
      let rest = with_written_same f g ps cs (ascending_rest _ _ up) (written_rest (n, Write) ps (ascending_first _ _ up) same) in
      cc

  -- the cells behind the first are found in the rest
  with_written_behind : (p : ℕ × Access) (ps : Accesses) (c : Cell V) (cs : List (Cell V)) → IsAscending (p ∷ ps) → with_written (held_at (p ∷ ps) (c ∷ cs)) ps cs ≡ with_written (held_at ps cs) ps cs
  with_written_behind p ps c cs up = with_written_same (held_at (p ∷ ps) (c ∷ cs)) (held_at ps cs) ps cs (ascending_rest _ _ up) (λ loc written. held_other p ps c cs loc (λ e.
      let unwritten : writes ps loc ≡ false = subst (λ l. writes ps l ≡ false) e (unwritten_beyond p.0 ps (ascending_first _ _ up)) in
      false≢true (sym unwritten ∙ written)))

  -- a second rewrite leaves nothing of the first
  pub with_written_twice : (f g : ℕ → Cell V) (ps : Accesses) (cells : List (Cell V)) → with_written f ps (with_written g ps cells) ≡ with_written f ps cells
  with_written_twice f g [] cells = refl
  with_written_twice f g (p ∷ ps) [] = refl
  with_written_twice f g ((n, Read) ∷ ps) (c ∷ cs) = ap (λ rest. c ∷ rest) (with_written_twice f g ps cs)
  with_written_twice f g ((n, Write) ∷ ps) (c ∷ cs) = ap (λ rest. f n ∷ rest) (with_written_twice f g ps cs)

  -- a rewrite with the cells that are there changes nothing
  pub with_written_itself : (ps : Accesses) (cells : List (Cell V)) → IsAscending ps → length cells ≡ length ps → with_written (held_at ps cells) ps cells ≡ cells
  with_written_itself [] [] up e = refl
  with_written_itself [] (c ∷ cs) up e = absurd (omega arith)
  with_written_itself (p ∷ ps) [] up e = refl
  with_written_itself ((n, Read) ∷ ps) (c ∷ cs) up e = ap (λ rest. c ∷ rest) (with_written_behind (n, Read) ps c cs up ∙ with_written_itself ps cs (ascending_rest _ _ up) (omega arith))
  with_written_itself ((n, Write) ∷ ps) (c ∷ cs) up e =
      let first = held_first (n, Write) ps c cs n refl in
      let rest = with_written_behind (n, Write) ps c cs up ∙ with_written_itself ps cs (ascending_rest _ _ up) (omega arith) in
      cc

  -- cells in the order of an ascending set are known by their locations
  pub same_held : (ps : Accesses) (cells others : List (Cell V)) → IsAscending ps → length cells ≡ length ps → length others ≡ length ps → ((loc : ℕ) → IsSome (access_at ps loc) → held_at ps cells loc ≡ held_at ps others loc) → cells ≡ others
  same_held [] [] [] up e f same = refl
  same_held [] (c ∷ cs) others up e f same = absurd (omega arith)
  same_held [] [] (d ∷ ds) up e f same = absurd (omega arith)
  same_held (p ∷ ps) [] others up e f same = absurd (omega arith)
  same_held (p ∷ ps) (c ∷ cs) [] up e f same = absurd (omega arith)
  same_held (p ∷ ps) (c ∷ cs) (d ∷ ds) up e f same =
      let first = sym (held_first p ps c cs p.0 refl) ∙ same p.0 (rw (access_first p ps p.0 refl) refl) ∙ held_first p ps d ds p.0 refl in
      let rest = same_held ps cs ds (ascending_rest _ _ up) (omega arith) (omega arith) (λ loc has.
      let differs : p.0 ≡ loc → ⊥ = λ same-loc. is_beyond loc same-loc has in
      sym (held_other p ps c cs loc differs) ∙ same loc (rw (access_other p ps loc differs) has) ∙ held_other p ps d ds loc differs) in
      cc
    where
      is_beyond : (loc : ℕ) → p.0 ≡ loc → IsSome (access_at ps loc) → ⊥
      is_beyond loc same-loc has = false≢true (sym (ap is_some (subst (λ l. access_at ps l ≡ None) same-loc (absent_beyond p.0 ps (ascending_first _ _ up)))) ∙ has)
