-- What is left to exchange at each place of a set.
use Rattle.std.proofs.Common.{◌≡◌, ℕ, zero, suc, ◌+◌, ◌<◌, ◌≤◌, Bool, true, false, IsTrue, cond, List, [], ◌∷◌, ◌++◌, length, get_or, set, take, drop, refl, sym, ap, ◌∙◌, subst, inl, inr, arith, append_assoc, append-nil}
use Rattle.std.proofs.lemmas.Bool.{cases_eq, false≢true}
use Rattle.std.proofs.lemmas.List.{drop_more, take_more_set, drop-set-lt, take_more, get_or-set_same, get_or-set_other, length-set, take_all, drop_all}
use Rattle.rw_sets.specs.declared.access.Access.{Access}
use Rattle.rw_sets.specs.declared.access.Access.TheVariants.{Read, Write}
use Rattle.rw_sets.specs.Accesses.{Accesses, AllBeyond, IsAscending, is_write, writes}
use Rattle.rw_sets.specs.AccessLaws.{ascending_drop, ascending_first}
use Rattle.cell_store.specs.declared.cell.Cell.{Cell}
use Rattle.cell_store.specs.declared.cell.Cell.TheVariants.{Out}
use Rattle.cell_store.specs.Part.{Part}
use Rattle.cell_store.specs.Cells.{cell_at, held_at, cell_in, cells_given, with_written}
use Rattle.cell_store.specs.Places.{given_at, taken_at}
use Rattle.cell_store.proofs.Locations.{writes_first, writes_other, writes_in_place, unwritten_beyond, held_first, held_other}
use Rattle.cell_store.proofs.Parts.{length-each_from, cell_given, same_cells}

reads_pair : (p : ℕ × Access) → is_write p.1 ≡ false → p ≡ (p.0, Read)
reads_pair (n, Read) h = refl
reads_pair (n, Write) h = absurd cc

writes_pair : (p : ℕ × Access) → is_write p.1 ≡ true → p ≡ (p.0, Write)
writes_pair (n, Read) h = absurd cc
writes_pair (n, Write) h = refl

module _ {V : Type 0} where
  -- the part of a set and the cells that go with it
  abbrev pub part : Accesses → List (Cell V) → Part V
  part ps held = record { set = ps; cells = held }

  length_given : (home : List (Cell V)) (p : Part V) → length (cells_given home p) ≡ length home
  length_given home p = length-each_from (λ loc cell. cond (writes p.set loc) (cell_in p loc) cell) 0 home

  given_write : (home : List (Cell V)) (n : ℕ) (ps : Accesses) (h : Cell V) (hs : List (Cell V)) → AllBeyond n ps → n < length home → cells_given home (part ((n, Write) ∷ ps) (h ∷ hs)) ≡ cells_given (set home n h) (part ps hs)
  given_write home n ps h hs beyond lt = same_cells _ _ (length_given home (part ((n, Write) ∷ ps) (h ∷ hs)) ∙ sym (length_given (set home n h) (part ps hs) ∙ length-set home n h)) (λ loc within.
      let in-home : loc < length home = omega (arith, length_given home (part ((n, Write) ∷ ps) (h ∷ hs))) in
      let in-set : loc < length (set home n h) = omega (arith, length-set home n h) in
      cell_given home (part ((n, Write) ∷ ps) (h ∷ hs)) loc in-home ∙ at loc in-home ∙ sym (cell_given (set home n h) (part ps hs) loc in-set))
    where
      at : (loc : ℕ) → loc < length home → cond (writes ((n, Write) ∷ ps) loc) (held_at ((n, Write) ∷ ps) (h ∷ hs) loc) (cell_at home loc) ≡ cond (writes ps loc) (held_at ps hs loc) (cell_at (set home n h) loc)
      at loc within = elim (cases_eq n loc) [
        | inl e ↦
            let unwritten : writes ps loc ≡ false = subst (λ l. writes ps l ≡ false) e (unwritten_beyond n ps beyond) in
            let now : cell_at (set home n h) loc ≡ h = subst (λ l. cell_at (set home n h) l ≡ h) e (get_or-set_same home n h Out lt) in
            rw (writes_first (n, Write) ps loc e, held_first (n, Write) ps h hs loc e, unwritten) (sym now)
        | inr differs ↦ rw (writes_other (n, Write) ps loc differs, held_other (n, Write) ps h hs loc differs, get_or-set_other home n loc h Out (λ e. differs (sym e))) refl
      ]

  given_read : (home : List (Cell V)) (n : ℕ) (ps : Accesses) (h : Cell V) (hs : List (Cell V)) → AllBeyond n ps → cells_given home (part ((n, Read) ∷ ps) (h ∷ hs)) ≡ cells_given home (part ps hs)
  given_read home n ps h hs beyond = same_cells _ _ (length_given home (part ((n, Read) ∷ ps) (h ∷ hs)) ∙ sym (length_given home (part ps hs))) (λ loc within.
      let in-home : loc < length home = omega (arith, length_given home (part ((n, Read) ∷ ps) (h ∷ hs))) in
      cell_given home (part ((n, Read) ∷ ps) (h ∷ hs)) loc in-home ∙ at loc ∙ sym (cell_given home (part ps hs) loc in-home))
    where
      at : (loc : ℕ) → cond (writes ((n, Read) ∷ ps) loc) (held_at ((n, Read) ∷ ps) (h ∷ hs) loc) (cell_at home loc) ≡ cond (writes ps loc) (held_at ps hs loc) (cell_at home loc)
      at loc = elim (cases_eq n loc) [
        | inl e ↦
            let unwritten : writes ps loc ≡ false = subst (λ l. writes ps l ≡ false) e (unwritten_beyond n ps beyond) in
            rw (writes_first (n, Read) ps loc e, unwritten) refl
        | inr differs ↦ rw (writes_other (n, Read) ps loc differs, held_other (n, Read) ps h hs loc differs) refl
      ]

  given_none : (home hs : List (Cell V)) → cells_given home (part [] hs) ≡ home
  given_none home hs = same_cells _ _ (length_given home (part [] hs)) (λ loc within. cell_given home (part [] hs) loc (omega (arith, length_given home (part [] hs))))

  -- a write at one location doesn't change what is read further on
  with_written_beyond : (home : List (Cell V)) (n : ℕ) (h : Cell V) (ps : Accesses) (hs : List (Cell V)) → AllBeyond n ps → with_written (cell_at (set home n h)) ps hs ≡ with_written (cell_at home) ps hs
  with_written_beyond home n h [] hs beyond = refl
  with_written_beyond home n h (p ∷ ps) [] beyond = refl
  with_written_beyond home n h ((m, Read) ∷ ps) (c ∷ cs) beyond = ap (λ rest. c ∷ rest) (with_written_beyond home n h ps cs beyond.1)
  with_written_beyond home n h ((m, Write) ∷ ps) (c ∷ cs) beyond =
      let here = get_or-set_other home n m h Out (λ e. omega (arith, beyond.0)) in
      let rest = with_written_beyond home n h ps cs beyond.1 in
      cc

  -- what is done and what is left of an exchange, at place i
  pub record Exchanging (home0 : List (Cell V)) (ps : Accesses) (held0 : List (Cell V)) (i : ℕ) (home held : List (Cell V)) : Type 0 where
    pub same_length : length home ≡ length home0
    pub one_each : length held ≡ length ps
    pub home_left : cells_given home (part (drop i ps) (drop i held)) ≡ cells_given home0 (part ps held0)
    pub held_left : take i held ++ with_written (cell_at home) (drop i ps) (drop i held) ≡ with_written (cell_at home0) ps held0

  pub exchange_start : (home : List (Cell V)) (ps : Accesses) (held : List (Cell V)) → length held ≡ length ps → Exchanging home ps held 0 home held
  exchange_start home ps held e = record { same_length = refl; one_each = e; home_left = refl; held_left = refl }

  pub exchange_end : (home0 : List (Cell V)) (ps : Accesses) (held0 home held : List (Cell V)) (i : ℕ) → i ≡ length ps → Exchanging home0 ps held0 i home held → record { home : home ≡ cells_given home0 (part ps held0); held : held ≡ with_written (cell_at home0) ps held0 }
  exchange_end home0 ps held0 home held i e h =
      let no-pairs : drop i ps ≡ [] = drop_all i ps (omega arith) in
      let all : take i held ≡ held = take_all i held (omega (arith, h.one_each)) in
      let left = rw no-pairs at h.home_left in
      let done = rw (no-pairs, all, append-nil) at h.held_left in
      record { home = sym (given_none home (drop i held)) ∙ left; held = done }

  pub exchange_read : (home0 : List (Cell V)) (ps : Accesses) (held0 home held : List (Cell V)) (i : ℕ) → IsAscending ps → i < length ps → is_write (get_or ps i (0, Read)).1 ≡ false → Exchanging home0 ps held0 i home held → Exchanging home0 ps held0 (i + 1) home held
  exchange_read home0 ps held0 home held i up lt read h =
      let n = (get_or ps i (0, Read)).0 in
      let pairs : drop i ps ≡ (n, Read) ∷ drop (i + 1) ps = drop_more ps i (0, Read) lt ∙ ap (λ p. p ∷ drop (i + 1) ps) (reads_pair (get_or ps i (0, Read)) read) in
      let cell = get_or held i Out in
      let cells : drop i held ≡ cell ∷ drop (i + 1) held = drop_more held i Out (omega (arith, h.one_each)) in
      let up-left : IsAscending ((n, Read) ∷ drop (i + 1) ps) = rw pairs at (ascending_drop i ps up) in
      let left = rw (pairs, cells) at h.home_left in
      let done = rw (pairs, cells) at h.held_left in
      record {
        same_length = h.same_length;
        one_each = h.one_each;
        home_left = sym (given_read home n (drop (i + 1) ps) cell (drop (i + 1) held) (ascending_first _ _ up-left)) ∙ left;
        held_left = rw (take_more held i Out (omega (arith, h.one_each)), append_assoc) done;
      }

  pub exchange_write : (home0 : List (Cell V)) (ps : Accesses) (held0 home held : List (Cell V)) (i : ℕ) → IsAscending ps → i < length ps → is_write (get_or ps i (0, Read)).1 ≡ true → (get_or ps i (0, Read)).0 < length home → Exchanging home0 ps held0 i home held → Exchanging home0 ps held0 (i + 1) (set home (get_or ps i (0, Read)).0 (get_or held i Out)) (set held i (cell_at home (get_or ps i (0, Read)).0))
  exchange_write home0 ps held0 home held i up lt written within h =
      let n = (get_or ps i (0, Read)).0 in
      let pairs : drop i ps ≡ (n, Write) ∷ drop (i + 1) ps = drop_more ps i (0, Read) lt ∙ ap (λ p. p ∷ drop (i + 1) ps) (writes_pair (get_or ps i (0, Read)) written) in
      let cell = get_or held i Out in
      let in-held : i < length held = omega (arith, h.one_each) in
      let cells : drop i held ≡ cell ∷ drop (i + 1) held = drop_more held i Out in-held in
      let up-left : IsAscending ((n, Write) ∷ drop (i + 1) ps) = rw pairs at (ascending_drop i ps up) in
      let left = rw (pairs, cells) at h.home_left in
      let done = rw (pairs, cells) at h.held_left in
      record {
        same_length = length-set home n cell ∙ h.same_length;
        one_each = length-set held i (cell_at home n) ∙ h.one_each;
        home_left = rw (drop-set-lt (i + 1) held i (cell_at home n) (omega arith)) (sym (given_write home n (drop (i + 1) ps) cell (drop (i + 1) held) (ascending_first _ _ up-left) within) ∙ left);
        held_left = rw (drop-set-lt (i + 1) held i (cell_at home n) (omega arith), take_more_set held i (cell_at home n) in-held, append_assoc, with_written_beyond home n cell (drop (i + 1) ps) (drop (i + 1) held) (ascending_first _ _ up-left)) done;
      }

-- a place beyond a set isn't written
written_place : (ps : Accesses) (i : ℕ) → IsTrue (is_write (get_or ps i (0, Read)).1) → i < length ps
written_place [] i written = absurd (false≢true written)
written_place (p ∷ ps) zero written = omega arith
written_place (p ∷ ps) (suc i) written = omega (arith, written_place ps i written)

set_back : {X : Type 0} (xs : List X) (i : ℕ) (d : X) → set xs i (get_or xs i d) ≡ xs
set_back [] i d = refl
set_back (x ∷ xs) zero d = refl
set_back (x ∷ xs) (suc i) d = ap (λ rest. x ∷ rest) (set_back xs i d)

module _ {V : Type 0} (home0 : List (Cell V)) where
  abbrev AreWithin : Accesses → Type 0
  AreWithin ps = (loc : ℕ) → IsTrue (writes ps loc) → loc < length home0

  -- where a place is written, its location is one of the cells
  pub place_within : (home : List (Cell V)) (ps : Accesses) (i : ℕ) → IsAscending ps → AreWithin ps → length home ≡ length home0 → IsTrue (is_write (get_or ps i (0, Read)).1) → (get_or ps i (0, Read)).0 < length home
  place_within home ps i up within same written =
      let here = within _ (writes_in_place ps i (0, Read) up (written_place ps i written) written) in
      omega (arith, same, here)

  pub length_given_at : (home : List (Cell V)) (p : ℕ × Access) (h : Cell V) → length home ≡ length home0 → length (given_at home p h) ≡ length home0
  length_given_at home (n, Read) h e = e
  length_given_at home (n, Write) h e = length-set home n h ∙ e

  exchange_step : (ps : Accesses) (held0 home held : List (Cell V)) (i : ℕ) → IsAscending ps → AreWithin ps → i < length ps → Exchanging home0 ps held0 i home held → Exchanging home0 ps held0 (i + 1) (given_at home (get_or ps i (0, Read)) (get_or held i Out)) (set held i (taken_at home (get_or ps i (0, Read)) (get_or held i Out)))
  exchange_step ps held0 home held i up within lt h = by_access (is_write (get_or ps i (0, Read)).1) refl
    where
      by_access : (b : Bool) → is_write (get_or ps i (0, Read)).1 ≡ b → Exchanging home0 ps held0 (i + 1) (given_at home (get_or ps i (0, Read)) (get_or held i Out)) (set held i (taken_at home (get_or ps i (0, Read)) (get_or held i Out)))
      by_access false e = rw (e, set_back held i Out) (exchange_read home0 ps held0 home held i up lt e h)
      by_access true e = rw e (exchange_write home0 ps held0 home held i up lt e (place_within home ps i up within h.same_length e) h)

  -- up to four places, one after the other
  module _ (h0 h1 h2 h3 : Cell V) where
    abbrev pub first_given : Accesses → List (Cell V)
    first_given ps = given_at home0 (get_or ps 0 (0, Read)) h0

    abbrev pub second_given : Accesses → List (Cell V)
    second_given ps = given_at (first_given ps) (get_or ps 1 (0, Read)) h1

    abbrev pub third_given : Accesses → List (Cell V)
    third_given ps = given_at (second_given ps) (get_or ps 2 (0, Read)) h2

    abbrev pub fourth_given : Accesses → List (Cell V)
    fourth_given ps = given_at (third_given ps) (get_or ps 3 (0, Read)) h3

    abbrev pub few_taken : Accesses → List (Cell V)
    few_taken ps =
        taken_at home0 (get_or ps 0 (0, Read)) h0
        ∷ taken_at (first_given ps) (get_or ps 1 (0, Read)) h1
        ∷ taken_at (second_given ps) (get_or ps 2 (0, Read)) h2
        ∷ taken_at (third_given ps) (get_or ps 3 (0, Read)) h3
        ∷ []

    abbrev few_held : Accesses → List (Cell V)
    few_held ps = take (length ps) (h0 ∷ h1 ∷ h2 ∷ h3 ∷ [])

    pub exchange_few : (ps : Accesses) → length ps ≤ 4 → IsAscending ps → AreWithin ps → record { home : fourth_given ps ≡ cells_given home0 (part ps (few_held ps)); held : take (length ps) (few_taken ps) ≡ with_written (cell_at home0) ps (few_held ps) }
    exchange_few [] few up within = exchange_end home0 [] [] home0 [] 0 refl (exchange_start home0 [] [] refl)
    exchange_few (p ∷ []) few up within =
        let ps = p ∷ [] in
        let s0 = exchange_start home0 ps (few_held ps) refl in
        let s1 = exchange_step ps (few_held ps) _ _ 0 up within (omega arith) s0 in
        exchange_end home0 ps (few_held ps) _ _ 1 refl s1
    exchange_few (p ∷ q ∷ []) few up within =
        let ps = p ∷ q ∷ [] in
        let s0 = exchange_start home0 ps (few_held ps) refl in
        let s1 = exchange_step ps (few_held ps) _ _ 0 up within (omega arith) s0 in
        let s2 = exchange_step ps (few_held ps) _ _ 1 up within (omega arith) s1 in
        exchange_end home0 ps (few_held ps) _ _ 2 refl s2
    exchange_few (p ∷ q ∷ r ∷ []) few up within =
        let ps = p ∷ q ∷ r ∷ [] in
        let s0 = exchange_start home0 ps (few_held ps) refl in
        let s1 = exchange_step ps (few_held ps) _ _ 0 up within (omega arith) s0 in
        let s2 = exchange_step ps (few_held ps) _ _ 1 up within (omega arith) s1 in
        let s3 = exchange_step ps (few_held ps) _ _ 2 up within (omega arith) s2 in
        exchange_end home0 ps (few_held ps) _ _ 3 refl s3
    exchange_few (p ∷ q ∷ r ∷ s ∷ []) few up within =
        let ps = p ∷ q ∷ r ∷ s ∷ [] in
        let s0 = exchange_start home0 ps (few_held ps) refl in
        let s1 = exchange_step ps (few_held ps) _ _ 0 up within (omega arith) s0 in
        let s2 = exchange_step ps (few_held ps) _ _ 1 up within (omega arith) s1 in
        let s3 = exchange_step ps (few_held ps) _ _ 2 up within (omega arith) s2 in
        let s4 = exchange_step ps (few_held ps) _ _ 3 up within (omega arith) s3 in
        exchange_end home0 ps (few_held ps) _ _ 4 refl s4
    exchange_few (p ∷ q ∷ r ∷ s ∷ t ∷ ps) few up within = absurd (omega arith)
