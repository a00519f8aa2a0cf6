-- What the cells have at a location after a part is taken or given, and what such parts are.
use Rattle.std.proofs.Common.{◌≡◌, ℕ, zero, suc, ◌+◌, ◌<◌, Bool, true, false, cond, List, [], ◌∷◌, length, map, Option, Some, None, IsSome, IsTrue, refl, sym, ap, ◌∙◌, subst, inl, inr, arith}
use Rattle.std.proofs.lemmas.Bool.{cases_lt, cases_eq, cases_Bool, false≢true}
use Rattle.std.proofs.lemmas.List.{get_or_past, ext_get_or, length-map}
use Rattle.rw_sets.specs.declared.access.Access.{Access}
use Rattle.rw_sets.specs.declared.access.Access.TheVariants.{Read, Write}
use Rattle.rw_sets.specs.Accesses.{Accesses, IsAscending, access_at, allows_write, writes}
use Rattle.rw_sets.specs.AccessLaws.{access_first, has_from_writes, has_later}
use Rattle.cell_store.specs.declared.cell.Cell.{Cell}
use Rattle.cell_store.specs.declared.cell.Cell.TheVariants.{Home, Out}
use Rattle.cell_store.specs.Home.{IsHome}
use Rattle.cell_store.specs.Part.{Part}
use Rattle.cell_store.specs.Cells.{cell_at, held_at, cell_in, part_of, each_from, cells_taken, cells_given, with_written, with_value, read_copy, shell_of, bundle_of, IsPart, IsBundle, IsShell, AreHome, AreWrittenHome, AreWrittenOut}
use Rattle.cell_store.proofs.Locations.{home_in_range, held_map, held-with_written, length-with_written, held-put_same, held-put_other, length-put_at, with_written_same}

module _ {V : Type 0} where
  pub length-each_from : (f : ℕ → Cell V → Cell V) (n : ℕ) (cells : List (Cell V)) → length (each_from f n cells) ≡ length cells
  length-each_from f n [] = refl
  length-each_from f n (c ∷ cs) = ap suc (length-each_from f (suc n) cs)

  each_from_at : (f : ℕ → Cell V → Cell V) (n : ℕ) (cells : List (Cell V)) (i m : ℕ) → i < length cells → n + i ≡ m → cell_at (each_from f n cells) i ≡ f m (cell_at cells i)
  each_from_at f n [] i m lt e = absurd (omega arith)
  each_from_at f n (c ∷ cs) zero m lt e = let same : n ≡ m = omega arith in ap (λ k. f k c) same
  each_from_at f n (c ∷ cs) (suc i) m lt e = each_from_at f (suc n) cs i m (omega arith) (omega arith)

  each_from_same : (f g : ℕ → Cell V → Cell V) (n : ℕ) (cells : List (Cell V)) → ((loc : ℕ) (c : Cell V) → f loc c ≡ g loc c) → each_from f n cells ≡ each_from g n cells
  each_from_same f g n [] same = refl
  each_from_same f g n (c ∷ cs) same =
      let first = same n c in
      let rest = each_from_same f g (suc n) cs same in
      cc

  pub length-cells_taken : (cells : List (Cell V)) (ps : Accesses) → length (cells_taken cells ps) ≡ length cells
  length-cells_taken cells ps = length-each_from (λ loc cell. cond (writes ps loc) Out cell) 0 cells

  pub length-cells_given : (cells : List (Cell V)) (part : Part V) → length (cells_given cells part) ≡ length cells
  length-cells_given cells part = length-each_from (λ loc cell. cond (writes part.set loc) (cell_in part loc) cell) 0 cells

  -- by location
  pub cell_taken : (cells : List (Cell V)) (ps : Accesses) (loc : ℕ) → cell_at (cells_taken cells ps) loc ≡ cond (writes ps loc) Out (cell_at cells loc)
  cell_taken cells ps loc = elim (cases_lt loc (length cells)) [
    | inl within ↦ each_from_at (λ loc cell. cond (writes ps loc) Out cell) 0 cells loc loc within (omega arith)
    | inr past ↦
        let here : cell_at cells loc ≡ Out = get_or_past cells loc Out past in
        let after : cell_at (cells_taken cells ps) loc ≡ Out = get_or_past (cells_taken cells ps) loc Out (omega (arith, length-cells_taken cells ps)) in
        rw (after, here) (sym (either_way Out (writes ps loc)))
  ]
    where
      either_way : (cell : Cell V) (b : Bool) → cond b cell cell ≡ cell
      either_way cell true = refl
      either_way cell false = refl

  pub cell_given : (cells : List (Cell V)) (part : Part V) (loc : ℕ) → loc < length cells → cell_at (cells_given cells part) loc ≡ cond (writes part.set loc) (cell_in part loc) (cell_at cells loc)
  cell_given cells part loc lt = each_from_at (λ loc cell. cond (writes part.set loc) (cell_in part loc) cell) 0 cells loc loc lt (omega arith)

  -- cells with the same look-up are one
  pub same_cells : (xs ys : List (Cell V)) → length xs ≡ length ys → ((loc : ℕ) → loc < length xs → cell_at xs loc ≡ cell_at ys loc) → xs ≡ ys
  same_cells xs ys e same = ext_get_or Out xs ys e same

  -- giving a part that writes nothing but emptied cells takes those cells
  pub given_empty : (cells : List (Cell V)) (part : Part V) → ((loc : ℕ) → IsTrue (writes part.set loc) → cell_in part loc ≡ Out) → cells_given cells part ≡ cells_taken cells part.set
  given_empty cells part empty = each_from_same _ _ 0 cells (λ loc c. by_test (writes part.set loc) (empty loc) c)
    where
      by_test : {x : Cell V} (b : Bool) → (b ≡ true → x ≡ Out) → (c : Cell V) → cond b x c ≡ cond b Out c
      by_test true h c = h refl
      by_test false h c = refl

  -- what is copied before the written cells are moved
  pub read_copy_empty : (cells : List (Cell V)) (ps : Accesses) (loc : ℕ) → IsTrue (writes ps loc) → held_at ps (map (read_copy cells) ps) loc ≡ Out
  read_copy_empty cells ps loc written = by_access (access_at ps loc) refl written
    where
      by_access : (x : Option Access) → access_at ps loc ≡ x → IsTrue (allows_write x) → held_at ps (map (read_copy cells) ps) loc ≡ Out
      by_access None e h = absurd (false≢true h)
      by_access (Some Read) e h = absurd (false≢true h)
      by_access (Some Write) e h = held_map (read_copy cells) ps loc Write e

  -- and with the written cells moved in it is the part
  pub with_written-read_copies : (cells : List (Cell V)) (ps : Accesses) → with_written (cell_at cells) ps (map (read_copy cells) ps) ≡ map (λ (p : ℕ × Access). cell_at cells p.0) ps
  with_written-read_copies cells [] = refl
  with_written-read_copies cells ((n, Read) ∷ ps) = ap (λ rest. cell_at cells n ∷ rest) (with_written-read_copies cells ps)
  with_written-read_copies cells ((n, Write) ∷ ps) = ap (λ rest. cell_at cells n ∷ rest) (with_written-read_copies cells ps)

  -- a part has the cells of its locations
  pub cell_in_part_of : (cells : List (Cell V)) (ps : Accesses) (loc : ℕ) → IsSome (access_at ps loc) → cell_in (part_of cells ps) loc ≡ cell_at cells loc
  cell_in_part_of cells ps loc has = by_access (access_at ps loc) refl has
    where
      by_access : (x : Option Access) → access_at ps loc ≡ x → IsSome x → cell_in (part_of cells ps) loc ≡ cell_at cells loc
      by_access None e h = absurd (false≢true h)
      by_access (Some x) e h = held_map (λ p. cell_at cells p.0) ps loc x e

  -- parts of cells that are the same at the locations of a set
  pub same_parts : (cells others : List (Cell V)) (ps : Accesses) → ((loc : ℕ) → IsSome (access_at ps loc) → cell_at cells loc ≡ cell_at others loc) → part_of cells ps ≡ part_of others ps
  same_parts cells others ps same = ap (λ held. record { set = ps; cells = held }) (each ps same)
    where
      each : (qs : Accesses) → ((loc : ℕ) → IsSome (access_at qs loc) → cell_at cells loc ≡ cell_at others loc) → map (λ (p : ℕ × Access). cell_at cells p.0) qs ≡ map (λ (p : ℕ × Access). cell_at others p.0) qs
      each [] same = refl
      each (p ∷ ps) same =
          let first : cell_at cells p.0 ≡ cell_at others p.0 = same p.0 (rw (access_first p ps p.0 refl) refl) in
          let rest = each ps (λ loc has. same loc (has_later p ps loc has)) in
          cc

  pub is_part_of : (cells : List (Cell V)) (ps : Accesses) → IsAscending ps → IsPart (part_of cells ps)
  is_part_of cells ps up = record { ascending = up; one_each = length-map ps (λ (p : ℕ × Access). cell_at cells p.0) }

  pub is_bundle_part_of : (cells : List (Cell V)) (ps : Accesses) → IsAscending ps → AreHome cells ps → IsBundle (part_of cells ps)
  is_bundle_part_of cells ps up home = record {
    is_part = is_part_of cells ps up;
    full = λ loc has. subst IsHome (sym (cell_in_part_of cells ps loc has)) (home loc has);
  }

  -- a bundle keeps its shape under a write of one value
  pub is_bundle_with_value : (part : Part V) (loc : ℕ) (value : V) → IsBundle part → IsSome (access_at part.set loc) → IsBundle (with_value part loc value)
  is_bundle_with_value part loc value h has = record {
    is_part = record { ascending = h.is_part.ascending; one_each = length-put_at part.set part.cells loc (Home value) ∙ h.is_part.one_each };
    full = λ other has-other. elim (cases_eq loc other) [
      | inl e ↦ subst (λ l. IsHome (cell_in (with_value part loc value) l)) e (subst IsHome (sym (held-put_same part.set part.cells loc (Home value) h.is_part.one_each has)) tt)
      | inr apart ↦ subst IsHome (sym (held-put_other part.set part.cells loc other (Home value) apart)) (h.full other has-other)
    ];
  }

  -- a rewrite of what a part writes, by location
  pub cell_in-with_written : (f : ℕ → Cell V) (part : Part V) (loc : ℕ) → IsPart part → cell_in (record part { cells = with_written f part.set part.cells }) loc ≡ cond (writes part.set loc) (f loc) (cell_in part loc)
  cell_in-with_written f part loc h = held-with_written f part.set part.cells loc h.one_each

  is_part_with_written : (f : ℕ → Cell V) (part : Part V) → IsPart part → IsPart (record part { cells = with_written f part.set part.cells })
  is_part_with_written f part h = record { ascending = h.ascending; one_each = length-with_written f part.set part.cells h.one_each }

  pub is_shell : (part : Part V) → IsBundle part → IsShell (shell_of part)
  is_shell part h = record {
    is_part = is_part_with_written (λ _. Out) part h.is_part;
    kept = λ loc has unwritten. subst IsHome (sym (cell_in-with_written (λ _. Out) part loc h.is_part ∙ ap (λ b. cond b Out (cell_in part loc)) unwritten)) (h.full loc has);
    emptied = λ loc written. cell_in-with_written (λ _. Out) part loc h.is_part ∙ ap (λ b. cond b Out (cell_in part loc)) written;
  }

  pub is_bundle_again : (cells : List (Cell V)) (part : Part V) → IsShell part → AreWrittenHome cells part.set → IsBundle (bundle_of cells part)
  is_bundle_again cells part h home = record {
    is_part = is_part_with_written (cell_at cells) part h.is_part;
    full = λ loc has. elim (cases_Bool (writes part.set loc)) [
      | inl written ↦ subst IsHome (sym (cell_in-with_written (cell_at cells) part loc h.is_part ∙ ap (λ b. cond b (cell_at cells loc) (cell_in part loc)) written)) (home loc written)
      | inr unwritten ↦ subst IsHome (sym (cell_in-with_written (cell_at cells) part loc h.is_part ∙ ap (λ b. cond b (cell_at cells loc) (cell_in part loc)) unwritten)) (h.kept loc has unwritten)
    ];
  }

  -- what a bundle leaves where its written cells were out
  pub given_leaves_shell : (cells : List (Cell V)) (part : Part V) → IsBundle part → AreWrittenOut cells part.set → with_written (cell_at cells) part.set part.cells ≡ with_written (λ _. Out) part.set part.cells
  given_leaves_shell cells part h out = with_written_same (cell_at cells) (λ _. Out) part.set part.cells h.is_part.ascending (λ loc written. (out loc written).1)

  -- the locations that are exchanged are cells
  pub out_in_range : (cells : List (Cell V)) (ps : Accesses) → AreWrittenOut cells ps → (loc : ℕ) → IsTrue (writes ps loc) → loc < length cells
  out_in_range cells ps out loc written = (out loc written).0

  pub written_in_range : (cells : List (Cell V)) (ps : Accesses) → AreWrittenHome cells ps → (loc : ℕ) → IsTrue (writes ps loc) → loc < length cells
  written_in_range cells ps home loc written = home_in_range cells loc (home loc written)

  pub written_home : (cells : List (Cell V)) (ps : Accesses) → AreHome cells ps → AreWrittenHome cells ps
  written_home cells ps home loc written = home loc (has_from_writes ps loc written)

  -- after a bundle is given, its written cells are home
  pub given_leaves_home : (cells : List (Cell V)) (bundle : Part V) → IsBundle bundle → AreWrittenOut cells bundle.set → AreWrittenHome (cells_given cells bundle) bundle.set
  given_leaves_home cells bundle h out loc written = subst IsHome (sym (cell_given cells bundle loc (out loc written).0 ∙ ap (λ b. cond b (cell_in bundle loc) (cell_at cells loc)) written)) (h.full loc (has_from_writes bundle.set loc written))

  -- after a part is taken, its written cells are out
  pub written_taken_out : (cells : List (Cell V)) (ps : Accesses) → AreWrittenHome cells ps → AreWrittenOut (cells_taken cells ps) ps
  written_taken_out cells ps home loc written =
      let within = written_in_range cells ps home loc written in
      (omega (arith, length-cells_taken cells ps), cell_taken cells ps loc ∙ ap (λ b. cond b Out (cell_at cells loc)) written)

  pub taken_leaves_out : (cells : List (Cell V)) (ps : Accesses) → AreHome cells ps → AreWrittenOut (cells_taken cells ps) ps
  taken_leaves_out cells ps home = written_taken_out cells ps (written_home cells ps home)
