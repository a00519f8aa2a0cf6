-- Cells that are written or dropped where they are.
use Rattle.std.proofs.Common.{◌≡◌, ℕ, ◌+◌, ◌<◌, Bool, true, false, cond, List, [], ◌∷◌, length, get_or, set, drop, IsSome, IsTrue, refl, sym, ap, ◌∙◌, subst, inl, inr, arith}
use Rattle.std.proofs.lemmas.Bool.{cases_eq}
use Rattle.std.proofs.lemmas.List.{drop_more, drop_all, get_or-set_same, get_or-set_other, length-set}
use Rattle.rw_sets.specs.declared.access.Access.{Access}
use Rattle.rw_sets.specs.declared.access.Access.TheVariants.{Read}
use Rattle.rw_sets.specs.Accesses.{Accesses, IsAscending, access_at, is_write, writes}
use Rattle.rw_sets.specs.AccessLaws.{has_from_writes, ascending_first, ascending_drop}
use Rattle.cell_store.specs.declared.cell.Cell.{Cell}
use Rattle.cell_store.specs.declared.cell.Cell.TheVariants.{Home, Out}
use Rattle.cell_store.specs.Home.{IsHome}
use Rattle.cell_store.specs.Part.{Part}
use Rattle.cell_store.specs.Cells.{cell_at, cell_in, part_of, cells_taken, cells_given, with_value, AreHome, IsPart}
use Rattle.cell_store.specs.Laws.{WritesAtHome}
use Rattle.cell_store.proofs.Locations.{writes_first, writes_other, unwritten_beyond, home_in_range, held-put_same, held-put_other, length-put_at}
use Rattle.cell_store.proofs.Parts.{length-cells_taken, length-cells_given, cell_taken, cell_given, same_cells, cell_in_part_of, is_part_of}
use Rattle.cell_store.proofs.Returns.{lookups_determine_parts, gives_back_what_was_taken}

module _ {V : Type 0} where
  set_here : (cells : List (Cell V)) (loc other : ℕ) (cell : Cell V) → loc < length cells → loc ≡ other → cell_at (set cells loc cell) other ≡ cell
  set_here cells loc other cell lt e = subst (λ l. cell_at (set cells loc cell) l ≡ cell) e (get_or-set_same cells loc cell Out lt)

  set_beside : (cells : List (Cell V)) (loc other : ℕ) (cell : Cell V) → (loc ≡ other → ⊥) → cell_at (set cells loc cell) other ≡ cell_at cells other
  set_beside cells loc other cell apart = get_or-set_other cells loc other cell Out (λ e. apart (sym e))

  either_way : (cell : Cell V) (b : Bool) → cond b cell cell ≡ cell
  either_way cell true = refl
  either_way cell false = refl

  -- a write doesn't count at locations whose cells are taken
  taken_after_write : (cells : List (Cell V)) (ps qs : Accesses) (n : ℕ) (cell : Cell V) → IsTrue (writes qs n) → ((loc : ℕ) → (n ≡ loc → ⊥) → writes ps loc ≡ writes qs loc) → (n < length cells → cond (writes ps n) Out cell ≡ Out) → cells_taken (set cells n cell) ps ≡ cells_taken cells qs
  taken_after_write cells ps qs n cell written beside here = same_cells _ _ (length-cells_taken (set cells n cell) ps ∙ length-set cells n cell ∙ sym (length-cells_taken cells qs)) (λ loc within.
      let in-cells : loc < length cells = omega (arith, length-cells_taken (set cells n cell) ps, length-set cells n cell) in
      cell_taken (set cells n cell) ps loc ∙ elim (cases_eq n loc) as (λ _. cond (writes ps loc) Out (cell_at (set cells n cell) loc) ≡ cond (writes qs loc) Out (cell_at cells loc)) [
        | inl e ↦
            let lt : n < length cells = omega arith in
            let now : cond (writes ps loc) Out (cell_at (set cells n cell) loc) ≡ Out = ap (cond (writes ps loc) Out) (set_here cells n loc cell lt e) ∙ subst (λ l. cond (writes ps l) Out cell ≡ Out) e (here lt) in
            let gone : writes qs loc ≡ true = subst (λ l. IsTrue (writes qs l)) e written in
            now ∙ sym (ap (λ b. cond b Out (cell_at cells loc)) gone)
        | inr apart ↦ rw (set_beside cells n loc cell apart, beside loc apart) refl
      ] ∙ sym (cell_taken cells qs loc))

  -- what is left to drop of a set, at place i
  pub record Dropping (cells0 : List (Cell V)) (ps : Accesses) (i : ℕ) (cells : List (Cell V)) : Type 0 where
    pub same_length : length cells ≡ length cells0
    pub left : cells_taken cells (drop i ps) ≡ cells_taken cells0 ps

  pub drop_start : (cells0 : List (Cell V)) (ps : Accesses) (cells : List (Cell V)) → cells ≡ cells0 → Dropping cells0 ps 0 cells
  drop_start cells0 ps cells e = record { same_length = ap length e; left = ap (λ now. cells_taken now ps) e }

  taken_none : (cells : List (Cell V)) → cells_taken cells [] ≡ cells
  taken_none cells = same_cells _ _ (length-cells_taken cells []) (λ loc within. cell_taken cells [] loc)

  pub drop_end : (cells0 : List (Cell V)) (ps : Accesses) (cells : List (Cell V)) (i : ℕ) → i ≡ length ps → Dropping cells0 ps i cells → cells ≡ cells_taken cells0 ps
  drop_end cells0 ps cells i e h = sym (taken_none cells) ∙ ap (cells_taken cells) (sym (drop_all i ps (omega arith))) ∙ h.left

  taken_read : (cells : List (Cell V)) (p : ℕ × Access) (ps : Accesses) → IsAscending (p ∷ ps) → is_write p.1 ≡ false → cells_taken cells ps ≡ cells_taken cells (p ∷ ps)
  taken_read cells p ps up read = same_cells _ _ (length-cells_taken cells ps ∙ sym (length-cells_taken cells (p ∷ ps))) (λ loc within.
      cell_taken cells ps loc ∙ ap (λ b. cond b Out (cell_at cells loc)) (same loc) ∙ sym (cell_taken cells (p ∷ ps) loc))
    where
      same : (loc : ℕ) → writes ps loc ≡ writes (p ∷ ps) loc
      same loc = elim (cases_eq p.0 loc) [
        | inl e ↦ subst (λ l. writes ps l ≡ false) e (unwritten_beyond p.0 ps (ascending_first _ _ up)) ∙ sym (writes_first p ps loc e ∙ read)
        | inr differs ↦ sym (writes_other p ps loc differs)
      ]

  taken_write : (cells : List (Cell V)) (p : ℕ × Access) (ps : Accesses) → is_write p.1 ≡ true → cells_taken (set cells p.0 Out) ps ≡ cells_taken cells (p ∷ ps)
  taken_write cells p ps write = taken_after_write cells ps (p ∷ ps) p.0 Out (writes_first p ps p.0 refl ∙ write) (λ loc apart. sym (writes_other p ps loc apart)) (λ lt. either_way Out (writes ps p.0))

  pub drop_read : (cells0 : List (Cell V)) (ps : Accesses) (cells : List (Cell V)) (i : ℕ) → IsAscending ps → i < length ps → is_write (get_or ps i (0, Read)).1 ≡ false → Dropping cells0 ps i cells → Dropping cells0 ps (i + 1) cells
  drop_read cells0 ps cells i up lt read h =
      let next = drop_more ps i (0, Read) lt in
      record {
        same_length = h.same_length;
        left = taken_read cells (get_or ps i (0, Read)) (drop (i + 1) ps) (subst IsAscending next (ascending_drop i ps up)) read ∙ ap (cells_taken cells) (sym next) ∙ h.left;
      }

  pub drop_write : (cells0 : List (Cell V)) (ps : Accesses) (cells : List (Cell V)) (i : ℕ) → i < length ps → is_write (get_or ps i (0, Read)).1 ≡ true → Dropping cells0 ps i cells → Dropping cells0 ps (i + 1) (set cells (get_or ps i (0, Read)).0 Out)
  drop_write cells0 ps cells i lt write h =
      let next = drop_more ps i (0, Read) lt in
      record {
        same_length = length-set cells (get_or ps i (0, Read)).0 Out ∙ h.same_length;
        left = taken_write cells (get_or ps i (0, Read)) (drop (i + 1) ps) write ∙ ap (cells_taken cells) (sym next) ∙ h.left;
      }

  -- a write where the cells are
  written_given : (cells : List (Cell V)) (part : Part V) (loc : ℕ) (value : V) → IsPart part → IsTrue (writes part.set loc) → set (cells_given cells part) loc (Home value) ≡ cells_given cells (with_value part loc value)
  written_given cells part loc value whole written = same_cells _ _ (length-set (cells_given cells part) loc (Home value) ∙ length-cells_given cells part ∙ sym (length-cells_given cells (with_value part loc value))) (λ other within.
      let in-cells : other < length cells = omega (arith, length-set (cells_given cells part) loc (Home value), length-cells_given cells part) in
      elim (cases_eq loc other) as (λ _. cell_at (set (cells_given cells part) loc (Home value)) other ≡ cond (writes part.set other) (cell_in (with_value part loc value) other) (cell_at cells other)) [
        | inl e ↦
            let lt : loc < length (cells_given cells part) = omega (arith, length-cells_given cells part) in
            let wrote : writes part.set other ≡ true = subst (λ l. IsTrue (writes part.set l)) e written in
            let put : cell_in (with_value part loc value) other ≡ Home value = subst (λ l. cell_in (with_value part loc value) l ≡ Home value) e (held-put_same part.set part.cells loc (Home value) whole.one_each (has_from_writes part.set loc written)) in
            set_here (cells_given cells part) loc other (Home value) lt e ∙ sym (ap (λ b. cond b (cell_in (with_value part loc value) other) (cell_at cells other)) wrote ∙ put)
        | inr apart ↦ set_beside (cells_given cells part) loc other (Home value) apart ∙ cell_given cells part other in-cells ∙ ap (λ cell. cond (writes part.set other) cell (cell_at cells other)) (sym (held-put_other part.set part.cells loc other (Home value) apart))
      ] ∙ sym (cell_given cells (with_value part loc value) other in-cells))

  part_written : (cells : List (Cell V)) (ps : Accesses) (loc : ℕ) (value : V) → IsAscending ps → loc < length cells → part_of (set cells loc (Home value)) ps ≡ with_value (part_of cells ps) loc value
  part_written cells ps loc value up lt = sym (lookups_determine_parts before after is_part (is_part_of (set cells loc (Home value)) ps up) refl (λ other has. elim (cases_eq loc other) as (λ _. cell_in before other ≡ cell_in after other) [
    | inl e ↦
        let put = held-put_same ps (part_of cells ps).cells loc (Home value) (is_part_of cells ps up).one_each (subst (λ l. IsSome (access_at ps l)) (sym e) has) in
        subst (λ l. cell_in before l ≡ Home value) e put ∙ sym (cell_in_part_of (set cells loc (Home value)) ps other has ∙ set_here cells loc other (Home value) lt e)
    | inr apart ↦ held-put_other ps (part_of cells ps).cells loc other (Home value) apart ∙ cell_in_part_of cells ps other has ∙ sym (cell_in_part_of (set cells loc (Home value)) ps other has ∙ set_beside cells loc other (Home value) apart)
  ]))
    where
      before : Part V
      before = with_value (part_of cells ps) loc value

      after : Part V
      after = part_of (set cells loc (Home value)) ps

      is_part : IsPart before
      is_part = record { ascending = up; one_each = length-put_at ps (part_of cells ps).cells loc (Home value) ∙ (is_part_of cells ps up).one_each }

  home_after_write : (cells : List (Cell V)) (ps : Accesses) (loc : ℕ) (value : V) → AreHome cells ps → AreHome (set cells loc (Home value)) ps
  home_after_write cells ps loc value home other has = elim (cases_eq loc other) [
    | inl e ↦
        let within = home_in_range cells other (home other has) in
        subst IsHome (sym (set_here cells loc other (Home value) (omega arith) e)) tt
    | inr apart ↦ subst IsHome (sym (set_beside cells loc other (Home value) apart)) (home other has)
  ]

  pub writes_at_home : WritesAtHome V
  writes_at_home = record {
    given = written_given;
    taken_and_given = λ cells ps loc value up home written. ap (λ now. set now loc (Home value)) (sym (gives_back_what_was_taken cells ps home)) ∙ written_given (cells_taken cells ps) (part_of cells ps) loc value (is_part_of cells ps up) written;
    part = part_written;
    taken = λ cells ps loc value written. taken_after_write cells ps ps loc (Home value) written (λ other apart. refl) (λ lt. ap (λ b. cond b Out (Home value)) written);
    home = home_after_write;
  }
