-- What the task of a column finds in the lines that it names.
use Rattle.std.specs.Prelude.{◌≡◌, ◌≢◌, ℕ, suc, ◌+◌, ◌-◌, ◌*◌, ◌<◌, ◌≤◌, true, not, ◌==◌, List, [], ◌∷◌, length, filter, Option, Some, IsSome, refl}
use Rattle.std.specs.List.{AllByRecursion}
use Rattle.std.specs.Ordering.{nat_cmp}
use Rattle.std.proofs.Common.{arith, sym, ap, ◌∙◌, subst}
use Rattle.std.proofs.lemmas.Bool.{eq-eqb, true≢false}
use Rattle.rw_sets.specs.Accesses.{Accesses, access_at}
use Rattle.rw_sets.specs.declared.access.Access.TheVariants.{Write}
use Rattle.cell_store.specs.declared.cell.Cell.{Cell}
use Rattle.cell_store.specs.Home.{IsHome}
use Rattle.cell_store.specs.Part.{Part}
use Rattle.cell_store.specs.Cells.{AreHome, cell_at, cell_in, part_of}
use Rattle.cell_store.specs.Values.{homes}
use Rattle.cell_store.specs.Laws.{PartsByLocation, HomesByLocation}
use Rattle.mtx_reader.specs.Ascending.{IsIn, all_in, all_from_in, from_map, from_filter, ascending_filter}
use Rattle.mtx_reader.specs.Patterns.{most_rows, most_columns}
use Rattle.gf2_eliminate.specs.declared.line.Line2.{Line2}
use Rattle.gf2_eliminate.specs.declared.line.Line2.TheVariants.{Row, Col}
use Rattle.gf2_eliminate.specs.Lines.{no_line, numbers_in, is_used, has, line_at, holds, AreLines, IsListTo, IsRow, IsColumn}
use Rattle.gf2_eliminate.specs.Elimination.{first_of, set_of, shown}
use Rattle.gf2_eliminate.specs.Ones.{least_words}
use Rattle.gf2_eliminate.specs.Plans.{line_in, line_at_home, locations, pivot_among, without, HasRow, CanTake, AreHeld, AreLists}
use Rattle.gf2_eliminate.specs.Membership.{filter_same, first_found, has_in}
use Rattle.gf2_eliminate.specs.Lawful.{IsNamed, OfRow, OfItself, OfColumn, number_within, some_from_named, written_from_named, named_from_some}

pub row_list : (columns : ℕ) (line : Line2) → IsRow columns line → IsListTo columns (numbers_in line)
row_list columns (Row numbers used) row = row
row_list columns (Col numbers) row = absurd row

pub column_list : (rows : ℕ) (line : Line2) → IsColumn rows line → IsListTo rows (numbers_in line)
column_list rows (Row numbers used) column = absurd column
column_list rows (Col numbers) column = column

-- what has a number isn't empty
some_has : (numbers : List ℕ) (number : ℕ) → has numbers number ≡ true → 0 < length numbers
some_has [] number there = absurd (true≢false (sym there))
some_has (first ∷ numbers) number there = omega arith

-- the rows of a column, counted from 1
abbrev pub holders_of : ℕ → ℕ → List Line2 → List ℕ
holders_of rows column lines = numbers_in (line_at lines (rows + column))

module _ {rows columns column : ℕ} {lines : List Line2} (fit : AreLines rows columns lines) (within : column < columns) where
  pub holder : (number : ℕ) → IsIn (holders_of rows column lines) number → (1 ≤ number) × (number - 1 < rows) × (holds lines (number - 1) column ≡ true)
  holder number there =
      let in-range = number_within (line_at lines (rows + column)) number (fit.each_column column within) there in
      let same : suc (number - 1) ≡ number = omega (arith, in-range.0) in
      let below : number - 1 < rows = omega (arith, in-range.0, in-range.1) in
      (in-range.0, below, fit.agree (number - 1) column below within ∙ ap (has (holders_of rows column lines)) same ∙ has_in (holders_of rows column lines) number there)

  pub holder_at : (loc : ℕ) → IsIn (locations (holders_of rows column lines)) loc → (loc < rows) × (holds lines loc column ≡ true)
  holder_at loc there =
      let found = from_map (λ row. row - 1) (holders_of rows column lines) loc there in
      let is = holder found.0 found.1 in
      (subst (λ l. l < rows) found.2 is.1, subst (λ l. holds lines l column ≡ true) found.2 is.2)

  pub others_list : (pivot : ℕ) → IsListTo rows (without pivot (holders_of rows column lines))
  others_list pivot =
      let list = column_list rows (line_at lines (rows + column)) (fit.each_column column within) in
      record {
        ascending = ascending_filter nat_cmp (λ row. not (row == suc pivot)) (holders_of rows column lines) list.ascending;
        within = all_from_in (λ n. (1 ≤ n) × (n ≤ rows)) (without pivot (holders_of rows column lines)) (λ n there.
            all_in (λ m. (1 ≤ m) × (m ≤ rows)) (holders_of rows column lines) n list.within (from_filter (λ row. not (row == suc pivot)) (holders_of rows column lines) n there).0);
      }

  -- another row than the pivot
  pub other_row : (pivot number : ℕ) → IsIn (without pivot (holders_of rows column lines)) number → (1 ≤ number) × (number - 1 < rows) × (holds lines (number - 1) column ≡ true) × (number - 1 ≢ pivot)
  other_row pivot number there =
      let found = from_filter (λ row. not (row == suc pivot)) (holders_of rows column lines) number there in
      let is = holder number found.0 in
      (is.0, is.1, is.2, λ same. true≢false (sym found.1 ∙ ap not (eq-eqb number (suc pivot) (omega (arith, same, is.0)))))

  module _ (pivot : ℕ) (is-pivot : pivot_among (line_at lines) (holders_of rows column lines) ≡ Some pivot) where
    pub pivot_is : (pivot < rows) × (holds lines pivot column ≡ true)
    pivot_is = holder_at pivot (first_found (λ loc. not (is_used (line_at lines loc))) (locations (holders_of rows column lines)) pivot is-pivot).0

    pub pivot_list : IsListTo columns (numbers_in (line_at lines pivot))
    pivot_list = row_list columns (line_at lines pivot) (fit.each_row pivot pivot_is.0)

    -- a column of the pivot
    pub added_column : (number : ℕ) → IsIn (numbers_in (line_at lines pivot)) number → (1 ≤ number) × (number - 1 < columns) × (holds lines pivot (number - 1) ≡ true)
    added_column number there =
        let in-range = all_in (λ n. (1 ≤ n) × (n ≤ columns)) (numbers_in (line_at lines pivot)) number pivot_list.within there in
        let same : suc (number - 1) ≡ number = omega (arith, in-range.0) in
        (in-range.0, omega (arith, in-range.0, in-range.1), ap (has (numbers_in (line_at lines pivot))) same ∙ has_in (numbers_in (line_at lines pivot)) number there)

    pub rows_are_lists : AreLists 0 columns (line_at lines) (without pivot (holders_of rows column lines))
    rows_are_lists = all_from_in (λ number. IsListTo columns (numbers_in (line_at lines (0 + (number - 1))))) (without pivot (holders_of rows column lines)) (λ number there.
        let is = other_row pivot number there in
        row_list columns (line_at lines (0 + (number - 1))) (fit.each_row (0 + (number - 1)) (omega (arith, is.1))))

    pub columns_are_lists : AreLists rows rows (line_at lines) (numbers_in (line_at lines pivot))
    columns_are_lists = all_from_in (λ number. IsListTo rows (numbers_in (line_at lines (rows + (number - 1))))) (numbers_in (line_at lines pivot)) (λ number there.
        let is = added_column number there in
        column_list rows (line_at lines (rows + (number - 1))) (fit.each_column (number - 1) is.1))

    other_named : (number : ℕ) → IsIn (without pivot (holders_of rows column lines)) number → IsNamed rows columns column lines (0 + (number - 1))
    other_named number there =
        let is = other_row pivot number there in
        let same : number - 1 ≡ 0 + (number - 1) = omega arith in
        subst (IsNamed rows columns column lines) same (OfRow is.1 is.2)

    column_named : (number : ℕ) → IsIn (numbers_in (line_at lines pivot)) number → IsNamed rows columns column lines (rows + (number - 1))
    column_named number there =
        let is = added_column number there in
        OfColumn (number - 1) is.1 refl (pivot, pivot_is.0, pivot_is.1, is.2)

module _ {rows columns column : ℕ} {line : ℕ → Line2} {has_line : ℕ → Type 0} {lines : List Line2} (held : AreHeld rows columns column line has_line lines) where
  pub there_named : (loc : ℕ) → IsNamed rows columns column lines loc → has_line loc
  there_named loc named = held.there loc (some_from_named rows columns column lines loc held.within named)

  pub same_named : (loc : ℕ) → IsNamed rows columns column lines loc → line loc ≡ line_at lines loc
  same_named loc named = held.same loc (some_from_named rows columns column lines loc held.within named)

  pub column_same : line (rows + column) ≡ line_at lines (rows + column)
  column_same = same_named (rows + column) (OfItself refl)

  pub has_rows : AllByRecursion (HasRow has_line) (holders_of rows column lines)
  has_rows = all_from_in (HasRow has_line) (holders_of rows column lines) (λ number there.
      let is = holder held.fit held.within number there in record { from_one = is.0; there = there_named (number - 1) (OfRow is.1 is.2) })

  pub pivot_among_same : pivot_among line (holders_of rows column lines) ≡ pivot_among (line_at lines) (holders_of rows column lines)
  pivot_among_same = ap first_of (filter_same (λ loc. not (is_used (line loc))) (λ loc. not (is_used (line_at lines loc))) (locations (holders_of rows column lines))
      (λ loc there. let is = holder_at held.fit held.within loc there in ap (λ l. not (is_used l)) (same_named loc (OfRow is.0 is.1))))

  -- what was read of the column
  module _ (found : List ℕ) (is : found ≡ numbers_in (line (rows + column))) where
    pub holders_read : found ≡ holders_of rows column lines
    holders_read = is ∙ ap numbers_in column_same

    pub pivot_read : (pivot : Option ℕ) → pivot ≡ pivot_among line found → pivot_among (line_at lines) (holders_of rows column lines) ≡ pivot
    pivot_read pivot among = sym pivot_among_same ∙ ap (pivot_among line) (sym holders_read) ∙ sym among

    pub others_read : (pivot : ℕ) (others : List ℕ) → others ≡ filter (λ other. not (other == pivot + 1)) found → others ≡ without pivot (holders_of rows column lines)
    others_read pivot others are =
        let next : pivot + 1 ≡ suc pivot = omega arith in
        are ∙ ap (λ p. filter (λ other. not (other == p)) found) next ∙ ap (without pivot) holders_read

  module _ (pivot : ℕ) (is-pivot : pivot_among (line_at lines) (holders_of rows column lines) ≡ Some pivot) where
    pub pivot_there : has_line pivot
    pivot_there = let is = pivot_is held.fit held.within pivot is-pivot in there_named pivot (OfRow is.0 is.1)

    pub pivot_same : line pivot ≡ line_at lines pivot
    pivot_same = let is = pivot_is held.fit held.within pivot is-pivot in same_named pivot (OfRow is.0 is.1)

    pub rows_same : (number : ℕ) → IsIn (without pivot (holders_of rows column lines)) number → line (0 + (number - 1)) ≡ line_at lines (0 + (number - 1))
    rows_same number there = same_named (0 + (number - 1)) (other_named held.fit held.within pivot is-pivot number there)

    pub columns_same : (number : ℕ) → IsIn (numbers_in (line_at lines pivot)) number → line (rows + (number - 1)) ≡ line_at lines (rows + (number - 1))
    columns_same number there = same_named (rows + (number - 1)) (column_named held.fit held.within pivot is-pivot number there)

    pub rows_ready : AllByRecursion (CanTake 0 line has_line) (without pivot (holders_of rows column lines))
    rows_ready = all_from_in (CanTake 0 line has_line) (without pivot (holders_of rows column lines)) (λ number there.
        let is = other_row held.fit held.within pivot number there in
        let same : number - 1 ≡ 0 + (number - 1) = omega arith in
        record {
          from_one = is.0;
          fits = omega (arith, is.0, is.1, held.few_rows);
          there = there_named (0 + (number - 1)) (other_named held.fit held.within pivot is-pivot number there);
          some = subst (λ l. 0 < length (numbers_in l)) (sym (rows_same number there))
              (some_has (numbers_in (line_at lines (0 + (number - 1)))) (suc column) (subst (λ n. holds lines n column ≡ true) same is.2));
        })

    pub columns_ready : AllByRecursion (CanTake rows line has_line) (numbers_in (line_at lines pivot))
    columns_ready = all_from_in (CanTake rows line has_line) (numbers_in (line_at lines pivot)) (λ number there.
        let is = added_column held.fit held.within pivot is-pivot number there in
        let pivot-is = pivot_is held.fit held.within pivot is-pivot in
        record {
          from_one = is.0;
          fits = omega (arith, is.0, is.1, held.few_rows, held.few_columns);
          there = there_named (rows + (number - 1)) (column_named held.fit held.within pivot is-pivot number there);
          some = subst (λ l. 0 < length (numbers_in l)) (sym (columns_same number there))
              (some_has (numbers_in (line_at lines (rows + (number - 1)))) (suc pivot) (sym (held.fit.agree pivot (number - 1) pivot-is.0 is.1) ∙ is.2));
        })

-- places of a line have room in every set with a place
pub short_list : (bound : ℕ) (numbers : List ℕ) → bound ≤ most_rows → IsListTo bound numbers → AllByRecursion (λ place. place < 64 * least_words) numbers
short_list bound numbers few list = all_from_in (λ place. place < 64 * least_words) numbers (λ number there.
    let in-range = all_in (λ n. (1 ≤ n) × (n ≤ bound)) numbers number list.within there in omega (arith, in-range.1, few))

-- in a bundle, and among cells that are home
module _ {rows columns column : ℕ} {lines : List Line2} (parts : PartsByLocation Line2) (values : HomesByLocation Line2) (few-rows : rows ≤ most_rows) (few-columns : columns ≤ most_columns) (within : column < columns)
    (fit : AreLines rows columns lines) where
  part_is : (loc : ℕ) → IsSome (access_at (set_of rows columns column lines) loc) → shown (cell_in (part_of (homes lines) (set_of rows columns column lines)) loc) ≡ line_at lines loc
  part_is loc named =
      let below = (named_from_some rows columns column lines loc named).0 in
      ap shown (parts.each (homes lines) (set_of rows columns column lines) loc named ∙ values.in_range lines loc no_line (omega (arith, below, fit.count)))

  pub held_in_bundle : (bundle : Part Line2) → bundle ≡ part_of (homes lines) (set_of rows columns column lines) → AreHeld rows columns column (line_in bundle) (λ loc. access_at bundle.set loc ≡ Some Write) lines
  held_in_bundle bundle is = record {
    fit = fit;
    within = within;
    few_rows = few-rows;
    few_columns = few-columns;
    there = λ loc named. subst (λ (part : Part Line2). access_at part.set loc ≡ Some Write) (sym is) (written_from_named rows columns column lines loc within (named_from_some rows columns column lines loc named).1);
    same = λ loc named. ap (λ (part : Part Line2). shown (cell_in part loc)) is ∙ part_is loc named;
  }

  pub held_at_home : (old : List (Cell Line2)) (set : Accesses) → AreHome old set → part_of old set ≡ part_of (homes lines) (set_of rows columns column lines)
      → AreHeld rows columns column (line_at_home old) (λ loc. IsHome (cell_at old loc)) lines
  held_at_home old set home is =
      let set-is : set_of rows columns column lines ≡ set = sym (ap (λ (part : Part Line2). part.set) is) in
      record {
        fit = fit;
        within = within;
        few_rows = few-rows;
        few_columns = few-columns;
        there = λ loc named. home loc (subst (λ s. IsSome (access_at s loc)) set-is named);
        same = λ loc named. ap shown (sym (parts.each old set loc (subst (λ s. IsSome (access_at s loc)) set-is named))) ∙ ap (λ (part : Part Line2). shown (cell_in part loc)) is ∙ part_is loc named;
      }
