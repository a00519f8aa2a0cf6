-- The laws of elimination.
use Rattle.std.specs.Prelude.{◌≡◌, ℕ, suc, ◌+◌, ◌-◌, ◌<◌, ◌≤◌, Bool, true, false, not, ◌&&◌, ◌||◌, ◌==◌, List, [], ◌++◌, map, filter, Option, Some, None, IsSome, IsTrue, slice_get, codes, refl}
use Rattle.std.specs.Fmt.{decimal}
use Rattle.std.specs.List.{AllByRecursion}
use Rattle.std.specs.Ordering.{nat_cmp}
use Rattle.std.proofs.Common.{◌⊎◌, inl, inr, arith, sym, ap, ◌∙◌, subst, lit<}
use Rattle.std.proofs.lemmas.Bool.{and_parts, and_from, or_cases, or_left, or_right, eqb-true, eq-eqb, ne_eqb, lt-ltb, le-ltb, cases_Bool, cases_lt, true≢false, false_from_ne_true}
use Rattle.std.proofs.lemmas.List.{get_or-map}
use Rattle.std.proofs.lemmas.Option.{slice_get-get_or, slice_get_past}
use Rattle.plain_laws.specs.Bools.{and_false, or_false}
use Rattle.rw_sets.specs.Accesses.{Accesses, IsAscending, access_at, writes, merged, Conflicts, IsWithin}
use Rattle.rw_sets.specs.declared.access.Access.TheVariants.{Write}
use Rattle.rw_sets.specs.IndependenceLaws.{within_by_members}
use Rattle.rw_sets.specs.LookupLaws.{merges_hold_both}
use Rattle.rw_sets.specs.AccessLaws.{has_from_writes}
use Rattle.cell_store.specs.declared.cell.Cell.{Cell}
use Rattle.cell_store.specs.declared.cell.Cell.TheVariants.{Home, Out}
use Rattle.cell_store.specs.Home.{IsHome}
use Rattle.cell_store.specs.Cells.{cell_at}
use Rattle.cell_store.specs.Values.{AgreesWith}
use Rattle.app_laws.specs.Applications.{AgreeOn, CellsAreCounted, SetsAreInRange, IsFitOutcome, ActsAreFit, SetsAreLocal, IsSameOutcome, ActsAreLocal, ActsIgnorePaths, ChildrenComeNoEarlier, SetsStayWithin, IsTrueAnswer, WalksAreTrue, IsSafeAlone, SafeTasksStaySafe, SafetyIgnoresPaths, PathsAreIgnored, IsLawful, tasks_before}
use Rattle.app_laws.specs.Execution.{children_from}
use Rattle.app_laws.specs.LineLaws.{ends_with_line_feed}
use Rattle.mtx_reader.specs.Ascending.{IsIn, numbers_from, all_in, in_map, from_map, in_filter, from_filter, ascending_filter, in_numbers, from_numbers, ascending_numbers}
use Rattle.gf2_eliminate.specs.declared.line.Line2.{Line2}
use Rattle.gf2_eliminate.specs.declared.line.Line2.TheVariants.{Row, Col}
use Rattle.gf2_eliminate.specs.Lines.{no_line, numbers_in, is_used, has, line_at, holds, is_held, listed, IsRow, IsColumn, AreLines}
use Rattle.gf2_eliminate.specs.Elimination.{first_of, exactly_one, writing, is_shared, is_touched, set_of, shown, is_out, unless_out, walk_from, pivot_of, holds_after, line_after, lines_after, outcome_with, eliminated, elimination}
use Rattle.gf2_eliminate.specs.Membership.{any_found, any_from, any_same, filter_same, first_found, none_found, in_has, has_in, has_listed, listed_list, listed_same, row_is, column_is, length_numbers, get_numbers, line_same, line_numbers, written_in, in_written, ascending_writing}

pub one_or_none : (b : Bool) → exactly_one b false ≡ b
one_or_none true = refl
one_or_none false = refl

-- a cell that is out, by the test
out_is : (cell : Cell Line2) → is_out cell ≡ true → cell ≡ Out
out_is (Home line) out = absurd (true≢false (sym out))
out_is Out out = refl

pub number_within : {rows : ℕ} (line : Line2) (number : ℕ) → IsColumn rows line → IsIn (numbers_in line) number → (1 ≤ number) × (number ≤ rows)
number_within (Row numbers used) number column there = absurd column
number_within {rows} (Col numbers) number column there = all_in (λ n. (1 ≤ n) × (n ≤ rows)) numbers number column.within there

-- what the sum of two has, one of them has
one_of_two : (a b : Bool) → exactly_one a b ≡ true → (a ≡ true) ⊎ (b ≡ true)
one_of_two true b one = inl refl
one_of_two false b one = inr one

module _ (rows columns : ℕ) where
  -- the locations that the task of a column names: its rows, itself, and the columns of its rows
  abbrev pub SharesRow : List Line2 → ℕ → ℕ → Type 0
  SharesRow cells column other = (row : ℕ) × (row < rows) × (holds cells row column ≡ true) × (holds cells row other ≡ true)

  pub data IsNamed (column : ℕ) (cells : List Line2) (loc : ℕ) : Type 0 where
    OfRow : loc < rows → holds cells loc column ≡ true → IsNamed column cells loc
    OfItself : rows + column ≡ loc → IsNamed column cells loc
    OfColumn : (other : ℕ) → other < columns → rows + other ≡ loc → SharesRow cells column other → IsNamed column cells loc

  touched_row : (column : ℕ) (cells : List Line2) (loc : ℕ) → loc < rows → is_touched rows columns column cells loc ≡ holds cells loc column
  touched_row column cells loc below = rw (lt-ltb loc rows below) refl

  touched_column : (column : ℕ) (cells : List Line2) (loc : ℕ) → rows ≤ loc → is_touched rows columns column cells loc ≡ (loc == rows + column || is_shared rows columns cells column (loc - rows))
  touched_column column cells loc above = rw (le-ltb loc rows above) refl

  pub shared_found : (cells : List Line2) (column other : ℕ) → is_shared rows columns cells column other ≡ true → SharesRow cells column other
  shared_found cells column other shared =
      let found = any_found (λ row. holds cells row column && holds cells row other) (numbers_from 0 rows) shared in
      let both = and_parts (holds cells found.0 column) (holds cells found.0 other) found.2 in
      (found.0, omega (arith, (from_numbers 0 rows found.0 found.1).1), both.0, both.1)

  pub shared_from : (cells : List Line2) (column other : ℕ) → SharesRow cells column other → is_shared rows columns cells column other ≡ true
  shared_from cells column other shares =
      any_from (λ row. holds cells row column && holds cells row other) (numbers_from 0 rows) shares.0 (in_numbers 0 rows shares.0 (omega arith) (omega (arith, shares.1)))
      (and_from (holds cells shares.0 column) (holds cells shares.0 other) shares.2 shares.3)

  in_set : (column : ℕ) (cells : List Line2) (loc : ℕ) → loc < rows + columns → is_touched rows columns column cells loc ≡ true → access_at (set_of rows columns column cells) loc ≡ Some Write
  in_set column cells loc below touched =
      written_in (filter (is_touched rows columns column cells) (numbers_from 0 (rows + columns))) loc
      (in_filter (is_touched rows columns column cells) (numbers_from 0 (rows + columns)) loc (in_numbers 0 (rows + columns) loc (omega arith) (omega arith)) touched)

  pub written_from_named : (column : ℕ) (cells : List Line2) (loc : ℕ) → column < columns → IsNamed column cells loc → access_at (set_of rows columns column cells) loc ≡ Some Write
  written_from_named column cells loc within (OfRow below held) = in_set column cells loc (omega arith) (touched_row column cells loc below ∙ held)
  written_from_named column cells loc within (OfItself at) =
      in_set column cells loc (omega arith) (touched_column column cells loc (omega arith) ∙ or_left (loc == rows + column) (is_shared rows columns cells column (loc - rows)) (eq-eqb loc (rows + column) (sym at)))
  written_from_named column cells loc within (OfColumn other below at shares) =
      let same : other ≡ loc - rows = omega arith in
      in_set column cells loc (omega arith) (touched_column column cells loc (omega arith)
      ∙ or_right (loc == rows + column) (is_shared rows columns cells column (loc - rows)) (shared_from cells column (loc - rows) (subst (SharesRow cells column) same shares)))

  pub named_from_some : (column : ℕ) (cells : List Line2) (loc : ℕ) → IsSome (access_at (set_of rows columns column cells) loc) → (loc < rows + columns) × IsNamed column cells loc
  named_from_some column cells loc named =
      let found = from_filter (is_touched rows columns column cells) (numbers_from 0 (rows + columns)) loc (in_written (filter (is_touched rows columns column cells) (numbers_from 0 (rows + columns))) loc named) in
      let below : loc < rows + columns = omega (arith, (from_numbers 0 (rows + columns) loc found.0).1) in
      (below, by_side below found.1 (cases_lt loc rows))
    where
      by_side : loc < rows + columns → is_touched rows columns column cells loc ≡ true → (loc < rows) ⊎ (rows ≤ loc) → IsNamed column cells loc
      by_side below touched (inl row) = OfRow row (sym (touched_row column cells loc row) ∙ touched)
      by_side below touched (inr above) = elim (or_cases (loc == rows + column) (is_shared rows columns cells column (loc - rows)) (sym (touched_column column cells loc above) ∙ touched)) [
        | inl itself ↦ OfItself (sym (eqb-true loc (rows + column) itself))
        | inr shared ↦ OfColumn (loc - rows) (omega arith) (omega arith) (shared_found cells column (loc - rows) shared)
      ]

  pub some_from_named : (column : ℕ) (cells : List Line2) (loc : ℕ) → column < columns → IsNamed column cells loc → IsSome (access_at (set_of rows columns column cells) loc)
  some_from_named column cells loc within named = rw (written_from_named column cells loc within named) refl

  pub writes_from_named : (column : ℕ) (cells : List Line2) (loc : ℕ) → column < columns → IsNamed column cells loc → IsTrue (writes (set_of rows columns column cells) loc)
  writes_from_named column cells loc within named = rw (written_from_named column cells loc within named) refl

  pub cells_are_counted : CellsAreCounted (elimination rows columns)
  cells_are_counted cells fit = fit.count

  pub set_ascending : (column : ℕ) (cells : List Line2) → IsAscending (set_of rows columns column cells)
  set_ascending column cells =
      ascending_writing (filter (is_touched rows columns column cells) (numbers_from 0 (rows + columns)))
      (ascending_filter nat_cmp (is_touched rows columns column cells) (numbers_from 0 (rows + columns)) (ascending_numbers 0 (rows + columns)))

  pub sets_are_in_range : SetsAreInRange (elimination rows columns)
  sets_are_in_range task cells fit right = record {
    ascending = set_ascending task.body.at cells;
    below = λ loc named. (named_from_some task.body.at cells loc named).0;
  }

  -- two lists of lines in which the same rows have a one in a column, and these rows are the same
  module _ (column : ℕ) (cells others : List Line2) (held_same : (row : ℕ) → row < rows → holds cells row column ≡ holds others row column)
      (row_same : (row : ℕ) → row < rows → holds cells row column ≡ true → line_at cells row ≡ line_at others row) where
    both_same : (f : Line2 → Bool) (row : ℕ) → row < rows → (holds cells row column && f (line_at cells row)) ≡ (holds others row column && f (line_at others row))
    both_same f row below = elim (cases_Bool (holds cells row column)) [
      | inl held ↦ ap (λ line. has (numbers_in line) (suc column) && f line) (row_same row below held)
      | inr free ↦ ap (λ b. b && f (line_at cells row)) free ∙ sym (ap (λ b. b && f (line_at others row)) (sym (held_same row below) ∙ free))
    ]

    shared_same : (other : ℕ) → is_shared rows columns cells column other ≡ is_shared rows columns others column other
    shared_same other = any_same (λ row. holds cells row column && holds cells row other) (λ row. holds others row column && holds others row other) (numbers_from 0 rows)
        (λ row there. both_same (λ line. has (numbers_in line) (suc other)) row (omega (arith, (from_numbers 0 rows row there).1)))

    touched_same : (loc : ℕ) → is_touched rows columns column cells loc ≡ is_touched rows columns column others loc
    touched_same loc = elim (cases_lt loc rows) [
      | inl row ↦ touched_row column cells loc row ∙ held_same loc row ∙ sym (touched_row column others loc row)
      | inr above ↦ touched_column column cells loc above ∙ ap (λ b. loc == rows + column || b) (shared_same (loc - rows)) ∙ sym (touched_column column others loc above)
    ]

    pub set_same : set_of rows columns column cells ≡ set_of rows columns column others
    set_same = ap writing (filter_same (is_touched rows columns column cells) (is_touched rows columns column others) (numbers_from 0 (rows + columns)) (λ loc there. touched_same loc))

    pub pivot_same : pivot_of rows columns column cells ≡ pivot_of rows columns column others
    pivot_same = ap first_of (filter_same (λ row. holds cells row column && not (is_used (line_at cells row))) (λ row. holds others row column && not (is_used (line_at others row))) (numbers_from 0 rows)
        (λ row there. both_same (λ line. not (is_used line)) row (omega (arith, (from_numbers 0 rows row there).1))))

  pub pivot_found : (column : ℕ) (cells : List Line2) (pivot : ℕ) → pivot_of rows columns column cells ≡ Some pivot → (pivot < rows) × (holds cells pivot column ≡ true)
  pivot_found column cells pivot is =
      let found = first_found (λ row. holds cells row column && not (is_used (line_at cells row))) (numbers_from 0 rows) pivot is in
      (omega (arith, (from_numbers 0 rows pivot found.0).1), (and_parts (holds cells pivot column) (not (is_used (line_at cells pivot))) found.1).0)

  -- the lines after a pivot was added
  module _ (column pivot : ℕ) (cells : List Line2) where
    pub after_row : (row : ℕ) → row < rows → line_after rows columns column pivot cells row ≡ Row (listed columns (holds_after rows columns column pivot cells row)) (is_used (line_at cells row) || row == pivot)
    after_row row below = rw (lt-ltb row rows below) refl

    pub after_column : (other : ℕ) → line_after rows columns column pivot cells (rows + other) ≡ Col (listed rows (λ row. holds_after rows columns column pivot cells row other))
    after_column other = let same : (rows + other) - rows ≡ other = omega arith in rw (le-ltb (rows + other) rows (omega arith), same) refl

    pub get_after : (loc : ℕ) → loc < rows + columns → slice_get (lines_after rows columns column pivot cells) loc ≡ Some (line_after rows columns column pivot cells loc)
    get_after loc below =
        let same : 0 + loc ≡ loc = omega arith in
        get_numbers (line_after rows columns column pivot cells) 0 (rows + columns) loc below ∙ ap (λ l. Some (line_after rows columns column pivot cells l)) same

    line_of_row : (row : ℕ) → row < rows → line_at (lines_after rows columns column pivot cells) row ≡ Row (listed columns (holds_after rows columns column pivot cells row)) (is_used (line_at cells row) || row == pivot)
    line_of_row row below = line_numbers (line_after rows columns column pivot cells) (rows + columns) row (omega arith) ∙ after_row row below

    line_of_column : (other : ℕ) → other < columns → line_at (lines_after rows columns column pivot cells) (rows + other) ≡ Col (listed rows (λ row. holds_after rows columns column pivot cells row other))
    line_of_column other below = line_numbers (line_after rows columns column pivot cells) (rows + columns) (rows + other) (omega arith) ∙ after_column other

    pub holds_then : (row other : ℕ) → row < rows → other < columns → holds (lines_after rows columns column pivot cells) row other ≡ holds_after rows columns column pivot cells row other
    holds_then row other row-below below =
        ap (λ line. has (numbers_in line) (suc other)) (line_of_row row row-below) ∙ has_listed columns (holds_after rows columns column pivot cells row) other below

    held_then : (row other : ℕ) → row < rows → other < columns → is_held rows (lines_after rows columns column pivot cells) row other ≡ holds_after rows columns column pivot cells row other
    held_then row other row-below below =
        ap (λ line. has (numbers_in line) (suc row)) (line_of_column other below) ∙ has_listed rows (λ r. holds_after rows columns column pivot cells r other) row row-below

    pub lines_fit : AreLines rows columns (lines_after rows columns column pivot cells)
    lines_fit = record {
      count = length_numbers (line_after rows columns column pivot cells) 0 (rows + columns);
      each_row = λ row below. subst (IsRow columns) (sym (line_of_row row below)) (listed_list columns (holds_after rows columns column pivot cells row));
      each_column = λ other below. subst (IsColumn rows) (sym (line_of_column other below)) (listed_list rows (λ row. holds_after rows columns column pivot cells row other));
      agree = λ row other row-below below. holds_then row other row-below below ∙ sym (held_then row other row-below below);
    }

    -- what a row has then it had before, or it had a one in the column and the pivot has it
    after_cases : (row other : ℕ) → holds_after rows columns column pivot cells row other ≡ true → (holds cells row other ≡ true) ⊎ ((holds cells row column ≡ true) × (holds cells pivot other ≡ true))
    after_cases row other has-it = elim (one_of_two (holds cells row other) ((holds cells row column && not (row == pivot)) && holds cells pivot other) has-it) [
      | inl was ↦ inl was
      | inr added ↦
          let both = and_parts (holds cells row column && not (row == pivot)) (holds cells pivot other) added in
          inr ((and_parts (holds cells row column) (not (row == pivot)) both.0).0, both.1)
    ]

    -- which locations the task of another column names then
    named_after : (second : ℕ) (loc : ℕ) → second < columns → pivot < rows → holds cells pivot column ≡ true → IsNamed second (lines_after rows columns column pivot cells) loc → IsNamed second cells loc ⊎ IsNamed column cells loc
    named_after second loc within below held (OfRow row has-it) = elim (after_cases loc second (sym (holds_then loc second row within) ∙ has-it)) [
      | inl was ↦ inl (OfRow row was)
      | inr added ↦ inr (OfRow row added.0)
    ]
    named_after second loc within below held (OfItself at) = inl (OfItself at)
    named_after second loc within below held (OfColumn other other-below at shares) =
        by_cases (after_cases shares.0 second (sym (holds_then shares.0 second shares.1 within) ∙ shares.2)) (after_cases shares.0 other (sym (holds_then shares.0 other shares.1 other-below) ∙ shares.3))
      where
        by_cases : (holds cells shares.0 second ≡ true) ⊎ ((holds cells shares.0 column ≡ true) × (holds cells pivot second ≡ true))
            → (holds cells shares.0 other ≡ true) ⊎ ((holds cells shares.0 column ≡ true) × (holds cells pivot other ≡ true)) → IsNamed second cells loc ⊎ IsNamed column cells loc
        by_cases (inl second-was) (inl was) = inl (OfColumn other other-below at (shares.0, shares.1, second-was, was))
        by_cases (inr second-added) (inl was) = inr (OfColumn other other-below at (shares.0, shares.1, second-added.0, was))
        by_cases second-is (inr added) = inr (OfColumn other other-below at (pivot, below, held, added.1))

  -- what a task leaves as it was
  module _ (column pivot : ℕ) (cells : List Line2) (fit : AreLines rows columns cells) (below : pivot < rows) (held : holds cells pivot column ≡ true) where
    pub row_stays : (row : ℕ) → row < rows → holds cells row column ≡ false → line_after rows columns column pivot cells row ≡ line_at cells row
    row_stays row row-below free =
        let other-row : (row == pivot) ≡ false = ne_eqb row pivot (λ same. true≢false (sym held ∙ ap (λ r. holds cells r column) (sym same) ∙ free)) in
        after_row column pivot cells row row-below
        ∙ ap (λ ns. Row ns (is_used (line_at cells row) || row == pivot)) (listed_same columns (holds_after rows columns column pivot cells row) (holds cells row)
        (λ other other-below. ap (λ b. exactly_one (holds cells row other) ((b && not (row == pivot)) && holds cells pivot other)) free ∙ one_or_none (holds cells row other)))
        ∙ ap (λ b. Row (listed columns (holds cells row)) (is_used (line_at cells row) || b)) other-row
        ∙ ap (Row (listed columns (holds cells row))) (or_false (is_used (line_at cells row)))
        ∙ sym (row_is columns (holds cells row) (line_at cells row) (fit.each_row row row-below) (λ n n-below. refl))

    pub column_stays : (other : ℕ) → other < columns → holds cells pivot other ≡ false → line_after rows columns column pivot cells (rows + other) ≡ line_at cells (rows + other)
    column_stays other other-below free =
        after_column column pivot cells other
        ∙ ap Col (listed_same rows (λ row. holds_after rows columns column pivot cells row other) (λ row. holds cells row other)
        (λ row row-below. ap (λ b. exactly_one (holds cells row other) ((holds cells row column && not (row == pivot)) && b)) free
        ∙ ap (exactly_one (holds cells row other)) (and_false (holds cells row column && not (row == pivot))) ∙ one_or_none (holds cells row other)))
        ∙ sym (column_is rows (λ row. holds cells row other) (line_at cells (rows + other)) (fit.each_column other other-below) (λ row row-below. sym (fit.agree row other row-below other-below)))

    line_stays : (loc : ℕ) → loc < rows + columns → ¬ IsNamed column cells loc → line_after rows columns column pivot cells loc ≡ line_at cells loc
    line_stays loc loc-below apart = elim (cases_lt loc rows) [
      | inl row ↦ row_stays loc row (false_from_ne_true (holds cells loc column) (λ held-it. apart (OfRow row held-it)))
      | inr above ↦
          let at : rows + (loc - rows) ≡ loc = omega arith in
          let stays = column_stays (loc - rows) (omega arith) (false_from_ne_true (holds cells pivot (loc - rows)) (λ shared. apart (OfColumn (loc - rows) (omega arith) at (pivot, below, held, shared)))) in
          subst (λ l. line_after rows columns column pivot cells l ≡ line_at cells l) at stays
    ]

  -- lines that agree at the locations that a task names
  module _ (column : ℕ) (cells others : List Line2) (fit : AreLines rows columns cells) (also : AreLines rows columns others) (within : column < columns)
      (agree : AgreeOn (set_of rows columns column cells) cells others) where
    named_same : (loc : ℕ) → IsNamed column cells loc → line_at cells loc ≡ line_at others loc
    named_same loc named = line_same cells others loc (agree loc (some_from_named column cells loc within named))

    held_by_column : (other row : ℕ) → row < rows → other < columns → IsNamed column cells (rows + other) → holds cells row other ≡ holds others row other
    held_by_column other row row-below below named =
        fit.agree row other row-below below ∙ ap (λ line. has (numbers_in line) (suc row)) (named_same (rows + other) named) ∙ sym (also.agree row other row-below below)

    held_there : (row : ℕ) → row < rows → holds cells row column ≡ holds others row column
    held_there row below = held_by_column column row below within (OfItself refl)

    row_there : (row : ℕ) → row < rows → holds cells row column ≡ true → line_at cells row ≡ line_at others row
    row_there row below held = named_same row (OfRow below held)

    held_by_row : (row other : ℕ) → row < rows → holds cells row column ≡ true → holds cells row other ≡ holds others row other
    held_by_row row other below held = ap (λ line. has (numbers_in line) (suc other)) (row_there row below held)

    after_same : (pivot row other : ℕ) → holds cells row other ≡ holds others row other → holds cells row column ≡ holds others row column → holds cells pivot other ≡ holds others pivot other
        → holds_after rows columns column pivot cells row other ≡ holds_after rows columns column pivot others row other
    after_same pivot row other here there by-pivot =
        ap (λ b. exactly_one b ((holds cells row column && not (row == pivot)) && holds cells pivot other)) here
        ∙ ap (λ b. exactly_one (holds others row other) ((b && not (row == pivot)) && holds cells pivot other)) there
        ∙ ap (λ b. exactly_one (holds others row other) ((holds others row column && not (row == pivot)) && b)) by-pivot

    module _ (pivot : ℕ) (below : pivot < rows) (held : holds cells pivot column ≡ true) where
      column_same : (other : ℕ) → other < columns → IsNamed column cells (rows + other) → line_after rows columns column pivot cells (rows + other) ≡ line_after rows columns column pivot others (rows + other)
      column_same other other-below named =
          after_column column pivot cells other
          ∙ ap Col (listed_same rows (λ row. holds_after rows columns column pivot cells row other) (λ row. holds_after rows columns column pivot others row other)
          (λ row row-below. after_same pivot row other (held_by_column other row row-below other-below named) (held_there row row-below) (held_by_column other pivot below other-below named)))
          ∙ sym (after_column column pivot others other)

      line_after_same : (loc : ℕ) → IsNamed column cells loc → line_after rows columns column pivot cells loc ≡ line_after rows columns column pivot others loc
      line_after_same loc (OfRow row row-held) =
          after_row column pivot cells loc row
          ∙ ap (λ ns. Row ns (is_used (line_at cells loc) || loc == pivot)) (listed_same columns (holds_after rows columns column pivot cells loc) (holds_after rows columns column pivot others loc)
          (λ other other-below. after_same pivot loc other (held_by_row loc other row row-held) (held_there loc row) (held_by_row pivot other below held)))
          ∙ ap (λ line. Row (listed columns (holds_after rows columns column pivot others loc)) (is_used line || loc == pivot)) (row_there loc row row-held)
          ∙ sym (after_row column pivot others loc row)
      line_after_same loc (OfItself at) =
          subst (λ l. line_after rows columns column pivot cells l ≡ line_after rows columns column pivot others l) at (column_same column within (OfItself refl))
      line_after_same loc (OfColumn other other-below at shares) =
          subst (λ l. line_after rows columns column pivot cells l ≡ line_after rows columns column pivot others l) at (column_same other other-below (OfColumn other other-below refl shares))

      lines_agree : AgreeOn (set_of rows columns column cells) (lines_after rows columns column pivot cells) (lines_after rows columns column pivot others)
      lines_agree loc named =
          let is-named = named_from_some column cells loc named in
          get_after column pivot cells loc is-named.0 ∙ ap Some (line_after_same loc is-named.1) ∙ sym (get_after column pivot others loc is-named.0)

    outcome_same : (pivot : Option ℕ) → pivot_of rows columns column cells ≡ pivot → IsSameOutcome (elimination rows columns) (set_of rows columns column cells) (outcome_with rows columns column pivot cells) (outcome_with rows columns column pivot others)
    outcome_same None is = record { cells = agree; children = refl; text = refl }
    outcome_same (Some pivot) is =
        let found = pivot_found column cells pivot is in
        record { cells = lines_agree pivot found.0 found.1; children = refl; text = refl }

    pub determined : IsSameOutcome (elimination rows columns) (set_of rows columns column cells) (eliminated rows columns column cells) (eliminated rows columns column others)
    determined =
        subst (λ pivot. IsSameOutcome (elimination rows columns) (set_of rows columns column cells) (eliminated rows columns column cells) (outcome_with rows columns column pivot others))
        (pivot_same column cells others held_there row_there) (outcome_same (pivot_of rows columns column cells) refl)

    pub sets_same : set_of rows columns column others ≡ set_of rows columns column cells
    sets_same = sym (set_same column cells others held_there row_there)

  pub sets_are_local : SetsAreLocal (elimination rows columns)
  sets_are_local task cells others fit also right agree = sets_same task.body.at cells others fit also right.at agree

  module _ (column : ℕ) (cells : List Line2) (fit : AreLines rows columns cells) (within : column < columns) where
    outcome_stays : (pivot : Option ℕ) → pivot_of rows columns column cells ≡ pivot → (loc : ℕ) → ¬ IsNamed column cells loc
        → slice_get (outcome_with rows columns column pivot cells).cells loc ≡ slice_get cells loc
    outcome_stays None is loc apart = refl
    outcome_stays (Some pivot) is loc apart =
        let found = pivot_found column cells pivot is in
        elim (cases_lt loc (rows + columns)) [
          | inl below ↦
              get_after column pivot cells loc below ∙ ap Some (line_stays column pivot cells fit found.0 found.1 loc below apart)
              ∙ sym (slice_get-get_or cells loc no_line (omega (arith, fit.count)))
          | inr past ↦
              slice_get_past (lines_after rows columns column pivot cells) loc (omega (arith, length_numbers (line_after rows columns column pivot cells) 0 (rows + columns)))
              ∙ sym (slice_get_past cells loc (omega (arith, fit.count)))
        ]

    outcome_fit : (pivot : Option ℕ) → AreLines rows columns (outcome_with rows columns column pivot cells).cells
    outcome_fit None = fit
    outcome_fit (Some pivot) = lines_fit column pivot cells

    outcome_is : (pivot : Option ℕ) → IsFitOutcome (elimination rows columns) (outcome_with rows columns column pivot cells)
    outcome_is None = record { cells = fit; children = tt; few = lit< tt; lines = ends_with_line_feed (codes "col " ++ decimal (suc column) ++ codes " free") }
    outcome_is (Some pivot) = record {
      cells = lines_fit column pivot cells;
      children = tt;
      few = lit< tt;
      lines = ends_with_line_feed (codes "col " ++ decimal (suc column) ++ codes " row " ++ decimal (suc pivot));
    }

    pub outcome_childless : (pivot : Option ℕ) → (outcome_with rows columns column pivot cells).children ≡ []
    outcome_childless None = refl
    outcome_childless (Some pivot) = refl

    pub outcome_moves : (pivot : Option ℕ) → pivot_of rows columns column cells ≡ pivot → (second loc : ℕ) → second < columns → IsNamed second (outcome_with rows columns column pivot cells).cells loc
        → IsNamed second cells loc ⊎ IsNamed column cells loc
    outcome_moves None is second loc second-within named = inl named
    outcome_moves (Some pivot) is second loc second-within named =
        let found = pivot_found column cells pivot is in named_after column pivot cells second loc second-within found.0 found.1 named

  pub acts_are_fit : ActsAreFit (elimination rows columns)
  acts_are_fit task cells fit right = outcome_is task.body.at cells fit right.at (pivot_of rows columns task.body.at cells)

  pub acts_are_local : ActsAreLocal (elimination rows columns)
  acts_are_local = record {
    unchanged = λ task cells fit right loc unwritten.
        outcome_stays task.body.at cells fit right.at (pivot_of rows columns task.body.at cells) refl loc
        (λ named. true≢false (sym (writes_from_named task.body.at cells loc right.at named) ∙ unwritten));
    determined = λ task cells others fit also right agree. determined task.body.at cells others fit also right.at agree;
  }

  pub acts_ignore_paths : ActsIgnorePaths (elimination rows columns)
  acts_ignore_paths task path cells fit right = refl

  pub children_come_no_earlier : ChildrenComeNoEarlier (elimination rows columns)
  children_come_no_earlier task cells fit right =
      subst (AllByRecursion (λ child. task.key.prio ≤ child.prio)) (sym (outcome_childless task.body.at cells fit right.at (pivot_of rows columns task.body.at cells))) tt

  pub sets_stay_within : SetsStayWithin (elimination rows columns)
  sets_stay_within task other cells fit right also differs =
      (within_by_members moved both).1 (λ loc. (there loc, written loc))
    where
      moved : Accesses
      moved = set_of rows columns other.body.at (eliminated rows columns task.body.at cells).cells

      both : Accesses
      both = merged (set_of rows columns other.body.at cells) (set_of rows columns task.body.at cells)

      holds-both : IsWithin (set_of rows columns other.body.at cells) both × IsWithin (set_of rows columns task.body.at cells) both
      holds-both = merges_hold_both (set_of rows columns other.body.at cells) (set_of rows columns task.body.at cells) (set_ascending other.body.at cells) (set_ascending task.body.at cells)

      by_one : (loc : ℕ) → IsNamed other.body.at cells loc ⊎ IsNamed task.body.at cells loc → IsTrue (writes both loc)
      by_one loc (inl named) = ((within_by_members (set_of rows columns other.body.at cells) both).0 holds-both.0 loc).1 (writes_from_named other.body.at cells loc also.at named)
      by_one loc (inr named) = ((within_by_members (set_of rows columns task.body.at cells) both).0 holds-both.1 loc).1 (writes_from_named task.body.at cells loc right.at named)

      in_both : (loc : ℕ) → IsSome (access_at moved loc) → IsTrue (writes both loc)
      in_both loc named =
          by_one loc (outcome_moves task.body.at cells fit right.at (pivot_of rows columns task.body.at cells) refl other.body.at loc also.at
          (named_from_some other.body.at (eliminated rows columns task.body.at cells).cells loc named).1)

      there : (loc : ℕ) → IsSome (access_at moved loc) → IsSome (access_at both loc)
      there loc named = has_from_writes both loc (in_both loc named)

      written : (loc : ℕ) → IsTrue (writes moved loc) → IsTrue (writes both loc)
      written loc writes-it = in_both loc (has_from_writes moved loc writes-it)

  -- cells of which some are out, that agree with lines
  module _ (column : ℕ) (cells : List (Cell Line2)) (values : List Line2) (fit : AreLines rows columns values) (within : column < columns) (agrees : AgreesWith cells values) where
    pub home_is : (loc : ℕ) (line : Line2) → loc < rows + columns → cell_at cells loc ≡ Home line → line ≡ line_at values loc
    home_is loc line below home =
        let here : IsHome (cell_at cells loc) = subst (λ cell. IsHome cell) (sym home) tt in
        let same : Home line ≡ Home (line_at values loc) = sym home ∙ agrees.each loc here ∙ get_or-map Home values loc no_line Out (omega (arith, fit.count)) in
        (cc)

    pub shown_is : (loc : ℕ) → loc < rows + columns → line_at (map shown cells) loc ≡ shown (cell_at cells loc)
    shown_is loc below = get_or-map shown cells loc Out no_line (omega (arith, fit.count, agrees.as_many))

    -- a row without a one in the column may be out
    pub row_shown : (row : ℕ) (cell : Cell Line2) → row < rows → cell_at cells row ≡ cell → (holds values row column ≡ true → is_out cell ≡ false)
        → (holds values row column ≡ holds (map shown cells) row column) × (holds values row column ≡ true → line_at values row ≡ line_at (map shown cells) row)
    row_shown row (Home line) below is home =
        let same : line_at values row ≡ line_at (map shown cells) row = sym (home_is row line (omega arith) is) ∙ ap shown (sym is) ∙ sym (shown_is row (omega arith)) in
        (ap (λ l. has (numbers_in l) (suc column)) same, λ held. same)
    row_shown row Out below is home =
        let empty : line_at (map shown cells) row ≡ no_line = shown_is row (omega arith) ∙ ap shown is in
        let free : holds values row column ≡ false = false_from_ne_true (holds values row column) (λ held. true≢false (home held)) in
        (free ∙ sym (ap (λ l. has (numbers_in l) (suc column)) empty), λ held. absurd (true≢false (sym held ∙ free)))

    module _ (line : Line2) (asked : cell_at cells (rows + column) ≡ Home line) where
      column_held : (row : ℕ) → row < rows → has (numbers_in line) (suc row) ≡ holds values row column
      column_held row below = ap (λ l. has (numbers_in l) (suc row)) (home_is (rows + column) line (omega arith) asked) ∙ sym (fit.agree row column below within)

      -- a row that is needed is one of those in the column
      pub needed_row : (loc : ℕ) → IsIn (map (λ row. row - 1) (numbers_in line)) loc → (loc < rows) × (holds values loc column ≡ true)
      needed_row loc there =
          let found = from_map (λ row. row - 1) (numbers_in line) loc there in
          let list = subst (IsColumn rows) (sym (home_is (rows + column) line (omega arith) asked)) (fit.each_column column within) in
          let row-within = number_within line found.0 list found.1 in
          let below : loc < rows = omega (arith, found.2, row-within.0, row-within.1) in
          let number : found.0 ≡ suc loc = omega (arith, found.2, row-within.0) in
          (below, sym (column_held loc below) ∙ has_in (numbers_in line) (suc loc) (subst (IsIn (numbers_in line)) number found.1))

      pub row_needed : (row : ℕ) → row < rows → holds values row column ≡ true → IsIn (map (λ row. row - 1) (numbers_in line)) row
      row_needed row below held =
          let there = in_map (λ r. r - 1) (numbers_in line) (suc row) (in_has (numbers_in line) (suc row) (column_held row below ∙ held)) in
          let same : suc row - 1 ≡ row = omega arith in
          subst (IsIn (map (λ r. r - 1) (numbers_in line))) same there

      pub row_home : first_of (filter (λ loc. is_out (cell_at cells loc)) (map (λ row. row - 1) (numbers_in line))) ≡ None
          → (row : ℕ) → row < rows → holds values row column ≡ true → is_out (cell_at cells row) ≡ false
      row_home none row below held = none_found (λ l. is_out (cell_at cells l)) (map (λ r. r - 1) (numbers_in line)) row none (row_needed row below held)

      -- where no row that is needed is out, what is home has the set
      pub shown_set : first_of (filter (λ loc. is_out (cell_at cells loc)) (map (λ row. row - 1) (numbers_in line))) ≡ None
          → set_of rows columns column values ≡ set_of rows columns column (map shown cells)
      shown_set none =
          set_same column values (map shown cells)
          (λ row below. (row_shown row (cell_at cells row) below refl (row_home none row below)).0)
          (λ row below. (row_shown row (cell_at cells row) below refl (row_home none row below)).1)

      answer_is : (first : Option ℕ) → first_of (filter (λ loc. is_out (cell_at cells loc)) (map (λ row. row - 1) (numbers_in line))) ≡ first
          → IsTrueAnswer (elimination rows columns) (set_of rows columns column values) cells (unless_out rows columns first column cells)
      answer_is (Some loc) is =
          let found = first_found (λ l. is_out (cell_at cells l)) (map (λ row. row - 1) (numbers_in line)) loc is in
          let row = needed_row loc found.0 in
          (out_is (cell_at cells loc) found.1, some_from_named column values loc within (OfRow row.0 row.1))
      answer_is None is = sym (shown_set is)

    walk_is_true : (cell : Cell Line2) → cell_at cells (rows + column) ≡ cell → IsTrueAnswer (elimination rows columns) (set_of rows columns column values) cells (walk_from rows columns cell column cells)
    walk_is_true Out is = (is, some_from_named column values (rows + column) within (OfItself refl))
    walk_is_true (Home line) is = answer_is line is (first_of (filter (λ loc. is_out (cell_at cells loc)) (map (λ row. row - 1) (numbers_in line)))) refl

  pub walks_are_true : WalksAreTrue (elimination rows columns)
  walks_are_true task cells values fit right agrees = walk_is_true task.body.at cells values fit right.at agrees (cell_at cells (rows + task.body.at)) refl

  pub safe_alone : IsSafeAlone (elimination rows columns)
  safe_alone task right = refl

  pub safe_tasks_stay_safe : SafeTasksStaySafe (elimination rows columns)
  safe_tasks_stay_safe task acted before after cells fit right fit-others ascending earlier safe apart = record {
    apart = childless (pivot_of rows columns acted.body.at cells);
    safe = refl;
  }
    where
      childless : (pivot : Option ℕ) → AllByRecursion (λ child. ¬ Conflicts (set_of rows columns child.body.at (eliminated rows columns acted.body.at cells).cells)
          (set_of rows columns task.body.at (eliminated rows columns acted.body.at cells).cells))
          (tasks_before task.key (children_from acted.key 0 (outcome_with rows columns acted.body.at pivot cells).children))
      childless None = tt
      childless (Some pivot) = tt

  pub safety_ignores_paths : SafetyIgnoresPaths (elimination rows columns)
  safety_ignores_paths task earlier name has_name naming named right fit-others = refl

  pub paths_are_ignored : PathsAreIgnored (elimination rows columns)
  paths_are_ignored = record { acts = acts_ignore_paths; safety = safety_ignores_paths }

  pub are_lawful : IsLawful (elimination rows columns)
  are_lawful = record {
    cells_are_counted = cells_are_counted;
    sets_are_in_range = sets_are_in_range;
    acts_are_fit = acts_are_fit;
    sets_are_local = sets_are_local;
    acts_are_local = acts_are_local;
    children_come_no_earlier = children_come_no_earlier;
    sets_stay_within = sets_stay_within;
    walks_are_true = walks_are_true;
    safe_alone = safe_alone;
    safe_tasks_stay_safe = safe_tasks_stay_safe;
  }
