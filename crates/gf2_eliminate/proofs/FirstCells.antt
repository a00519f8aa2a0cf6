-- The first cells, as they are made place by place.
use Rattle.std.specs.Prelude.{◌≡◌, ◌≢◌, ℕ, zero, suc, ◌+◌, ◌-◌, ◌<◌, ◌≤◌, Bool, true, false, ◌==◌, nat_lt, if◌then◌else◌, List, [], ◌∷◌, ◌++◌, length, map, filter, take, drop, slice_set, refl}
use Rattle.std.specs.List.{AllByRecursion}
use Rattle.std.specs.Ordering.{nat_cmp, ordering_then}
use Rattle.std.specs.declared.cmp.Ordering.{Ordering}
use Rattle.std.specs.declared.cmp.Ordering.TheVariants.{Less, Equal, Greater}
use Rattle.std.proofs.Common.{◌⊎◌, inl, inr, arith, sym, ap, ◌∙◌, subst, length-set, append-nil, get_or}
use Rattle.std.proofs.lemmas.Bool.{and_parts, and_from, cases_lt, cases_eq, eqb-true, eq-eqb, ne_eqb, lt-ltb, le-ltb}
use Rattle.std.proofs.lemmas.List.{get_or-set_same, get_or-set_other, map-append, take_more, take-append-drop}
use Rattle.std.proofs.lemmas.List.Elements.{filter-append}
use Rattle.plain_laws.specs.Bools.{same_tests}
use Rattle.plain_laws.specs.Orderings.{below_from_cmp}
use Rattle.task_order.specs.declared.start.Start.{Start}
use Rattle.app_laws.specs.Applications.{AreFitStarts}
use Rattle.mtx_reader.specs.declared.pattern.Pattern.{Pattern}
use Rattle.mtx_reader.specs.Ascending.{IsAscendingBy, IsIn, numbers_from, all_in, all_from_in, in_left, in_right, in_map, from_map, in_filter, from_filter, from_numbers}
use Rattle.mtx_reader.specs.Patterns.{IsPattern}
use Rattle.mtx_reader.specs.Places.{Place, is_same, place_cmp, is_among, IsWithin}
use Rattle.gf2_eliminate.specs.declared.line.Line2.{Line2}
use Rattle.gf2_eliminate.specs.declared.line.Line2.TheVariants.{Row, Col}
use Rattle.gf2_eliminate.specs.Lines.{no_line, numbers_in, has, line_at, listed, IsListTo, IsRow, IsColumn, AreLines}
use Rattle.gf2_eliminate.specs.Membership.{any_found, any_from, in_has, has_in, has_listed, listed_list, list_is_listed, length_numbers, line_numbers}
use Rattle.gf2_eliminate.specs.Start.{with_number, empty_line, start_line, start_cells, start_task}
use Rattle.gf2_eliminate.specs.Elimination.{IsElimination, elimination}

-- the columns of a row, and the rows of a column, among places
abbrev pub columns_in : List Place → ℕ → List ℕ
columns_in places row = map (λ (place : Place). place.1) (filter (λ (place : Place). place.0 == row) places)

abbrev pub rows_in : List Place → ℕ → List ℕ
rows_in places column = map (λ (place : Place). place.0) (filter (λ (place : Place). place.1 == column) places)

-- the line of a location with ones at these places
abbrev pub line_so_far : ℕ → List Place → ℕ → Line2
line_so_far rows places loc = if nat_lt loc rows then Row (columns_in places (suc loc)) false else Col (rows_in places (suc (loc - rows)))

abbrev pub lines_so_far : ℕ → ℕ → List Place → List Line2
lines_so_far rows columns places = map (line_so_far rows places) (numbers_from 0 (rows + columns))

-- lists of lines are the same where each line is
same_lines : (xs ys : List Line2) → length xs ≡ length ys → ((k : ℕ) → k < length xs → line_at xs k ≡ line_at ys k) → xs ≡ ys
same_lines [] [] long each = refl
same_lines [] (y ∷ ys) long each = absurd (omega arith)
same_lines (x ∷ xs) [] long each = absurd (omega arith)
same_lines (x ∷ xs) (y ∷ ys) long each =
    ap (λ z. z ∷ xs) (each 0 (omega arith)) ∙ ap (λ zs. y ∷ zs) (same_lines xs ys (omega arith) (λ k below. each (suc k) (omega arith)))

columns_push : (places : List Place) (place : Place) (row : ℕ) → columns_in (places ++ place ∷ []) row ≡ columns_in places row ++ columns_in (place ∷ []) row
columns_push places place row =
    ap (map (λ (p : Place). p.1)) (filter-append (λ (p : Place). p.0 == row) places (place ∷ []))
    ∙ map-append (λ (p : Place). p.1) (filter (λ (p : Place). p.0 == row) places) (filter (λ (p : Place). p.0 == row) (place ∷ []))

rows_push : (places : List Place) (place : Place) (column : ℕ) → rows_in (places ++ place ∷ []) column ≡ rows_in places column ++ rows_in (place ∷ []) column
rows_push places place column =
    ap (map (λ (p : Place). p.0)) (filter-append (λ (p : Place). p.1 == column) places (place ∷ []))
    ∙ map-append (λ (p : Place). p.0) (filter (λ (p : Place). p.1 == column) places) (filter (λ (p : Place). p.1 == column) (place ∷ []))

module _ (rows columns : ℕ) (places : List Place) where
  so_far_row : (loc : ℕ) → loc < rows → line_so_far rows places loc ≡ Row (columns_in places (suc loc)) false
  so_far_row loc below = rw (lt-ltb loc rows below) refl

  so_far_column : (loc : ℕ) → rows ≤ loc → line_so_far rows places loc ≡ Col (rows_in places (suc (loc - rows)))
  so_far_column loc above = rw (le-ltb loc rows above) refl

-- a place more
module _ (rows columns : ℕ) (places : List Place) (row column : ℕ) (within : IsWithin rows columns (row, column)) where
  row_line : (loc : ℕ) → loc < rows → line_so_far rows (places ++ (row, column) ∷ []) loc ≡ (if row == suc loc then with_number (line_so_far rows places loc) column else line_so_far rows places loc)
  row_line loc below =
      so_far_row rows columns (places ++ (row, column) ∷ []) loc below ∙ ap (λ ns. Row ns false) (columns_push places (row, column) (suc loc)) ∙ by_test (row == suc loc)
      ∙ sym (ap (λ line. if row == suc loc then with_number line column else line) (so_far_row rows columns places loc below))
    where
      by_test : (b : Bool) → Row (columns_in places (suc loc) ++ map (λ (p : Place). p.1) (if b then (row, column) ∷ [] else [])) false
          ≡ (if b then Row (columns_in places (suc loc) ++ column ∷ []) false else Row (columns_in places (suc loc)) false)
      by_test true = refl
      by_test false = ap (λ ns. Row ns false) (append-nil (columns_in places (suc loc)))

  column_line : (loc : ℕ) → rows ≤ loc → line_so_far rows (places ++ (row, column) ∷ []) loc ≡ (if column == suc (loc - rows) then with_number (line_so_far rows places loc) row else line_so_far rows places loc)
  column_line loc above =
      so_far_column rows columns (places ++ (row, column) ∷ []) loc above ∙ ap Col (rows_push places (row, column) (suc (loc - rows))) ∙ by_test (column == suc (loc - rows))
      ∙ sym (ap (λ line. if column == suc (loc - rows) then with_number line row else line) (so_far_column rows columns places loc above))
    where
      by_test : (b : Bool) → Col (rows_in places (suc (loc - rows)) ++ map (λ (p : Place). p.0) (if b then (row, column) ∷ [] else []))
          ≡ (if b then Col (rows_in places (suc (loc - rows)) ++ row ∷ []) else Col (rows_in places (suc (loc - rows))))
      by_test true = refl
      by_test false = ap Col (append-nil (rows_in places (suc (loc - rows))))

  module _ (lines middle last : List Line2) (so-far : lines ≡ lines_so_far rows columns places)
      (first : middle ≡ slice_set lines (row - 1) (with_number (line_at lines (row - 1)) column))
      (second : last ≡ slice_set middle (rows + (column - 1)) (with_number (line_at middle (rows + (column - 1))) row)) where
    long : length lines ≡ rows + columns
    long = ap length so-far ∙ length_numbers (line_so_far rows places) 0 (rows + columns)

    middle-long : length middle ≡ rows + columns
    middle-long = ap length first ∙ length-set lines (row - 1) (with_number (line_at lines (row - 1)) column) ∙ long

    last-long : length last ≡ rows + columns
    last-long = ap length second ∙ length-set middle (rows + (column - 1)) (with_number (line_at middle (rows + (column - 1))) row) ∙ middle-long

    lines-at : (loc : ℕ) → loc < rows + columns → line_at lines loc ≡ line_so_far rows places loc
    lines-at loc below = ap (λ ls. line_at ls loc) so-far ∙ line_numbers (line_so_far rows places) (rows + columns) loc below

    middle-other : (loc : ℕ) → loc ≢ row - 1 → line_at middle loc ≡ line_at lines loc
    middle-other loc differs = ap (λ ls. line_at ls loc) first ∙ get_or-set_other lines (row - 1) loc (with_number (line_at lines (row - 1)) column) no_line differs

    last-other : (loc : ℕ) → loc ≢ rows + (column - 1) → line_at last loc ≡ line_at middle loc
    last-other loc differs = ap (λ ls. line_at ls loc) second ∙ get_or-set_other middle (rows + (column - 1)) loc (with_number (line_at middle (rows + (column - 1))) row) no_line differs

    at_row : (loc : ℕ) → loc < rows → line_at last loc ≡ line_so_far rows (places ++ (row, column) ∷ []) loc
    at_row loc below = last-other loc (omega arith) ∙ by_case (cases_eq row (suc loc)) ∙ sym (row_line loc below)
      where
        by_case : (row ≡ suc loc) ⊎ (row ≡ suc loc → ⊥) → line_at middle loc ≡ (if row == suc loc then with_number (line_so_far rows places loc) column else line_so_far rows places loc)
        by_case (inl at) =
            let here : row - 1 ≡ loc = omega arith in
            let inside : row - 1 < length lines = omega (arith, long) in
            subst (λ l. line_at middle l ≡ (if row == suc loc then with_number (line_so_far rows places loc) column else line_so_far rows places loc)) here
            (ap (λ ls. line_at ls (row - 1)) first ∙ get_or-set_same lines (row - 1) (with_number (line_at lines (row - 1)) column) no_line inside
            ∙ ap (λ line. with_number line column) (lines-at (row - 1) (omega arith) ∙ ap (line_so_far rows places) here)
            ∙ sym (ap (λ b. if b then with_number (line_so_far rows places loc) column else line_so_far rows places loc) (eq-eqb row (suc loc) at)))
        by_case (inr differs) =
            middle-other loc (λ same. differs (omega (arith, same, within.row.0))) ∙ lines-at loc (omega arith)
            ∙ sym (ap (λ b. if b then with_number (line_so_far rows places loc) column else line_so_far rows places loc) (ne_eqb row (suc loc) differs))

    at_column : (loc : ℕ) → rows ≤ loc → loc < rows + columns → line_at last loc ≡ line_so_far rows (places ++ (row, column) ∷ []) loc
    at_column loc above below = by_case (cases_eq column (suc (loc - rows))) ∙ sym (column_line loc above)
      where
        before : (l : ℕ) → rows ≤ l → l < rows + columns → line_at middle l ≡ line_so_far rows places l
        before l l-above l-below = middle-other l (omega (arith, within.row.0, within.row.1)) ∙ lines-at l l-below

        by_case : (column ≡ suc (loc - rows)) ⊎ (column ≡ suc (loc - rows) → ⊥) → line_at last loc ≡ (if column == suc (loc - rows) then with_number (line_so_far rows places loc) row else line_so_far rows places loc)
        by_case (inl at) =
            let here : rows + (column - 1) ≡ loc = omega arith in
            let inside : rows + (column - 1) < length middle = omega (arith, middle-long) in
            subst (λ l. line_at last l ≡ (if column == suc (loc - rows) then with_number (line_so_far rows places loc) row else line_so_far rows places loc)) here
            (ap (λ ls. line_at ls (rows + (column - 1))) second ∙ get_or-set_same middle (rows + (column - 1)) (with_number (line_at middle (rows + (column - 1))) row) no_line inside
            ∙ ap (λ line. with_number line row) (before (rows + (column - 1)) (omega arith) (omega arith) ∙ ap (line_so_far rows places) here)
            ∙ sym (ap (λ b. if b then with_number (line_so_far rows places loc) row else line_so_far rows places loc) (eq-eqb column (suc (loc - rows)) at)))
        by_case (inr differs) =
            last-other loc (λ same. differs (omega (arith, same, within.column.0))) ∙ before loc above below
            ∙ sym (ap (λ b. if b then with_number (line_so_far rows places loc) row else line_so_far rows places loc) (ne_eqb column (suc (loc - rows)) differs))

    pub place_put : last ≡ lines_so_far rows columns (places ++ (row, column) ∷ [])
    place_put =
        same_lines last (lines_so_far rows columns (places ++ (row, column) ∷ [])) (last-long ∙ sym (length_numbers (line_so_far rows (places ++ (row, column) ∷ [])) 0 (rows + columns)))
        (λ k below. elim (cases_lt k rows) [
          | inl is-row ↦ at_row k is-row ∙ sym (line_numbers (line_so_far rows (places ++ (row, column) ∷ [])) (rows + columns) k (omega arith))
          | inr above ↦ at_column k above (omega (arith, last-long)) ∙ sym (line_numbers (line_so_far rows (places ++ (row, column) ∷ [])) (rows + columns) k (omega (arith, last-long)))
        ])

-- what the order of places says of their rows and columns
cmp_cases : (o p : Ordering) → ordering_then o p ≡ Less → (o ≡ Less) ⊎ ((o ≡ Equal) × (p ≡ Less))
cmp_cases Less p less = inl refl
cmp_cases Equal p less = inr (refl, less)
cmp_cases Greater p less = cc

ascending_columns : (places : List Place) (row : ℕ) → IsAscendingBy place_cmp places → IsAscendingBy nat_cmp (columns_in places row)
ascending_columns [] row up = tt
ascending_columns (place ∷ places) row up = by_test (place.0 == row) refl (ascending_columns places row up.1)
  where
    behind : place.0 ≡ row → (n : ℕ) → IsIn (columns_in places row) n → nat_cmp place.1 n ≡ Less
    behind at n there =
        let found = from_map (λ (p : Place). p.1) (filter (λ (p : Place). p.0 == row) places) n there in
        let is = from_filter (λ (p : Place). p.0 == row) places found.0 found.1 in
        let other-row : found.0.0 ≡ row = eqb-true found.0.0 row is.1 in
        subst (λ m. nat_cmp place.1 m ≡ Less) found.2 (by_order found.0 other-row (cmp_cases (nat_cmp place.0 found.0.0) (nat_cmp place.1 found.0.1) (all_in (λ q. place_cmp place q ≡ Less) places found.0 up.0 is.0)))
      where
        by_order : (other : Place) → other.0 ≡ row → (nat_cmp place.0 other.0 ≡ Less) ⊎ ((nat_cmp place.0 other.0 ≡ Equal) × (nat_cmp place.1 other.1 ≡ Less)) → nat_cmp place.1 other.1 ≡ Less
        by_order other other-row (inl less) = let before = below_from_cmp place.0 other.0 less in absurd (omega (arith, before, other-row, at))
        by_order other other-row (inr tied) = tied.1

    by_test : (b : Bool) → (place.0 == row) ≡ b → IsAscendingBy nat_cmp (columns_in places row) → IsAscendingBy nat_cmp (map (λ (p : Place). p.1) (if b then place ∷ filter (λ (p : Place). p.0 == row) places else filter (λ (p : Place). p.0 == row) places))
    by_test true is rest = (all_from_in (λ n. nat_cmp place.1 n ≡ Less) (columns_in places row) (behind (eqb-true place.0 row is)), rest)
    by_test false is rest = rest

ascending_rows : (places : List Place) (column : ℕ) → IsAscendingBy place_cmp places → IsAscendingBy nat_cmp (rows_in places column)
ascending_rows [] column up = tt
ascending_rows (place ∷ places) column up = by_test (place.1 == column) refl (ascending_rows places column up.1)
  where
    behind : place.1 ≡ column → (n : ℕ) → IsIn (rows_in places column) n → nat_cmp place.0 n ≡ Less
    behind at n there =
        let found = from_map (λ (p : Place). p.0) (filter (λ (p : Place). p.1 == column) places) n there in
        let is = from_filter (λ (p : Place). p.1 == column) places found.0 found.1 in
        let other-column : found.0.1 ≡ column = eqb-true found.0.1 column is.1 in
        subst (λ m. nat_cmp place.0 m ≡ Less) found.2 (by_order found.0 other-column (cmp_cases (nat_cmp place.0 found.0.0) (nat_cmp place.1 found.0.1) (all_in (λ q. place_cmp place q ≡ Less) places found.0 up.0 is.0)))
      where
        by_order : (other : Place) → other.1 ≡ column → (nat_cmp place.0 other.0 ≡ Less) ⊎ ((nat_cmp place.0 other.0 ≡ Equal) × (nat_cmp place.1 other.1 ≡ Less)) → nat_cmp place.0 other.0 ≡ Less
        by_order other other-column (inl less) = less
        by_order other other-column (inr tied) = let before = below_from_cmp place.1 other.1 tied.1 in absurd (omega (arith, before, other-column, at))

    by_test : (b : Bool) → (place.1 == column) ≡ b → IsAscendingBy nat_cmp (rows_in places column) → IsAscendingBy nat_cmp (map (λ (p : Place). p.0) (if b then place ∷ filter (λ (p : Place). p.1 == column) places else filter (λ (p : Place). p.1 == column) places))
    by_test true is rest = (all_from_in (λ n. nat_cmp place.0 n ≡ Less) (rows_in places column) (behind (eqb-true place.1 column is)), rest)
    by_test false is rest = rest

ascending_front : {X : Type 0} (cmp : X → X → Ordering) (xs ys : List X) → IsAscendingBy cmp (xs ++ ys) → IsAscendingBy cmp xs
ascending_front cmp [] ys up = tt
ascending_front cmp (x ∷ xs) ys up = (all_from_in (λ y. cmp x y ≡ Less) xs (λ y there. all_in (λ z. cmp x z ≡ Less) (xs ++ ys) y up.0 (in_left xs ys y there)), ascending_front cmp xs ys up.1)

-- what stands before the last number of an ascending list
before_last : (xs : List ℕ) (x : ℕ) → IsAscendingBy nat_cmp (xs ++ x ∷ []) → AllByRecursion (λ y. y < x) xs
before_last [] x up = tt
before_last (y ∷ ys) x up = (below_from_cmp y x (all_in (λ z. nat_cmp y z ≡ Less) (ys ++ x ∷ []) x up.0 (in_right ys (x ∷ []) x (inl refl))), before_last ys x up.1)

pub ascending_to : (places : List Place) (i : ℕ) (d : Place) → i < length places → IsAscendingBy place_cmp places → IsAscendingBy place_cmp (take i places ++ get_or places i d ∷ [])
ascending_to places i d below up =
    subst (IsAscendingBy place_cmp) (take_more places i d below) (ascending_front place_cmp (take (i + 1) places) (drop (i + 1) places) (subst (IsAscendingBy place_cmp) (sym (take-append-drop (i + 1) places)) up))

-- a place behind all others is behind those of its row and of its column
module _ (rows columns : ℕ) (places : List Place) (row column : ℕ) (up : IsAscendingBy place_cmp (places ++ (row, column) ∷ [])) (within : IsWithin rows columns (row, column)) (lines : List Line2)
    (so-far : lines ≡ lines_so_far rows columns places) where
  columns-before : AllByRecursion (λ other. other < column) (columns_in places row)
  columns-before =
      let here : columns_in ((row, column) ∷ []) row ≡ column ∷ [] = ap (λ b. map (λ (p : Place). p.1) (if b then (row, column) ∷ [] else [])) (eq-eqb row row refl) in
      before_last (columns_in places row) column
      (subst (IsAscendingBy nat_cmp) (columns_push places (row, column) row ∙ ap (λ ns. columns_in places row ++ ns) here) (ascending_columns (places ++ (row, column) ∷ []) row up))

  rows-before : AllByRecursion (λ other. other < row) (rows_in places column)
  rows-before =
      let here : rows_in ((row, column) ∷ []) column ≡ row ∷ [] = ap (λ b. map (λ (p : Place). p.0) (if b then (row, column) ∷ [] else [])) (eq-eqb column column refl) in
      before_last (rows_in places column) row
      (subst (IsAscendingBy nat_cmp) (rows_push places (row, column) column ∙ ap (λ ns. rows_in places column ++ ns) here) (ascending_rows (places ++ (row, column) ∷ []) column up))

  line-is : (loc : ℕ) → loc < rows + columns → line_at lines loc ≡ line_so_far rows places loc
  line-is loc below = ap (λ ls. line_at ls loc) so-far ∙ line_numbers (line_so_far rows places) (rows + columns) loc below

  pub row_behind : AllByRecursion (λ other. other < column) (numbers_in (line_at lines (row - 1)))
  row_behind =
      let below : row - 1 < rows = omega (arith, within.row.0, within.row.1) in
      let same : suc (row - 1) ≡ row = omega (arith, within.row.0) in
      subst (λ line. AllByRecursion (λ other. other < column) (numbers_in line)) (sym (line-is (row - 1) (omega arith) ∙ so_far_row rows columns places (row - 1) below))
      (subst (λ r. AllByRecursion (λ other. other < column) (columns_in places r)) (sym same) columns-before)

  pub column_behind : (middle : List Line2) (line : Line2) → middle ≡ slice_set lines (row - 1) line → AllByRecursion (λ other. other < row) (numbers_in (line_at middle (rows + (column - 1))))
  column_behind middle line first =
      let same : suc ((rows + (column - 1)) - rows) ≡ column = omega (arith, within.column.0) in
      let untouched : line_at middle (rows + (column - 1)) ≡ line_at lines (rows + (column - 1)) =
      ap (λ ls. line_at ls (rows + (column - 1))) first ∙ get_or-set_other lines (row - 1) (rows + (column - 1)) line no_line (λ at. omega (arith, at, within.row.0, within.row.1)) in
      subst (λ l. AllByRecursion (λ other. other < row) (numbers_in l))
      (sym (untouched ∙ line-is (rows + (column - 1)) (omega (arith, within.column.0, within.column.1)) ∙ so_far_column rows columns places (rows + (column - 1)) (omega arith)))
      (subst (λ c. AllByRecursion (λ other. other < row) (rows_in places c)) (sym same) rows-before)

has_columns : (places : List Place) (row n : ℕ) → has (columns_in places row) n ≡ is_among places (row, n)
has_columns places row n = same_tests (has (columns_in places row) n) (is_among places (row, n))
    (λ there.
    let found = from_map (λ (p : Place). p.1) (filter (λ (p : Place). p.0 == row) places) n (in_has (columns_in places row) n there) in
    let is = from_filter (λ (p : Place). p.0 == row) places found.0 found.1 in
    any_from (is_same (row, n)) places found.0 is.0 (and_from (row == found.0.0) (n == found.0.1) (eq-eqb row found.0.0 (sym (eqb-true found.0.0 row is.1))) (eq-eqb n found.0.1 (sym found.2))))
    (λ among.
    let found = any_found (is_same (row, n)) places among in
    let both = and_parts (row == found.0.0) (n == found.0.1) found.2 in
    has_in (columns_in places row) n (subst (IsIn (columns_in places row)) (sym (eqb-true n found.0.1 both.1))
    (in_map (λ (p : Place). p.1) (filter (λ (p : Place). p.0 == row) places) found.0 (in_filter (λ (p : Place). p.0 == row) places found.0 found.1 (eq-eqb found.0.0 row (sym (eqb-true row found.0.0 both.0)))))))

has_rows : (places : List Place) (column n : ℕ) → has (rows_in places column) n ≡ is_among places (n, column)
has_rows places column n = same_tests (has (rows_in places column) n) (is_among places (n, column))
    (λ there.
    let found = from_map (λ (p : Place). p.0) (filter (λ (p : Place). p.1 == column) places) n (in_has (rows_in places column) n there) in
    let is = from_filter (λ (p : Place). p.1 == column) places found.0 found.1 in
    any_from (is_same (n, column)) places found.0 is.0 (and_from (n == found.0.0) (column == found.0.1) (eq-eqb n found.0.0 (sym found.2)) (eq-eqb column found.0.1 (sym (eqb-true found.0.1 column is.1)))))
    (λ among.
    let found = any_found (is_same (n, column)) places among in
    let both = and_parts (n == found.0.0) (column == found.0.1) found.2 in
    has_in (rows_in places column) n (subst (IsIn (rows_in places column)) (sym (eqb-true n found.0.0 both.0))
    (in_map (λ (p : Place). p.0) (filter (λ (p : Place). p.1 == column) places) found.0 (in_filter (λ (p : Place). p.1 == column) places found.0 found.1 (eq-eqb found.0.1 column (sym (eqb-true column found.0.1 both.1)))))))

module _ (pattern : Pattern) (is : IsPattern pattern) where
  columns_list : (row : ℕ) → IsListTo pattern.cols (columns_in pattern.places row)
  columns_list row = record {
    ascending = ascending_columns pattern.places row is.ascending;
    within = all_from_in (λ n. (1 ≤ n) × (n ≤ pattern.cols)) (columns_in pattern.places row) (λ n there.
        let found = from_map (λ (p : Place). p.1) (filter (λ (p : Place). p.0 == row) pattern.places) n there in
        let inside = all_in (IsWithin pattern.rows pattern.cols) pattern.places found.0 is.within (from_filter (λ (p : Place). p.0 == row) pattern.places found.0 found.1).0 in
        subst (λ m. (1 ≤ m) × (m ≤ pattern.cols)) found.2 inside.column);
  }

  rows_list : (column : ℕ) → IsListTo pattern.rows (rows_in pattern.places column)
  rows_list column = record {
    ascending = ascending_rows pattern.places column is.ascending;
    within = all_from_in (λ n. (1 ≤ n) × (n ≤ pattern.rows)) (rows_in pattern.places column) (λ n there.
        let found = from_map (λ (p : Place). p.0) (filter (λ (p : Place). p.1 == column) pattern.places) n there in
        let inside = all_in (IsWithin pattern.rows pattern.cols) pattern.places found.0 is.within (from_filter (λ (p : Place). p.1 == column) pattern.places found.0 found.1).0 in
        subst (λ m. (1 ≤ m) × (m ≤ pattern.rows)) found.2 inside.row);
  }

  line_made : (loc : ℕ) → line_so_far pattern.rows pattern.places loc ≡ start_line pattern loc
  line_made loc = by_test (nat_lt loc pattern.rows)
    where
      by_test : (b : Bool) → (if b then Row (columns_in pattern.places (suc loc)) false else Col (rows_in pattern.places (suc (loc - pattern.rows))))
          ≡ (if b then Row (listed pattern.cols (λ column. is_among pattern.places (suc loc, suc column))) false else Col (listed pattern.rows (λ row. is_among pattern.places (suc row, suc (loc - pattern.rows)))))
      by_test true = ap (λ ns. Row ns false) (list_is_listed pattern.cols (λ column. is_among pattern.places (suc loc, suc column)) (columns_in pattern.places (suc loc)) (columns_list (suc loc)) (λ n below. has_columns pattern.places (suc loc) (suc n)))
      by_test false = ap Col (list_is_listed pattern.rows (λ row. is_among pattern.places (suc row, suc (loc - pattern.rows))) (rows_in pattern.places (suc (loc - pattern.rows))) (rows_list (suc (loc - pattern.rows))) (λ n below. has_rows pattern.places (suc (loc - pattern.rows)) (suc n)))

  pub all_put : lines_so_far pattern.rows pattern.cols pattern.places ≡ start_cells pattern
  all_put = map_same (numbers_from 0 (pattern.rows + pattern.cols))
    where
      map_same : (locs : List ℕ) → map (line_so_far pattern.rows pattern.places) locs ≡ map (start_line pattern) locs
      map_same [] = refl
      map_same (loc ∷ locs) = ap (λ line. line ∷ map (line_so_far pattern.rows pattern.places) locs) (line_made loc) ∙ ap (λ lines. start_line pattern loc ∷ lines) (map_same locs)

-- without a place no line has a one
pub none_put : (rows columns : ℕ) → map (empty_line rows) (numbers_from 0 (rows + columns)) ≡ lines_so_far rows columns []
none_put rows columns = refl

pub length_so_far : (rows columns : ℕ) (places : List Place) → length (lines_so_far rows columns places) ≡ rows + columns
length_so_far rows columns places = length_numbers (line_so_far rows places) 0 (rows + columns)

-- the first cells are lines
module _ (pattern : Pattern) where
  row_at_start : (row : ℕ) → row < pattern.rows → line_at (start_cells pattern) row ≡ Row (listed pattern.cols (λ column. is_among pattern.places (suc row, suc column))) false
  row_at_start row below = line_numbers (start_line pattern) (pattern.rows + pattern.cols) row (omega arith) ∙ rw (lt-ltb row pattern.rows below) refl

  column_at_start : (column : ℕ) → column < pattern.cols → line_at (start_cells pattern) (pattern.rows + column) ≡ Col (listed pattern.rows (λ row. is_among pattern.places (suc row, suc column)))
  column_at_start column below =
      let same : (pattern.rows + column) - pattern.rows ≡ column = omega arith in
      line_numbers (start_line pattern) (pattern.rows + pattern.cols) (pattern.rows + column) (omega arith) ∙ rw (le-ltb (pattern.rows + column) pattern.rows (omega arith), same) refl

  pub start_fit : AreLines pattern.rows pattern.cols (start_cells pattern)
  start_fit = record {
    count = length_numbers (start_line pattern) 0 (pattern.rows + pattern.cols);
    each_row = λ row below. subst (IsRow pattern.cols) (sym (row_at_start row below)) (listed_list pattern.cols (λ column. is_among pattern.places (suc row, suc column)));
    each_column = λ column below. subst (IsColumn pattern.rows) (sym (column_at_start column below)) (listed_list pattern.rows (λ row. is_among pattern.places (suc row, suc column)));
    agree = λ row column row-below below.
        ap (λ line. has (numbers_in line) (suc column)) (row_at_start row row-below) ∙ has_listed pattern.cols (λ c. is_among pattern.places (suc row, suc c)) column below
        ∙ sym (ap (λ line. has (numbers_in line) (suc row)) (column_at_start column below) ∙ has_listed pattern.rows (λ r. is_among pattern.places (suc r, suc column)) row row-below);
  }

pub tasks_fit : (rows columns : ℕ) → AreFitStarts (elimination rows columns) (map start_task (numbers_from 0 columns))
tasks_fit rows columns = all_from_in (λ start. IsElimination columns start.prio start.body) (map start_task (numbers_from 0 columns)) (λ start there.
    let found = from_map start_task (numbers_from 0 columns) start there in
    let below : found.0 < columns = omega (arith, (from_numbers 0 columns found.0 found.1).1) in
    subst (λ (s : Start). IsElimination columns s.prio s.body) found.2 (record { kind = refl; at = below; arg = refl }))
