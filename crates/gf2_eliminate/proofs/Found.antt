-- The set of a column is what was found of it.
use Rattle.std.specs.Prelude.{◌≡◌, ℕ, suc, ◌+◌, ◌-◌, ◌<◌, ◌≤◌, true, ◌==◌, List, [], ◌∷◌, length, map, filter, None, refl}
use Rattle.std.specs.List.{AllByRecursion, list_any}
use Rattle.std.specs.Ordering.{nat_cmp}
use Rattle.std.proofs.Common.{inl, inr, arith, sym, ap, ◌∙◌, subst}
use Rattle.std.proofs.lemmas.Bool.{or_cases, or_left, or_right, eqb-true, eq-eqb}
use Rattle.plain_laws.specs.Orderings.{nat_cmp-below, below_from_cmp}
use Rattle.rw_sets.specs.Accesses.{merged}
use Rattle.rw_sets.specs.MergeLaws.{merged_none}
use Rattle.cell_store.specs.declared.cell.Cell.{Cell}
use Rattle.cell_store.specs.declared.cell.Cell.TheVariants.{Home, Out}
use Rattle.cell_store.specs.Cells.{cell_at}
use Rattle.cell_store.specs.Values.{AgreesWith}
use Rattle.mtx_reader.specs.Ascending.{IsAscendingBy, IsIn, numbers_from, all_from_in, in_left, in_right, in_either, in_map, from_map, in_filter, from_filter, ascending_append, ascending_filter, ascending_map, same_numbers, in_numbers, from_numbers, ascending_numbers}
use Rattle.gf2_eliminate.specs.declared.line.Line2.{Line2}
use Rattle.gf2_eliminate.specs.declared.line.Line2.TheVariants.{Row, Col}
use Rattle.gf2_eliminate.specs.Lines.{numbers_in, has, line_at, holds, IsListTo, IsRow, IsColumn, AreLines}
use Rattle.gf2_eliminate.specs.Elimination.{first_of, writing, is_touched, set_of, shown, is_out}
use Rattle.gf2_eliminate.specs.Touched.{ones_at, is_marked, touched_locs, AreRowsTo, HaveColumns}
use Rattle.gf2_eliminate.specs.Membership.{any_found, any_from, list_is_listed, in_written, written_in, ascending_writing}
use Rattle.gf2_eliminate.specs.Lawful.{IsNamed, OfRow, OfItself, OfColumn, number_within, named_from_some, some_from_named, home_is, shown_is, row_shown, needed_row, row_needed, row_home, shown_set}

pred_suc : (ns : List ℕ) → map (λ n. n - 1) (map suc ns) ≡ ns
pred_suc [] = refl
pred_suc (n ∷ ns) = let same : suc n - 1 ≡ n = omega arith in ap (λ m. m ∷ map (λ k. k - 1) (map suc ns)) same ∙ ap (λ ms. n ∷ ms) (pred_suc ns)

column_list : (rows : ℕ) (line : Line2) → IsColumn rows line → IsListTo rows (numbers_in line)
column_list rows (Row numbers used) column = absurd column
column_list rows (Col numbers) column = column

module _ (rows columns column : ℕ) (cells : List (Cell Line2)) (values : List Line2) (fit : AreLines rows columns values) (within : column < columns) (agrees : AgreesWith cells values)
    (line : Line2) (asked : cell_at cells (rows + column) ≡ Home line) where
  line_is : line ≡ line_at values (rows + column)
  line_is = home_is rows columns column cells values fit within agrees (rows + column) line (omega arith) asked

  list : IsListTo rows (numbers_in line)
  list = column_list rows line (subst (IsColumn rows) (sym line_is) (fit.each_column column within))

  pub rows_within : AreRowsTo (length cells) (numbers_in line)
  rows_within = all_from_in (λ row. (1 ≤ row) × (row ≤ length cells)) (numbers_in line) (λ row there.
      let is = number_within line row (subst (IsColumn rows) (sym line_is) (fit.each_column column within)) there in
      (is.0, omega (arith, is.1, fit.count, agrees.as_many)))

  ones_within : (loc : ℕ) → loc < rows → (cell : Cell Line2) → cell_at cells loc ≡ cell → AllByRecursion (λ number. (1 ≤ number) × (number ≤ columns)) (numbers_in (shown cell))
  ones_within loc below Out is = tt
  ones_within loc below (Home row) is =
      by_row row (subst (IsRow columns) (sym (home_is rows columns column cells values fit within agrees loc row (omega arith) is)) (fit.each_row loc below))
    where
      by_row : (l : Line2) → IsRow columns l → AllByRecursion (λ number. (1 ≤ number) × (number ≤ columns)) (numbers_in l)
      by_row (Row numbers used) row-is = row-is.within
      by_row (Col numbers) row-is = absurd row-is

  pub columns_within : HaveColumns cells columns (numbers_in line)
  columns_within = all_from_in (λ row. AllByRecursion (λ number. (1 ≤ number) × (number ≤ columns)) (ones_at cells (row - 1))) (numbers_in line) (λ row there.
      let is = number_within line row (subst (IsColumn rows) (sym line_is) (fit.each_column column within)) there in
      ones_within (row - 1) (omega (arith, is.0, is.1)) (cell_at cells (row - 1)) refl)

  locations_are : map (λ row. row - 1) (numbers_in line) ≡ filter (λ row. holds values row column) (numbers_from 0 rows)
  locations_are =
      ap (map (λ row. row - 1)) (list_is_listed rows (λ row. holds values row column) (numbers_in line) list
      (λ row below. ap (λ l. has (numbers_in l) (suc row)) line_is ∙ sym (fit.agree row column below within)))
      ∙ pred_suc (filter (λ row. holds values row column) (numbers_from 0 rows))

  module _ (none : first_of (filter (λ loc. is_out (cell_at cells loc)) (map (λ row. row - 1) (numbers_in line))) ≡ None) where
    -- the ones of a row of the column
    ones_are : (row : ℕ) → row < rows → holds values row column ≡ true → ones_at cells row ≡ numbers_in (line_at values row)
    ones_are row below held =
        let same = (row_shown rows columns column cells values fit within agrees row (cell_at cells row) below refl (λ h. row_home rows columns column cells values fit within agrees line asked none row below h)).1 held in
        ap numbers_in (sym (same ∙ shown_is rows columns column cells values fit within agrees row (omega arith)))

    in_touched : (loc : ℕ) → IsNamed rows columns column values loc → IsIn (filter (is_touched rows columns column values) (numbers_from 0 (rows + columns))) loc
    in_touched loc named = in_written (filter (is_touched rows columns column values) (numbers_from 0 (rows + columns))) loc (some_from_named rows columns column values loc within named)

    named_marked : (other : ℕ) → other < columns → is_marked cells column (numbers_in line) other ≡ true → IsNamed rows columns column values (rows + other)
    named_marked other below marked = elim (or_cases (other == column) (list_any (λ row. has (ones_at cells (row - 1)) (suc other)) (numbers_in line)) marked) [
      | inl itself ↦ OfItself (ap (λ o. rows + o) (sym (eqb-true other column itself)))
      | inr shared ↦
          let found = any_found (λ row. has (ones_at cells (row - 1)) (suc other)) (numbers_in line) shared in
          let row = needed_row rows columns column cells values fit within agrees line asked (found.0 - 1) (in_map (λ r. r - 1) (numbers_in line) found.0 found.1) in
          OfColumn other below refl (found.0 - 1, row.0, row.1, ap (λ ns. has ns (suc other)) (sym (ones_are (found.0 - 1) row.0 row.1)) ∙ found.2)
    ]

    marked_shared : (other row : ℕ) → row < rows → holds values row column ≡ true → holds values row other ≡ true → is_marked cells column (numbers_in line) other ≡ true
    marked_shared other row below held has-it =
        let found = from_map (λ r. r - 1) (numbers_in line) row (row_needed rows columns column cells values fit within agrees line asked row below held) in
        or_right (other == column) (list_any (λ r. has (ones_at cells (r - 1)) (suc other)) (numbers_in line))
        (any_from (λ r. has (ones_at cells (r - 1)) (suc other)) (numbers_in line) found.0 found.1
        (subst (λ l. has (ones_at cells l) (suc other) ≡ true) (sym found.2) (ap (λ ns. has ns (suc other)) (ones_are row below held) ∙ has-it)))

    in_back : (other : ℕ) → other < columns → is_marked cells column (numbers_in line) other ≡ true → IsIn (map (λ o. rows + o) (filter (is_marked cells column (numbers_in line)) (numbers_from 0 columns))) (rows + other)
    in_back other below marked =
        in_map (λ o. rows + o) (filter (is_marked cells column (numbers_in line)) (numbers_from 0 columns)) other
        (in_filter (is_marked cells column (numbers_in line)) (numbers_from 0 columns) other (in_numbers 0 columns other (omega arith) (omega arith)) marked)

    in_locs : (loc : ℕ) → IsNamed rows columns column values loc → IsIn (touched_locs rows columns column (numbers_in line) cells) loc
    in_locs loc (OfRow below held) =
        in_left (map (λ row. row - 1) (numbers_in line)) (map (λ o. rows + o) (filter (is_marked cells column (numbers_in line)) (numbers_from 0 columns))) loc
        (row_needed rows columns column cells values fit within agrees line asked loc below held)
    in_locs loc (OfItself at) =
        in_right (map (λ row. row - 1) (numbers_in line)) (map (λ o. rows + o) (filter (is_marked cells column (numbers_in line)) (numbers_from 0 columns))) loc
        (subst (IsIn (map (λ o. rows + o) (filter (is_marked cells column (numbers_in line)) (numbers_from 0 columns)))) at
        (in_back column within (or_left (column == column) (list_any (λ r. has (ones_at cells (r - 1)) (suc column)) (numbers_in line)) (eq-eqb column column refl))))
    in_locs loc (OfColumn other below at shares) =
        in_right (map (λ row. row - 1) (numbers_in line)) (map (λ o. rows + o) (filter (is_marked cells column (numbers_in line)) (numbers_from 0 columns))) loc
        (subst (IsIn (map (λ o. rows + o) (filter (is_marked cells column (numbers_in line)) (numbers_from 0 columns)))) at (in_back other below (marked_shared other shares.0 shares.1 shares.2 shares.3)))

    named_in : (loc : ℕ) → IsIn (touched_locs rows columns column (numbers_in line) cells) loc → IsNamed rows columns column values loc
    named_in loc there = elim (in_either (map (λ row. row - 1) (numbers_in line)) (map (λ o. rows + o) (filter (is_marked cells column (numbers_in line)) (numbers_from 0 columns))) loc there) [
      | inl row ↦ let is = needed_row rows columns column cells values fit within agrees line asked loc row in OfRow is.0 is.1
      | inr col ↦
          let found = from_map (λ o. rows + o) (filter (is_marked cells column (numbers_in line)) (numbers_from 0 columns)) loc col in
          let is = from_filter (is_marked cells column (numbers_in line)) (numbers_from 0 columns) found.0 found.1 in
          subst (IsNamed rows columns column values) found.2 (named_marked found.0 (omega (arith, (from_numbers 0 columns found.0 is.0).1)) is.1)
    ]

    ascending_locs : IsAscendingBy nat_cmp (touched_locs rows columns column (numbers_in line) cells)
    ascending_locs =
        ascending_append nat_cmp (map (λ row. row - 1) (numbers_in line)) (map (λ o. rows + o) (filter (is_marked cells column (numbers_in line)) (numbers_from 0 columns)))
        (subst (IsAscendingBy nat_cmp) (sym locations_are) (ascending_filter nat_cmp (λ row. holds values row column) (numbers_from 0 rows) (ascending_numbers 0 rows)))
        (ascending_map nat_cmp nat_cmp (λ o. rows + o) (λ x y less. nat_cmp-below (rows + x) (rows + y) (omega (arith, below_from_cmp x y less))) (filter (is_marked cells column (numbers_in line)) (numbers_from 0 columns))
        (ascending_filter nat_cmp (is_marked cells column (numbers_in line)) (numbers_from 0 columns) (ascending_numbers 0 columns)))
        (λ x y here there.
        let is = needed_row rows columns column cells values fit within agrees line asked x here in
        let found = from_map (λ o. rows + o) (filter (is_marked cells column (numbers_in line)) (numbers_from 0 columns)) y there in
        nat_cmp-below x y (omega (arith, is.0, found.2)))

    pub set_found : merged [] (writing (touched_locs rows columns column (numbers_in line) cells)) ≡ set_of rows columns column (map shown cells)
    set_found =
        merged_none (writing (touched_locs rows columns column (numbers_in line) cells)) (ascending_writing (touched_locs rows columns column (numbers_in line) cells) ascending_locs)
        ∙ ap writing (same_numbers (touched_locs rows columns column (numbers_in line) cells) (filter (is_touched rows columns column values) (numbers_from 0 (rows + columns))) ascending_locs
        (ascending_filter nat_cmp (is_touched rows columns column values) (numbers_from 0 (rows + columns)) (ascending_numbers 0 (rows + columns)))
        (λ loc there. in_touched loc (named_in loc there))
        (λ loc there. in_locs loc (named_from_some rows columns column values loc (rw (written_in (filter (is_touched rows columns column values) (numbers_from 0 (rows + columns))) loc there) refl)).1))
        ∙ shown_set rows columns column cells values fit within agrees line asked none
