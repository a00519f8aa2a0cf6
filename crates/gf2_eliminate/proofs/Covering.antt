-- The rows and columns of a task's set, as a cover takes them row by row.
use Rattle.std.specs.Prelude.{◌≡◌, ℕ, suc, ◌+◌, ◌-◌, ◌*◌, ◌<◌, ◌≤◌, Bool, true, false, ◌&&◌, ◌||◌, ◌==◌, nat_lt, List, Option, Some, None, is_some, IfSome, IfNone, IsTrue, refl}
use Rattle.std.proofs.Common.{◌⊎◌, inl, inr, arith, sym, ap, ◌∙◌, subst}
use Rattle.std.proofs.lemmas.Bool.{cases_lt, eq-eqb, eqb-true, false_from_ne_true, le-ltb, lt-ltb, or_cases, or_from, or_left, or_right, true≢false}
use Rattle.std.proofs.lemmas.List.{get_or-map}
use Rattle.plain_laws.specs.Bools.{same_tests}
use Rattle.rw_sets.specs.Accesses.{writes}
use Rattle.rw_sets.specs.AccessLaws.{has_from_writes}
use Rattle.cell_store.specs.declared.cell.Cell.{Cell}
use Rattle.cell_store.specs.declared.cell.Cell.TheVariants.{Home, Out}
use Rattle.cell_store.specs.Home.{IsHome}
use Rattle.cell_store.specs.Cells.{cell_at}
use Rattle.cell_store.specs.Values.{values_of}
use Rattle.mtx_reader.specs.declared.pattern.Pattern.{Pattern}
use Rattle.mtx_reader.specs.Ascending.{all_in}
use Rattle.gf2_eliminate.specs.declared.cover.LineCover.{LineCover}
use Rattle.gf2_eliminate.specs.declared.line.Line2.{Line2}
use Rattle.gf2_eliminate.specs.declared.line.Line2.TheVariants.{Row, Col}
use Rattle.gf2_eliminate.specs.Covers.{covers, IsAtHome, IsCommon, IsFirstBeyond, IsFirstCommon, IsLeastBeyond, IsLeastCommon, IsSharedAmong}
use Rattle.gf2_eliminate.specs.Elimination.{is_shared, set_of}
use Rattle.gf2_eliminate.specs.Lines.{no_line, numbers_in, has, line_at, holds, IsListTo, IsRow, IsColumn}
use Rattle.gf2_eliminate.specs.Membership.{in_has}
use Rattle.gf2_eliminate.specs.Lawful.{IsNamed, OfRow, OfItself, OfColumn, SharesRow, named_from_some, number_within, shared_found, shared_from, writes_from_named}
use Rattle.gf2_eliminate.proofs.Marking.{or_assoc}

row_list : (columns : ℕ) (line : Line2) → IsRow columns line → IsListTo columns (numbers_in line)
row_list columns (Row numbers used) row = row
row_list columns (Col numbers) row = absurd row

module _ (pattern : Pattern) (column : ℕ) (cells : List (Cell Line2)) where
  -- what the columns are before the rows from one place on: what they were, and those that share an earlier row with the column
  pub record AreAdded (start columns : List ℕ) (from : ℕ) : Type 0 where
    pub some : 1 ≤ from
    pub few : from ≤ pattern.rows + 1
    pub kept : (other : ℕ) → other < pattern.cols → has start (suc other) ≡ true → has columns (suc other) ≡ true
    pub found : (row other : ℕ) → row < pattern.rows → row + 1 < from → other < pattern.cols → holds (values_of cells) row column ≡ true → holds (values_of cells) row other ≡ true → has columns (suc other) ≡ true
    pub only : (other : ℕ) → other < pattern.cols → has columns (suc other) ≡ true → (has start (suc other) ≡ true) ⊎ SharesRow pattern.rows pattern.cols (values_of cells) column other

  -- none of the columns is among these that shares a row before one place with the column
  pub record HasNone (columns : List ℕ) (from : ℕ) : Type 0 where
    pub some : 1 ≤ from
    pub few : from ≤ pattern.rows + 1
    pub none : (row other : ℕ) → row < pattern.rows → row + 1 < from → holds (values_of cells) row column ≡ true → holds (values_of cells) row other ≡ true → has columns (suc other) ≡ false

module _ (pattern : Pattern) (column : ℕ) (cells : List (Cell Line2)) (at-home : IsAtHome pattern column cells) where
  cell_is : (loc : ℕ) → loc < pattern.rows + pattern.cols → cell_at cells loc ≡ Home (line_at (values_of cells) loc)
  cell_is loc below = ap (λ cs. cell_at cs loc) at-home.home ∙ get_or-map Home (values_of cells) loc no_line Out (omega (arith, at-home.fit.count))

  pub column_home : IsHome (cell_at cells (pattern.rows + column))
  column_home = subst IsHome (sym (cell_is (pattern.rows + column) (omega (arith, at-home.within)))) tt

  line_is : (loc : ℕ) (line : Line2) → loc < pattern.rows + pattern.cols → cell_at cells loc ≡ Home line → line ≡ line_at (values_of cells) loc
  line_is loc line below is = let same : Home line ≡ Home (line_at (values_of cells) loc) = sym is ∙ cell_is loc below in (cc)

  -- the rows of the column
  module _ (line : Line2) (is : cell_at cells (pattern.rows + column) ≡ Home line) where
    held_is : (row : ℕ) → row < pattern.rows → holds (values_of cells) row column ≡ has (numbers_in line) (suc row)
    held_is row below = at-home.fit.agree row column below at-home.within ∙ ap (λ l. has (numbers_in l) (suc row)) (sym (line_is (pattern.rows + column) line (omega (arith, at-home.within)) is))

    pub row_within : (number : ℕ) → has (numbers_in line) number ≡ true → (1 ≤ number) × (number ≤ pattern.rows)
    row_within number there =
        number_within line number (subst (IsColumn pattern.rows) (sym (line_is (pattern.rows + column) line (omega (arith, at-home.within)) is)) (at-home.fit.each_column column at-home.within)) (in_has (numbers_in line) number there)

    pub row_home : (number : ℕ) → has (numbers_in line) number ≡ true → IsHome (cell_at cells (number - 1))
    row_home number there =
        let within = row_within number there in
        subst IsHome (sym (cell_is (number - 1) (omega (arith, within.0, within.1)))) tt

    -- the columns of such a row
    module _ (number : ℕ) (there : has (numbers_in line) number ≡ true) (row : Line2) (row-is : cell_at cells (number - 1) ≡ Home row) where
      held_there : holds (values_of cells) (number - 1) column ≡ true
      held_there =
          let within = row_within number there in
          let same : suc (number - 1) ≡ number = omega (arith, within.0) in
          held_is (number - 1) (omega (arith, within.0, within.1)) ∙ ap (has (numbers_in line)) same ∙ there

      holds_is : (other : ℕ) → holds (values_of cells) (number - 1) other ≡ has (numbers_in row) (suc other)
      holds_is other =
          let within = row_within number there in
          ap (λ l. has (numbers_in l) (suc other)) (sym (line_is (number - 1) row (omega (arith, within.0, within.1)) row-is))

      shares_through : (other : ℕ) → has (numbers_in row) (suc other) ≡ true → SharesRow pattern.rows pattern.cols (values_of cells) column other
      shares_through other has-it =
          let within = row_within number there in
          (number - 1, omega (arith, within.0, within.1), held_there, holds_is other ∙ has-it)

      columns_within : (place : ℕ) → has (numbers_in row) place ≡ true → place ≤ pattern.cols
      columns_within place has-it =
          let within = row_within number there in
          let list = row_list pattern.cols (line_at (values_of cells) (number - 1)) (at-home.fit.each_row (number - 1) (omega (arith, within.0, within.1))) in
          let same = ap numbers_in (line_is (number - 1) row (omega (arith, within.0, within.1)) row-is) in
          (all_in (λ n. (1 ≤ n) × (n ≤ pattern.cols)) (numbers_in (line_at (values_of cells) (number - 1))) place list.within (in_has (numbers_in (line_at (values_of cells) (number - 1))) place (subst (λ ns. has ns place ≡ true) same has-it))).1

    -- one row more: those before it were passed, or the column has them not
    passed_or_here : (from number row : ℕ) → IsLeastCommon (numbers_in line) (numbers_in line) from number → row < pattern.rows → row + 1 < number + 1 → holds (values_of cells) row column ≡ true
        → (row + 1 < from) ⊎ (row ≡ number - 1)
    passed_or_here from number row least below before held = elim (cases_lt (row + 1) from) [
      | inl passed ↦ inl passed
      | inr ahead ↦ elim (cases_lt (suc row) number) [
        | inl earlier ↦
            let there : has (numbers_in line) (suc row) ≡ true = sym (held_is row below) ∙ held in
            absurd (true≢false (sym there ∙ least.least (suc row) (omega (arith, ahead)) earlier there))
        | inr here ↦ inr (omega (arith, here, before))
      ]
    ]

    pub added_none : (start : List ℕ) → AreAdded pattern column cells start start 1
    added_none start = record {
      some = omega arith;
      few = omega arith;
      kept = λ other below there. there;
      found = λ row other row-below before below held has-it. absurd (omega (arith, before));
      only = λ other below there. inl there;
    }

    -- the columns of a row are added, where those of each row that was passed are there
    row_added : (start columns more : List ℕ) (from number words : ℕ) (row : Line2) → pattern.cols < 64 * words → AreAdded pattern column cells start columns from
        → has (numbers_in line) number ≡ true
        → ((r other : ℕ) → r < pattern.rows → r + 1 < number + 1 → other < pattern.cols → holds (values_of cells) r column ≡ true → holds (values_of cells) r other ≡ true → (has columns (suc other) ≡ true) ⊎ (r ≡ number - 1))
        → cell_at cells (number - 1) ≡ Home row
        → ((n : ℕ) → has more n ≡ (has columns n || (nat_lt n (64 * words) && has (numbers_in row) n))) → AreAdded pattern column cells start more (number + 1)
    row_added start columns more from number words row enough added in-line passed row-is each = record {
      some = omega arith;
      few = omega (arith, (row_within number in-line).1);
      kept = λ other below there. was other (added.kept other below there);
      found = λ r other r-below before below held has-it. elim (passed r other r-below before below held has-it) [
        | inl there ↦ was other there
        | inr here ↦
            each (suc other)
            ∙ or_right (has columns (suc other)) (nat_lt (suc other) (64 * words) && has (numbers_in row) (suc other))
            (fits other below ∙ sym (holds_is number in-line row row-is other) ∙ ap (λ k. holds (values_of cells) k other) (sym here) ∙ has-it)
      ];
      only = λ other below there. elim (or_cases (has columns (suc other)) (nat_lt (suc other) (64 * words) && has (numbers_in row) (suc other)) (sym (each (suc other)) ∙ there)) [
        | inl before ↦ added.only other below before
        | inr new ↦ inr (shares_through number in-line row row-is other (sym (fits other below) ∙ new))
      ];
    }
      where
        was : (other : ℕ) → has columns (suc other) ≡ true → has more (suc other) ≡ true
        was other there = each (suc other) ∙ or_left (has columns (suc other)) (nat_lt (suc other) (64 * words) && has (numbers_in row) (suc other)) there

        fits : (other : ℕ) → other < pattern.cols → (nat_lt (suc other) (64 * words) && has (numbers_in row) (suc other)) ≡ has (numbers_in row) (suc other)
        fits other below = ap (λ b. b && has (numbers_in row) (suc other)) (lt-ltb (suc other) (64 * words) (omega (arith, below, enough)))

    pub added_more : (start columns more : List ℕ) (from number words : ℕ) (row : Line2) → pattern.cols < 64 * words → AreAdded pattern column cells start columns from
        → IsLeastCommon (numbers_in line) (numbers_in line) from number → cell_at cells (number - 1) ≡ Home row
        → ((n : ℕ) → has more n ≡ (has columns n || (nat_lt n (64 * words) && has (numbers_in row) n))) → AreAdded pattern column cells start more (number + 1)
    added_more start columns more from number words row enough added least = row_added start columns more from number words row enough added least.in_set
        (λ r other r-below before below held has-it. elim (passed_or_here from number r least r-below before held) [
          | inl passed ↦ inl (added.found r other r-below passed below held has-it)
          | inr here ↦ inr here
        ])

    -- where the columns of these rows are there already, the next row that isn't one of them
    pub added_beyond : (rows start columns more : List ℕ) (from number words : ℕ) (row : Line2)
        → ((r other : ℕ) → r < pattern.rows → other < pattern.cols → has rows (suc r) ≡ true → holds (values_of cells) r other ≡ true → has start (suc other) ≡ true)
        → pattern.cols < 64 * words → AreAdded pattern column cells start columns from
        → IsLeastBeyond (numbers_in line) rows from number → cell_at cells (number - 1) ≡ Home row
        → ((n : ℕ) → has more n ≡ (has columns n || (nat_lt n (64 * words) && has (numbers_in row) n))) → AreAdded pattern column cells start more (number + 1)
    added_beyond rows start columns more from number words row closed enough added least = row_added start columns more from number words row enough added least.in_set
        (λ r other r-below before below held has-it. elim (cases_lt (r + 1) from) [
          | inl passed ↦ inl (added.found r other r-below passed below held has-it)
          | inr ahead ↦ elim (cases_lt (suc r) number) [
            | inl earlier ↦
                inl (added.kept other below (closed r other r-below below (least.least (suc r) (omega (arith, ahead)) earlier (sym (held_is r r-below) ∙ held)) has-it))
            | inr here ↦ inr (omega (arith, here, before))
          ]
        ])

    -- no row is left
    all_passed : (from row : ℕ) → IsFirstCommon (numbers_in line) (numbers_in line) from None → row < pattern.rows → holds (values_of cells) row column ≡ true → row + 1 < from
    all_passed from row none below held = elim (cases_lt (row + 1) from) [
      | inl passed ↦ passed
      | inr ahead ↦
          let there : has (numbers_in line) (suc row) ≡ true = sym (held_is row below) ∙ held in
          absurd (true≢false (sym there ∙ none (suc row) (omega (arith, ahead)) there))
    ]

    -- where the columns of each row of the column are there
    all_added : (start columns : List ℕ) (from : ℕ) → AreAdded pattern column cells start columns from
        → ((row other : ℕ) → row < pattern.rows → other < pattern.cols → holds (values_of cells) row column ≡ true → holds (values_of cells) row other ≡ true → has columns (suc other) ≡ true)
        → (other : ℕ) → other < pattern.cols → has columns (suc other) ≡ (has start (suc other) || is_shared pattern.rows pattern.cols (values_of cells) column other)
    all_added start columns from added each other below =
        same_tests (has columns (suc other)) (has start (suc other) || is_shared pattern.rows pattern.cols (values_of cells) column other)
        (λ there. elim (added.only other below there) [
          | inl before ↦ or_left (has start (suc other)) (is_shared pattern.rows pattern.cols (values_of cells) column other) before
          | inr shares ↦ or_right (has start (suc other)) (is_shared pattern.rows pattern.cols (values_of cells) column other) (shared_from pattern.rows pattern.cols (values_of cells) column other shares)
        ])
        (λ either. elim (or_cases (has start (suc other)) (is_shared pattern.rows pattern.cols (values_of cells) column other) either) [
          | inl before ↦ added.kept other below before
          | inr shared ↦
              let shares = shared_found pattern.rows pattern.cols (values_of cells) column other shared in
              each shares.0 other shares.1 below shares.2 shares.3
        ])

    pub added_all : (start columns : List ℕ) (from : ℕ) → AreAdded pattern column cells start columns from → IsFirstCommon (numbers_in line) (numbers_in line) from None
        → (other : ℕ) → other < pattern.cols → has columns (suc other) ≡ (has start (suc other) || is_shared pattern.rows pattern.cols (values_of cells) column other)
    added_all start columns from added none = all_added start columns from added (λ row other row-below below held. added.found row other row-below (all_passed from row none row-below held) below held)

    pub beyond_all : (rows start columns : List ℕ) (from : ℕ)
        → ((r other : ℕ) → r < pattern.rows → other < pattern.cols → has rows (suc r) ≡ true → holds (values_of cells) r other ≡ true → has start (suc other) ≡ true)
        → AreAdded pattern column cells start columns from → IsFirstBeyond (numbers_in line) rows from None
        → (other : ℕ) → other < pattern.cols → has columns (suc other) ≡ (has start (suc other) || is_shared pattern.rows pattern.cols (values_of cells) column other)
    beyond_all rows start columns from closed added none = all_added start columns from added (λ row other row-below below held has-it. elim (cases_lt (row + 1) from) [
      | inl passed ↦ added.found row other row-below passed below held has-it
      | inr ahead ↦ added.kept other below (closed row other row-below below (none (suc row) (omega (arith, ahead)) (sym (held_is row row-below) ∙ held)) has-it)
    ])

    pub none_yet : (columns : List ℕ) → HasNone pattern column cells columns 1
    none_yet columns = record { some = omega arith; few = omega arith; none = λ row other below before held has-it. absurd (omega (arith, before)) }

    pub none_more : (columns : List ℕ) (from number : ℕ) (row : Line2) (found : Option ℕ) → HasNone pattern column cells columns from → IsLeastCommon (numbers_in line) (numbers_in line) from number
        → cell_at cells (number - 1) ≡ Home row → IsFirstCommon (numbers_in row) columns 1 found → is_some found ≡ false → HasNone pattern column cells columns (number + 1)
    none_more columns from number row (Some place) before least row-is common none = absurd (true≢false none)
    none_more columns from number row None before least row-is common none = record {
      some = omega arith;
      few = omega (arith, (row_within number least.in_set).1);
      none = λ r other below passed held has-it. elim (passed_or_here from number r least below passed held) [
        | inl earlier ↦ before.none r other below earlier held has-it
        | inr here ↦ common (suc other) (omega arith) (sym (holds_is number least.in_set row row-is other) ∙ ap (λ k. holds (values_of cells) k other) (sym here) ∙ has-it)
      ];
    }

    pub some_found : (columns : List ℕ) (number : ℕ) (row : Line2) (found : Option ℕ) → has (numbers_in line) number ≡ true → cell_at cells (number - 1) ≡ Home row
        → IsFirstCommon (numbers_in row) columns 1 found → is_some found ≡ true → IsSharedAmong pattern (values_of cells) column columns found
    some_found columns number row None there row-is common some = absurd (true≢false (sym some))
    some_found columns number row (Some place) there row-is common some =
        let same : suc (place - 1) ≡ place = omega (arith, common.beyond) in (
          common.beyond,
          columns_within number there row row-is place common.in_set,
          shared_from pattern.rows pattern.cols (values_of cells) column (place - 1) (shares_through number there row row-is (place - 1) (ap (has (numbers_in row)) same ∙ common.in_set)),
          common.in_other,
        )

    pub none_found : (columns : List ℕ) (from : ℕ) → HasNone pattern column cells columns from → IsFirstCommon (numbers_in line) (numbers_in line) from None → IsSharedAmong pattern (values_of cells) column columns None
    none_found columns from before none other shared =
        let shares = shared_found pattern.rows pattern.cols (values_of cells) column other shared in
        before.none shares.0 other shares.1 (all_passed from shares.0 none shares.1 shares.2) shares.2 shares.3

    -- the rows of the set are those of the column
    pub writes_row : (row : ℕ) → row < pattern.rows → writes (set_of pattern.rows pattern.cols column (values_of cells)) row ≡ has (numbers_in line) (suc row)
    writes_row row below = same_tests (writes (set_of pattern.rows pattern.cols column (values_of cells)) row) (has (numbers_in line) (suc row))
        (λ written. sym (held_is row below) ∙ row_named (named_from_some pattern.rows pattern.cols column (values_of cells) row (has_from_writes (set_of pattern.rows pattern.cols column (values_of cells)) row written)).1)
        (λ there. writes_from_named pattern.rows pattern.cols column (values_of cells) row at-home.within (OfRow below (held_is row below ∙ there)))
      where
        row_named : IsNamed pattern.rows pattern.cols column (values_of cells) row → holds (values_of cells) row column ≡ true
        row_named (OfRow row-below held) = held
        row_named (OfItself at) = absurd (omega (arith, at, below))
        row_named (OfColumn other other-below at shares) = absurd (omega (arith, at, below))

  -- its columns are the column itself and those that share a row with it
  pub writes_column : (other : ℕ) → other < pattern.cols → writes (set_of pattern.rows pattern.cols column (values_of cells)) (pattern.rows + other) ≡ (column == other || is_shared pattern.rows pattern.cols (values_of cells) column other)
  writes_column other below = same_tests (writes (set_of pattern.rows pattern.cols column (values_of cells)) (pattern.rows + other)) (column == other || is_shared pattern.rows pattern.cols (values_of cells) column other)
      (λ written. column_named (named_from_some pattern.rows pattern.cols column (values_of cells) (pattern.rows + other) (has_from_writes (set_of pattern.rows pattern.cols column (values_of cells)) (pattern.rows + other) written)).1)
      (λ either. writes_from_named pattern.rows pattern.cols column (values_of cells) (pattern.rows + other) at-home.within (named (or_cases (column == other) (is_shared pattern.rows pattern.cols (values_of cells) column other) either)))
    where
      column_named : IsNamed pattern.rows pattern.cols column (values_of cells) (pattern.rows + other) → (column == other || is_shared pattern.rows pattern.cols (values_of cells) column other) ≡ true
      column_named (OfRow row-below held) = absurd (omega (arith, row-below))
      column_named (OfItself at) = or_left (column == other) (is_shared pattern.rows pattern.cols (values_of cells) column other) (eq-eqb column other (omega (arith, at)))
      column_named (OfColumn third third-below at shares) =
          let same : third ≡ other = omega (arith, at) in
          or_right (column == other) (is_shared pattern.rows pattern.cols (values_of cells) column other) (shared_from pattern.rows pattern.cols (values_of cells) column other (subst (SharesRow pattern.rows pattern.cols (values_of cells) column) same shares))

      named : (column == other ≡ true) ⊎ (is_shared pattern.rows pattern.cols (values_of cells) column other ≡ true) → IsNamed pattern.rows pattern.cols column (values_of cells) (pattern.rows + other)
      named (inl itself) = OfItself (ap (λ k. pattern.rows + k) (eqb-true column other itself))
      named (inr shared) = OfColumn other below refl (shared_found pattern.rows pattern.cols (values_of cells) column other shared)

  pub writes_none : (loc : ℕ) → pattern.rows + pattern.cols ≤ loc → writes (set_of pattern.rows pattern.cols column (values_of cells)) loc ≡ false
  writes_none loc past = false_from_ne_true (writes (set_of pattern.rows pattern.cols column (values_of cells)) loc) (λ written.
      let named = named_from_some pattern.rows pattern.cols column (values_of cells) loc (has_from_writes (set_of pattern.rows pattern.cols column (values_of cells)) loc written) in
      omega (arith, named.0, past))

-- covers by rows and by columns
module _ (pattern : Pattern) (cover : LineCover) where
  pub covers_row : (row : ℕ) → row < pattern.rows → covers pattern cover row ≡ has cover.rows (suc row)
  covers_row row below = rw (lt-ltb row pattern.rows below) refl

  pub covers_column : (other : ℕ) → other < pattern.cols → covers pattern cover (pattern.rows + other) ≡ has cover.columns (suc other)
  covers_column other below =
      let same : (pattern.rows + other) - pattern.rows ≡ other = omega arith in
      rw (le-ltb (pattern.rows + other) pattern.rows (omega arith), lt-ltb (pattern.rows + other) (pattern.rows + pattern.cols) (omega arith), same) refl

  pub covers_none : (loc : ℕ) → pattern.rows + pattern.cols ≤ loc → covers pattern cover loc ≡ false
  covers_none loc past = rw (le-ltb loc pattern.rows (omega arith), le-ltb loc (pattern.rows + pattern.cols) past) refl

-- what holds at each row, at each column, and behind them holds everywhere
pub by_lines : (pattern : Pattern) (P : ℕ → Type 0) → ((row : ℕ) → row < pattern.rows → P row) → ((other : ℕ) → other < pattern.cols → P (pattern.rows + other)) → ((loc : ℕ) → pattern.rows + pattern.cols ≤ loc → P loc)
    → (loc : ℕ) → P loc
by_lines pattern P at-rows at-columns behind loc = elim (cases_lt loc pattern.rows) [
  | inl row ↦ at-rows loc row
  | inr above ↦ elim (cases_lt loc (pattern.rows + pattern.cols)) [
    | inl below ↦ let same : pattern.rows + (loc - pattern.rows) ≡ loc = omega arith in subst P same (at-columns (loc - pattern.rows) (omega arith))
    | inr past ↦ behind loc past
  ]
]

-- a cover and the set of a task
module _ (pattern : Pattern) (column : ℕ) (cells : List (Cell Line2)) (at-home : IsAtHome pattern column cells) where
  abbrev written : ℕ → Bool
  written = writes (set_of pattern.rows pattern.cols column (values_of cells))

  place_itself : (other : ℕ) → (column + 1 == suc other) ≡ (column == other)
  place_itself other = same_tests (column + 1 == suc other) (column == other)
      (λ same. let is = eqb-true (column + 1) (suc other) same in eq-eqb column other (omega (arith, is)))
      (λ same. let is = eqb-true column other same in eq-eqb (column + 1) (suc other) (omega (arith, is)))

  module _ (cover : LineCover) where
    pub itself_common : has cover.columns (column + 1) ≡ true → IsCommon written (covers pattern cover) (Some (pattern.rows + column))
    itself_common there =
        let same : suc column ≡ column + 1 = omega arith in (
          writes_from_named pattern.rows pattern.cols column (values_of cells) (pattern.rows + column) at-home.within (OfItself refl),
          covers_column pattern cover column at-home.within ∙ ap (has cover.columns) same ∙ there,
        )

    pub column_common : (place : ℕ) → IsSharedAmong pattern (values_of cells) column cover.columns (Some place) → IsCommon written (covers pattern cover) (Some (pattern.rows + (place - 1)))
    column_common place shared =
        let same : suc (place - 1) ≡ place = omega (arith, shared.0) in
        let below : place - 1 < pattern.cols = omega (arith, shared.0, shared.1) in (
          writes_column pattern column cells at-home (place - 1) below
              ∙ or_right (column == place - 1) (is_shared pattern.rows pattern.cols (values_of cells) column (place - 1)) shared.2,
          covers_column pattern cover (place - 1) below ∙ ap (has cover.columns) same ∙ shared.3,
        )

    module _ (line : Line2) (is : cell_at cells (pattern.rows + column) ≡ Home line) where
      pub row_common : (place : ℕ) → IsLeastCommon (numbers_in line) cover.rows 1 place → IsCommon written (covers pattern cover) (Some (place - 1))
      row_common place least =
          let same : suc (place - 1) ≡ place = omega (arith, least.beyond) in
          let within = row_within pattern column cells at-home line is place least.in_set in
          let below : place - 1 < pattern.rows = omega (arith, within.0, within.1) in (
            writes_row pattern column cells at-home line is (place - 1) below ∙ ap (has (numbers_in line)) same ∙ least.in_set,
            covers_row pattern cover (place - 1) below ∙ ap (has cover.rows) same ∙ least.in_other,
          )

      pub none_common : has cover.columns (column + 1) ≡ false → IsSharedAmong pattern (values_of cells) column cover.columns None → IsFirstCommon (numbers_in line) cover.rows 1 None → IsCommon written (covers pattern cover) None
      none_common itself shared none = by_lines pattern (λ loc. written loc ≡ true → covers pattern cover loc ≡ false)
          (λ row below writes-it. covers_row pattern cover row below ∙ none (suc row) (omega arith) (sym (writes_row pattern column cells at-home line is row below) ∙ writes-it))
          (λ other below writes-it. covers_column pattern cover other below ∙ elim (or_cases (column == other) (is_shared pattern.rows pattern.cols (values_of cells) column other) (sym (writes_column pattern column cells at-home other below) ∙ writes-it)) [
            | inl here ↦
                let same : suc other ≡ column + 1 = let at = eqb-true column other here in omega (arith, at) in
                ap (has cover.columns) same ∙ itself
            | inr shares ↦ shared other shares
          ])
          (λ loc past writes-it. covers_none pattern cover loc past)

      -- the whole set goes in
      pub set_included : (middle : List ℕ) (new : LineCover) (words : ℕ) → pattern.rows < 64 * words
          → ((n : ℕ) → has new.rows n ≡ (has cover.rows n || (nat_lt n (64 * words) && has (numbers_in line) n)))
          → ((n : ℕ) → has middle n ≡ (has cover.columns n || column + 1 == n))
          → ((other : ℕ) → other < pattern.cols → has new.columns (suc other) ≡ (has middle (suc other) || is_shared pattern.rows pattern.cols (values_of cells) column other))
          → (loc : ℕ) → covers pattern new loc ≡ (covers pattern cover loc || written loc)
      set_included middle new words enough rows-in itself-in columns-in = by_lines pattern (λ loc. covers pattern new loc ≡ (covers pattern cover loc || written loc))
          (λ row below.
          covers_row pattern new row below ∙ rows-in (suc row) ∙ ap (λ b. has cover.rows (suc row) || (b && has (numbers_in line) (suc row))) (lt-ltb (suc row) (64 * words) (omega (arith, below, enough)))
          ∙ ap (λ b. b || has (numbers_in line) (suc row)) (sym (covers_row pattern cover row below)) ∙ ap (λ b. covers pattern cover row || b) (sym (writes_row pattern column cells at-home line is row below)))
          (λ other below.
          covers_column pattern new other below ∙ columns-in other below ∙ ap (λ b. b || is_shared pattern.rows pattern.cols (values_of cells) column other) (itself-in (suc other))
          ∙ or_assoc (has cover.columns (suc other)) (column + 1 == suc other) (is_shared pattern.rows pattern.cols (values_of cells) column other)
          ∙ ap (λ b. has cover.columns (suc other) || (b || is_shared pattern.rows pattern.cols (values_of cells) column other)) (place_itself other)
          ∙ ap (λ b. b || (column == other || is_shared pattern.rows pattern.cols (values_of cells) column other)) (sym (covers_column pattern cover other below))
          ∙ ap (λ b. covers pattern cover (pattern.rows + other) || b) (sym (writes_column pattern column cells at-home other below)))
          (λ loc past. covers_none pattern new loc past ∙ sym (or_from (covers pattern cover loc) (written loc) (covers_none pattern cover loc past) (writes_none pattern column cells at-home loc past)))

pub common_in_first : (one other : ℕ → Bool) (found : Option ℕ) → IsCommon one other found → IfSome found (λ loc. IsTrue (one loc))
common_in_first one other None common = tt
common_in_first one other (Some loc) common = common.0

pub common_in_none : (one other : ℕ → Bool) (found : Option ℕ) → IsCommon one other found → IfNone found ((loc : ℕ) → IsTrue (one loc) → other loc ≡ false)
common_in_none one other None common = common
common_in_none one other (Some loc) common = tt
