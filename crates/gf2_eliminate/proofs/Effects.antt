-- What is written leaves the lines that the operator gives.
use Rattle.std.specs.Prelude.{◌≡◌, ℕ, suc, ◌+◌, ◌-◌, ◌<◌, Bool, true, false, not, ◌&&◌, ◌||◌, ◌==◌, if◌then◌else◌, List, [], ◌∷◌, ◌++◌, length, map, filter, Option, Some, None, IsSome, ◌≢◌, slice_get, slice_set, unwrap_or, option_map, refl}
use Rattle.std.specs.List.{AllByRecursion}
use Rattle.std.proofs.Common.{◌⊎◌, inl, inr, arith, sym, ap, ◌∙◌, subst, length-set}
use Rattle.std.proofs.lemmas.Bool.{and_parts, and_from, cases_eq, cases_Bool, eqb-true, eq-eqb, ne_eqb, or_right, true≢false, false_from_ne_true}
use Rattle.std.proofs.lemmas.List.{get_or-set_same, get_or-set_other}
use Rattle.std.proofs.lemmas.Option.{slice_get-get_or}
use Rattle.plain_laws.specs.Bools.{same_tests, and_true, or_false}
use Rattle.rw_sets.specs.Accesses.{Accesses, IsAscending, access_at}
use Rattle.rw_sets.specs.declared.access.Access.TheVariants.{Write}
use Rattle.cell_store.specs.declared.cell.Cell.TheVariants.{Home, Out}
use Rattle.cell_store.specs.Part.{Part}
use Rattle.cell_store.specs.Cells.{cell_at, part_of, with_value}
use Rattle.cell_store.specs.Values.{homes}
use Rattle.cell_store.specs.Laws.{HomesByLocation}
use Rattle.app_laws.specs.declared.app.Effect.{Effect}
use Rattle.app_laws.specs.declared.child.Child.{Child}
use Rattle.mtx_reader.specs.Ascending.{IsIn, numbers_from, all_from_in, in_left, in_right, in_either, in_map, from_map, in_filter, from_filter}
use Rattle.gf2_eliminate.specs.declared.line.Line2.{Line2}
use Rattle.gf2_eliminate.specs.declared.line.Line2.TheVariants.{Row, Col}
use Rattle.gf2_eliminate.specs.Lines.{no_line, numbers_in, is_used, has, line_at, holds, listed, AreLines, IsRow, IsColumn}
use Rattle.gf2_eliminate.specs.Elimination.{first_of, exactly_one, writing, is_touched, set_of, pivot_of, holds_after, line_after, lines_after, outcome_with, eliminated}
use Rattle.gf2_eliminate.specs.Plans.{as_used, locations, pivot_among, planned, planned_with, sum_to, sums, text_with, with_lines, with_sum, without}
use Rattle.gf2_eliminate.specs.Membership.{has_listed, in_has, has_in, listed_same, list_is_listed, written_in}
use Rattle.gf2_eliminate.specs.Lawful.{IsNamed, OfRow, OfItself, OfColumn, named_from_some, set_ascending, after_row, after_column, get_after, column_stays, written_from_named}
use Rattle.gf2_eliminate.proofs.Held.{added_column, column_list, holder, holders_of, other_row, pivot_is, row_list}

-- a list of lines with these written into it
abbrev pub lines_with : List Line2 → List (ℕ × Line2) → List Line2
lines_with cells pairs = with_lines slice_set cells pairs

length_with : (cells : List Line2) (pairs : List (ℕ × Line2)) → length (lines_with cells pairs) ≡ length cells
length_with cells [] = refl
length_with cells (pair ∷ pairs) = length_with (slice_set cells pair.0 pair.1) pairs ∙ length-set cells pair.0 pair.1

-- what is written to a part of lines is the part of the written lines
part_with : (values : HomesByLocation Line2) (cells : List Line2) (set : Accesses) (pairs : List (ℕ × Line2)) → IsAscending set → AllByRecursion (λ pair. pair.0 < length cells) pairs
    → with_lines with_value (part_of (homes cells) set) pairs ≡ part_of (homes (lines_with cells pairs)) set
part_with values cells set [] up below = refl
part_with values cells set (pair ∷ pairs) up below =
    ap (λ part. with_lines with_value part pairs) (values.written cells set pair.0 pair.1 up below.0)
    ∙ part_with values (slice_set cells pair.0 pair.1) set pairs up (subst (λ n. AllByRecursion (λ p. p.0 < n) pairs) (sym (length-set cells pair.0 pair.1)) below.1)

-- at a location that is written, where all that is written is right
module _ (after : ℕ → Line2) where
  not_written : (cells : List Line2) (pairs : List (ℕ × Line2)) (loc : ℕ) → has (map (λ pair. pair.0) pairs) loc ≡ false → line_at (lines_with cells pairs) loc ≡ line_at cells loc
  not_written cells [] loc apart = refl
  not_written cells (pair ∷ pairs) loc apart =
      let differs : loc ≢ pair.0 = λ same. true≢false (sym (or_first (pair.0 == loc) (has (map (λ p. p.0) pairs) loc) (eq-eqb pair.0 loc (sym same))) ∙ apart) in
      not_written (slice_set cells pair.0 pair.1) pairs loc (or_second (pair.0 == loc) (has (map (λ p. p.0) pairs) loc) apart) ∙ get_or-set_other cells pair.0 loc pair.1 no_line differs
    where
      or_first : (a b : Bool) → a ≡ true → (a || b) ≡ true
      or_first true b is = refl
      or_first false b is = cc

      or_second : (a b : Bool) → (a || b) ≡ false → b ≡ false
      or_second true b is = cc
      or_second false b is = is

  written_there : (cells : List Line2) (pairs : List (ℕ × Line2)) (loc : ℕ) → AllByRecursion (λ pair. (pair.0 < length cells) × (pair.1 ≡ after pair.0)) pairs → has (map (λ pair. pair.0) pairs) loc ≡ true
      → line_at (lines_with cells pairs) loc ≡ after loc
  written_there cells [] loc right there = cc
  written_there cells (pair ∷ pairs) loc right there = elim (cases_Bool (has (map (λ p. p.0) pairs) loc)) [
    | inl later ↦
        written_there (slice_set cells pair.0 pair.1) pairs loc (subst (λ n. AllByRecursion (λ p. (p.0 < n) × (p.1 ≡ after p.0)) pairs) (sym (length-set cells pair.0 pair.1)) right.1) later
    | inr apart ↦
        let at : pair.0 ≡ loc = eqb-true pair.0 loc (sym (or_false (pair.0 == loc)) ∙ ap (λ b. pair.0 == loc || b) (sym apart) ∙ there) in
        not_written (slice_set cells pair.0 pair.1) pairs loc apart
        ∙ subst (λ l. line_at (slice_set cells pair.0 pair.1) l ≡ after l) at (get_or-set_same cells pair.0 pair.1 no_line right.0.0 ∙ right.0.1)
  ]

-- parts of lines that agree at the locations of the set
part_same : (values : HomesByLocation Line2) (cells others : List Line2) (set : Accesses) → ((loc : ℕ) → IsSome (access_at set loc) → slice_get cells loc ≡ slice_get others loc)
    → (locs : List ℕ) → set ≡ writing locs → part_of (homes cells) set ≡ part_of (homes others) set
part_same values cells others set agree locs is =
    ap (λ cs. record { set = set; cells = cs }) (by_locs locs (λ loc there. agree loc (rw is (some_in loc there))) is)
  where
    some_in : (loc : ℕ) → IsIn locs loc → IsSome (access_at (writing locs) loc)
    some_in loc there = rw (written_in locs loc there) refl

    by_locs : (ls : List ℕ) → ((loc : ℕ) → IsIn locs loc → slice_get cells loc ≡ slice_get others loc) → set ≡ writing locs → map (λ p. cell_at (homes cells) p.0) set ≡ map (λ p. cell_at (homes others) p.0) set
    by_locs ls same whole = rw whole (each locs same)
      where
        each : (ls : List ℕ) → ((loc : ℕ) → IsIn ls loc → slice_get cells loc ≡ slice_get others loc) → map (λ p. cell_at (homes cells) p.0) (writing ls) ≡ map (λ p. cell_at (homes others) p.0) (writing ls)
        each [] same = refl
        each (l ∷ ls) same =
            let first : cell_at (homes cells) l ≡ cell_at (homes others) l = values.each cells l ∙ ap (λ o. unwrap_or (option_map Home o) Out) (same l (inl refl)) ∙ sym (values.each others l) in
            ap (λ c. c ∷ map (λ p. cell_at (homes cells) p.0) (writing ls)) first ∙ ap (λ cs. cell_at (homes others) l ∷ cs) (each ls (λ loc there. same loc (inr there)))

pred_suc : (ns : List ℕ) → locations (map suc ns) ≡ ns
pred_suc [] = refl
pred_suc (n ∷ ns) = let same : suc n - 1 ≡ n = omega arith in ap (λ m. m ∷ locations (map suc ns)) same ∙ ap (λ ms. n ∷ ms) (pred_suc ns)

filter_both : (p q : ℕ → Bool) (ns : List ℕ) → filter q (filter p ns) ≡ filter (λ n. p n && q n) ns
filter_both p q [] = refl
filter_both p q (n ∷ ns) = by_test (p n) (filter_both p q ns)
  where
    by_test : (b : Bool) → filter q (filter p ns) ≡ filter (λ m. p m && q m) ns → filter q (if b then n ∷ filter p ns else filter p ns) ≡ (if b && q n then n ∷ filter (λ m. p m && q m) ns else filter (λ m. p m && q m) ns)
    by_test true rest = ap (λ ms. if q n then n ∷ ms else ms) rest
    by_test false rest = rest

sum_alone : (b : Bool) → exactly_one b false ≡ b
sum_alone true = refl
sum_alone false = refl

row_shape : (columns : ℕ) (added : List ℕ) (line : Line2) → IsRow columns line → (b : Bool)
    → (if b then as_used line else with_sum columns added line) ≡ Row (if b then numbers_in line else sum_to columns (numbers_in line) added) (is_used line || b)
row_shape columns added (Row numbers used) row true = ap (Row numbers) (sym (or_right used true refl))
row_shape columns added (Row numbers used) row false = ap (Row (sum_to columns numbers added)) (sym (or_false used))
row_shape columns added (Col numbers) row b = absurd row

column_shape : (rows : ℕ) (added : List ℕ) (line : Line2) → IsColumn rows line → with_sum rows added line ≡ Col (sum_to rows (numbers_in line) added)
column_shape rows added (Row numbers used) column = absurd column
column_shape rows added (Col numbers) column = refl

module _ {rows columns column : ℕ} {cells : List Line2} (fit : AreLines rows columns cells) (within : column < columns) where
  holders_are : holders_of rows column cells ≡ listed rows (λ row. holds cells row column)
  holders_are = list_is_listed rows (λ row. holds cells row column) (holders_of rows column cells) (column_list rows (line_at cells (rows + column)) (fit.each_column column within))
      (λ row below. sym (fit.agree row column below within))

  locations_are : locations (holders_of rows column cells) ≡ filter (λ row. holds cells row column) (numbers_from 0 rows)
  locations_are = ap locations holders_are ∙ pred_suc (filter (λ row. holds cells row column) (numbers_from 0 rows))

  pivot_found : pivot_among (line_at cells) (holders_of rows column cells) ≡ pivot_of rows columns column cells
  pivot_found =
      ap (λ locs. first_of (filter (λ loc. not (is_used (line_at cells loc))) locs)) locations_are
      ∙ ap first_of (filter_both (λ row. holds cells row column) (λ row. not (is_used (line_at cells row))) (numbers_from 0 rows))

  module _ (pivot : ℕ) (is-pivot : pivot_among (line_at cells) (holders_of rows column cells) ≡ Some pivot) where
    below : pivot < rows
    below = (pivot_is fit within pivot is-pivot).0

    held-it : holds cells pivot column ≡ true
    held-it = (pivot_is fit within pivot is-pivot).1

    abbrev others : List ℕ
    others = without pivot (holders_of rows column cells)

    abbrev added : List ℕ
    added = numbers_in (line_at cells pivot)

    row_numbers : (loc : ℕ) → loc < rows → holds cells loc column ≡ true → (b : Bool)
        → (if b then numbers_in (line_at cells loc) else sum_to columns (numbers_in (line_at cells loc)) added)
        ≡ listed columns (λ other. exactly_one (holds cells loc other) ((holds cells loc column && not b) && holds cells pivot other))
    row_numbers loc loc-below here true =
        list_is_listed columns (λ other. exactly_one (holds cells loc other) ((holds cells loc column && not true) && holds cells pivot other)) (numbers_in (line_at cells loc))
        (row_list columns (line_at cells loc) (fit.each_row loc loc-below))
        (λ other other-below. sym (ap (λ h. exactly_one (holds cells loc other) ((h && not true) && holds cells pivot other)) here ∙ sum_alone (holds cells loc other)))
    row_numbers loc loc-below here false =
        listed_same columns (λ other. exactly_one (holds cells loc other) (holds cells pivot other)) (λ other. exactly_one (holds cells loc other) ((holds cells loc column && not false) && holds cells pivot other))
        (λ other other-below. sym (ap (λ h. exactly_one (holds cells loc other) ((h && not false) && holds cells pivot other)) here))

    row_right : (loc : ℕ) → loc < rows → holds cells loc column ≡ true → (b : Bool) → (loc == pivot) ≡ b
        → (if b then as_used (line_at cells loc) else with_sum columns added (line_at cells loc)) ≡ line_after rows columns column pivot cells loc
    row_right loc loc-below here b is =
        row_shape columns added (line_at cells loc) (fit.each_row loc loc-below) b
        ∙ ap (λ ns. Row ns (is_used (line_at cells loc) || b)) (row_numbers loc loc-below here b)
        ∙ ap (λ t. Row (listed columns (λ other. exactly_one (holds cells loc other) ((holds cells loc column && not t) && holds cells pivot other))) (is_used (line_at cells loc) || t)) (sym is)
        ∙ sym (after_row rows columns column pivot cells loc loc-below)

    has_without : (row : ℕ) → row < rows → has others (suc row) ≡ (holds cells row column && not (row == pivot))
    has_without row row-below = same_tests (has others (suc row)) (holds cells row column && not (row == pivot))
        (λ there.
        let found = from_filter (λ r. not (r == suc pivot)) (holders_of rows column cells) (suc row) (in_has others (suc row) there) in
        let is = holder fit within (suc row) found.0 in
        let same : suc row - 1 ≡ row = omega arith in
        and_from (holds cells row column) (not (row == pivot)) (subst (λ r. holds cells r column ≡ true) same is.2) (sym (suc_test row pivot) ∙ found.1))
        (λ both.
        let parts-of = and_parts (holds cells row column) (not (row == pivot)) both in
        has_in others (suc row) (in_filter (λ r. not (r == suc pivot)) (holders_of rows column cells) (suc row) (is_holder row row-below parts-of.0) (suc_test row pivot ∙ parts-of.1)))
      where
        suc_test : (a b : ℕ) → not (suc a == suc b) ≡ not (a == b)
        suc_test a b = ap not (same_tests (suc a == suc b) (a == b) (λ same. let is = eqb-true (suc a) (suc b) same in eq-eqb a b (omega arith)) (λ same. let is = eqb-true a b same in eq-eqb (suc a) (suc b) (omega arith)))

        is_holder : (r : ℕ) → r < rows → holds cells r column ≡ true → IsIn (holders_of rows column cells) (suc r)
        is_holder r r-below here = in_has (holders_of rows column cells) (suc r) (ap (λ ns. has ns (suc r)) holders_are ∙ has_listed rows (λ row. holds cells row column) r r-below ∙ here)

    column_right : (other : ℕ) → other < columns → holds cells pivot other ≡ true → with_sum rows others (line_at cells (rows + other)) ≡ line_after rows columns column pivot cells (rows + other)
    column_right other other-below has-it =
        column_shape rows others (line_at cells (rows + other)) (fit.each_column other other-below)
        ∙ ap Col (listed_same rows (λ row. exactly_one (has (numbers_in (line_at cells (rows + other))) (suc row)) (has others (suc row))) (λ row. holds_after rows columns column pivot cells row other)
        (λ row row-below.
        ap (λ h. exactly_one h (has others (suc row))) (sym (fit.agree row other row-below other-below))
        ∙ ap (exactly_one (holds cells row other)) (has_without row row-below ∙ sym (ap (λ h. (holds cells row column && not (row == pivot)) && h) has-it ∙ and_true (holds cells row column && not (row == pivot))))))
        ∙ sym (after_column rows columns column pivot cells other)

    abbrev row_sums : List (ℕ × Line2)
    row_sums = sums (line_at cells) 0 columns added others

    abbrev column_sums : List (ℕ × Line2)
    column_sums = sums (line_at cells) rows rows others added

    abbrev pairs : List (ℕ × Line2)
    pairs = planned_with (line_at cells) rows columns (Some pivot) (holders_of rows column cells)

    abbrev IsRight : ℕ × Line2 → Type 0
    IsRight pair = (IsNamed rows columns column cells pair.0) × (pair.0 < length cells) × (pair.1 ≡ line_after rows columns column pivot cells pair.0)

    row_is_right : (loc : ℕ) (line : Line2) → loc < rows → holds cells loc column ≡ true → (b : Bool) → (loc == pivot) ≡ b → line ≡ (if b then as_used (line_at cells loc) else with_sum columns added (line_at cells loc)) → IsRight (loc, line)
    row_is_right loc line loc-below here b is line-is = (OfRow loc-below here, omega (arith, loc-below, fit.count), line-is ∙ row_right loc loc-below here b is)

    pair_right : (pair : ℕ × Line2) → IsIn pairs pair → IsRight pair
    pair_right pair (inl at) = subst IsRight at (row_is_right pivot (as_used (line_at cells pivot)) below held-it true (eq-eqb pivot pivot refl) refl)
    pair_right pair (inr later) = by_side (in_either row_sums column_sums pair later)
      where
        by_side : IsIn row_sums pair ⊎ IsIn column_sums pair → IsRight pair
        by_side (inl row) =
            let found = from_map (λ number. (0 + (number - 1), with_sum columns added (line_at cells (0 + (number - 1))))) others pair row in
            let is = other_row fit within pivot found.0 found.1 in
            let same : found.0 - 1 ≡ 0 + (found.0 - 1) = omega arith in
            subst IsRight found.2
            (subst (λ loc. IsRight (loc, with_sum columns added (line_at cells loc))) same
            (row_is_right (found.0 - 1) (with_sum columns added (line_at cells (found.0 - 1))) is.1 is.2 false (ne_eqb (found.0 - 1) pivot is.3) refl))
        by_side (inr col) =
            let found = from_map (λ number. (rows + (number - 1), with_sum rows others (line_at cells (rows + (number - 1))))) added pair col in
            let is = added_column fit within pivot is-pivot found.0 found.1 in
            subst IsRight found.2
            (OfColumn (found.0 - 1) is.1 refl (pivot, below, held-it, is.2), omega (arith, is.1, fit.count), column_right (found.0 - 1) is.1 is.2)

    row_is_written : (loc : ℕ) → loc < rows → holds cells loc column ≡ true → has (map (λ pair. pair.0) pairs) loc ≡ true
    row_is_written loc loc-below here = has_in (map (λ pair. pair.0) pairs) loc (elim (cases_eq pivot loc) [
      | inl at ↦ inl at
      | inr differs ↦
          let number : IsIn others (suc loc) = in_has others (suc loc) (has_without loc loc-below ∙ and_from (holds cells loc column) (not (loc == pivot)) here (ap not (ne_eqb loc pivot (λ same. differs (sym same))))) in
          let there = in_left row_sums column_sums _ (in_map (λ n. (0 + (n - 1), with_sum columns added (line_at cells (0 + (n - 1))))) others (suc loc) number) in
          let same : 0 + (suc loc - 1) ≡ loc = omega arith in
          inr (subst (IsIn (map (λ pair. pair.0) (row_sums ++ column_sums))) same (in_map (λ pair. pair.0) (row_sums ++ column_sums) _ there))
    ])

    column_is_written : (other : ℕ) → other < columns → holds cells pivot other ≡ true → has (map (λ pair. pair.0) pairs) (rows + other) ≡ true
    column_is_written other other-below has-it =
        let there = in_right row_sums column_sums _ (in_map (λ n. (rows + (n - 1), with_sum rows others (line_at cells (rows + (n - 1))))) added (suc other) (in_has added (suc other) has-it)) in
        let same : rows + (suc other - 1) ≡ rows + other = omega arith in
        has_in (map (λ pair. pair.0) pairs) (rows + other) (inr (subst (IsIn (map (λ pair. pair.0) (row_sums ++ column_sums))) same (in_map (λ pair. pair.0) (row_sums ++ column_sums) _ there)))

    line_found : (loc : ℕ) → loc < rows + columns → IsNamed rows columns column cells loc → line_at (lines_with cells pairs) loc ≡ line_after rows columns column pivot cells loc
    line_found loc loc-below named = elim (cases_Bool (has (map (λ pair. pair.0) pairs) loc)) [
      | inl written ↦
          written_there (line_after rows columns column pivot cells) cells pairs loc (all_from_in (λ pair. (pair.0 < length cells) × (pair.1 ≡ line_after rows columns column pivot cells pair.0)) pairs
          (λ pair there. let is = pair_right pair there in (is.1, is.2))) written
      | inr apart ↦ not_written (line_after rows columns column pivot cells) cells pairs loc apart ∙ sym (stays named apart)
    ]
      where
        stays_column : (other : ℕ) → other < columns → has (map (λ pair. pair.0) pairs) (rows + other) ≡ false → line_after rows columns column pivot cells (rows + other) ≡ line_at cells (rows + other)
        stays_column other other-below apart = column_stays rows columns column pivot cells fit below held-it other other-below
            (false_from_ne_true (holds cells pivot other) (λ has-it. true≢false (sym (column_is_written other other-below has-it) ∙ apart)))

        stays : IsNamed rows columns column cells loc → has (map (λ pair. pair.0) pairs) loc ≡ false → line_after rows columns column pivot cells loc ≡ line_at cells loc
        stays (OfRow row here) apart = absurd (true≢false (sym (row_is_written loc row here) ∙ apart))
        stays (OfItself at) apart =
            subst (λ l. line_after rows columns column pivot cells l ≡ line_at cells l) at (stays_column column within (subst (λ l. has (map (λ pair. pair.0) pairs) l ≡ false) (sym at) apart))
        stays (OfColumn other other-below at shares) apart =
            subst (λ l. line_after rows columns column pivot cells l ≡ line_at cells l) at (stays_column other other-below (subst (λ l. has (map (λ pair. pair.0) pairs) l ≡ false) (sym at) apart))

    bundle_with : HomesByLocation Line2 → with_lines with_value (part_of (homes cells) (set_of rows columns column cells)) pairs ≡ part_of (homes (lines_after rows columns column pivot cells)) (set_of rows columns column cells)
    bundle_with values =
        part_with values cells (set_of rows columns column cells) pairs (set_ascending rows columns column cells) (all_from_in (λ pair. pair.0 < length cells) pairs (λ pair there. (pair_right pair there).1))
        ∙ part_same values (lines_with cells pairs) (lines_after rows columns column pivot cells) (set_of rows columns column cells)
        (λ loc named.
        let is = named_from_some rows columns column cells loc named in
        slice_get-get_or (lines_with cells pairs) loc no_line (omega (arith, is.0, fit.count, length_with cells pairs)) ∙ ap Some (line_found loc is.0 is.1) ∙ sym (get_after rows columns column pivot cells loc is.0))
        (filter (is_touched rows columns column cells) (numbers_from 0 (rows + columns))) refl

    pairs_touched : AllByRecursion (λ pair. access_at (set_of rows columns column cells) pair.0 ≡ Some Write) pairs
    pairs_touched = all_from_in (λ pair. access_at (set_of rows columns column cells) pair.0 ≡ Some Write) pairs (λ pair there.
        written_from_named rows columns column cells pair.0 within (pair_right pair there).0)

  bundle_by : HomesByLocation Line2 → (pivot : Option ℕ) → pivot_among (line_at cells) (holders_of rows column cells) ≡ pivot
      → with_lines with_value (part_of (homes cells) (set_of rows columns column cells)) (planned_with (line_at cells) rows columns pivot (holders_of rows column cells))
      ≡ part_of (homes (outcome_with rows columns column pivot cells).cells) (set_of rows columns column cells)
  bundle_by values None is = refl
  bundle_by values (Some pivot) is = bundle_with pivot is values

  pub bundle_found : HomesByLocation Line2
      → with_lines with_value (part_of (homes cells) (set_of rows columns column cells)) (planned (line_at cells) rows columns column) ≡ part_of (homes (eliminated rows columns column cells).cells) (set_of rows columns column cells)
  bundle_found values =
      bundle_by values (pivot_among (line_at cells) (holders_of rows column cells)) refl
      ∙ ap (λ pivot. part_of (homes (outcome_with rows columns column pivot cells).cells) (set_of rows columns column cells)) pivot_found

  touched_by : (pivot : Option ℕ) → pivot_among (line_at cells) (holders_of rows column cells) ≡ pivot
      → AllByRecursion (λ pair. access_at (set_of rows columns column cells) pair.0 ≡ Some Write) (planned_with (line_at cells) rows columns pivot (holders_of rows column cells))
  touched_by None is = tt
  touched_by (Some pivot) is = pairs_touched pivot is

  pub all_touched : AllByRecursion (λ pair. access_at (set_of rows columns column cells) pair.0 ≡ Some Write) (planned (line_at cells) rows columns column)
  all_touched = touched_by (pivot_among (line_at cells) (holders_of rows column cells)) refl

  text_by : (pivot : Option ℕ) → text_with column pivot ≡ (outcome_with rows columns column pivot cells).text
  text_by None = refl
  text_by (Some pivot) = refl

  pub text_found : text_with column (pivot_among (line_at cells) (holders_of rows column cells)) ≡ (eliminated rows columns column cells).text
  text_found = ap (text_with column) pivot_found ∙ text_by (pivot_of rows columns column cells)

  childless_by : (pivot : Option ℕ) → (outcome_with rows columns column pivot cells).children ≡ []
  childless_by None = refl
  childless_by (Some pivot) = refl

  pub childless : (eliminated rows columns column cells).children ≡ []
  childless = childless_by (pivot_of rows columns column cells)

pub same_effects : {one two : Part Line2} {made others : List Child} {line more : List ℕ} → one ≡ two → made ≡ others → line ≡ more
    → ◌≡◌ {A = Effect Line2} (record { bundle = one; children = made; text = line }) (record { bundle = two; children = others; text = more })
same_effects e f h = cc
