-- Lines that are put into others one after the other, each where no earlier one was.
use Rattle.std.specs.Prelude.{◌≡◌, ◌≢◌, ℕ, ◌+◌, ◌-◌, ◌*◌, ◌<◌, true, false, not, if◌then◌else◌, List, [], ◌∷◌, ◌++◌, length, filter, Some, None, refl}
use Rattle.std.specs.List.{AllByRecursion}
use Rattle.std.specs.Ordering.{nat_cmp}
use Rattle.std.specs.declared.cmp.Ordering.TheVariants.{Less}
use Rattle.std.proofs.Common.{arith, inl, inr, sym, ap, ◌∙◌, subst}
use Rattle.plain_laws.specs.Orderings.{below_from_cmp}
use Rattle.mtx_reader.specs.Ascending.{IsAscendingBy, IsIn, all_in, all_from_in}
use Rattle.gf2_eliminate.specs.declared.line.Line2.{Line2}
use Rattle.gf2_eliminate.specs.Elimination.{first_of}
use Rattle.gf2_eliminate.specs.Lines.{is_used, numbers_in, line_at, IsListTo}
use Rattle.gf2_eliminate.specs.Ones.{least_words}
use Rattle.gf2_eliminate.specs.Plans.{as_used, locations, pivot_among, planned, planned_with, sums, with_lines, with_sum, without, AreHeld, AreLists, CanTake, PutsOneLine}
use Rattle.gf2_eliminate.proofs.Held.{columns_are_lists, columns_ready, columns_same, holders_of, other_row, others_list, pivot_is, pivot_list, pivot_same, rows_are_lists, rows_ready, rows_same, short_list}

-- sums of lines that are the same
sums_same : (f g : ℕ → Line2) (before bound : ℕ) (added numbers : List ℕ) → ((number : ℕ) → IsIn numbers number → f (before + (number - 1)) ≡ g (before + (number - 1)))
    → sums f before bound added numbers ≡ sums g before bound added numbers
sums_same f g before bound added [] same = refl
sums_same f g before bound added (number ∷ numbers) same =
    ap (λ line. (before + (number - 1), with_sum bound added line) ∷ sums f before bound added numbers) (same number (inl refl))
    ∙ ap (λ pairs. (before + (number - 1), with_sum bound added (g (before + (number - 1)))) ∷ pairs) (sums_same f g before bound added numbers (λ n there. same n (inr there)))

lists_same : (f g : ℕ → Line2) (before bound : ℕ) (numbers : List ℕ) → ((number : ℕ) → IsIn numbers number → f (before + (number - 1)) ≡ g (before + (number - 1))) → AreLists before bound g numbers
    → AreLists before bound f numbers
lists_same f g before bound [] same lists = tt
lists_same f g before bound (number ∷ numbers) same lists =
    (subst (λ line. IsListTo bound (numbers_in line)) (sym (same number (inl refl))) lists.0, lists_same f g before bound numbers (λ n there. same n (inr there)) lists.1)

-- a location that none of the sums is at
apart_from_sums : (f : ℕ → Line2) (before bound : ℕ) (added numbers : List ℕ) (loc : ℕ) → ((number : ℕ) → IsIn numbers number → loc ≢ before + (number - 1))
    → AllByRecursion (λ pair. loc ≢ pair.0) (sums f before bound added numbers)
apart_from_sums f before bound added [] loc apart = tt
apart_from_sums f before bound added (number ∷ numbers) loc apart = (apart number (inl refl), apart_from_sums f before bound added numbers loc (λ n there. apart n (inr there)))

with_lines-append : {C : Type 0} (put_at : C → ℕ → Line2 → C) (cells : C) (pairs others : List (ℕ × Line2)) → with_lines put_at cells (pairs ++ others) ≡ with_lines put_at (with_lines put_at cells pairs) others
with_lines-append put_at cells [] others = refl
with_lines-append put_at cells (pair ∷ pairs) others = with_lines-append put_at (put_at cells pair.0 pair.1) pairs others

module _ {C : Type 0} (held : C → ℕ → Line2) (has_line : C → ℕ → Type 0) (put_at : C → ℕ → Line2 → C) where
  -- what is left of a list of numbers to whose lines ones are added
  pub record IsLeft (before : ℕ) (numbers added : List ℕ) (old now : C) (rest : List ℕ) : Type 0 where
    pub ready : AllByRecursion (CanTake before (held now) (has_line now)) rest
    pub same : (number : ℕ) → IsIn rest number → held now (before + (number - 1)) ≡ held old (before + (number - 1))
    pub ascending : IsAscendingBy nat_cmp rest
    pub lists : (bound : ℕ) → AreLists before bound (held old) numbers → AreLists before bound (held old) rest
    pub left : (bound : ℕ) → AreLists before bound (held old) numbers → IsListTo bound added
        → with_lines put_at now (sums (held old) before bound added rest) ≡ with_lines put_at old (sums (held old) before bound added numbers)

module _ {C : Type 0} {held : C → ℕ → Line2} {has_line : C → ℕ → Type 0} {put_at : C → ℕ → Line2 → C} (laws : PutsOneLine held has_line put_at) where
  same_elsewhere : (cells : C) (pairs : List (ℕ × Line2)) (loc : ℕ) → AllByRecursion (λ pair. loc ≢ pair.0) pairs → held (with_lines put_at cells pairs) loc ≡ held cells loc
  same_elsewhere cells [] loc apart = refl
  same_elsewhere cells (pair ∷ pairs) loc apart = same_elsewhere (put_at cells pair.0 pair.1) pairs loc apart.1 ∙ laws.same cells pair.0 loc pair.1 apart.0

  there_elsewhere : (cells : C) (pairs : List (ℕ × Line2)) (loc : ℕ) → AllByRecursion (λ pair. loc ≢ pair.0) pairs → has_line cells loc → has_line (with_lines put_at cells pairs) loc
  there_elsewhere cells [] loc apart there = there
  there_elsewhere cells (pair ∷ pairs) loc apart there = there_elsewhere (put_at cells pair.0 pair.1) pairs loc apart.1 (laws.there cells pair.0 loc pair.1 apart.0 there)

  ready_elsewhere : (before : ℕ) (cells : C) (pairs : List (ℕ × Line2)) (numbers : List ℕ) → ((number : ℕ) → IsIn numbers number → AllByRecursion (λ pair. before + (number - 1) ≢ pair.0) pairs)
      → AllByRecursion (CanTake before (held cells) (has_line cells)) numbers → AllByRecursion (CanTake before (held (with_lines put_at cells pairs)) (has_line (with_lines put_at cells pairs))) numbers
  ready_elsewhere before cells pairs numbers apart ready =
      all_from_in (CanTake before (held (with_lines put_at cells pairs)) (has_line (with_lines put_at cells pairs))) numbers (λ number there.
      let can = all_in (CanTake before (held cells) (has_line cells)) numbers number ready there in
      record {
        from_one = can.from_one;
        fits = can.fits;
        there = there_elsewhere cells pairs (before + (number - 1)) (apart number there) can.there;
        some = subst (λ line. 0 < length (numbers_in line)) (sym (same_elsewhere cells pairs (before + (number - 1)) (apart number there))) can.some;
      })

  pub left_all : (before : ℕ) (numbers added : List ℕ) (old : C) → AllByRecursion (CanTake before (held old) (has_line old)) numbers → IsAscendingBy nat_cmp numbers → IsLeft held has_line put_at before numbers added old old numbers
  left_all before numbers added old ready up = record { ready = ready; same = λ number there. refl; ascending = up; lists = λ bound lists. lists; left = λ bound lists list. refl }

  pub left_less : (before : ℕ) (numbers added : List ℕ) (old now : C) (number : ℕ) (rest : List ℕ) (line : Line2) → IsLeft held has_line put_at before numbers added old now (number ∷ rest)
      → ((bound : ℕ) → IsListTo bound (numbers_in (held now (before + (number - 1)))) → IsListTo bound added → line ≡ with_sum bound added (held now (before + (number - 1))))
      → IsLeft held has_line put_at before numbers added old (put_at now (before + (number - 1)) line) rest
  left_less before numbers added old now number rest line so-far is =
      let apart : (other : ℕ) → IsIn rest other → before + (other - 1) ≢ before + (number - 1) =
      λ other there same. omega (arith, same, so-far.ready.0.from_one, below_from_cmp number other (all_in (λ n. nat_cmp number n ≡ Less) rest other so-far.ascending.0 there)) in
      record {
        ready = ready_elsewhere before now ((before + (number - 1), line) ∷ []) rest (λ other there. (apart other there, tt)) so-far.ready.1;
        same = λ other there. laws.same now (before + (number - 1)) (before + (other - 1)) line (apart other there) ∙ so-far.same other (inr there);
        ascending = so-far.ascending.1;
        lists = λ bound lists. (so-far.lists bound lists).1;
        left = λ bound lists list.
            let here = so-far.same number (inl refl) in
            ap (λ l. with_lines put_at (put_at now (before + (number - 1)) l) (sums (held old) before bound added rest))
            (is bound (subst (λ l. IsListTo bound (numbers_in l)) (sym here) (so-far.lists bound lists).0) list ∙ ap (with_sum bound added) here)
            ∙ so-far.left bound lists list;
      }

  pub left_none : (before : ℕ) (numbers added : List ℕ) (old now : C) (rest : List ℕ) → rest ≡ [] → IsLeft held has_line put_at before numbers added old now rest
      → (bound : ℕ) → AreLists before bound (held old) numbers → IsListTo bound added → now ≡ with_lines put_at old (sums (held old) before bound added numbers)
  left_none before numbers added old now rest none so-far bound lists list =
      ap (λ ns. with_lines put_at now (sums (held old) before bound added ns)) (sym none) ∙ so-far.left bound lists list

  -- without a pivot nothing changes
  pub nothing_added : (rows columns column : ℕ) (lines : List Line2) (old : C) → pivot_among (line_at lines) (holders_of rows column lines) ≡ None
      → old ≡ with_lines put_at old (planned (line_at lines) rows columns column)
  nothing_added rows columns column lines old none = ap (λ p. with_lines put_at old (planned_with (line_at lines) rows columns p (holders_of rows column lines))) (sym none)

  -- the pivot is marked, then added to the other rows, and then these to its columns
  module _ {rows columns column : ℕ} {lines : List Line2} (old : C) (mine : AreHeld rows columns column (held old) (has_line old) lines) (pivot : ℕ)
      (is-pivot : pivot_among (line_at lines) (holders_of rows column lines) ≡ Some pivot) where
    abbrev others : List ℕ
    others = without pivot (holders_of rows column lines)

    abbrev added : List ℕ
    added = numbers_in (line_at lines pivot)

    abbrev mark : List (ℕ × Line2)
    mark = (pivot, as_used (held old pivot)) ∷ []

    abbrev marked : C
    marked = put_at old pivot (as_used (held old pivot))

    row_apart : (number : ℕ) → IsIn others number → AllByRecursion (λ pair. 0 + (number - 1) ≢ pair.0) mark
    row_apart number there = let is = other_row mine.fit mine.within pivot number there in (λ same. is.3 (omega (arith, same)), tt)

    marked_ready : AllByRecursion (CanTake 0 (held marked) (has_line marked)) others
    marked_ready = ready_elsewhere 0 old mark others row_apart (rows_ready mine pivot is-pivot)

    marked_same : (number : ℕ) → IsIn others number → held marked (0 + (number - 1)) ≡ line_at lines (0 + (number - 1))
    marked_same number there = same_elsewhere old mark (0 + (number - 1)) (row_apart number there) ∙ rows_same mine pivot is-pivot number there

    marked_lists : AreLists 0 columns (held marked) others
    marked_lists = lists_same (held marked) (line_at lines) 0 columns others marked_same (rows_are_lists mine.fit mine.within pivot is-pivot)

    -- once the rows have changed
    abbrev row_sums : List (ℕ × Line2)
    row_sums = sums (held marked) 0 columns added others

    abbrev pub summed : C
    summed = with_lines put_at marked row_sums

    column_apart : (number : ℕ) → IsIn added number → AllByRecursion (λ pair. rows + (number - 1) ≢ pair.0) (mark ++ row_sums)
    column_apart number there =
        let below = (pivot_is mine.fit mine.within pivot is-pivot).0 in
        (λ same. omega (arith, same, below), apart_from_sums (held marked) 0 columns added others (rows + (number - 1)) (λ row among same. let is = other_row mine.fit mine.within pivot row among in omega (arith, same, is.1)))

    summed_ready : AllByRecursion (CanTake rows (held summed) (has_line summed)) added
    summed_ready = ready_elsewhere rows old (mark ++ row_sums) added column_apart (columns_ready mine pivot is-pivot)

    summed_same : (number : ℕ) → IsIn added number → held summed (rows + (number - 1)) ≡ line_at lines (rows + (number - 1))
    summed_same number there = same_elsewhere old (mark ++ row_sums) (rows + (number - 1)) (column_apart number there) ∙ columns_same mine pivot is-pivot number there

    summed_lists : AreLists rows rows (held summed) added
    summed_lists = lists_same (held summed) (line_at lines) rows rows added summed_same (columns_are_lists mine.fit mine.within pivot is-pivot)

    all_changed : with_lines put_at summed (sums (held summed) rows rows others added) ≡ with_lines put_at old (planned (line_at lines) rows columns column)
    all_changed =
        ap (with_lines put_at summed) (sums_same (held summed) (line_at lines) rows rows others added summed_same)
        ∙ ap (λ pairs. with_lines put_at (with_lines put_at marked pairs) (sums (line_at lines) rows rows others added)) (sums_same (held marked) (line_at lines) 0 columns added others marked_same)
        ∙ sym (with_lines-append put_at marked (sums (line_at lines) 0 columns added others) (sums (line_at lines) rows rows others added))
        ∙ ap (λ line. with_lines put_at (put_at old pivot (as_used line)) (sums (line_at lines) 0 columns added others ++ sums (line_at lines) rows rows others added)) (pivot_same mine pivot is-pivot)
        ∙ ap (λ p. with_lines put_at old (planned_with (line_at lines) rows columns p (holders_of rows column lines))) (sym is-pivot)

    -- places of a line
    pub added_short : (numbers : List ℕ) → numbers ≡ added → AllByRecursion (λ place. place < 64 * least_words) numbers
    added_short numbers are = subst (AllByRecursion (λ place. place < 64 * least_words)) (sym are) (short_list columns added mine.few_columns (pivot_list mine.fit mine.within pivot is-pivot))

    pub others_short : (numbers : List ℕ) → numbers ≡ others → AllByRecursion (λ place. place < 64 * least_words) numbers
    others_short numbers are = subst (AllByRecursion (λ place. place < 64 * least_words)) (sym are) (short_list rows others mine.few_rows (others_list mine.fit mine.within pivot))

    -- what was read: the pivot's line once it is used, the other rows, and the pivot's ones
    pub record IsRead (line : Line2) (other-rows its-columns : List ℕ) : Type 0 where
      pub line-is : line ≡ as_used (held old pivot)
      pub others-are : other-rows ≡ others
      pub added-are : its-columns ≡ added

    module _ {line : Line2} {other-rows its-columns : List ℕ} (read : IsRead line other-rows its-columns) where
      pub rows_up : IsAscendingBy nat_cmp other-rows
      rows_up = subst (IsAscendingBy nat_cmp) (sym read.others-are) (others_list mine.fit mine.within pivot).ascending

      pub columns_up : IsAscendingBy nat_cmp its-columns
      columns_up = subst (IsAscendingBy nat_cmp) (sym read.added-are) (pivot_list mine.fit mine.within pivot is-pivot).ascending

      pub can_take_rows : AllByRecursion (CanTake 0 (held (put_at old pivot line)) (has_line (put_at old pivot line))) other-rows
      can_take_rows =
          subst (λ l. AllByRecursion (CanTake 0 (held (put_at old pivot l)) (has_line (put_at old pivot l))) other-rows) (sym read.line-is)
          (subst (AllByRecursion (CanTake 0 (held marked) (has_line marked))) (sym read.others-are) marked_ready)

      module _ (middle : C)
          (is : (bound : ℕ) → AreLists 0 bound (held (put_at old pivot line)) other-rows → IsListTo bound its-columns
          → middle ≡ with_lines put_at (put_at old pivot line) (sums (held (put_at old pivot line)) 0 bound its-columns other-rows)) where
        middle_is : middle ≡ summed
        middle_is =
            is columns
            (subst (λ l. AreLists 0 columns (held (put_at old pivot l)) other-rows) (sym read.line-is) (subst (AreLists 0 columns (held marked)) (sym read.others-are) marked_lists))
            (subst (IsListTo columns) (sym read.added-are) (pivot_list mine.fit mine.within pivot is-pivot))
            ∙ ap (λ ns. with_lines put_at (put_at old pivot line) (sums (held (put_at old pivot line)) 0 columns ns other-rows)) read.added-are
            ∙ ap (λ ns. with_lines put_at (put_at old pivot line) (sums (held (put_at old pivot line)) 0 columns added ns)) read.others-are
            ∙ ap (λ l. with_lines put_at (put_at old pivot l) (sums (held (put_at old pivot l)) 0 columns added others)) read.line-is

        pub can_take_columns : AllByRecursion (CanTake rows (held middle) (has_line middle)) its-columns
        can_take_columns =
            subst (λ cells. AllByRecursion (CanTake rows (held cells) (has_line cells)) its-columns) (sym middle_is) (subst (AllByRecursion (CanTake rows (held summed) (has_line summed))) (sym read.added-are) summed_ready)

        pub all_added : (last : C)
            → ((bound : ℕ) → AreLists rows bound (held middle) its-columns → IsListTo bound other-rows → last ≡ with_lines put_at middle (sums (held middle) rows bound other-rows its-columns))
            → last ≡ with_lines put_at old (planned (line_at lines) rows columns column)
        all_added last last-is =
            last-is rows
            (subst (λ cells. AreLists rows rows (held cells) its-columns) (sym middle_is) (subst (AreLists rows rows (held summed)) (sym read.added-are) summed_lists))
            (subst (IsListTo rows) (sym read.others-are) (others_list mine.fit mine.within pivot))
            ∙ ap (λ ns. with_lines put_at middle (sums (held middle) rows rows ns its-columns)) read.others-are
            ∙ ap (λ ns. with_lines put_at middle (sums (held middle) rows rows others ns)) read.added-are
            ∙ ap (λ cells. with_lines put_at cells (sums (held cells) rows rows others added)) middle_is
            ∙ all_changed

-- a row that is used is passed, and one that isn't is the pivot
module _ (line : ℕ → Line2) (row : ℕ) (rows : List ℕ) where
  pub first_used : is_used (line (row - 1)) ≡ true → pivot_among line (row ∷ rows) ≡ pivot_among line rows
  first_used used = ap (λ b. first_of (if not b then (row - 1) ∷ filter (λ loc. not (is_used (line loc))) (locations rows) else filter (λ loc. not (is_used (line loc))) (locations rows))) used

  pub first_unused : is_used (line (row - 1)) ≡ false → pivot_among line (row ∷ rows) ≡ Some (row - 1)
  first_unused free = ap (λ b. first_of (if not b then (row - 1) ∷ filter (λ loc. not (is_used (line loc))) (locations rows) else filter (λ loc. not (is_used (line loc))) (locations rows))) free
