-- What the task of a column changes, by the lines that it has.
use Rattle.std.specs.Prelude.{◌≡◌, ◌≢◌, ℕ, suc, ◌+◌, ◌-◌, ◌<◌, ◌≤◌, ◌^◌, true, not, ◌==◌, List, [], ◌∷◌, ◌++◌, length, map, filter, Option, Some, None, IsSome}
use Rattle.std.specs.List.{AllByRecursion}
use Rattle.rw_sets.specs.Accesses.{access_at}
use Rattle.cell_store.specs.declared.cell.Cell.{Cell}
use Rattle.cell_store.specs.Part.{Part}
use Rattle.cell_store.specs.Cells.{cell_at, cell_in}
use Rattle.mtx_reader.specs.Patterns.{most_rows, most_columns}
use Rattle.gf2_eliminate.specs.declared.line.Line2.{Line2}
use Rattle.gf2_eliminate.specs.declared.line.Line2.TheVariants.{Row, Col}
use Rattle.gf2_eliminate.specs.Lines.{numbers_in, is_used, has, line_at, listed, AreLines, IsListTo}
use Rattle.gf2_eliminate.specs.Elimination.{exactly_one, first_of, set_of, shown, free_line, pivot_line}

-- the line at a location, in a bundle and among cells that are home
abbrev pub line_in : Part Line2 → ℕ → Line2
line_in bundle loc = shown (cell_in bundle loc)

abbrev pub line_at_home : List (Cell Line2) → ℕ → Line2
line_at_home cells loc = shown (cell_at cells loc)

-- what is in exactly one of two lists of numbers from 1 to the bound
abbrev pub sum_to : ℕ → List ℕ → List ℕ → List ℕ
sum_to bound numbers others = listed bound (λ n. exactly_one (has numbers (suc n)) (has others (suc n)))

-- a line with these ones added
abbrev pub with_sum : ℕ → List ℕ → Line2 → Line2
with_sum bound added (Row numbers used) = Row (sum_to bound numbers added) used
with_sum bound added (Col numbers) = Col (sum_to bound numbers added)

-- a row that was a pivot
abbrev pub as_used : Line2 → Line2
as_used (Row numbers used) = Row numbers true
as_used (Col numbers) = Col numbers

-- the locations of rows, and of columns
abbrev pub locations : List ℕ → List ℕ
locations numbers = map (λ row. row - 1) numbers

abbrev pub locations_behind : ℕ → List ℕ → List ℕ
locations_behind rows numbers = map (λ number. rows + (number - 1)) numbers

-- the rows without the pivot
abbrev pub without : ℕ → List ℕ → List ℕ
without pivot holders = filter (λ row. not (row == suc pivot)) holders

-- where the line of each location is this one
module _ (line : ℕ → Line2) where
  -- the first of these rows that isn't used, as its location
  abbrev pub pivot_among : List ℕ → Option ℕ
  pivot_among holders = first_of (filter (λ loc. not (is_used (line loc))) (locations holders))

  -- the lines of these numbers, which count from 1 behind `before` lines, with the ones of `added`
  abbrev pub sums : ℕ → ℕ → List ℕ → List ℕ → List (ℕ × Line2)
  sums before bound added numbers = map (λ number. (before + (number - 1), with_sum bound added (line (before + (number - 1))))) numbers

  -- the pivot is used, and added to the other rows; these change in each column of the pivot
  abbrev pub planned_with : ℕ → ℕ → Option ℕ → List ℕ → List (ℕ × Line2)
  planned_with rows columns None holders = []
  planned_with rows columns (Some pivot) holders =
      (pivot, as_used (line pivot)) ∷ (sums 0 columns (numbers_in (line pivot)) (without pivot holders) ++ sums rows rows (without pivot holders) (numbers_in (line pivot)))

  -- the lines that change, with their locations
  abbrev pub planned : ℕ → ℕ → ℕ → List (ℕ × Line2)
  planned rows columns column = planned_with rows columns (pivot_among (numbers_in (line (rows + column)))) (numbers_in (line (rows + column)))

-- the text of a column with this pivot, or with none
abbrev pub text_with : ℕ → Option ℕ → List ℕ
text_with column None = free_line column
text_with column (Some pivot) = pivot_line column pivot

-- what lines are found in with these put into it, one after the other
abbrev pub with_lines : {C : Type 0} → (C → ℕ → Line2 → C) → C → List (ℕ × Line2) → C
with_lines put_at cells [] = cells
with_lines put_at cells (pair ∷ pairs) = with_lines put_at (put_at cells pair.0 pair.1) pairs

-- a line that is put at a location leaves all others as they were
pub record PutsOneLine {C : Type 0} (held : C → ℕ → Line2) (has_line : C → ℕ → Type 0) (put_at : C → ℕ → Line2 → C) : Type 0 where
  pub same : (cells : C) (loc other : ℕ) (line : Line2) → other ≢ loc → held (put_at cells loc line) other ≡ held cells other
  pub there : (cells : C) (loc other : ℕ) (line : Line2) → other ≢ loc → has_line cells other → has_line (put_at cells loc line) other

-- a row whose line is there
pub record HasRow (has_line : ℕ → Type 0) (row : ℕ) : Type 0 where
  pub from_one : 1 ≤ row
  pub there : has_line (row - 1)

-- a number whose line is there and has a one, counted from 1 behind `before` lines
pub record CanTake (before : ℕ) (line : ℕ → Line2) (has_line : ℕ → Type 0) (number : ℕ) : Type 0 where
  pub from_one : 1 ≤ number
  pub fits : before + number < 2 ^ 32
  pub there : has_line (before + (number - 1))
  pub some : 0 < length (numbers_in (line (before + (number - 1))))

-- the lines of these numbers go to this bound
abbrev pub AreLists : ℕ → ℕ → (ℕ → Line2) → List ℕ → Type 0
AreLists before bound line numbers = AllByRecursion (λ number. IsListTo bound (numbers_in (line (before + (number - 1))))) numbers

-- the lines that the task of a column names are there, and are those of this matrix
pub record AreHeld (rows columns column : ℕ) (line : ℕ → Line2) (has_line : ℕ → Type 0) (lines : List Line2) : Type 0 where
  pub fit : AreLines rows columns lines
  pub within : column < columns
  pub few_rows : rows ≤ most_rows
  pub few_columns : columns ≤ most_columns
  pub there : (loc : ℕ) → IsSome (access_at (set_of rows columns column lines) loc) → has_line loc
  pub same : (loc : ℕ) → IsSome (access_at (set_of rows columns column lines) loc) → line loc ≡ line_at lines loc
