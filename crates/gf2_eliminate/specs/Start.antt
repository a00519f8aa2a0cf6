-- The cells and tasks that elimination begins with, and what is printed of the cells at its end.
use Rattle.std.specs.Prelude.{ℕ, suc, ◌+◌, ◌-◌, false, nat_lt, if◌then◌else◌, List, [], ◌∷◌, ◌++◌, length, map, filter, codes}
use Rattle.std.specs.Fmt.{decimal}
use Rattle.task_order.specs.declared.start.Start.{Start}
use Rattle.mtx_reader.specs.declared.pattern.Pattern.{Pattern}
use Rattle.mtx_reader.specs.Ascending.{numbers_from}
use Rattle.mtx_reader.specs.Places.{is_among}
use Rattle.gf2_eliminate.specs.declared.line.Line2.{Line2}
use Rattle.gf2_eliminate.specs.declared.line.Line2.TheVariants.{Row, Col}
use Rattle.gf2_eliminate.specs.Lines.{numbers_in, is_used, line_at, listed}

-- the line of a location: a one at each place of the pattern, and no row is used
abbrev pub start_line : Pattern → ℕ → Line2
start_line pattern loc =
    if nat_lt loc pattern.rows then Row (listed pattern.cols (λ column. is_among pattern.places (suc loc, suc column))) false
    else Col (listed pattern.rows (λ row. is_among pattern.places (suc row, suc (loc - pattern.rows))))

abbrev pub start_cells : Pattern → List Line2
start_cells pattern = map (start_line pattern) (numbers_from 0 (pattern.rows + pattern.cols))

-- a task for each column, in their order
abbrev pub start_task : ℕ → Start
start_task column = record { prio = suc column; body = record { kind = 0; at = column; arg = 0 } }

abbrev pub start_tasks : Pattern → List Start
start_tasks pattern = map start_task (numbers_from 0 pattern.cols)

-- each number after a space
abbrev pub spaced : List ℕ → List ℕ
spaced [] = []
spaced (number ∷ numbers) = 32 ∷ (decimal number ++ spaced numbers)

abbrev pub row_text : ℕ → List ℕ → List ℕ
row_text row numbers = codes "row " ++ decimal (suc row) ++ spaced numbers ++ 10 ∷ []

-- the lines of these rows
abbrev pub row_texts : List Line2 → List ℕ → List ℕ
row_texts cells [] = []
row_texts cells (row ∷ rows) = row_text row (numbers_in (line_at cells row)) ++ row_texts cells rows

-- how many of these rows are used
abbrev pub used_among : List Line2 → List ℕ → ℕ
used_among cells rows = length (filter (λ row. is_used (line_at cells row)) rows)

abbrev pub rank_text : ℕ → List ℕ
rank_text rank = codes "rank " ++ decimal rank ++ 10 ∷ []

-- a line for each row with the columns of its ones, and then the rank: how many rows are used
abbrev pub finals_of : ℕ → List Line2 → List ℕ
finals_of rows cells = row_texts cells (numbers_from 0 rows) ++ rank_text (used_among cells (numbers_from 0 rows))

-- a line with a number more at the end of its list
abbrev pub with_number : Line2 → ℕ → Line2
with_number (Row columns used) number = Row (columns ++ number ∷ []) used
with_number (Col rows) number = Col (rows ++ number ∷ [])

-- a line without a one, in a matrix of `rows` rows
abbrev pub empty_line : ℕ → ℕ → Line2
empty_line rows loc = if nat_lt loc rows then Row [] false else Col []
