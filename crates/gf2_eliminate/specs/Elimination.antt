-- Elimination over the field of two elements: column by column, a row that has a one there is added to the others.
use Rattle.std.specs.Prelude.{◌≡◌, ℕ, suc, ◌+◌, ◌-◌, ◌<◌, Bool, true, false, not, ◌&&◌, ◌||◌, ◌==◌, nat_lt, if◌then◌else◌, List, [], ◌∷◌, ◌++◌, map, filter, Option, Some, None, codes}
use Rattle.std.specs.Fmt.{decimal}
use Rattle.std.specs.List.{list_any}
use Rattle.task_order.specs.declared.task.Body.{Body}
use Rattle.rw_sets.specs.Accesses.{Accesses}
use Rattle.rw_sets.specs.declared.access.Access.TheVariants.{Write}
use Rattle.cell_store.specs.declared.cell.Cell.{Cell}
use Rattle.cell_store.specs.declared.cell.Cell.TheVariants.{Home, Out}
use Rattle.cell_store.specs.Cells.{cell_at}
use Rattle.app_laws.specs.declared.app.SetAnswer.{SetAnswer}
use Rattle.app_laws.specs.declared.app.SetAnswer.TheVariants as answer
use Rattle.app_laws.specs.Applications.{Application}
use Rattle.app_laws.specs.Execution.{Outcome}
use Rattle.mtx_reader.specs.Ascending.{numbers_from}
use Rattle.gf2_eliminate.specs.declared.line.Line2.{Line2}
use Rattle.gf2_eliminate.specs.declared.line.Line2.TheVariants.{Row, Col}
use Rattle.gf2_eliminate.specs.Lines.{no_line, numbers_in, is_used, line_at, holds, listed, AreLines}

abbrev pub first_of : List ℕ → Option ℕ
first_of [] = None
first_of (n ∷ ns) = Some n

abbrev pub exactly_one : Bool → Bool → Bool
exactly_one true b = not b
exactly_one false b = b

-- the task of a column
pub record IsElimination (columns prio : ℕ) (body : Body) : Type 0 where
  pub kind : body.kind ≡ 0
  pub at : body.at < columns
  pub arg : body.arg ≡ 0

-- each of these locations, to be written
abbrev pub writing : List ℕ → Accesses
writing locs = map (λ loc. (loc, Write)) locs

-- a cell that is out as a row without a one
abbrev pub shown : Cell Line2 → Line2
shown (Home line) = line
shown Out = no_line

abbrev pub is_out : Cell Line2 → Bool
is_out (Home line) = not true
is_out Out = true

abbrev pub free_line : ℕ → List ℕ
free_line column = codes "col " ++ decimal (suc column) ++ codes " free" ++ 10 ∷ []

abbrev pub pivot_line : ℕ → ℕ → List ℕ
pivot_line column pivot = codes "col " ++ decimal (suc column) ++ codes " row " ++ decimal (suc pivot) ++ 10 ∷ []

-- in a matrix of this size
module _ (rows columns : ℕ) where
  -- whether some row has a one in both columns
  abbrev pub is_shared : List Line2 → ℕ → ℕ → Bool
  is_shared cells column other = list_any (λ row. holds cells row column && holds cells row other) (numbers_from 0 rows)

  -- whether the task of a column touches a location: that of a row that has a one in the column, of the column, or of a
  -- column in which such a row has a one
  abbrev pub is_touched : ℕ → List Line2 → ℕ → Bool
  is_touched column cells loc =
      if nat_lt loc rows then holds cells loc column
      else loc == rows + column || is_shared cells column (loc - rows)

  abbrev pub set_of : ℕ → List Line2 → Accesses
  set_of column cells = writing (filter (is_touched column cells) (numbers_from 0 (rows + columns)))

  -- the first of these locations at which the cell is out, or else the set of the column
  abbrev pub unless_out : Option ℕ → ℕ → List (Cell Line2) → SetAnswer
  unless_out (Some loc) column cells = answer.Out loc
  unless_out None column cells = answer.Known (set_of column (map shown cells))

  -- the column's cell is needed first, then the rows in it, in order
  abbrev pub walk_from : Cell Line2 → ℕ → List (Cell Line2) → SetAnswer
  walk_from Out column cells = answer.Out (rows + column)
  walk_from (Home line) column cells =
      unless_out (first_of (filter (λ loc. is_out (cell_at cells loc)) (map (λ row. row - 1) (numbers_in line)))) column cells

  -- the least row that has a one in the column and isn't used
  abbrev pub pivot_of : ℕ → List Line2 → Option ℕ
  pivot_of column cells = first_of (filter (λ row. holds cells row column && not (is_used (line_at cells row))) (numbers_from 0 rows))

  -- whether a row has a one in a column once the pivot was added to each other row that has a one in the first column:
  -- where exactly one of the two has it
  abbrev pub holds_after : ℕ → ℕ → List Line2 → ℕ → ℕ → Bool
  holds_after column pivot cells row other =
      exactly_one (holds cells row other) ((holds cells row column && not (row == pivot)) && holds cells pivot other)

  -- the line of a location then
  abbrev pub line_after : ℕ → ℕ → List Line2 → ℕ → Line2
  line_after column pivot cells loc =
      if nat_lt loc rows then Row (listed columns (holds_after column pivot cells loc)) (is_used (line_at cells loc) || loc == pivot)
      else Col (listed rows (λ row. holds_after column pivot cells row (loc - rows)))

  abbrev pub lines_after : ℕ → ℕ → List Line2 → List Line2
  lines_after column pivot cells = map (line_after column pivot cells) (numbers_from 0 (rows + columns))

  abbrev pub outcome_with : ℕ → Option ℕ → List Line2 → Outcome Line2
  outcome_with column None cells = record { cells = cells; children = []; text = free_line column }
  outcome_with column (Some pivot) cells = record { cells = lines_after column pivot cells; children = []; text = pivot_line column pivot }

  abbrev pub eliminated : ℕ → List Line2 → Outcome Line2
  eliminated column cells = outcome_with column (pivot_of column cells) cells

  abbrev pub elimination : Application Line2
  elimination = record {
    count = rows + columns;
    is_fit_cells = AreLines rows columns;
    is_fit_task = IsElimination columns;
    set_of = λ body cells. set_of body.at cells;
    walk = λ body cells. walk_from (cell_at cells (rows + body.at)) body.at cells;
    act = λ task cells. eliminated task.body.at cells;
    is_safe = λ task others. true;
  }
