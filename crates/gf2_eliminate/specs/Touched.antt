-- The locations that the task of a column names, as they are found from the column's rows.
use Rattle.std.specs.Prelude.{ℕ, suc, ◌+◌, ◌-◌, ◌≤◌, Bool, ◌||◌, ◌==◌, List, ◌++◌, map, filter}
use Rattle.std.specs.List.{AllByRecursion, list_any}
use Rattle.cell_store.specs.declared.cell.Cell.{Cell}
use Rattle.cell_store.specs.Cells.{cell_at}
use Rattle.mtx_reader.specs.Ascending.{numbers_from}
use Rattle.gf2_eliminate.specs.declared.line.Line2.{Line2}
use Rattle.gf2_eliminate.specs.Lines.{numbers_in, has}
use Rattle.gf2_eliminate.specs.Elimination.{shown}

-- the ones of the line at a location
abbrev pub ones_at : List (Cell Line2) → ℕ → List ℕ
ones_at cells loc = numbers_in (shown (cell_at cells loc))

-- whether a column is this one, or one of these rows has a one in it
abbrev pub is_marked : List (Cell Line2) → ℕ → List ℕ → ℕ → Bool
is_marked cells column rows other = other == column || list_any (λ row. has (ones_at cells (row - 1)) (suc other)) rows

abbrev pub touched_locs : ℕ → ℕ → ℕ → List ℕ → List (Cell Line2) → List ℕ
touched_locs rows columns column holders cells =
    map (λ row. row - 1) holders ++ map (λ other. rows + other) (filter (is_marked cells column holders) (numbers_from 0 columns))

-- rows of a matrix
abbrev pub AreRowsTo : ℕ → List ℕ → Type 0
AreRowsTo rows numbers = AllByRecursion (λ row. (1 ≤ row) × (row ≤ rows)) numbers

-- the ones of each of these rows are in the first `columns` columns
abbrev pub HaveColumns : List (Cell Line2) → ℕ → List ℕ → Type 0
HaveColumns cells columns rows = AllByRecursion (λ row. AllByRecursion (λ number. (1 ≤ number) × (number ≤ columns)) (ones_at cells (row - 1))) rows
