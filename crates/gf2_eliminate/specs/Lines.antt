-- The rows and columns of a matrix of zeros and ones, each as the list of the places where it has a one.
use Rattle.std.specs.Prelude.{◌≡◌, ℕ, suc, ◌+◌, ◌<◌, ◌≤◌, Bool, false, ◌==◌, List, [], length, map, filter, slice_index_or}
use Rattle.std.specs.List.{AllByRecursion, list_any}
use Rattle.std.specs.Ordering.{nat_cmp}
use Rattle.mtx_reader.specs.Ascending.{IsAscendingBy, numbers_from}
use Rattle.gf2_eliminate.specs.declared.line.Line2.{Line2}
use Rattle.gf2_eliminate.specs.declared.line.Line2.TheVariants.{Row, Col}

-- a row without a one
abbrev pub no_line : Line2
no_line = Row [] false

abbrev pub numbers_in : Line2 → List ℕ
numbers_in (Row columns used) = columns
numbers_in (Col rows) = rows

abbrev pub is_used : Line2 → Bool
is_used (Row columns used) = used
is_used (Col rows) = false

abbrev pub has : List ℕ → ℕ → Bool
has numbers number = list_any (λ n. n == number) numbers

abbrev pub line_at : List Line2 → ℕ → Line2
line_at cells loc = slice_index_or cells loc no_line

-- Rows and columns are counted from 0 from here on, and from 1 in the lists of lines.

-- whether a row has a one in a column, by what the row's cell says
abbrev pub holds : List Line2 → ℕ → ℕ → Bool
holds cells row column = has (numbers_in (line_at cells row)) (suc column)

-- whether a column has a one in a row, by what the column's cell says, in a matrix of `rows` rows
abbrev pub is_held : ℕ → List Line2 → ℕ → ℕ → Bool
is_held rows cells row column = has (numbers_in (line_at cells (rows + column))) (suc row)

-- the numbers below a bound that pass the test, as a line lists them
abbrev pub listed : ℕ → (ℕ → Bool) → List ℕ
listed bound test = map suc (filter test (numbers_from 0 bound))

-- a list of numbers from 1 to the last one, ascending
pub record IsListTo (last : ℕ) (numbers : List ℕ) : Type 0 where
  pub ascending : IsAscendingBy nat_cmp numbers
  pub within : AllByRecursion (λ number. (1 ≤ number) × (number ≤ last)) numbers

abbrev pub IsRow : ℕ → Line2 → Type 0
IsRow columns (Row numbers used) = IsListTo columns numbers
IsRow columns (Col numbers) = ⊥

abbrev pub IsColumn : ℕ → Line2 → Type 0
IsColumn rows (Row numbers used) = ⊥
IsColumn rows (Col numbers) = IsListTo rows numbers

-- rows and then columns, which agree
pub record AreLines (rows columns : ℕ) (cells : List Line2) : Type 0 where
  pub count : length cells ≡ rows + columns
  pub each_row : (row : ℕ) → row < rows → IsRow columns (line_at cells row)
  pub each_column : (column : ℕ) → column < columns → IsColumn rows (line_at cells (rows + column))
  pub agree : (row column : ℕ) → row < rows → column < columns → holds cells row column ≡ is_held rows cells row column
