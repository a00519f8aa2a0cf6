-- The pattern that lines describe, and what holds of every pattern.
use Rattle.std.specs.Prelude.{ℕ, ◌≤◌, Bool, true, not, ◌&&◌, ◌==◌, nat_lt, nat_le, if◌then◌else◌, List, [], ◌∷◌, ◌++◌, length, Option, None, Some}
use Rattle.std.specs.List.{AllByRecursion}
use Rattle.std.specs.Option.{option_or}
use Rattle.kdg_text.specs.declared.fault.LineFault.{LineFault}
use Rattle.kdg_text.specs.Faults.{Numbered}
use Rattle.mtx_reader.specs.declared.banner.Banner.{Banner}
use Rattle.mtx_reader.specs.declared.banner.Field.{Field}
use Rattle.mtx_reader.specs.declared.banner.Symmetry.{Symmetry}
use Rattle.mtx_reader.specs.declared.banner.Symmetry.TheVariants.{General, Symmetric}
use Rattle.mtx_reader.specs.declared.line_form.Entry.{Entry}
use Rattle.mtx_reader.specs.declared.line_form.LineForm.{LineForm}
use Rattle.mtx_reader.specs.declared.line_form.Size.{Size}
use Rattle.mtx_reader.specs.declared.pattern.Pattern.{Pattern}
use Rattle.mtx_reader.specs.Addends.{Addend, ones_among}
use Rattle.mtx_reader.specs.Ascending.{IsAscendingBy}
use Rattle.mtx_reader.specs.Faults.{bad_size, bad_entry, bad_place, few, many, beyond}
use Rattle.mtx_reader.specs.Places.{place_cmp, IsWithin}

abbrev pub most_rows : ℕ
most_rows = 4096

abbrev pub most_columns : ℕ
most_columns = 4096

abbrev pub most_entries : ℕ
most_entries = 1_000_000

-- a number goes beyond the limit
abbrev pub limit_fault : ℕ → ℕ → Option LineFault
limit_fault limit number = if nat_lt limit number then Some (beyond limit) else None

abbrev pub is_skew : Symmetry → Size → Bool
is_skew General size = not true
is_skew Symmetric size = not (size.rows == size.columns)

-- what is wrong with the first line below the banner that says something, by the size that it says
abbrev pub size_fault : Symmetry → Option Size → Option LineFault
size_fault kind None = Some bad_size
size_fault kind (Some size) =
    if is_skew kind size then Some bad_size
    else option_or (limit_fault most_rows size.rows) (option_or (limit_fault most_columns size.columns) (limit_fault most_entries size.entries))

abbrev pub is_number_to : ℕ → ℕ → Bool
is_number_to last number = nat_le 1 number && nat_le number last

-- what is wrong with a line by itself, by the entry that it says
abbrev pub place_fault : Size → Option Entry → Option LineFault
place_fault size None = Some bad_entry
place_fault size (Some entry) = if is_number_to size.rows entry.row && is_number_to size.columns entry.column then None else Some bad_place

-- what is wrong with a line behind that many entries
abbrev pub entry_fault : Size → ℕ → Option Entry → Option LineFault
entry_fault size count entry = if nat_lt count size.entries then place_fault size entry else Some many

-- what is wrong with a line behind that of the size, which was right
abbrev pub later_fault : Option Size → ℕ → Option Entry → Option LineFault
later_fault None count entry = None
later_fault (Some size) count entry = entry_fault size count entry

-- what is wrong with a line, beside those before it
abbrev pub line_fault : Symmetry → List (Numbered LineForm) → LineForm → Option LineFault
line_fault kind [] line = size_fault kind line.size
line_fault kind (first ∷ entries) line = later_fault first.form.size (length entries) line.entry

-- whether fewer entries came than the size says
abbrev pub few_fault : Option Size → ℕ → Option LineFault
few_fault None count = None
few_fault (Some size) count = if nat_lt count size.entries then Some few else None

-- what is wrong at the end of the input
abbrev pub end_fault : List (Numbered LineForm) → Option LineFault
end_fault [] = Some bad_size
end_fault (first ∷ entries) = few_fault first.form.size (length entries)

-- what an entry adds at its place
abbrev pub addend_of : Entry → Addend
addend_of entry = ((entry.row, entry.column), entry.value)

-- the entry with row and column exchanged
abbrev pub mirrored : Entry → Entry
mirrored entry = record { row = entry.column; column = entry.row; value = entry.value }

-- What an entry adds: its value at its place and, in a symmetric matrix, at the place with row and column exchanged, if
-- that is another.
abbrev pub addends_by : Symmetry → Option Entry → List Addend
addends_by kind None = []
addends_by General (Some entry) = addend_of entry ∷ []
addends_by Symmetric (Some entry) = if entry.row == entry.column then addend_of entry ∷ [] else addend_of entry ∷ addend_of (mirrored entry) ∷ []

-- what the entries of these lines add
abbrev pub addends_of : Symmetry → List (Numbered LineForm) → List Addend
addends_of kind [] = []
addends_of kind (line ∷ lines) = addends_by kind line.form.entry ++ addends_of kind lines

-- the pattern of that size where so much is added
abbrev pub pattern_by : Field → Option Size → List Addend → Pattern
pattern_by field None addends = record { rows = 0; cols = 0; places = [] }
pattern_by field (Some size) addends = record { rows = size.rows; cols = size.columns; places = ones_among field size.rows size.columns addends }

-- the pattern of lines that have no fault
abbrev pub pattern_with : Banner → List (Numbered LineForm) → Pattern
pattern_with banner [] = pattern_by banner.field None []
pattern_with banner (first ∷ entries) = pattern_by banner.field first.form.size (addends_of banner.symmetry entries)

-- what holds of each pattern that was read
pub record IsPattern (pattern : Pattern) : Type 0 where
  pub rows : pattern.rows ≤ most_rows
  pub columns : pattern.cols ≤ most_columns
  pub within : AllByRecursion (IsWithin pattern.rows pattern.cols) pattern.places
  pub ascending : IsAscendingBy place_cmp pattern.places
