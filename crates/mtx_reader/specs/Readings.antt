-- What a reader that has come so far still has to find.
use Rattle.std.specs.Prelude.{ℕ, ◌+◌, ℤ, pos, Bool, true, if◌then◌else◌, List, [], ◌∷◌, ◌++◌, length, filter, count_by, Option, None, Some, Result, Ok}
use Rattle.std.specs.Option.{option_or, option_map}
use Rattle.kdg_text.specs.Lines.{LinesLeft}
use Rattle.kdg_text.specs.Faults.{Numbered, forms_from, fault_on, unless_fault}
use Rattle.kdg_text.specs.declared.fault.Fault.{Fault}
use Rattle.mtx_reader.specs.declared.banner.Banner.{Banner}
use Rattle.mtx_reader.specs.declared.banner.Field.{Field}
use Rattle.mtx_reader.specs.declared.banner.Field.TheVariants as fields
use Rattle.mtx_reader.specs.declared.line_form.LineForm.{LineForm}
use Rattle.mtx_reader.specs.declared.line_form.Size.{Size}
use Rattle.mtx_reader.specs.declared.pattern.Pattern.{Pattern}
use Rattle.mtx_reader.specs.declared.reader.SaidLine.{SaidLine}
use Rattle.mtx_reader.specs.LineForms.{form_of}
use Rattle.mtx_reader.specs.Addends.{Addend, is_odd}
use Rattle.mtx_reader.specs.Patterns.{entry_fault, few_fault, addends_of}
use Rattle.mtx_reader.specs.Places.{Place, is_same, places_from, places_among}

-- what the lines say that are left
abbrev pub forms_left : Field → LinesLeft → List (Numbered LineForm)
forms_left field left = forms_from (form_of field) left.number left.lines

-- one past the number of the last line
abbrev pub end_of : LinesLeft → ℕ
end_of left = left.number + length left.lines

abbrev pub numbered_form : SaidLine → Numbered LineForm
numbered_form line = record { number = line.number; form = line.form }

-- the first fault of lines behind that many entries
abbrev pub entries_fault : Size → ℕ → List (Numbered LineForm) → Option Fault
entries_fault size count [] = None
entries_fault size count (line ∷ lines) =
    option_or (option_map (fault_on line.number) (entry_fault size count line.form.entry)) (entries_fault size (count + 1) lines)

-- whether the reader keeps the place of an entry of that value
abbrev pub is_kept : Field → ℤ → Bool
is_kept fields.Pattern value = true
is_kept fields.Integer value = is_odd value

-- the places that it keeps
abbrev pub kept_places : Field → List Addend → List Place
kept_places field [] = []
kept_places field (addend ∷ addends) = if is_kept field addend.1 then addend.0 ∷ kept_places field addends else kept_places field addends

-- the places of a matrix that are named an odd number of times, row by row
abbrev pub places_named_oddly : ℕ → ℕ → List Place → List Place
places_named_oddly rows columns named = filter (λ place. is_odd (pos (count_by (is_same place) named))) (places_from 1 rows columns)

-- the places of a matrix that have a one, by those that were kept
abbrev pub ones_by : Field → ℕ → ℕ → List Place → List Place
ones_by fields.Pattern rows columns named = places_among rows columns named
ones_by fields.Integer rows columns named = places_named_oddly rows columns named

-- the pattern of a matrix of that size, of which these places were kept
abbrev pub pattern_of_kept : Field → Size → List Place → Pattern
pattern_of_kept field size named = record { rows = size.rows; cols = size.columns; places = ones_by field size.rows size.columns named }

-- The pattern of a matrix of that size, where of `count` entries these places were kept, and these lines are left; or the
-- first fault.
abbrev pub answer_from : Banner → Size → ℕ → List Place → ℕ → List (Numbered LineForm) → Result Pattern Fault
answer_from banner size count named end lines =
    unless_fault (entries_fault size count lines)
    (unless_fault (option_map (fault_on end) (few_fault (Some size) (count + length lines)))
    (Ok (pattern_of_kept banner.field size (named ++ kept_places banner.field (addends_of banner.symmetry lines)))))
