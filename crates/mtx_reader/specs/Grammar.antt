-- The patterns that bytes spell, and the faults of those that spell none.
use Rattle.std.specs.Prelude.{◌≡◌, ℕ, ◌+◌, List, [], ◌∷◌, length, Result, Ok, Err}
use Rattle.std.specs.Option.{option_map}
use Rattle.kdg_text.specs.Lines.{lines_of}
use Rattle.kdg_text.specs.Faults.{Numbered, forms_from, fault_on, first_fault, unless_fault}
use Rattle.kdg_text.specs.declared.fault.Fault.{Fault}
use Rattle.kdg_text.specs.declared.fault.LineFault.{LineFault}
use Rattle.kdg_text.specs.declared.fault.ReadFail.{ReadFail}
use Rattle.kdg_text.specs.declared.fault.ReadFail.TheVariants.{Bad, NoRoom}
use Rattle.mtx_reader.specs.declared.banner.Banner.{Banner}
use Rattle.mtx_reader.specs.declared.line_form.LineForm.{LineForm}
use Rattle.mtx_reader.specs.declared.pattern.Pattern.{Pattern}
use Rattle.mtx_reader.specs.Faults.{bad_banner}
use Rattle.mtx_reader.specs.LineForms.{words_of, banner_of, form_of}
use Rattle.mtx_reader.specs.Patterns.{line_fault, end_fault, pattern_with}

-- The pattern of the lines below the banner that say something, or their first fault. What is wrong at the end is a fault
-- of the line of that number.
abbrev pub answer_below : Banner → ℕ → List (Numbered LineForm) → Result Pattern Fault
answer_below banner end lines =
    unless_fault (first_fault (line_fault banner.symmetry) lines)
    (unless_fault (option_map (fault_on end) (end_fault lines)) (Ok (pattern_with banner lines)))

-- the pattern of the lines below what the first one says, or the first fault
abbrev pub answer_by : Result Banner LineFault → List (List ℕ) → Result Pattern Fault
answer_by (Err fault) lines = Err (fault_on 1 fault)
answer_by (Ok banner) lines = answer_below banner (2 + length lines) (forms_from (form_of banner.field) 2 lines)

-- the pattern that lines describe together, or the first fault
abbrev pub answer_of : List (List ℕ) → Result Pattern Fault
answer_of [] = Err (fault_on 1 bad_banner)
answer_of (first ∷ lines) = answer_by (banner_of (words_of first)) lines

-- the pattern that the bytes spell, or their first fault
unfoldable pub pattern_of : List ℕ → Result Pattern Fault
pattern_of input = answer_of (lines_of input)

-- bytes are refused only for the fault that they have
abbrev pub Refuses : List ℕ → ReadFail → Type 0
Refuses input NoRoom = Unit {0}
Refuses input (Bad fault) = pattern_of input ≡ Err fault
