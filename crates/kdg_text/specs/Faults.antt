-- Lines in order, each judged beside those before it, and the first that has a fault.
use Rattle.std.specs.Prelude.{◌≡◌, ◌==◌, ℕ, ◌+◌, if◌then◌else◌, List, [], ◌∷◌, ◌++◌, Option, None, Some, Result, Ok, Err, Bool}
use Rattle.std.specs.Option.{option_or, option_map, option_map_or}
use Rattle.kdg_text.specs.declared.fault.Fault.{Fault}
use Rattle.kdg_text.specs.declared.fault.LineFault.{LineFault}
use Rattle.kdg_text.specs.declared.fault.ReadFail.{ReadFail}
use Rattle.kdg_text.specs.declared.fault.ReadFail.TheVariants.{Bad, NoRoom}

-- what a line says, with the line's number
pub record Numbered (L : Type 0) : Type 0 where
  pub number : ℕ
  pub form : L

-- what lines say, where the first has the number n: a line of which form_of gives nothing is skipped
abbrev pub forms_from : {L : Type 0} → (List ℕ → Option L) → ℕ → List (List ℕ) → List (Numbered L)
forms_from form_of n [] = []
forms_from form_of n (line ∷ lines) =
    option_map_or (λ form. record { number = n; form = form } ∷ forms_from form_of (n + 1) lines) (form_of line) (forms_from form_of (n + 1) lines)

-- a fault of this kind that is no limit
abbrev pub fault_of_kind : ℕ → LineFault
fault_of_kind kind = record { kind = kind; bound = 0 }

-- the fault, where the test holds
abbrev pub fault_where : Bool → LineFault → Option LineFault
fault_where test fault = if test then Some fault else None

-- a fault of the line of that number
abbrev pub fault_on : ℕ → LineFault → Fault
fault_on number fault = record { line = number; kind = fault.kind; bound = fault.bound }

-- The first fault of lines: judge says what is wrong with a line beside the lines before it, which begin with these.
abbrev pub first_fault_after : {L : Type 0} → (List (Numbered L) → L → Option LineFault) → List (Numbered L) → List (Numbered L) → Option Fault
first_fault_after judge before [] = None
first_fault_after judge before (line ∷ lines) =
    option_or (option_map (fault_on line.number) (judge before line.form)) (first_fault_after judge (before ++ line ∷ []) lines)

-- the first fault of all lines
abbrev pub first_fault : {L : Type 0} → (List (Numbered L) → L → Option LineFault) → List (Numbered L) → Option Fault
first_fault judge lines = first_fault_after judge [] lines

-- a fault, or else what comes without one
abbrev pub unless_fault : {V : Type 0} → Option Fault → Result V Fault → Result V Fault
unless_fault None answer = answer
unless_fault (Some fault) answer = Err fault

-- the part of a line before the first byte that begins a comment
abbrev pub before_comment : ℕ → List ℕ → List ℕ
before_comment mark [] = []
before_comment mark (byte ∷ bytes) = if byte == mark then [] else byte ∷ before_comment mark bytes

-- no line has a fault
abbrev pub IsFaultless : {L : Type 0} → (List (Numbered L) → L → Option LineFault) → List (Numbered L) → Type 0
IsFaultless judge lines = (before : List (Numbered _)) (line : Numbered _) (after : List (Numbered _)) → lines ≡ before ++ line ∷ after → judge before line.form ≡ None

-- this is the first line that has a fault
pub record IsFirstFault {L : Type 0} (judge : List (Numbered L) → L → Option LineFault) (lines : List (Numbered L)) (fault : Fault) : Type 0 where
  pub before : List (Numbered L)
  pub line : Numbered L
  pub after : List (Numbered L)
  pub wrong : LineFault
  pub whole : lines ≡ before ++ line ∷ after
  pub faultless : IsFaultless judge before
  pub judged : judge before line.form ≡ Some wrong
  pub answer : fault ≡ fault_on line.number wrong

-- a reader's answer is this one, unless memory ran out
abbrev pub Answers : {V : Type 0} → Result V ReadFail → Result V Fault → Type 0
Answers (Ok value) answer = answer ≡ Ok value
Answers (Err NoRoom) answer = Unit {0}
Answers (Err (Bad fault)) answer = answer ≡ Err fault

-- a reader stops at a line of that number for what is wrong with it, unless memory ran out
abbrev pub StopsAt : ℕ → Option LineFault → ReadFail → Type 0
StopsAt number wrong NoRoom = Unit {0}
StopsAt number wrong (Bad fault) = option_map (fault_on number) wrong ≡ Some fault
