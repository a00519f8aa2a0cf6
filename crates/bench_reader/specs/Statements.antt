-- What the reader's statements stand for, and what its functions answer.
use Rattle.std.specs.Prelude.{◌≡◌, ℕ, ◌+◌, true, false, nat_lt, if◌then◌else◌, List, [], ◌∷◌, length, drop, Option, None, Some, Result, Ok, Err}
use Rattle.std.specs.List.{list_any}
use Rattle.kdg_text.specs.declared.fault.LineFault.{LineFault}
use Rattle.kdg_text.specs.Faults.{Numbered}
use Rattle.kdg_text.specs.Tokens.{tokens_of}
use Rattle.bench_reader.specs.Faults.{syntax}
use Rattle.bench_reader.specs.LineForms.{LineForm, InputLine, OutputLine, GateLine, FlipFlopLine, DelayLine, StimulusLine, FaultyLine, marks, are_names, names_among}
use Rattle.bench_reader.specs.Decks.{is_long, most_fan_ins, own_limit}
use Rattle.bench_reader.specs.declared.names.Names.{Names}
use Rattle.bench_reader.specs.declared.statement.Statement.{Statement}
use Rattle.bench_reader.specs.declared.statement.Statement.TheVariants.{Input, Output, Gate, FlipFlop, Delay, Stimulus}
use Rattle.bench_reader.specs.declared.statement.Said.{Said}
use Rattle.bench_reader.specs.declared.statement.NumberedStatement.{NumberedStatement}

-- the names of the fan-ins of a gate's line, behind NAME = WORD (
abbrev pub fan_in_of : List ℕ → List (List ℕ)
fan_in_of line = names_among (drop 4 (tokens_of marks line))

abbrev pub line_form : Statement → LineForm
line_form (Input name) = InputLine name.now
line_form (Output name) = OutputLine name.now
line_form (Gate draft) = GateLine draft.name.now draft.kind (fan_in_of draft.line.now)
line_form (FlipFlop draft) = FlipFlopLine draft.name.now draft.source.now
line_form (Delay draft) = DelayLine draft.name.now draft.delay
line_form (Stimulus draft) = StimulusLine draft.time draft.bits.now

abbrev pub numbered_form : NumberedStatement → Numbered LineForm
numbered_form line = record { number = line.number; form = line_form line.statement }

-- `n`, or one more than a gate may have where `n` is more
abbrev pub capped : ℕ → ℕ
capped n = if nat_lt most_fan_ins n then most_fan_ins + 1 else n

-- what was counted of the names behind a gate's mark
pub record Counts (names : Names) (tokens : List (List ℕ)) : Type 0 where
  pub taken : are_names tokens ≡ true
  pub counted : names.count ≡ capped (length (names_among tokens))
  pub longest : names.has_long ≡ list_any is_long (names_among tokens)
  pub only : length (names_among tokens) ≡ 1 → names_among tokens ≡ names.last.now ∷ []

-- the tokens are names that were counted, or else a fault of syntax
abbrev pub CountsNames : Result Names LineFault → List (List ℕ) → Type 0
CountsNames (Ok names) tokens = Counts names tokens
CountsNames (Err fault) tokens = (are_names tokens ≡ false) × (fault ≡ syntax)

-- what was said is this form, with the limit that it goes beyond
abbrev pub SaysForm : Result Said LineFault → LineForm → Type 0
SaysForm (Ok said) form = (form ≡ line_form said.statement) × (said.limit ≡ own_limit (line_form said.statement))
SaysForm (Err fault) form = form ≡ FaultyLine fault

-- what was said is this form, of a line that may say nothing
abbrev pub Says : Result (Option Said) LineFault → Option LineForm → Type 0
Says (Ok None) form = form ≡ None
Says (Ok (Some said)) form = (form ≡ Some (line_form said.statement)) × (said.limit ≡ own_limit (line_form said.statement))
Says (Err fault) form = form ≡ Some (FaultyLine fault)
