-- The deck that lines describe, and what holds of every deck.
use Rattle.std.specs.Prelude.{◌≡◌, ◌≢◌, ℕ, suc, ◌-◌, ◌<◌, ◌≤◌, Bool, true, false, not, ◌==◌, nat_lt, if◌then◌else◌, List, [], ◌∷◌, length, map, filter, Option, None, Some, is_some, unwrap_or, bytes_eq, All, AllPairs}
use Rattle.std.specs.List.{AllZip, list_all, list_any, filter_map}
use Rattle.std.specs.Option.{option_or}
use Rattle.kdg_text.specs.declared.fault.LineFault.{LineFault}
use Rattle.kdg_text.specs.Faults.{Numbered, fault_where}
use Rattle.bench_reader.specs.declared.deck.Deck.{Deck}
use Rattle.bench_reader.specs.declared.deck.Form.{Form}
use Rattle.bench_reader.specs.declared.deck.Form.TheVariants.{Input, Gate, Dff}
use Rattle.bench_reader.specs.declared.deck.GateKind.{GateKind}
use Rattle.bench_reader.specs.declared.deck.GateKind.TheVariants.{Not, Buff}
use Rattle.bench_reader.specs.declared.deck.Signal.{Signal}
use Rattle.bench_reader.specs.declared.deck.Stim.{Stim}
use Rattle.bench_reader.specs.Faults.{double, undefined, bit_count, beyond}
use Rattle.bench_reader.specs.LineForms.{LineForm, InputLine, OutputLine, GateLine, FlipFlopLine, DelayLine, StimulusLine, FaultyLine, latest_stimulus, longest_delay}

-- the name that a line defines
abbrev pub defined_by : LineForm → Option (List ℕ)
defined_by (InputLine name) = Some name
defined_by (GateLine name kind fan_in) = Some name
defined_by (FlipFlopLine name source) = Some name
defined_by _ = None

-- the gate or flip-flop that a line defines
abbrev pub gate_defined_by : LineForm → Option (List ℕ)
gate_defined_by (GateLine name kind fan_in) = Some name
gate_defined_by (FlipFlopLine name source) = Some name
gate_defined_by _ = None

-- the primary input that a line defines
abbrev pub input_by : LineForm → Option (List ℕ)
input_by (InputLine name) = Some name
input_by _ = None

-- the name that a line declares an output
abbrev pub output_by : LineForm → Option (List ℕ)
output_by (OutputLine name) = Some name
output_by _ = None

-- the stimulus of a line
abbrev pub stimulus_by : LineForm → Option Stim
stimulus_by (StimulusLine time bits) = Some (record { time = time; bits = map (λ byte. byte - 48) bits })
stimulus_by _ = None

-- the names that a line uses, which some line has to define
abbrev pub used_by : LineForm → List (List ℕ)
used_by (OutputLine name) = name ∷ []
used_by (GateLine name kind fan_in) = fan_in
used_by (FlipFlopLine name source) = source ∷ []
used_by _ = []

-- all names of a line
abbrev pub names_in : LineForm → List (List ℕ)
names_in (InputLine name) = name ∷ []
names_in (OutputLine name) = name ∷ []
names_in (GateLine name kind fan_in) = name ∷ fan_in
names_in (FlipFlopLine name source) = name ∷ source ∷ []
names_in (DelayLine name delay) = name ∷ []
names_in _ = []

-- what is said by lines of a sort, in order
abbrev pub said : {X : Type 0} → (LineForm → Option X) → List (Numbered LineForm) → List X
said by lines = filter_map (λ line. by line.form) lines

-- the names of all signals, in the order of their numbers
abbrev pub signal_names : List (Numbered LineForm) → List (List ℕ)
signal_names lines = said defined_by lines

-- the names of the gates and flip-flops among them
abbrev pub gate_names : List (Numbered LineForm) → List (List ℕ)
gate_names lines = said gate_defined_by lines

-- the delay that a line gives the name
abbrev pub delay_in : LineForm → List ℕ → Option ℕ
delay_in (DelayLine other delay) name = if bytes_eq name other then Some delay else None
delay_in _ name = None

-- the delay that lines give the name
abbrev pub delay_given : List (Numbered LineForm) → List ℕ → Option ℕ
delay_given [] name = None
delay_given (line ∷ lines) name = option_or (delay_in line.form name) (delay_given lines name)

abbrev pub is_among : List (List ℕ) → List ℕ → Bool
is_among names name = list_any (bytes_eq name) names

-- how many names stand before the first that is this one
abbrev pub place_of : List (List ℕ) → List ℕ → ℕ
place_of [] name = 0
place_of (first ∷ names) name = if bytes_eq name first then 0 else suc (place_of names name)

-- the numbers without those that stand before
abbrev pub firsts : List ℕ → List ℕ
firsts [] = []
firsts (n ∷ ns) = n ∷ filter (λ m. not (m == n)) (firsts ns)

abbrev pub most_name_bytes : ℕ
most_name_bytes = 64

abbrev pub most_fan_ins : ℕ
most_fan_ins = 255

abbrev pub most_signals : ℕ
most_signals = 4096

abbrev pub most_stimuli : ℕ
most_stimuli = 65536

-- the line's own fault
abbrev pub own_fault : LineForm → Option LineFault
own_fault (FaultyLine fault) = Some fault
own_fault _ = None

-- an earlier line defines the name
abbrev pub double_name : List (Numbered LineForm) → Option (List ℕ) → Option LineFault
double_name before None = None
double_name before (Some name) = fault_where (is_among (signal_names before) name) double

-- an earlier line gives the name a delay
abbrev pub double_delay : List (Numbered LineForm) → LineForm → Option LineFault
double_delay before (DelayLine name delay) = fault_where (is_some (delay_given before name)) double
double_delay before _ = None

-- an earlier line says of the name what this one says
abbrev pub double_fault : List (Numbered LineForm) → LineForm → Option LineFault
double_fault before form = option_or (double_name before (defined_by form)) (double_delay before form)

-- whether a name is longer than a name may be
abbrev pub is_long : List ℕ → Bool
is_long name = nat_lt most_name_bytes (length name)

-- a limit that the line's own bytes go beyond
abbrev pub own_limit : LineForm → Option LineFault
own_limit form =
    option_or (fault_where (list_any is_long (names_in form)) (beyond most_name_bytes))
    (fault_where (nat_lt most_fan_ins (length (used_by form))) (beyond most_fan_ins))

-- a limit that the line goes beyond with those before it
abbrev pub count_limit : List (Numbered LineForm) → LineForm → Option LineFault
count_limit before (InputLine name) = fault_where (not (nat_lt (length (signal_names before)) most_signals)) (beyond most_signals)
count_limit before (GateLine name kind fan_in) = fault_where (not (nat_lt (length (signal_names before)) most_signals)) (beyond most_signals)
count_limit before (FlipFlopLine name source) = fault_where (not (nat_lt (length (signal_names before)) most_signals)) (beyond most_signals)
count_limit before (StimulusLine time bits) = fault_where (not (nat_lt (length (said stimulus_by before)) most_stimuli)) (beyond most_stimuli)
count_limit before _ = None

-- what is wrong with a line, by its own bytes and the lines before it
abbrev pub early_fault : List (Numbered LineForm) → LineForm → Option LineFault
early_fault before form =
    option_or (own_fault form) (option_or (double_fault before form) (option_or (own_limit form) (count_limit before form)))

-- a stimulus with another number of bits than there are primary inputs
abbrev pub bit_fault : ℕ → LineForm → Option LineFault
bit_fault inputs (StimulusLine time bits) = fault_where (not (length bits == inputs)) bit_count
bit_fault inputs _ = None

-- a delay for a name that is no gate's, where these are the names of all gates
abbrev pub delay_fault : List (List ℕ) → LineForm → Option LineFault
delay_fault gates (DelayLine name delay) = fault_where (not (is_among gates name)) undefined
delay_fault gates _ = None

-- what is wrong with a line by all lines
abbrev pub late_fault : List (Numbered LineForm) → LineForm → Option LineFault
late_fault lines form =
    option_or (fault_where (not (list_all (is_among (signal_names lines)) (used_by form))) undefined)
    (option_or (delay_fault (gate_names lines) form) (bit_fault (length (said input_by lines)) form))

-- the signal that a line defines, where these are the names of all signals
abbrev pub signal_by : List (List ℕ) → LineForm → Option Signal
signal_by all (InputLine name) = Some (record { name = name; form = Input })
signal_by all (GateLine name kind fan_in) = Some (record { name = name; form = Gate kind (map (place_of all) fan_in) })
signal_by all (FlipFlopLine name source) = Some (record { name = name; form = Dff (place_of all source) })
signal_by all _ = None

-- the delay of a gate to which no line gives one
abbrev pub usual_delay : ℕ
usual_delay = 1

-- the delay of the signal that a line defines, where these are all lines: an input has none
abbrev pub signal_delay : List (Numbered LineForm) → LineForm → Option ℕ
signal_delay all (InputLine name) = Some 0
signal_delay all (GateLine name kind fan_in) = Some (unwrap_or (delay_given all name) usual_delay)
signal_delay all (FlipFlopLine name source) = Some (unwrap_or (delay_given all name) usual_delay)
signal_delay all _ = None

-- what the lines say of a deck of all these lines: signals with their delays and stimuli in order, and each output once
abbrev pub deck_among : List (Numbered LineForm) → List (Numbered LineForm) → Deck
deck_among all lines = record {
  signals = said (signal_by (signal_names all)) lines;
  outputs = firsts (map (place_of (signal_names all)) (said output_by lines));
  stimuli = said stimulus_by lines;
  delays = said (signal_delay all) lines;
}

abbrev pub deck_with : List (Numbered LineForm) → Deck
deck_with lines = deck_among lines lines

-- a gate of the kind may have n fan-ins
abbrev pub IsArity : GateKind → ℕ → Type 0
IsArity Not n = n ≡ 1
IsArity Buff n = n ≡ 1
IsArity _ n = (1 ≤ n) × (n ≤ most_fan_ins)

-- in a deck of n signals
abbrev pub IsWired : ℕ → Form → Type 0
IsWired n Input = Unit {0}
IsWired n (Gate kind fan_in) = IsArity kind (length fan_in) × All (λ number. number < n) fan_in
IsWired n (Dff source) = source < n

-- the delay of a signal: an input has none
abbrev pub IsDelayOf : Form → ℕ → Type 0
IsDelayOf Input delay = delay ≡ 0
IsDelayOf _ delay = (1 ≤ delay) × (delay ≤ longest_delay)

abbrev pub IsNameLength : ℕ → Type 0
IsNameLength n = (1 ≤ n) × (n ≤ most_name_bytes)

abbrev pub is_input : Form → Bool
is_input Input = true
is_input (Gate kind fan_in) = false
is_input (Dff source) = false

-- the primary inputs, in order
abbrev pub inputs_of : List Signal → List Signal
inputs_of signals = filter (λ signal. is_input signal.form) signals

-- a stimulus of a circuit with n primary inputs
pub record IsStimFor (n : ℕ) (stimulus : Stim) : Type 0 where
  pub not_too_late : stimulus.time ≤ latest_stimulus
  pub one_for_each : length stimulus.bits ≡ n
  pub zeros_and_ones : All (λ bit. bit ≤ 1) stimulus.bits

-- what a circuit needs of its deck
pub record IsSoundlyWired (deck : Deck) : Type 0 where
  pub signal_count : length deck.signals ≤ most_signals
  pub stimulus_count : length deck.stimuli ≤ most_stimuli
  pub wired : All (λ signal. IsWired (length deck.signals) signal.form) deck.signals
  pub outputs_in_range : All (λ number. number < length deck.signals) deck.outputs
  pub outputs_differ : AllPairs (λ number later. number ≢ later) deck.outputs
  pub stimuli_fit : All (IsStimFor (length (inputs_of deck.signals))) deck.stimuli
  pub delays_fit : AllZip (λ signal delay. IsDelayOf signal.form delay) deck.signals deck.delays

-- what holds of each deck that was read
pub record IsDeck (deck : Deck) : Type 0 where
  pub wiring : IsSoundlyWired deck
  pub name_lengths : All (λ signal. IsNameLength (length signal.name)) deck.signals
  pub names_differ : AllPairs (λ signal later. signal.name ≢ later.name) deck.signals
