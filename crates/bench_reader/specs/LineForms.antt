-- What a line of a deck says, by that line's bytes alone.
use Rattle.std.specs.Prelude.{ℕ, Bool, true, false, ◌&&◌, ◌||◌, not, ◌==◌, nat_le, if◌then◌else◌, List, [], ◌∷◌, length, Option, None, Some, Result, Ok, Err, codes, bytes_eq}
use Rattle.std.specs.List.{list_all}
use Rattle.kdg_text.specs.declared.fault.LineFault.{LineFault}
use Rattle.kdg_text.specs.declared.number.NumFault.{NumFault}
use Rattle.kdg_text.specs.Faults.{before_comment}
use Rattle.kdg_text.specs.Numbers.{u64_of}
use Rattle.kdg_text.specs.Tokens.{is_blank, is_mark, spells, tokens_of}
use Rattle.bench_reader.specs.declared.deck.GateKind.{GateKind}
use Rattle.bench_reader.specs.declared.deck.GateKind.TheVariants.{And, Nand, Or, Nor, Xor, Xnor, Not, Buff}
use Rattle.bench_reader.specs.Faults.{syntax, unknown_kind, unsupported, arity, bad_number}

-- A line defines a primary input, a gate or a flip-flop, declares an output, gives a delay, is a stimulus, or has a fault of
-- its own.
pub data LineForm : Type 0 where
  InputLine : (name : List ℕ) → LineForm
  OutputLine : (name : List ℕ) → LineForm
  GateLine : (name : List ℕ) (kind : GateKind) (fan_in : List (List ℕ)) → LineForm
  FlipFlopLine : (name source : List ℕ) → LineForm
  DelayLine : (name : List ℕ) (delay : ℕ) → LineForm
  StimulusLine : (time : ℕ) (bits : List ℕ) → LineForm
  FaultyLine : (fault : LineFault) → LineForm

-- the bytes that are tokens of their own
abbrev pub marks : List ℕ
marks = codes "(),="

-- the byte that begins a comment
abbrev pub comment : ℕ
comment = 35

-- a byte that may stand before a comment
abbrev pub is_text_byte : ℕ → Bool
is_text_byte byte = is_blank byte || (nat_le 33 byte && nat_le byte 126)

-- a token that isn't a mark
abbrev pub is_word : List ℕ → Bool
is_word [] = false
is_word (byte ∷ bytes) = not (is_mark marks byte)

-- a word that doesn't begin with '@'
abbrev pub is_name : List ℕ → Bool
is_name [] = false
is_name (byte ∷ bytes) = not (is_mark marks byte) && not (byte == 64)

-- the kind that a word names
abbrev pub kind_of : List ℕ → Option GateKind
kind_of word =
    if spells word (codes "and") then Some And
    else if spells word (codes "nand") then Some Nand
    else if spells word (codes "or") then Some Or
    else if spells word (codes "nor") then Some Nor
    else if spells word (codes "xor") then Some Xor
    else if spells word (codes "xnor") then Some Xnor
    else if spells word (codes "not") then Some Not
    else if spells word (codes "buff") || spells word (codes "buf") then Some Buff
    else None

-- whether the word is the kind of a flip-flop
abbrev pub is_flip_flop : List ℕ → Bool
is_flip_flop word = spells word (codes "dff")

-- whether the word is the kind of a gate that is known and not taken
abbrev pub is_unsupported : List ℕ → Bool
is_unsupported word = spells word (codes "mux") || spells word (codes "lut")

-- whether the word is the name of a constant, which isn't taken
abbrev pub is_constant : List ℕ → Bool
is_constant word = spells word (codes "vdd") || spells word (codes "gnd")

-- whether a gate of this kind may have `n` fan-ins, of which there is one
abbrev pub is_arity : GateKind → ℕ → Bool
is_arity Not n = n == 1
is_arity Buff n = n == 1
is_arity _ n = true

-- whether the tokens are NAME ) or NAME , and more names
abbrev pub are_names : List (List ℕ) → Bool
are_names (name ∷ mark ∷ []) = is_name name && bytes_eq mark (codes ")")
are_names (name ∷ mark ∷ next ∷ more) = is_name name && bytes_eq mark (codes ",") && are_names (next ∷ more)
are_names _ = false

-- the first token, the third, and so on: the names without the marks between them
abbrev pub names_among : List (List ℕ) → List (List ℕ)
names_among [] = []
names_among (name ∷ []) = name ∷ []
names_among (name ∷ mark ∷ tokens) = name ∷ names_among tokens

-- what INPUT or OUTPUT says of a name
abbrev pub declaration_of : List ℕ → List ℕ → LineForm
declaration_of word name =
    if spells word (codes "input") then InputLine name
    else if spells word (codes "output") then OutputLine name
    else FaultyLine syntax

-- WORD ( NAME ), where the word and the first mark are taken off
abbrev pub declared_by : List ℕ → List (List ℕ) → LineForm
declared_by word (name ∷ mark ∷ []) = if is_name name && bytes_eq mark (codes ")") then declaration_of word name else FaultyLine syntax
declared_by word _ = FaultyLine syntax

-- a flip-flop, which has one input
abbrev pub flip_flop_of : List ℕ → List (List ℕ) → LineForm
flip_flop_of name (source ∷ []) = FlipFlopLine name source
flip_flop_of name _ = FaultyLine arity

-- what the word makes of a name that names no kind of gate
abbrev pub other_kind : List ℕ → List ℕ → List (List ℕ) → LineForm
other_kind name word fan_in =
    if is_flip_flop word then flip_flop_of name fan_in
    else if is_unsupported word then FaultyLine unsupported
    else FaultyLine unknown_kind

-- a gate whose kind this word names
abbrev pub gate_of : List ℕ → List ℕ → List (List ℕ) → Option GateKind → LineForm
gate_of name word fan_in (Some kind) = if is_arity kind (length fan_in) then GateLine name kind fan_in else FaultyLine arity
gate_of name word fan_in None = other_kind name word fan_in

-- NAME = WORD ( NAMES, or NAME = CONSTANT, where the name and the first mark are taken off
abbrev pub gate_by : List ℕ → List (List ℕ) → LineForm
gate_by name [] = FaultyLine syntax
gate_by name (word ∷ []) = if is_name name && is_constant word then FaultyLine unsupported else FaultyLine syntax
gate_by name (word ∷ mark ∷ tokens) =
    if is_name name && is_word word && bytes_eq mark (codes "(") && are_names tokens then gate_of name word (names_among tokens) (kind_of word)
    else FaultyLine syntax

-- the last time that a stimulus may have
abbrev pub latest_stimulus : ℕ
latest_stimulus = 1_000_000_000

abbrev pub is_bit : ℕ → Bool
is_bit byte = byte == 48 || byte == 49

-- a stimulus at the time that a word says
abbrev pub stimulus_at : Result ℕ NumFault → List ℕ → LineForm
stimulus_at (Ok time) bits = if nat_le time latest_stimulus then StimulusLine time bits else FaultyLine bad_number
stimulus_at (Err fault) bits = FaultyLine bad_number

-- @ TIME BITS, where the '@' and the time are taken off
abbrev pub stimulus_by : List ℕ → List (List ℕ) → LineForm
stimulus_by time (bits ∷ []) = if list_all is_bit bits then stimulus_at (u64_of time) bits else FaultyLine syntax
stimulus_by time _ = FaultyLine syntax

-- the longest delay that a signal may have
abbrev pub longest_delay : ℕ
longest_delay = 1_000_000

-- the delay that a word says, for the signal of this name
abbrev pub delay_at : List ℕ → Result ℕ NumFault → LineForm
delay_at name (Ok delay) = if nat_le 1 delay && nat_le delay longest_delay then DelayLine name delay else FaultyLine bad_number
delay_at name (Err fault) = FaultyLine bad_number

-- @delay NAME N, where the '@delay' and the name are taken off
abbrev pub delay_by : List ℕ → List (List ℕ) → LineForm
delay_by name (number ∷ []) = if is_name name then delay_at name (u64_of number) else FaultyLine syntax
delay_by name _ = FaultyLine syntax

-- what a line of these tokens says, of which the first is taken off
abbrev pub form_by : List ℕ → List (List ℕ) → LineForm
form_by first [] = FaultyLine syntax
form_by first (second ∷ tokens) =
    if bytes_eq first (codes "@") then stimulus_by second tokens
    else if spells first (codes "@delay") then delay_by second tokens
    else if bytes_eq second (codes "(") then declared_by first tokens
    else if bytes_eq second (codes "=") then gate_by first tokens
    else FaultyLine syntax

-- what a line of these tokens says; nothing without any
abbrev pub form_of_tokens : List (List ℕ) → Option LineForm
form_of_tokens [] = None
form_of_tokens (first ∷ tokens) = Some (form_by first tokens)

-- what these bytes say, which stand before a comment
abbrev pub form_of_text : List ℕ → Option LineForm
form_of_text text = if list_all is_text_byte text then form_of_tokens (tokens_of marks text) else Some (FaultyLine syntax)

-- what a line says
abbrev pub form_of : List ℕ → Option LineForm
form_of line = form_of_text (before_comment comment line)
