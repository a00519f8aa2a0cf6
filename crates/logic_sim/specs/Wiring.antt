-- How the signals of a deck are wired.
use Rattle.std.specs.Prelude.{ℕ, Bool, true, false, ◌==◌, List, [], ◌∷◌, length, filter, slice_index_or}
use Rattle.std.specs.List.{list_any, range_with_len}
use Rattle.bench_reader.specs.declared.deck.Form.{Form}
use Rattle.bench_reader.specs.declared.deck.Form.TheVariants.{Input, Gate, Dff}
use Rattle.bench_reader.specs.declared.deck.Signal.{Signal}
use Rattle.bench_reader.specs.Decks.{is_input}

-- what stands past the last signal
abbrev pub no_signal : Signal
no_signal = record { name = []; form = Input }

abbrev pub signal_at : List Signal → ℕ → Signal
signal_at signals number = slice_index_or signals number no_signal

abbrev pub is_among : List ℕ → ℕ → Bool
is_among numbers number = list_any (λ other. other == number) numbers

abbrev pub is_gate : Form → Bool
is_gate Input = false
is_gate (Gate kind fan_in) = true
is_gate (Dff source) = false

abbrev pub is_flip_flop : Form → Bool
is_flip_flop Input = false
is_flip_flop (Gate kind fan_in) = false
is_flip_flop (Dff source) = true

-- the signals whose values decide that of a signal
abbrev pub fan_in_of : Form → List ℕ
fan_in_of Input = []
fan_in_of (Gate kind fan_in) = fan_in
fan_in_of (Dff source) = source ∷ []

-- those of which each change has the signal evaluated: a flip-flop waits for its clock
abbrev pub watched_by : Form → List ℕ
watched_by Input = []
watched_by (Gate kind fan_in) = fan_in
watched_by (Dff source) = []

-- whether the signal with the second number is a gate that has the first among its fan-ins
abbrev pub reads : List Signal → ℕ → ℕ → Bool
reads signals number gate = is_among (watched_by (signal_at signals gate).form) number

-- the gates among the first n signals, in order
abbrev pub gates_among : List Signal → ℕ → List ℕ
gates_among signals n = filter (λ number. is_gate (signal_at signals number).form) (range_with_len 0 n)

-- the flip-flops among the first n signals, in order
abbrev pub flip_flops_among : List Signal → ℕ → List ℕ
flip_flops_among signals n = filter (λ number. is_flip_flop (signal_at signals number).form) (range_with_len 0 n)

-- the primary inputs among the first n signals, in order
abbrev pub inputs_among : List Signal → ℕ → List ℕ
inputs_among signals n = filter (λ number. is_input (signal_at signals number).form) (range_with_len 0 n)

-- the gates among the first n signals that read the signal with this number, in order
abbrev pub readers_among : List Signal → ℕ → ℕ → List ℕ
readers_among signals n number = filter (reads signals number) (range_with_len 0 n)

-- all gates, in file order
abbrev pub gates_of : List Signal → List ℕ
gates_of signals = gates_among signals (length signals)

-- all flip-flops, in file order
abbrev pub flip_flops_of : List Signal → List ℕ
flip_flops_of signals = flip_flops_among signals (length signals)

-- each gate that reads the signal once, in file order
abbrev pub readers_of : List Signal → ℕ → List ℕ
readers_of signals number = readers_among signals (length signals) number

-- all primary inputs, in the order in which they are declared
abbrev pub inputs_of : List Signal → List ℕ
inputs_of signals = inputs_among signals (length signals)
