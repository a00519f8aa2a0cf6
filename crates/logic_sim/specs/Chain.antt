-- A deck that is made from a number, that of its inverters, which stand in a row.
use Rattle.std.specs.Prelude.{ℕ, ◌+◌, [], ◌∷◌, ◌++◌, List, map, replicate, codes}
use Rattle.std.specs.Fmt.{decimal}
use Rattle.std.specs.List.{range_with_len}
use Rattle.bench_reader.specs.declared.deck.Deck.{Deck}
use Rattle.bench_reader.specs.declared.deck.Form.TheVariants.{Input, Gate}
use Rattle.bench_reader.specs.declared.deck.GateKind.TheVariants.{Not}
use Rattle.bench_reader.specs.declared.deck.Signal.{Signal}

abbrev pub most_inverters : ℕ
most_inverters = 999

-- the input a
abbrev pub chain_input : Signal
chain_input = record { name = codes "a"; form = Input }

-- gate number i + 1 inverts signal number i: the input, or the gate before it
abbrev pub inverter_of : ℕ → Signal
inverter_of i = record { name = codes "g" ++ decimal (i + 1); form = Gate Not (i ∷ []) }

abbrev pub chain_signals : ℕ → List Signal
chain_signals n = chain_input ∷ map inverter_of (range_with_len 0 n)

-- the input has no delay, and each of the gates the delay 1
abbrev pub chain_delays : ℕ → List ℕ
chain_delays n = 0 ∷ replicate n 1

-- the input a and the gates g1 to gN, the last of which is the output; nothing changes the input
abbrev pub generated_input : ℕ → Deck
generated_input n = record { signals = chain_signals n; outputs = n ∷ []; stimuli = []; delays = chain_delays n }
