-- What a circuit looks up in place of searching the deck.
use Rattle.std.specs.Prelude.{◌≡◌, ◌==◌, ℕ, ◌-◌, ◌<◌, ◌≤◌, Bool, false, if◌then◌else◌, List, [], ◌∷◌, ◌++◌, length, map, slice_get, slice_index_or}
use Rattle.std.specs.List.{range_with_len}
use Rattle.std.specs.Option.{option_map_or}
use Rattle.bench_reader.specs.declared.deck.Deck.{Deck}
use Rattle.bench_reader.specs.declared.deck.Signal.{Signal}
use Rattle.bench_reader.specs.Decks.{IsSoundlyWired}
use Rattle.rw_sets.specs.Accesses.{Accesses, merged}
use Rattle.logic_sim.specs.Circuit.{latest, longest_clock}
use Rattle.logic_sim.specs.Meaning.{eval_accesses}
use Rattle.logic_sim.specs.Wiring.{fan_in_of, flip_flops_of, inputs_of, is_among, readers_among, signal_at}

-- for each signal the gates among the first n that read it
pub record ListsReaders (signals : List Signal) (n : ℕ) (table : List (List ℕ)) : Type 0 where
  pub count : length table ≡ length signals
  pub each : (number : ℕ) → number < length signals → slice_index_or table number [] ≡ readers_among signals n number

-- the list with the gate at its end, where the signal is among its fan-ins
abbrev pub with_reader : List ℕ → ℕ → List ℕ → ℕ → List ℕ
with_reader fan_in gate gates number = gates ++ (if is_among fan_in number then gate ∷ [] else [])

-- the gate is added to the list of each signal that it reads
pub record AddsReader (old : List (List ℕ)) (fan_in : List ℕ) (gate : ℕ) (new : List (List ℕ)) : Type 0 where
  pub count : length new ≡ length old
  pub each : (number : ℕ) → number < length old → slice_index_or new number [] ≡ with_reader fan_in gate (slice_index_or old number []) number

-- whether the last of the numbers is this one
abbrev pub last_is : ℕ → List ℕ → Bool
last_is number numbers = option_map_or (λ last. last == number) (slice_get numbers (length numbers - 1)) false

-- for each of n signals whether it is among the outputs
pub record MarksOutputs (outputs : List ℕ) (n : ℕ) (marks : List Bool) : Type 0 where
  pub count : length marks ≡ n
  pub each : (number : ℕ) → number < n → slice_index_or marks number false ≡ is_among outputs number

-- for each of the first n signals, the set that its evaluation declares
abbrev pub sets_among : List Signal → ℕ → List Accesses
sets_among signals n = map (λ gate. merged [] (eval_accesses (fan_in_of (signal_at signals gate).form) gate)) (range_with_len 0 n)

-- what holds of each circuit
pub record IsPrepared (deck : Deck) (until clock : ℕ) (inputs flip_flops : List ℕ) (readers : List (List ℕ)) (is_output : List Bool) (sets : List Accesses) : Type 0 where
  pub deck_read : IsSoundlyWired deck
  pub not_too_late : until ≤ latest
  pub clock_runs : 1 ≤ clock
  pub clock_in_time : clock ≤ longest_clock
  pub all_inputs : inputs ≡ inputs_of deck.signals
  pub all_flip_flops : flip_flops ≡ flip_flops_of deck.signals
  pub all_readers : ListsReaders deck.signals (length deck.signals) readers
  pub all_outputs : MarksOutputs deck.outputs (length deck.signals) is_output
  pub all_sets : sets ≡ sets_among deck.signals (length deck.signals)
