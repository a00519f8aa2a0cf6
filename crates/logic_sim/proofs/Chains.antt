-- Inverters in a row make a deck that is wired soundly.
use Rattle.std.proofs.Common.{◌≡◌, ◌∙◌, ℕ, zero, suc, replicate, lit≤, ◌+◌, ◌<◌, ◌≤◌, List, [], ◌∷◌, ◌++◌, length, map, arith, ap, sym, refl, subst, zero-add}
use Rattle.std.specs.List.{All, AllZip, range_with_len}
use Rattle.std.proofs.lemmas.List.Elements.{All-nil, All-cons, All-map, All-weaker}
use Rattle.std.proofs.lemmas.List.FromFn.{length-map-range_with_len, map-range_with_len_more}
use Rattle.plain_laws.specs.Ranges.{range-below}
use Rattle.bench_reader.specs.declared.deck.Signal.{Signal}
use Rattle.bench_reader.specs.declared.deck.Stim.{Stim}
use Rattle.bench_reader.specs.Decks.{IsDelayOf, IsSoundlyWired, IsStimFor, IsWired, inputs_of}
use Rattle.logic_sim.specs.Chain.{chain_delays, chain_input, chain_signals, generated_input, inverter_of, most_inverters}

-- one gate more
pub gate_added : (n : ℕ) (before after : List Signal) (gate : Signal) → before ≡ chain_signals n → gate ≡ inverter_of n → after ≡ before ++ gate ∷ [] → after ≡ chain_signals (n + 1)
gate_added n before after gate so_far is more =
    more
    ∙ ap (λ (signal : Signal). before ++ signal ∷ []) is
    ∙ ap (λ (signals : List Signal). signals ++ inverter_of n ∷ []) so_far
    ∙ ap (λ (gates : List Signal). chain_input ∷ gates) (sym (map-range_with_len_more inverter_of 0 n n (zero-add n)))

length-chain : (n : ℕ) → length (chain_signals n) ≡ suc n
length-chain n = ap suc (length-map-range_with_len inverter_of 0 n)

one-below : (count i : ℕ) → i < count → All (λ number. number < count) (i ∷ [])
one-below count i below = All-cons (λ number. number < count) i [] below (All-nil (λ number. number < count))

inverters-delayed : (a n : ℕ) → AllZip (λ (signal : Signal) (delay : ℕ). IsDelayOf signal.form delay) (map inverter_of (range_with_len a n)) (replicate n 1)
inverters-delayed a zero = tt
inverters-delayed a (suc n) = ((lit≤ tt, lit≤ tt), inverters-delayed (a + 1) n)

pub chain-sound : (n : ℕ) → n ≤ most_inverters → IsSoundlyWired (generated_input n)
chain-sound n few =
    let count = length (chain_signals n) in
    let IsWiredIn : Signal → Type 0 = λ signal. IsWired count signal.form in
    record {
      signal_count = omega (arith, few, length-chain n);
      stimulus_count = omega arith;
      wired = All-cons IsWiredIn chain_input _ tt (All-map IsWiredIn inverter_of (range_with_len 0 n) (All-weaker (λ i. i < n) (λ i. IsWiredIn (inverter_of i)) (λ i below. (refl, one-below count i (omega (arith, below, length-chain n)))) (range_with_len 0 n) (range-below n)));
      outputs_in_range = one-below count n (omega (arith, length-chain n));
      outputs_differ = λ i j d before below. absurd (omega arith);
      stimuli_fit = All-nil (IsStimFor (length (inputs_of (chain_signals n))));
      delays_fit = (refl, inverters-delayed 0 n);
    }

-- a deck of these parts is sound
pub parts-sound : (n : ℕ) (signals : List Signal) (outputs : List ℕ) (stimuli : List Stim) (delays : List ℕ) → n ≤ most_inverters → signals ≡ chain_signals n → outputs ≡ n ∷ [] → stimuli ≡ [] → delays ≡ chain_delays n
    → IsSoundlyWired (record { signals = signals; outputs = outputs; stimuli = stimuli; delays = delays })
parts-sound n signals outputs stimuli delays few are_signals are_outputs no_stimuli are_delays =
    let made : record { signals = signals; outputs = outputs; stimuli = stimuli; delays = delays } ≡ generated_input n = cc in
    subst IsSoundlyWired (sym made) (chain-sound n few)
