-- Lists of the signals below a number that pass a test, one signal further.
use Rattle.std.proofs.Common.{◌≡◌, ◌∙◌, ℕ, ◌+◌, ◌<◌, Bool, true, false, List, [], ◌∷◌, ◌++◌, length, get_or, ap, sym}
use Rattle.std.specs.Prelude.{filter, map, if◌then◌else◌}
use Rattle.std.specs.List.{range_with_len}
use Rattle.std.proofs.lemmas.List.{append-nil, get_or_read, map-append}
use Rattle.plain_laws.specs.Ranges.{filter-range_more}
use Rattle.bench_reader.specs.declared.deck.Signal.{Signal}
use Rattle.task_order.specs.declared.start.Start.{Start}
use Rattle.logic_sim.specs.Event.{eval_at}
use Rattle.bench_reader.specs.Decks.{is_input}
use Rattle.logic_sim.specs.Wiring.{flip_flops_among, gates_among, inputs_among, is_among, is_flip_flop, is_gate, no_signal, readers_among, signal_at, watched_by}

pub read_signal : (signals : List Signal) (n : ℕ) (signal : Signal) → n < length signals → signal ≡ get_or signals n signal → signal ≡ signal_at signals n
read_signal signals n signal below is = get_or_read signals n signal below is no_signal

gates_among-more : (signals : List Signal) (n : ℕ) (signal : Signal) (b : Bool) → n < length signals → signal ≡ get_or signals n signal → is_gate signal.form ≡ b →
    gates_among signals (n + 1) ≡ gates_among signals n ++ (if b then n ∷ [] else [])
gates_among-more signals n signal b below is e =
    filter-range_more (λ number. is_gate (signal_at signals number).form) n b (ap (λ (s : Signal). is_gate s.form) (sym (read_signal signals n signal below is)) ∙ e)

-- a further gate is evaluated
pub first_evals_gate : (signals : List Signal) (n : ℕ) (signal : Signal) (starts : List Start) → n < length signals → signal ≡ get_or signals n signal → is_gate signal.form ≡ true →
    starts ≡ map (eval_at 0) (gates_among signals n) → starts ++ eval_at 0 n ∷ [] ≡ map (eval_at 0) (gates_among signals (n + 1))
first_evals_gate signals n signal starts below is gate so_far =
    ap (λ (s : List Start). s ++ eval_at 0 n ∷ []) so_far
    ∙ sym (map-append (eval_at 0) (gates_among signals n) (n ∷ []))
    ∙ ap (map (eval_at 0)) (sym (gates_among-more signals n signal true below is gate))

-- a further signal that is none isn't
pub first_evals_input : (signals : List Signal) (n : ℕ) (signal : Signal) (starts : List Start) → n < length signals → signal ≡ get_or signals n signal → is_gate signal.form ≡ false →
    starts ≡ map (eval_at 0) (gates_among signals n) → starts ≡ map (eval_at 0) (gates_among signals (n + 1))
first_evals_input signals n signal starts below is gate so_far =
    so_far ∙ ap (map (eval_at 0)) (sym (gates_among-more signals n signal false below is gate ∙ append-nil (gates_among signals n)))

-- the signals of a sort, one signal further
sort_among-more : (sort : Signal → Bool) (signals : List Signal) (n : ℕ) (signal : Signal) (b : Bool) → n < length signals → signal ≡ get_or signals n signal → sort signal ≡ b →
    filter (λ number. sort (signal_at signals number)) (range_with_len 0 (n + 1)) ≡ filter (λ number. sort (signal_at signals number)) (range_with_len 0 n) ++ (if b then n ∷ [] else [])
sort_among-more sort signals n signal b below is e =
    filter-range_more (λ number. sort (signal_at signals number)) n b (ap sort (sym (read_signal signals n signal below is)) ∙ e)

sort_one : (sort : Signal → Bool) (signals : List Signal) (n : ℕ) (signal : Signal) (numbers : List ℕ) → n < length signals → signal ≡ get_or signals n signal → sort signal ≡ true →
    numbers ≡ filter (λ number. sort (signal_at signals number)) (range_with_len 0 n) → numbers ++ n ∷ [] ≡ filter (λ number. sort (signal_at signals number)) (range_with_len 0 (n + 1))
sort_one sort signals n signal numbers below is one so_far = ap (λ (z : List ℕ). z ++ n ∷ []) so_far ∙ sym (sort_among-more sort signals n signal true below is one)

sort_other : (sort : Signal → Bool) (signals : List Signal) (n : ℕ) (signal : Signal) (numbers : List ℕ) → n < length signals → signal ≡ get_or signals n signal → sort signal ≡ false →
    numbers ≡ filter (λ number. sort (signal_at signals number)) (range_with_len 0 n) → numbers ≡ filter (λ number. sort (signal_at signals number)) (range_with_len 0 (n + 1))
sort_other sort signals n signal numbers below is other so_far =
    so_far ∙ sym (sort_among-more sort signals n signal false below is other ∙ append-nil (filter (λ number. sort (signal_at signals number)) (range_with_len 0 n)))

-- a further input is listed
pub inputs_input : (signals : List Signal) (n : ℕ) (signal : Signal) (numbers : List ℕ) → n < length signals → signal ≡ get_or signals n signal → is_input signal.form ≡ true →
    numbers ≡ inputs_among signals n → numbers ++ n ∷ [] ≡ inputs_among signals (n + 1)
inputs_input signals n signal numbers below is input so_far = sort_one (λ signal. is_input signal.form) signals n signal numbers below is input so_far

-- another signal isn't
pub inputs_other : (signals : List Signal) (n : ℕ) (signal : Signal) (numbers : List ℕ) → n < length signals → signal ≡ get_or signals n signal → is_input signal.form ≡ false →
    numbers ≡ inputs_among signals n → numbers ≡ inputs_among signals (n + 1)
inputs_other signals n signal numbers below is other so_far = sort_other (λ signal. is_input signal.form) signals n signal numbers below is other so_far

-- a further flip-flop is listed
pub flip_flops_one : (signals : List Signal) (n : ℕ) (signal : Signal) (numbers : List ℕ) → n < length signals → signal ≡ get_or signals n signal → is_flip_flop signal.form ≡ true →
    numbers ≡ flip_flops_among signals n → numbers ++ n ∷ [] ≡ flip_flops_among signals (n + 1)
flip_flops_one signals n signal numbers below is flip_flop so_far = sort_one (λ signal. is_flip_flop signal.form) signals n signal numbers below is flip_flop so_far

-- another signal isn't
pub flip_flops_other : (signals : List Signal) (n : ℕ) (signal : Signal) (numbers : List ℕ) → n < length signals → signal ≡ get_or signals n signal → is_flip_flop signal.form ≡ false →
    numbers ≡ flip_flops_among signals n → numbers ≡ flip_flops_among signals (n + 1)
flip_flops_other signals n signal numbers below is other so_far = sort_other (λ signal. is_flip_flop signal.form) signals n signal numbers below is other so_far

pub readers_among-more : (signals : List Signal) (n : ℕ) (signal : Signal) (fan_in : List ℕ) (number : ℕ) → n < length signals → signal ≡ get_or signals n signal → watched_by signal.form ≡ fan_in →
    readers_among signals (n + 1) number ≡ readers_among signals n number ++ (if is_among fan_in number then n ∷ [] else [])
readers_among-more signals n signal fan_in number below is e =
    filter-range_more _ n (is_among fan_in number) (ap (λ (s : Signal). is_among (watched_by s.form) number) (sym (read_signal signals n signal below is)) ∙ ap (λ (f : List ℕ). is_among f number) e)
