-- How many first tasks there are.
use Rattle.std.proofs.Common.{◌≡◌, ◌∙◌, ℕ, ◌+◌, ◌<◌, ◌≤◌, suc, List, [], ◌∷◌, ◌++◌, length, take, get_or, ap, refl, sym, arith}
use Rattle.std.specs.Prelude.{filter, if◌then◌else◌, min, nat_le, map}
use Rattle.std.specs.List.{range_with_len}
use Rattle.std.proofs.lemmas.Bool.{cond-true, cond-false, le-leb, lt-leb}
use Rattle.std.proofs.lemmas.List.{length-append, length-map, length-take, take_more}
use Rattle.std.proofs.lemmas.List.Concat.{flat_map-append}
use Rattle.std.proofs.lemmas.List.FromFn.{length-range_with_len}
use Rattle.std.proofs.Math.Nat.{mul-le-mul_left, mul-le-mul_right}
use Rattle.bench_reader.specs.declared.deck.Form.{Form}
use Rattle.bench_reader.specs.declared.deck.Form.TheVariants.{Input, Gate, Dff}
use Rattle.bench_reader.specs.declared.deck.Stim.{Stim}
use Rattle.bench_reader.specs.declared.deck.Signal.{Signal}
use Rattle.bench_reader.specs.Decks.{is_input}
use Rattle.logic_sim.specs.Circuit.{changes_at, changes_for, changes_of, first_ticks, start_tasks}
use Rattle.logic_sim.specs.Event.{Simulation, eval_at, tick_at}
use Rattle.logic_sim.specs.Laws.{length-changes_of}
use Rattle.logic_sim.specs.Wiring.{flip_flops_of, gates_of, inputs_of, is_flip_flop, is_gate, signal_at}

length-changes_at : (time : ℕ) (inputs values : List ℕ) → length (changes_at time inputs values) ≡ min (length inputs) (length values)
length-changes_at time [] values = omega arith
length-changes_at time (input ∷ inputs) [] = omega arith
length-changes_at time (input ∷ inputs) (value ∷ values) = let rest = length-changes_at time inputs values in omega (arith, rest)

changes_of-more : (until : ℕ) (inputs : List ℕ) (stimuli : List Stim) (i : ℕ) (d : Stim) → i < length stimuli
    → length (changes_of until inputs (take (i + 1) stimuli)) ≡ length (changes_of until inputs (take i stimuli)) + length (changes_for until inputs (get_or stimuli i d))
changes_of-more until inputs stimuli i d below =
    let last = get_or stimuli i d in
    let longer = ap (λ (some : List Stim). length (changes_of until inputs some)) (take_more stimuli i d below) in
    let parts = ap length (flat_map-append (changes_for until inputs) (take i stimuli) (last ∷ [])) in
    let sum = length-append (changes_of until inputs (take i stimuli)) (changes_of until inputs (last ∷ [])) in
    let one = length-append (changes_for until inputs last) [] in
    longer ∙ parts ∙ sum ∙ omega (arith, one)

-- a further stimulus that comes in time
pub timely_counted : (until : ℕ) (inputs : List ℕ) (stimuli : List Stim) (i count : ℕ) (last : Stim) → i < length stimuli → last ≡ get_or stimuli i last → last.time ≤ until
    → count ≡ length (changes_of until inputs (take i stimuli)) → count + min (length inputs) (length last.bits) ≡ length (changes_of until inputs (take (i + 1) stimuli))
timely_counted until inputs stimuli i count last below is timely so_far =
    let here : changes_for until inputs last ≡ changes_at last.time inputs last.bits = cond-true (nat_le last.time until) (changes_at last.time inputs last.bits) [] (le-leb last.time until timely) in
    let more = changes_of-more until inputs stimuli i last below in
    let now = ap (λ (stimulus : Stim). length (changes_for until inputs stimulus)) (sym is) ∙ ap length here ∙ length-changes_at last.time inputs last.bits in
    omega (arith, so_far, more, now)

-- one that comes too late
pub late_counted : (until : ℕ) (inputs : List ℕ) (stimuli : List Stim) (i count : ℕ) (last : Stim) → i < length stimuli → last ≡ get_or stimuli i last → until < last.time
    → count ≡ length (changes_of until inputs (take i stimuli)) → count ≡ length (changes_of until inputs (take (i + 1) stimuli))
late_counted until inputs stimuli i count last below is late so_far =
    let here : changes_for until inputs last ≡ [] = cond-false (nat_le last.time until) (changes_at last.time inputs last.bits) [] (lt-leb last.time until late) in
    let more = changes_of-more until inputs stimuli i last below in
    let now = ap (λ (stimulus : Stim). length (changes_for until inputs stimulus)) (sym is) ∙ ap length here in
    omega (arith, so_far, more, now)

-- the most that stimuli can bring
pub changes_few : (until : ℕ) (inputs : List ℕ) (stimuli : List Stim) (i : ℕ) → length inputs ≤ 4096 → length stimuli ≤ 65536 → length (changes_of until inputs (take i stimuli)) ≤ 268435456
changes_few until inputs stimuli i few short =
    let all = length-changes_of until inputs (take i stimuli) in
    let front : length (take i stimuli) ≤ 65536 = omega (arith, length-take i stimuli) in
    let low = mul-le-mul_right {m = length (take i stimuli)} {n = 65536} (length inputs) front in
    let high = mul-le-mul_left {m = length inputs} {n = 4096} 65536 few in
    omega (arith, all, low, high)

-- each number of a signal is that of a gate, a flip-flop or an input
sorts_among : (signals : List Signal) (numbers : List ℕ) → length (filter (λ number. is_gate (signal_at signals number).form) numbers)
    + (length (filter (λ number. is_flip_flop (signal_at signals number).form) numbers) + length (filter (λ number. is_input (signal_at signals number).form) numbers)) ≡ length numbers
sorts_among signals [] = refl
sorts_among signals (number ∷ numbers) =
    by_form (signal_at signals number).form (filter (λ number. is_gate (signal_at signals number).form) numbers) (filter (λ number. is_flip_flop (signal_at signals number).form) numbers)
    (filter (λ number. is_input (signal_at signals number).form) numbers) (sorts_among signals numbers)
  where
    by_form : (form : Form) (gates flip_flops inputs : List ℕ) → length gates + (length flip_flops + length inputs) ≡ length numbers
        → length (if is_gate form then number ∷ gates else gates) + (length (if is_flip_flop form then number ∷ flip_flops else flip_flops) + length (if is_input form then number ∷ inputs else inputs)) ≡ suc (length numbers)
    by_form Input gates flip_flops inputs rest = omega (arith, rest)
    by_form (Gate kind fan_in) gates flip_flops inputs rest = omega (arith, rest)
    by_form (Dff source) gates flip_flops inputs rest = omega (arith, rest)

pub sorts_counted : (signals : List Signal) → length (gates_of signals) + (length (flip_flops_of signals) + length (inputs_of signals)) ≡ length signals
sorts_counted signals = sorts_among signals (range_with_len 0 (length signals)) ∙ length-range_with_len 0 (length signals)

-- the first ticks come in time
pub timely_ticks : (c : Simulation) → c.clock ≤ c.until → length (first_ticks c) ≡ length (flip_flops_of c.deck.signals)
timely_ticks c timely =
    ap length (cond-true (nat_le c.clock c.until) (map (tick_at c.clock) (flip_flops_of c.deck.signals)) [] (le-leb c.clock c.until timely))
    ∙ length-map (flip_flops_of c.deck.signals) (tick_at c.clock)

-- they come too late
pub late_ticks : (c : Simulation) → c.until < c.clock → length (first_ticks c) ≡ 0
late_ticks c late = ap length (cond-false (nat_le c.clock c.until) (map (tick_at c.clock) (flip_flops_of c.deck.signals)) [] (lt-leb c.clock c.until late))

-- the evaluations, the ticks and the changes
pub length-start_tasks : (c : Simulation) (gates changes : ℕ) → gates + (length (flip_flops_of c.deck.signals) + length (inputs_of c.deck.signals)) ≡ length c.deck.signals
    → changes ≡ length (changes_of c.until (inputs_of c.deck.signals) c.deck.stimuli) → gates + (length (first_ticks c) + changes) ≡ length (start_tasks c)
length-start_tasks c gates changes rest stimuli =
    let both = length-append (map (eval_at 0) (gates_of c.deck.signals) ++ first_ticks c) (changes_of c.until (inputs_of c.deck.signals) c.deck.stimuli) in
    let more = length-append (map (eval_at 0) (gates_of c.deck.signals)) (first_ticks c) in
    let evals = length-map (gates_of c.deck.signals) (eval_at 0) in
    let all = sorts_counted c.deck.signals in
    omega (arith, both, more, evals, all, rest, stimuli)
