use Rattle.std.proofs.Common.{◌≡◌, ◌∙◌, ◌+◌, ◌-◌, ℕ, List, length, ap, sym, arith}
use Rattle.bench_reader.specs.declared.deck.Stim.{Stim}
use Rattle.logic_sim.specs.Circuit.{changes_of, first_ticks, start_tasks}
use Rattle.logic_sim.specs.Event.{Simulation}
use Rattle.logic_sim.specs.Laws.{start_tasks-few}
use Rattle.logic_sim.specs.Wiring.{flip_flops_of, inputs_of}
use Rattle.logic_sim.proofs.Counts.{sorts_counted, length-start_tasks}
use Rattle.logic_sim.proofs.circuit.Circuit.first_task_count.Goals as goal

pub overflow_add-others : goal.overflow_add-others
overflow_add-others c =
    let inputs = ap length (c.items-inputs.ensures ∙ c.self.invariant.all_inputs) in
    let flip_flops = ap length (c.items.ensures ∙ c.self.invariant.all_flip_flops) in
    let all = sorts_counted c.self.inside.deck.signals in
    omega (arith, inputs, flip_flops, all, c.self.invariant.deck_read.signal_count)

pub overflow_sub-gates : goal.overflow_sub-gates
overflow_sub-gates c =
    let inputs = ap length (c.items-inputs.ensures ∙ c.self.invariant.all_inputs) in
    let flip_flops = ap length (c.items.ensures ∙ c.self.invariant.all_flip_flops) in
    let all = sorts_counted c.self.inside.deck.signals in
    omega (arith, inputs, flip_flops, all, ap length c.items-2.ensures)

pub change_count-changes-requires-clause-inputs : goal.change_count-changes-requires-clause-inputs
change_count-changes-requires-clause-inputs c =
    let inputs = ap length (c.items-inputs.ensures ∙ c.self.invariant.all_inputs) in
    let all = sorts_counted c.self.inside.deck.signals in
    omega (arith, inputs, all, c.self.invariant.deck_read.signal_count)

-- the first tasks by their sorts
total : (s : Simulation) (signals flip_flops inputs ticks changes : ℕ) → signals ≡ length s.deck.signals → flip_flops ≡ length (flip_flops_of s.deck.signals) → inputs ≡ length (inputs_of s.deck.signals)
    → ticks ≡ length (first_ticks s) → changes ≡ length (changes_of s.until (inputs_of s.deck.signals) s.deck.stimuli) → (signals - (flip_flops + inputs)) + (ticks + changes) ≡ length (start_tasks s)
total s signals flip_flops inputs ticks changes all ff ins ticked changed =
    let sorts = sorts_counted s.deck.signals in
    let rest : (signals - (flip_flops + inputs)) + (length (flip_flops_of s.deck.signals) + length (inputs_of s.deck.signals)) ≡ length s.deck.signals = omega (arith, all, ff, ins, sorts) in
    ap (λ (n : ℕ). (signals - (flip_flops + inputs)) + (n + changes)) ticked ∙ length-start_tasks s (signals - (flip_flops + inputs)) changes rest changed

-- what was counted of the circuit
made : (s : Simulation) (flip_flops inputs : List ℕ) (signals ticks changes : ℕ) (stimuli : List Stim) → signals ≡ length s.deck.signals → flip_flops ≡ flip_flops_of s.deck.signals → inputs ≡ inputs_of s.deck.signals
    → stimuli ≡ s.deck.stimuli → ticks ≡ length (first_ticks s) → changes ≡ length (changes_of s.until inputs stimuli) → (signals - (length flip_flops + length inputs)) + (ticks + changes) ≡ length (start_tasks s)
made s flip_flops inputs signals ticks changes stimuli all ff ins stims ticked changed =
    total s signals (length flip_flops) (length inputs) ticks changes all (ap length ff) (ap length ins) ticked
    (changed ∙ ap (λ (numbers : List ℕ). length (changes_of s.until numbers stimuli)) ins ∙ ap (λ (some : List Stim). length (changes_of s.until (inputs_of s.deck.signals) some)) stims)

pub returns : goal.returns
returns c =
    let inside : Simulation = record { deck = c.self.inside.deck; until = c.self.inside.until; clock = c.self.inside.clock } in
    let sum = made inside c.items.result.now c.items-inputs.result.now _ c.first_tick_count.result c.change_count-changes.result _ (ap length c.items-2.ensures) (c.items.ensures ∙ c.self.invariant.all_flip_flops)
    (c.items-inputs.ensures ∙ c.self.invariant.all_inputs) c.items-3.ensures (c.first_tick_count.ensures ∙ ap (λ (s : Simulation). length (first_ticks s)) (sym c.self.view_is)) c.change_count-changes.ensures in
    sum ∙ ap (λ (s : Simulation). length (start_tasks s)) c.self.view_is

pub overflow_add-result : goal.overflow_add-result
overflow_add-result c =
    let inside : Simulation = record { deck = c.self.inside.deck; until = c.self.inside.until; clock = c.self.inside.clock } in
    let few = start_tasks-few inside c.self.invariant.deck_read in
    let sum = made inside c.items.result.now c.items-inputs.result.now _ c.first_tick_count.result c.change_count-changes.result _ (ap length c.items-2.ensures) (c.items.ensures ∙ c.self.invariant.all_flip_flops)
    (c.items-inputs.ensures ∙ c.self.invariant.all_inputs) c.items-3.ensures (c.first_tick_count.ensures ∙ ap (λ (s : Simulation). length (first_ticks s)) (sym c.self.view_is)) c.change_count-changes.ensures in
    omega (arith, few, sum)

pub overflow_add-result-2 : goal.overflow_add-result-2
overflow_add-result-2 c =
    let inside : Simulation = record { deck = c.self.inside.deck; until = c.self.inside.until; clock = c.self.inside.clock } in
    let few = start_tasks-few inside c.self.invariant.deck_read in
    let sum = made inside c.items.result.now c.items-inputs.result.now _ c.first_tick_count.result c.change_count-changes.result _ (ap length c.items-2.ensures) (c.items.ensures ∙ c.self.invariant.all_flip_flops)
    (c.items-inputs.ensures ∙ c.self.invariant.all_inputs) c.items-3.ensures (c.first_tick_count.ensures ∙ ap (λ (s : Simulation). length (first_ticks s)) (sym c.self.view_is)) c.change_count-changes.ensures in
    omega (arith, few, sum)
