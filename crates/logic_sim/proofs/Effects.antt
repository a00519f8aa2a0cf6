-- What events make of their bundles is what the operator makes of all cells.
use Rattle.std.proofs.Common.{◌≡◌, ◌∙◌, ℕ, ◌<◌, Bool, true, false, List, [], ◌∷◌, ◌++◌, length, map, ap, sym, refl, subst, arith}
use Rattle.std.specs.Prelude.{◌==◌, if◌then◌else◌, IsSome, slice_index, slice_set}
use Rattle.std.specs.List.{AllByRecursion}
use Rattle.std.proofs.lemmas.List.{map-append}
use Rattle.app_laws.specs.EffectLaws.{same_effects}
use Rattle.bench_reader.specs.declared.deck.Form.{Form}
use Rattle.bench_reader.specs.declared.deck.Form.TheVariants.{Input, Gate, Dff}
use Rattle.task_order.specs.declared.start.Start.{Start}
use Rattle.task_order.specs.declared.task.Task.{Task}
use Rattle.rw_sets.specs.Accesses.{Accesses, IsAscending, access_at}
use Rattle.cell_store.specs.declared.cell.Cell.TheVariants.{Home}
use Rattle.cell_store.specs.Part.{Part}
use Rattle.cell_store.specs.Cells.{cell_in, part_of, with_value}
use Rattle.cell_store.specs.Values.{homes}
use Rattle.cell_store.specs.Laws.{PartsByLocation, HomesByLocation}
use Rattle.app_laws.specs.declared.app.Effect.{Effect}
use Rattle.app_laws.specs.declared.child.Child.{Child}
use Rattle.app_laws.specs.Applications.{IsEffect}
use Rattle.logic_sim.specs.Bundles.{child_of, computed_from, effect_on, held_in, value_of, values_held, IsEffectOn}
use Rattle.logic_sim.specs.Circuit.{IsFitCells}
use Rattle.logic_sim.specs.Event.{Simulation, change_of, change_text, computed_by, eval_at, eval_of, event_of, next_changes, next_ticks, nothing_done, plan_of, plan_place, tick_of, time_of, value_in, value_place}
use Rattle.logic_sim.specs.Gate.{gate_value}
use Rattle.logic_sim.specs.Lawful.{change_set-ascending, change_set-named, changed_is, eval_set-ascending, eval_set-below}
use Rattle.logic_sim.specs.Meaning.{change_set, eval_set, set_for, simulation}
use Rattle.logic_sim.specs.Wiring.{fan_in_of, readers_of, signal_at}
use Rattle.logic_sim.proofs.Sets.{fan_in_named, plan_named}

-- the laws of bundles and cells that are used
pub record HeldLaws : Type 0 where
  pub parts : PartsByLocation ℕ
  pub values : HomesByLocation ℕ

-- a bundle that a set takes of cells
record IsTakenBy (set : Accesses) (bundle : Part ℕ) (cells : List ℕ) : Type 0 where
  laws : HeldLaws
  ascending : IsAscending set
  below : (loc : ℕ) → IsSome (access_at set loc) → loc < length cells
  is : bundle ≡ part_of (homes cells) set

module _ {set : Accesses} {bundle : Part ℕ} {cells : List ℕ} (taken : IsTakenBy set bundle cells) where
  cell_found : (loc : ℕ) → IsSome (access_at set loc) → cell_in bundle loc ≡ Home (slice_index cells loc)
  cell_found loc named =
      ap (λ (part : Part ℕ). cell_in part loc) taken.is ∙ taken.laws.parts.each (homes cells) set loc named ∙ taken.laws.values.in_range cells loc 0 (taken.below loc named)

  held_found : (loc : ℕ) → IsSome (access_at set loc) → held_in bundle loc ≡ slice_index cells loc
  held_found loc named = ap value_of (cell_found loc named)

  -- the event finds what it would write, or writes it
  decided_effect : (c : Simulation) (loc value : ℕ) (starts : List Start) (line : List ℕ) (idle : Bool) → IsSome (access_at set loc)
      → ◌≡◌ {A = Effect ℕ} (record { bundle = if idle then bundle else with_value bundle loc value; children = if idle then [] else map (child_of c) starts; text = if idle then [] else line })
      (effect_on c set (if idle then nothing_done cells else record { cells = slice_set cells loc value; children = starts; text = line }))
  decided_effect c loc value starts line true named = same_effects taken.is refl refl
  decided_effect c loc value starts line false named =
      same_effects (ap (λ (part : Part ℕ). with_value part loc value) taken.is ∙ taken.laws.values.written cells set loc value taken.ascending (taken.below loc named)) refl refl

  put_effect : (c : Simulation) (loc value : ℕ) (starts : List Start) (line : List ℕ) (left : Part ℕ) (children : List Child) (text : List ℕ) → IsSome (access_at set loc)
      → left ≡ (if held_in bundle loc == value then bundle else with_value bundle loc value) → children ≡ (if held_in bundle loc == value then [] else map (child_of c) starts)
      → text ≡ (if held_in bundle loc == value then [] else line)
      → ◌≡◌ {A = Effect ℕ} (record { bundle = left; children = children; text = text })
      (effect_on c set (if slice_index cells loc == value then nothing_done cells else record { cells = slice_set cells loc value; children = starts; text = line }))
  put_effect c loc value starts line left children text named left-is children-are text-is =
      same_effects left-is children-are text-is
      ∙ subst
      (λ (found : ℕ). ◌≡◌ {A = Effect ℕ} (record {
        bundle = if held_in bundle loc == value then bundle else with_value bundle loc value;
        children = if held_in bundle loc == value then [] else map (child_of c) starts;
        text = if held_in bundle loc == value then [] else line;
      }) (effect_on c set (if found == value then nothing_done cells else record { cells = slice_set cells loc value; children = starts; text = line })))
      (held_found loc named) (decided_effect c loc value starts line (held_in bundle loc == value) named)

  values_found : (fan_in : List ℕ) → AllByRecursion (λ signal. IsSome (access_at set (value_place signal))) fan_in → values_held (held_in bundle) fan_in ≡ map (value_in cells) fan_in
  values_found [] named = refl
  values_found (signal ∷ fan_in) named =
      ap (λ (value : ℕ). value ∷ values_held (held_in bundle) fan_in) (held_found (value_place signal) named.0)
      ∙ ap (λ (values : List ℕ). value_in cells signal ∷ values) (values_found fan_in named.1)

  -- what a gate computes from its bundle is what it computes from all cells
  computed_found : (form : Form) → AllByRecursion (λ signal. IsSome (access_at set (value_place signal))) (fan_in_of form) → computed_from (held_in bundle) form ≡ computed_by form cells
  computed_found Input named = refl
  computed_found (Gate kind fan_in) named = ap (gate_value kind) (values_found fan_in named)
  computed_found (Dff source) named = held_found (value_place source) named.0

nothing_either_way : (idle : Bool) (text : List ℕ) → text ≡ [] → text ≡ (if idle then [] else [])
nothing_either_way true text is = is
nothing_either_way false text is = is

module _ (c : Simulation) (laws : HeldLaws) where
  changing : (signal : ℕ) (bundle : Part ℕ) (cells : List ℕ) → IsFitCells c cells → signal < length c.deck.signals → bundle ≡ part_of (homes cells) (change_set signal)
      → IsTakenBy (change_set signal) bundle cells
  changing signal bundle cells fit inside is = record {
    laws = laws;
    ascending = change_set-ascending signal;
    below = λ loc named. let at = changed_is signal loc named in omega (arith, at, fit.count, inside);
    is = is;
  }

  pub change_made : (time signal value : ℕ) (bundle left : Part ℕ) (children : List Child) (text : List ℕ) → signal < length c.deck.signals
      → left ≡ (if held_in bundle (value_place signal) == value then bundle else with_value bundle (value_place signal) value)
      → children ≡ (if held_in bundle (value_place signal) == value then [] else map (child_of c) (map (eval_at time) (readers_of c.deck.signals signal)))
      → text ≡ (if held_in bundle (value_place signal) == value then [] else change_text c.deck time signal value)
      → IsEffectOn c (change_set signal) (change_of c time signal value) bundle (record { bundle = left; children = children; text = text })
  change_made time signal value bundle left children text inside left-is children-are text-is cells fit is =
      put_effect (changing signal bundle cells fit inside is) c (value_place signal) value (map (eval_at time) (readers_of c.deck.signals signal)) (change_text c.deck time signal value) left children text
      (change_set-named signal) left-is children-are text-is

  evaluating : (gate : ℕ) (bundle : Part ℕ) (cells : List ℕ) → IsFitCells c cells → gate < length c.deck.signals → bundle ≡ part_of (homes cells) (eval_set c.deck gate)
      → IsTakenBy (eval_set c.deck gate) bundle cells
  evaluating gate bundle cells fit inside is = record {
    laws = laws;
    ascending = eval_set-ascending c gate;
    below = λ loc named. let low = eval_set-below c gate loc fit.deck inside named in omega (arith, low, fit.count);
    is = is;
  }

  pub evaluation_made : (time gate value : ℕ) (bundle left : Part ℕ) (children : List Child) (text : List ℕ) → gate < length c.deck.signals
      → value ≡ computed_from (held_in bundle) (signal_at c.deck.signals gate).form
      → left ≡ (if held_in bundle (plan_place gate) == value then bundle else with_value bundle (plan_place gate) value)
      → children ≡ (if held_in bundle (plan_place gate) == value then [] else map (child_of c) (next_changes c time gate value)) → text ≡ []
      → IsEffectOn c (eval_set c.deck gate) (eval_of c time gate) bundle (record { bundle = left; children = children; text = text })
  evaluation_made time gate value bundle left children text inside value-is left-is children-are text-is cells fit is =
      let computed : value ≡ computed_by (signal_at c.deck.signals gate).form cells =
      value-is ∙ computed_found (evaluating gate bundle cells fit inside is) (signal_at c.deck.signals gate).form (fan_in_named c gate) in
      subst (λ (v : ℕ). ◌≡◌ {A = Effect ℕ} (record { bundle = left; children = children; text = text }) (effect_on c (eval_set c.deck gate) (plan_of c time gate v cells))) computed
      (put_effect (evaluating gate bundle cells fit inside is) c (plan_place gate) value (next_changes c time gate value) [] left children text (plan_named c gate) left-is children-are
      (nothing_either_way (held_in bundle (plan_place gate) == value) text text-is))

  pub tick_made : (time flip_flop value : ℕ) (bundle left : Part ℕ) (children : List Child) (text : List ℕ) → flip_flop < length c.deck.signals
      → value ≡ computed_from (held_in bundle) (signal_at c.deck.signals flip_flop).form
      → left ≡ (if held_in bundle (plan_place flip_flop) == value then bundle else with_value bundle (plan_place flip_flop) value)
      → children ≡ (if held_in bundle (plan_place flip_flop) == value then [] else map (child_of c) (next_changes c time flip_flop value)) ++ map (child_of c) (next_ticks c time flip_flop) → text ≡ []
      → IsEffectOn c (eval_set c.deck flip_flop) (tick_of c time flip_flop) bundle (record { bundle = left; children = children; text = text })
  tick_made time flip_flop value bundle left children text inside value-is left-is children-are text-is cells fit is =
      let own : List Child = if held_in bundle (plan_place flip_flop) == value then [] else map (child_of c) (next_changes c time flip_flop value) in
      let planned = evaluation_made time flip_flop value bundle left own text inside value-is left-is refl text-is cells fit is in
      let next : List Child = map (child_of c) (next_ticks c time flip_flop) in
      same_effects (ap (λ (effect : Effect ℕ). effect.bundle) planned)
      (children-are ∙ ap (λ (effect : Effect ℕ). effect.children ++ next) planned ∙ sym (map-append (child_of c) (eval_of c time flip_flop cells).children (next_ticks c time flip_flop)))
      (ap (λ (effect : Effect ℕ). effect.text) planned)

-- what is made of a bundle is the effect of a task that is a change
pub change_is_effect : (c : Simulation) (task : Task) (bundle : Part ℕ) (effect : Effect ℕ) → task.body.kind ≡ 0
    → IsEffectOn c (change_set task.body.at) (change_of c (time_of task.key.prio) task.body.at task.body.arg) bundle effect → IsEffect (simulation c) task bundle effect
change_is_effect c task bundle effect kind made =
    subst
    (λ (k : ℕ). (cells : List ℕ) → IsFitCells c cells → bundle ≡ part_of (homes cells) (set_for c.deck k task.body.at) →
    effect ≡ effect_on c (set_for c.deck k task.body.at) (event_of c k (time_of task.key.prio) task.body.at task.body.arg cells))
    (sym kind) made

-- and of one that is an evaluation
pub evaluation_is_effect : (c : Simulation) (task : Task) (bundle : Part ℕ) (effect : Effect ℕ) → task.body.kind ≡ 1
    → IsEffectOn c (eval_set c.deck task.body.at) (eval_of c (time_of task.key.prio) task.body.at) bundle effect → IsEffect (simulation c) task bundle effect
evaluation_is_effect c task bundle effect kind made =
    subst
    (λ (k : ℕ). (cells : List ℕ) → IsFitCells c cells → bundle ≡ part_of (homes cells) (set_for c.deck k task.body.at) →
    effect ≡ effect_on c (set_for c.deck k task.body.at) (event_of c k (time_of task.key.prio) task.body.at task.body.arg cells))
    (sym kind) made

-- and of one that is a tick
pub tick_is_effect : (c : Simulation) (task : Task) (bundle : Part ℕ) (effect : Effect ℕ) → task.body.kind ≡ 2
    → IsEffectOn c (eval_set c.deck task.body.at) (tick_of c (time_of task.key.prio) task.body.at) bundle effect → IsEffect (simulation c) task bundle effect
tick_is_effect c task bundle effect kind made =
    subst
    (λ (k : ℕ). (cells : List ℕ) → IsFitCells c cells → bundle ≡ part_of (homes cells) (set_for c.deck k task.body.at) →
    effect ≡ effect_on c (set_for c.deck k task.body.at) (event_of c k (time_of task.key.prio) task.body.at task.body.arg cells))
    (sym kind) made
