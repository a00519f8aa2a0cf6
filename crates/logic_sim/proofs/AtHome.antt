-- What events make of cells that are home is what they make of the bundle that a set takes of these.
use Rattle.std.proofs.Common.{◌≡◌, ◌≢◌, ◌∙◌, ℕ, ◌<◌, inl, inr, Bool, true, false, List, [], ◌∷◌, ◌++◌, length, map, ap, sym, refl, subst, arith}
use Rattle.std.specs.Prelude.{◌==◌, if◌then◌else◌, Result, Ok, Err, IfOk, OnOk, IsSome, IsTrue, slice_set}
use Rattle.std.specs.List.{AllByRecursion}
use Rattle.task_order.specs.declared.task.Task.{Task}
use Rattle.task_order.specs.declared.task.Body.{Body}
use Rattle.rw_sets.specs.Accesses.{Accesses, IsAscending, access_at, writes}
use Rattle.cell_store.specs.declared.cell.Cell.{Cell}
use Rattle.cell_store.specs.declared.cell.Cell.TheVariants.{Home}
use Rattle.cell_store.specs.Home.{IsHome}
use Rattle.cell_store.specs.Part.{Part}
use Rattle.cell_store.specs.Cells.{AreHome, cell_at, cells_given, cells_taken, part_of, with_value}
use Rattle.cell_store.specs.Laws.{GivesBackWhatWasTaken, PartsByLocation, WritesAtHome}
use Rattle.app_laws.specs.declared.child.Child.{Child}
use Rattle.app_laws.specs.Applications.{IsDoneAtHome, IsReady}
use Rattle.logic_sim.specs.Bundles.{child_of, computed_from, held_at_home, held_in, value_of, values_held}
use Rattle.logic_sim.specs.Circuit.{IsFitChange, IsFitTask}
use Rattle.logic_sim.specs.Event.{Simulation, change_text, eval_at, next_changes, next_ticks, plan_place, time_of, value_place}
use Rattle.logic_sim.specs.Gate.{gate_value}
use Rattle.logic_sim.specs.Lawful.{change_set-ascending, change_set-named, change_set-written, eval_set-ascending, eval_set-written}
use Rattle.logic_sim.specs.Meaning.{change_set, eval_set, set_for, simulation}
use Rattle.logic_sim.specs.Wiring.{fan_in_of, readers_of, signal_at}
use Rattle.bench_reader.specs.declared.deck.Form.{Form}
use Rattle.bench_reader.specs.declared.deck.Form.TheVariants.{Input, Gate, Dff}
use Rattle.logic_sim.proofs.Effects.{HeldLaws, change_is_effect, change_made, evaluation_is_effect, evaluation_made, tick_is_effect, tick_made}
use Rattle.logic_sim.proofs.Sets.{fan_in_named, plan_named}

-- the laws of bundles and of cells that are home
pub record HomeLaws : Type 0 where
  pub held : HeldLaws
  pub gives_back : GivesBackWhatWasTaken ℕ
  pub writes : WritesAtHome ℕ

-- three facts of a result that is there give a fourth
pub if_ok_all : {A E N : Type 0} {P Q R : A → Type 0} (result : Result A E) → ((made : A) → N → P made → Q made → R made) → OnOk result N → IfOk result P → IfOk result Q → IfOk result R
if_ok_all (Ok made) together one two three = together made one two three
if_ok_all (Err error) together one two three = tt

pub change_fit : (c : Simulation) (prio : ℕ) (body : Body) → IsFitTask c prio body → body.kind ≡ 0 → IsFitChange c prio body
change_fit c prio body (inl fit) kind = fit
change_fit c prio body (inr (inl fit)) kind = absurd (omega (arith, fit.kind, kind))
change_fit c prio body (inr (inr fit)) kind = absurd (omega (arith, fit.kind, kind))

-- an evaluation or a tick
pub planning_in_range : (c : Simulation) (prio : ℕ) (body : Body) → IsFitTask c prio body → body.kind ≢ 0 → body.at < length c.deck.signals
planning_in_range c prio body (inl fit) kind = absurd (kind fit.kind)
planning_in_range c prio body (inr (inl fit)) kind = fit.in_range
planning_in_range c prio body (inr (inr fit)) kind = fit.in_range

-- what is neither a change nor an evaluation is a tick
pub tick_kind_is : (c : Simulation) (prio : ℕ) (body : Body) → IsFitTask c prio body → body.kind ≢ 0 → body.kind ≢ 1 → body.kind ≡ 2
tick_kind_is c prio body (inl fit) kind other = absurd (kind fit.kind)
tick_kind_is c prio body (inr (inl fit)) kind other = absurd (other fit.kind)
tick_kind_is c prio body (inr (inr fit)) kind other = fit.kind

pub planning_set : (c : Simulation) (prio : ℕ) (body : Body) → IsFitTask c prio body → body.kind ≢ 0 → set_for c.deck body.kind body.at ≡ eval_set c.deck body.at
planning_set c prio body (inl fit) kind = absurd (kind fit.kind)
planning_set c prio body (inr (inl fit)) kind = ap (λ (k : ℕ). set_for c.deck k body.at) fit.kind
planning_set c prio body (inr (inr fit)) kind = ap (λ (k : ℕ). set_for c.deck k body.at) fit.kind

-- the part of the cells as an event leaves it that puts a value at a location, unless it is idle
abbrev left_part : List (Cell ℕ) → Accesses → ℕ → ℕ → Bool → Part ℕ
left_part old set loc value idle = if idle then part_of old set else with_value (part_of old set) loc value

module _ (laws : HomeLaws) (set : Accesses) (old : List (Cell ℕ)) where
  held_both : (loc : ℕ) → IsSome (access_at set loc) → held_in (part_of old set) loc ≡ held_at_home old loc
  held_both loc named = ap value_of (laws.held.parts.each old set loc named)

  values_both : (fan_in : List ℕ) → AllByRecursion (λ signal. IsSome (access_at set (value_place signal))) fan_in → values_held (held_at_home old) fan_in ≡ values_held (held_in (part_of old set)) fan_in
  values_both [] named = refl
  values_both (signal ∷ fan_in) named =
      ap (λ (value : ℕ). value ∷ values_held (held_at_home old) fan_in) (sym (held_both (value_place signal) named.0))
      ∙ ap (λ (values : List ℕ). held_in (part_of old set) (value_place signal) ∷ values) (values_both fan_in named.1)

  computed_both : (form : Form) → AllByRecursion (λ signal. IsSome (access_at set (value_place signal))) (fan_in_of form) → computed_from (held_at_home old) form ≡ computed_from (held_in (part_of old set)) form
  computed_both Input named = refl
  computed_both (Gate kind fan_in) named = ap (gate_value kind) (values_both fan_in named)
  computed_both (Dff source) named = sym (held_both (value_place source) named.0)

  given_back : (loc value : ℕ) (idle : Bool) → AreHome old set → IsAscending set → IsTrue (writes set loc) → (if idle then old else slice_set old loc (Home value)) ≡ cells_given (cells_taken old set) (left_part old set loc value idle)
  given_back loc value true home ascending written = sym (laws.gives_back old set home)
  given_back loc value false home ascending written = laws.writes.taken_and_given old set loc value ascending home written

  same_test : (loc value : ℕ) → IsSome (access_at set loc) → (held_at_home old loc == value) ≡ (held_in (part_of old set) loc == value)
  same_test loc value named = ap (λ (held : ℕ). held == value) (sym (held_both loc named))

module _ (c : Simulation) (laws : HomeLaws) (task : Task) where
  change_done_on : (set : Accesses) (old new : List (Cell ℕ)) (children : List Child) (text : List ℕ) → AreHome old set → set ≡ change_set task.body.at → task.body.kind ≡ 0
      → task.body.at < length c.deck.signals
      → new ≡ (if held_at_home old (value_place task.body.at) == task.body.arg then old else slice_set old (value_place task.body.at) (Home task.body.arg))
      → children ≡ (if held_at_home old (value_place task.body.at) == task.body.arg then [] else map (child_of c) (map (eval_at (time_of task.key.prio)) (readers_of c.deck.signals task.body.at)))
      → text ≡ (if held_at_home old (value_place task.body.at) == task.body.arg then [] else change_text c.deck (time_of task.key.prio) task.body.at task.body.arg)
      → IsDoneAtHome (simulation c) task set old children text new
  change_done_on set old new children text home set-is kind inside new-is children-are text-is =
      let place : ℕ = value_place task.body.at in
      let value : ℕ = task.body.arg in
      let time : ℕ = time_of task.key.prio in
      let named : IsSome (access_at set place) = subst (λ (s : Accesses). IsSome (access_at s place)) (sym set-is) (change_set-named task.body.at) in
      let written : IsTrue (writes set place) = subst (λ (s : Accesses). IsTrue (writes s place)) (sym set-is) (change_set-written task.body.at) in
      let ascending : IsAscending set = subst IsAscending (sym set-is) (change_set-ascending task.body.at) in
      let test = same_test laws set old place value named in
      let left : Part ℕ = left_part old set place value (held_in (part_of old set) place == value) in
      record {
        bundle = left;
        effect = change_is_effect c task (part_of old set) (record { bundle = left; children = children; text = text }) kind
            (change_made c laws.held time task.body.at value (part_of old set) left children text inside refl
            (children-are ∙ ap (λ (idle : Bool). if idle then [] else map (child_of c) (map (eval_at time) (readers_of c.deck.signals task.body.at))) test)
            (text-is ∙ ap (λ (idle : Bool). if idle then [] else change_text c.deck time task.body.at value) test));
        given = new-is ∙ given_back laws set old place value (held_at_home old place == value) home ascending written
            ∙ ap (λ (idle : Bool). cells_given (cells_taken old set) (left_part old set place value idle)) test;
      }

  evaluation_done_on : (set : Accesses) (old new : List (Cell ℕ)) (children : List Child) (text : List ℕ) (value : ℕ) → AreHome old set → set ≡ eval_set c.deck task.body.at → task.body.kind ≡ 1
      → task.body.at < length c.deck.signals → value ≡ computed_from (held_at_home old) (signal_at c.deck.signals task.body.at).form
      → new ≡ (if held_at_home old (plan_place task.body.at) == value then old else slice_set old (plan_place task.body.at) (Home value))
      → children ≡ (if held_at_home old (plan_place task.body.at) == value then [] else map (child_of c) (next_changes c (time_of task.key.prio) task.body.at value)) → text ≡ []
      → IsDoneAtHome (simulation c) task set old children text new
  evaluation_done_on set old new children text value home set-is kind inside value-is new-is children-are text-is =
      let place : ℕ = plan_place task.body.at in
      let time : ℕ = time_of task.key.prio in
      let named : IsSome (access_at set place) = subst (λ (s : Accesses). IsSome (access_at s place)) (sym set-is) (plan_named c task.body.at) in
      let written : IsTrue (writes set place) = subst (λ (s : Accesses). IsTrue (writes s place)) (sym set-is) (eval_set-written c task.body.at) in
      let ascending : IsAscending set = subst IsAscending (sym set-is) (eval_set-ascending c task.body.at) in
      let form : Form = (signal_at c.deck.signals task.body.at).form in
      let read : AllByRecursion (λ signal. IsSome (access_at set (value_place signal))) (fan_in_of form) =
      subst (λ (s : Accesses). AllByRecursion (λ signal. IsSome (access_at s (value_place signal))) (fan_in_of form)) (sym set-is) (fan_in_named c task.body.at) in
      let test = same_test laws set old place value named in
      let left : Part ℕ = left_part old set place value (held_in (part_of old set) place == value) in
      record {
        bundle = left;
        effect = evaluation_is_effect c task (part_of old set) (record { bundle = left; children = children; text = text }) kind
            (evaluation_made c laws.held time task.body.at value (part_of old set) left children text inside (value-is ∙ computed_both laws set old form read) refl
            (children-are ∙ ap (λ (idle : Bool). if idle then [] else map (child_of c) (next_changes c time task.body.at value)) test) text-is);
        given = new-is ∙ given_back laws set old place value (held_at_home old place == value) home ascending written
            ∙ ap (λ (idle : Bool). cells_given (cells_taken old set) (left_part old set place value idle)) test;
      }

  tick_done_on : (set : Accesses) (old new : List (Cell ℕ)) (children : List Child) (text : List ℕ) (value : ℕ) → AreHome old set → set ≡ eval_set c.deck task.body.at → task.body.kind ≡ 2
      → task.body.at < length c.deck.signals → value ≡ computed_from (held_at_home old) (signal_at c.deck.signals task.body.at).form
      → new ≡ (if held_at_home old (plan_place task.body.at) == value then old else slice_set old (plan_place task.body.at) (Home value))
      → children ≡ (if held_at_home old (plan_place task.body.at) == value then [] else map (child_of c) (next_changes c (time_of task.key.prio) task.body.at value)) ++ map (child_of c) (next_ticks c (time_of task.key.prio) task.body.at)
      → text ≡ [] → IsDoneAtHome (simulation c) task set old children text new
  tick_done_on set old new children text value home set-is kind inside value-is new-is children-are text-is =
      let place : ℕ = plan_place task.body.at in
      let time : ℕ = time_of task.key.prio in
      let named : IsSome (access_at set place) = subst (λ (s : Accesses). IsSome (access_at s place)) (sym set-is) (plan_named c task.body.at) in
      let written : IsTrue (writes set place) = subst (λ (s : Accesses). IsTrue (writes s place)) (sym set-is) (eval_set-written c task.body.at) in
      let ascending : IsAscending set = subst IsAscending (sym set-is) (eval_set-ascending c task.body.at) in
      let form : Form = (signal_at c.deck.signals task.body.at).form in
      let read : AllByRecursion (λ signal. IsSome (access_at set (value_place signal))) (fan_in_of form) =
      subst (λ (s : Accesses). AllByRecursion (λ signal. IsSome (access_at s (value_place signal))) (fan_in_of form)) (sym set-is) (fan_in_named c task.body.at) in
      let test = same_test laws set old place value named in
      let next : List Child = map (child_of c) (next_ticks c time task.body.at) in
      let left : Part ℕ = left_part old set place value (held_in (part_of old set) place == value) in
      record {
        bundle = left;
        effect = tick_is_effect c task (part_of old set) (record { bundle = left; children = children; text = text }) kind
            (tick_made c laws.held time task.body.at value (part_of old set) left children text inside (value-is ∙ computed_both laws set old form read) refl
            (children-are ∙ ap (λ (idle : Bool). (if idle then [] else map (child_of c) (next_changes c time task.body.at value)) ++ next) test) text-is);
        given = new-is ∙ given_back laws set old place value (held_at_home old place == value) home ascending written
            ∙ ap (λ (idle : Bool). cells_given (cells_taken old set) (left_part old set place value idle)) test;
      }

module _ (c : Simulation) {task : Task} {set : Accesses} {old : List (Cell ℕ)} (fit : IsFitTask c task.key.prio task.body) (ready : IsReady (simulation c) task old set) where
  -- whatever set it is ready on, it is the one that it declares
  ready_set : (kind : ℕ) → task.body.kind ≡ kind → set ≡ set_for c.deck kind task.body.at
  ready_set kind is = ap (λ (part : Part ℕ). part.set) ready.taken.is ∙ ap (λ (k : ℕ). set_for c.deck k task.body.at) is

  evaluation_set : task.body.kind ≢ 0 → set ≡ eval_set c.deck task.body.at
  evaluation_set kind = ready_set task.body.kind refl ∙ planning_set c task.key.prio task.body fit kind

  -- what an evaluation or a tick reads and writes is home
  pub fan_in_home : task.body.kind ≢ 0 → AllByRecursion (λ signal. IsHome (cell_at old (value_place signal))) (fan_in_of (signal_at c.deck.signals task.body.at).form)
  fan_in_home kind = each (fan_in_of (signal_at c.deck.signals task.body.at).form)
      (subst (λ (s : Accesses). AllByRecursion (λ signal. IsSome (access_at s (value_place signal))) (fan_in_of (signal_at c.deck.signals task.body.at).form)) (sym (evaluation_set kind))
      (fan_in_named c task.body.at))
    where
      each : (fan_in : List ℕ) → AllByRecursion (λ signal. IsSome (access_at set (value_place signal))) fan_in → AllByRecursion (λ signal. IsHome (cell_at old (value_place signal))) fan_in
      each [] named = tt
      each (signal ∷ fan_in) named = (ready.home (value_place signal) named.0, each fan_in named.1)

  plan_found : task.body.kind ≢ 0 → IsSome (access_at set (plan_place task.body.at))
  plan_found kind = subst (λ (s : Accesses). IsSome (access_at s (plan_place task.body.at))) (sym (evaluation_set kind)) (plan_named c task.body.at)

  pub plan_home : task.body.kind ≢ 0 → IsHome (cell_at old (plan_place task.body.at))
  plan_home kind = ready.home (plan_place task.body.at) (plan_found kind)

  pub plan_below : task.body.kind ≢ 0 → PartsByLocation ℕ → plan_place task.body.at < length old
  plan_below kind parts = parts.in_range old set ready.home (plan_place task.body.at) (plan_found kind)

  module _ (laws : HomeLaws) where
    pub change_done : task.body.kind ≡ 0 → (new : List (Cell ℕ)) (children : List Child) (text : List ℕ)
        → new ≡ (if held_at_home old (value_place task.body.at) == task.body.arg then old else slice_set old (value_place task.body.at) (Home task.body.arg))
        → children ≡ (if held_at_home old (value_place task.body.at) == task.body.arg then [] else map (child_of c) (map (eval_at (time_of task.key.prio)) (readers_of c.deck.signals task.body.at)))
        → text ≡ (if held_at_home old (value_place task.body.at) == task.body.arg then [] else change_text c.deck (time_of task.key.prio) task.body.at task.body.arg)
        → IsDoneAtHome (simulation c) task set old children text new
    change_done kind new children text =
        change_done_on c laws task set old new children text ready.home (ready_set 0 kind) kind (change_fit c task.key.prio task.body fit kind).at_signal

    pub evaluation_done : task.body.kind ≡ 1 → (new : List (Cell ℕ)) (children : List Child) (text : List ℕ)
        → (let value = computed_from (held_at_home old) (signal_at c.deck.signals task.body.at).form in
        new ≡ (if held_at_home old (plan_place task.body.at) == value then old else slice_set old (plan_place task.body.at) (Home value)))
        → (let value = computed_from (held_at_home old) (signal_at c.deck.signals task.body.at).form in
        children ≡ (if held_at_home old (plan_place task.body.at) == value then [] else map (child_of c) (next_changes c (time_of task.key.prio) task.body.at value)))
        → text ≡ [] → IsDoneAtHome (simulation c) task set old children text new
    evaluation_done kind new children text =
        let no_change : task.body.kind ≢ 0 = λ change. absurd (omega (arith, kind, change)) in
        evaluation_done_on c laws task set old new children text _ ready.home (evaluation_set no_change) kind
        (planning_in_range c task.key.prio task.body fit no_change) refl

    pub tick_done : task.body.kind ≢ 0 → task.body.kind ≢ 1 → (new : List (Cell ℕ)) (children : List Child) (text : List ℕ)
        → (let value = computed_from (held_at_home old) (signal_at c.deck.signals task.body.at).form in
        new ≡ (if held_at_home old (plan_place task.body.at) == value then old else slice_set old (plan_place task.body.at) (Home value)))
        → (let value = computed_from (held_at_home old) (signal_at c.deck.signals task.body.at).form in
        children ≡ (if held_at_home old (plan_place task.body.at) == value then [] else map (child_of c) (next_changes c (time_of task.key.prio) task.body.at value)) ++ map (child_of c) (next_ticks c (time_of task.key.prio) task.body.at))
        → text ≡ [] → IsDoneAtHome (simulation c) task set old children text new
    tick_done kind other new children text =
        tick_done_on c laws task set old new children text _ ready.home (evaluation_set kind) (tick_kind_is c task.key.prio task.body fit kind other)
        (planning_in_range c task.key.prio task.body fit kind) refl
