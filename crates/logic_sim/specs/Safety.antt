-- Safe events stay safe: what follows from an earlier event comes no nearer to them than that event does.
use Rattle.std.specs.Prelude.{◌≡◌, ◌≢◌, ℕ, zero, suc, ◌+◌, ◌*◌, ◌%◌, ◌<◌, ◌≤◌, ◌==◌, ◌⊎◌, ◌||◌, nat_le, not, if◌then◌else◌, Bool, true, false, List, [], ◌∷◌, ◌++◌, length, map, refl}
use Rattle.std.specs.List.{AllByRecursion, filter, list_all, list_any, range_with_len}
use Rattle.std.specs.Ordering.{is_lt}
use Rattle.std.specs.declared.cmp.Ordering.TheVariants.{Less}
use Rattle.std.proofs.Common.{arith, ap, get_or, inl, inr, subst, sym, ◌∙◌}
use Rattle.std.proofs.lemmas.Bool.{and_from, and_parts, cases_Bool, cases_lt, eq-eqb, eqb-true, false≢true, false_from_ne_true, ne_eqb, not-true, not_from_false, or_cases, or_left, or_parts, or_right}
use Rattle.std.proofs.lemmas.Bool.Decides.{nat_tests}
use Rattle.std.proofs.lemmas.List.{get_or_past}
use Rattle.std.proofs.lemmas.List.Folds.{list_all-append, list_all-map}
use Rattle.plain_laws.specs.Lists.{All-append, All-map, All-middle}
use Rattle.task_order.specs.KeyLaws.{earlier_prio}
use Rattle.bench_reader.specs.Decks.{IsSoundlyWired}
use Rattle.bench_reader.specs.declared.deck.Deck.{Deck}
use Rattle.bench_reader.specs.declared.deck.Form.{Form}
use Rattle.bench_reader.specs.declared.deck.Form.TheVariants.{Input, Gate, Dff}
use Rattle.bench_reader.specs.declared.deck.Signal.{Signal}
use Rattle.task_order.specs.declared.start.Start.{Start}
use Rattle.task_order.specs.declared.task.Body.{Body}
use Rattle.task_order.specs.declared.task.Task.{Task}
use Rattle.task_order.specs.Key.{key_cmp}
use Rattle.task_order.specs.TaskList.{is_earlier, put_all, put_in, tasks_before}
use Rattle.rw_sets.specs.Accesses.{Accesses, Conflicts}
use Rattle.app_laws.specs.Applications.{IsFitTask as IsTaskOf, IsSafeAlone, SafeTasksStaySafe, SafetyIgnoresPaths, IsLawful, PathsAreIgnored, set_in}
use Rattle.app_laws.specs.Execution.{Outcome, children_from}
use Rattle.app_laws.specs.Names.{renamed}
use Rattle.logic_sim.specs.Circuit.{IsFitCells, IsFitTask}
use Rattle.logic_sim.specs.Conflicts.{change_conflicts, changes_conflict, plan_conflicts, plans_conflict}
use Rattle.logic_sim.specs.Distance.{comes_to_change, comes_to_plan, drivers_of, is_safe, leads, moment_of, reaches, reaches_any, threatens}
use Rattle.logic_sim.specs.DistanceLaws.{any_at, any_weaker, leads_from_driver, leads_here, leads_sooner}
use Rattle.logic_sim.specs.Event.{Simulation, act_of, change_at, change_kind, delay_of, eval_at, eval_kind, eval_of, event_of, next_changes, next_ticks, nothing_done, plan_in, plan_of, tick_at, tick_kind, time_of, value_in}
use Rattle.logic_sim.specs.Lawful.{acts_are_fit, acts_are_local, acts_ignore_paths, cells_are_counted, children_come_no_earlier, sets_are_in_range, sets_are_local, sets_stay_within, walks_are_true}
use Rattle.logic_sim.specs.Laws.{either, filter_range}
use Rattle.logic_sim.specs.Meaning.{change_set, eval_set, set_for, simulation}
use Rattle.logic_sim.specs.Wiring.{fan_in_of, is_among, no_signal, readers_of, reads, signal_at, watched_by}

-- what holds of elements that a filter keeps
kept_gives : {X : Type 0} (P Q : X → Type 0) (p : X → Bool) (xs : List X) → ((x : X) → P x → p x ≡ true → Q x) → AllByRecursion P xs → AllByRecursion Q (filter p xs)
kept_gives P Q p [] each all = tt
kept_gives P Q p (x ∷ xs) each all = elim (cases_Bool (p x)) [
  | inl holds ↦ rw holds (each x all.0 holds, kept_gives P Q p xs each all.1)
  | inr fails ↦ rw fails (kept_gives P Q p xs each all.1)
]

put_in_passes : (p : Task → Bool) (task : Task) (tasks : List Task) → p task ≡ true → list_all p tasks ≡ true → list_all p (put_in task tasks) ≡ true
put_in_passes p task [] passes all = and_from (p task) true passes refl
put_in_passes p task (other ∷ tasks) passes all =
    let parts = and_parts (p other) (list_all p tasks) all in
    either (λ (both : List Task). list_all p both ≡ true) (is_lt (key_cmp other.key task.key)) (other ∷ put_in task tasks) (task ∷ other ∷ tasks)
    (and_from (p other) (list_all p (put_in task tasks)) parts.0 (put_in_passes p task tasks passes parts.1))
    (and_from (p task) (list_all p (other ∷ tasks)) passes all)

put_all_passes : (p : Task → Bool) (new tasks : List Task) → AllByRecursion (λ task. p task ≡ true) new → list_all p tasks ≡ true → list_all p (put_all new tasks) ≡ true
put_all_passes p [] tasks passes all = all
put_all_passes p (task ∷ new) tasks passes all = put_all_passes p new (put_in task tasks) passes.1 (put_in_passes p task tasks passes.0 all)

-- in a range the numbers that pass stay
pub ranged : (p : ℕ → Bool) (a n number : ℕ) → a ≤ number → number < a + n → p number ≡ true → is_among (filter p (range_with_len a n)) number ≡ true
ranged p a zero number from below passes = absurd (omega arith)
ranged p a (suc n) number from below passes = elim (cases_Bool (a == number)) [
  | inl here ↦
      let kept : p a ≡ true = ap p (eqb-true a number here) ∙ passes in
      rw kept (or_left (a == number) (is_among (filter p (range_with_len (a + 1) n)) number) here)
  | inr other ↦
      let above : a + 1 ≤ number = grind (arith, nat_tests, other, from) in
      let rest : is_among (filter p (range_with_len (a + 1) n)) number ≡ true = ranged p (a + 1) n number above (omega arith) passes in
      elim (cases_Bool (p a)) [
        | inl holds ↦ rw holds (or_right (a == number) (is_among (filter p (range_with_len (a + 1) n)) number) rest)
        | inr fails ↦ rw fails rest
      ]
]

driven_fan_in : (form : Form) (driver : ℕ) → is_among (watched_by form) driver ≡ true → fan_in_of form ≡ watched_by form
driven_fan_in Input driver among = refl
driven_fan_in (Gate kind fan_in) driver among = refl
driven_fan_in (Dff source) driver among = absurd (false≢true among)

-- a gate that a signal drives is among its readers
pub reader_among : (c : Simulation) (driver gate : ℕ) → is_among (drivers_of c gate) driver ≡ true → is_among (readers_of c.deck.signals driver) gate ≡ true
reader_among c driver gate among = elim (cases_lt gate (length c.deck.signals)) [
  | inl below ↦ ranged (reads c.deck.signals driver) 0 (length c.deck.signals) gate (omega arith) (omega (arith, below)) among
  | inr past ↦ absurd (false≢true (subst (λ (signal : Signal). is_among (watched_by signal.form) driver ≡ true) (get_or_past c.deck.signals gate no_signal past) among))
]

-- a gate that a changed signal drives is evaluated at once
pub record IsDriven (c : Simulation) (parent : Task) (prio : ℕ) (body : Body) : Type 0 where
  pub changed : parent.body.kind ≡ change_kind
  pub evaluated : body.kind ≡ eval_kind
  pub driver : is_among (drivers_of c body.at) parent.body.at ≡ true
  pub at_once : prio ≡ 2 * time_of parent.key.prio + 1

-- a signal for which a value was planned takes it after its delay
pub record IsPlanned (c : Simulation) (parent : Task) (prio : ℕ) (body : Body) : Type 0 where
  pub planned : parent.body.kind ≢ change_kind
  pub changes : body.kind ≡ change_kind
  pub same : body.at ≡ parent.body.at
  pub delayed : prio ≡ 2 * (time_of parent.key.prio + delay_of c parent.body.at)

-- a flip-flop ticks again
pub record IsNextTick (c : Simulation) (parent : Task) (prio : ℕ) (body : Body) : Type 0 where
  pub ticked : parent.body.kind ≡ tick_kind
  pub ticks : body.kind ≡ tick_kind
  pub same : body.at ≡ parent.body.at
  pub later : prio ≡ 2 * (time_of parent.key.prio + c.clock) + 1

-- how an event follows from another
abbrev pub Follows : Simulation → Task → ℕ → Body → Type 0
Follows c parent prio body = IsDriven c parent prio body ⊎ (IsPlanned c parent prio body ⊎ IsNextTick c parent prio body)

abbrev pub AllFollow : Simulation → Task → List Start → Type 0
AllFollow c parent starts = AllByRecursion (λ start. Follows c parent start.prio start.body) starts

-- when an event may change its signal
pub moment-change : (c : Simulation) (prio : ℕ) (body : Body) → body.kind ≡ change_kind → moment_of c prio body ≡ time_of prio
moment-change c prio body is = ap (λ (kind : ℕ). if kind == change_kind then time_of prio else time_of prio + delay_of c body.at) is

pub moment-plan : (c : Simulation) (prio : ℕ) (body : Body) → body.kind ≢ change_kind → moment_of c prio body ≡ time_of prio + delay_of c body.at
moment-plan c prio body differs = ap (λ (b : Bool). if b then time_of prio else time_of prio + delay_of c body.at) (ne_eqb body.kind change_kind differs)

-- by what an event is threatened
pub threat-change : (c : Simulation) (task other : Task) → task.body.kind ≡ change_kind → threatens c task other ≡ comes_to_change c other.key.prio other.body task.body.at (time_of task.key.prio)
threat-change c task other is =
    ap (λ (kind : ℕ). if kind == change_kind then comes_to_change c other.key.prio other.body task.body.at (time_of task.key.prio) else comes_to_plan c other.key.prio other.body task.body.at (time_of task.key.prio)) is

pub threat-plan : (c : Simulation) (task other : Task) → task.body.kind ≢ change_kind → threatens c task other ≡ comes_to_plan c other.key.prio other.body task.body.at (time_of task.key.prio)
threat-plan c task other differs =
    ap (λ (b : Bool). if b then comes_to_change c other.key.prio other.body task.body.at (time_of task.key.prio) else comes_to_plan c other.key.prio other.body task.body.at (time_of task.key.prio))
    (ne_eqb task.body.kind change_kind differs)

-- an event comes to its own signal
reaches_itself : (c : Simulation) (prio : ℕ) (body : Body) (moment limit : ℕ) → moment_of c prio body ≡ moment → moment < limit → reaches c prio body body.at limit ≡ true
reaches_itself c prio body moment limit is early =
    leads_here limit c (moment_of c prio body) body.at limit (omega (arith, is, early)) (omega (arith, early))

module _ (c : Simulation) where
  plan_follows : (task : Task) (value : ℕ) (cells : List ℕ) → task.body.kind ≢ change_kind → AllFollow c task (plan_of c (time_of task.key.prio) task.body.at value cells).children
  plan_follows task value cells planned =
      let time = time_of task.key.prio in
      let at = task.body.at in
      either (λ (outcome : Outcome ℕ). AllFollow c task outcome.children) (plan_in cells at == value) (nothing_done cells) _ tt
      (either (AllFollow c task) (nat_le (time + delay_of c at) c.until) (change_at (time + delay_of c at) at value ∷ []) []
      (inr (inl (record { planned = planned; changes = refl; same = refl; delayed = refl })), tt) tt)

  -- the children of an event follow from it
  act_of-follows : (task : Task) (cells : List ℕ) → IsFitTask c task.key.prio task.body → AllFollow c task (act_of c task cells).children
  act_of-follows task cells (inl change) =
      let time = time_of task.key.prio in
      subst (λ (kind : ℕ). AllFollow c task (event_of c kind time task.body.at task.body.arg cells).children) (sym change.kind)
      (either (λ (outcome : Outcome ℕ). AllFollow c task outcome.children) (value_in cells task.body.at == task.body.arg) (nothing_done cells) _ tt
      (All-map (λ (start : Start). Follows c task start.prio start.body) (eval_at time) (readers_of c.deck.signals task.body.at)
      (filter_range (λ z. Follows c task (eval_at time z).prio (eval_at time z).body) (reads c.deck.signals task.body.at) 0 (length c.deck.signals)
      (λ z below among. inl (record { changed = change.kind; evaluated = refl; driver = among; at_once = refl })))))
  act_of-follows task cells (inr (inl eval)) =
      subst (λ (kind : ℕ). AllFollow c task (event_of c kind (time_of task.key.prio) task.body.at task.body.arg cells).children) (sym eval.kind)
      (plan_follows task _ cells (λ is. omega (arith, is, eval.kind)))
  act_of-follows task cells (inr (inr tick)) =
      let time = time_of task.key.prio in
      subst (λ (kind : ℕ). AllFollow c task (event_of c kind time task.body.at task.body.arg cells).children) (sym tick.kind)
      (All-append (λ (start : Start). Follows c task start.prio start.body) (eval_of c time task.body.at cells).children (next_ticks c time task.body.at)
      (plan_follows task _ cells (λ is. omega (arith, is, tick.kind)))
      (either (AllFollow c task) (nat_le (time + c.clock) c.until) (tick_at (time + c.clock) task.body.at ∷ []) []
      (inr (inr (record { ticked = tick.kind; ticks = refl; same = refl; later = refl })), tt) tt))

  -- what follows from an event comes no nearer
  comes_no_nearer : (parent : Task) (prio : ℕ) (body : Body) → IsSoundlyWired c.deck → Follows c parent prio body → (to limit : ℕ) → reaches c prio body to limit ≡ true
      → reaches c parent.key.prio parent.body to limit ≡ true
  comes_no_nearer parent prio body sound (inl driven) to limit led =
      let time : ℕ = time_of parent.key.prio in
      let now : time_of prio ≡ time = omega (arith, driven.at_once) in
      let moment : moment_of c prio body ≡ time + delay_of c body.at =
      moment-plan c prio body (λ is. omega (arith, is, driven.evaluated)) ∙ ap (λ (t : ℕ). t + delay_of c body.at) now in
      subst (λ (m : ℕ). leads limit c m parent.body.at to limit ≡ true) (sym (moment-change c parent.key.prio parent.body driven.changed))
      (leads_from_driver limit c time parent.body.at body.at to limit sound driven.driver (omega arith) (subst (λ (m : ℕ). leads limit c m body.at to limit ≡ true) moment led))
  comes_no_nearer parent prio body sound (inr (inl planned)) to limit led =
      let at : time_of prio ≡ time_of parent.key.prio + delay_of c parent.body.at = omega (arith, planned.delayed) in
      let moment : moment_of c prio body ≡ moment_of c parent.key.prio parent.body =
      moment-change c prio body planned.changes ∙ at ∙ sym (moment-plan c parent.key.prio parent.body planned.planned) in
      subst (λ (m : ℕ). leads limit c m parent.body.at to limit ≡ true) moment
      (subst (λ (at : ℕ). leads limit c (moment_of c prio body) at to limit ≡ true) planned.same led)
  comes_no_nearer parent prio body sound (inr (inr next)) to limit led =
      let own = moment-plan c prio body (λ is. omega (arith, is, next.ticks)) in
      let before = moment-plan c parent.key.prio parent.body (λ is. omega (arith, is, next.ticked)) in
      let delays : delay_of c body.at ≡ delay_of c parent.body.at = ap (delay_of c) next.same in
      leads_sooner limit c (moment_of c parent.key.prio parent.body) (moment_of c prio body) parent.body.at to limit (omega (arith, own, before, delays, next.later))
      (subst (λ (at : ℕ). leads limit c (moment_of c prio body) at to limit ≡ true) next.same led)

  on_choice : (b x y u v : Bool) → (x ≡ true → u ≡ true) → (y ≡ true → v ≡ true) → (if b then x else y) ≡ true → (if b then u else v) ≡ true
  on_choice true x y u v one two h = one h
  on_choice false x y u v one two h = two h

  on_either : (x y u v : Bool) → (x ≡ true → u ≡ true) → (y ≡ true → v ≡ true) → (x || y) ≡ true → (u || v) ≡ true
  on_either x y u v one two h = elim (or_cases x y h) [ inl here ↦ or_left u v (one here) | inr there ↦ or_right u v (two there) ]

  -- what threatens an event follows from what threatens it
  threat_passed_on : (task parent child : Task) → IsSoundlyWired c.deck → Follows c parent child.key.prio child.body → threatens c task child ≡ true → threatens c task parent ≡ true
  threat_passed_on task parent child sound follows threat =
      let time = time_of task.key.prio in
      let at = task.body.at in
      let fan_in = fan_in_of (signal_at c.deck.signals at).form in
      on_choice (task.body.kind == change_kind) (comes_to_change c child.key.prio child.body at time) (comes_to_plan c child.key.prio child.body at time)
      (comes_to_change c parent.key.prio parent.body at time) (comes_to_plan c parent.key.prio parent.body at time)
      (on_either (reaches c child.key.prio child.body at (time + 1)) (list_any (λ gate. reaches_any c child.key.prio child.body (drivers_of c gate) time) (readers_of c.deck.signals at))
      (reaches c parent.key.prio parent.body at (time + 1)) (list_any (λ gate. reaches_any c parent.key.prio parent.body (drivers_of c gate) time) (readers_of c.deck.signals at))
      (nearer at (time + 1))
      (any_weaker (λ gate. reaches_any c child.key.prio child.body (drivers_of c gate) time) (λ gate. reaches_any c parent.key.prio parent.body (drivers_of c gate) time) (readers_of c.deck.signals at)
      (λ gate. any_nearer (drivers_of c gate) time)))
      (any_nearer fan_in (time + 1)) threat
    where
      nearer : (to limit : ℕ) → reaches c child.key.prio child.body to limit ≡ true → reaches c parent.key.prio parent.body to limit ≡ true
      nearer = comes_no_nearer parent child.key.prio child.body sound follows

      any_nearer : (signals : List ℕ) (limit : ℕ) → reaches_any c child.key.prio child.body signals limit ≡ true → reaches_any c parent.key.prio parent.body signals limit ≡ true
      any_nearer signals limit =
          any_weaker (λ signal. reaches c child.key.prio child.body signal limit) (λ signal. reaches c parent.key.prio parent.body signal limit) signals (λ signal. nearer signal limit)

  -- the sets of events of these kinds
  sets_are : (kind one at : ℕ) → kind ≡ one → (set other : Accesses) → set ≡ other → Conflicts (set_for c.deck kind at) set → Conflicts (set_for c.deck one at) other
  sets_are kind one at is set other same conflict =
      subst (λ (accesses : Accesses). Conflicts (set_for c.deck one at) accesses) same (subst (λ (k : ℕ). Conflicts (set_for c.deck k at) set) is conflict)

  -- the next tick of a flip-flop conflicts with what the tick conflicts with
  tick_conflicts : (parent : Task) (body : Body) (task : Task) → parent.body.kind ≡ tick_kind → body.kind ≡ tick_kind → body.at ≡ parent.body.at
      → Conflicts (set_for c.deck body.kind body.at) (set_for c.deck task.body.kind task.body.at) → Conflicts (set_for c.deck parent.body.kind parent.body.at) (set_for c.deck task.body.kind task.body.at)
  tick_conflicts parent body task ticked ticks same conflict =
      let set : set_for c.deck body.kind body.at ≡ set_for c.deck parent.body.kind parent.body.at =
      ap (λ (kind : ℕ). set_for c.deck kind body.at) (ticks ∙ sym ticked) ∙ ap (λ (at : ℕ). set_for c.deck parent.body.kind at) same in
      subst (λ (set : Accesses). Conflicts set (set_for c.deck task.body.kind task.body.at)) set conflict

  -- what follows from an event that neither threatens a change nor conflicts with it
  apart_from_change : (task parent : Task) (prio : ℕ) (body : Body) → task.body.kind ≡ change_kind → task.key.prio % 2 ≡ 0 → comes_to_change c parent.key.prio parent.body task.body.at (time_of task.key.prio) ≡ false
      → Follows c parent prio body → prio ≤ task.key.prio → ¬ Conflicts (set_for c.deck parent.body.kind parent.body.at) (set_for c.deck task.body.kind task.body.at)
      → ¬ Conflicts (set_for c.deck body.kind body.at) (set_for c.deck task.body.kind task.body.at)
  apart_from_change task parent prio body kind even safe (inl driven) earlier apart conflict =
      let time : ℕ = time_of task.key.prio in
      let parts = or_parts (reaches c parent.key.prio parent.body task.body.at (time + 1)) (list_any (λ gate. reaches_any c parent.key.prio parent.body (drivers_of c gate) time) (readers_of c.deck.signals task.body.at)) safe in
      let read = plan_conflicts c.deck body.at task.body.at (sets_are body.kind 1 body.at driven.evaluated (set_for c.deck task.body.kind task.body.at) (change_set task.body.at) (ap (λ (k : ℕ). set_for c.deck k task.body.at) kind) conflict) in
      let drives : is_among (drivers_of c body.at) task.body.at ≡ true =
      subst (λ (signals : List ℕ). is_among signals task.body.at ≡ true) (driven_fan_in (signal_at c.deck.signals body.at).form parent.body.at driven.driver) read in
      let here = reaches_itself c parent.key.prio parent.body (time_of parent.key.prio) time (moment-change c parent.key.prio parent.body driven.changed) (omega (arith, driven.at_once, earlier, even)) in
      false≢true (sym parts.1 ∙ any_at (λ gate. reaches_any c parent.key.prio parent.body (drivers_of c gate) time) (readers_of c.deck.signals task.body.at) body.at (reader_among c task.body.at body.at drives)
      (any_at (λ signal. reaches c parent.key.prio parent.body signal time) (drivers_of c body.at) parent.body.at driven.driver here))
  apart_from_change task parent prio body kind even safe (inr (inl planned)) earlier apart conflict =
      let time : ℕ = time_of task.key.prio in
      let parts = or_parts (reaches c parent.key.prio parent.body task.body.at (time + 1)) (list_any (λ gate. reaches_any c parent.key.prio parent.body (drivers_of c gate) time) (readers_of c.deck.signals task.body.at)) safe in
      let same = changes_conflict body.at task.body.at (sets_are body.kind 0 body.at planned.changes (set_for c.deck task.body.kind task.body.at) (change_set task.body.at) (ap (λ (k : ℕ). set_for c.deck k task.body.at) kind) conflict) in
      let here = reaches_itself c parent.key.prio parent.body (time_of parent.key.prio + delay_of c parent.body.at) (time + 1) (moment-plan c parent.key.prio parent.body planned.planned) (omega (arith, planned.delayed, earlier)) in
      false≢true (sym parts.0 ∙ subst (λ (to : ℕ). reaches c parent.key.prio parent.body to (time + 1) ≡ true) (sym planned.same ∙ same) here)
  apart_from_change task parent prio body kind even safe (inr (inr next)) earlier apart conflict = apart (tick_conflicts parent body task next.ticked next.ticks next.same conflict)

  -- what follows from an event that neither threatens an evaluation or a tick nor conflicts with it
  apart_from_plan : (task parent : Task) (prio : ℕ) (body : Body) → set_for c.deck task.body.kind task.body.at ≡ eval_set c.deck task.body.at → comes_to_plan c parent.key.prio parent.body task.body.at (time_of task.key.prio) ≡ false
      → Follows c parent prio body → prio ≤ task.key.prio → ¬ Conflicts (set_for c.deck parent.body.kind parent.body.at) (set_for c.deck task.body.kind task.body.at)
      → ¬ Conflicts (set_for c.deck body.kind body.at) (set_for c.deck task.body.kind task.body.at)
  apart_from_plan task parent prio body set safe (inl driven) earlier apart conflict =
      let time : ℕ = time_of task.key.prio in
      let fan_in : List ℕ = fan_in_of (signal_at c.deck.signals task.body.at).form in
      let same : body.at ≡ task.body.at = plans_conflict c.deck body.at task.body.at (sets_are body.kind 1 body.at driven.evaluated (set_for c.deck task.body.kind task.body.at) (eval_set c.deck task.body.at) set conflict) in
      let read : is_among (fan_in_of (signal_at c.deck.signals body.at).form) parent.body.at ≡ true =
      subst (λ (signals : List ℕ). is_among signals parent.body.at ≡ true) (sym (driven_fan_in (signal_at c.deck.signals body.at).form parent.body.at driven.driver)) driven.driver in
      let among : is_among fan_in parent.body.at ≡ true = subst (λ (at : ℕ). is_among (fan_in_of (signal_at c.deck.signals at).form) parent.body.at ≡ true) same read in
      let here = reaches_itself c parent.key.prio parent.body (time_of parent.key.prio) (time + 1) (moment-change c parent.key.prio parent.body driven.changed) (omega (arith, driven.at_once, earlier)) in
      false≢true (sym safe ∙ any_at (λ signal. reaches c parent.key.prio parent.body signal (time + 1)) fan_in parent.body.at among here)
  apart_from_plan task parent prio body set safe (inr (inl planned)) earlier apart conflict =
      let time : ℕ = time_of task.key.prio in
      let fan_in : List ℕ = fan_in_of (signal_at c.deck.signals task.body.at).form in
      let read : is_among fan_in body.at ≡ true = change_conflicts c.deck body.at task.body.at (sets_are body.kind 0 body.at planned.changes (set_for c.deck task.body.kind task.body.at) (eval_set c.deck task.body.at) set conflict) in
      let here = reaches_itself c parent.key.prio parent.body (time_of parent.key.prio + delay_of c parent.body.at) (time + 1) (moment-plan c parent.key.prio parent.body planned.planned) (omega (arith, planned.delayed, earlier)) in
      false≢true (sym safe ∙ any_at (λ signal. reaches c parent.key.prio parent.body signal (time + 1)) fan_in parent.body.at (subst (λ (at : ℕ). is_among fan_in at ≡ true) planned.same read) here)
  apart_from_plan task parent prio body set safe (inr (inr next)) earlier apart conflict = apart (tick_conflicts parent body task next.ticked next.ticks next.same conflict)

  -- what follows from an event that neither threatens another nor conflicts with it
  follower_is_apart : (task parent : Task) (prio : ℕ) (body : Body) → IsFitTask c task.key.prio task.body → threatens c task parent ≡ false
      → Follows c parent prio body → prio ≤ task.key.prio → ¬ Conflicts (set_for c.deck parent.body.kind parent.body.at) (set_for c.deck task.body.kind task.body.at)
      → ¬ Conflicts (set_for c.deck body.kind body.at) (set_for c.deck task.body.kind task.body.at)
  follower_is_apart task parent prio body (inl change) safe = apart_from_change task parent prio body change.kind change.even (sym (threat-change c task parent change.kind) ∙ safe)
  follower_is_apart task parent prio body (inr (inl eval)) safe =
      apart_from_plan task parent prio body (ap (λ (kind : ℕ). set_for c.deck kind task.body.at) eval.kind) (sym (threat-plan c task parent (λ is. omega (arith, is, eval.kind))) ∙ safe)
  follower_is_apart task parent prio body (inr (inr tick)) safe =
      apart_from_plan task parent prio body (ap (λ (kind : ℕ). set_for c.deck kind task.body.at) tick.kind) (sym (threat-plan c task parent (λ is. omega (arith, is, tick.kind))) ∙ safe)

  -- the children as tasks follow as they do as starts
  children_follow : (parent : Task) (number : ℕ) (starts : List Start) → AllFollow c parent starts → AllByRecursion (λ child. Follows c parent child.key.prio child.body) (children_from parent.key number starts)
  children_follow parent number [] all = tt
  children_follow parent number (start ∷ starts) all = (all.0, children_follow parent (suc number) starts all.1)

  pub safe_alone : IsSafeAlone (simulation c)
  safe_alone task fit-task = refl

  pub safe_tasks_stay_safe : SafeTasksStaySafe (simulation c)
  safe_tasks_stay_safe task acted before after cells fit fit-task fit-others ascending earlier safe apart = record {
    apart = kept_gives (λ (child : Task). Follows c acted child.key.prio child.body) (λ (child : Task). ¬ Conflicts (set_in (simulation c) (act_of c acted cells).cells child) (set_in (simulation c) (act_of c acted cells).cells task)) (is_earlier task.key) children
        (λ child follows sooner. follower_is_apart task acted child.key.prio child.body fit-task unthreatened follows (earlier_prio child.key task.key sooner) apart) follow;
    safe = put_all_passes is_no_threat (tasks_before task.key children) (before ++ after)
        (kept_gives (λ (child : Task). Follows c acted child.key.prio child.body) (λ (child : Task). is_no_threat child ≡ true) (is_earlier task.key) children (λ child follows sooner. no_threat child follows) follow)
        (list_all-append is_no_threat before after ∙ and_from (list_all is_no_threat before) (list_all is_no_threat after) parts.0 acted-parts.1);
  }
    where
      is_no_threat : Task → Bool
      is_no_threat other = not (threatens c task other)

      children : List Task
      children = children_from acted.key 0 (act_of c acted cells).children

      parts : (list_all is_no_threat before ≡ true) × (list_all is_no_threat (acted ∷ after) ≡ true)
      parts = and_parts (list_all is_no_threat before) (list_all is_no_threat (acted ∷ after)) (sym (list_all-append is_no_threat before (acted ∷ after)) ∙ safe)

      acted-parts : (is_no_threat acted ≡ true) × (list_all is_no_threat after ≡ true)
      acted-parts = and_parts (is_no_threat acted) (list_all is_no_threat after) parts.1

      unthreatened : threatens c task acted ≡ false
      unthreatened = not-true (threatens c task acted) acted-parts.0

      follow : AllByRecursion (λ child. Follows c acted child.key.prio child.body) children
      follow = children_follow acted 0 (act_of c acted cells).children (act_of-follows acted cells (All-middle (IsTaskOf (simulation c)) before acted after fit-others))

      no_threat : (child : Task) → Follows c acted child.key.prio child.body → is_no_threat child ≡ true
      no_threat child follows =
          not_from_false (threatens c task child)
          (false_from_ne_true (threatens c task child) (λ threat. false≢true (sym unthreatened ∙ threat_passed_on task acted child fit.deck follows threat)))

  pub safety_ignores_paths : SafetyIgnoresPaths (simulation c)
  safety_ignores_paths task earlier name has_name naming have_names fit-task fit-others = list_all-map (λ other. not (threatens c task other)) (renamed name) earlier

  pub paths_are_ignored : PathsAreIgnored (simulation c)
  paths_are_ignored = record { acts = acts_ignore_paths c; safety = safety_ignores_paths }

  pub are_lawful : IsLawful (simulation c)
  are_lawful = record {
    cells_are_counted = cells_are_counted c;
    sets_are_in_range = sets_are_in_range c;
    acts_are_fit = acts_are_fit c;
    sets_are_local = sets_are_local c;
    acts_are_local = acts_are_local c;
    children_come_no_earlier = children_come_no_earlier c;
    sets_stay_within = sets_stay_within c;
    walks_are_true = walks_are_true c;
    safe_alone = safe_alone;
    safe_tasks_stay_safe = safe_tasks_stay_safe;
  }
