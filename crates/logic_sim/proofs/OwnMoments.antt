-- The first tasks that write a signal's two locations tell the least moment of what is pending there.
use Rattle.std.proofs.Common.{◌≡◌, ◌≢◌, ◌∙◌, ℕ, ◌+◌, ◌*◌, ◌-◌, ◌<◌, ◌≤◌, Bool, true, false, List, [], ◌∷◌, Option, length, min, ap, sym, refl, subst, inl, inr, arith}
use Rattle.std.specs.Prelude.{◌==◌, ◌&&◌, ◌||◌, not, nat_lt, if◌then◌else◌}
use Rattle.std.specs.List.{AllByRecursion, filter, list_any}
use Rattle.std.specs.Ordering.{is_lt}
use Rattle.std.specs.declared.cmp.Ordering.TheVariants.{Less}
use Rattle.std.proofs.lemmas.Bool.{and_from, and_left, and_parts, cases_Bool, cases_lt, eq-eqb, eqb-true, false≢true, false_from_ne_true, le-ltb, lt-ltb, ltb-false, ltb-true, ne_eqb}
use Rattle.std.proofs.lemmas.Bool.Decides.{nat_tests}
use Rattle.plain_laws.specs.Bools.{same_tests}
use Rattle.plain_laws.specs.Lists.{none_from_all}
use Rattle.task_order.specs.declared.task.Body.{Body}
use Rattle.task_order.specs.declared.task.Task.{Task}
use Rattle.task_order.specs.Key.{key_cmp}
use Rattle.task_order.specs.TaskList.{IsAscending}
use Rattle.task_order.specs.KeyLaws.{earlier_prio}
use Rattle.rw_sets.specs.Accesses.{writes}
use Rattle.app_laws.specs.Applications.{AreFitTasks}
use Rattle.logic_sim.specs.Circuit.{IsFitTask}
use Rattle.logic_sim.specs.Conflicts.{change_writes, eval_writes}
use Rattle.logic_sim.specs.Distance.{moment_of}
use Rattle.logic_sim.specs.DistanceLaws.{any_alike}
use Rattle.logic_sim.specs.Event.{Simulation, change_kind, delay_of, plan_place, time_of, value_place}
use Rattle.logic_sim.specs.Horizon.{ArePending, IsLeast, comes_at, first_time, never}
use Rattle.logic_sim.specs.Lawful.{change_set-written, eval_set-written}
use Rattle.logic_sim.specs.Meaning.{change_set, eval_set, set_for, simulation}
use Rattle.logic_sim.specs.Safety.{moment-change, moment-plan}
use Rattle.logic_sim.proofs.Nearness.{any_or}

-- none of what is later has an earlier time
none_sooner : (w : Task → Bool) (task : Task) (others : List Task) (limit : ℕ) → AllByRecursion (λ other. key_cmp task.key other.key ≡ Less) others → limit ≤ time_of task.key.prio
    → AllByRecursion (λ other. (w other && nat_lt (time_of other.key.prio) limit) ≡ false) others
none_sooner w task [] limit later late = tt
none_sooner w task (other ∷ others) limit later late =
    let above = earlier_prio task.key other.key (ap is_lt later.0) in
    (both_false (w other) (nat_lt (time_of other.key.prio) limit) (le-ltb (time_of other.key.prio) limit (omega (arith, above, late))), none_sooner w task others limit later.1 late)
  where
    both_false : (a b : Bool) → b ≡ false → (a && b) ≡ false
    both_false true b fails = fails
    both_false false b fails = refl

-- the first of the tasks that pass a test tells the least time of all of them
pub first_tells : (w : Task → Bool) (tasks : List Task) (limit : ℕ) → IsAscending tasks → limit ≤ never → nat_lt (first_time (filter w tasks)) limit ≡ list_any (λ task. w task && nat_lt (time_of task.key.prio) limit) tasks
first_tells w [] limit ascending early = le-ltb never limit early
first_tells w (task ∷ tasks) limit ascending early = elim (cases_Bool (w task)) [
  | inl holds ↦ rw holds (with_first (nat_lt (time_of task.key.prio) limit) refl)
  | inr fails ↦ rw fails (first_tells w tasks limit ascending.1 early)
]
  where
    with_first : (b : Bool) → nat_lt (time_of task.key.prio) limit ≡ b → nat_lt (time_of task.key.prio) limit ≡ (nat_lt (time_of task.key.prio) limit || list_any (λ other. w other && nat_lt (time_of other.key.prio) limit) tasks)
    with_first true is = rw is refl
    with_first false is =
        let none = none_from_all (λ other. w other && nat_lt (time_of other.key.prio) limit) tasks (none_sooner w task tasks limit ascending.0 (ltb-false (time_of task.key.prio) limit is)) in
        rw (is, none) refl

-- a change writes its signal's value, and all else the plan
pub writes_value : (c : Simulation) (prio : ℕ) (body : Body) (signal : ℕ) → IsFitTask c prio body → writes (set_for c.deck body.kind body.at) (value_place signal) ≡ (body.kind == change_kind && body.at == signal)
writes_value c prio body signal (inl change) =
    subst (λ (kind : ℕ). writes (set_for c.deck kind body.at) (value_place signal) ≡ (kind == change_kind && body.at == signal)) (sym change.kind)
    (same_tests (writes (change_set body.at) (value_place signal)) (body.at == signal)
    (λ written. let is = change_writes body.at (value_place signal) written in eq-eqb body.at signal (omega (arith, is)))
    (λ same. subst (λ (s : ℕ). writes (change_set body.at) (value_place s) ≡ true) (eqb-true body.at signal same) (change_set-written body.at)))
writes_value c prio body signal (inr (inl eval)) =
    subst (λ (kind : ℕ). writes (set_for c.deck kind body.at) (value_place signal) ≡ (kind == change_kind && body.at == signal)) (sym eval.kind)
    (false_from_ne_true (writes (eval_set c.deck body.at) (value_place signal)) (λ written. let is = eval_writes c.deck body.at (value_place signal) written in absurd (omega (arith, is))))
writes_value c prio body signal (inr (inr tick)) =
    subst (λ (kind : ℕ). writes (set_for c.deck kind body.at) (value_place signal) ≡ (kind == change_kind && body.at == signal)) (sym tick.kind)
    (false_from_ne_true (writes (eval_set c.deck body.at) (value_place signal)) (λ written. let is = eval_writes c.deck body.at (value_place signal) written in absurd (omega (arith, is))))

plans_written : (c : Simulation) (gate signal : ℕ) → writes (eval_set c.deck gate) (plan_place signal) ≡ (gate == signal)
plans_written c gate signal =
    same_tests (writes (eval_set c.deck gate) (plan_place signal)) (gate == signal)
    (λ written. let is = eval_writes c.deck gate (plan_place signal) written in eq-eqb gate signal (omega (arith, is)))
    (λ same. subst (λ (s : ℕ). writes (eval_set c.deck gate) (plan_place s) ≡ true) (eqb-true gate signal same) (eval_set-written c gate))

pub writes_plan : (c : Simulation) (prio : ℕ) (body : Body) (signal : ℕ) → IsFitTask c prio body → writes (set_for c.deck body.kind body.at) (plan_place signal) ≡ (not (body.kind == change_kind) && body.at == signal)
writes_plan c prio body signal (inl change) =
    subst (λ (kind : ℕ). writes (set_for c.deck kind body.at) (plan_place signal) ≡ (not (kind == change_kind) && body.at == signal)) (sym change.kind)
    (false_from_ne_true (writes (change_set body.at) (plan_place signal)) (λ written. let is = change_writes body.at (plan_place signal) written in absurd (omega (arith, is))))
writes_plan c prio body signal (inr (inl eval)) =
    subst (λ (kind : ℕ). writes (set_for c.deck kind body.at) (plan_place signal) ≡ (not (kind == change_kind) && body.at == signal)) (sym eval.kind) (plans_written c body.at signal)
writes_plan c prio body signal (inr (inr tick)) =
    subst (λ (kind : ℕ). writes (set_for c.deck kind body.at) (plan_place signal) ≡ (not (kind == change_kind) && body.at == signal)) (sym tick.kind) (plans_written c body.at signal)

pub lt_min : (a b limit : ℕ) → nat_lt (min a b) limit ≡ (nat_lt a limit || nat_lt b limit)
lt_min a b limit = elim (cases_lt a limit) [
  | inl low ↦ lt-ltb (min a b) limit (omega (arith, low)) ∙ sym (ap (λ (t : Bool). t || nat_lt b limit) (lt-ltb a limit low))
  | inr high ↦ elim (cases_lt b limit) [
    | inl low ↦
        let one : nat_lt a limit ≡ false = le-ltb a limit high in
        let two : nat_lt b limit ≡ true = lt-ltb b limit low in
        lt-ltb (min a b) limit (omega (arith, low)) ∙ sym (rw (one, two) refl)
    | inr high-too ↦
        let one : nat_lt a limit ≡ false = le-ltb a limit high in
        let two : nat_lt b limit ≡ false = le-ltb b limit high-too in
        le-ltb (min a b) limit (omega (arith, high, high-too)) ∙ sym (rw (one, two) refl)
  ]
]

-- a sum that stays at the time of what never comes
pub lt_delayed : (a d limit : ℕ) → limit ≤ never → nat_lt (min (a + d) never) limit ≡ nat_lt a (limit - d)
lt_delayed a d limit early = elim (cases_lt a (limit - d)) [
  | inl low ↦ lt-ltb (min (a + d) never) limit (omega (arith, low, early)) ∙ sym (lt-ltb a (limit - d) low)
  | inr high ↦ le-ltb (min (a + d) never) limit (omega (arith, high, early)) ∙ sym (le-ltb a (limit - d) high)
]

-- tasks of one list, at each of which both tests answer the same
same_at_fit : (c : Simulation) (p q : Task → Bool) (tasks : List Task) → ((task : Task) → IsFitTask c task.key.prio task.body → p task ≡ q task) → AreFitTasks (simulation c) tasks → AllByRecursion (λ task. p task ≡ q task) tasks
same_at_fit c p q [] each fit = tt
same_at_fit c p q (task ∷ tasks) each fit = (each task fit.0, same_at_fit c p q tasks each fit.1)

pub any_at_fit : (c : Simulation) (p q : Task → Bool) (tasks : List Task) → ((task : Task) → IsFitTask c task.key.prio task.body → p task ≡ q task) → AreFitTasks (simulation c) tasks → list_any p tasks ≡ list_any q tasks
any_at_fit c p q tasks each fit = any_alike p q tasks (same_at_fit c p q tasks each fit)

-- a planned change of the signal, before the limit
pub plan_sooner : (c : Simulation) (task : Task) (signal limit : ℕ) → IsFitTask c task.key.prio task.body
    → (writes (set_for c.deck task.body.kind task.body.at) (plan_place signal) && nat_lt (time_of task.key.prio) (limit - delay_of c signal))
    ≡ (not (task.body.kind == change_kind) && task.body.at == signal && nat_lt (moment_of c task.key.prio task.body) limit)
plan_sooner c task signal limit fit =
    ap (λ (b : Bool). b && nat_lt (time_of task.key.prio) (limit - delay_of c signal)) (writes_plan c task.key.prio task.body signal fit)
    ∙ by_kind (task.body.kind == change_kind) refl (task.body.at == signal) refl
  where
    by_kind : (changes : Bool) → (task.body.kind == change_kind) ≡ changes → (here : Bool) → (task.body.at == signal) ≡ here
        → (not (task.body.kind == change_kind) && task.body.at == signal && nat_lt (time_of task.key.prio) (limit - delay_of c signal))
        ≡ (not (task.body.kind == change_kind) && task.body.at == signal && nat_lt (moment_of c task.key.prio task.body) limit)
    by_kind true is here at = rw is refl
    by_kind false is false at = rw (is, at) refl
    by_kind false is true at =
        let moment : moment_of c task.key.prio task.body ≡ time_of task.key.prio + delay_of c task.body.at = ap (λ (b : Bool). if b then time_of task.key.prio else time_of task.key.prio + delay_of c task.body.at) is in
        let delay : delay_of c task.body.at ≡ delay_of c signal = ap (delay_of c) (eqb-true task.body.at signal at) in
        let same : nat_lt (time_of task.key.prio) (limit - delay_of c signal) ≡ nat_lt (moment_of c task.key.prio task.body) limit =
        same_tests (nat_lt (time_of task.key.prio) (limit - delay_of c signal)) (nat_lt (moment_of c task.key.prio task.body) limit)
        (λ low. lt-ltb (moment_of c task.key.prio task.body) limit (omega (arith, moment, delay, ltb-true (time_of task.key.prio) (limit - delay_of c signal) low)))
        (λ low. lt-ltb (time_of task.key.prio) (limit - delay_of c signal) (omega (arith, moment, delay, ltb-true (moment_of c task.key.prio task.body) limit low))) in
        ap (λ (b : Bool). not (task.body.kind == change_kind) && task.body.at == signal && b) same

-- a change of the signal, before the limit
change_sooner : (c : Simulation) (task : Task) (signal limit : ℕ) → IsFitTask c task.key.prio task.body
    → (writes (set_for c.deck task.body.kind task.body.at) (value_place signal) && nat_lt (time_of task.key.prio) limit)
    ≡ (task.body.kind == change_kind && task.body.at == signal && nat_lt (moment_of c task.key.prio task.body) limit)
change_sooner c task signal limit fit =
    ap (λ (b : Bool). b && nat_lt (time_of task.key.prio) limit) (writes_value c task.key.prio task.body signal fit)
    ∙ by_kind (task.body.kind == change_kind) refl
  where
    by_kind : (changes : Bool) → (task.body.kind == change_kind) ≡ changes
        → (task.body.kind == change_kind && task.body.at == signal && nat_lt (time_of task.key.prio) limit)
        ≡ (task.body.kind == change_kind && task.body.at == signal && nat_lt (moment_of c task.key.prio task.body) limit)
    by_kind true is =
        let moment : moment_of c task.key.prio task.body ≡ time_of task.key.prio = ap (λ (b : Bool). if b then time_of task.key.prio else time_of task.key.prio + delay_of c task.body.at) is in
        ap (λ (m : ℕ). task.body.kind == change_kind && task.body.at == signal && nat_lt m limit) (sym moment)
    by_kind false is = rw is refl

either_kind : (changes here sooner : Bool) → (changes && here && sooner || (not changes && here && sooner)) ≡ (here && sooner)
either_kind true true true = refl
either_kind true true false = refl
either_kind true false sooner = refl
either_kind false here sooner = refl

module _ (c : Simulation) (tasks : List Task) (writers : ℕ → List Task) (pending : ArePending c tasks writers) where
  -- the first that plans a change of the signal
  pub plans_tell : (signal : ℕ) → IsLeast (min (first_time (writers (plan_place signal)) + delay_of c signal) never)
      (λ limit. list_any (λ task. not (task.body.kind == change_kind) && task.body.at == signal && nat_lt (moment_of c task.key.prio task.body) limit) tasks)
  plans_tell signal limit early =
      let w : Task → Bool = λ (task : Task). writes (set_for c.deck task.body.kind task.body.at) (plan_place signal) in
      lt_delayed (first_time (writers (plan_place signal))) (delay_of c signal) limit early
      ∙ ap (λ (found : List Task). nat_lt (first_time found) (limit - delay_of c signal)) (pending.listed (plan_place signal))
      ∙ first_tells w tasks (limit - delay_of c signal) pending.ascending (omega (arith, early))
      ∙ any_at_fit c (λ task. w task && nat_lt (time_of task.key.prio) (limit - delay_of c signal)) (λ task. not (task.body.kind == change_kind) && task.body.at == signal && nat_lt (moment_of c task.key.prio task.body) limit) tasks
      (λ task fits. plan_sooner c task signal limit fits) pending.fit

  -- what is pending at the signal
  pub own_moments_tell : (signal : ℕ) → IsLeast (min (first_time (writers (value_place signal))) (min (first_time (writers (plan_place signal)) + delay_of c signal) never)) (comes_at c tasks signal)
  own_moments_tell signal limit early =
      let w : Task → Bool = λ (task : Task). writes (set_for c.deck task.body.kind task.body.at) (value_place signal) in
      let changes : Task → Bool = λ (task : Task). task.body.kind == change_kind && task.body.at == signal && nat_lt (moment_of c task.key.prio task.body) limit in
      let plans : Task → Bool = λ (task : Task). not (task.body.kind == change_kind) && task.body.at == signal && nat_lt (moment_of c task.key.prio task.body) limit in
      let first : nat_lt (first_time (writers (value_place signal))) limit ≡ list_any changes tasks =
      ap (λ (found : List Task). nat_lt (first_time found) limit) (pending.listed (value_place signal)) ∙ first_tells w tasks limit pending.ascending early
      ∙ any_at_fit c (λ task. w task && nat_lt (time_of task.key.prio) limit) changes tasks (λ task fits. change_sooner c task signal limit fits) pending.fit in
      lt_min (first_time (writers (value_place signal))) (min (first_time (writers (plan_place signal)) + delay_of c signal) never) limit
      ∙ ap (λ (b : Bool). b || nat_lt (min (first_time (writers (plan_place signal)) + delay_of c signal) never) limit) first
      ∙ ap (λ (b : Bool). list_any changes tasks || b) (plans_tell signal limit early)
      ∙ sym (any_or changes plans tasks)
      ∙ any_at_fit c (λ task. changes task || plans task) (λ task. task.body.at == signal && nat_lt (moment_of c task.key.prio task.body) limit) tasks
      (λ task fits. either_kind (task.body.kind == change_kind) (task.body.at == signal) (nat_lt (moment_of c task.key.prio task.body) limit)) pending.fit
