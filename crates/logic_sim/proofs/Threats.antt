-- What the horizon tells of an event with which no earlier one conflicts: whether it is safe.
use Rattle.std.proofs.Common.{◌≡◌, ◌≢◌, ◌∙◌, ℕ, ◌+◌, ◌-◌, ◌*◌, ◌^◌, ◌<◌, ◌≤◌, ◌⊎◌, Bool, true, false, List, [], ◌∷◌, Some, None, slice_get, length, min, ap, sym, refl, subst, inl, inr, arith}
use Rattle.std.specs.Prelude.{◌==◌, ◌%◌, ◌&&◌, ◌||◌, not, nat_le, nat_lt, slice_index}
use Rattle.std.specs.List.{AllByRecursion, filter, list_all, list_any}
use Rattle.std.specs.Ordering.{is_lt}
use Rattle.std.specs.declared.cmp.Ordering.TheVariants.{Less}
use Rattle.std.proofs.lemmas.Bool.{and_from, and_parts, cases_Bool, eq-eqb, eqb-true, false≢true, false_from_ne_true, le-leb, le-ltb, leb-true, lt-ltb, ltb-true, or_from}
use Rattle.std.proofs.lemmas.Bool.Decides.{nat_tests}
use Rattle.plain_laws.specs.Bools.{and_false}
use Rattle.task_order.specs.KeyLaws.{earlier_prio, later_prio}
use Rattle.bench_reader.specs.Decks.{IsSoundlyWired}
use Rattle.bench_reader.specs.declared.deck.Form.{Form}
use Rattle.task_order.specs.declared.task.Body.{Body}
use Rattle.task_order.specs.declared.task.Task.{Task}
use Rattle.task_order.specs.Key.{key_cmp}
use Rattle.task_order.specs.TaskList.{IsAscending, is_earlier, tasks_before}
use Rattle.rw_sets.specs.Accesses.{Accesses, Conflicts}
use Rattle.app_laws.specs.Applications.{AreFitTasks}
use Rattle.logic_sim.specs.Circuit.{IsFitEval, IsFitTask, IsFitTick}
use Rattle.logic_sim.specs.Conflicts.{change_meets_change, change_meets_plan}
use Rattle.logic_sim.specs.Distance.{comes_to_change, comes_to_plan, drivers_of, is_safe, moment_of, reaches, reaches_any, threatens}
use Rattle.logic_sim.specs.DistanceLaws.{any_alike, any_gives, driven_later, each_of, leads_by_driver, leads_later, leads_no_further, listed_gives}
use Rattle.logic_sim.specs.Event.{Simulation, change_kind, delay_of, plan_place, time_of}
use Rattle.logic_sim.specs.Horizon.{AreSettled, ArePending, IsLeast, any_near, first_time, never}
use Rattle.logic_sim.specs.Lawful.{wired}
use Rattle.logic_sim.specs.Laws.{delays_are_positive, no_input_from_flip_flop, no_input_from_gate}
use Rattle.logic_sim.specs.Meaning.{change_set, eval_set, set_for, simulation}
use Rattle.logic_sim.specs.Safety.{moment-change, moment-plan, threat-change, threat-plan}
use Rattle.logic_sim.specs.Wiring.{fan_in_of, is_among, readers_of, signal_at}
use Rattle.logic_sim.proofs.Nearness.{any_kept, any_near_exact, any_or, any_swap, entry_exact, none_of_all}
use Rattle.logic_sim.proofs.OwnMoments.{lt_delayed, lt_min, plans_tell}

le_not : (a b : ℕ) → nat_le a b ≡ not (nat_lt b a)
le_not a b = grind (arith, nat_tests)

all_alike : (p q : ℕ → Bool) (xs : List ℕ) → ((x : ℕ) → p x ≡ q x) → list_all p xs ≡ list_all q xs
all_alike p q [] same = refl
all_alike p q (x ∷ xs) same = ap (λ (b : Bool). b && list_all p xs) (same x) ∙ ap (λ (b : Bool). q x && b) (all_alike p q xs same)

lt_not : (a b : ℕ) → nat_lt a b ≡ not (nat_lt b (a + 1))
lt_not a b = grind (arith, nat_tests)

-- what comes no sooner than a limit doesn't come before it
none_reaches : (c : Simulation) (prio : ℕ) (body : Body) (signals : List ℕ) (limit : ℕ) → limit ≤ moment_of c prio body → reaches_any c prio body signals limit ≡ false
none_reaches c prio body signals limit late =
    false_from_ne_true (reaches_any c prio body signals limit)
    (any_gives (λ signal. reaches c prio body signal limit) ⊥ signals (λ signal led. let sooner = leads_later limit c (moment_of c prio body) body.at signal limit led in absurd (omega (arith, sooner, late))))

module _ (c : Simulation) (sound : IsSoundlyWired c.deck) where
  -- what is no earlier than a priority has no earlier moment
  moment_after : (prio : ℕ) (body : Body) (from : ℕ) → from ≤ prio → time_of from ≤ moment_of c prio body
  moment_after prio body from later = by_kind (body.kind == change_kind) refl
    where
      by_kind : (changes : Bool) → (body.kind == change_kind) ≡ changes → time_of from ≤ moment_of c prio body
      by_kind true is = let at : moment_of c prio body ≡ time_of prio = moment-change c prio body (eqb-true body.kind change_kind is) in omega (arith, at, later)
      by_kind false is = let at : moment_of c prio body ≡ time_of prio + delay_of c body.at = moment-plan c prio body (λ e. false≢true (sym is ∙ eq-eqb body.kind change_kind e)) in omega (arith, at, later)

  -- an evaluation or a tick changes its signal later than at its time
  plan_beyond : (prio : ℕ) (body : Body) (from : ℕ) → IsFitTask c prio body → body.kind ≢ change_kind → from ≤ prio → time_of from + 1 ≤ moment_of c prio body
  plan_beyond prio body from (inl change) differs later = absurd (differs change.kind)
  plan_beyond prio body from (inr (inl eval)) differs later =
      let at = moment-plan c prio body differs in
      let some = delays_are_positive c body.at sound eval.in_range (no_input_from_gate (signal_at c.deck.signals body.at).form eval.at_gate) in
      omega (arith, at, some, later)
  plan_beyond prio body from (inr (inr tick)) differs later =
      let at = moment-plan c prio body differs in
      let some = delays_are_positive c body.at sound tick.in_range (no_input_from_flip_flop (signal_at c.deck.signals body.at).form tick.at_flip_flop) in
      omega (arith, at, some, later)

  -- and so is all that is later than an evaluation or a tick
  moment_beyond : (prio : ℕ) (body : Body) (from : ℕ) → IsFitTask c prio body → from % 2 ≡ 1 → from ≤ prio → time_of from + 1 ≤ moment_of c prio body
  moment_beyond prio body from (inl change) odd later = let at = moment-change c prio body change.kind in omega (arith, at, change.even, odd, later)
  moment_beyond prio body from (inr (inl eval)) odd later = plan_beyond prio body from (inr (inl eval)) (λ is. omega (arith, is, eval.kind)) later
  moment_beyond prio body from (inr (inr tick)) odd later = plan_beyond prio body from (inr (inr tick)) (λ is. omega (arith, is, tick.kind)) later

pub fit_before : (c : Simulation) (p : Task → Bool) (others : List Task) → AreFitTasks (simulation c) others → AreFitTasks (simulation c) (filter p others)
fit_before c p [] fit = tt
fit_before c p (other ∷ others) fit = elim (cases_Bool (p other)) [
  | inl holds ↦ rw holds (fit.0, fit_before c p others fit.1)
  | inr fails ↦ rw fails (fit_before c p others fit.1)
]

module _ (c : Simulation) (near entries : List ℕ) (tasks : List Task) (writers : ℕ → List Task) (sound : IsSoundlyWired c.deck) (pending : ArePending c tasks writers) (settled : AreSettled c near entries tasks) (task : Task) where
  -- what threatens an evaluation or a tick is told by the times of what it reads
  pub plan_told : (least : ℕ) → task.body.kind ≢ change_kind → task.key.prio % 2 ≡ 1 → task.body.at < length c.deck.signals → task.key.prio < 2 ^ 64
      → IsLeast least (any_near near (fan_in_of (signal_at c.deck.signals task.body.at).form)) → nat_lt (time_of task.key.prio) least ≡ is_safe c task (tasks_before task.key tasks)
  plan_told least differs odd below small least-is =
      let time : ℕ = time_of task.key.prio in
      let fan_in : List ℕ = fan_in_of (signal_at c.deck.signals task.body.at).form in
      lt_not time least
      ∙ ap not (least-is (time + 1) (omega (arith, small))
      ∙ any_near_exact c near entries tasks sound settled fan_in (time + 1) (omega (arith, small)) (wired c task.body.at sound below)
      ∙ any_kept (λ other. comes_to_plan c other.key.prio other.body task.body.at time) (is_earlier task.key) (λ (other : Task). IsFitTask c other.key.prio other.body) tasks
      (λ other fit later. none_reaches c other.key.prio other.body fan_in (time + 1) (moment_beyond c sound other.key.prio other.body task.key.prio fit odd (later_prio other.key task.key later))) pending.fit
      ∙ sym (any_alike (threatens c task) (λ other. comes_to_plan c other.key.prio other.body task.body.at time) (tasks_before task.key tasks)
      (each_of (λ (other : Task). threatens c task other ≡ comes_to_plan c other.key.prio other.body task.body.at time) (tasks_before task.key tasks) (λ other. threat-plan c task other differs))))
      ∙ sym (none_of_all (threatens c task) (tasks_before task.key tasks))

  -- what may change the signal of a change that is none itself, or one of the signals that drive what it drives
  abbrev plans_here : Task → Bool
  plans_here other = not (other.body.kind == change_kind) && other.body.at == task.body.at && nat_lt (moment_of c other.key.prio other.body) (time_of task.key.prio + 1)

  abbrev is_driven_here : Task → Bool
  is_driven_here other = reaches_any c other.key.prio other.body (drivers_of c task.body.at) (time_of task.key.prio + 1 - delay_of c task.body.at)

  abbrev comes_to_gates : Task → Bool
  comes_to_gates other = list_any (λ gate. reaches_any c other.key.prio other.body (drivers_of c gate) (time_of task.key.prio)) (readers_of c.deck.signals task.body.at)

  abbrev is_threat : Task → Bool
  is_threat other = plans_here other || is_driven_here other || comes_to_gates other

  -- no later event is one
  later_is_none : (other : Task) → IsFitTask c other.key.prio other.body → is_earlier task.key other ≡ false → is_threat other ≡ false
  later_is_none other fit later =
      or_from (plans_here other || is_driven_here other) (comes_to_gates other)
      (or_from (plans_here other) (is_driven_here other) no_plan not_driven)
      (false_from_ne_true (comes_to_gates other) (any_gives (λ gate. reaches_any c other.key.prio other.body (drivers_of c gate) time) ⊥ (readers_of c.deck.signals task.body.at)
      (λ gate comes. false≢true (sym (none_reaches c other.key.prio other.body (drivers_of c gate) time after) ∙ comes))))
    where
      time : ℕ
      time = time_of task.key.prio

      from : task.key.prio ≤ other.key.prio
      from = later_prio other.key task.key later

      after : time_of task.key.prio ≤ moment_of c other.key.prio other.body
      after = moment_after c sound other.key.prio other.body task.key.prio from

      no_plan : plans_here other ≡ false
      no_plan = by_kind (other.body.kind == change_kind) refl
        where
          by_kind : (changes : Bool) → (other.body.kind == change_kind) ≡ changes → plans_here other ≡ false
          by_kind true is = rw is refl
          by_kind false is =
              let beyond = plan_beyond c sound other.key.prio other.body task.key.prio fit (λ e. false≢true (sym is ∙ eq-eqb other.body.kind change_kind e)) from in
              let late : nat_lt (moment_of c other.key.prio other.body) (time_of task.key.prio + 1) ≡ false = le-ltb (moment_of c other.key.prio other.body) (time_of task.key.prio + 1) beyond in
              ap (λ (b : Bool). not (other.body.kind == change_kind) && other.body.at == task.body.at && b) late ∙ and_false (not (other.body.kind == change_kind) && other.body.at == task.body.at)

      not_driven : is_driven_here other ≡ false
      not_driven = false_from_ne_true (is_driven_here other) (λ driven.
          let some = driven_later c task.body.at (λ driver. reaches c other.key.prio other.body driver (time_of task.key.prio + 1 - delay_of c task.body.at)) sound driven in
          false≢true (sym (none_reaches c other.key.prio other.body (drivers_of c task.body.at) (time_of task.key.prio + 1 - delay_of c task.body.at) (omega (arith, after, some))) ∙ driven))

  -- an earlier event that doesn't conflict threatens a change exactly so
  threat_is : (other : Task) → IsFitTask c other.key.prio other.body → task.body.kind ≡ change_kind → ¬ Conflicts (set_for c.deck other.body.kind other.body.at) (set_for c.deck task.body.kind task.body.at)
      → is_threat other ≡ threatens c task other
  threat_is other fit kind apart =
      ap (λ (b : Bool). b || is_driven_here other || comes_to_gates other) (by_kind (other.body.kind == change_kind) refl)
      ∙ sym (ap (λ (b : Bool). b || comes_to_gates other) (leads_by_driver c (moment_of c other.key.prio other.body) other.body.at task.body.at (time_of task.key.prio + 1) sound))
      ∙ sym (threat-change c task other kind)
    where
      soon : Bool
      soon = nat_lt (moment_of c other.key.prio other.body) (time_of task.key.prio + 1)

      by_kind : (changes : Bool) → (other.body.kind == change_kind) ≡ changes → (not (other.body.kind == change_kind) && other.body.at == task.body.at && nat_lt (moment_of c other.key.prio other.body) (time_of task.key.prio + 1))
          ≡ (other.body.at == task.body.at && nat_lt (moment_of c other.key.prio other.body) (time_of task.key.prio + 1))
      by_kind false is = rw is refl
      by_kind true is =
          let differs : (other.body.at == task.body.at) ≡ false = false_from_ne_true (other.body.at == task.body.at) (λ same. apart (meets (eqb-true other.body.kind change_kind is) (eqb-true other.body.at task.body.at same))) in
          rw (is, differs) refl
        where
          meets : other.body.kind ≡ change_kind → other.body.at ≡ task.body.at → Conflicts (set_for c.deck other.body.kind other.body.at) (set_for c.deck task.body.kind task.body.at)
          meets changes same =
              subst (λ (k : ℕ). Conflicts (set_for c.deck other.body.kind other.body.at) (set_for c.deck k task.body.at)) (sym kind)
              (subst (λ (k : ℕ). Conflicts (set_for c.deck k other.body.at) (change_set task.body.at)) (sym changes)
              (subst (λ (at : ℕ). Conflicts (change_set at) (change_set task.body.at)) (sym same) (change_meets_change task.body.at)))

  threats_are : (others : List Task) → AreFitTasks (simulation c) others → task.body.kind ≡ change_kind
      → AllByRecursion (λ other. ¬ Conflicts (set_for c.deck other.body.kind other.body.at) (set_for c.deck task.body.kind task.body.at)) others → AllByRecursion (λ other. is_threat other ≡ threatens c task other) others
  threats_are [] fit kind apart = tt
  threats_are (other ∷ others) fit kind apart = (threat_is other fit.0 kind apart.0, threats_are others fit.1 kind apart.1)

  -- what threatens a change is told by the plans and the drivers of its signal, and by what the gates that it drives read
  pub change_told : (plan driven : ℕ) (come_later : Bool) → task.body.kind ≡ change_kind → task.body.at < length c.deck.signals → task.key.prio < 2 ^ 64
      → AllByRecursion (λ other. ¬ Conflicts (set_for c.deck other.body.kind other.body.at) (set_for c.deck task.body.kind task.body.at)) (tasks_before task.key tasks)
      → AllByRecursion (λ gate. gate < length c.deck.signals) (readers_of c.deck.signals task.body.at)
      → plan ≡ min (first_time (writers (plan_place task.body.at)) + delay_of c task.body.at) never → driven ≡ min (slice_index entries task.body.at + delay_of c task.body.at) never
      → come_later ≡ list_all (λ gate. nat_le (time_of task.key.prio) (slice_index entries gate)) (readers_of c.deck.signals task.body.at)
      → (nat_lt (time_of task.key.prio) (min plan driven) && come_later) ≡ is_safe c task (tasks_before task.key tasks)
  change_told plan driven come_later kind below small apart readers plan-is driven-is come-is =
      let time : ℕ = time_of task.key.prio in
      let early : time + 1 ≤ never = omega (arith, small) in
      let one : nat_lt plan (time + 1) ≡ list_any plans_here tasks = ap (λ (n : ℕ). nat_lt n (time + 1)) plan-is ∙ plans_tell c tasks writers pending task.body.at (time + 1) early in
      let two : nat_lt driven (time + 1) ≡ list_any is_driven_here tasks =
      ap (λ (n : ℕ). nat_lt n (time + 1)) driven-is ∙ lt_delayed (slice_index entries task.body.at) (delay_of c task.body.at) (time + 1) early
      ∙ entry_exact c near entries tasks sound settled task.body.at (time + 1 - delay_of c task.body.at) (omega (arith, early)) below in
      let three : come_later ≡ not (list_any comes_to_gates tasks) = come-is ∙ all_alike (λ gate. nat_le time (slice_index entries gate)) (λ gate. not (nat_lt (slice_index entries gate) time)) (readers_of c.deck.signals task.body.at) (λ gate. le_not time (slice_index entries gate))
      ∙ none_of_all (λ gate. nat_lt (slice_index entries gate) time) (readers_of c.deck.signals task.body.at)
      ∙ ap not (any_alike (λ gate. nat_lt (slice_index entries gate) time) (λ gate. list_any (λ other. reaches_any c other.key.prio other.body (drivers_of c gate) time) tasks) (readers_of c.deck.signals task.body.at)
      (gates_told (readers_of c.deck.signals task.body.at) readers)
      ∙ any_swap (λ (gate : ℕ) (other : Task). reaches_any c other.key.prio other.body (drivers_of c gate) time) (readers_of c.deck.signals task.body.at) tasks) in
      let soon : nat_lt time (min plan driven) ≡ not (list_any (λ other. plans_here other || is_driven_here other) tasks) =
      lt_not time (min plan driven) ∙ ap not (lt_min plan driven (time + 1) ∙ ap (λ (b : Bool). b || nat_lt driven (time + 1)) one ∙ ap (λ (b : Bool). list_any plans_here tasks || b) two ∙ sym (any_or plans_here is_driven_here tasks)) in
      ap (λ (b : Bool). b && come_later) soon ∙ ap (λ (b : Bool). not (list_any (λ other. plans_here other || is_driven_here other) tasks) && b) three
      ∙ neither (list_any (λ other. plans_here other || is_driven_here other) tasks) (list_any comes_to_gates tasks)
      ∙ ap not (sym (any_or (λ other. plans_here other || is_driven_here other) comes_to_gates tasks)
      ∙ any_kept is_threat (is_earlier task.key) (λ (other : Task). IsFitTask c other.key.prio other.body) tasks (λ other fit later. later_is_none other fit later) pending.fit
      ∙ any_alike is_threat (threatens c task) (tasks_before task.key tasks) (threats_are (tasks_before task.key tasks) (fit_before c (is_earlier task.key) tasks pending.fit) kind apart))
      ∙ sym (none_of_all (threatens c task) (tasks_before task.key tasks))
    where
      neither : (a b : Bool) → (not a && not b) ≡ not (a || b)
      neither true b = refl
      neither false b = refl

      gates_told : (gates : List ℕ) → AllByRecursion (λ gate. gate < length c.deck.signals) gates
          → AllByRecursion (λ gate. nat_lt (slice_index entries gate) (time_of task.key.prio) ≡ list_any (λ other. reaches_any c other.key.prio other.body (drivers_of c gate) (time_of task.key.prio)) tasks) gates
      gates_told [] inside = tt
      gates_told (gate ∷ gates) inside = (entry_exact c near entries tasks sound settled gate (time_of task.key.prio) (omega (arith, small)) inside.0, gates_told gates inside.1)

-- at one time, what comes to a signal at once is a change of that signal
module _ (c : Simulation) (sound : IsSoundlyWired c.deck) (task : Task) where
  comes_at_once : (other : Task) → IsFitTask c other.key.prio other.body → time_of task.key.prio ≤ time_of other.key.prio → (to : ℕ) → reaches c other.key.prio other.body to (time_of task.key.prio + 1) ≡ true
      → (other.body.kind ≡ change_kind) × (other.body.at ≡ to)
  comes_at_once other (inl change) late to led =
      let at = moment-change c other.key.prio other.body change.kind in
      (change.kind, leads_no_further (time_of task.key.prio + 1) c (moment_of c other.key.prio other.body) other.body.at to (time_of task.key.prio + 1) sound (omega (arith, at, late)) led)
  comes_at_once other (inr plan) late to led =
      let beyond = plan_beyond c sound other.key.prio other.body other.key.prio (inr plan) (plans plan) (omega arith) in
      let sooner = leads_later (time_of task.key.prio + 1) c (moment_of c other.key.prio other.body) other.body.at to (time_of task.key.prio + 1) led in
      absurd (omega (arith, beyond, sooner, late))
    where
      plans : IsFitEval c other.key.prio other.body ⊎ IsFitTick c other.key.prio other.body → other.body.kind ≢ change_kind
      plans (inl eval) is = omega (arith, is, eval.kind)
      plans (inr tick) is = omega (arith, is, tick.kind)

  sets_are : (kind one at : ℕ) → kind ≡ one → (set other : Accesses) → set ≡ other → Conflicts (set_for c.deck one at) other → Conflicts (set_for c.deck kind at) set
  sets_are kind one at is set other same conflict =
      subst (λ (k : ℕ). Conflicts (set_for c.deck k at) set) (sym is) (subst (λ (accesses : Accesses). Conflicts (set_for c.deck one at) accesses) (sym same) conflict)

  plan_is_safe : (other : Task) → IsFitTask c other.key.prio other.body → task.body.kind ≢ change_kind → set_for c.deck task.body.kind task.body.at ≡ eval_set c.deck task.body.at
      → time_of task.key.prio ≤ time_of other.key.prio → ¬ Conflicts (set_for c.deck other.body.kind other.body.at) (set_for c.deck task.body.kind task.body.at) → threatens c task other ≡ false
  plan_is_safe other fit differs set late apart =
      threat-plan c task other differs
      ∙ false_from_ne_true (comes_to_plan c other.key.prio other.body task.body.at (time_of task.key.prio)) (λ comes.
      listed_gives (λ signal. reaches c other.key.prio other.body signal (time_of task.key.prio + 1)) ⊥ (fan_in_of (signal_at c.deck.signals task.body.at).form)
      (λ signal among led. let at = comes_at_once other fit late signal led in
      apart (sets_are other.body.kind 0 other.body.at at.0 (set_for c.deck task.body.kind task.body.at) (eval_set c.deck task.body.at) set
      (change_meets_plan c other.body.at task.body.at (subst (λ (s : ℕ). is_among (fan_in_of (signal_at c.deck.signals task.body.at).form) s ≡ true) (sym at.1) among)))) comes)

  no_threat_now : (other : Task) → IsFitTask c other.key.prio other.body → IsFitTask c task.key.prio task.body → time_of task.key.prio ≤ time_of other.key.prio
      → ¬ Conflicts (set_for c.deck other.body.kind other.body.at) (set_for c.deck task.body.kind task.body.at) → threatens c task other ≡ false
  no_threat_now other fit (inl change) late apart =
      let time : ℕ = time_of task.key.prio in
      let after = moment_after c sound other.key.prio other.body other.key.prio (omega arith) in
      threat-change c task other change.kind
      ∙ or_from (reaches c other.key.prio other.body task.body.at (time + 1)) (list_any (λ gate. reaches_any c other.key.prio other.body (drivers_of c gate) time) (readers_of c.deck.signals task.body.at))
      (false_from_ne_true (reaches c other.key.prio other.body task.body.at (time + 1)) (λ led. let at = comes_at_once other fit late task.body.at led in
      apart (sets_are other.body.kind 0 other.body.at at.0 (set_for c.deck task.body.kind task.body.at) (change_set task.body.at) (ap (λ (k : ℕ). set_for c.deck k task.body.at) change.kind)
      (subst (λ (s : ℕ). Conflicts (change_set s) (change_set task.body.at)) (sym at.1) (change_meets_change task.body.at)))))
      (false_from_ne_true (list_any (λ gate. reaches_any c other.key.prio other.body (drivers_of c gate) time) (readers_of c.deck.signals task.body.at))
      (any_gives (λ gate. reaches_any c other.key.prio other.body (drivers_of c gate) time) ⊥ (readers_of c.deck.signals task.body.at)
      (λ gate comes. false≢true (sym (none_reaches c other.key.prio other.body (drivers_of c gate) time (omega (arith, after, late))) ∙ comes))))
  no_threat_now other fit (inr (inl eval)) late apart = plan_is_safe other fit (λ is. omega (arith, is, eval.kind)) (ap (λ (k : ℕ). set_for c.deck k task.body.at) eval.kind) late apart
  no_threat_now other fit (inr (inr tick)) late apart = plan_is_safe other fit (λ is. omega (arith, is, tick.kind)) (ap (λ (k : ℕ). set_for c.deck k task.body.at) tick.kind) late apart

  -- at the time of the earliest event, none of the others threatens one with which none of them conflicts
  pub first_are_safe : (others : List Task) → AreFitTasks (simulation c) others → IsFitTask c task.key.prio task.body → AllByRecursion (λ other. time_of task.key.prio ≤ time_of other.key.prio) others
      → AllByRecursion (λ other. ¬ Conflicts (set_for c.deck other.body.kind other.body.at) (set_for c.deck task.body.kind task.body.at)) others → true ≡ is_safe c task others
  first_are_safe [] fit fit-task late apart = refl
  first_are_safe (other ∷ others) fit fit-task late apart =
      let here : threatens c task other ≡ false = no_threat_now other fit.0 fit-task late.0 apart.0 in
      first_are_safe others fit.1 fit-task late.1 apart.1 ∙ sym (ap (λ (b : Bool). not b && is_safe c task others) here)

-- what holds of the places of fit events
pub fit_in_range : (c : Simulation) (prio : ℕ) (body : Body) → IsFitTask c prio body → body.at < length c.deck.signals
fit_in_range c prio body (inl change) = change.at_signal
fit_in_range c prio body (inr (inl eval)) = eval.in_range
fit_in_range c prio body (inr (inr tick)) = tick.in_range

pub plan_is_odd : (c : Simulation) (prio : ℕ) (body : Body) → IsFitTask c prio body → body.kind ≢ change_kind → prio % 2 ≡ 1
plan_is_odd c prio body (inl change) differs = absurd (differs change.kind)
plan_is_odd c prio body (inr (inl eval)) differs = eval.odd
plan_is_odd c prio body (inr (inr tick)) differs = tick.odd

-- whether no task has an earlier time
abbrev pub none_before : ℕ → List Task → Bool
none_before time tasks = list_all (λ other. nat_le time (time_of other.key.prio)) tasks

later_too : (time : ℕ) (first : Task) (others : List Task) → AllByRecursion (λ other. key_cmp first.key other.key ≡ Less) others → time ≤ time_of first.key.prio → none_before time others ≡ true
later_too time first [] later late = refl
later_too time first (other ∷ others) later late =
    let above = earlier_prio first.key other.key (ap is_lt later.0) in
    and_from (nat_le time (time_of other.key.prio)) (none_before time others) (le-leb time (time_of other.key.prio) (omega (arith, above, late))) (later_too time first others later.1 late)

first_decides : (time : ℕ) (first : Task) (others : List Task) → IsAscending (first ∷ others) → nat_le time (time_of first.key.prio) ≡ none_before time (first ∷ others)
first_decides time first others ascending = by_test (nat_le time (time_of first.key.prio)) refl
  where
    by_test : (b : Bool) → nat_le time (time_of first.key.prio) ≡ b → nat_le time (time_of first.key.prio) ≡ none_before time (first ∷ others)
    by_test true is = is ∙ sym (and_from (nat_le time (time_of first.key.prio)) (none_before time others) is (later_too time first others ascending.0 (leb-true time (time_of first.key.prio) is)))
    by_test false is = is ∙ sym (ap (λ (b : Bool). b && none_before time others) is)

-- the earliest of the tasks decides
pub earliest_decides : (time : ℕ) (first : Task) (tasks : List Task) → IsAscending tasks → Some first ≡ slice_get tasks 0 → nat_le time (time_of first.key.prio) ≡ none_before time tasks
earliest_decides time first [] ascending is = absurd (cc)
earliest_decides time first (other ∷ others) ascending is =
    let same : first ≡ other = cc in
    subst (λ (task : Task). nat_le time (time_of task.key.prio) ≡ none_before time (other ∷ others)) (sym same) (first_decides time other others ascending)

pub none_is_before : (time : ℕ) (tasks : List Task) → None ≡ slice_get tasks 0 → true ≡ none_before time tasks
none_is_before time [] is = refl
none_is_before time (other ∷ others) is = absurd (cc)

-- what holds of all of them holds of those that are earlier than the task
pub late_before : (time : ℕ) (p : Task → Bool) (tasks : List Task) → none_before time tasks ≡ true → AllByRecursion (λ other. time ≤ time_of other.key.prio) (filter p tasks)
late_before time p [] late = tt
late_before time p (other ∷ others) late =
    let parts = and_parts (nat_le time (time_of other.key.prio)) (none_before time others) late in
    elim (cases_Bool (p other)) [
      | inl holds ↦ rw holds (leb-true time (time_of other.key.prio) parts.0, late_before time p others parts.1)
      | inr fails ↦ rw fails (late_before time p others parts.1)
    ]
