-- The laws of circuits as ordered applications.
use Rattle.std.specs.Prelude.{◌≡◌, ◌≢◌, ℕ, zero, suc, ◌*◌, ◌==◌, ◌<◌, Bool, true, false, List, [], ◌∷◌, ◌++◌, length, map, slice_get, slice_index, slice_set, Contains, Some, IsSome, IsFalse, IsTrue, if◌then◌else◌, refl}
use Rattle.std.specs.Fmt.{decimal}
use Rattle.std.specs.List.{AllByRecursion, list_all}
use Rattle.std.specs.Ordering.{nat_cmp}
use Rattle.std.specs.declared.cmp.Ordering.TheVariants.{Greater}
use Rattle.std.proofs.Common.{arith, inl, inr, sym, ap, ◌∙◌, subst}
use Rattle.std.proofs.lemmas.Bool.{cases_eq, eqb-true, false≢true, and_parts, and_from}
use Rattle.std.proofs.lemmas.Bool.Decides.{nat_tests}
use Rattle.std.proofs.lemmas.List.Elements.{All-get_or, recursion_from_All}
use Rattle.std.proofs.lemmas.List.Folds.{list_all-append, list_all-map}
use Rattle.std.proofs.lemmas.Option.{slice_get-get_or, same_Some}
use Rattle.plain_laws.specs.Lists.{get-set_same, get-set_other}
use Rattle.app_laws.specs.LineLaws.{whole_behind}
use Rattle.bench_reader.specs.Decks.{IsSoundlyWired, IsWired}
use Rattle.bench_reader.specs.declared.deck.Form.{Form}
use Rattle.bench_reader.specs.declared.deck.Form.TheVariants.{Input, Gate, Dff}
use Rattle.task_order.specs.declared.key.Key.{Key}
use Rattle.task_order.specs.declared.start.Start.{Start}
use Rattle.task_order.specs.declared.task.Task.{Task}
use Rattle.rw_sets.specs.declared.access.Access.{Access}
use Rattle.rw_sets.specs.declared.access.Access.TheVariants.{Read, Write}
use Rattle.rw_sets.specs.Accesses.{Accesses, IsAscending, access_at, allows_write, writes}
use Rattle.rw_sets.specs.AccessLaws.{access_first, access_other, ascending_cons, ascending_none}
use Rattle.rw_sets.specs.LookupLaws.{merges_hold_both}
use Rattle.rw_sets.specs.MergeLaws.{ascending_merged}
use Rattle.rw_sets.specs.PairLaws.{contains_later, pairs_are_named, pairs_are_written}
use Rattle.app_laws.specs.Applications.{AgreeOn, IsFitTask as IsTaskOf, IsInRange, IsWholeLines, set_in, tasks_before, CellsAreCounted, SetsAreInRange, ActsAreFit, SetsAreLocal, IsSameOutcome, ActsAreLocal, ActsIgnorePaths, ChildrenComeNoEarlier, SetsStayWithin, WalksAreTrue, FixedSetsAreKnown, IsSafeAlone, SafeTasksStaySafe, SafetyIgnoresPaths, IsLawful, PathsAreIgnored}
use Rattle.app_laws.specs.Execution.{Outcome, children_from}
use Rattle.app_laws.specs.Names.{renamed}
use Rattle.logic_sim.specs.Circuit.{IsFitCells, IsFitTask}
use Rattle.logic_sim.specs.Event.{Simulation, change_line, change_of, computed_by, eval_at, eval_of, event_of, next_changes, next_ticks, nothing_done, plan_in, plan_of, plan_place, tick_of, time_of, value_in, value_place, with_more}
use Rattle.logic_sim.specs.Gate.{gate_value}
use Rattle.logic_sim.specs.Laws.{AllLater, act_of-fit, act_of-later, act_of-not_earlier, either}
use Rattle.logic_sim.specs.Meaning.{change_set, eval_accesses, eval_set, set_for, simulation}
use Rattle.logic_sim.specs.Wiring.{fan_in_of, is_among, readers_of, signal_at}

-- a fact of each pair of a list holds of a listed one
of_listed : (P : ℕ × Access → Type 0) (pairs : Accesses) (p : ℕ × Access) → AllByRecursion P pairs → Contains pairs p → P p
of_listed P [] p all (k, lt, e) = absurd (omega arith)
of_listed P (q ∷ qs) p all (zero, lt, e) = subst P e all.0
of_listed P (q ∷ qs) p all (suc k, lt, e) = of_listed P qs p all.1 (k, omega arith, e)

pub plan_listed : (fan_in : List ℕ) (gate : ℕ) → Contains (eval_accesses fan_in gate) (plan_place gate, Write)
plan_listed [] gate = (0, omega arith, refl)
plan_listed (signal ∷ fan_in) gate = contains_later (value_place signal, Read) (eval_accesses fan_in gate) (plan_place gate, Write) (plan_listed fan_in gate)

-- the set of a change, by locations
pub changed_is : (signal loc : ℕ) → IsSome (access_at (change_set signal) loc) → value_place signal ≡ loc
changed_is signal loc named = elim (cases_eq (value_place signal) loc) [
  | inl is ↦ is
  | inr differs ↦ absurd (false≢true (rw (access_other (value_place signal, Write) [] loc differs) at named))
]

pub change_set-named : (signal : ℕ) → IsSome (access_at (change_set signal) (value_place signal))
change_set-named signal = rw (access_first (value_place signal, Write) [] (value_place signal) refl) refl

pub change_set-written : (signal : ℕ) → IsTrue (writes (change_set signal) (value_place signal))
change_set-written signal = ap allows_write (access_first (value_place signal, Write) [] (value_place signal) refl)

pub change_set-ascending : (signal : ℕ) → IsAscending (change_set signal)
change_set-ascending signal = ascending_cons (value_place signal, Write) [] tt ascending_none

get-set_alike : (cells others : List ℕ) (place loc value : ℕ) → place < length cells → place < length others →
    slice_get cells loc ≡ slice_get others loc → slice_get (slice_set cells place value) loc ≡ slice_get (slice_set others place value) loc
get-set_alike cells others place loc value below below-others same = elim (cases_eq loc place) [
  | inl is ↦
      subst (λ l. slice_get (slice_set cells place value) l ≡ slice_get (slice_set others place value) l) (sym is)
      (get-set_same cells place value below ∙ sym (get-set_same others place value below-others))
  | inr differs ↦ get-set_other cells place loc value differs ∙ same ∙ sym (get-set_other others place loc value differs)
]

same_index : (cells others : List ℕ) (loc : ℕ) → loc < length cells → loc < length others → slice_get cells loc ≡ slice_get others loc → slice_index cells loc ≡ slice_index others loc
same_index cells others loc below below-others same =
    same_Some (slice_index cells loc) (slice_index others loc) (sym (slice_get-get_or cells loc 0 below) ∙ same ∙ slice_get-get_or others loc 0 below-others)

-- one place is given a value, unless there is nothing to do
abbrev updated : Bool → ℕ → ℕ → List Start → List ℕ → List ℕ → Outcome ℕ
updated idle place value children text cells = if idle then nothing_done cells else record { cells = slice_set cells place value; children = children; text = text }

updated-elsewhere : (idle : Bool) (place value : ℕ) (children : List Start) (text cells : List ℕ) (loc : ℕ) → loc ≢ place →
    slice_get (updated idle place value children text cells).cells loc ≡ slice_get cells loc
updated-elsewhere true place value children text cells loc differs = refl
updated-elsewhere false place value children text cells loc differs = get-set_other cells place loc value differs

module _ (c : Simulation) where
  updated-alike : (set : Accesses) (idle : Bool) (place value : ℕ) (children : List Start) (text cells others : List ℕ) → place < length cells → place < length others → AgreeOn set cells others →
      IsSameOutcome (simulation c) set (updated idle place value children text cells) (updated idle place value children text others)
  updated-alike set true place value children text cells others below below-others agree = record { cells = agree; children = refl; text = refl }
  updated-alike set false place value children text cells others below below-others agree = record {
    cells = λ loc named. get-set_alike cells others place loc value below below-others (agree loc named);
    children = refl;
    text = refl;
  }

  -- the fan-ins of a circuit's gate are its signals
  pub wired : (gate : ℕ) → IsSoundlyWired c.deck → gate < length c.deck.signals → AllByRecursion (λ signal. signal < length c.deck.signals) (fan_in_of (signal_at c.deck.signals gate).form)
  wired gate sound below = known (signal_at c.deck.signals gate).form (All-get_or (λ signal. IsWired (length c.deck.signals) signal.form) c.deck.signals gate _ below sound.wired)
    where
      known : (form : Form) → IsWired (length c.deck.signals) form → AllByRecursion (λ signal. signal < length c.deck.signals) (fan_in_of form)
      known Input is = tt
      known (Gate kind fan_in) is = recursion_from_All _ fan_in is.1
      known (Dff source) is = (is, tt)

  accesses_in_range : (fan_in : List ℕ) (gate : ℕ) → gate < length c.deck.signals → AllByRecursion (λ signal. signal < length c.deck.signals) fan_in →
      AllByRecursion (λ (p : ℕ × Access). p.0 < 2 * length c.deck.signals) (eval_accesses fan_in gate)
  accesses_in_range [] gate below all = (omega arith, tt)
  accesses_in_range (signal ∷ fan_in) gate below all = (omega (arith, all.0), accesses_in_range fan_in gate below all.1)

  pub eval_set-ascending : (gate : ℕ) → IsAscending (eval_set c.deck gate)
  eval_set-ascending gate = ascending_merged [] (eval_accesses (fan_in_of (signal_at c.deck.signals gate).form) gate) ascending_none

  pub eval_set-named : (gate loc : ℕ) (access : Access) → Contains (eval_accesses (fan_in_of (signal_at c.deck.signals gate).form) gate) (loc, access) → IsSome (access_at (eval_set c.deck gate) loc)
  eval_set-named gate loc access listed = (pairs_are_named [] (eval_accesses (fan_in_of (signal_at c.deck.signals gate).form) gate) loc ascending_none).1 (inr (access, listed))

  pub eval_set-written : (gate : ℕ) → IsTrue (writes (eval_set c.deck gate) (plan_place gate))
  eval_set-written gate =
      (pairs_are_written [] (eval_accesses (fan_in_of (signal_at c.deck.signals gate).form) gate) (plan_place gate) ascending_none).1
      (inr (plan_listed (fan_in_of (signal_at c.deck.signals gate).form) gate))

  pub eval_set-below : (gate loc : ℕ) → IsSoundlyWired c.deck → gate < length c.deck.signals → IsSome (access_at (eval_set c.deck gate) loc) → loc < 2 * length c.deck.signals
  eval_set-below gate loc sound below named =
      elim ((pairs_are_named [] (eval_accesses (fan_in_of (signal_at c.deck.signals gate).form) gate) loc ascending_none).0 named) [
        | inl none ↦ absurd (false≢true none)
        | inr (access, listed) ↦
            of_listed (λ p. p.0 < 2 * length c.deck.signals) (eval_accesses (fan_in_of (signal_at c.deck.signals gate).form) gate) (loc, access)
            (accesses_in_range (fan_in_of (signal_at c.deck.signals gate).form) gate below (wired gate sound below)) listed
      ]

  pub cells_are_counted : CellsAreCounted (simulation c)
  cells_are_counted cells fit = fit.count

  eval_set-in_range : (gate : ℕ) → IsSoundlyWired c.deck → gate < length c.deck.signals → IsInRange (simulation c) (eval_set c.deck gate)
  eval_set-in_range gate sound below = record {
    ascending = eval_set-ascending gate;
    below = λ loc named. eval_set-below gate loc sound below named;
  }

  pub sets_are_in_range : SetsAreInRange (simulation c)
  sets_are_in_range task cells fit (inl change) =
      subst (λ (kind : ℕ). IsInRange (simulation c) (set_for c.deck kind task.body.at)) (sym change.kind) (record {
        ascending = change_set-ascending task.body.at;
        below = λ loc named. let is = changed_is task.body.at loc named in omega (arith, is, change.at_signal);
      })
  sets_are_in_range task cells fit (inr (inl eval)) =
      subst (λ (kind : ℕ). IsInRange (simulation c) (set_for c.deck kind task.body.at)) (sym eval.kind) (eval_set-in_range task.body.at fit.deck eval.in_range)
  sets_are_in_range task cells fit (inr (inr tick)) =
      subst (λ (kind : ℕ). IsInRange (simulation c) (set_for c.deck kind task.body.at)) (sym tick.kind) (eval_set-in_range task.body.at fit.deck tick.in_range)

  change_of-lines : (time signal value : ℕ) (cells : List ℕ) → IsWholeLines (change_of c time signal value cells).text
  change_of-lines time signal value cells =
      let name = (signal_at c.deck.signals signal).name in
      either (λ (outcome : Outcome ℕ). IsWholeLines outcome.text) (value_in cells signal == value) (nothing_done cells) _ tt
      (either IsWholeLines (is_among c.deck.outputs signal) (change_line time name value) [] (whole_behind (decimal time ++ 32 ∷ []) (name ++ 32 ∷ [] ++ decimal value)) tt)

  plan_of-lines : (time gate value : ℕ) (cells : List ℕ) → IsWholeLines (plan_of c time gate value cells).text
  plan_of-lines time gate value cells = either (λ (outcome : Outcome ℕ). IsWholeLines outcome.text) (plan_in cells gate == value) (nothing_done cells) _ tt tt

  act_of-lines : (task : Task) (cells : List ℕ) → IsFitTask c task.key.prio task.body → IsWholeLines ((simulation c).act task cells).text
  act_of-lines task cells (inl change) =
      subst (λ (kind : ℕ). IsWholeLines (event_of c kind (time_of task.key.prio) task.body.at task.body.arg cells).text) (sym change.kind)
      (change_of-lines (time_of task.key.prio) task.body.at task.body.arg cells)
  act_of-lines task cells (inr (inl eval)) =
      subst (λ (kind : ℕ). IsWholeLines (event_of c kind (time_of task.key.prio) task.body.at task.body.arg cells).text) (sym eval.kind)
      (plan_of-lines (time_of task.key.prio) task.body.at _ cells)
  act_of-lines task cells (inr (inr tick)) =
      subst (λ (kind : ℕ). IsWholeLines (event_of c kind (time_of task.key.prio) task.body.at task.body.arg cells).text) (sym tick.kind)
      (plan_of-lines (time_of task.key.prio) task.body.at _ cells)

  pub acts_are_fit : ActsAreFit (simulation c)
  acts_are_fit task cells fit fit-task =
      let outcome = act_of-fit c task cells fit fit-task in
      record { cells = outcome.cells; children = outcome.children; few = outcome.few; lines = act_of-lines task cells fit-task }

  pub sets_are_local : SetsAreLocal (simulation c)
  sets_are_local task cells others fit fit-others fit-task agree = refl

  eval_of-elsewhere : (time gate : ℕ) (cells : List ℕ) (loc : ℕ) → IsFalse (writes (eval_set c.deck gate) loc) → slice_get (eval_of c time gate cells).cells loc ≡ slice_get cells loc
  eval_of-elsewhere time gate cells loc unwritten =
      let value = computed_by (signal_at c.deck.signals gate).form cells in
      updated-elsewhere (plan_in cells gate == value) (plan_place gate) value (next_changes c time gate value) [] cells loc
      (λ is. false≢true (sym unwritten ∙ subst (λ l. IsTrue (writes (eval_set c.deck gate) l)) (sym is) (eval_set-written gate)))

  act_of-elsewhere : (task : Task) (cells : List ℕ) → IsFitTask c task.key.prio task.body → (loc : ℕ) → IsFalse (writes (set_for c.deck task.body.kind task.body.at) loc) →
      slice_get ((simulation c).act task cells).cells loc ≡ slice_get cells loc
  act_of-elsewhere task cells (inl change) loc =
      subst (λ (kind : ℕ). IsFalse (writes (set_for c.deck kind task.body.at) loc) → slice_get (event_of c kind (time_of task.key.prio) task.body.at task.body.arg cells).cells loc ≡ slice_get cells loc) (sym change.kind)
      (λ unwritten. updated-elsewhere (value_in cells task.body.at == task.body.arg) (value_place task.body.at) task.body.arg _ _ cells loc
      (λ is. false≢true (sym unwritten ∙ subst (λ l. IsTrue (writes (change_set task.body.at) l)) (sym is) (change_set-written task.body.at))))
  act_of-elsewhere task cells (inr (inl eval)) loc =
      subst (λ (kind : ℕ). IsFalse (writes (set_for c.deck kind task.body.at) loc) → slice_get (event_of c kind (time_of task.key.prio) task.body.at task.body.arg cells).cells loc ≡ slice_get cells loc) (sym eval.kind)
      (eval_of-elsewhere (time_of task.key.prio) task.body.at cells loc)
  act_of-elsewhere task cells (inr (inr tick)) loc =
      subst (λ (kind : ℕ). IsFalse (writes (set_for c.deck kind task.body.at) loc) → slice_get (event_of c kind (time_of task.key.prio) task.body.at task.body.arg cells).cells loc ≡ slice_get cells loc) (sym tick.kind)
      (eval_of-elsewhere (time_of task.key.prio) task.body.at cells loc)

  change_of-alike : (time signal value : ℕ) (cells others : List ℕ) → IsFitCells c cells → IsFitCells c others → signal < length c.deck.signals → AgreeOn (change_set signal) cells others →
      IsSameOutcome (simulation c) (change_set signal) (change_of c time signal value cells) (change_of c time signal value others)
  change_of-alike time signal value cells others fit fit-others below agree =
      let below-cells : value_place signal < length cells = omega (arith, fit.count) in
      let below-others : value_place signal < length others = omega (arith, fit-others.count) in
      let same : value_in cells signal ≡ value_in others signal = same_index cells others (value_place signal) below-cells below-others (agree (value_place signal) (change_set-named signal)) in
      let children = map (eval_at time) (readers_of c.deck.signals signal) in
      let text = if is_among c.deck.outputs signal then change_line time (signal_at c.deck.signals signal).name value else [] in
      subst (λ held. IsSameOutcome (simulation c) (change_set signal) (change_of c time signal value cells) (updated (held == value) (value_place signal) value children text others)) same
      (updated-alike (change_set signal) (value_in cells signal == value) (value_place signal) value children text cells others below-cells below-others agree)

  -- what a gate computes depends on the values of its fan-ins alone
  values_alike : (fan_in : List ℕ) (gate : ℕ) (cells others : List ℕ) → ((p : ℕ × Access) → Contains (eval_accesses fan_in gate) p → slice_index cells p.0 ≡ slice_index others p.0) →
      map (value_in cells) fan_in ≡ map (value_in others) fan_in
  values_alike [] gate cells others agree = refl
  values_alike (signal ∷ fan_in) gate cells others agree =
      let here : value_in cells signal ≡ value_in others signal = agree (value_place signal, Read) (0, omega arith, refl) in
      let rest = values_alike fan_in gate cells others (λ p listed. agree p (contains_later (value_place signal, Read) (eval_accesses fan_in gate) p listed)) in
      ap (λ value. value ∷ map (value_in cells) fan_in) here ∙ ap (λ values. value_in others signal ∷ values) rest

  computed_by-alike : (form : Form) (gate : ℕ) (cells others : List ℕ) → ((p : ℕ × Access) → Contains (eval_accesses (fan_in_of form) gate) p → slice_index cells p.0 ≡ slice_index others p.0) →
      computed_by form cells ≡ computed_by form others
  computed_by-alike Input gate cells others agree = refl
  computed_by-alike (Gate kind fan_in) gate cells others agree = ap (gate_value kind) (values_alike fan_in gate cells others agree)
  computed_by-alike (Dff source) gate cells others agree = agree (value_place source, Read) (0, omega arith, refl)

  eval_of-alike : (time gate : ℕ) (cells others : List ℕ) → IsFitCells c cells → IsFitCells c others → gate < length c.deck.signals → AgreeOn (eval_set c.deck gate) cells others →
      IsSameOutcome (simulation c) (eval_set c.deck gate) (eval_of c time gate cells) (eval_of c time gate others)
  eval_of-alike time gate cells others fit fit-others below agree =
      let form = (signal_at c.deck.signals gate).form in
      let below-cells : plan_place gate < length cells = omega (arith, fit.count) in
      let below-others : plan_place gate < length others = omega (arith, fit-others.count) in
      let planned : plan_in cells gate ≡ plan_in others gate = alike-at (plan_place gate, Write) (plan_listed (fan_in_of form) gate) in
      let computed : computed_by form cells ≡ computed_by form others = computed_by-alike form gate cells others alike-at in
      let value = computed_by form cells in
      let children = next_changes c time gate value in
      subst (λ now. IsSameOutcome (simulation c) (eval_set c.deck gate) (plan_of c time gate value cells) (plan_of c time gate now others)) computed
      (subst (λ held. IsSameOutcome (simulation c) (eval_set c.deck gate) (plan_of c time gate value cells) (updated (held == value) (plan_place gate) value children [] others)) planned
      (updated-alike (eval_set c.deck gate) (plan_in cells gate == value) (plan_place gate) value children [] cells others below-cells below-others agree))
    where
      alike-at : (p : ℕ × Access) → Contains (eval_accesses (fan_in_of (signal_at c.deck.signals gate).form) gate) p → slice_index cells p.0 ≡ slice_index others p.0
      alike-at p listed =
          let named = eval_set-named gate p.0 p.1 listed in
          let in_range = eval_set-below gate p.0 fit.deck below named in
          same_index cells others p.0 (omega (arith, fit.count, in_range)) (omega (arith, fit-others.count, in_range)) (agree p.0 named)

  -- more children behind those of one outcome, and behind those of another that is the same
  with_more-alike : (set : Accesses) (one other : Outcome ℕ) (more : List Start) → IsSameOutcome (simulation c) set one other → IsSameOutcome (simulation c) set (with_more one more) (with_more other more)
  with_more-alike set one other more same = record {
    cells = same.cells;
    children = ap (λ (starts : List Start). starts ++ more) same.children;
    text = same.text;
  }

  tick_of-alike : (time flip_flop : ℕ) (cells others : List ℕ) → IsFitCells c cells → IsFitCells c others → flip_flop < length c.deck.signals → AgreeOn (eval_set c.deck flip_flop) cells others →
      IsSameOutcome (simulation c) (eval_set c.deck flip_flop) (tick_of c time flip_flop cells) (tick_of c time flip_flop others)
  tick_of-alike time flip_flop cells others fit fit-others below agree =
      with_more-alike (eval_set c.deck flip_flop) (eval_of c time flip_flop cells) (eval_of c time flip_flop others) (next_ticks c time flip_flop)
      (eval_of-alike time flip_flop cells others fit fit-others below agree)

  act_of-alike : (task : Task) (cells others : List ℕ) → IsFitCells c cells → IsFitCells c others → IsFitTask c task.key.prio task.body → AgreeOn (set_for c.deck task.body.kind task.body.at) cells others →
      IsSameOutcome (simulation c) (set_for c.deck task.body.kind task.body.at) ((simulation c).act task cells) ((simulation c).act task others)
  act_of-alike task cells others fit fit-others (inl change) =
      subst (λ (kind : ℕ). AgreeOn (set_for c.deck kind task.body.at) cells others →
      IsSameOutcome (simulation c) (set_for c.deck kind task.body.at) (event_of c kind (time_of task.key.prio) task.body.at task.body.arg cells) (event_of c kind (time_of task.key.prio) task.body.at task.body.arg others)) (sym change.kind)
      (change_of-alike (time_of task.key.prio) task.body.at task.body.arg cells others fit fit-others change.at_signal)
  act_of-alike task cells others fit fit-others (inr (inr tick)) =
      subst (λ (kind : ℕ). AgreeOn (set_for c.deck kind task.body.at) cells others →
      IsSameOutcome (simulation c) (set_for c.deck kind task.body.at) (event_of c kind (time_of task.key.prio) task.body.at task.body.arg cells) (event_of c kind (time_of task.key.prio) task.body.at task.body.arg others)) (sym tick.kind)
      (tick_of-alike (time_of task.key.prio) task.body.at cells others fit fit-others tick.in_range)
  act_of-alike task cells others fit fit-others (inr (inl eval)) =
      subst (λ (kind : ℕ). AgreeOn (set_for c.deck kind task.body.at) cells others →
      IsSameOutcome (simulation c) (set_for c.deck kind task.body.at) (event_of c kind (time_of task.key.prio) task.body.at task.body.arg cells) (event_of c kind (time_of task.key.prio) task.body.at task.body.arg others)) (sym eval.kind)
      (eval_of-alike (time_of task.key.prio) task.body.at cells others fit fit-others eval.in_range)

  pub acts_are_local : ActsAreLocal (simulation c)
  acts_are_local = record {
    unchanged = λ task cells fit fit-task loc unwritten. act_of-elsewhere task cells fit-task loc unwritten;
    determined = λ task cells others fit fit-others fit-task agree. act_of-alike task cells others fit fit-others fit-task agree;
  }

  pub acts_ignore_paths : ActsIgnorePaths (simulation c)
  acts_ignore_paths task path cells fit fit-task = refl

  pub children_come_no_earlier : ChildrenComeNoEarlier (simulation c)
  children_come_no_earlier task cells fit fit-task = act_of-not_earlier c task cells fit fit-task

  pub sets_stay_within : SetsStayWithin (simulation c)
  sets_stay_within task other cells fit fit-task fit-other apart =
      (merges_hold_both (set_in (simulation c) cells other) (set_in (simulation c) cells task)
      (sets_are_in_range other cells fit fit-other).ascending (sets_are_in_range task cells fit fit-task).ascending).0

  pub walks_are_true : WalksAreTrue (simulation c)
  walks_are_true task cells values fit fit-task agrees = refl

  pub fixed_sets_are_known : FixedSetsAreKnown (simulation c)
  fixed_sets_are_known task cells values fit fit-task = refl
