-- Text that is kept is a front of the sequential run's text.
use Rattle.std.proofs.Common.{◌≡◌, ℕ, zero, suc, ◌+◌, ◌-◌, ◌≤◌, ◌||◌, Bool, true, false, not, List, [], ◌∷◌, ◌++◌, length, append-nil, append_assoc, Option, Some, None, refl, sym, ap, subst, ◌∙◌, arith}
use Rattle.std.specs.Prelude.{IfSome, MatchOption}
use Rattle.std.specs.List.{AllByRecursion, filter, list_any}
use Rattle.std.specs.Option.{option_map}
use Rattle.std.specs.Ordering.{is_lt}
use Rattle.std.specs.declared.cmp.Ordering.TheVariants.{Less}
use Rattle.std.proofs.lemmas.Bool.{true≢false}
use Rattle.std.proofs.lemmas.List.{length-map}
use Rattle.std.proofs.lemmas.List.Elements.{filter-append}
use Rattle.std.proofs.lemmas.Option.{same_Some}
use Rattle.plain_laws.specs.Orderings.{not_less}
use Rattle.plain_laws.specs.Lists.{All-middle, All-weaker, filter-none, filter_again, length-filter_le}
use Rattle.plain_laws.specs.Members.{all_from}
use Rattle.task_order.specs.declared.key.Key.{Key}
use Rattle.task_order.specs.declared.task.Task.{Task}
use Rattle.task_order.specs.Key.{Bound, at_key, end, is_before, key_cmp}
use Rattle.cell_store.specs.Values.{values_of}
use Rattle.kdg_graph.specs.Nodes.{tasks_of}
use Rattle.output_log.specs.Entries.{Entry, IsInKeyOrder, ShareNoKey, entries_before, entries_from, is_entry_before, joined_by_key, joined_texts}
use Rattle.app_laws.specs.Applications.{Application}
use Rattle.app_laws.specs.Execution.{Execution, Operator, acts, after_steps, is_clear_before, run_until, step, steps_until}
use Rattle.app_laws.specs.Laws.{IsFirstClear, LogsGrowAtTheEnd, StopsWhenClear}
use Rattle.app_laws.specs.Order.{IsOrderly, Pairwise, is_prefix}
use Rattle.commuting.specs.Clear.{IsReady}
use Rattle.commuting.specs.Commuting.{entries_of}
use Rattle.commuting.specs.Rounds.{after_round, clear_tasks}
use Rattle.commuting.specs.Standing.{AreUnlogged, IsLaterLog}
use Rattle.commuting.specs.States.{State, execution_from, run_from}
use Rattle.run_laws.specs.Events.{drainable}
use Rattle.run_laws.specs.Progress.{whole_state}
use Rattle.source_pool.specs.Basis.{Basis}
use Rattle.source_pool.specs.Kept.{acted_in, entries_after, first_pending}
use Rattle.source_pool.specs.KeptLaws.{DrainedEntriesAreFirst, KeptTextsAreFronts}
use Rattle.source_pool.specs.Runs.{state_at_rest}
use Rattle.source_pool.proofs.Kept.{RunTo, bound_is, none_before_first, rounds_stand, run_to}

-- ---- lists

-- one in the middle is in the relation to each after it
to_later : {X : Type 0} (R : X → X → Type 0) (front : List X) (x : X) (rest : List X) → Pairwise R (front ++ x ∷ rest) → AllByRecursion (R x) rest
to_later R [] x rest pairs = pairs.0
to_later R (y ∷ front) x rest pairs = to_later R front x rest pairs.1

-- ---- bounds

first_fails : (test rest : Bool) → not (test || rest) ≡ true → test ≡ false
first_fails true rest clear = absurd (true≢false (sym clear))
first_fails false rest clear = refl

-- the first pending task isn't before a bound that none is before
first_from_bound : {V : Type 0} (bound : Bound) (e : Execution V) (task : Task) (others : List Task) → e.pending ≡ task ∷ others → is_clear_before bound e ≡ true
    → is_before task.key bound ≡ false
first_from_bound bound e task others is clear =
    let test = λ (other : Task). is_before other.key bound in
    first_fails (test task) (list_any test others) (ap (λ (tasks : List Task). not (list_any test tasks)) (sym is) ∙ clear)

-- what is logged is before the first of the pending tasks, where it is before all of them
before_first : (log : List Entry) (tasks : List Task) → AllByRecursion (λ task. AllByRecursion (λ entry. key_cmp entry.0 task.key ≡ Less) log) tasks → (front : List Entry) (entry : Entry)
    (rest : List Entry) → log ≡ front ++ entry ∷ rest → is_before entry.0 (first_pending tasks) ≡ true
before_first log [] after front entry rest is = refl
before_first log (task ∷ tasks) after front entry rest is =
    let Earlier = λ (other : Entry). key_cmp other.0 task.key ≡ Less in
    ap is_lt (All-middle Earlier front entry rest (subst (AllByRecursion Earlier) is after.0))

-- ---- steps

module _ {V : Type 0} (act : Operator V) where
  -- where no task is pending, nothing happens
  stays_at_end : (e : Execution V) → e.pending ≡ [] → (steps : ℕ) → after_steps act steps e ≡ e
  unfolding after_steps
  stays_at_end e none zero = refl
  stays_at_end e none (suc steps) = ap (step act) (stays_at_end e none steps) ∙ ap (acts act e) none

module _ {V : Type 0} (act : Operator V) (e : Execution V) where
  one_logged : (steps : ℕ) (task : Task) (others : List Task) → (after_steps act steps e).pending ≡ task ∷ others
      → (after_steps act (suc steps) e).log ≡ (after_steps act steps e).log ++ (task.key, (act task (after_steps act steps e).cells).text) ∷ []
  unfolding after_steps
  one_logged steps task others first = ap (λ (tasks : List Task). (acts act (after_steps act steps e) tasks).log) first

  -- what the first pending task logs comes next
  next_logged : LogsGrowAtTheEnd act e → (steps more : ℕ) (task : Task) (others : List Task) → (after_steps act steps e).pending ≡ task ∷ others
      → (text : List ℕ) × (rest : List Entry) × ((after_steps act (steps + suc more) e).log ≡ (after_steps act steps e).log ++ (task.key, text) ∷ rest)
  next_logged grows steps more task others first =
      let before = after_steps act steps e in
      let entry : Entry = (task.key, (act task before.cells).text) in
      let grown = grows (suc steps) more in
      let turned : steps + suc more ≡ suc steps + more = omega arith in (
        (act task before.cells).text,
        grown.0,
        ap (λ (n : ℕ). (after_steps act n e).log) turned ∙ grown.1 ∙ ap (λ (log : List Entry). log ++ grown.0) (one_logged steps task others first)
            ∙ append_assoc before.log (entry ∷ []) grown.0,
      )

  -- a run is some number of steps, after which no pending task is before its bound
  record RunSteps (bound : Bound) (limit : ℕ) (last : Execution V) : Type 0 where
    steps : ℕ
    within : steps ≤ limit
    is : after_steps act steps e ≡ last
    clear : is_clear_before bound last ≡ true

  run_steps : StopsWhenClear act e → (limit : ℕ) (bound : Bound) (last : Execution V) → run_until act limit bound e ≡ Some last → RunSteps bound limit last
  run_steps stops limit bound last = by_case (steps_until act limit bound e) (stops limit bound)
    where
      by_case : (answer : Option ℕ) → MatchOption answer ((steps : ℕ) → steps ≤ limit → is_clear_before bound (after_steps act steps e) ≡ false) (λ steps. (steps ≤ limit) × IsFirstClear act bound e steps)
          → option_map (λ steps. after_steps act steps e) answer ≡ Some last → RunSteps bound limit last
      by_case None never is = absurd (cc)
      by_case (Some steps) found is =
          let same = same_Some (after_steps act steps e) last is in
          record { steps = steps; within = found.0; is = same; clear = subst (λ (x : Execution V). is_clear_before bound x ≡ true) same found.1.clear }

  -- where each number of steps after which none is before the bound leads to one execution, the run to the bound does
  steps_run : StopsWhenClear act e → (limit : ℕ) (bound : Bound) → is_clear_before bound (after_steps act limit e) ≡ true
      → ((steps : ℕ) → steps ≤ limit → is_clear_before bound (after_steps act steps e) ≡ true → after_steps act steps e ≡ after_steps act limit e)
      → run_until act limit bound e ≡ Some (after_steps act limit e)
  steps_run stops limit bound clear each = by_case (steps_until act limit bound e) (stops limit bound)
    where
      by_case : (answer : Option ℕ) → MatchOption answer ((steps : ℕ) → steps ≤ limit → is_clear_before bound (after_steps act steps e) ≡ false) (λ steps. (steps ≤ limit) × IsFirstClear act bound e steps)
          → option_map (λ steps. after_steps act steps e) answer ≡ Some (after_steps act limit e)
      by_case None never = absurd (true≢false (sym clear ∙ never limit (omega arith)))
      by_case (Some steps) found = ap Some (each steps found.0 found.1.clear)

module _ {V : Type 0} {app : Application V} (basis : Basis app) where
  not_earlier : (bound : Bound) (key other : Key) → is_before key bound ≡ false → key_cmp key other ≡ Less → is_before other bound ≡ false
  not_earlier end key other from less = from
  not_earlier (at_key last) key other from less =
      not_less (key_cmp other last) (λ more. true≢false (sym (ap is_lt (basis.transitive key other last less more)) ∙ from))

  module _ (first : State V) (ready : IsReady app first) where
    abbrev there : ℕ → Execution V
    there steps = after_steps app.act steps (execution_from first)

    orderly : (steps : ℕ) → IsOrderly (there steps)
    orderly =
        basis.stays_orderly (execution_from first) (record { cells = ready.cells; pending = ready.tasks })
        (record {
          ascending = ready.ascending;
          apart = ready.apart;
          unlogged = all_from (λ (task : Task). AllByRecursion (λ (entry : Entry). is_prefix task.key.path entry.0.path ≡ false) []) first.pending (λ task has. tt);
          after_log = all_from (λ (task : Task). AllByRecursion (λ (entry : Entry). key_cmp entry.0 task.key ≡ Less) []) first.pending (λ task has. tt);
          log_ascending = tt;
          log_differs = tt;
        })

    -- ---- any number of steps is a run to some bound

    same_there : (steps more : ℕ) (tasks : List Task) → (there steps).pending ≡ tasks → is_clear_before (first_pending (there (steps + more)).pending) (there steps) ≡ true → there steps ≡ there (steps + more)
    same_there steps more [] none clear = sym (basis.adds (execution_from first) steps more ∙ stays_at_end app.act (there steps) none more)
    same_there steps zero (task ∷ others) some clear =
        let same : steps ≡ steps + 0 = omega arith in
        ap there same
    same_there steps (suc more) (task ∷ others) some clear =
        let last = there (steps + suc more) in
        let next = next_logged app.act (execution_from first) (basis.grows (execution_from first)) steps more task others some in
        let early = before_first last.log last.pending (orderly (steps + suc more)).after_log (there steps).log (task.key, next.0) next.1 next.2 in
        absurd (true≢false (sym early ∙ first_from_bound (first_pending last.pending) (there steps) task others some clear))

    is_a_run : (limit : ℕ) → run_from app.act limit (first_pending (there limit).pending) first ≡ Some (there limit)
    is_a_run limit =
        let bound = first_pending (there limit).pending in
        steps_run app.act (execution_from first) (basis.stops (execution_from first)) limit bound (none_before_first basis (there limit).cells (there limit).pending (orderly limit).ascending)
        (λ steps within clear.
        let same : steps + (limit - steps) ≡ limit = omega arith in
        subst (λ (n : ℕ). there steps ≡ there n) same
        (same_there steps (limit - steps) (there steps).pending refl (subst (λ (n : ℕ). is_clear_before (first_pending (there n).pending) (there steps) ≡ true) (sym same) clear)))

    -- so what is logged is in order, and new beside what was logged before
    log_in_order : (limit : ℕ) → IsInKeyOrder (there limit).log
    log_in_order limit =
        let bound = first_pending (there limit).pending in
        let none = all_from (λ (task : Task). AllByRecursion (λ (entry : Entry). key_cmp entry.0 task.key ≡ Less) []) first.pending (λ task has. tt) in
        let logs : IfSome (Some (there limit)) (λ (e : Execution V). IsLaterLog [] e.log) =
        subst (λ (run : Option (Execution V)). IfSome run (λ e. IsLaterLog [] e.log)) (is_a_run limit) (basis.log_later first [] ready none limit bound) in
        logs.ordered

    new_keys : (log : List Entry) (limit : ℕ) → AreUnlogged log first.pending → ShareNoKey log (there limit).log
    new_keys log limit unlogged =
        subst (λ (run : Option (Execution V)). IfSome run (λ e. ShareNoKey log e.log)) (is_a_run limit) (basis.log_new_keys first log ready unlogged limit (first_pending (there limit).pending))

    -- ---- what comes after a run

    -- nothing more is logged before a bound that no pending task is before
    logs_no_earlier : (bound : Bound) (steps more : ℕ) (tasks : List Task) → (there steps).pending ≡ tasks → is_clear_before bound (there steps) ≡ true
        → (later : List Entry) × ((there (steps + more)).log ≡ (there steps).log ++ later) × AllByRecursion (λ entry. is_entry_before bound entry ≡ false) later
    logs_no_earlier bound steps more [] none clear =
        let same = basis.adds (execution_from first) steps more ∙ stays_at_end app.act (there steps) none more in
        ([], ap (λ (e : Execution V). e.log) same ∙ sym (append-nil (there steps).log), tt)
    logs_no_earlier bound steps zero (task ∷ others) some clear =
        let same : steps + 0 ≡ steps = omega arith in
        ([], ap (λ (n : ℕ). (there n).log) same ∙ sym (append-nil (there steps).log), tt)
    logs_no_earlier bound steps (suc more) (task ∷ others) some clear =
        let next = next_logged app.act (execution_from first) (basis.grows (execution_from first)) steps more task others some in
        let entry : Entry = (task.key, next.0) in
        let from = first_from_bound bound (there steps) task others some clear in
        let Ordered = λ (one other : Entry). key_cmp one.0 other.0 ≡ Less in
        let pairs = subst (Pairwise Ordered) next.2 (orderly (steps + suc more)).log_ascending in (
          entry ∷ next.1,
          next.2,
          (
            from,
            All-weaker (Ordered entry) (λ (other : Entry). is_entry_before bound other ≡ false) (λ other less. not_earlier bound task.key other.0 from less) next.1
                (to_later Ordered (there steps).log entry next.1 pairs),
          ),
        )

    -- so a longer run logs the same before the bound
    same_before : (bound : Bound) (limit most : ℕ) (entries : List Entry) → limit ≤ most → RunTo app first bound (entries_before bound entries) → length (entries_before bound entries) ≡ limit
        → entries_before bound (there most).log ≡ entries_before bound entries
    same_before bound limit most entries within run counted =
        let done = entries_before bound entries in
        let went = run_steps app.act (execution_from first) (basis.stops (execution_from first)) (length done) bound run.last run.is in
        let all : went.steps + (most - went.steps) ≡ most = omega (arith, went.within, counted, within) in
        let later = logs_no_earlier bound went.steps (most - went.steps) (there went.steps).pending refl (subst (λ (e : Execution V). is_clear_before bound e ≡ true) (sym went.is) went.clear) in
        let log_is : (there most).log ≡ done ++ later.0 =
        ap (λ (n : ℕ). (there n).log) (sym all) ∙ later.1 ∙ ap (λ (log : List Entry). log ++ later.0) (ap (λ (e : Execution V). e.log) went.is ∙ run.log_is) in
        ap (entries_before bound) log_is ∙ filter-append (is_entry_before bound) done later.0 ∙ ap (λ (rest : List Entry). entries_before bound done ++ rest) (filter-none (is_entry_before bound) later.0 later.2)
        ∙ append-nil (entries_before bound done) ∙ filter_again (is_entry_before bound) entries

  -- ---- rounds

  -- as many entries as tasks have acted
  entries_counted : (rounds : ℕ) (entries : List Entry) (state : State V) → length (entries_after app rounds entries state) ≡ length entries + acted_in app rounds state
  entries_counted zero entries state = omega arith
  entries_counted (suc rounds) entries state =
      let tasks = clear_tasks app state in
      let others = entries_of app.act state.cells tasks in
      let rest = entries_counted rounds (joined_by_key entries others) (after_round app state) in
      let mapped : length others ≡ length tasks = length-map tasks _ in
      omega (arith, rest, basis.joins_add_lengths entries others, mapped)

  pub kept_texts_are_fronts : KeptTextsAreFronts app
  kept_texts_are_fronts start rounds state text begins keeps =
      let first = state_at_rest start in
      let ready = subst (IsReady app) begins.state_is begins.course.come.sound.ready in
      let counts = begins.course.come.sound.keys_and_counts in
      let log = start.log in
      let most = start.limit - start.ended in
      let entries = entries_after app rounds [] first in
      let bound = first_pending state.pending in
      let stands = rounds_stand basis rounds first first state [] (basis.starts_stand first ready) keeps.leads in
      let run = run_to basis first state entries bound (none_before_first basis state.cells state.pending stands.ready.ascending) stands in
      let few = length-filter_le (is_entry_before bound) entries in
      let within : length (entries_before bound entries) ≤ most = omega (arith, few, entries_counted rounds [] first, keeps.within) in
      let sequential = (after_steps app.act most (execution_from first)).log in
      let same = same_before first ready bound (length (entries_before bound entries)) most entries within run refl in
      let whole = joined_by_key log sequential in
      let ordered = basis.joins_in_order log sequential counts.log_ordered (log_in_order first ready most) (new_keys first ready log most counts.unlogged) in
      let parts : entries_before bound whole ≡ entries_before bound (joined_by_key log entries) =
      (basis.parts_join bound log sequential).0 ∙ ap (joined_by_key (entries_before bound log)) same ∙ sym (basis.parts_join bound log entries).0 in
      let rest = entries_from bound whole in (
        joined_texts rest,
        ap joined_texts (basis.earlier_first bound whole ordered) ∙ basis.texts_follow (entries_before bound whole) rest
            ∙ ap (λ (front : List ℕ). front ++ joined_texts rest) (ap joined_texts parts ∙ sym keeps.text_is),
      )

  -- ---- whatever was drained

  pub drained_entries_are_first : DrainedEntriesAreFirst app
  drained_entries_are_first start now drained entries jobs values sound come =
      let cells = values_of start.cells in
      let first = state_at_rest start in
      let counts = sound.keys_and_counts in
      let later = come.sound.keys_and_counts in
      let log = start.log in
      let most = start.limit - start.ended in
      let pending = tasks_of now.nodes in
      let bound = first_pending pending in
      let clear = none_before_first basis values pending later.graph.ascending in
      let run = run_to basis first (whole_state now values) entries bound clear come.stands in
      let few = length-filter_le (is_entry_before bound) entries in
      let within : length (entries_before bound entries) ≤ most = omega (arith, few, come.ended, come.limit, later.created, later.within) in
      let sequential = (after_steps app.act most (execution_from first)).log in
      let same = same_before first sound.ready bound (length (entries_before bound entries)) most entries within run refl in
      let whole = joined_by_key log sequential in
      let ordered = basis.joins_in_order log sequential counts.log_ordered (log_in_order first sound.ready most) (new_keys first sound.ready log most counts.unlogged) in
      let parts : entries_before bound whole ≡ entries_before bound (joined_by_key log entries) =
      (basis.parts_join bound log sequential).0 ∙ ap (joined_by_key (entries_before bound log)) same ∙ sym (basis.parts_join bound log entries).0 in
      let more = drainable app now.nodes now.log in
      let all : entries_before bound (drained ++ now.log) ≡ drained ++ more =
      subst (λ b. entries_before b (drained ++ now.log) ≡ drained ++ more) (bound_is now.nodes) (sym (basis.next_drain start cells drained entries now jobs values come).all) in
      let rest = entries_from bound whole in (
        more ++ rest,
        basis.earlier_first bound whole ordered
            ∙ ap (λ (front : List Entry). front ++ rest) (parts ∙ ap (entries_before bound) come.logged ∙ all)
            ∙ append_assoc drained more rest,
      )
