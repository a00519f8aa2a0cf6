-- Where paths are ignored: rounds under names, and what is left of an execution where its pending tasks are listed.
use Rattle.std.proofs.Common.{◌≡◌, ℕ, zero, suc, Bool, true, not, List, [], ◌∷◌, length, map, Option, Some, None, refl, sym, ap, subst, ◌∙◌}
use Rattle.std.specs.Prelude.{◌&&◌, ◌||◌}
use Rattle.std.specs.List.{AllByRecursion, Contains, list_any}
use Rattle.std.specs.Option.{option_map}
use Rattle.std.proofs.lemmas.List.{length-map, nil_from_length}
use Rattle.std.proofs.lemmas.List.Elements.{All-from_recursion, All-contains}
use Rattle.std.proofs.lemmas.Simd.{map-map}
use Rattle.plain_laws.specs.Lists.{All-weaker, All-joined, All-filter}
use Rattle.task_order.specs.declared.task.Task.{Task}
use Rattle.task_order.specs.TaskList.{put_all, tasks_before, without}
use Rattle.task_order.specs.TaskListLaws.{All-put_all}
use Rattle.rw_sets.specs.Accesses.{conflicts_with}
use Rattle.app_laws.specs.Applications.{Application, AreFitTasks, IsFitTask, PathsAreIgnored, set_in}
use Rattle.app_laws.specs.Execution.{Execution, Outcome, children_from}
use Rattle.app_laws.specs.Names.{IsNaming, renamed}
use Rattle.app_laws.specs.Renaming.{HaveNames, ListedTasksAreNamed, NamesChangeNoRun, renamed_entry, renamed_execution}
use Rattle.app_laws.specs.RenamingLaws.{filter-renamed, put_all-renamed, tasks_before-renamed, without-renamed, children-named, children-renamed}
use Rattle.commuting.specs.Basis.{Basis}
use Rattle.commuting.specs.Clear.{IsReady}
use Rattle.commuting.specs.Commuting.{AreClear, BothEnd}
use Rattle.commuting.specs.Renaming.{ComesToSame, HasSameTexts, IsSameRound, ListedTasksComeToSame, NamesChangeNoRound, NamesChangeNoRounds, renamed_state}
use Rattle.commuting.specs.Rounds.{is_clear, clear_tasks, after_round, TakesRounds}
use Rattle.commuting.specs.States.{State, state_of, execution_from, run_from, after_task, after_tasks}
use Rattle.commuting.proofs.Rounds.{clear_tasks_are_listed, rounds_keep_ready}
use Rattle.commuting.proofs.Several.{ready_next, rest_clear}

-- under names a run logs the same texts
same_texts : {V : Type 0} (name : List ℕ → List ℕ) (run : Option (Execution V)) → BothEnd HasSameTexts run (option_map (renamed_execution name) run)
same_texts name None = tt
same_texts name (Some e) = record { cells_are = refl; texts_are = sym (map-map (λ entry. entry.1) (renamed_entry name) e.log) }

module _ {V : Type 0} {app : Application V} (basis : Basis app) (ignored : PathsAreIgnored app) where
  module _ {name : List ℕ → List ℕ} {has_name : List ℕ → Bool} (naming : IsNaming name has_name) where
    -- a task of the application that has a name
    record IsNamedTask (task : Task) : Type 0 where
      fit : IsFitTask app task
      has : has_name task.key.path ≡ true

    -- a ready state whose pending tasks have names
    record IsNamedState (state : State V) : Type 0 where
      ready : IsReady app state
      have : HaveNames has_name state.pending

    pending_named : (state : State V) → IsNamedState state → AllByRecursion IsNamedTask state.pending
    pending_named state named =
        All-joined (IsFitTask app) (λ task. has_name task.key.path ≡ true) IsNamedTask (λ task fit has. record { fit = fit; has = has })
        state.pending named.ready.tasks named.have

    one_named : (state : State V) (task : Task) → IsNamedState state → Contains state.pending task → IsNamedTask task
    one_named state task named = All-contains IsNamedTask state.pending task (All-from_recursion IsNamedTask state.pending (pending_named state named))

    -- ---- under names the same tasks are clear

    -- a test of the set that a task declares says the same of the renamed task
    any_renamed : (cells : List V) (task : Task) (earlier : List Task) → let Test = λ (other : Task). conflicts_with (set_in app cells other) (set_in app cells task) in
        list_any Test (map (renamed name) earlier) ≡ list_any Test earlier
    any_renamed cells task [] = refl
    any_renamed cells task (other ∷ earlier) = ap (λ found. conflicts_with (set_in app cells other) (set_in app cells task) || found) (any_renamed cells task earlier)

    clear_renamed : (state : State V) (task : Task) → IsNamedState state → IsNamedTask task → is_clear app (renamed_state name state) (renamed name task) ≡ is_clear app state task
    clear_renamed state task named one =
        let earlier = tasks_before task.key state.pending in
        let Test = λ (other : Task). conflicts_with (set_in app state.cells other) (set_in app state.cells task) in
        let earlier_fit : AreFitTasks app earlier = All-filter (IsFitTask app) _ state.pending named.ready.tasks in
        ap (λ tasks. not (list_any Test tasks) && app.is_safe (renamed name task) tasks) (tasks_before-renamed naming task state.pending one.has named.have)
        ∙ ap (λ found. not found && app.is_safe (renamed name task) (map (renamed name) earlier)) (any_renamed state.cells task earlier)
        ∙ ap (λ safe. not (list_any Test earlier) && safe) (ignored.safety task earlier name has_name naming (one.has, All-filter (λ other. has_name other.key.path ≡ true) _ state.pending named.have) one.fit earlier_fit)

    clear_tasks_renamed : (state : State V) → IsNamedState state → clear_tasks app (renamed_state name state) ≡ map (renamed name) (clear_tasks app state)
    clear_tasks_renamed state named =
        filter-renamed name (is_clear app state) (is_clear app (renamed_state name state)) state.pending
        (All-weaker IsNamedTask (λ task. is_clear app (renamed_state name state) (renamed name task) ≡ is_clear app state task)
        (λ task. clear_renamed state task named)
        state.pending (pending_named state named))

    -- ---- and they do the same

    after_task_renamed : (state : State V) (task : Task) → IsNamedState state → IsNamedTask task
        → after_task app.act (renamed name task) (renamed_state name state) ≡ renamed_state name (after_task app.act task state)
    after_task_renamed state task named one =
        let outcome = app.act task state.cells in
        let children = children_from task.key 0 outcome.children in
        let others = without task.key state.pending in
        let After = λ (outcome : Outcome V) (new others : List Task). state_of outcome.cells (put_all new others) in
        let others_renamed = without (renamed name task).key (map (renamed name) state.pending) in
        ap (λ outcome. After outcome (children_from (renamed name task).key 0 outcome.children) others_renamed)
        (ignored.acts task (name task.key.path) state.cells named.ready.cells one.fit)
        ∙ ap (λ new. After outcome new others_renamed) (children-renamed naming task 0 outcome.children one.has)
        ∙ ap (After outcome (map (renamed name) children)) (without-renamed naming task state.pending one.has named.have)
        ∙ ap (state_of outcome.cells)
        (put_all-renamed naming children others (children-named naming task 0 outcome.children one.has)
        (All-filter (λ other. has_name other.key.path ≡ true) _ state.pending named.have))

    have_names_next : (state : State V) (task : Task) → HaveNames has_name state.pending → has_name task.key.path ≡ true → HaveNames has_name (after_task app.act task state).pending
    have_names_next state task have has =
        let children = (app.act task state.cells).children in
        All-put_all (λ other. has_name other.key.path ≡ true) (children_from task.key 0 children) (without task.key state.pending)
        (children-named naming task 0 children has)
        (All-filter (λ other. has_name other.key.path ≡ true) _ state.pending have)

    -- where these tasks have acted, the state is the same under names, and its tasks have names
    record IsSameAfter (state : State V) (tasks : List Task) : Type 0 where
      same : after_tasks app.act (map (renamed name) tasks) (renamed_state name state) ≡ renamed_state name (after_tasks app.act tasks state)
      have : HaveNames has_name (after_tasks app.act tasks state).pending

    after_tasks_renamed : (state : State V) (tasks : List Task) → IsNamedState state → AreClear app state tasks → IsSameAfter state tasks
    after_tasks_renamed state [] named clear = record { same = refl; have = named.have }
    after_tasks_renamed state (task ∷ tasks) named clear =
        let one = one_named state task named clear.clear.0.pending in
        let next_named : IsNamedState (after_task app.act task state) = record {
          ready = ready_next basis state task tasks named.ready clear;
          have = have_names_next state task named.have one.has;
        } in
        let rest = after_tasks_renamed (after_task app.act task state) tasks next_named (rest_clear basis state task tasks named.ready clear) in
        record {
          same = ap (after_tasks app.act (map (renamed name) tasks)) (after_task_renamed state task named one) ∙ rest.same;
          have = rest.have;
        }

    -- ---- rounds

    round_renamed : (state : State V) → IsNamedState state → IsSameAfter state (clear_tasks app state)
    round_renamed state named = after_tasks_renamed state (clear_tasks app state) named (clear_tasks_are_listed basis state named.ready).clear

    after_round_renamed : (state : State V) → IsNamedState state → after_round app (renamed_state name state) ≡ renamed_state name (after_round app state)
    after_round_renamed state named =
        ap (λ tasks. after_tasks app.act tasks (renamed_state name state)) (clear_tasks_renamed state named) ∙ (round_renamed state named).same

    same_round : (state : State V) → IsNamedState state → IsSameRound app name has_name state
    same_round state named = record {
      clear = clear_tasks_renamed state named;
      after = after_round_renamed state named;
      have_names = (round_renamed state named).have;
    }

    rounds_without_names : (rounds : ℕ) (state : State V) → IsNamedState state → TakesRounds app rounds (renamed_state name state) → TakesRounds app rounds state
    rounds_without_names zero state named ended = nil_from_length state.pending (sym (length-map state.pending (renamed name)) ∙ ap length ended)
    rounds_without_names (suc rounds) state named takes =
        let next_named : IsNamedState (after_round app state) = record {
          ready = rounds_keep_ready basis state named.ready;
          have = (round_renamed state named).have;
        } in (
          (λ none. takes.0 (ap (map (renamed name)) none)),
          rounds_without_names rounds (after_round app state) next_named (subst (TakesRounds app rounds) (after_round_renamed state named) takes.1),
        )

  pub names_change_no_round : NamesChangeNoRound app
  names_change_no_round name has_name naming state ready have = same_round naming state (record { ready = ready; have = have })

  pub names_change_no_rounds : NamesChangeNoRounds app
  names_change_no_rounds name has_name naming state ready have rounds = rounds_without_names naming rounds state (record { ready = ready; have = have })

  -- ---- what is left of an execution

  module _ (names_change_no_run : NamesChangeNoRun app) where
    comes_to_same : {name : List ℕ → List ℕ} {has_name : List ℕ → Bool} → IsNaming name has_name
        → (state : State V) → IsReady app state → HaveNames has_name state.pending → ComesToSame app state (renamed_state name state)
    comes_to_same {name} {has_name} naming state ready have = record {
      ends = λ limit.
          subst (BothEnd HasSameTexts (run_from app.act limit _ state))
          (sym (names_change_no_run name has_name naming (execution_from state) (record { cells = ready.cells; pending = ready.tasks }) have limit))
          (same_texts name (run_from app.act limit _ state));
      rounds = names_change_no_rounds name has_name naming state ready have;
    }

    pub listed_tasks_come_to_same : ListedTasksAreNamed → ListedTasksComeToSame app
    listed_tasks_come_to_same listed_tasks_are_named state ready first listed =
        let named = listed_tasks_are_named state.pending first ready.ascending ready.apart listed in
        subst (λ tasks. ComesToSame app state (state_of state.cells tasks)) named.are_first (comes_to_same named.naming state ready named.have_names)
