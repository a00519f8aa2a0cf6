-- Executions under names run as they do without.
use Rattle.std.proofs.Common.{◌≡◌, ℕ, zero, suc, Bool, true, false, List, [], ◌∷◌, ◌++◌, refl, sym, ap, ◌∙◌}
use Rattle.std.specs.Prelude.{map}
use Rattle.std.specs.Option.{option_map}
use Rattle.std.proofs.lemmas.List.{map-append}
use Rattle.task_order.specs.declared.start.Start.{Start}
use Rattle.task_order.specs.declared.task.Task.{Task}
use Rattle.task_order.specs.Key.{end}
use Rattle.task_order.specs.TaskList.{put_all}
use Rattle.task_order.specs.TaskListLaws.{All-put_all}
use Rattle.app_laws.specs.Applications.{ActsIgnorePaths, Application, IsLawful, IsFitTask}
use Rattle.app_laws.specs.Execution.{Outcome, Execution, children_from, acts, is_clear_before, run_to_end}
use Rattle.app_laws.specs.Laws.{IsFitExecution}
use Rattle.app_laws.specs.Names.{IsNaming, renamed}
use Rattle.app_laws.specs.Renaming.{HaveNames, renamed_entry, renamed_execution, NamesChangeNoRun}
use Rattle.app_laws.specs.RenamingLaws.{put_all-renamed, children-named, children-renamed}
use Rattle.app_laws.proofs.Ordered.{acts_fit, fit_first}
use Rattle.app_laws.proofs.Running.{keeps_fit}
use Rattle.app_laws.proofs.Runs.{runs_begin, busy_before_end, clear_before_end}

-- the execution after a task with this outcome
abbrev after_outcome : {V : Type 0} → Execution V → Task → List Task → Outcome V → Execution V
after_outcome e task others outcome = record {
  cells = outcome.cells;
  pending = put_all (children_from task.key 0 outcome.children) others;
  log = e.log ++ (task.key, outcome.text) ∷ [];
}

module _ {name : List ℕ → List ℕ} {has_name : List ℕ → Bool} (naming : IsNaming name has_name) where
  -- the pending tasks after one that acted, and so the whole execution
  pub children_put : (task : Task) (others : List Task) (children : List Start) → HaveNames has_name (task ∷ others)
      → put_all (children_from (renamed name task).key 0 children) (map (renamed name) others) ≡ map (renamed name) (put_all (children_from task.key 0 children) others)
  children_put task others children named =
      ap (λ new. put_all new (map (renamed name) others)) (children-renamed naming task 0 children named.0)
      ∙ put_all-renamed naming (children_from task.key 0 children) others (children-named naming task 0 children named.0) named.1

  pub children_put_named : (task : Task) (others : List Task) (children : List Start) → HaveNames has_name (task ∷ others)
      → HaveNames has_name (put_all (children_from task.key 0 children) others)
  children_put_named task others children named =
      All-put_all (λ other. has_name other.key.path ≡ true) (children_from task.key 0 children) others (children-named naming task 0 children named.0) named.1

  outcome_renamed : {V : Type 0} (e : Execution V) (task : Task) (others : List Task) (outcome : Outcome V) → HaveNames has_name (task ∷ others)
      → after_outcome (renamed_execution name e) (renamed name task) (map (renamed name) others) outcome ≡ renamed_execution name (after_outcome e task others outcome)
  outcome_renamed e task others outcome named = λ i. record {
    cells = outcome.cells;
    pending = children_put task others outcome.children named i;
    log = sym (map-append (renamed_entry name) e.log ((task.key, outcome.text) ∷ [])) i;
  }

  busy_renamed : {V : Type 0} (e : Execution V) (task : Task) (others : List Task) → e.pending ≡ task ∷ others → is_clear_before end (renamed_execution name e) ≡ false
  busy_renamed e task others is = busy_before_end (renamed_execution name e) (renamed name task) (map (renamed name) others) (ap (map (renamed name)) is)

  module _ {V : Type 0} (app : Application V) (lawful : IsLawful app) (ignores : ActsIgnorePaths app) where
    acts_renamed : (e : Execution V) (task : Task) (others : List Task) → app.is_fit_cells e.cells → IsFitTask app task → HaveNames has_name (task ∷ others)
        → acts app.act (renamed_execution name e) (map (renamed name) (task ∷ others)) ≡ renamed_execution name (acts app.act e (task ∷ others))
    acts_renamed e task others fit_cells fit_task named =
        ap (after_outcome (renamed_execution name e) (renamed name task) (map (renamed name) others)) (ignores task (name task.key.path) e.cells fit_cells fit_task)
        ∙ outcome_renamed e task others (app.act task e.cells) named

    -- by the first step, as long as tasks are pending
    run_renamed : (limit : ℕ) (e : Execution V) (tasks : List Task) → e.pending ≡ tasks → IsFitExecution app e → HaveNames has_name tasks
        → run_to_end app.act limit (renamed_execution name e) ≡ option_map (renamed_execution name) (run_to_end app.act limit e)
    run_renamed limit e [] is fit named =
        (runs_begin app.act (renamed_execution name e) end).0 (clear_before_end (renamed_execution name e) (ap (map (renamed name)) is) end) limit
        ∙ sym (ap (option_map (renamed_execution name)) ((runs_begin app.act e end).0 (clear_before_end e is end) limit))
    run_renamed zero e (task ∷ others) is fit named =
        ((runs_begin app.act (renamed_execution name e) end).1 (busy_renamed e task others is)).0
        ∙ sym (ap (option_map (renamed_execution name)) ((runs_begin app.act e end).1 (busy_before_end e task others is)).0)
    run_renamed (suc limit) e (task ∷ others) is fit named =
        let next = acts app.act e (task ∷ others) in
        let fit_task = fit_first app.is_fit_cells app.is_fit_task e task others is fit in
        let next_fit = acts_fit app.is_fit_cells app.is_fit_task app.act e task others is (keeps_fit app lawful task e.cells fit.cells fit_task) fit in
        ((runs_begin app.act (renamed_execution name e) end).1 (busy_renamed e task others is)).1 limit
        ∙ ap (λ tasks. run_to_end app.act limit (acts app.act (renamed_execution name e) (map (renamed name) tasks))) is
        ∙ ap (run_to_end app.act limit) (acts_renamed e task others fit.cells fit_task named)
        ∙ run_renamed limit next next.pending refl next_fit (children_put_named task others (app.act task e.cells).children named)
        ∙ sym (ap (option_map (renamed_execution name)) (((runs_begin app.act e end).1 (busy_before_end e task others is)).1 limit ∙ ap (λ tasks. run_to_end app.act limit (acts app.act e tasks)) is))

pub names_change_no_run : {V : Type 0} (app : Application V) → IsLawful app → ActsIgnorePaths app → NamesChangeNoRun app
names_change_no_run app lawful ignores name has_name naming e fit named limit = run_renamed naming app lawful ignores limit e e.pending refl fit named
