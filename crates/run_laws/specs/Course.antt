-- Where an execution has come from a start in which nothing was running.
use Rattle.std.specs.Prelude.{◌≡◌, ◌⊎◌, ◌+◌, ◌-◌, ◌<◌, ℕ, true, List, ◌++◌, length, Contains, Some, None}
use Rattle.std.specs.List.{AllByRecursion}
use Rattle.std.specs.declared.cmp.Ordering.TheVariants.{Less}
use Rattle.task_order.specs.declared.key.Key.{Key}
use Rattle.task_order.specs.declared.task.Task.{Task}
use Rattle.task_order.specs.Key.{end, key_cmp}
use Rattle.output_log.specs.Entries.{Entry, joined_by_key}
use Rattle.kdg_graph.specs.Nodes.{tasks_of}
use Rattle.app_laws.specs.Applications.{Application}
use Rattle.app_laws.specs.Order.{is_prefix}
use Rattle.commuting.specs.Standing.{ComeBefore, StandsFor}
use Rattle.commuting.specs.States.{run_from}
use Rattle.crew.specs.declared.answers.OverCause.TheVariants as cause
use Rattle.run_laws.specs.Jobs.{Job}
use Rattle.run_laws.specs.Progress.{Progress, whole_state}
use Rattle.run_laws.specs.Sound.{IsSound}

-- the key is that of one of the tasks, or of one that came of it: later, and with a path that goes on from its path
abbrev pub ComesOf : List Task → Key → Type 0
ComesOf tasks key = (task : Task) × Contains tasks task × ((task.key ≡ key) ⊎ ((key_cmp task.key key ≡ Less) × (is_prefix task.key.path key.path ≡ true)))

module _ {V : Type 0} (app : Application V) (start : Progress V) (cells : List V) where
  -- where a mark says that the limit was passed, the sequential run from the start doesn't end within what was left of it
  abbrev pub HasTrueMark : Progress V → Type 0
  HasTrueMark now = (created limit : ℕ) → now.over ≡ Some (cause.Budget created limit) →
      (limit ≡ start.limit) × (limit < created) × (run_from app.act (start.limit - start.ended) end (whole_state start cells) ≡ None)

  -- Since the start, whose whole cells are these, tasks have ended that logged the entries, and the first of all entries were drained.
  -- The execution is sound with the jobs and the whole cells, and its whole state stands for the rest of the sequential run from the
  -- start. What was drained, which is earlier than all that is pending, and what the log has still are the start's log joined with the
  -- entries. All that has ended or is pending came of the start's tasks.
  pub record HasCome (drained entries : List Entry) (now : Progress V) (jobs : List (Job V)) (values : List V) : Type 0 where
    pub sound : IsSound app now jobs values
    pub stands : StandsFor app (whole_state start cells) entries (whole_state now values)
    pub logged : joined_by_key start.log entries ≡ drained ++ now.log
    pub earlier : ComeBefore drained (tasks_of now.nodes)
    pub ended : now.ended ≡ start.ended + length entries
    pub limit : now.limit ≡ start.limit
    pub true_mark : HasTrueMark now
    pub entries_descend : AllByRecursion (λ entry. ComesOf (tasks_of start.nodes) entry.0) entries
    pub tasks_descend : AllByRecursion (λ task. ComesOf (tasks_of start.nodes) task.key) (tasks_of now.nodes)
