-- What the act of one task makes of the parts of a run.
use Rattle.std.specs.Prelude.{◌≡◌, ◌<◌, ◌+◌, ℕ, length}
use Rattle.task_order.specs.declared.task.Task.{Task}
use Rattle.task_order.specs.TaskList.{put_all, without}
use Rattle.cell_store.specs.Values.{homes, values_of}
use Rattle.output_log.specs.Entries.{with_entry}
use Rattle.app_laws.specs.Applications.{Application}
use Rattle.app_laws.specs.Execution.{children_from}
use Rattle.commuting.specs.States.{after_task}
use Rattle.crew.specs.declared.answers.OverCause.{OverCause}
use Rattle.crew.specs.declared.answers.OverCause.TheVariants as cause
use Rattle.list_rounds.specs.declared.parts.RunParts.{RunParts}
use Rattle.list_rounds.specs.Course.{state_in}

module _ {V : Type 0} (app : Application V) where
  -- the task has acted on the cells and left the pending ones, its children have come in, and its text is logged
  pub record HasActed (old : RunParts V) (task : Task) (now : RunParts V) : Type 0 where
    pub store : now.store ≡ homes (app.act task (values_of old.store)).cells
    pub pending : now.pending ≡ put_all (children_from task.key 0 (app.act task (values_of old.store)).children) (without task.key old.pending)
    pub log : now.log.entries ≡ with_entry task.key (app.act task (values_of old.store)).text old.log.entries
    pub text : now.text ≡ old.text
    pub ended : now.ended ≡ old.ended + 1

  -- once the task has acted, there are more tasks than the limit; want of memory may come at any time
  abbrev pub IsTooMany : RunParts V → Task → ℕ → OverCause → Type 0
  IsTooMany old task limit (cause.Budget created most) =
      (created ≡ old.ended + 1 + length (after_task app.act task (state_in old)).pending) × (most ≡ limit) × (limit < created)
  IsTooMany old task limit cause.NoRoom = Unit {0}
