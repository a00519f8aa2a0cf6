-- The end of a task whose new values are home already.
use Rattle.std.specs.Prelude.{◌≡◌, ℕ, ◌<◌, ◌≤◌, List}
use Rattle.task_order.specs.declared.task.Task.{Task}
use Rattle.cell_store.specs.declared.cell.Cell.{Cell}
use Rattle.cell_store.specs.Cells.{cells_given}
use Rattle.cell_store.specs.Part.{Part}
use Rattle.kdg_graph.specs.declared.node_id.NodeId.{NodeId}
use Rattle.app_laws.specs.declared.child.Child.{Child}
use Rattle.app_laws.specs.Applications.{Application}
use Rattle.crew.specs.declared.answers.OverCause.{OverCause}
use Rattle.crew.specs.declared.answers.OverCause.TheVariants as cause
use Rattle.run_laws.specs.Jobs.{Done}
use Rattle.run_laws.specs.Laws.{IsDone}
use Rattle.run_laws.specs.Events.{IsFinished}
use Rattle.run_laws.specs.Progress.{Progress}

-- a task that was performed, by what it did
abbrev pub done_of : {V : Type 0} → NodeId → Task → Part V → List Child → List ℕ → Done V
done_of node task bundle children text = record { node = node; task = task; effect = record { bundle = bundle; children = children; text = text } }

-- why a task with which `created` tasks are created isn't ended: they are more than may be, or else no memory was to be had
abbrev pub IsEndFault : ℕ → ℕ → OverCause → Type 0
IsEndFault created limit (cause.Budget asked most) = (asked ≡ created) × (most ≡ limit) × (limit < created)
IsEndFault created limit cause.NoRoom = created ≤ limit

module _ {V : Type 0} (app : Application V) where
  -- the task of the node was performed, with these children and this text, and of the execution nothing has changed but that its new values are home
  pub record IsBackHome (moment : Progress V) (node : NodeId) (children : List Child) (text : List ℕ) : Type 0 where
    pub away : List (Cell V)
    pub task : Task
    pub bundle : Part V
    pub is_done : IsDone app (record moment { cells = away }) (done_of node task bundle children text)
    pub given : moment.cells ≡ cells_given away bundle

  -- however the cells were while the task was performed, it is finished
  abbrev pub EndsAtHome : Progress V → NodeId → List Child → List ℕ → Progress V → Type 0
  EndsAtHome moment node children text now = (back : IsBackHome moment node children text) →
      IsFinished app (record moment { cells = back.away }) (done_of node back.task back.bundle children text) now
