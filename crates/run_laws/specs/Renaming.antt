-- An execution whose pending tasks become first tasks.
use Rattle.std.specs.Prelude.{◌≡◌, List, [], length}
use Rattle.task_order.specs.declared.start.Start.{Start}
use Rattle.task_order.specs.declared.task.Task.{Task}
use Rattle.cell_store.specs.Values.{values_of}
use Rattle.kdg_graph.specs.Node.{Node}
use Rattle.kdg_graph.specs.Nodes.{tasks_of}
use Rattle.app_laws.specs.Applications.{Application, AreFitStarts, AreFitTasks}
use Rattle.app_laws.specs.Names.{AreListed}
use Rattle.run_laws.specs.Answers.{AreFirstNodes}
use Rattle.run_laws.specs.Progress.{Progress}
use Rattle.run_laws.specs.Sound.{IsSound}

module _ {V : Type 0} (app : Application V) where
  -- The pending tasks, in the order of their paths, are first tasks with the sets that they declare in the cells. The log is
  -- empty, and nothing else changes.
  pub record IsRenamed (old now : Progress V) : Type 0 where
    pub first : List Start
    pub listed : AreListed (tasks_of old.nodes) first
    pub nodes : AreFirstNodes app (values_of old.cells) first now.nodes
    pub after : now ≡ record old { nodes = now.nodes; log = [] }

  -- while nothing is running, such an execution is as sound
  abbrev pub RenamingsKeepSound : Type 0
  RenamingsKeepSound = (old now : Progress V) (values : List V) → IsSound app old [] values → IsRenamed old now → IsSound app now [] values

  -- tasks of the application that are listed as first tasks are its first tasks
  abbrev pub ListedTasksFit : Type 0
  ListedTasksFit = (pending : List Task) (first : List Start) → AreListed pending first → AreFitTasks app pending → AreFitStarts app first

  -- as many first nodes as first tasks
  abbrev pub FirstNodesAreAsMany : Type 0
  FirstNodesAreAsMany = (cells : List V) (first : List Start) (nodes : List Node) → AreFirstNodes app cells first nodes → length nodes ≡ length first
