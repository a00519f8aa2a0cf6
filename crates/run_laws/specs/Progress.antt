-- How far an execution has come, as plain data.
use Rattle.std.specs.Prelude.{ℕ, List, Option}
use Rattle.output_log.specs.Entries.{Entry}
use Rattle.cell_store.specs.declared.cell.Cell.{Cell}
use Rattle.kdg_graph.specs.Node.{Node}
use Rattle.kdg_graph.specs.Nodes.{tasks_of}
use Rattle.commuting.specs.States.{State, state_of}
use Rattle.crew.specs.declared.answers.OverCause.{OverCause}

-- the cells, some of which are away with running tasks; the pending tasks as nodes; the texts of ended tasks that haven't
-- been drained; how many tasks were created, have ended, and may be created; and why nothing more is to be claimed
pub record Progress (V : Type 0) : Type 0 where
  pub cells : List (Cell V)
  pub nodes : List Node
  pub log : List Entry
  pub created : ℕ
  pub ended : ℕ
  pub limit : ℕ
  pub over : Option OverCause

-- the whole cells, and the pending tasks, running or not
abbrev pub whole_state : {V : Type 0} → Progress V → List V → State V
whole_state progress values = state_of values (tasks_of progress.nodes)
