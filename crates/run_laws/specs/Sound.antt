-- What holds of an execution while some of its tasks are running.
use Rattle.std.specs.Prelude.{◌≡◌, ◌≢◌, ◌↔◌, ◌&&◌, not, ℕ, ◌+◌, ◌<◌, ◌≤◌, List, length, map, Some, Bool, true, false, IsTrue}
use Rattle.std.specs.List.{AllByRecursion, list_any}
use Rattle.std.specs.Ordering.{is_eq}
use Rattle.task_order.specs.Key.{key_cmp}
use Rattle.rw_sets.specs.Accesses.{IsWithin, writes}
use Rattle.cell_store.specs.declared.cell.Cell.{Cell}
use Rattle.cell_store.specs.declared.cell.Cell.TheVariants.{Home, Out}
use Rattle.cell_store.specs.Cells.{cell_at, part_of, AreHome}
use Rattle.kdg_graph.specs.Node.{Node}
use Rattle.kdg_graph.specs.Nodes.{IsGraph, node_with_key, tasks_of, earlier_than}
use Rattle.kdg_graph.specs.Edges.{is_blocked}
use Rattle.output_log.specs.Entries.{IsInKeyOrder}
use Rattle.commuting.specs.Clear.{IsReady}
use Rattle.app_laws.specs.Applications.{Application, AgreesWith, IsInRange, set_in}
use Rattle.app_laws.specs.Order.{Pairwise, is_prefix}
use Rattle.run_laws.specs.Jobs.{Job}
use Rattle.run_laws.specs.Progress.{Progress, whole_state}

module _ {V : Type 0} (app : Application V) where
  -- The counts add up, and the log is in order. No node's path is a prefix of a logged one, and logged paths differ.
  pub record KeysAndCounts (progress : Progress V) : Type 0 where
    pub graph : IsGraph progress.nodes
    pub log_ordered : IsInKeyOrder progress.log
    pub log_differs : Pairwise (λ entry other. entry.0.path ≢ other.0.path) progress.log
    pub unlogged : AllByRecursion (λ task. AllByRecursion (λ entry. is_prefix task.key.path entry.0.path ≡ false) progress.log) (tasks_of progress.nodes)
    pub created : progress.created ≡ progress.ended + length progress.nodes
    pub within : progress.created ≤ progress.limit
    pub logged : length progress.log ≤ progress.ended

  -- the running node of a job has the id that the job names, its task, and the set of its bundle as recorded set
  pub record IsRunningAs (job : Job V) (node : Node) : Type 0 where
    pub id : node.id ≡ job.node
    pub task : node.task ≡ job.task
    pub set : node.set ≡ job.bundle.set
    pub running : node.running ≡ true

  abbrev pub IsOfNode : List Node → Job V → Type 0
  IsOfNode nodes job = (node : Node) × (node_with_key nodes job.task.key ≡ Some node) × IsRunningAs job node

  abbrev pub HasJob : List (Job V) → Node → Type 0
  HasJob jobs node = IsTrue (list_any (λ job. is_eq (key_cmp job.task.key node.task.key)) jobs)

  -- the jobs are those of the running nodes, each once, in any order
  pub record JobsMatch (nodes : List Node) (jobs : List (Job V)) : Type 0 where
    pub named : AllByRecursion (IsOfNode nodes) jobs
    pub all : AllByRecursion (λ node. node.running ≡ true → HasJob jobs node) nodes
    pub own : Pairwise (λ job other. job.task.key ≢ other.task.key) jobs

  -- whether some job's bundle writes the location
  abbrev pub is_written : List (Job V) → ℕ → Bool
  is_written jobs loc = list_any (λ job. writes job.bundle.set loc) jobs

  -- The whole cells: these are the values of the cells that are home, and of those that are away each where it is. Away are
  -- just the cells that some bundle writes.
  pub record IsWhole (cells : List (Cell V)) (jobs : List (Job V)) (values : List V) : Type 0 where
    pub home : AgreesWith cells values
    pub away : (loc : ℕ) → loc < length cells → (cell_at cells loc ≡ Out) ↔ IsTrue (is_written jobs loc)
    pub bundles : AllByRecursion (λ job. job.bundle ≡ part_of (map Home values) job.bundle.set) jobs

  -- a recorded set has all of the declared one, and is it where the task is running or no cell of it is away
  pub record Covers (cells : List (Cell V)) (values : List V) (node : Node) : Type 0 where
    pub in_range : IsInRange app node.set
    pub within : IsWithin (set_in app values node.task) node.set
    pub running : node.running ≡ true → node.set ≡ set_in app values node.task
    pub home : AreHome cells node.set → node.set ≡ set_in app values node.task

  -- no earlier node's recorded set conflicts with that of the node, and its task is safe against the earlier ones
  abbrev pub is_unblocked : List Node → Node → Bool
  is_unblocked nodes node = not (is_blocked nodes node) && app.is_safe node.task (tasks_of (earlier_than node.task.key nodes))

  -- an execution whose running tasks are these jobs, and whose whole cells have these values
  pub record IsSound (progress : Progress V) (jobs : List (Job V)) (values : List V) : Type 0 where
    pub keys_and_counts : KeysAndCounts progress
    pub outs_match : JobsMatch progress.nodes jobs
    pub whole : IsWhole progress.cells jobs values
    pub ready : IsReady app (whole_state progress values)
    pub recorded_covers : AllByRecursion (Covers progress.cells values) progress.nodes
    pub running_unblocked : AllByRecursion (λ node. node.running ≡ true → is_unblocked progress.nodes node ≡ true) progress.nodes
