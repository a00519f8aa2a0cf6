-- What is kept of every engine, and what its calls find.
use Rattle.std.specs.Prelude.{◌≡◌, ◌≢◌, ◌+◌, ◌<◌, ◌≤◌, ℕ, Bool, true, List, Contains, length, Some}
use Rattle.std.specs.List.{AllByRecursion}
use Rattle.task_order.specs.declared.key.Key.{Key}
use Rattle.task_order.specs.declared.start.Start.{Start}
use Rattle.task_order.specs.declared.task.Task.{Task}
use Rattle.rw_sets.specs.Accesses.{IsWithin}
use Rattle.cell_store.specs.declared.cell.Cell.{Cell}
use Rattle.kdg_graph.specs.Node.{Node}
use Rattle.kdg_graph.specs.Edges.{laters_of}
use Rattle.kdg_graph.specs.Nodes.{ids_of, node_with_key, tasks_of}
use Rattle.app_laws.specs.declared.app.SetAnswer.TheVariants as answer
use Rattle.app_laws.specs.Applications.{Application, AreFitTasks, FixedSetsAreKnown, set_in}
use Rattle.app_laws.specs.Order.{Pairwise}
use Rattle.crew.specs.declared.answers.Claim.TheVariants as claim
use Rattle.crew.specs.Jobs.{IsPerformed, MayRun}
use Rattle.run_laws.specs.Answers.{jobs_after}
use Rattle.run_laws.specs.Events.{IsOfClear, clear_nodes}
use Rattle.run_laws.specs.Jobs.{Claim, Done, Job}
use Rattle.run_laws.specs.Progress.{Progress}
use Rattle.run_laws.specs.Sound.{IsSound}
use Rattle.graph_update.specs.declared.agenda.Tally.{Tally}
use Rattle.graph_update.specs.declared.answers.BeginFault.{BeginFault}
use Rattle.graph_update.specs.declared.answers.BeginFault.TheVariants as fault
use Rattle.graph_update.specs.declared.ready.Ready.{Ready}

-- an application, and how far its execution has come
pub record EngineState (A : Type 0) (V : Type 0) : Type 0 where
  pub app : A
  pub progress : Progress V

-- the greatest number of tasks that an execution may be allowed
abbrev pub most_tasks : ℕ
most_tasks = 1_000_000_000

-- how far an execution has come, with these cells and nodes
abbrev pub progress_of : {V : Type 0} → List (Cell V) → List Node → Tally → Progress V
progress_of cells nodes tally = record {
  cells = cells;
  nodes = nodes;
  log = tally.log.entries;
  created = tally.ended + length nodes;
  ended = tally.ended;
  limit = tally.limit;
  over = tally.over;
}

-- some node is running
pub record SomeRuns (nodes : List Node) : Type 0 where
  pub node : Node
  pub there : Contains nodes node
  pub running : node.running ≡ true

-- at most one step for each of the later nodes whose recorded sets conflict with that of the node of a key
abbrev pub IsOneStepEach : List Node → Key → ℕ → ℕ → Type 0
IsOneStepEach nodes key before after = (node : Node) → node_with_key nodes key ≡ Some node → after ≤ before + length (laters_of nodes node)

-- where the sets are fixed, none is asked for
abbrev pub AsksForNoFixedSet : Bool → ℕ → ℕ → Type 0
AsksForNoFixedSet fixed before after = fixed ≡ true → after ≡ before

-- an execution did not begin: there are more first tasks than allowed, or else no memory was to be had
abbrev pub IsBeginFault : List Start → ℕ → BeginFault → Type 0
IsBeginFault first budget (fault.Budget asked limit) = (asked ≡ length first) × (limit ≡ budget) × (budget < length first)
IsBeginFault first budget fault.NoRoom = length first ≤ budget

-- that no node is clear is answered only where some node is running
abbrev pub SomeRunsWhereNotYet : {V : Type 0} → List Node → Claim V → Type 0
SomeRunsWhereNotYet nodes claim.NotYet = SomeRuns nodes
SomeRunsWhereNotYet nodes answer = Unit {0}

module _ {V : Type 0} (app : Application V) where
  -- The ready nodes are clear, each named once. Where no task has ended since the last look, they are just the clear ones, in key order.
  pub record AreReady (nodes : List Node) (ready : Ready) : Type 0 where
    pub clear : AllByRecursion (IsOfClear app nodes) ready.ids.items
    pub once : Pairwise (λ id other. id ≢ other) ready.ids.items
    pub all : ready.is_current ≡ true → ready.ids.items ≡ ids_of (clear_nodes app nodes)

  -- where the sets are fixed, each recorded set is the one that a walk finds, whatever the cells hold
  abbrev pub HaveFixedSets : List Node → Type 0
  HaveFixedSets nodes = FixedSetsAreKnown app → (cells : List (Cell V)) → AllByRecursion (λ node. app.walk node.task.body cells ≡ answer.Known node.set) nodes

  -- what is known of pending tasks: clear ones among them, the sets of all where sets are fixed, and what is told of them
  pub record AreKnown (Tells : List Task → Type 0) (nodes : List Node) (ready : Ready) : Type 0 where
    pub clear : AreReady nodes ready
    pub fixed : HaveFixedSets nodes
    pub told : Tells (tasks_of nodes)

  -- the nodes' tasks are the application's, and in some cells of it each recorded set has all of the declared one
  pub record AreCovered (nodes : List Node) : Type 0 where
    pub tasks : AreFitTasks app (tasks_of nodes)
    pub cells : List V
    pub fit : app.is_fit_cells cells
    pub within : AllByRecursion (λ node. IsWithin (set_in app cells node.task) node.set) nodes

  -- an execution that is sound with some jobs and some whole cells, and within what may be allowed
  pub record IsKept (progress : Progress V) : Type 0 where
    pub jobs : List (Job V)
    pub values : List V
    pub sound : IsSound app progress jobs values
    pub limited : progress.limit ≤ most_tasks

  -- whatever the jobs and the whole cells are with which an execution is sound, it is sound with them after a change that leaves both alone
  abbrev pub StaysSound : Progress V → Progress V → Type 0
  StaysSound old now = (jobs : List (Job V)) (values : List V) → IsSound app old jobs values → IsSound app now jobs values

  -- it is sound with the jobs after a claim
  abbrev pub ClaimStaysSound : Progress V → Progress V → Claim V → Type 0
  ClaimStaysSound old now answer = (jobs : List (Job V)) (values : List V) → IsSound app old jobs values → IsSound app now (jobs_after answer jobs) values

  -- what is claimed may be performed
  abbrev pub IsToRun : Claim V → Type 0
  IsToRun (claim.Job job) = MayRun app job
  IsToRun answer = Unit {0}

  -- where it was sound with some jobs, of which this one is done, it is sound with the others
  abbrev pub FinishStaysSound : Progress V → Done V → Progress V → Type 0
  FinishStaysSound old done now = (jobs others : List (Job V)) (job : Job V) (values : List V) →
      IsSound app old jobs values → IsPerformed app jobs done job others → IsSound app now others (app.act job.task values).cells
