-- What is known of an engine in a turn, whatever other seats have.
use Rattle.std.specs.Prelude.{◌≡◌, ◌≢◌, List, ◌++◌, map, true, Contains, Option, None}
use Rattle.std.specs.List.{AllByRecursion}
use Rattle.std.specs.declared.cmp.Ordering.TheVariants.{Less}
use Rattle.task_order.specs.declared.key.Key.{Key}
use Rattle.task_order.specs.Key.{key_cmp}
use Rattle.rw_sets.specs.Accesses.{Conflicts}
use Rattle.cell_store.specs.declared.cell.Cell.TheVariants.{Home}
use Rattle.cell_store.specs.Cells.{part_of}
use Rattle.kdg_graph.specs.Node.{Node}
use Rattle.kdg_graph.specs.Nodes.{node_with_key}
use Rattle.app_laws.specs.Applications.{AgreesWith, Application}
use Rattle.app_laws.specs.Order.{Pairwise}
use Rattle.crew.specs.declared.answers.OverCause.{OverCause}
use Rattle.crew.specs.Jobs.{IsPerformed}
use Rattle.run_laws.specs.Jobs.{Done, Job}
use Rattle.run_laws.specs.Laws.{IsDone}
use Rattle.run_laws.specs.Moves.{Moved}
use Rattle.run_laws.specs.Progress.{Progress}
use Rattle.run_laws.specs.Sound.{IsOfNode}
use Rattle.graph_update.specs.Engine.{EngineState}
use Rattle.worker_gate.specs.Fits.{Continues, Sum, beside}
use Rattle.worker_gate.specs.Steps.{IsFound, Seen}

-- No earlier node conflicts with a running one, so no two running nodes conflict.
pub record RunApart (nodes : List Node) : Type 0 where
  pub unblocked : (node other : Node) → Contains nodes node → Contains nodes other → node.running ≡ true → key_cmp other.task.key node.task.key ≡ Less → ¬ Conflicts other.set node.set
  pub apart : (node other : Node) → Contains nodes node → Contains nodes other → node.running ≡ true → other.running ≡ true → node.task.key ≢ other.task.key → ¬ Conflicts node.set other.set

module _ {V : Type 0} (app : Application V) where
  -- The jobs are those of running nodes, with their ids, tasks and sets, each of another task, and their bundles have the values of the
  -- whole cells, which are those of the cells that are home. No node has one of the keys that ended.
  pub record IsKnown (now : Progress V) (jobs : List (Job V)) (ended : List Key) : Type 0 where
    pub running : AllByRecursion (IsOfNode app now.nodes) jobs
    pub own : Pairwise (λ job other. job.task.key ≢ other.task.key) jobs
    pub values : List V
    pub home : AgreesWith now.cells values
    pub bundles : AllByRecursion (λ job. job.bundle ≡ part_of (map Home values) job.bundle.set) jobs
    pub apart : RunApart now.nodes
    pub gone : AllByRecursion (λ key. node_with_key now.nodes key ≡ None) ended

  -- of an execution that goes on from an origin, where others have jobs too
  abbrev pub SumsAreKnown : Type 0
  SumsAreKnown = (origin now : Progress V) (jobs : List (Job V)) (ended : List Key) (over : Option OverCause) (others : Sum V) →
      Continues app origin now (beside jobs ended over others) → IsKnown now jobs ended

module _ {A V : Type 0} (meaning : A → Application V) where
  -- of the engine that a turn finds
  abbrev pub FoundIsKnown : Type 0
  FoundIsKnown = (v : Seen A V) (found : EngineState A V) → IsFound meaning v found → IsKnown (meaning found.app) found.progress v.jobs v.finished

  -- and of what it is made to in the turn, with the jobs that the seat has then and the keys that ended besides
  abbrev pub MovedIsKnown : Type 0
  MovedIsKnown = (v : Seen A V) (found : EngineState A V) (now : Progress V) (jobs : List (Job V)) (ended : List Key) →
      IsFound meaning v found → Moved (meaning found.app) found.progress v.jobs now jobs ended → IsKnown (meaning found.app) now jobs (v.finished ++ ended)

  -- what was performed of these jobs may be ended
  abbrev pub PerformedMayEnd : Type 0
  PerformedMayEnd = (v : Seen A V) (found : EngineState A V) (now : Progress V) (jobs : List (Job V)) (ended : List Key) (done : Done V) (job : Job V) (others : List (Job V)) →
      IsFound meaning v found → Moved (meaning found.app) found.progress v.jobs now jobs ended → IsPerformed (meaning found.app) jobs done job others → IsDone (meaning found.app) now done
