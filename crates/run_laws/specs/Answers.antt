-- What an execution begins with, and what its calls answer and leave.
use Rattle.std.specs.Prelude.{◌≡◌, ◌≢◌, ℕ, ◌+◌, List, [], ◌∷◌, length, map, Some, None, false}
use Rattle.std.specs.List.{AllByRecursion}
use Rattle.task_order.specs.declared.start.Start.{Start}
use Rattle.task_order.specs.TaskList.{put_all}
use Rattle.cell_store.specs.declared.cell.Cell.TheVariants.{Home}
use Rattle.kdg_graph.specs.Node.{Node}
use Rattle.kdg_graph.specs.Nodes.{IsGraph, tasks_of}
use Rattle.app_laws.specs.Applications.{Application, set_in}
use Rattle.app_laws.specs.Execution.{first_from}
use Rattle.crew.specs.declared.answers.Claim.TheVariants as claim
use Rattle.crew.specs.declared.answers.FinishFault.TheVariants as fault
use Rattle.run_laws.specs.Events.{IsClaimed, clear_nodes, IsOverLimit, budget_marked}
use Rattle.run_laws.specs.Jobs.{Claim, FinishFault, Done, Job}
use Rattle.run_laws.specs.Progress.{Progress}

-- the jobs in hand after a claim
abbrev pub jobs_after : {V : Type 0} → Claim V → List (Job V) → List (Job V)
jobs_after (claim.Job job) jobs = job ∷ jobs
jobs_after answer jobs = jobs

module _ {V : Type 0} (app : Application V) where
  -- the first tasks as nodes of a graph, with the sets that they declare in the cells, none of them running
  pub record AreFirstNodes (cells : List V) (first : List Start) (nodes : List Node) : Type 0 where
    pub graph : IsGraph nodes
    pub tasks : tasks_of nodes ≡ put_all (first_from 0 first) []
    pub sets : AllByRecursion (λ node. node.set ≡ set_in app cells node.task) nodes
    pub none_runs : AllByRecursion (λ node. node.running ≡ false) nodes

  -- at the beginning the first tasks are nodes of a graph with their declared sets, all cells are home, and nothing has happened
  pub record IsBegun (cells : List V) (first : List Start) (budget : ℕ) (progress : Progress V) : Type 0 where
    pub cells_are : progress.cells ≡ map Home cells
    pub graph : IsGraph progress.nodes
    pub tasks_are : tasks_of progress.nodes ≡ put_all (first_from 0 first) []
    pub sets_are : AllByRecursion (λ node. node.set ≡ set_in app cells node.task) progress.nodes
    pub none_runs : AllByRecursion (λ node. node.running ≡ false) progress.nodes
    pub nothing_logged : progress.log ≡ []
    pub created_are : progress.created ≡ length first
    pub none_ended : progress.ended ≡ 0
    pub limit_is : progress.limit ≡ budget
    pub not_over : progress.over ≡ None

  -- what a claim answers: the over mark where one stands; else that all has ended where there is no node; else that none is
  -- clear where that is so; else a job
  abbrev pub IsClaimAnswer : Progress V → ℕ → Progress V → Claim V → Type 0
  IsClaimAnswer old pick now (claim.Over cause) = (old.over ≡ Some cause) × (now ≡ old)
  IsClaimAnswer old pick now claim.Ended = (old.over ≡ None) × (old.nodes ≡ []) × (now ≡ old)
  IsClaimAnswer old pick now claim.NotYet = (old.over ≡ None) × (old.nodes ≢ []) × (clear_nodes app old.nodes ≡ []) × (now ≡ old)
  IsClaimAnswer old pick now (claim.Job job) = (old.over ≡ None) × IsClaimed app old pick now job

  -- the refusal of a finish: over the limit, which leaves a mark, or want of memory, which comes only within the limit and leaves all as it was
  abbrev pub IsFinishRefusal : Progress V → Done V → Progress V → FinishFault V → Type 0
  IsFinishRefusal old done now (fault.Budget back created limit) = (back ≡ done) × IsOverLimit app old done
      × (created ≡ old.created + length done.effect.children) × (limit ≡ old.limit) × (now ≡ budget_marked app old done)
  IsFinishRefusal old done now (fault.NoRoom back) = (back ≡ done) × ¬ IsOverLimit app old done × (now ≡ old)
