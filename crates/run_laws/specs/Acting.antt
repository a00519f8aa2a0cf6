-- Tasks that act one after the other, with nothing between the claim of one and its end.
use Rattle.std.specs.Prelude.{◌≡◌, ◌⊎◌, ℕ, ◌+◌, List, [], ◌∷◌, length, Some, unwrap_or}
use Rattle.task_order.specs.declared.task.Task.{Task}
use Rattle.kdg_graph.specs.declared.node_id.NodeId.{NodeId}
use Rattle.kdg_graph.specs.Node.{Node}
use Rattle.kdg_graph.specs.Nodes.{node_at, task_at}
use Rattle.app_laws.specs.Applications.{Application}
use Rattle.commuting.specs.States.{after_task}
use Rattle.crew.specs.declared.answers.OverCause.{OverCause}
use Rattle.crew.specs.declared.answers.OverCause.TheVariants as cause
use Rattle.run_laws.specs.Jobs.{Done, Job}
use Rattle.run_laws.specs.Events.{IsClaimed, IsFinished, IsOverLimit, budget_marked, marked}
use Rattle.crew.specs.Jobs.{IsPerformed}
use Rattle.run_laws.specs.Progress.{Progress, whole_state}
use Rattle.run_laws.specs.Sound.{IsSound}

-- a task that stands for none
abbrev pub no_task : Task
no_task = record { key = record { prio = 0; path = [] }; body = record { kind = 0; at = 0; arg = 0 } }

-- the task of the node with the id, where there is one
abbrev pub task_named : List Node → NodeId → Task
task_named nodes id = unwrap_or (task_at nodes id) no_task

-- something holds of these jobs, or of these and a job of the node of the id
abbrev pub HoldsOfJobs : {V : Type 0} → NodeId → List (Job V) → (List (Job V) → Type 0) → Type 0
HoldsOfJobs {V} id jobs P = P jobs ⊎ ((job : Job V) × (job.node ≡ id) × P (job ∷ jobs))

module _ {V : Type 0} (app : Application V) where
  -- a claim, with some pick, gives the job of the node
  pub record IsStarted (old : Progress V) (id : NodeId) (now : Progress V) (job : Job V) : Type 0 where
    pub pick : ℕ
    pub claimed : IsClaimed app old pick now job
    pub node : job.node ≡ id

  -- the task of the node is claimed, and its job is performed
  pub record IsPlayed (old : Progress V) (id : NodeId) (midway : Progress V) (done : Done V) : Type 0 where
    pub job : Job V
    pub started : IsStarted old id midway job
    pub performed : IsPerformed app (job ∷ []) done job []

  -- the task of the node is claimed, performed and ended
  pub record HasActed (old : Progress V) (id : NodeId) (now : Progress V) : Type 0 where
    pub midway : Progress V
    pub done : Done V
    pub played : IsPlayed old id midway done
    pub within : ¬ IsOverLimit app midway done
    pub finished : IsFinished app midway done now

  -- it is claimed and performed, and its children are more than may be created, which the mark tells
  pub record IsTooMany (old : Progress V) (id : NodeId) (now : Progress V) (created limit : ℕ) : Type 0 where
    pub midway : Progress V
    pub done : Done V
    pub played : IsPlayed old id midway done
    pub above : IsOverLimit app midway done
    pub created_is : created ≡ midway.created + length done.effect.children
    pub limit_is : limit ≡ midway.limit
    pub after : now ≡ budget_marked app midway done

  -- it is claimed and performed, within what may be created, but for want of memory it isn't ended, which the mark tells
  pub record IsStuck (old : Progress V) (id : NodeId) (now : Progress V) : Type 0 where
    pub midway : Progress V
    pub done : Done V
    pub played : IsPlayed old id midway done
    pub within : ¬ IsOverLimit app midway done
    pub after : now ≡ marked app midway cause.NoRoom

  -- it hasn't acted: for too many children; or for want of memory, which leaves all as it was, or the task claimed
  abbrev pub IsActFault : Progress V → NodeId → Progress V → OverCause → Type 0
  IsActFault old id now (cause.Budget created limit) = IsTooMany old id now created limit
  IsActFault old id now cause.NoRoom = (now ≡ old) ⊎ IsStuck old id now

  -- whatever the jobs and the whole cells are with which an execution is sound, once the task of the node has acted it is sound with the same
  -- jobs, and with the whole cells as that task makes them
  abbrev pub ActStaysSound : Progress V → NodeId → Progress V → Type 0
  ActStaysSound old id now = (jobs : List (Job V)) (values : List V) (node : Node) → node_at old.nodes id ≡ Some node →
      IsSound app old jobs values → IsSound app now jobs (app.act node.task values).cells

  abbrev pub ActsKeepSound : Type 0
  ActsKeepSound = (old now : Progress V) (id : NodeId) → HasActed old id now → ActStaysSound old id now

  -- where it hasn't acted, the execution is sound with the same whole cells, and with the same jobs or with one of that node more
  abbrev pub RefusedActStaysSound : Progress V → NodeId → Progress V → Type 0
  RefusedActStaysSound old id now = (jobs : List (Job V)) (values : List V) →
      IsSound app old jobs values → HoldsOfJobs id jobs (λ held. IsSound app now held values)

  abbrev pub ActFaultsKeepSound : Type 0
  ActFaultsKeepSound = (old now : Progress V) (id : NodeId) (fault : OverCause) → IsActFault old id now fault → RefusedActStaysSound old id now

  -- where it has acted, the whole cells and the pending tasks are what the operator makes of those before
  abbrev pub ActsActOnWhole : Type 0
  ActsActOnWhole = (old now : Progress V) (id : NodeId) (node : Node) (jobs : List (Job V)) (values : List V) → HasActed old id now → node_at old.nodes id ≡ Some node →
      IsSound app old jobs values → whole_state now (app.act node.task values).cells ≡ after_task app.act node.task (whole_state old values)
