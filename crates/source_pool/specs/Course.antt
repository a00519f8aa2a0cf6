-- How far rounds of claims and ends have come since an execution in which nothing was running.
use Rattle.std.specs.Prelude.{◌≡◌, ◌≢◌, ℕ, zero, suc, List, [], map, None}
use Rattle.std.specs.List.{AllByRecursion}
use Rattle.task_order.specs.declared.task.Task.{Task}
use Rattle.task_order.specs.TaskList.{IsAscending}
use Rattle.cell_store.specs.Values.{values_of}
use Rattle.output_log.specs.Entries.{Entry, joined_texts}
use Rattle.kdg_graph.specs.declared.node_id.NodeId.{NodeId}
use Rattle.kdg_graph.specs.Node.{Node}
use Rattle.kdg_graph.specs.Nodes.{ids_of, tasks_of}
use Rattle.app_laws.specs.Order.{Pairwise}
use Rattle.app_laws.specs.Applications.{Application, IsEffect, set_in}
use Rattle.commuting.specs.Rounds.{after_round}
use Rattle.commuting.specs.States.{State, after_tasks}
use Rattle.run_laws.specs.Course.{HasCome}
use Rattle.run_laws.specs.Jobs.{Done, Job}
use Rattle.run_laws.specs.Progress.{Progress, whole_state}
use Rattle.run_laws.specs.Rest.{IsClearNode}

-- the tasks of jobs, in order
abbrev pub job_tasks : {V : Type 0} → List (Job V) → List Task
job_tasks jobs = map (λ job. job.task) jobs

-- no two jobs have one key
abbrev pub HaveOwnKeys : {V : Type 0} → List (Job V) → Type 0
HaveOwnKeys jobs = Pairwise (λ job other. job.task.key ≢ other.task.key) jobs

-- a point of a run: where the run began, the whole state at the point, and the text that was drained on the way to it
pub record RunPoint (V : Type 0) : Type 0 where
  pub start : Progress V
  pub state : State V
  pub text : List ℕ

module _ {V : Type 0} (app : Application V) where
  -- the job is performed: its task with what its operator makes of its bundle
  pub record IsJobDone (job : Job V) (done : Done V) : Type 0 where
    pub node : job.node ≡ done.node
    pub task : job.task ≡ done.task
    pub effect : IsEffect app job.task job.bundle done.effect

  -- this number of rounds, each of which had a task, lead from one state to the other
  abbrev pub LeadsByRounds : ℕ → State V → State V → Type 0
  LeadsByRounds zero state now = now ≡ state
  LeadsByRounds (suc rounds) state now = (state.pending ≢ []) × LeadsByRounds rounds (after_round app state) now

  module _ (start : Progress V) (cells : List V) where
    -- Since the start this text was drained, and nothing is given up: the execution has come here with these jobs in hand.
    pub record IsOnCourse (text : List ℕ) (now : Progress V) (jobs : List (Job V)) (values : List V) : Type 0 where
      pub drained : List Entry
      pub entries : List Entry
      pub come : HasCome app start cells drained entries now jobs values
      pub text_is : text ≡ joined_texts drained
      pub over : now.over ≡ None

    -- between two rounds: nothing is running, the whole state is this one, and this text was drained
    pub record IsAtRest (state : State V) (text : List ℕ) (now : Progress V) : Type 0 where
      pub values : List V
      pub course : IsOnCourse text now [] values
      pub state_is : whole_state now values ≡ state

    -- while jobs are drawn: the whole state is the one in which the round began, and each recorded set is the declared one
    pub record IsDrawing (state : State V) (text : List ℕ) (now : Progress V) (jobs : List (Job V)) : Type 0 where
      pub values : List V
      pub course : IsOnCourse text now jobs values
      pub state_is : whole_state now values ≡ state
      pub sets_are : AllByRecursion (λ node. node.set ≡ set_in app values node.task) now.nodes

    -- while clear tasks act one after the other: nothing is running, these are left, and once they have acted the state is the target
    pub record IsActing (target : State V) (text : List ℕ) (now : Progress V) (ids : List NodeId) : Type 0 where
      pub state : State V
      pub rest : IsAtRest state text now
      pub nodes : List Node
      pub ids_are : ids ≡ ids_of nodes
      pub clear : AllByRecursion (IsClearNode app now.nodes) nodes
      pub in_order : IsAscending (tasks_of nodes)
      pub leads : after_tasks app.act (tasks_of nodes) state ≡ target

    -- while jobs are ended in key order: these are not ended yet, and once their tasks have acted the state is the target
    pub record IsEnding (target : State V) (text : List ℕ) (now : Progress V) (jobs : List (Job V)) : Type 0 where
      pub values : List V
      pub course : IsOnCourse text now jobs values
      pub in_order : IsAscending (job_tasks jobs)
      pub leads : after_tasks app.act (job_tasks jobs) (whole_state now values) ≡ target

  -- at this point of a run nothing is running
  abbrev pub RestsAt : RunPoint V → Progress V → Type 0
  RestsAt point now = IsAtRest point.start (values_of point.start.cells) point.state point.text now

  -- these jobs are drawn of the round that began at the point
  abbrev pub AreDrawn : RunPoint V → Progress V → List (Job V) → Type 0
  AreDrawn point now jobs = IsDrawing point.start (values_of point.start.cells) point.state point.text now jobs

  -- these jobs are left to end, and the run comes to the point then
  abbrev pub AreToEnd : RunPoint V → Progress V → List (Job V) → Type 0
  AreToEnd point now jobs = IsEnding point.start (values_of point.start.cells) point.state point.text now jobs
