-- What claims and ends make of rounds, for every application.
use Rattle.std.specs.Prelude.{◌≡◌, ◌≢◌, ◌<◌, ℕ, suc, ◌+◌, ◌-◌, List, [], ◌∷◌, ◌++◌, length, Some, None, IsPermutation}
use Rattle.task_order.specs.Key.{end}
use Rattle.task_order.specs.TaskList.{IsAscending}
use Rattle.cell_store.specs.Values.{homes, values_of}
use Rattle.kdg_graph.specs.declared.node_id.NodeId.{NodeId}
use Rattle.kdg_graph.specs.Nodes.{HasNode, ids_of, tasks_of}
use Rattle.output_log.specs.Entries.{joined_by_key, joined_texts}
use Rattle.app_laws.specs.Applications.{Application}
use Rattle.app_laws.specs.Execution.{Execution}
use Rattle.commuting.specs.Rounds.{TakesRounds, after_round, clear_tasks}
use Rattle.commuting.specs.States.{State, run_from}
use Rattle.run_laws.specs.Jobs.{Done, Job}
use Rattle.run_laws.specs.Acting.{HasActed, IsTooMany}
use Rattle.run_laws.specs.Laws.{IsDone}
use Rattle.run_laws.specs.Events.{IsOfClear, IsClaimed, IsFinished, IsOverLimit, clear_nodes, drainable, drained}
use Rattle.run_laws.specs.Progress.{Progress, whole_state}
use Rattle.run_laws.specs.Sound.{IsSound}
use Rattle.source_pool.specs.Course.{HaveOwnKeys, IsActing, IsAtRest, IsDrawing, IsEnding, IsJobDone, LeadsByRounds, job_tasks}

module _ {V : Type 0} (app : Application V) where
  -- ---- claims

  abbrev pub StartsAreAtRest : Type 0
  StartsAreAtRest = (start : Progress V) (cells : List V) → IsSound app start [] cells → start.over ≡ None → IsAtRest app start cells (whole_state start cells) [] start

  abbrev pub DrawingsBegin : Type 0
  DrawingsBegin = (start now : Progress V) (cells : List V) (state : State V) (text : List ℕ) → IsAtRest app start cells state text now → IsDrawing app start cells state text now []

  abbrev pub ClaimsGoOn : Type 0
  ClaimsGoOn = (start now next : Progress V) (cells : List V) (state : State V) (text : List ℕ) (jobs : List (Job V)) (pick : ℕ) (job : Job V) →
      IsDrawing app start cells state text now jobs → IsClaimed app now pick next job → IsDrawing app start cells state text next (jobs ++ job ∷ [])

  -- the first of the clear nodes is claimed: its task comes first among their tasks, and the others are left
  abbrev pub ClaimsGoInKeyOrder : Type 0
  ClaimsGoInKeyOrder = (start now next : Progress V) (cells : List V) (state : State V) (text : List ℕ) (jobs : List (Job V)) (job : Job V) →
      IsDrawing app start cells state text now jobs → IsClaimed app now 0 next job → tasks_of (clear_nodes app now.nodes) ≡ job.task ∷ tasks_of (clear_nodes app next.nodes)

  -- between two rounds the tasks of the clear nodes are the clear tasks
  abbrev pub ClearNodesHaveClearTasks : Type 0
  ClearNodesHaveClearTasks = (start now : Progress V) (cells : List V) (state : State V) (text : List ℕ) →
      IsAtRest app start cells state text now → (tasks_of (clear_nodes app now.nodes) ≡ clear_tasks app state) × IsAscending (clear_tasks app state)

  -- where no node is clear any more, the drawn jobs are those of all clear tasks of the state in which the round began: once they
  -- have ended in key order, the round is done
  abbrev pub DrawnJobsAreTheRound : Type 0
  DrawnJobsAreTheRound = (start now : Progress V) (cells : List V) (state : State V) (text : List ℕ) (jobs turn : List (Job V)) →
      IsDrawing app start cells state text now jobs → clear_nodes app now.nodes ≡ [] → IsPermutation jobs turn → IsAscending (job_tasks turn) →
      IsEnding app start cells (after_round app state) text now turn

  -- a round has a job, where any task is pending
  abbrev pub RoundsHaveJobs : Type 0
  RoundsHaveJobs = (start now : Progress V) (cells : List V) (state : State V) (text : List ℕ) (jobs : List (Job V)) →
      IsDrawing app start cells state text now jobs → clear_nodes app now.nodes ≡ [] → state.pending ≢ [] → jobs ≢ []

  -- the jobs of a round have keys of their own
  abbrev pub DrawnJobsDiffer : Type 0
  DrawnJobsDiffer = (start now : Progress V) (cells : List V) (state : State V) (text : List ℕ) (jobs : List (Job V)) → IsDrawing app start cells state text now jobs → HaveOwnKeys jobs

  -- a claim leaves fewer clear nodes
  abbrev pub ClaimsLeaveFewer : Type 0
  ClaimsLeaveFewer = (old now : Progress V) (pick : ℕ) (job : Job V) → IsClaimed app old pick now job → length (clear_nodes app now.nodes) < length (clear_nodes app old.nodes)

  -- ---- ends

  -- the first of the jobs may end, once it is performed
  abbrev pub FirstMayEnd : Type 0
  FirstMayEnd = (start now : Progress V) (cells : List V) (target : State V) (text : List ℕ) (job : Job V) (jobs : List (Job V)) (done : Done V) →
      IsEnding app start cells target text now (job ∷ jobs) → IsJobDone app job done → IsDone app now done

  abbrev pub EndsGoOn : Type 0
  EndsGoOn = (start now next : Progress V) (cells : List V) (target : State V) (text : List ℕ) (job : Job V) (jobs : List (Job V)) (done : Done V) →
      IsEnding app start cells target text now (job ∷ jobs) → IsJobDone app job done → ¬ IsOverLimit app now done → IsFinished app now done next →
      IsEnding app start cells target text next jobs

  -- where the limit is passed, the sequential run from the start doesn't end within what was left of it
  abbrev pub TooManyNeverEnd : Type 0
  TooManyNeverEnd = (start now : Progress V) (cells : List V) (target : State V) (text : List ℕ) (job : Job V) (jobs : List (Job V)) (done : Done V) →
      IsEnding app start cells target text now (job ∷ jobs) → IsJobDone app job done → IsOverLimit app now done →
      run_from app.act (start.limit - start.ended) end (whole_state start cells) ≡ None

  abbrev pub EndsComeToRest : Type 0
  EndsComeToRest = (start now : Progress V) (cells : List V) (target : State V) (text : List ℕ) → IsEnding app start cells target text now [] → IsAtRest app start cells target text now

  -- ---- acts

  -- while nothing is running, all clear nodes may act one after the other in key order, and then the round is done
  abbrev pub ActsBegin : Type 0
  ActsBegin = (start now : Progress V) (cells : List V) (state : State V) (text : List ℕ) →
      IsAtRest app start cells state text now → IsActing app start cells (after_round app state) text now (ids_of (clear_nodes app now.nodes))

  -- some node is clear, where any is there
  abbrev pub RoundsHaveActs : Type 0
  RoundsHaveActs = (start now : Progress V) (cells : List V) (state : State V) (text : List ℕ) →
      IsAtRest app start cells state text now → now.nodes ≢ [] → ids_of (clear_nodes app now.nodes) ≢ []

  -- the first of those that are left may act
  abbrev pub FirstMayAct : Type 0
  FirstMayAct = (start now : Progress V) (cells : List V) (target : State V) (text : List ℕ) (id : NodeId) (ids : List NodeId) →
      IsActing app start cells target text now (id ∷ ids) → IsOfClear app now.nodes id × HasNode now.nodes id × (now.over ≡ None)

  -- then the others are left, and one more task has ended
  abbrev pub ActsGoOn : Type 0
  ActsGoOn = (start now next : Progress V) (cells : List V) (target : State V) (text : List ℕ) (id : NodeId) (ids : List NodeId) →
      IsActing app start cells target text now (id ∷ ids) → HasActed app now id next → IsActing app start cells target text next ids × (next.ended ≡ suc now.ended)

  -- where the limit is passed, the sequential run from the start doesn't end within what was left of it
  abbrev pub TooManyActsNeverEnd : Type 0
  TooManyActsNeverEnd = (start now next : Progress V) (cells : List V) (target : State V) (text : List ℕ) (id : NodeId) (ids : List NodeId) (created limit : ℕ) →
      IsActing app start cells target text now (id ∷ ids) → IsTooMany app now id next created limit →
      (run_from app.act (start.limit - start.ended) end (whole_state start cells) ≡ None) × (limit ≡ start.limit) × (limit < created)

  abbrev pub ActsComeToRest : Type 0
  ActsComeToRest = (start now : Progress V) (cells : List V) (target : State V) (text : List ℕ) → IsActing app start cells target text now [] → IsAtRest app start cells target text now

  -- ---- drains

  -- between two rounds what is drained goes behind the text that was drained before
  abbrev pub DrainsKeepRest : Type 0
  DrainsKeepRest = (start now : Progress V) (cells : List V) (state : State V) (text : List ℕ) →
      IsAtRest app start cells state text now → IsAtRest app start cells state (text ++ joined_texts (drainable app now.nodes now.log)) (drained app now)

  -- ---- rounds

  -- one more round
  abbrev pub RoundsAdd : Type 0
  RoundsAdd = (rounds : ℕ) (state now : State V) → LeadsByRounds app rounds state now → now.pending ≢ [] → LeadsByRounds app (suc rounds) state (after_round app now)

  abbrev pub RoundsAreTaken : Type 0
  RoundsAreTaken = (rounds : ℕ) (state now : State V) → LeadsByRounds app rounds state now → now.pending ≡ [] → TakesRounds app rounds state

  -- The end of the sequential run from the start, within what was left of the limit: all cells are home, the text that was drained
  -- and those of the log are the texts of the first log, joined with that of the run, and each of its tasks has ended.
  pub record IsSequentialEnd (start : Progress V) (cells : List V) (text : List ℕ) (now : Progress V) : Type 0 where
    pub last : Execution V
    pub is_end : run_from app.act (start.limit - start.ended) end (whole_state start cells) ≡ Some last
    pub home : now.cells ≡ homes last.cells
    pub texts : text ++ joined_texts now.log ≡ joined_texts (joined_by_key start.log last.log)
    pub ended : now.ended ≡ start.ended + length last.log

  -- where no node is left, the sequential run has come to its end
  abbrev pub RestWithoutNodesIsTheEnd : Type 0
  RestWithoutNodesIsTheEnd = (start now : Progress V) (cells : List V) (state : State V) (text : List ℕ) →
      IsAtRest app start cells state text now → now.nodes ≡ [] → IsSequentialEnd start cells text now

  -- while nothing is running, the whole cells are those of the store
  abbrev pub WholeIsHome : Type 0
  WholeIsHome = (now : Progress V) (values : List V) → IsSound app now [] values → (now.cells ≡ homes values) × (values ≡ values_of now.cells)
