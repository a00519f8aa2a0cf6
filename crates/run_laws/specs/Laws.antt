-- What events keep, whatever order the tasks end in.
use Rattle.std.specs.Prelude.{◌≡◌, ◌≢◌, ◌≤◌, ℕ, true, List, Contains, [], ◌∷◌, length, Option, None}
use Rattle.task_order.specs.declared.start.Start.{Start}
use Rattle.cell_store.specs.Cells.{AreHome}
use Rattle.kdg_graph.specs.Node.{Node}
use Rattle.kdg_graph.specs.Rewrite.{without}
use Rattle.commuting.specs.Clear.{IsClear}
use Rattle.app_laws.specs.Applications.{Application, AreFitStarts}
use Rattle.crew.specs.declared.answers.OverCause.{OverCause}
use Rattle.crew.specs.Jobs.{IsPerformed, MayRun}
use Rattle.run_laws.specs.Jobs.{Done, Job}
use Rattle.run_laws.specs.Answers.{IsBegun}
use Rattle.run_laws.specs.Events.{IsClaimed, IsFinished, IsOverLimit, is_clear, clear_nodes, drained, marked, budget_marked}
use Rattle.run_laws.specs.Progress.{Progress, whole_state}
use Rattle.run_laws.specs.Sound.{IsSound}

-- the execution and the jobs in hand
pub record Moment (V : Type 0) : Type 0 where
  pub progress : Progress V
  pub jobs : List (Job V)

-- what may happen to an execution
pub data Event (V : Type 0) : Type 0 where
  claims : (pick : ℕ) (job : Job V) → Event V
  finishes : (done : Done V) → Event V
  exceeds : (done : Done V) → Event V
  drains : Event V
  gives_up : Event V

module _ {V : Type 0} (app : Application V) where
  -- the task is that of one of the jobs of a sound execution, with the effect of its operator on the job's bundle
  pub record IsDone (progress : Progress V) (done : Done V) : Type 0 where
    pub jobs : List (Job V)
    pub values : List V
    pub sound : IsSound app progress jobs values
    pub job : Job V
    pub others : List (Job V)
    pub performed : IsPerformed app jobs done job others

  -- an event leads from one moment to the next
  abbrev pub Leads : Event V → Moment V → Moment V → Type 0
  Leads (claims pick job) old now = (old.progress.over ≡ None) × IsClaimed app old.progress pick now.progress job × (now.jobs ≡ job ∷ old.jobs)
  Leads (finishes done) old now = ((job : Job V) × IsPerformed app old.jobs done job now.jobs)
      × ¬ IsOverLimit app old.progress done × IsFinished app old.progress done now.progress
  Leads (exceeds done) old now = ((job : Job V) × ((others : List (Job V)) × IsPerformed app old.jobs done job others))
      × IsOverLimit app old.progress done × (now.progress ≡ budget_marked app old.progress done) × (now.jobs ≡ old.jobs)
  Leads drains old now = (now.progress ≡ drained app old.progress) × (now.jobs ≡ old.jobs)
  Leads gives_up old now = (now.progress ≡ marked app old.progress OverCause.NoRoom) × (now.jobs ≡ old.jobs)

  -- a list of events leads from one moment to another
  abbrev pub Reaches : List (Event V) → Moment V → Moment V → Type 0
  Reaches [] old now = now ≡ old
  Reaches (event ∷ events) old now = (next : Moment V) × Leads event old next × Reaches events next now

  -- some values are those of the whole cells
  abbrev pub IsSoundMoment : Moment V → Type 0
  IsSoundMoment moment = (values : List V) × IsSound app moment.progress moment.jobs values

  abbrev pub ClaimsKeepSound : Type 0
  ClaimsKeepSound = (old now : Progress V) (pick : ℕ) (job : Job V) (jobs : List (Job V)) (values : List V) →
      IsSound app old jobs values → IsClaimed app old pick now job → IsSound app now (job ∷ jobs) values

  -- a claim takes one of the clear nodes: the others stay clear, and no other becomes clear
  abbrev pub ClaimsTakeOneClear : Type 0
  ClaimsTakeOneClear = (old now : Progress V) (pick : ℕ) (job : Job V) → (claimed : IsClaimed app old pick now job) →
      clear_nodes app now.nodes ≡ without claimed.node.id (clear_nodes app old.nodes)

  -- where a task ends, the whole cells are what it makes of them
  abbrev pub FinishesKeepSound : Type 0
  FinishesKeepSound = (old now : Progress V) (done : Done V) (job : Job V) (jobs others : List (Job V)) (values : List V) →
      IsSound app old jobs values → IsPerformed app jobs done job others → ¬ IsOverLimit app old done → IsFinished app old done now →
      IsSound app now others (app.act job.task values).cells

  abbrev pub BeginningsAreSound : Type 0
  BeginningsAreSound = (cells : List V) (first : List Start) (budget : ℕ) (progress : Progress V) →
      app.is_fit_cells cells → AreFitStarts app first → length first ≤ budget → IsBegun app cells first budget progress → IsSound app progress [] cells

  -- whatever happens, in whatever order tasks end
  abbrev pub EventsKeepSound : Type 0
  EventsKeepSound = (events : List (Event V)) (old now : Moment V) → IsSoundMoment old → Reaches events old now → IsSoundMoment now

  -- the cells of a clear node's recorded set are home
  abbrev pub ClearNodesAreHome : Type 0
  ClearNodesAreHome = (progress : Progress V) (jobs : List (Job V)) (values : List V) (node : Node) → IsSound app progress jobs values →
      Contains progress.nodes node → is_clear app progress.nodes node ≡ true → AreHome progress.cells node.set

  -- while nothing is running some node is clear, unless none is there
  abbrev pub SomeIsClear : Type 0
  SomeIsClear = (progress : Progress V) (values : List V) → IsSound app progress [] values → progress.nodes ≢ [] → clear_nodes app progress.nodes ≢ []

  -- the whole cells are one list
  abbrev pub WholeIsOne : Type 0
  WholeIsOne = (progress : Progress V) (jobs : List (Job V)) (values others : List V) →
      IsSound app progress jobs values → IsSound app progress jobs others → values ≡ others

  -- a mark, a finish that is over the limit, and a drain change neither the jobs nor the whole cells
  pub record MarksAndDrainsKeepSound : Type 0 where
    pub any_mark : (progress : Progress V) (over : Option OverCause) (jobs : List (Job V)) (values : List V) →
        IsSound app progress jobs values → IsSound app (record progress { over = over }) jobs values
    pub marked_one : (progress : Progress V) (cause : OverCause) (jobs : List (Job V)) (values : List V) →
        IsSound app progress jobs values → IsSound app (marked app progress cause) jobs values
    pub over_limit : (progress : Progress V) (done : Done V) (jobs : List (Job V)) (values : List V) →
        IsSound app progress jobs values → IsSound app (budget_marked app progress done) jobs values
    pub drained_one : (progress : Progress V) (jobs : List (Job V)) (values : List V) →
        IsSound app progress jobs values → IsSound app (drained app progress) jobs values

  -- By the recorded sets, which have all of the declared ones, a clear or a running node is a clear task of the whole state.
  pub record RecordedSetsSuffice : Type 0 where
    pub clear : (progress : Progress V) (jobs : List (Job V)) (values : List V) (node : Node) → IsSound app progress jobs values →
        Contains progress.nodes node → is_clear app progress.nodes node ≡ true → IsClear app (whole_state progress values) node.task
    pub running : (progress : Progress V) (jobs : List (Job V)) (values : List V) (node : Node) → IsSound app progress jobs values →
        Contains progress.nodes node → node.running ≡ true → IsClear app (whole_state progress values) node.task

  -- each of the jobs of a sound execution may run
  abbrev pub JobsMayRun : Type 0
  JobsMayRun = (progress : Progress V) (jobs : List (Job V)) (values : List V) (job : Job V) → IsSound app progress jobs values → Contains jobs job → MayRun app job
