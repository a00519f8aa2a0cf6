-- What events make of where an execution has come, whatever other jobs are in hand, and what it means.
use Rattle.std.specs.Prelude.{◌≡◌, ◌+◌, ◌-◌, ◌≤◌, ℕ, true, List, [], ◌∷◌, ◌++◌, length, map, drop, None, Some, IsPermutation, IsSomeAnd}
use Rattle.std.specs.List.{AllByRecursion}
use Rattle.task_order.specs.declared.key.Key.{Key}
use Rattle.task_order.specs.declared.start.Start.{Start}
use Rattle.task_order.specs.Key.{Bound, at_key, end}
use Rattle.task_order.specs.TaskList.{put_all}
use Rattle.cell_store.specs.Values.{homes}
use Rattle.output_log.specs.Entries.{Entry, IsInKeyOrder, IsNewEntry, ShareNoKey, entries_before, joined_by_key, with_entry}
use Rattle.kdg_graph.specs.declared.node_id.NodeId.{NodeId}
use Rattle.kdg_graph.specs.Node.{Node}
use Rattle.kdg_graph.specs.Nodes.{node_at}
use Rattle.app_laws.specs.Applications.{Application, AreFitStarts}
use Rattle.app_laws.specs.Execution.{Execution, after_steps, first_from, is_clear_before}
use Rattle.commuting.specs.Commuting.{BothEnd}
use Rattle.commuting.specs.States.{State, execution_from, run_from, state_of}
use Rattle.crew.specs.declared.answers.OverCause.{OverCause}
use Rattle.crew.specs.Jobs.{IsPerformed}
use Rattle.run_laws.specs.Acting.{HasActed, HoldsOfJobs, IsActFault}
use Rattle.run_laws.specs.Answers.{IsBegun, IsClaimAnswer, IsFinishRefusal, jobs_after}
use Rattle.run_laws.specs.Course.{HasCome}
use Rattle.run_laws.specs.Events.{IsClaimed, IsFinished, IsOverLimit, budget_marked, drainable, drained, marked}
use Rattle.run_laws.specs.Jobs.{Claim, Done, FinishFault, Job}
use Rattle.run_laws.specs.Laws.{Event, Moment, Reaches}
use Rattle.run_laws.specs.Progress.{Progress, whole_state}
use Rattle.run_laws.specs.Sound.{IsSound}

-- the cells and the first tasks that an execution begins with
abbrev pub start_from : {V : Type 0} → List V → List Start → State V
start_from cells first = state_of cells (put_all (first_from 0 first) [])

-- up to the least node, or to the end where no node is there
abbrev pub least_bound : List Node → Bound
least_bound [] = end
least_bound (least ∷ nodes) = at_key least.task.key

abbrev pub keys_of : List Entry → List Key
keys_of entries = map (λ entry. entry.0) entries

-- the keys of the tasks that end by the events
abbrev pub ended_by : {V : Type 0} → List (Event V) → List Key
ended_by [] = []
ended_by (Event.finishes done ∷ events) = done.task.key ∷ ended_by events
ended_by (Event.claims pick job ∷ events) = ended_by events
ended_by (Event.exceeds done ∷ events) = ended_by events
ended_by (Event.drains ∷ events) = ended_by events
ended_by (Event.gives_up ∷ events) = ended_by events

module _ {V : Type 0} (app : Application V) where
  -- ---- the start

  -- any sound execution in which nothing is running, and that has no mark, is a start
  abbrev pub StartsHaveCome : Type 0
  StartsHaveCome = (start : Progress V) (cells : List V) → IsSound app start [] cells → start.over ≡ None → HasCome app start cells [] [] start [] cells

  -- so is what begins, with the first tasks pending
  abbrev pub BeginningsAreStarts : Type 0
  BeginningsAreStarts = (cells : List V) (first : List Start) (budget : ℕ) (start : Progress V) →
      app.is_fit_cells cells → AreFitStarts app first → length first ≤ budget → IsBegun app cells first budget start →
      HasCome app start cells [] [] start [] cells × (whole_state start cells ≡ start_from cells first)

  -- ---- each event

  -- the jobs in hand may come in any order
  abbrev pub AnyOrderKeepsCourse : Type 0
  AnyOrderKeepsCourse = (start : Progress V) (cells : List V) (before entries : List Entry) (now : Progress V) (jobs others : List (Job V)) (values : List V) →
      HasCome app start cells before entries now jobs values → IsPermutation jobs others → HasCome app start cells before entries now others values

  -- after a claim there is one job more
  abbrev pub ClaimsKeepCourse : Type 0
  ClaimsKeepCourse = (start : Progress V) (cells : List V) (before entries : List Entry) (old now : Progress V) (pick : ℕ) (job : Job V) (jobs : List (Job V)) (values : List V) →
      HasCome app start cells before entries old jobs values → IsClaimed app old pick now job → HasCome app start cells before entries now (job ∷ jobs) values

  abbrev pub ClaimAnswersKeepCourse : Type 0
  ClaimAnswersKeepCourse = (start : Progress V) (cells : List V) (before entries : List Entry) (old now : Progress V) (pick : ℕ) (answer : Claim V) (jobs : List (Job V)) (values : List V) →
      HasCome app start cells before entries old jobs values → IsClaimAnswer app old pick now answer → HasCome app start cells before entries now (jobs_after answer jobs) values

  -- where a task ends, its entry comes in at its place by key, and the whole cells are what the task makes of them
  abbrev pub EndsKeepCourse : Type 0
  EndsKeepCourse = (start : Progress V) (cells : List V) (before entries : List Entry) (old now : Progress V) (done : Done V) (job : Job V) (jobs others : List (Job V)) (values : List V) →
      HasCome app start cells before entries old jobs values → IsPerformed app jobs done job others → ¬ IsOverLimit app old done → IsFinished app old done now →
      HasCome app start cells before (with_entry job.task.key (app.act job.task values).text entries) now others (app.act job.task values).cells

  -- where its children are more than may be created, the sequential run from the start doesn't end within what was left of the limit
  abbrev pub PassedLimitsNeverEnd : Type 0
  PassedLimitsNeverEnd = (start : Progress V) (cells : List V) (before entries : List Entry) (now : Progress V) (done : Done V) (job : Job V) (jobs others : List (Job V)) (values : List V) →
      HasCome app start cells before entries now jobs values → IsPerformed app jobs done job others → IsOverLimit app now done →
      run_from app.act (start.limit - start.ended) end (whole_state start cells) ≡ None

  -- so the mark that such an end leaves is true
  abbrev pub PassedLimitsKeepCourse : Type 0
  PassedLimitsKeepCourse = (start : Progress V) (cells : List V) (before entries : List Entry) (now : Progress V) (done : Done V) (job : Job V) (jobs others : List (Job V)) (values : List V) →
      HasCome app start cells before entries now jobs values → IsPerformed app jobs done job others → IsOverLimit app now done →
      HasCome app start cells before entries (budget_marked app now done) jobs values

  abbrev pub RefusalsKeepCourse : Type 0
  RefusalsKeepCourse = (start : Progress V) (cells : List V) (before entries : List Entry) (old now : Progress V) (done : Done V) (fault : FinishFault V) (job : Job V) (jobs others : List (Job V)) (values : List V) →
      HasCome app start cells before entries old jobs values → IsPerformed app jobs done job others → IsFinishRefusal app old done now fault →
      HasCome app start cells before entries now jobs values

  -- where a task acts, the jobs stay the same
  abbrev pub ActsKeepCourse : Type 0
  ActsKeepCourse = (start : Progress V) (cells : List V) (before entries : List Entry) (old now : Progress V) (id : NodeId) (node : Node) (jobs : List (Job V)) (values : List V) →
      HasCome app start cells before entries old jobs values → HasActed app old id now → node_at old.nodes id ≡ Some node →
      HasCome app start cells before (with_entry node.task.key (app.act node.task values).text entries) now jobs (app.act node.task values).cells

  -- where it doesn't, they stay the same, or one of its node is there besides
  abbrev pub ActFaultsKeepCourse : Type 0
  ActFaultsKeepCourse = (start : Progress V) (cells : List V) (before entries : List Entry) (old now : Progress V) (id : NodeId) (fault : OverCause) (jobs : List (Job V)) (values : List V) →
      HasCome app start cells before entries old jobs values → IsActFault app old id now fault → HoldsOfJobs id jobs (λ held. HasCome app start cells before entries now held values)

  abbrev pub GivingUpKeepsCourse : Type 0
  GivingUpKeepsCourse = (start : Progress V) (cells : List V) (before entries : List Entry) (now : Progress V) (jobs : List (Job V)) (values : List V) →
      HasCome app start cells before entries now jobs values → HasCome app start cells before entries (marked app now OverCause.NoRoom) jobs values

  -- what a drain takes out comes behind what was drained before
  abbrev pub DrainsKeepCourse : Type 0
  DrainsKeepCourse = (start : Progress V) (cells : List V) (before entries : List Entry) (now : Progress V) (jobs : List (Job V)) (values : List V) →
      HasCome app start cells before entries now jobs values → HasCome app start cells (before ++ drainable app now.nodes now.log) entries (drained app now) jobs values

  -- ---- all events

  -- Events have led on to here from where these were drained and these were the entries: more may have been drained, and the tasks
  -- that have ended by the events have entries besides.
  pub record HasGoneOn (start : Progress V) (cells : List V) (before entries : List Entry) (events : List (Event V)) (now : Progress V) (jobs : List (Job V)) : Type 0 where
    pub more : List Entry
    pub entries_now : List Entry
    pub values : List V
    pub come : HasCome app start cells (before ++ more) entries_now now jobs values
    pub keys : IsPermutation (ended_by events ++ keys_of entries) (keys_of entries_now)

  -- whatever happens, in whatever order tasks end, and whatever other jobs are in hand
  abbrev pub EventsKeepCourse : Type 0
  EventsKeepCourse = (start : Progress V) (cells : List V) (before entries : List Entry) (events : List (Event V)) (old now : Moment V) (others : List (Job V)) (values : List V) →
      HasCome app start cells before entries old.progress (old.jobs ++ others) values → Reaches app events old now →
      HasGoneOn start cells before entries events now.progress (now.jobs ++ others)

  -- so it does from a start that has itself come from an earlier one
  abbrev pub CoursesFollow : Type 0
  CoursesFollow = (first start : Progress V) (home cells : List V) (before entries more others : List Entry) (now : Progress V) (jobs : List (Job V)) (values : List V) →
      HasCome app first home before entries start [] cells → HasCome app start cells more others now jobs values →
      HasCome app first home (before ++ more) (joined_by_key entries others) now jobs values

  -- ---- what it means

  -- The log of the run from the start is the join by key of the entries and the log of the rest, which ascends and has none of their
  -- keys. At the end the cells are the same.
  pub record IsJoinedRest (bound : Bound) (entries : List Entry) (e rest : Execution V) : Type 0 where
    pub ascends : IsInKeyOrder rest.log
    pub apart : ShareNoKey entries rest.log
    pub log : e.log ≡ joined_by_key entries rest.log
    pub cells_are : bound ≡ end → e.cells ≡ rest.cells

  module _ (start : Progress V) (cells : List V) where
    -- the log of the sequential run from the start, after `steps` steps
    abbrev pub log_after : ℕ → List Entry
    log_after steps = (after_steps app.act steps (execution_from (whole_state start cells))).log

    -- One entry is there for each task that has ended since the start. They ascend, and none has a node's key. To any bound, a run
    -- from the start takes as many steps more than one from the whole cells and the nodes' tasks as entries are earlier than the bound:
    -- both are given up, or the first logs these entries and what the second logs. To a bound that no node is before, all that was
    -- drained or is logged is what the start's log had, joined with the log of the first steps from there; and where the start's log
    -- was empty, what was drained is the log of the first steps.
    pub record MeansTheSequentialRun (before entries : List Entry) (now : Progress V) (values : List V) : Type 0 where
      pub as_many : length before + length now.log ≡ length start.log + length entries
      pub ascend : IsInKeyOrder entries
      pub no_nodes : AllByRecursion (λ node. IsNewEntry node.task.key entries) now.nodes
      pub runs : (bound : Bound) (limit : ℕ) → let ended = entries_before bound entries in
          BothEnd (IsJoinedRest bound ended)
          (run_from app.act (length ended + limit) bound (whole_state start cells))
          (run_from app.act limit bound (whole_state now values))
      pub first : (bound : Bound) → is_clear_before bound (execution_from (whole_state now values)) ≡ true →
          entries_before bound (before ++ now.log) ≡ joined_by_key (entries_before bound start.log) (log_after (length (entries_before bound entries)))
      pub drained_first : start.log ≡ [] → before ≡ log_after (length before)

    -- What was drained and what a drain takes out are just the entries that are earlier than every node. They are what the start's log
    -- had before these, joined with the log of the first steps from there; and where that log was empty, a drain takes out what comes
    -- next in the sequential log.
    pub record IsNextDrain (before entries : List Entry) (now : Progress V) : Type 0 where
      pub all : before ++ drainable app now.nodes now.log ≡ entries_before (least_bound now.nodes) (before ++ now.log)
      pub first : before ++ drainable app now.nodes now.log ≡
          joined_by_key (entries_before (least_bound now.nodes) start.log) (log_after (length (entries_before (least_bound now.nodes) entries)))
      pub next : start.log ≡ [] → drop (length before) (log_after (length (entries_before (least_bound now.nodes) entries))) ≡ drainable app now.nodes now.log

    -- all cells are home, and are those of the sequential run; what was drained and the log are the start's log joined with the log of
    -- that run, each of whose tasks has ended
    pub record IsSequentialEnd (before : List Entry) (now : Progress V) (e : Execution V) : Type 0 where
      pub home : now.cells ≡ homes e.cells
      pub log : before ++ now.log ≡ joined_by_key start.log e.log
      pub ended : now.ended ≡ start.ended + length e.log

    -- the sequential run from the start has come to its end, in as many steps as there are entries, which are within what was left
    -- of the limit
    pub record IsOver (before entries : List Entry) (now : Progress V) (jobs : List (Job V)) : Type 0 where
      pub no_jobs : jobs ≡ []
      pub within : length entries ≤ start.limit - start.ended
      pub runs : (limit : ℕ) → length entries ≤ limit → IsSomeAnd (run_from app.act limit end (whole_state start cells)) (IsSequentialEnd before now)

  abbrev pub CoursesMeanTheSequentialRun : Type 0
  CoursesMeanTheSequentialRun = (start : Progress V) (cells : List V) (before entries : List Entry) (now : Progress V) (jobs : List (Job V)) (values : List V) →
      HasCome app start cells before entries now jobs values → MeansTheSequentialRun start cells before entries now values

  abbrev pub DrainsTakeTheNext : Type 0
  DrainsTakeTheNext = (start : Progress V) (cells : List V) (before entries : List Entry) (now : Progress V) (jobs : List (Job V)) (values : List V) →
      HasCome app start cells before entries now jobs values → IsNextDrain start cells before entries now

  -- where no node is left, the sequential run has come to its end
  abbrev pub NoNodesAreTheEnd : Type 0
  NoNodesAreTheEnd = (start : Progress V) (cells : List V) (before entries : List Entry) (now : Progress V) (jobs : List (Job V)) (values : List V) →
      HasCome app start cells before entries now jobs values → now.nodes ≡ [] → IsOver start cells before entries now jobs
