-- What the proofs of the engine rest on.
use Rattle.app_laws.specs.Applications.{Application, IsLawful}
use Rattle.kdg_graph.specs.Laws.{StartsMarkOneNode}
use Rattle.run_laws.specs.Acting.{ActFaultsKeepSound, ActsKeepSound}
use Rattle.run_laws.specs.Basis.{LowerLaws}
use Rattle.run_laws.specs.FinishBasis.{FinishBasis}
use Rattle.run_laws.specs.Finishes.{FinishesStayReady, PerformedTasksAreKnown}
use Rattle.run_laws.specs.Laws.{ClaimsKeepSound, ClaimsTakeOneClear, ClearNodesAreHome, JobsMayRun, MarksAndDrainsKeepSound, SomeIsClear}
use Rattle.run_laws.specs.Renaming.{FirstNodesAreAsMany, ListedTasksFit}
use Rattle.run_laws.specs.Rest.{IdleIsSound, NoJobsAreRest, NoJobsWhereNoneRuns}

-- while an execution goes on
pub record Basis {V : Type 0} (app : Application V) : Type 0 where
  pub lawful : IsLawful app
  pub lower : LowerLaws
  pub starts_mark : StartsMarkOneNode
  pub claims : ClaimsKeepSound app
  pub one_clear : ClaimsTakeOneClear app
  pub clear_home : ClearNodesAreHome app
  pub some_clear : SomeIsClear app
  pub jobs_run : JobsMayRun app
  pub marks : MarksAndDrainsKeepSound app
  pub acts : ActsKeepSound app
  pub faults : ActFaultsKeepSound app
  pub no_jobs : NoJobsWhereNoneRuns app
  pub at_rest : NoJobsAreRest app
  pub idle : IdleIsSound app
  pub listed_fit : ListedTasksFit app
  pub as_many : FirstNodesAreAsMany app

-- where a task ends
pub record EndBasis {V : Type 0} (app : Application V) : Type 0 where
  pub lower : FinishBasis app
  pub performed : PerformedTasksAreKnown app
  pub stay_ready : FinishesStayReady app
