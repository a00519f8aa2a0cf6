-- What the laws of where an execution has come rest on.
use Rattle.task_order.specs.Key.{ChildrenComeLater}
use Rattle.task_order.specs.Laws as tasks
use Rattle.output_log.specs.Laws as logs
use Rattle.app_laws.specs.Applications.{Application}
use Rattle.commuting.specs.Standing.{StartsStandForThemselves, ClearTasksKeepStanding, EarlierEntriesAreFirst, NothingPendingIsTheEnd, RunsLogLater, RunsLogNewKeys, TooManyTasksNeverEnd}
use Rattle.run_laws.specs.Basis.{Basis}
use Rattle.run_laws.specs.FinishBasis.{FinishBasis}
use Rattle.run_laws.specs.Laws.{FinishesKeepSound}

pub record CourseBasis {V : Type 0} (app : Application V) : Type 0 where
  pub begun : Basis app
  pub ended : FinishBasis app
  pub finishes_sound : FinishesKeepSound app
  pub starts : StartsStandForThemselves app
  pub acts : ClearTasksKeepStanding app
  pub first : EarlierEntriesAreFirst app
  pub last : NothingPendingIsTheEnd app
  pub too_many : TooManyTasksNeverEnd app
  pub log_later : RunsLogLater app
  pub log_new_keys : RunsLogNewKeys app
  pub children_later : ChildrenComeLater
  pub any_order : tasks.DistinctInAnyOrder
  pub all_before_end : logs.AllAreBeforeEnd
  pub joins_with_none : logs.JoinsWithNone
  pub joins_commute : logs.JoinsCommute
  pub joins_associate : logs.JoinsAssociate
  pub joins_take_puts : logs.JoinsTakePuts
  pub joins_add_lengths : logs.JoinsAddLengths
  pub joins_keep_order : logs.JoinsKeepOrder
  pub joins_have_all : logs.JoinsHaveAll
  pub parts_join : logs.PartsJoin
