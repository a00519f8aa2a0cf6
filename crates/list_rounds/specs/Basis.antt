-- What the crates below promise, as this crate's proofs need it.
use Rattle.task_order.specs.Key.{ChildrenComeLater}
use Rattle.task_order.specs.Laws as tasks
use Rattle.cell_store.specs.Laws as cells
use Rattle.output_log.specs.Laws as logs
use Rattle.app_laws.specs.Applications.{Application, IsLawful, PathsAreIgnored}
use Rattle.app_laws.specs.Renaming.{ListedTasksAreNamed}
use Rattle.commuting.specs.Commuting.{ClearTasksStayClearInTurn}
use Rattle.commuting.specs.Independent.{EarliestIsClear, StaysReady}
use Rattle.commuting.specs.Renaming.{ListedTasksComeToSame}
use Rattle.commuting.specs.Rounds.{ClearTasksAreListed}
use Rattle.commuting.specs.Standing.{StartsAreReady, StartsStandForThemselves, ClearTasksKeepStanding, NothingPendingIsTheEnd, TooManyTasksNeverEnd, RunsLogLater, RunsLogNewKeys}

pub record Basis {V : Type 0} (app : Application V) : Type 0 where
  pub lawful : IsLawful app
  pub starts_ready : StartsAreReady app
  pub starts : StartsStandForThemselves app
  pub acts : ClearTasksKeepStanding app
  pub end : NothingPendingIsTheEnd app
  pub too_many : TooManyTasksNeverEnd app
  pub log_later : RunsLogLater app
  pub log_new_keys : RunsLogNewKeys app
  pub come_to_same : PathsAreIgnored app → ListedTasksComeToSame app
  pub named : ListedTasksAreNamed
  pub listed : ClearTasksAreListed app
  pub in_turn : ClearTasksStayClearInTurn app
  pub earliest : EarliestIsClear app
  pub stays_ready : StaysReady app
  pub children_later : ChildrenComeLater
  pub transitive : tasks.EarlierIsTransitive
  pub distinct : tasks.AscendingKeysAreDistinct
  pub distinct_in_any_order : tasks.DistinctInAnyOrder
  pub restores : tasks.PutRestoresWithout
  pub put_all_keeps : tasks.PutAllKeepsTasks
  pub put_all_adds : tasks.PutAllAddsEach
  pub earlier_first : logs.EarlierEntriesComeFirst
  pub before_end : logs.AllAreBeforeEnd
  pub joins_commute : logs.JoinsCommute
  pub silent_joins : logs.SilentJoinsAddNoText
  pub joins_add_lengths : logs.JoinsAddLengths
  pub texts_follow : logs.TextsFollow
  pub values : cells.HomesAreValues V
