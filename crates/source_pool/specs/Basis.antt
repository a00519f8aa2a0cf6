-- What the laws of this crate stand on.
use Rattle.std.specs.Prelude.{ℕ}
use Rattle.task_order.specs.Key.{ChildrenComeLater, IsExactOrder}
use Rattle.task_order.specs.Laws as tasks
use Rattle.rw_sets.specs.Laws as sets
use Rattle.cell_store.specs.Laws as cells
use Rattle.output_log.specs.Laws as logs
use Rattle.kdg_graph.specs.Laws as graph
use Rattle.app_laws.specs.Applications.{Application, IsLawful, PathsAreIgnored}
use Rattle.app_laws.specs.Execution.{Execution, after_steps}
use Rattle.app_laws.specs.Laws.{GreaterLimitsAgree, IsFitExecution, LogsGrowAtTheEnd, RunsBeginWithAStep, StepsAdd, StopsWhenClear}
use Rattle.app_laws.specs.Order.{IsOrderly}
use Rattle.app_laws.specs.Renaming.{ListedTasksAreNamed}
use Rattle.commuting.specs.Commuting.{ClearTasksStayClearInTurn}
use Rattle.commuting.specs.Renaming.{ListedTasksComeToSame, NamesChangeNoRound}
use Rattle.commuting.specs.Rounds.{ClearTasksAreListed, RoundsKeepReady, RoundsKeepStanding}
use Rattle.commuting.specs.Standing.{RunsLogLater, RunsLogNewKeys, StartsStandForThemselves}
use Rattle.run_laws.specs.Acting.{ActsActOnWhole}
use Rattle.run_laws.specs.CourseLaws.{ActFaultsKeepCourse, ActsKeepCourse, AnyOrderKeepsCourse, ClaimsKeepCourse, CoursesMeanTheSequentialRun, DrainsKeepCourse, DrainsTakeTheNext, EndsKeepCourse, NoNodesAreTheEnd, PassedLimitsNeverEnd, StartsHaveCome}
use Rattle.run_laws.specs.Finishes.{FinishesActOnWhole, PerformedTasksAreKnown}
use Rattle.run_laws.specs.Laws.{ClaimsTakeOneClear, RecordedSetsSuffice, SomeIsClear}
use Rattle.run_laws.specs.Renaming.{RenamingsKeepSound}
use Rattle.run_laws.specs.Rest.{ActsLeaveClear, NoJobsAreRest}

pub record Basis {V : Type 0} (app : Application V) : Type 0 where
  pub lawful : IsLawful app
  pub begins : (e : Execution V) → RunsBeginWithAStep app.act e
  pub greater_limits : (e : Execution V) → GreaterLimitsAgree app.act e
  pub adds : (e : Execution V) → StepsAdd app.act e
  pub grows : (e : Execution V) → LogsGrowAtTheEnd app.act e
  pub stops : (e : Execution V) → StopsWhenClear app.act e
  pub stays_orderly : (e : Execution V) → IsFitExecution app e → IsOrderly e → (steps : ℕ) → IsOrderly (after_steps app.act steps e)
  pub are_named : ListedTasksAreNamed
  pub in_turn : ClearTasksStayClearInTurn app
  pub listed : ClearTasksAreListed app
  pub rounds_ready : RoundsKeepReady app
  pub rounds_stand : RoundsKeepStanding app
  pub starts_stand : StartsStandForThemselves app
  pub log_later : RunsLogLater app
  pub log_new_keys : RunsLogNewKeys app
  pub come_to_same : PathsAreIgnored app → ListedTasksComeToSame app
  pub same_round : PathsAreIgnored app → NamesChangeNoRound app
  pub starts : StartsHaveCome app
  pub any_order : AnyOrderKeepsCourse app
  pub claims : ClaimsKeepCourse app
  pub ends : EndsKeepCourse app
  pub never_ends : PassedLimitsNeverEnd app
  pub drains : DrainsKeepCourse app
  pub next_drain : DrainsTakeTheNext app
  pub runs : CoursesMeanTheSequentialRun app
  pub last : NoNodesAreTheEnd app
  pub acts : ActsKeepCourse app
  pub act_faults : ActFaultsKeepCourse app
  pub act_on_whole : ActsActOnWhole app
  pub finishes_act : FinishesActOnWhole app
  pub performed : PerformedTasksAreKnown app
  pub renamings_keep_sound : RenamingsKeepSound app
  pub suffice : RecordedSetsSuffice app
  pub some_clear : SomeIsClear app
  pub take_one : ClaimsTakeOneClear app
  pub at_rest : NoJobsAreRest app
  pub acts_leave_clear : ActsLeaveClear app
  pub have_ids : graph.NodesHaveIds
  pub have_keys : graph.NodesHaveKeys
  pub keys_find : graph.KeysFindNodes
  pub starts_keep_tasks : graph.StartsKeepTasks
  pub exact : IsExactOrder
  pub children_later : ChildrenComeLater
  pub irreflexive : tasks.EarlierIsIrreflexive
  pub transitive : tasks.EarlierIsTransitive
  pub distinct : tasks.AscendingKeysAreDistinct
  pub puts_add_one : tasks.PutsAddOne
  pub adds_each : tasks.PutAllAddsEach
  pub put_without : tasks.PutRestoresWithout
  pub decided : sets.ConflictsAreDecided
  pub before_end : logs.AllAreBeforeEnd
  pub earlier_first : logs.EarlierEntriesComeFirst
  pub parts_in_order : logs.PartsKeepOrder
  pub parts_join : logs.PartsJoin
  pub texts_follow : logs.TextsFollow
  pub joins_with_none : logs.JoinsWithNone
  pub joins_commute : logs.JoinsCommute
  pub joins_in_order : logs.JoinsKeepOrder
  pub joins_associate : logs.JoinsAssociate
  pub silent_joins : logs.SilentJoinsAddNoText
  pub joins_add_lengths : logs.JoinsAddLengths
  pub values : cells.HomesAreValues V
