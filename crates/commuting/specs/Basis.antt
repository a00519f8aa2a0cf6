-- What the laws of this crate stand on.
use Rattle.task_order.specs.Key.{ChildrenComeLater}
use Rattle.task_order.specs.Laws as tasks
use Rattle.rw_sets.specs.Laws as sets
use Rattle.output_log.specs.Laws as logs
use Rattle.app_laws.specs.Applications.{Application, IsLawful}
use Rattle.app_laws.specs.Execution.{Operator, Execution}
use Rattle.app_laws.specs.Family.{ChildrenAreApart, SiblingsAreApart, ChildrenAreNew, ChildrenGoOn, FirstTasksAreApart}
use Rattle.app_laws.specs.Laws.{RunsBeginWithAStep, GreaterLimitsAgree, LogsEachStep, EndsWithinLimit}

-- what the crates below promise of keys, lists of tasks, sets, children and logs
pub record LowerLaws : Type 0 where
  pub children_later : ChildrenComeLater
  pub irreflexive : tasks.EarlierIsIrreflexive
  pub transitive : tasks.EarlierIsTransitive
  pub connected : tasks.EarlierIsConnected
  pub earliest_first : tasks.EarliestGoesFirst
  pub puts_keep_tasks : tasks.PutsKeepTasks
  pub puts_ascend : tasks.PutsKeepAscending
  pub put_all_commutes : tasks.PutAllCommutesWithPut
  pub before_is_earlier : tasks.BeforeIsEarlier
  pub before_ascends : tasks.BeforeStaysAscending
  pub before_skips : tasks.BeforeSkipsLater
  pub before_takes : tasks.BeforeTakesEarlier
  pub without_put : tasks.WithoutForgetsPut
  pub put_without : tasks.PutRestoresWithout
  pub others : tasks.WithoutKeepsOthers
  pub without_commutes : tasks.WithoutCommutes
  pub without_ascends : tasks.WithoutStaysAscending
  pub distinct : tasks.AscendingKeysAreDistinct
  pub determined : tasks.TasksDetermineAscending
  pub distinct_in_any_order : tasks.DistinctInAnyOrder
  pub independent : sets.IndependentWithoutConflict
  pub turned : sets.ConflictsAreMutual
  pub grows : sets.ConflictsGrow
  pub decided : sets.ConflictsAreDecided
  pub by_parts : sets.MergesConflictByParts
  pub children_apart : ChildrenAreApart
  pub siblings_apart : SiblingsAreApart
  pub children_new : ChildrenAreNew
  pub children_go_on : ChildrenGoOn
  pub first_apart : FirstTasksAreApart
  pub entries_in_order : logs.PutsKeepOrder
  pub entries_in_one_part : logs.PutsMeetOnePart
  pub parts_in_order : logs.PartsKeepOrder
  pub before_end : logs.AllAreBeforeEnd
  pub joins_with_none : logs.JoinsWithNone
  pub joins_take_puts : logs.JoinsTakePuts
  pub joins_add_lengths : logs.JoinsAddLengths

-- what holds of the runs of an operator
pub record RunLaws {V : Type 0} (act : Operator V) : Type 0 where
  pub begins : (e : Execution V) → RunsBeginWithAStep act e
  pub greater_limits : (e : Execution V) → GreaterLimitsAgree act e
  pub logs : (e : Execution V) → LogsEachStep act e
  pub ends : (e : Execution V) → EndsWithinLimit act e

-- these, and the laws of an application
pub record Basis {V : Type 0} (app : Application V) : Type 0 where
  pub lawful : IsLawful app
  pub lower : LowerLaws
  pub runs : RunLaws app.act
