-- What the crates below promise, as this crate's proofs need it.
use Rattle.task_order.specs.Key.{ChildrenComeInTurn}
use Rattle.task_order.specs.Laws as tasks
use Rattle.output_log.specs.Laws as logs
use Rattle.app_laws.specs.Execution.{Execution, Operator}
use Rattle.app_laws.specs.Laws.{EndsWithinLimit, LogsEachStep, StepsAdd, StopsWhenClear}
use Rattle.level_walk.specs.declared.level.Level.{Level}

pub record Basis : Type 0 where
  pub adds : (act : Operator Level) (e : Execution Level) → StepsAdd act e
  pub stops : (act : Operator Level) (e : Execution Level) → StopsWhenClear act e
  pub each_logs : (act : Operator Level) (e : Execution Level) → LogsEachStep act e
  pub ends : (act : Operator Level) (e : Execution Level) → EndsWithinLimit act e
  pub in_turn : ChildrenComeInTurn
  pub latest_last : tasks.LatestGoesLast
  pub irreflexive : tasks.EarlierIsIrreflexive
  pub transitive : tasks.EarlierIsTransitive
  pub turned : tasks.EarlierIsTurned
  pub equal : tasks.EqualIsReflexive
  pub distinct : tasks.AscendingKeysAreDistinct
  pub new_key : tasks.WithoutOfNewKey
  pub texts_follow : logs.TextsFollow
