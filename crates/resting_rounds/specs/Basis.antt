-- What this crate's proofs stand on.
use Rattle.task_order.specs.Laws as tasks
use Rattle.rw_sets.specs.Laws.{ConflictsAreDecided}
use Rattle.app_laws.specs.Applications.{Application, IsLawful}
use Rattle.resting_tasks.specs.Resting.{IsResting}

pub record Basis {V : Type 0} (app : Application V) : Type 0 where
  pub lawful : IsLawful app
  pub resting : IsResting app
  pub decided : ConflictsAreDecided
  pub distinct : tasks.AscendingKeysAreDistinct
  pub equal : tasks.EqualIsReflexive
  pub new_key : tasks.WithoutOfNewKey
