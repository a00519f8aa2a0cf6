-- What this crate's proofs stand on.
use Rattle.cell_store.specs.Laws.{HomesAreValues}
use Rattle.app_laws.specs.Applications.{Application, IsLawful}
use Rattle.mark_board.specs.Ranks.{FreeRanksAreUnbarred}
use Rattle.mark_rounds.specs.Marked.{FreeAndSafeIsClear}

pub record Basis {V : Type 0} (app : Application V) : Type 0 where
  pub lawful : IsLawful app
  pub marked : FreeAndSafeIsClear app
  pub unbarred : FreeRanksAreUnbarred
  pub values : HomesAreValues V
