use Rattle.std.specs.Prelude.{ℕ, List}
use Rattle.output_log.specs.Entries.{Entry}

-- a log: its entries, and how many more have a place
pub record LogState : Type 0 where
  pub entries : List Entry
  pub spare : ℕ
