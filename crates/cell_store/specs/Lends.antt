-- What a bundle and a store end as, where a `&mut` to one of their values is returned.
use Rattle.std.specs.Prelude.{ℕ, List, slice_set}
use Rattle.std.specs.Borrow.{Lends, Fml, RattleType, MutBor}
use Rattle.cell_store.specs.declared.cell.Cell.{Cell}
use Rattle.cell_store.specs.declared.cell.Cell.TheVariants.{Home}
use Rattle.cell_store.specs.Part.{Part}
use Rattle.cell_store.specs.Cells.{with_value}
use Rattle.cell_store.specs.contracts.bundle.Bundle as bundle_contracts
use Rattle.cell_store.specs.contracts.store.Store as store_contracts

-- once the borrow r ends, the bundle has the last value written through r at the location
abbrev pub LendsValue : (T : RattleType) → MutBor (Part T.Denot) → ℕ → MutBor T.Denot → Fml
LendsValue T bundle loc r = Lends (bundle_contracts.the_row T) T bundle r (with_value bundle.now loc)

-- and the store has it there, in a cell that is home
abbrev pub LendsHome : (T : RattleType) → MutBor (List (Cell T.Denot)) → ℕ → MutBor T.Denot → Fml
LendsHome T store loc r = Lends (store_contracts.the_row T) T store r (λ value. slice_set store.now loc (Home value))
