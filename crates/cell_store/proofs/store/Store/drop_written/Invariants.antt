use Rattle.cell_store.proofs.AtHome.{Dropping}
use Rattle.cell_store.proofs.store.Store.drop_written.Given as goal

abbrev pub invariant-loop-loc : goal.invariant-loop-loc
invariant-loop-loc g l = Dropping l.fn.self l.loc-items l.loc-index l.self-inside.cells.items
