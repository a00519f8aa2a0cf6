use Rattle.cell_store.specs.Storage.{cells_of}
use Rattle.cell_store.proofs.Moves.{IsRegain, is_regain}
use Rattle.cell_store.proofs.store.Store.regain.Given.{Over}
use Rattle.cell_store.proofs.store.Store.regain.Goals as goal

regained : (g : Over) (c : goal.After-exchange g) → IsRegain c.args.self.now (record { set = c.shell.inside.set; cells = cells_of c.shell.inside.cells }) c.exchange.new.self (cells_of c.exchange.new.held)
regained g c =
    let exchanged = rw c.items.ensures.all at c.exchange.ensures in
    is_regain _ _ _ _ c.shell.invariant (rw (← c.shell.view_is) at c.requires) (record { home = exchanged.home; held = exchanged.held })

pub invariant_of-result : goal.invariant_of-result
invariant_of-result g c = (regained g c).whole

pub returns-clause-taken : goal.returns-clause-taken
returns-clause-taken g c = rw (← c.shell.view_is) (regained g c).taken

pub returns-clause-out : goal.returns-clause-out
returns-clause-out g c = rw (← c.shell.view_is) (regained g c).out

pub returns-clause-whole : goal.returns-clause-whole
returns-clause-whole g c = (regained g c).whole
