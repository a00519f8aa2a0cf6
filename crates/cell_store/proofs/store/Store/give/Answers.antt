use Rattle.cell_store.specs.Storage.{cells_of}
use Rattle.cell_store.proofs.Moves.{IsGive, is_give}
use Rattle.cell_store.proofs.store.Store.give.Given.{Over}
use Rattle.cell_store.proofs.store.Store.give.Goals as goal

gave : (g : Over) (c : goal.After-exchange g) → IsGive c.args.self.now (record { set = c.bundle.inside.set; cells = cells_of c.bundle.inside.cells }) c.exchange.new.self (cells_of c.exchange.new.held)
gave g c =
    let exchanged = rw c.items.ensures.all at c.exchange.ensures in
    is_give _ _ _ _ c.bundle.invariant (rw (← c.bundle.view_is) at c.requires) (record { home = exchanged.home; held = exchanged.held })

pub invariant_of-result : goal.invariant_of-result
invariant_of-result g c = (gave g c).is_shell

pub returns-clause-home : goal.returns-clause-home
returns-clause-home g c = rw (← c.bundle.view_is) (gave g c).home

pub returns-clause-shell : goal.returns-clause-shell
returns-clause-shell g c = rw (← c.bundle.view_is) (gave g c).shell
