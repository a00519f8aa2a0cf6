use Rattle.std.proofs.Common.{◌≡◌, map}
use Rattle.cell_store.specs.Cells.{read_copy}
use Rattle.cell_store.specs.Storage.{cells_of}
use Rattle.cell_store.proofs.Moves.{IsTake, is_take}
use Rattle.cell_store.proofs.store.Store.take_owned.Given.{Over}
use Rattle.cell_store.proofs.store.Store.take_owned.Goals as goal

took : (g : Over) (c : goal.After-exchange g) → IsTake c.args.self.now c.args.set c.exchange.new.self (cells_of c.exchange.new.held)
took g c =
    let copies : cells_of c.in_ok-cells.cells ≡ map (read_copy c.args.self.now) c.args.set = rw (← c.self.view_is, ← c.items.ensures.all) c.in_ok-cells.ensures in
    let exchanged = rw c.items-2.ensures.all at c.exchange.ensures in
    is_take _ _ _ _ _ c.items-2.ensures.ascending c.requires copies (record { home = exchanged.home; held = exchanged.held })

pub invariant_of-result : goal.invariant_of-result
invariant_of-result g c = (took g c).whole

pub returns-clause-bundle : goal.returns-clause-bundle
returns-clause-bundle g c = (took g c).part

pub returns-clause-whole : goal.returns-clause-whole
returns-clause-whole g c = (took g c).whole

pub returns-clause-ok : goal.returns-clause-ok
returns-clause-ok g c = (took g c).taken

pub returns-clause-out : goal.returns-clause-out
returns-clause-out g c = (took g c).out
