use Rattle.std.proofs.Common.{refl}
use Rattle.cell_store.proofs.cell_list.CellList.at_mut.Goals as goal

pub returns-in-InMemory : goal.returns-in-InMemory
returns-in-InMemory g c =
    let e = rw c.in-InMemory.is at c.index_mut.ensures in
    rw c.in-InMemory.is ((refl, λ w. refl), record { lends = tt; value = e.value })
