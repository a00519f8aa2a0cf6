use Rattle.std.proofs.Common.{refl}
use Rattle.cell_store.proofs.cell_list.CellList.put_at.Goals as goal

pub returns-in-InMemory : goal.returns-in-InMemory
returns-in-InMemory g c = rw c.in-InMemory.is refl
