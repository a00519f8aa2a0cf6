use Rattle.rw_sets.specs.declared.access.Access.TheVariants.{Write}
use Rattle.cell_store.specs.Cells.{read_copy}
use Rattle.cell_store.proofs.Copies.{few_mapped}
use Rattle.cell_store.proofs.few_cells.FewCells.read_copies.Goals as goal

pub returns : goal.returns
returns g c = rw (c.in_ok-copy_at.ensures, c.in_ok-copy_at-2.ensures, c.in_ok-copy_at-3.ensures, c.in_ok-copy_at-4.ensures) (few_mapped (read_copy c.args.cells.now) (0, Write) c.args.set.now c.requires.few)
