use Rattle.std.proofs.Common.{◌≡◌, get_or, sym, arith, false}
use Rattle.std.proofs.lemmas.List.{get_or_default}
use Rattle.rw_sets.specs.declared.access.Access.TheVariants.{Read}
use Rattle.rw_sets.specs.Accesses.{is_write}
use Rattle.rw_sets.specs.AccessLaws.{has_in_place}
use Rattle.cell_store.specs.declared.cell.Cell.TheVariants.{Out}
use Rattle.cell_store.proofs.Copies.{copy_of_read}
use Rattle.cell_store.proofs.Locations.{home_in_range}
use Rattle.cell_store.proofs.place.copy_at.Goals as goal

pub offset_bounds-cells-loc : goal.offset_bounds-cells-loc
offset_bounds-cells-loc g c =
    let within = home_in_range c.args.cells.now (get_or c.args.set.now c.args.i (0, Read)).0 (c.requires _ (has_in_place c.args.set.now c.args.i (0, Read) c.if-i-set.true)) in omega (arith, within)

pub bounds-cells-loc : goal.bounds-cells-loc
bounds-cells-loc g c = home_in_range _ _ (c.requires _ (has_in_place c.args.set.now c.args.i (0, Read) c.if-i-set.true))

pub returns-then-not-is_write : goal.returns-then-not-is_write
returns-then-not-is_write g c =
    let read : is_write (get_or c.args.set.now c.args.i (0, Read)).1 ≡ false = sym c.if-not-is_write.ensures in
    let within = home_in_range c.args.cells.now (get_or c.args.set.now c.args.i (0, Read)).0 (c.requires _ (has_in_place c.args.set.now c.args.i (0, Read) c.if-i-set.true)) in
    rw (copy_of_read c.args.cells.now c.args.set.now c.args.i c.if-i-set.true read, ← get_or_default c.args.cells.now (get_or c.args.set.now c.args.i (0, Read)).0 c.index-cells-loc.result Out within, ← c.index-cells-loc.is) c.copy.ensures
