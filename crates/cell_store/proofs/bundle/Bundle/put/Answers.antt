use Rattle.std.proofs.Common.{ap, ◌∙◌}
use Rattle.rw_sets.specs.AccessLaws.{has_from_writes}
use Rattle.cell_store.specs.declared.cell.Cell.TheVariants.{Home}
use Rattle.cell_store.specs.Storage.{cells_of}
use Rattle.cell_store.proofs.Parts.{is_bundle_with_value}
use Rattle.cell_store.proofs.Stored.{held_is_written}
use Rattle.cell_store.proofs.bundle.Bundle.put.Goals as goal

pub invariant_of-self : goal.invariant_of-self
invariant_of-self g c =
    let written = held_is_written c.self.inside.set c.self.inside.cells c.args.loc c.in-Some.at c.self.invariant.is_part c.in-Some.ensures.place (Home c.args.value) in
    rw (c.put_at.ensures, written) (is_bundle_with_value _ c.args.loc c.args.value c.self.invariant (has_from_writes c.self.inside.set c.args.loc (rw (← c.self.view_is) at c.requires)))

pub returns : goal.returns
returns g c =
    let written = held_is_written c.self.inside.set c.self.inside.cells c.args.loc c.in-Some.at c.self.invariant.is_part c.in-Some.ensures.place (Home c.args.value) in
    rw (← c.self.view_is) (ap (λ cells. record { set = c.self.inside.set; cells = cells }) (ap cells_of c.put_at.ensures ∙ written))
