use Rattle.std.proofs.Common.{ap, ◌∙◌, subst, refl}
use Rattle.rw_sets.specs.AccessLaws.{has_from_writes}
use Rattle.cell_store.specs.Home.{IsHome}
use Rattle.cell_store.specs.declared.cell.Cell.TheVariants.{Home}
use Rattle.cell_store.proofs.Parts.{is_bundle_with_value}
use Rattle.cell_store.proofs.Stored.{held_is_read, held_is_written}
use Rattle.cell_store.proofs.bundle.Bundle.get_mut.Goals as goal

pub value_mut-requires : goal.value_mut-requires
value_mut-requires g c =
    let lent = held_is_read c.self.inside.set c.self.inside.cells c.args.loc c.in-Some.at c.self.invariant.is_part c.in-Some.ensures.place c.at_mut.result.now c.at_mut.ensures.value in
    subst IsHome lent (c.self.invariant.full c.args.loc (has_from_writes c.self.inside.set c.args.loc (rw (← c.self.view_is) at c.requires)))

-- whatever is written, the location has a value
pub invariant_of-self-lent : goal.invariant_of-self-lent
invariant_of-self-lent g c w =
    let written = held_is_written c.self.inside.set c.self.inside.cells c.args.loc c.in-Some.at c.self.invariant.is_part c.in-Some.ensures.place (Home w) in
    rw written (is_bundle_with_value _ c.args.loc w c.self.invariant (has_from_writes c.self.inside.set c.args.loc (rw (← c.self.view_is) at c.requires)))

pub returns : goal.returns
returns g c =
    let lent = held_is_read c.self.inside.set c.self.inside.cells c.args.loc c.in-Some.at c.self.invariant.is_part c.in-Some.ensures.place c.at_mut.result.now c.at_mut.ensures.value in (
      (refl, λ w. rw (← c.self.view_is) (ap (λ cells. record { set = c.self.inside.set; cells = cells }) (held_is_written c.self.inside.set c.self.inside.cells c.args.loc c.in-Some.at c.self.invariant.is_part c.in-Some.ensures.place (Home w)))),
      record { writes_back = tt; value = rw (← c.self.view_is) (lent ∙ c.value_mut.ensures.value) },
    )
