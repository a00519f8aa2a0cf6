use Rattle.std.proofs.Common.{◌∙◌, subst}
use Rattle.cell_store.specs.Home.{IsHome}
use Rattle.cell_store.proofs.Stored.{held_is_read}
use Rattle.cell_store.proofs.bundle.Bundle.get.Goals as goal

pub value-requires : goal.value-requires
value-requires g c =
    let lent = held_is_read c.self.inside.set c.self.inside.cells c.args.loc c.in-Some.at c.self.invariant.is_part c.in-Some.ensures.place c.at.result.now c.at.ensures in
    subst IsHome lent (c.self.invariant.full c.args.loc (rw (← c.self.view_is) at c.requires))

pub returns-clause-value : goal.returns-clause-value
returns-clause-value g c =
    let lent = held_is_read c.self.inside.set c.self.inside.cells c.args.loc c.in-Some.at c.self.invariant.is_part c.in-Some.ensures.place c.at.result.now c.at.ensures in
    rw (← c.self.view_is) (lent ∙ c.value.ensures)

pub returns-clause-whole : goal.returns-clause-whole
returns-clause-whole g c = rw (← c.self.view_is) c.self.invariant
