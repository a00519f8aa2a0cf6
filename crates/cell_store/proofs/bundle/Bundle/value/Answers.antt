use Rattle.std.proofs.Common.{arith, ◌∙◌, subst}
use Rattle.cell_store.specs.Home.{IsHome}
use Rattle.cell_store.specs.Storage.{cells_of}
use Rattle.cell_store.proofs.Locations.{held_in_place}
use Rattle.cell_store.proofs.bundle.Bundle.value.Goals as goal

pub value_at-requires : goal.value_at-requires
value_at-requires g c =
    let whole = c.self.invariant.is_part in
    let lent = held_in_place c.self.inside.set (cells_of c.self.inside.cells) c.args.loc c.in-Some.at whole.ascending whole.one_each c.in-Some.ensures.place in
    record {
      in_range = omega (arith, c.in-Some.ensures.place.in_range, whole.one_each);
      home = subst IsHome lent (c.self.invariant.full c.args.loc (rw (← c.self.view_is) at c.requires));
    }

pub returns : goal.returns
returns g c =
    let whole = c.self.invariant.is_part in
    let lent = held_in_place c.self.inside.set (cells_of c.self.inside.cells) c.args.loc c.in-Some.at whole.ascending whole.one_each c.in-Some.ensures.place in
    rw (← c.self.view_is) (lent ∙ c.value_at.ensures)
