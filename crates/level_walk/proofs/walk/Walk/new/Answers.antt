use Rattle.std.proofs.Common.{arith, ap, sym, subst, length}
use Rattle.std.specs.List.Sorted.{IsNonDecreasingBy}
use Rattle.mtx_reader.specs.Places.{Place}
use Rattle.level_walk.proofs.Between.{few_places, rows_in_order}
use Rattle.level_walk.proofs.walk.Walk.new.Goals as goal

pub edge_ends-requires-clause-few : goal.edge_ends-requires-clause-few
edge_ends-requires-clause-few c =
    let is = c.requires.pattern in
    let few = few_places c.args.pattern.rows c.args.pattern.cols c.args.pattern.places is.rows is.columns is.within is.ascending in
    let same = ap length c.items.ensures.all in
    omega (arith, few, same)

pub edge_ends-requires-clause-in_order : goal.edge_ends-requires-clause-in_order
edge_ends-requires-clause-in_order c =
    subst (IsNonDecreasingBy (λ (place : Place). place.0)) (sym c.items.ensures.all) (rows_in_order c.args.pattern.places c.requires.pattern.ascending)
