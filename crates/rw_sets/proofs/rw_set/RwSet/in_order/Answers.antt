use Rattle.std.proofs.Common.{[], ◌∷◌}
use Rattle.rw_sets.specs.AccessLaws.{ascending_cons, ascending_none}
use Rattle.rw_sets.proofs.rw_set.RwSet.in_order.Goals as goal

pub invariant_of-result : goal.invariant_of-result
invariant_of-result c =
    rw c.of_two.ensures (ascending_cons c.args.first (c.args.second ∷ []) (c.requires, tt) (ascending_cons c.args.second [] tt ascending_none))
