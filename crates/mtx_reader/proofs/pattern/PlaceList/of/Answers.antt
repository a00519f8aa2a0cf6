use Rattle.mtx_reader.proofs.Listing.{left-are_places, left-is_grid}
use Rattle.mtx_reader.proofs.pattern.PlaceList.of.Goals as goal

pub invariant_of-result : goal.invariant_of-result
invariant_of-result c =
    left-are_places _ _ _ c.sort_unstable.ensures.permutation c.sort_unstable.ensures.sorted c.dedup.ensures.filtered c.args.rows c.args.columns c.requires

pub returns : goal.returns
returns c =
    left-is_grid _ _ _ c.sort_unstable.ensures.permutation c.sort_unstable.ensures.sorted c.dedup.ensures.filtered c.args.rows c.args.columns c.requires
