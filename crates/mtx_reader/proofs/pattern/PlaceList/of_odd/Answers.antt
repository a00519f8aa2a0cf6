use Rattle.mtx_reader.proofs.Settling.{odd-are_places, odd-is_grid}
use Rattle.mtx_reader.proofs.pattern.PlaceList.of_odd.Goals as goal

pub invariant_of-result : goal.invariant_of-result
invariant_of-result c =
    odd-are_places _ _ _ c.sort_unstable.ensures.permutation c.keep_odd.ensures.ascending c.keep_odd.ensures.odd c.args.rows c.args.columns c.requires

pub returns : goal.returns
returns c =
    odd-is_grid _ _ _ c.sort_unstable.ensures.permutation c.keep_odd.ensures.ascending c.keep_odd.ensures.odd c.args.rows c.args.columns c.requires
