use Rattle.rw_sets.specs.MergeLaws.{ascending_merged}
use Rattle.rw_sets.proofs.rw_set.RwSet.merge.Goals as goal

pub invariant_of-result : goal.invariant_of-result
invariant_of-result c = rw (c.in_ok-pairs.ensures, c.items.ensures.all) (ascending_merged _ c.items-2.result.now c.items.ensures.ascending)
