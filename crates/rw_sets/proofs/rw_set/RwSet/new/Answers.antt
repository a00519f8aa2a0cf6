use Rattle.rw_sets.specs.AccessLaws.{ascending_none}
use Rattle.rw_sets.proofs.rw_set.RwSet.new.Goals as goal

pub invariant_of-result : goal.invariant_of-result
invariant_of-result c = rw c.new.ensures ascending_none
