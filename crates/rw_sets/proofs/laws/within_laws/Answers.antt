use Rattle.rw_sets.specs.LookupLaws.{within_is_antisymmetric, merges_hold_both, merges_are_least}
use Rattle.rw_sets.specs.IndependenceLaws.{within_by_members}
use Rattle.rw_sets.proofs.laws.within_laws.Goals as goal

pub returns-clause-by_members : goal.returns-clause-by_members
returns-clause-by_members c = within_by_members

pub returns-clause-antisymmetric : goal.returns-clause-antisymmetric
returns-clause-antisymmetric c = within_is_antisymmetric

pub returns-clause-merge_holds_both : goal.returns-clause-merge_holds_both
returns-clause-merge_holds_both c = merges_hold_both

pub returns-clause-merge_is_least : goal.returns-clause-merge_is_least
returns-clause-merge_is_least c = merges_are_least
