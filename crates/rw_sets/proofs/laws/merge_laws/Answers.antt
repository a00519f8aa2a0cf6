use Rattle.rw_sets.specs.MergeLaws.{ascending_merged, access_merged, merged_none}
use Rattle.rw_sets.specs.LookupLaws.{merges_commute, merges_associate, merges_are_idempotent}
use Rattle.rw_sets.specs.PairLaws.{merges_write_what_one_does}
use Rattle.rw_sets.proofs.laws.merge_laws.Goals as goal

pub returns-clause-ascending : goal.returns-clause-ascending
returns-clause-ascending c = ascending_merged

pub returns-clause-by_location : goal.returns-clause-by_location
returns-clause-by_location c = access_merged

pub returns-clause-written : goal.returns-clause-written
returns-clause-written c = merges_write_what_one_does

pub returns-clause-commutative : goal.returns-clause-commutative
returns-clause-commutative c = merges_commute

pub returns-clause-associative : goal.returns-clause-associative
returns-clause-associative c = merges_associate

pub returns-clause-idempotent : goal.returns-clause-idempotent
returns-clause-idempotent c = merges_are_idempotent

pub returns-clause-with_nothing : goal.returns-clause-with_nothing
returns-clause-with_nothing c = merged_none
