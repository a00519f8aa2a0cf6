use Rattle.rw_sets.specs.AccessLaws.{same_from_lookups, ascending_by_parts}
use Rattle.rw_sets.specs.PairLaws.{lookups_find_pairs, same_is_equal}
use Rattle.rw_sets.proofs.laws.lookup_laws.Goals as goal

pub returns-clause-determine_sets : goal.returns-clause-determine_sets
returns-clause-determine_sets c = same_from_lookups

pub returns-clause-equality : goal.returns-clause-equality
returns-clause-equality c = same_is_equal

pub returns-clause-find_pairs : goal.returns-clause-find_pairs
returns-clause-find_pairs c = lookups_find_pairs

pub returns-clause-ascending : goal.returns-clause-ascending
returns-clause-ascending c = ascending_by_parts
