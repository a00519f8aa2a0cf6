use Rattle.rw_sets.specs.PairLaws.{pairs_are_named, pairs_are_written, pairs_in_any_order, pairs_by_parts}
use Rattle.rw_sets.proofs.laws.pair_laws.Goals as goal

pub returns-clause-named : goal.returns-clause-named
returns-clause-named c = pairs_are_named

pub returns-clause-written : goal.returns-clause-written
returns-clause-written c = pairs_are_written

pub returns-clause-in_any_order : goal.returns-clause-in_any_order
returns-clause-in_any_order c = pairs_in_any_order

pub returns-clause-by_parts : goal.returns-clause-by_parts
returns-clause-by_parts c = pairs_by_parts
