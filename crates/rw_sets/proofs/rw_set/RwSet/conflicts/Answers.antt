use Rattle.std.proofs.Common.{rules}
use Rattle.rw_sets.specs.IndependenceLaws.{tests_conflict}
use Rattle.rw_sets.proofs.rw_set.RwSet.conflicts.Goals as goal

pub returns-clause-tested : goal.returns-clause-tested
returns-clause-tested c = tests_conflict c.args.self.now c.args.other.now c.pairs_conflict.result (search rules)
