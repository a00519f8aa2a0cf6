use Rattle.rw_sets.specs.IndependenceLaws.{independent_without_conflict, independence_is_decided, independence_is_mutual}
use Rattle.rw_sets.proofs.laws.independence_laws.Goals as goal

pub returns-clause-without_conflict : goal.returns-clause-without_conflict
returns-clause-without_conflict c = independent_without_conflict

pub returns-clause-decided : goal.returns-clause-decided
returns-clause-decided c = independence_is_decided

pub returns-clause-mutual : goal.returns-clause-mutual
returns-clause-mutual c = independence_is_mutual
