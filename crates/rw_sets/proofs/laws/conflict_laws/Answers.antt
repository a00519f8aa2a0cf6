use Rattle.rw_sets.specs.LookupLaws.{merges_conflict_by_parts}
use Rattle.rw_sets.specs.IndependenceLaws.{conflicts_are_decided, nothing_conflicts_with_empty}
use Rattle.rw_sets.proofs.laws.conflict_laws.Goals as goal

pub returns-clause-by_parts : goal.returns-clause-by_parts
returns-clause-by_parts c = merges_conflict_by_parts

pub returns-clause-decided : goal.returns-clause-decided
returns-clause-decided c = conflicts_are_decided

pub returns-clause-empty : goal.returns-clause-empty
returns-clause-empty c = nothing_conflicts_with_empty
