use Rattle.rw_sets.specs.Accesses.{IsInRange}
use Rattle.board_trials.proofs.marking.Words.set.Given as goal

abbrev pub invariant-loop : goal.invariant-loop
invariant-loop l = IsInRange l.set l.cells
