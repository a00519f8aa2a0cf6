use Rattle.std.proofs.Common.{◌≤◌, All, length}
use Rattle.rw_sets.specs.Accesses.{IsInRange}
use Rattle.board_trials.proofs.marking.single_sets.Given as goal

abbrev pub invariant-loop-loc : goal.invariant-loop-loc
invariant-loop-loc l = record { in_range : All (λ set. IsInRange set l.cells) l.sets.items; count : length l.sets.items ≤ l.loc-index }
