use Rattle.std.proofs.Common.{◌≡◌, All, length}
use Rattle.rw_sets.specs.Accesses.{IsInRange}
use Rattle.board_trials.proofs.marking.Words.sets.Given as goal

abbrev pub invariant-loop : goal.invariant-loop
invariant-loop l = record { in_range : All (λ set. IsInRange set l.cells) l.sets.items; count : length l.sets.items ≡ l.counter }
