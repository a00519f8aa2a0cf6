use Rattle.std.proofs.Common.{◌≡◌}
use Rattle.board_trials.proofs.marking.free_in_next_round.Given as goal

abbrev pub invariant-loop-rank : goal.invariant-loop-rank
invariant-loop-rank l = l.marker ≡ l.initial.marker
