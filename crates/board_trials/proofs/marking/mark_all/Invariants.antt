use Rattle.std.proofs.Common.{◌≡◌}
use Rattle.board_trials.proofs.marking.mark_all.Given as goal

abbrev pub invariant-loop-rank : goal.invariant-loop-rank
invariant-loop-rank l = l.marker ≡ record l.fn.marker { marks = l.marker.marks }
