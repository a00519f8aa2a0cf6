use Rattle.std.proofs.Common.{◌≡◌}
use Rattle.board_trials.proofs.marking.mark_fourth.Given as goal

abbrev pub invariant-loop-number : goal.invariant-loop-number
invariant-loop-number l = l.marker ≡ record l.fn.marker { marks = l.marker.marks }
