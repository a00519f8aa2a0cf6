use Rattle.std.proofs.Common.{◌≡◌}
use Rattle.board_trials.proofs.marking.mark_in_turn.Given as goal

abbrev pub invariant-loop-number : goal.invariant-loop-number
invariant-loop-number l = record {
  first : l.first ≡ record l.fn.first { marks = l.first.marks };
  second : l.second ≡ record l.fn.second { marks = l.second.marks };
}
