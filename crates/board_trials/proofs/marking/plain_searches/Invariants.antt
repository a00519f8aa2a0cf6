use Rattle.std.proofs.Common.{◌≤◌}
use Rattle.board_trials.proofs.marking.plain_searches.Given as goal

abbrev pub invariant-loop : goal.invariant-loop
invariant-loop g l = l.alike ≤ l.counter
