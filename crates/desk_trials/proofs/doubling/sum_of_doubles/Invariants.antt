use Rattle.std.specs.Prelude.{◌≡◌}
use Rattle.desk_trials.proofs.doubling.sum_of_doubles.Given as goal

abbrev pub invariant-loop-x : goal.invariant-loop-x
invariant-loop-x l = l.giver.desk ≡ l.fn.desk.desk
