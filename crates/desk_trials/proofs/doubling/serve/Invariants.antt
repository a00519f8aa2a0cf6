use Rattle.std.specs.Prelude.{◌≡◌}
use Rattle.desk_trials.proofs.doubling.serve.Given as goal

abbrev pub invariant-loop : goal.invariant-loop
invariant-loop l = l.worker.desk ≡ l.fn.desk.desk
