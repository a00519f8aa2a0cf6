use Rattle.std.specs.Prelude.{◌≡◌}
use Rattle.desk_trials.proofs.doubling.doubled.Given as goal

abbrev pub invariant-loop : goal.invariant-loop
invariant-loop l = (l.ticket.desk ≡ l.fn.desk.desk) × (l.ticket.given ≡ l.fn.x)
