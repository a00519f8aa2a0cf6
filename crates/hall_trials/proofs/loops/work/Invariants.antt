use Rattle.std.specs.Prelude.{[]}
use Rattle.hall_trials.specs.Seated.{IsLeftBy}
use Rattle.hall_trials.proofs.loops.work.Given as goal

abbrev pub invariant-loop : goal.invariant-loop
invariant-loop g l = IsLeftBy l.fn.post.hall.now l.fn.post.seat [] l.seat
