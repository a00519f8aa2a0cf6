use Rattle.std.specs.Prelude.{[]}
use Rattle.hall_trials.specs.Seated.{jobs_claimed}
use Rattle.hall_trials.proofs.turns.claim_in_turn.Given as goal

abbrev pub ghosts-leave_after_claim : goal.ghosts-leave_after_claim
ghosts-leave_after_claim g a = record { jobs = jobs_claimed a.claim.now a.turn.view.jobs; ended = [] }
