use Rattle.hall_trials.specs.Seated.{jobs_left, keys_ended}
use Rattle.hall_trials.proofs.turns.end_in_turn.Given as goal

abbrev pub ghosts-leave_after_end : goal.ghosts-leave_after_end
ghosts-leave_after_end g a = record { jobs = jobs_left a.ended a.turn.view.jobs; ended = keys_ended a.ended a.turn.view.jobs }
