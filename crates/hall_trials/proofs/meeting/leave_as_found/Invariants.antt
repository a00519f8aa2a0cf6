use Rattle.std.specs.Prelude.{[]}
use Rattle.hall_trials.proofs.meeting.leave_as_found.Given as goal

abbrev pub ghosts-leave : goal.ghosts-leave
ghosts-leave g a = record { jobs = a.self.view.jobs; ended = [] }
