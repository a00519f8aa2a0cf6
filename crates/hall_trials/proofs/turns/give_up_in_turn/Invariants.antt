use Rattle.std.specs.Prelude.{[]}
use Rattle.hall_trials.proofs.turns.give_up_in_turn.Given as goal

abbrev pub ghosts-leave : goal.ghosts-leave
ghosts-leave g a = record { jobs = a.self.view.jobs; ended = [] }
