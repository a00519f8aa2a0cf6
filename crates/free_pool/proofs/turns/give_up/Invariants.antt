use Rattle.std.proofs.Common.{[]}
use Rattle.free_pool.proofs.turns.give_up.Given as goal

abbrev pub ghosts-leave : goal.ghosts-leave
ghosts-leave g a = record { jobs = a.self.view.jobs; ended = [] }
