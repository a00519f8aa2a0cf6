use Rattle.std.proofs.Common.{◌++◌}
use Rattle.free_pool.specs.Acted.{jobs_stuck, keys_acted}
use Rattle.free_pool.specs.Turns.{jobs_left, keys_ended}
use Rattle.free_pool.proofs.turns.leave_as.Given as goal

abbrev pub ghosts-leave_with : goal.ghosts-leave_with
ghosts-leave_with g a = record {
  jobs = jobs_stuck a.stuck.now ++ jobs_left a.turn.view.jobs a.ended a.hand.now.jobs.items;
  ended = keys_ended a.turn.view.jobs a.ended ++ keys_acted a.hand.now.acted.items;
}
