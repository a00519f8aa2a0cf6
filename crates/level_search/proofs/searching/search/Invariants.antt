use Rattle.std.proofs.Common.{◌-◌}
use Rattle.level_search.proofs.Course.{HasCome}
use Rattle.level_search.proofs.searching.search.Given as goal

abbrev pub invariant-loop-found : goal.invariant-loop-found
invariant-loop-found l = HasCome l.walk.pattern l.walk.from l.limit l.level l.ended l.rounds l.found

abbrev pub decreases-loop-found : goal.decreases-loop-found
decreases-loop-found l = l.limit - l.ended
