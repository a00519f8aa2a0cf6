use Rattle.std.proofs.Common.{◌-◌}
use Rattle.resting_rounds.specs.Front.{HasCores}
use Rattle.resting_rounds.specs.Waiting.{tasks_of}
use Rattle.resting_rounds.proofs.front.gather_cores.Given as goal

abbrev pub invariant-loop-cores : goal.invariant-loop-cores
invariant-loop-cores g l = HasCores (g.A.App.meaning l.app) (g.A.Resting.covers l.app) (tasks_of l.waiting) l.place l.cores

abbrev pub decreases-loop-cores : goal.decreases-loop-cores
decreases-loop-cores g l = l.place - l.cores.count
