use Rattle.std.proofs.Common.{refl}
use Rattle.engine_trials.proofs.Walking.{walked_effect}
use Rattle.engine_trials.proofs.walkers.Arrows.walk.Goals as goal

pub returns : goal.returns
returns c = λ values are is.
    walked_effect c.args.self.now.to.items c.args.task.now c.args.bundle c.put.new.self c.in-Ok.children c.value.result _ c.new.result values
    c.requires.arrows c.requires.asked.fit.0 are is c.value.ensures refl c.put.ensures c.in-Ok.ensures c.new.ensures
