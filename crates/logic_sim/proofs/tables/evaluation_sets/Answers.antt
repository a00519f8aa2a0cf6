use Rattle.logic_sim.proofs.Sets.{small_fan_in}
use Rattle.logic_sim.proofs.tables.evaluation_sets.Goals as goal

pub evaluation_set-requires-clause-fan_in : goal.evaluation_set-requires-clause-fan_in
evaluation_set-requires-clause-fan_in c =
    small_fan_in c.args.signals.now c.loop-number.number c.index-signals-number.result c.requires.few c.requires.wired c.loop-number-test.true c.index-signals-number.is
