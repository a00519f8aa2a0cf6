use Rattle.std.proofs.lemmas.Result.{IfOk-weaker}
use Rattle.app_laws.specs.Applications.{IsEffect}
use Rattle.logic_sim.specs.Bundles.{IsEffectOn}
use Rattle.logic_sim.specs.Event.{change_of, time_of}
use Rattle.logic_sim.specs.Meaning.{change_set, simulation}
use Rattle.logic_sim.proofs.Effects.{change_is_effect}
use Rattle.logic_sim.proofs.circuit.application.CircuitApp.run.Goals as goal

pub returns-then-kind-eq-CHANGE-clause-effect : goal.returns-then-kind-eq-CHANGE-clause-effect
returns-then-kind-eq-CHANGE-clause-effect c =
    let self = c.args.self.now in
    let task = c.args.task.now in
    IfOk-weaker c.change_effect.result (IsEffectOn self (change_set task.body.at) (change_of self (time_of task.key.prio) task.body.at task.body.arg) c.args.bundle) (IsEffect (simulation self) task c.args.bundle)
    (λ effect made. change_is_effect self task c.args.bundle effect c.if-kind-eq-CHANGE.true made) c.change_effect.ensures.effect
