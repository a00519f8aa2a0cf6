use Rattle.logic_sim.proofs.AtHome.{HomeLaws, change_done, evaluation_done, tick_done, fan_in_home, if_ok_all, plan_home, plan_below}
use Rattle.logic_sim.proofs.circuit.application.CircuitApp.run_at_home.Goals as goal

pub evaluate-requires-clause-fan_in : goal.evaluate-requires-clause-fan_in
evaluate-requires-clause-fan_in c = fan_in_home c.args.self.now c.requires.fit c.requires.ready.1 c.if-kind-eq-CHANGE.false

pub evaluate-requires-clause-read : goal.evaluate-requires-clause-read
evaluate-requires-clause-read c = plan_home c.args.self.now c.requires.fit c.requires.ready.1 c.if-kind-eq-CHANGE.false

pub evaluate-requires-clause-written : goal.evaluate-requires-clause-written
evaluate-requires-clause-written c = plan_below c.args.self.now c.requires.fit c.requires.ready.1 c.if-kind-eq-CHANGE.false c.location_laws.ensures.parts

pub tick-requires-clause-fan_in : goal.tick-requires-clause-fan_in
tick-requires-clause-fan_in c = fan_in_home c.args.self.now c.requires.fit c.requires.ready.1 c.if-kind-eq-CHANGE.false

pub tick-requires-clause-read : goal.tick-requires-clause-read
tick-requires-clause-read c = plan_home c.args.self.now c.requires.fit c.requires.ready.1 c.if-kind-eq-CHANGE.false

pub tick-requires-clause-written : goal.tick-requires-clause-written
tick-requires-clause-written c = plan_below c.args.self.now c.requires.fit c.requires.ready.1 c.if-kind-eq-CHANGE.false c.location_laws.ensures.parts

pub returns-then-kind-eq-CHANGE-clause-done : goal.returns-then-kind-eq-CHANGE-clause-done
returns-then-kind-eq-CHANGE-clause-done c = λ set ready.
    let laws : HomeLaws = record {
      held = record { parts = c.location_laws.ensures.parts; values = c.value_laws.ensures.homes };
      gives_back = c.return_laws.ensures.gives_back;
      writes = c.home_laws.ensures;
    } in
    if_ok_all c.change.result (λ made. change_done c.args.self.now c.requires.fit ready laws c.if-kind-eq-CHANGE.true c.change.new.cells made.0 made.1)
    c.change.ensures.cells c.change.ensures.children c.change.ensures.text

pub returns-then-kind-eq-EVAL-clause-done : goal.returns-then-kind-eq-EVAL-clause-done
returns-then-kind-eq-EVAL-clause-done c = λ set ready.
    let laws : HomeLaws = record {
      held = record { parts = c.location_laws.ensures.parts; values = c.value_laws.ensures.homes };
      gives_back = c.return_laws.ensures.gives_back;
      writes = c.home_laws.ensures;
    } in
    if_ok_all c.evaluate.result (λ made. evaluation_done c.args.self.now c.requires.fit ready laws c.if-kind-eq-EVAL.true c.evaluate.new.cells made.0 made.1)
    c.evaluate.ensures.cells c.evaluate.ensures.children c.evaluate.ensures.text

pub returns-else-kind-eq-EVAL-clause-done : goal.returns-else-kind-eq-EVAL-clause-done
returns-else-kind-eq-EVAL-clause-done c = λ set ready.
    let laws : HomeLaws = record {
      held = record { parts = c.location_laws.ensures.parts; values = c.value_laws.ensures.homes };
      gives_back = c.return_laws.ensures.gives_back;
      writes = c.home_laws.ensures;
    } in
    if_ok_all c.tick.result (λ made. tick_done c.args.self.now c.requires.fit ready laws c.if-kind-eq-CHANGE.false c.if-kind-eq-EVAL.false c.tick.new.cells made.0 made.1)
    c.tick.ensures.cells c.tick.ensures.children c.tick.ensures.text
