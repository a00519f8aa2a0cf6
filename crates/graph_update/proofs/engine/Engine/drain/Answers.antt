use Rattle.std.proofs.Common.{[], sym, ap}
use Rattle.run_laws.specs.Events.{undrainable}
use Rattle.graph_update.proofs.Draining.{kept_by_drain, left_by_least}
use Rattle.graph_update.proofs.engine.Engine.drain.Goals as goal

pub invariant_of-self : goal.invariant_of-self
invariant_of-self g c =
    let app = g.A.App.meaning c.self.inside.app.now in (
      kept_by_drain app c.take_below.result _ _ _ (c.drain_laws.ensures.sound c.self.inside.app.now) c.self.invariant.0
          (left_by_least app c.self.inside.agenda.graph c.in-Some.least c.task.result.now c.self.inside.tally.log.entries c.in-Some.ensures.least c.task.ensures)
          c.take_below.ensures.rest c.take_below.ensures.unchanged,
      c.self.invariant.1,
    )

pub invariant_of-self-in-None : goal.invariant_of-self-in-None
invariant_of-self-in-None g c =
    let app = g.A.App.meaning c.self.inside.app.now in (
      kept_by_drain app c.take_all.result _ _ [] (c.drain_laws.ensures.sound c.self.inside.app.now) c.self.invariant.0
          (sym (ap (λ nodes. undrainable app nodes c.self.inside.tally.log.entries) c.in-None.ensures.empty))
          c.take_all.ensures.rest c.take_all.ensures.unchanged,
      c.self.invariant.1,
    )
