use Rattle.std.proofs.Common.{List, subst, sym}
use Rattle.kdg_graph.specs.Node.{Node}
use Rattle.graph_update.specs.Engine.{AreKnown, IsKept, progress_of}
use Rattle.graph_update.proofs.engine.Engine.settle.Goals as goal

pub invariant_of-self : goal.invariant_of-self
invariant_of-self g c =
    let app = g.A.App.meaning c.self.inside.app.now in
    subst (λ (nodes : List Node). IsKept app (progress_of c.self.inside.store nodes c.self.inside.tally)
    × AreKnown app (g.A.App.tells c.self.inside.app.now c.self.inside.agenda.horizon) nodes c.self.inside.agenda.ready) (sym c.settle.ensures.same) c.self.invariant
