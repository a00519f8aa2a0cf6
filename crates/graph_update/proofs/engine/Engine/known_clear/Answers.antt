use Rattle.std.proofs.Common.{subst}
use Rattle.std.specs.Prelude.{IfSome}
use Rattle.graph_update.specs.Engine.{EngineState}
use Rattle.run_laws.specs.Events.{IsOfClear}
use Rattle.graph_update.proofs.ReadyIds.{first_clear}
use Rattle.graph_update.proofs.engine.Engine.known_clear.Goals as goal

pub returns : goal.returns
returns g c =
    subst (λ (state : EngineState g.row.A.Denot g.row.A-Val.Denot). IfSome c.first.result (IsOfClear (g.A.App.meaning state.app) state.progress.nodes)) c.self.view_is
    (first_clear (g.A.App.meaning c.self.inside.app.now) c.self.inside.agenda.graph c.self.inside.agenda.ready c.first.result c.self.invariant.1.clear c.first.ensures)
