use Rattle.graph_update.proofs.Sources.{kept_covered}
use Rattle.graph_update.proofs.engine.Engine.find_clear.Goals as goal

pub list_clear-requires-clause-covered : goal.list_clear-requires-clause-covered
list_clear-requires-clause-covered g c κs within = kept_covered (g.A.App.meaning c.self.inside.app.now) _ c.self.invariant.0
