use Rattle.graph_update.proofs.ReadyIds.{all_are_ready}
use Rattle.graph_update.proofs.ready.Ready.look_again.Goals as goal

pub returns-clause-ready : goal.returns-clause-ready
returns-clause-ready g c = all_are_ready (g.A.App.meaning c.args.app.now) c.args.graph.now _ c.requires.graph c.in_ok-self.ensures.ids
