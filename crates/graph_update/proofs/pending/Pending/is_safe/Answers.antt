use Rattle.std.proofs.Common.{◌≡◌, Some, subst}
use Rattle.kdg_graph.specs.Nodes.{task_at}
use Rattle.graph_update.proofs.Sources.{source_apart, source_fit, writers_are}
use Rattle.graph_update.proofs.pending.Pending.is_safe.Goals as goal

pub safe-requires-clause-fit : goal.safe-requires-clause-fit
safe-requires-clause-fit g c =
    let at = subst (λ nodes. task_at nodes c.args.source ≡ Some c.task.result.now) c.self.view_is c.task.ensures in
    source_fit (g.A.App.meaning c.args.app.now) c.args.self.now c.args.source c.task.result.now at c.node_laws.ensures.ids_find c.requires.covered.tasks

pub safe-requires-clause-apart : goal.safe-requires-clause-apart
safe-requires-clause-apart g c =
    let at = subst (λ nodes. task_at nodes c.args.source ≡ Some c.task.result.now) c.self.view_is c.task.ensures in
    source_apart (g.A.App.meaning c.args.app.now) c.args.self.now c.args.source c.task.result.now at
    c.lower_laws.ensures c.node_laws.ensures.ids_find c.source_laws.ensures.unblocked c.requires.graph c.requires.source c.requires.covered

pub safe-requires-clause-writers : goal.safe-requires-clause-writers
safe-requires-clause-writers g c = writers_are (g.A.App.meaning c.args.app.now) c.writer_laws.ensures c.args.self.now c.requires.covered.tasks c.requires.fixed
