use Rattle.graph_update.proofs.Renewing.{fit_found}
use Rattle.graph_update.proofs.rewriting.renewed.Goals as goal

pub sets-requires-clause-fit : goal.sets-requires-clause-fit
sets-requires-clause-fit g c =
    (c.task.result.now.key.prio, fit_found (g.A.App.meaning c.args.app.now) c.args.graph.now c.args.later c.task.result.now c.node_laws.ensures.ids_find c.requires.tasks c.task.ensures)
