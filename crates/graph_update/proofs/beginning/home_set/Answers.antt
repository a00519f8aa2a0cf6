use Rattle.std.proofs.Common.{sym, ◌∙◌}
use Rattle.graph_update.proofs.AllHome.{never_out}
use Rattle.graph_update.proofs.beginning.home_set.Goals as goal

pub unreachable-requires : goal.unreachable-requires
unreachable-requires g c =
    never_out (g.A.App.meaning c.args.app.now) (c.lawful.ensures c.args.app.now) c.args.task.now c.args.store.now c.requires.fit_task c.requires.home c.requires.fit_cells
    c.value_laws.ensures.homes c.value_laws.ensures.agreement c.in-Out.field-0 (sym c.in-Out.is ∙ c.in_ok-set.ensures.answer)
