use Rattle.std.proofs.Common.{sym, ◌∙◌}
use Rattle.app_laws.specs.ActingLaws.{never_out}
use Rattle.mark_rounds.proofs.marking.declared_set.Goals as goal

pub unreachable-requires : goal.unreachable-requires
unreachable-requires g c =
    never_out (g.A.App.meaning c.args.app.now) (c.lawful.ensures c.args.app.now) c.args.task.now c.args.store.now c.requires.fit c.requires.home c.requires.cells
    c.value_laws.ensures.homes c.value_laws.ensures.agreement c.in-Out.field-0 (sym c.in-Out.is ∙ c.in_ok-set.ensures.answer)
