use Rattle.hook_app.proofs.Bundles.{asked_of, back_from, effect_seen}
use Rattle.hook_app.proofs.hook_app.HookAppApp.run.Goals as goal

pub call-requires : goal.call-requires
call-requires g c =
    c.self.invariant.does_deeds.callable c.args.task.now c.args.bundle
    (asked_of g.D.Deed.meaning _ c.args.self.now c.self.view_is c.args.task.now c.args.bundle c.value_laws.ensures.homes c.requires.fit c.requires.cells)

pub returns-clause-effect : goal.returns-clause-effect
returns-clause-effect g c =
    effect_seen g.D.Deed.meaning _ c.args.self.now c.self.view_is c.args.task.now c.args.bundle c.call.result c.value_laws.ensures.homes c.requires.fit
    (c.self.invariant.does_deeds.does c.args.task.now c.args.bundle c.call.result
    (asked_of g.D.Deed.meaning _ c.args.self.now c.self.view_is c.args.task.now c.args.bundle c.value_laws.ensures.homes c.requires.fit c.requires.cells) c.call.ensures)

pub returns-clause-returned : goal.returns-clause-returned
returns-clause-returned g c =
    let asked = asked_of g.D.Deed.meaning _ c.args.self.now c.self.view_is c.args.task.now c.args.bundle c.value_laws.ensures.homes c.requires.fit c.requires.cells in
    back_from (g.D.Deed.meaning c.self.inside.deed.now) c.self.inside.cells c.self.inside.sets.items c.self.inside.ahead c.args.task.now c.args.bundle c.call.result asked
    (c.self.invariant.does_deeds.does c.args.task.now c.args.bundle c.call.result asked c.call.ensures)
