use Rattle.std.proofs.Common.{refl, sym, ◌∙◌, subst}
use Rattle.cell_store.specs.Cells.{AreHome}
use Rattle.std.proofs.lemmas.Result.{IfOk-weaker}
use Rattle.app_laws.specs.ActingLaws.{ready, are_home, never_out, known_is, new_is, children_are, text_is}
use Rattle.app_laws.proofs.serial_run.act.Goals as goal

pub unreachable-requires : goal.unreachable-requires
unreachable-requires g c =
    never_out (g.A.App.meaning c.args.app.now) (c.lawful.ensures c.args.app.now) c.args.task.now c.args.store.now c.requires.fit c.requires.home c.requires.cells
    c.value_laws.ensures.homes c.value_laws.ensures.agreement c.in-Out.field-0 (sym c.in-Out.is ∙ c.in_ok-set.ensures.answer)

pub returns-clause-store : goal.returns-clause-store
returns-clause-store g c =
    let found = known_is (g.A.App.meaning c.args.app.now) (c.lawful.ensures c.args.app.now) c.args.task.now c.args.store.now c.requires.fit c.requires.home c.requires.cells
    c.value_laws.ensures.agreement c.in-Known.set (sym c.in-Known.is ∙ c.in_ok-set.ensures.answer) in
    let is = new_is (g.A.App.meaning c.args.app.now) (c.lawful.ensures c.args.app.now) c.args.task.now c.args.store.now c.requires.fit c.requires.home c.requires.cells
    c.in-Known.set found c.value_laws.ensures.new_values in
    IfOk-weaker c.act_by_bundle.result _ _ (λ made. is made.0 made.1 c.act_by_bundle.new.store) c.act_by_bundle.ensures.done

pub act_by_bundle-requires-clause-home : goal.act_by_bundle-requires-clause-home
act_by_bundle-requires-clause-home g c κs within =
    let found = known_is (g.A.App.meaning c.args.app.now) (c.lawful.ensures c.args.app.now) c.args.task.now c.args.store.now c.requires.fit c.requires.home c.requires.cells
    c.value_laws.ensures.agreement c.in-Known.set (sym c.in-Known.is ∙ c.in_ok-set.ensures.answer) in
    subst (AreHome c.args.store.now) (sym found) (are_home (g.A.App.meaning c.args.app.now) (c.lawful.ensures c.args.app.now) c.args.task.now c.args.store.now c.requires.fit c.requires.home c.requires.cells c.value_laws.ensures.homes)

pub run_at_home-requires-clause-ready : goal.run_at_home-requires-clause-ready
run_at_home-requires-clause-ready g c = (_, ready (g.A.App.meaning c.args.app.now) (c.lawful.ensures c.args.app.now) c.args.task.now c.args.store.now c.requires.fit c.requires.home c.requires.cells c.value_laws.ensures.homes)

pub returns-then-works_at_home-clause-store : goal.returns-then-works_at_home-clause-store
returns-then-works_at_home-clause-store g c =
    let is = new_is (g.A.App.meaning c.args.app.now) (c.lawful.ensures c.args.app.now) c.args.task.now c.args.store.now c.requires.fit c.requires.home c.requires.cells _ refl c.value_laws.ensures.new_values in
    IfOk-weaker c.run_at_home.result _ _ (λ made. is made.0 made.1 c.run_at_home.new.store)
    (c.run_at_home.ensures.done _ (ready (g.A.App.meaning c.args.app.now) (c.lawful.ensures c.args.app.now) c.args.task.now c.args.store.now c.requires.fit c.requires.home c.requires.cells c.value_laws.ensures.homes))

pub returns-then-works_at_home-clause-children : goal.returns-then-works_at_home-clause-children
returns-then-works_at_home-clause-children g c =
    let is = children_are (g.A.App.meaning c.args.app.now) (c.lawful.ensures c.args.app.now) c.args.task.now c.args.store.now c.requires.fit c.requires.home c.requires.cells _ refl in
    IfOk-weaker c.run_at_home.result _ _ (λ made. is made.0 made.1 c.run_at_home.new.store)
    (c.run_at_home.ensures.done _ (ready (g.A.App.meaning c.args.app.now) (c.lawful.ensures c.args.app.now) c.args.task.now c.args.store.now c.requires.fit c.requires.home c.requires.cells c.value_laws.ensures.homes))

pub returns-then-works_at_home-clause-text : goal.returns-then-works_at_home-clause-text
returns-then-works_at_home-clause-text g c =
    let is = text_is (g.A.App.meaning c.args.app.now) (c.lawful.ensures c.args.app.now) c.args.task.now c.args.store.now c.requires.fit c.requires.home c.requires.cells _ refl in
    IfOk-weaker c.run_at_home.result _ _ (λ made. is made.0 made.1 c.run_at_home.new.store)
    (c.run_at_home.ensures.done _ (ready (g.A.App.meaning c.args.app.now) (c.lawful.ensures c.args.app.now) c.args.task.now c.args.store.now c.requires.fit c.requires.home c.requires.cells c.value_laws.ensures.homes))
