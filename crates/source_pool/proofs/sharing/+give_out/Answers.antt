use Rattle.std.proofs.Common.{List, sym, ◌∙◌, subst}
use Rattle.std.specs.List.{All}
use Rattle.std.proofs.lemmas.List.Elements.{All-cons, All-head, All-tail}
use Rattle.std.proofs.lemmas.Result.{on_ok_weaker}
use Rattle.source_pool.specs.declared.shares.Share.{Share}
use Rattle.source_pool.specs.Performing.{AreOfShares, HasDrawn, IsShareOf, IsTold}
use Rattle.source_pool.proofs.DrawnInOrder.{none_drawn, none_of_none, share_drawn}
use Rattle.source_pool.proofs.sharing.+give_out.Goals as goal

pub returns-in_default-clause-drawn : goal.returns-in_default-clause-drawn
returns-in_default-clause-drawn g t c =
    let app = c.args.engine.now.app in
    none_drawn (g.A.App.meaning app) (AreOfShares g.A.App.meaning app c.args.shares.now) c.args.engine.now.progress (none_of_none g.A.App.meaning app c.args.shares.now c.in_default.ensures.cases)

pub returns-in_err-draw_some-clause-told : goal.returns-in_err-draw_some-clause-told
returns-in_err-draw_some-clause-told g t c =
    let told_all = subst (λ (shares : List (Share g.row.A.Denot g.row.A-Val.Denot g.row.A-Horizon.Denot)). All (IsTold g.A.App.meaning c.args.engine.now.app) shares) c.in-Some.ensures.cases.0 c.requires.told in
    let told = All-head (IsTold g.A.App.meaning c.args.engine.now.app) c.in-Some.share.now c.in-Some.more.now told_all in
    let others = All-tail (IsTold g.A.App.meaning c.args.engine.now.app) c.in-Some.share.now c.in-Some.more.now told_all in
    let share : Share g.row.A.Denot g.row.A-Val.Denot g.row.A-Horizon.Denot = record c.in-Some.share.now { hand = record c.in-Some.share.now.hand { jobs = c.draw_some.new.jobs } } in
    All-cons (IsTold g.A.App.meaning c.args.engine.now.app) share c.in-Some.more.now (record { partner = told.partner; errand = told.errand }) others

pub give_out-requires-clause-told : goal.give_out-requires-clause-told
give_out-requires-clause-told g t c κs within =
    let told_all = subst (λ (shares : List (Share g.row.A.Denot g.row.A-Val.Denot g.row.A-Horizon.Denot)). All (IsTold g.A.App.meaning c.args.engine.now.app) shares) c.in-Some.ensures.cases.0 c.requires.told in
    subst (λ (app : g.row.A.Denot). All (IsTold g.A.App.meaning app) c.in-Some.more.now) (sym c.draw_some.ensures.app)
    (All-tail (IsTold g.A.App.meaning c.args.engine.now.app) c.in-Some.share.now c.in-Some.more.now told_all)

pub returns-clause-drawn : goal.returns-clause-drawn
returns-clause-drawn g t c =
    let app = c.args.engine.now.app in
    let is_of = subst (λ (other : g.row.A.Denot). IsShareOf g.A.App.meaning other c.give.new.self c.draw_some.new.jobs.items) (c.app.ensures ∙ c.draw_some.ensures.app) c.give.ensures.share in
    on_ok_weaker c.give_out.result
    (λ (drawn : HasDrawn (g.A.App.meaning c.draw_some.new.engine.app) (AreOfShares g.A.App.meaning c.draw_some.new.engine.app c.give_out.new.shares) c.draw_some.new.engine.progress c.give_out.new.engine.progress).
    share_drawn g.A.App.meaning app c.give.new.self c.give_out.new.shares c.draw_some.new.jobs.items
    c.args.engine.now.progress c.draw_some.new.engine.progress c.give_out.new.engine.progress
    c.in_ok-draw_some.ensures.drawn
    is_of
    (subst (λ (other : g.row.A.Denot). HasDrawn (g.A.App.meaning other) (AreOfShares g.A.App.meaning other c.give_out.new.shares) c.draw_some.new.engine.progress c.give_out.new.engine.progress) c.draw_some.ensures.app drawn))
    c.give_out.ensures.drawn
