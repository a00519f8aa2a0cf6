use Rattle.std.proofs.Common.{◌≡◌, [], List, true, refl, sym, subst, ◌∙◌}
use Rattle.cell_store.specs.Values.{values_of}
use Rattle.run_laws.specs.Jobs.{Job}
use Rattle.source_pool.specs.Performing.{AreDone, AreOfShares, AreShared, HasDrawn}
use Rattle.source_pool.proofs.DrawnInOrder.{then_drawn}
use Rattle.source_pool.proofs.sharing.give_all.Goals as goal

pub draw_rest-requires-clause-not_over : goal.draw_rest-requires-clause-not_over
draw_rest-requires-clause-not_over g c κs within =
    let app = c.args.engine.now.app in
    let asked = c.requires.1.1.1.1.1.1 in
    let begins = c.drawing_laws.ensures.begins app g.from.start c.args.engine.now.progress (values_of g.from.start.cells) g.from.state g.from.text asked.0 in
    (c.in_ok-give_out.ensures.drawn g.from [] begins).2.course.over

pub returns-clause-drawn : goal.returns-clause-drawn
returns-clause-drawn g c =
    let meaning = g.A.App.meaning in
    let app = c.args.engine.now.app in
    let mid = c.give_out.new.engine.progress in
    let new = c.draw_rest.new.engine.progress in
    let drawn = c.draw_rest.new.jobs.items in
    let given = c.give_out.new.shares in
    let shares = c.take_back.new.shares in
    let hand = c.play.new.hand in
    let here = c.draw_rest.ensures.app ∙ c.give_out.ensures.app in
    let rest = subst (λ (a : g.row.A.Denot). HasDrawn (meaning a) (λ jobs. jobs ≡ drawn) mid new) c.give_out.ensures.app c.in_ok-draw_rest.ensures.drawn in
    let same = subst (λ (a : g.row.A.Denot). (jobs : List (Job g.row.A-Val.Denot)) → AreOfShares meaning a given jobs → AreOfShares meaning a shares jobs) (c.app-2.ensures ∙ here) c.take_back.ensures.same in
    let played = subst (λ (a : g.row.A.Denot). hand.is_done ≡ true → AreDone (meaning a) hand.dones.items drawn) (c.app.ensures ∙ here) c.play.ensures in
    then_drawn (meaning app) (AreOfShares meaning app given) (λ jobs. jobs ≡ drawn) (AreShared meaning app shares hand) c.args.engine.now.progress mid new
    (λ own more is such. record {
      given = own;
      own = more;
      are = refl;
      of_shares = same own is;
      of_hand = λ done. subst (AreDone (meaning app) hand.dones.items) (sym such) (played done);
    })
    c.in_ok-give_out.ensures.drawn rest
