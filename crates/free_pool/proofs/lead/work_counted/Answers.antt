use Rattle.std.proofs.Common.{◌∙◌, refl, sym, subst}
use Rattle.free_pool.specs.Streams.{IsFrontTold}
use Rattle.free_pool.specs.Turns.{AreToPerform, GoesOn}
use Rattle.free_pool.proofs.Leading.{leading_begins, leads_on, tells_on_both, told_with, where_some}
use Rattle.free_pool.proofs.Told.{front_told}
use Rattle.free_pool.proofs.Working.{begins, performs, waits}
use Rattle.free_pool.proofs.lead.work_counted.Goals as goal

pub loop-init : goal.loop-init
loop-init g c = record {
  leading = leading_begins g.A.App.meaning g.K.Sink.contents g.K.Sink.faults c.args.post.hall.now c.telling_laws.ensures.none c.args.post.seat c.args.outlet.now c.args.out.now c.new-hand.result.dones.items
      (begins g.A.App.meaning c.args.post.hall.now c.args.post.seat c.new-hand.result.dones.items c.requires.may.seated c.requires.may.idle c.new-hand.ensures) c.requires.told;
  room = refl;
}

pub tell_more-requires : goal.tell_more-requires
tell_more-requires g c = where_some c.take_lead_turn-back.result.1.more c.wish-wish.ensures c.take_lead_turn-back.ensures.due

pub loop-preserved-in-Ok-perform_in_turn : goal.loop-preserved-in-Ok-perform_in_turn
loop-preserved-in-Ok-perform_in_turn g c =
    let hall = c.args.post.hall.now in
    let old = c.args.post.seat in
    let now = c.take_lead_turn-back.result.0 in
    let tells = c.take_lead_turn-back.ensures in
    let leading = c.loop.invariant.leading in
    let next = c.tell_more.new.outlet in
    let told = told_with g.A.App.meaning g.K.Sink.contents g.K.Sink.faults hall c.loop.seat.view.drained now.view.drained c.loop.outlet.told next.told c.take_lead_turn-back.result.1.more
    c.in-Ok.ensures.drained tells.told c.in-Ok.ensures.told leading.told in
    let turned = c.take_lead_turn-back.result.1.turned in
    let hand = c.take_lead_turn-back.new.hand in
    let on = subst GoesOn (sym c.in-Perform.is) tt in
    let did = c.perform_in_turn.new.dones.items in
    let working = performs g.A.App.meaning hall old c.loop.seat now c.loop.hand.dones.items leading.working tells.seated tells.number tells.unjoined
    turned.ended hand.jobs.items (tells.jobs on) (tells.all on) c.args.post.app.now did c.requires.may.app_is c.in-Ok-perform_in_turn.ensures in
    record {
      leading = leads_on g.A.App.meaning g.K.Sink.contents g.K.Sink.faults hall c.telling_laws.ensures.add old c.loop.seat now c.args.outlet.now c.loop.outlet next c.args.out.now c.loop.out c.tell_more.new.out
          c.loop.hand.dones.items did leading told c.tell_more.ensures.tells working;
      room = c.tell_more.ensures.same_room ∙ c.loop.invariant.room;
    }

pub loop-preserved-in-Again : goal.loop-preserved-in-Again
loop-preserved-in-Again g c =
    let hall = c.args.post.hall.now in
    let old = c.args.post.seat in
    let now = c.take_lead_turn-back.result.0 in
    let tells = c.take_lead_turn-back.ensures in
    let leading = c.loop.invariant.leading in
    let next = c.tell_more.new.outlet in
    let told = told_with g.A.App.meaning g.K.Sink.contents g.K.Sink.faults hall c.loop.seat.view.drained now.view.drained c.loop.outlet.told next.told c.take_lead_turn-back.result.1.more
    c.in-Ok.ensures.drained tells.told c.in-Ok.ensures.told leading.told in
    let turned = c.take_lead_turn-back.result.1.turned in
    let hand = c.take_lead_turn-back.new.hand in
    let on = subst GoesOn (sym c.in-Again.is) tt in
    let did = hand.dones.items in
    let working = waits g.A.App.meaning hall old c.loop.seat now c.loop.hand.dones.items leading.working tells.seated tells.number tells.unjoined
    turned.ended hand.jobs.items (tells.jobs on) (tells.all on) did (subst (AreToPerform hand.jobs.items) c.in-Again.is tells.claimed) (tells.none on) in
    record {
      leading = leads_on g.A.App.meaning g.K.Sink.contents g.K.Sink.faults hall c.telling_laws.ensures.add old c.loop.seat now c.args.outlet.now c.loop.outlet next c.args.out.now c.loop.out c.tell_more.new.out
          c.loop.hand.dones.items did leading told c.tell_more.ensures.tells working;
      room = c.tell_more.ensures.same_room ∙ c.loop.invariant.room;
    }

pub loop-preserved : goal.loop-preserved
loop-preserved g c =
    let hall = c.args.post.hall.now in
    let old = c.args.post.seat in
    let now = c.take_lead_turn-back.result.0 in
    let tells = c.take_lead_turn-back.ensures in
    let leading = c.loop.invariant.leading in
    let next = c.tell_more.new.outlet in
    let told = told_with g.A.App.meaning g.K.Sink.contents g.K.Sink.faults hall c.loop.seat.view.drained now.view.drained c.loop.outlet.told next.told c.take_lead_turn-back.result.1.more
    c.in-Ok.ensures.drained tells.told c.in-Ok.ensures.told leading.told in
    let turned = c.take_lead_turn-back.result.1.turned in
    let hand = c.take_lead_turn-back.new.hand in
    let on = subst GoesOn (sym c.in-Wait.is) tt in
    let did = hand.dones.items in
    let working = waits g.A.App.meaning hall old c.loop.seat now c.loop.hand.dones.items leading.working tells.seated tells.number tells.unjoined
    turned.ended hand.jobs.items (tells.jobs on) (tells.all on) did (subst (AreToPerform hand.jobs.items) c.in-Wait.is tells.claimed) (tells.none on) in
    record {
      leading = leads_on g.A.App.meaning g.K.Sink.contents g.K.Sink.faults hall c.telling_laws.ensures.add old c.loop.seat now c.args.outlet.now c.loop.outlet next c.args.out.now c.loop.out c.tell_more.new.out
          c.loop.hand.dones.items did leading told c.tell_more.ensures.tells working;
      room = c.tell_more.ensures.same_room ∙ c.loop.invariant.room;
    }

-- ---- where memory runs out

pub returns-in_default-clause-front : goal.returns-in_default-clause-front
returns-in_default-clause-front g c =
    let origin = c.args.post.hall.now.origin in
    subst (IsFrontTold (g.A.App.meaning origin.app) origin.progress) (sym c.in_default.ensures.nothing_told)
    (front_told origin.progress c.part_laws.ensures.texts c.loop.seat.view.drained c.loop.outlet.told c.loop.invariant.leading.told)

pub returns-in_default-clause-tells : goal.returns-in_default-clause-tells
returns-in_default-clause-tells g c =
    tells_on_both g.K.Sink.contents g.K.Sink.faults c.telling_laws.ensures.add c.args.outlet.now c.loop.outlet c.tell_more.new.outlet c.args.out.now c.loop.out c.tell_more.new.out
    c.loop.invariant.leading.tells c.tell_more.ensures.tells

pub returns-in_default-perform_in_turn-clause-front : goal.returns-in_default-perform_in_turn-clause-front
returns-in_default-perform_in_turn-clause-front g c =
    let hall = c.args.post.hall.now in
    let old = c.args.post.seat in
    let now = c.take_lead_turn-back.result.0 in
    let tells = c.take_lead_turn-back.ensures in
    let leading = c.loop.invariant.leading in
    let next = c.tell_more.new.outlet in
    let told = told_with g.A.App.meaning g.K.Sink.contents g.K.Sink.faults hall c.loop.seat.view.drained now.view.drained c.loop.outlet.told next.told c.take_lead_turn-back.result.1.more
    c.in-Ok.ensures.drained tells.told c.in-Ok.ensures.told leading.told in
    front_told hall.origin.progress c.part_laws.ensures.texts now.view.drained next.told told

pub returns-in_default-perform_in_turn-clause-tells : goal.returns-in_default-perform_in_turn-clause-tells
returns-in_default-perform_in_turn-clause-tells g c =
    tells_on_both g.K.Sink.contents g.K.Sink.faults c.telling_laws.ensures.add c.args.outlet.now c.loop.outlet c.tell_more.new.outlet c.args.out.now c.loop.out c.tell_more.new.out
    c.loop.invariant.leading.tells c.tell_more.ensures.tells

-- ---- where nothing more is to be claimed

pub returns-in-Stop-clause-told : goal.returns-in-Stop-clause-told
returns-in-Stop-clause-told g c =
    let hall = c.args.post.hall.now in
    let old = c.args.post.seat in
    let now = c.take_lead_turn-back.result.0 in
    let tells = c.take_lead_turn-back.ensures in
    let leading = c.loop.invariant.leading in
    let next = c.tell_more.new.outlet in
    let told = told_with g.A.App.meaning g.K.Sink.contents g.K.Sink.faults hall c.loop.seat.view.drained now.view.drained c.loop.outlet.told next.told c.take_lead_turn-back.result.1.more
    c.in-Ok.ensures.drained tells.told c.in-Ok.ensures.told leading.told in
    told

pub returns-in-Stop-clause-front : goal.returns-in-Stop-clause-front
returns-in-Stop-clause-front g c =
    let hall = c.args.post.hall.now in
    let old = c.args.post.seat in
    let now = c.take_lead_turn-back.result.0 in
    let tells = c.take_lead_turn-back.ensures in
    let leading = c.loop.invariant.leading in
    let next = c.tell_more.new.outlet in
    let told = told_with g.A.App.meaning g.K.Sink.contents g.K.Sink.faults hall c.loop.seat.view.drained now.view.drained c.loop.outlet.told next.told c.take_lead_turn-back.result.1.more
    c.in-Ok.ensures.drained tells.told c.in-Ok.ensures.told leading.told in
    front_told hall.origin.progress c.part_laws.ensures.texts now.view.drained next.told told

pub returns-in-Stop-clause-tells : goal.returns-in-Stop-clause-tells
returns-in-Stop-clause-tells g c =
    tells_on_both g.K.Sink.contents g.K.Sink.faults c.telling_laws.ensures.add c.args.outlet.now c.loop.outlet c.tell_more.new.outlet c.args.out.now c.loop.out c.tell_more.new.out
    c.loop.invariant.leading.tells c.tell_more.ensures.tells
