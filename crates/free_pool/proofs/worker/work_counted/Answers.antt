use Rattle.std.proofs.Common.{subst, sym}
use Rattle.free_pool.specs.Turns.{AreToPerform, GoesOn}
use Rattle.free_pool.proofs.Working.{begins, performs, waits}
use Rattle.free_pool.proofs.worker.work_counted.Goals as goal

pub loop-init : goal.loop-init
loop-init g c =
    begins g.A.App.meaning c.args.post.hall.now c.args.post.seat c.new-hand.result.dones.items c.requires.seated c.requires.idle c.new-hand.ensures

pub loop-preserved-in-Ok-1 : goal.loop-preserved-in-Ok-1
loop-preserved-in-Ok-1 g c =
    let now = c.take_turn-back.result.0 in
    let turned = c.take_turn-back.result.1 in
    let tells = c.take_turn-back.ensures in
    let on = subst GoesOn (sym c.in-Perform.is) tt in
    performs g.A.App.meaning c.args.post.hall.now c.args.post.seat c.loop.seat now c.loop.hand.dones.items c.loop.invariant tells.seated tells.number tells.unjoined
    turned.ended c.take_turn-back.new.hand.jobs.items (tells.jobs on) (tells.all on) c.args.post.app.now c.perform_in_turn.new.dones.items c.requires.app c.in-Ok.ensures

pub loop-preserved : goal.loop-preserved
loop-preserved g c =
    let now = c.take_turn-back.result.0 in
    let turned = c.take_turn-back.result.1 in
    let tells = c.take_turn-back.ensures in
    let on = subst GoesOn (sym c.in-Wait.is) tt in
    waits g.A.App.meaning c.args.post.hall.now c.args.post.seat c.loop.seat now c.loop.hand.dones.items c.loop.invariant tells.seated tells.number tells.unjoined
    turned.ended c.take_turn-back.new.hand.jobs.items (tells.jobs on) (tells.all on) c.take_turn-back.new.hand.dones.items (subst (AreToPerform c.take_turn-back.new.hand.jobs.items) c.in-Wait.is tells.claimed) (tells.none on)

pub loop-preserved-in-Again : goal.loop-preserved-in-Again
loop-preserved-in-Again g c =
    let now = c.take_turn-back.result.0 in
    let turned = c.take_turn-back.result.1 in
    let tells = c.take_turn-back.ensures in
    let on = subst GoesOn (sym c.in-Again.is) tt in
    waits g.A.App.meaning c.args.post.hall.now c.args.post.seat c.loop.seat now c.loop.hand.dones.items c.loop.invariant tells.seated tells.number tells.unjoined
    turned.ended c.take_turn-back.new.hand.jobs.items (tells.jobs on) (tells.all on) c.take_turn-back.new.hand.dones.items (subst (AreToPerform c.take_turn-back.new.hand.jobs.items) c.in-Again.is tells.claimed) (tells.none on)
