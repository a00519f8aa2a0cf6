use Rattle.std.proofs.Common.{[], refl}
use Rattle.hall_trials.proofs.InTurn.{at_once, left_as, refused, turn_found}
use Rattle.hall_trials.proofs.meeting.try_here.Goals as goal

pub leave_as_found-requires-after_bounds : goal.leave_as_found-requires-after_bounds
leave_as_found-requires-after_bounds g c κs within = turn_found c.args.hall.now c.args.seat c.in-Turn.turn c.requires (at_once c.in-Turn.ensures)

pub returns-in-Turn : goal.returns-in-Turn
returns-in-Turn g c =
    let turn = c.in-Turn.turn in
    (left_as c.args.hall.now c.args.seat turn c.requires (at_once c.in-Turn.ensures) turn.engine turn.view.jobs [] c.leave_as_found.result
    c.leave_as_found.ensures.hall c.leave_as_found.ensures.view turn.view.jobs refl).worked

pub returns-in-Busy : goal.returns-in-Busy
returns-in-Busy g c = refused c.args.hall.now c.args.seat c.requires c.in-Busy.ensures
