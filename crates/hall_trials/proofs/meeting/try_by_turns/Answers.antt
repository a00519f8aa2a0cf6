use Rattle.std.proofs.Common.{[], refl}
use Rattle.hall_trials.proofs.InTurn.{at_once, left_as, refused, turn_found}
use Rattle.hall_trials.proofs.meeting.try_by_turns.Goals as goal

pub leave_as_found-first-requires-after_bounds : goal.leave_as_found-first-requires-after_bounds
leave_as_found-first-requires-after_bounds g c κs within = turn_found c.args.hall.now c.args.first c.in-Turn.turn c.requires.first (at_once c.in-Turn.ensures)

pub returns-in-Turn-clause-first : goal.returns-in-Turn-clause-first
returns-in-Turn-clause-first g c =
    let turn = c.in-Turn.turn in
    (left_as c.args.hall.now c.args.first turn c.requires.first (at_once c.in-Turn.ensures) turn.engine turn.view.jobs [] c.leave_as_found-first.result
    c.leave_as_found-first.ensures.hall c.leave_as_found-first.ensures.view turn.view.jobs refl).worked

pub returns-in-Busy-clause-first : goal.returns-in-Busy-clause-first
returns-in-Busy-clause-first g c = refused c.args.hall.now c.args.first c.requires.first c.in-Busy.ensures
