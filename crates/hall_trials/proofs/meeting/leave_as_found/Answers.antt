use Rattle.std.proofs.Common.{[]}
use Rattle.hall_trials.proofs.meeting.leave_as_found.Goals as goal

pub leave-requires-after_bounds : goal.leave-requires-after_bounds
leave-requires-after_bounds g c κs within =
    let turn = c.args.turn in
    c.leaving_laws.ensures.moved turn turn.view.jobs [] turn.engine c.requires (c.leaving_laws.ensures.nothing turn)

pub returns-clause-hall : goal.returns-clause-hall
returns-clause-hall g c = c.leave.ensures.hall

pub returns-clause-view : goal.returns-clause-view
returns-clause-view g c = c.leave.ensures.view
