use Rattle.std.proofs.Common.{◌≡◌, [], subst}
use Rattle.crew.specs.declared.answers.OverCause.{OverCause}
use Rattle.run_laws.specs.Events.{marked}
use Rattle.graph_update.specs.Engine.{EngineState}
use Rattle.hall_trials.proofs.InTurn.{left_as, may_after_giving_up, turn_found, turn_jobs}
use Rattle.hall_trials.proofs.turns.give_up_in_turn.Goals as goal

pub leave-requires-after_bounds : goal.leave-requires-after_bounds
leave-requires-after_bounds g c κs within =
    let turn = c.enter-turn.result in
    let engine = c.give_up.new.self in
    may_after_giving_up turn (turn_found c.args.hall.now c.args.seat turn c.requires c.enter-turn.ensures) c.leaving_laws.ensures.nothing c.leaving_laws.ensures.moved engine c.leaving_laws.ensures.gives_up
    (subst (λ (e : EngineState g.row.A.Denot g.row.A-Val.Denot). engine ≡ record e { progress = marked (g.A.App.meaning e.app) e.progress OverCause.NoRoom }) c.engine.ensures.value c.give_up.ensures.marked)

pub returns : goal.returns
returns g c =
    let turn = c.enter-turn.result in
    left_as c.args.hall.now c.args.seat turn c.requires c.enter-turn.ensures c.give_up.new.self turn.view.jobs [] c.leave.result
    c.leave.ensures.hall c.leave.ensures.view c.args.seat.view.jobs (turn_jobs c.args.hall.now c.args.seat turn c.requires c.enter-turn.ensures)
