use Rattle.std.proofs.Common.{◌∙◌, List, ap, sym, subst}
use Rattle.std.specs.Prelude.{IsFalse, IsTrue}
use Rattle.run_laws.specs.Answers.{IsFinishRefusal}
use Rattle.run_laws.specs.Events.{IsFinished, IsOverLimit}
use Rattle.run_laws.specs.Jobs.{FinishFault, Job}
use Rattle.run_laws.specs.Laws.{IsDone}
use Rattle.graph_update.specs.Engine.{EngineState}
use Rattle.hall_trials.specs.Seated.{jobs_left, keys_ended}
use Rattle.hall_trials.proofs.InTurn.{is_done, left_as, may_after_end, only_job, turn_found, turn_jobs}
use Rattle.hall_trials.proofs.turns.end_in_turn.Goals as goal

pub end_one-ended-requires-after_bounds : goal.end_one-ended-requires-after_bounds
end_one-ended-requires-after_bounds g c κs within =
    subst (λ (e : EngineState g.row.A.Denot g.row.A-Val.Denot). IsDone (g.A.App.meaning e.app) e.progress c.args.done) (sym c.engine.ensures.value)
    (is_done c.args.hall.now c.args.seat c.enter-turn.result c.requires.seated c.enter-turn.ensures c.leaving_laws.ensures.nothing c.turn_laws.ensures.performed c.args.done c.requires.done)

pub leave_after_end-requires-clause-may : goal.leave_after_end-requires-clause-may
leave_after_end-requires-clause-may g c κs within =
    let turn = c.enter-turn.result in
    let done = c.args.done in
    let ended = c.end_one-ended.result in
    let engine = c.end_one-ended.new.engine in
    let tells = c.end_one-ended.ensures in
    let was = c.engine.ensures.value in
    let laws = c.leaving_laws.ensures in
    may_after_end turn (turn_found c.args.hall.now c.args.seat turn c.requires.seated c.enter-turn.ensures) laws.nothing laws.moved engine laws.ends laws.refusals done ended
    (only_job c.args.hall.now c.args.seat turn c.requires.seated c.enter-turn.ensures done c.requires.done)
    (tells.app ∙ ap (λ (e : EngineState g.row.A.Denot g.row.A-Val.Denot). e.app) was)
    (subst (λ (e : EngineState g.row.A.Denot g.row.A-Val.Denot). IsTrue ended → ¬ IsOverLimit (g.A.App.meaning e.app) e.progress done) was tells.within)
    (subst (λ (e : EngineState g.row.A.Denot g.row.A-Val.Denot). IsTrue ended → IsFinished (g.A.App.meaning e.app) e.progress done engine.progress) was tells.finished)
    (subst (λ (e : EngineState g.row.A.Denot g.row.A-Val.Denot). IsFalse ended → (fault : FinishFault g.row.A-Val.Denot) × IsFinishRefusal (g.A.App.meaning e.app) e.progress done engine.progress fault) was tells.refused)

pub returns : goal.returns
returns g c =
    let turn = c.enter-turn.result in
    let ended = c.end_one-ended.result in
    left_as c.args.hall.now c.args.seat turn c.requires.seated c.enter-turn.ensures c.end_one-ended.new.engine
    (jobs_left ended turn.view.jobs) (keys_ended ended turn.view.jobs) c.leave_after_end.result
    c.leave_after_end.ensures.hall c.leave_after_end.ensures.view (jobs_left ended c.args.seat.view.jobs)
    (ap (λ (jobs : List (Job g.row.A-Val.Denot)). jobs_left ended jobs) (turn_jobs c.args.hall.now c.args.seat turn c.requires.seated c.enter-turn.ensures))
