use Rattle.std.proofs.Common.{◌≡◌, ◌∙◌, List, [], ap, subst}
use Rattle.std.specs.Prelude.{IfNone, IfSome}
use Rattle.run_laws.specs.Answers.{IsClaimAnswer}
use Rattle.run_laws.specs.Jobs.{Job}
use Rattle.graph_update.specs.Engine.{EngineState, IsToRun}
use Rattle.hall_trials.specs.Seated.{jobs_claimed}
use Rattle.hall_trials.proofs.InTurn.{app_is, left_as, may_after_claim, turn_found, turn_jobs}
use Rattle.hall_trials.proofs.turns.claim_in_turn.Goals as goal

pub leave_after_claim-requires-clause-may : goal.leave_after_claim-requires-clause-may
leave_after_claim-requires-clause-may g c κs within =
    let turn = c.enter-turn.result in
    let answer = c.claim_one-claim.result in
    let engine = c.claim_one-claim.new.engine in
    let tells = c.claim_one-claim.ensures in
    let was = c.engine.ensures.value in
    may_after_claim turn (turn_found c.args.hall.now c.args.seat turn c.requires c.enter-turn.ensures) c.leaving_laws.ensures.nothing c.leaving_laws.ensures.moved engine c.leaving_laws.ensures.claims answer
    (tells.app ∙ ap (λ (e : EngineState g.row.A.Denot g.row.A-Val.Denot). e.app) was)
    (subst (λ (e : EngineState g.row.A.Denot g.row.A-Val.Denot). IfSome answer (IsClaimAnswer (g.A.App.meaning e.app) e.progress 0 engine.progress)) was tells.answer)
    (subst (λ (e : EngineState g.row.A.Denot g.row.A-Val.Denot). IfNone answer (engine ≡ e)) was tells.unchanged)

pub returns-clause-left : goal.returns-clause-left
returns-clause-left g c =
    let turn = c.enter-turn.result in
    let answer = c.claim_one-claim.result in
    left_as c.args.hall.now c.args.seat turn c.requires c.enter-turn.ensures c.claim_one-claim.new.engine
    (jobs_claimed answer turn.view.jobs) [] c.leave_after_claim.result
    c.leave_after_claim.ensures.hall c.leave_after_claim.ensures.view (jobs_claimed answer c.args.seat.view.jobs)
    (ap (λ (jobs : List (Job g.row.A-Val.Denot)). jobs_claimed answer jobs) (turn_jobs c.args.hall.now c.args.seat turn c.requires c.enter-turn.ensures))

pub returns-clause-may_run : goal.returns-clause-may_run
returns-clause-may_run g c =
    let turn = c.enter-turn.result in
    let app = ap (λ (e : EngineState g.row.A.Denot g.row.A-Val.Denot). e.app) c.engine.ensures.value ∙ app_is c.args.hall.now c.args.seat turn c.requires c.enter-turn.ensures in
    subst (λ (a : g.row.A.Denot). IfSome c.claim_one-claim.result (IsToRun (g.A.App.meaning a))) app c.claim_one-claim.ensures.may_run
