use Rattle.std.proofs.Common.{◌≡◌, ◌∙◌, true, false, ap, sym}
use Rattle.app_laws.specs.Execution.{start_of}
use Rattle.kdg_prog.specs.Problem.{is_in_rounds, problem_of}
use Rattle.kdg_prog.specs.Refusals.{AnswersRounds, IsAtStart, IsRunRefusal}
use Rattle.kdg_prog.proofs.Childless.{over_at_start}
use Rattle.kdg_prog.proofs.Refusing.{refusal_from_list, refused_with}
use Rattle.kdg_prog.proofs.running.resting_print.Goals as goal

pub returns-in_err-finals-clause-refusal : goal.returns-in_err-finals-clause-refusal
returns-in_err-finals-clause-refusal g c =
    let options = c.args.options.now in
    let problem = problem_of (g.A.App.meaning c.args.app.now) (g.A.Runnable.setting c.args.app.now) in
    let fault = c.in_err-finals.field-0.0 in
    refused_with c.from_residual-in_err-finals.result (AnswersRounds fault) (IsRunRefusal options problem)
    (λ answer told. refusal_from_list options problem c.in_ok-cells.cells.items c.in_ok-tasks.tasks c.in_ok-cells.ensures.cells c.in_ok-tasks.ensures.tasks
    (λ serial. let both : false ≡ true = sym (ap is_in_rounds serial) ∙ c.requires.mode in cc) fault answer c.in_err-finals.ensures.fault told)
    c.from_residual-in_err-finals.ensures.1

pub returns-in_err-finals-clause-at_start : goal.returns-in_err-finals-clause-at_start
returns-in_err-finals-clause-at_start g c =
    let options = c.args.options.now in
    let app = c.args.app.now in
    let meaning = g.A.App.meaning app in
    let problem = problem_of meaning (g.A.Runnable.setting app) in
    let fault = c.in_err-finals.field-0.0 in
    let cells = c.in_ok-cells.cells.items in
    let tasks = c.in_ok-tasks.tasks in
    refused_with c.from_residual-in_err-finals.result (AnswersRounds fault) (IsAtStart options problem)
    (λ answer told. over_at_start options problem cells tasks c.in_ok-cells.ensures.cells c.in_ok-tasks.ensures.tasks (c.rest_laws.ensures app).childless c.put_in_laws.ensures.length c.execution_laws.ensures.ends
    (c.orderly_laws.ensures.stays_fit app (start_of cells tasks) (c.orderly_laws.ensures.starts_fit app cells tasks c.in_ok-cells.ensures.fit c.in_ok-tasks.ensures.fit)) fault answer c.in_err-finals.ensures.fault told)
    c.from_residual-in_err-finals.ensures.1
