use Rattle.kdg_prog.specs.Problem.{problem_of}
use Rattle.kdg_prog.specs.Refusals.{AnswersBegin, IsAtStart, IsRunRefusal}
use Rattle.kdg_prog.proofs.AtEnd.{started_on}
use Rattle.kdg_prog.proofs.FirstTasks.{counted_at_start, refusal_of_begin}
use Rattle.kdg_prog.proofs.Refusing.{refused_with}
use Rattle.kdg_prog.proofs.running.start_run.Goals as goal

pub returns-in_err-begin_uncounted-clause-refusal : goal.returns-in_err-begin_uncounted-clause-refusal
returns-in_err-begin_uncounted-clause-refusal g c =
    let options = c.args.options.now in
    let problem = problem_of (g.A.App.meaning c.args.app.now) (g.A.Runnable.setting c.args.app.now) in
    let fault = c.in_err-begin_uncounted.field-0.0 in
    refused_with c.from_residual-in_err-begin_uncounted.result (AnswersBegin fault) (IsRunRefusal options problem)
    (λ answer told. refusal_of_begin c.put_in_laws.ensures.length c.execution_laws.ensures.ends options problem c.in_ok-tasks.tasks c.in_ok-tasks.ensures.tasks fault answer c.in_err-begin_uncounted.ensures.fault told)
    c.from_residual-in_err-begin_uncounted.ensures.1

pub returns-clause-started : goal.returns-clause-started
returns-clause-started g c =
    let app = c.args.app.now in
    started_on c.args.options.now (g.A.App.meaning app) (g.A.Runnable.setting app) c.in_ok-cells.cells.items c.in_ok-tasks.tasks c.in_ok-begin_uncounted.field-0.progress
    c.in_ok-cells.ensures.cells c.in_ok-tasks.ensures.tasks c.in_ok-begin_uncounted.ensures.begun c.in_ok-cells.ensures.fit c.in_ok-tasks.ensures.fit

pub returns-in_err-begin_uncounted-clause-at_start : goal.returns-in_err-begin_uncounted-clause-at_start
returns-in_err-begin_uncounted-clause-at_start g c =
    let options = c.args.options.now in
    let problem = problem_of (g.A.App.meaning c.args.app.now) (g.A.Runnable.setting c.args.app.now) in
    let fault = c.in_err-begin_uncounted.field-0.0 in
    refused_with c.from_residual-in_err-begin_uncounted.result (AnswersBegin fault) (IsAtStart options problem)
    (λ answer told. counted_at_start options problem c.in_ok-tasks.tasks c.in_ok-tasks.ensures.tasks fault answer c.in_err-begin_uncounted.ensures.fault told)
    c.from_residual-in_err-begin_uncounted.ensures.1
