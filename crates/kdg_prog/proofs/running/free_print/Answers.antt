use Rattle.std.proofs.Common.{◌≡◌, ◌∙◌, ℕ, None, ap, subst, sym}
use Rattle.app_laws.specs.Execution.{after_steps, start_of}
use Rattle.app_laws.specs.Order.{IsOrderly}
use Rattle.free_pool.specs.Runs.{IsRunEnd}
use Rattle.source_pool.specs.Runs.{IsRunFault}
use Rattle.kdg_prog.specs.declared.words.Mode.TheVariants.{Free, Serial}
use Rattle.kdg_prog.specs.Problem.{is_in_rounds, problem_of, rounds_of}
use Rattle.kdg_prog.specs.Refusals.{AnswersRounds, IsRunRefusal}
use Rattle.kdg_prog.proofs.AtEnd.{home_at_end, refusal_of_run, run_at_end}
use Rattle.kdg_prog.proofs.Refusing.{none_told, print_from_run, refused_with}
use Rattle.kdg_prog.proofs.running.free_print.Goals as goal

pub returns-in_err-finals-clause-refusal : goal.returns-in_err-finals-clause-refusal
returns-in_err-finals-clause-refusal g c =
    let options = c.args.options.now in
    let app = c.args.app.now in
    let problem = problem_of (g.A.App.meaning app) (g.A.Runnable.setting app) in
    let progress = c.in_ok-engine.engine.progress in
    let fault = c.in_err-finals.field-0.0 in
    let over = subst (λ a. IsRunFault (g.A.App.meaning a) progress fault) c.in_ok-engine.ensures.app c.in_err-finals.ensures.fault in
    refused_with c.from_residual-in_err-finals.result (AnswersRounds fault) (IsRunRefusal options problem)
    (λ answer told. refusal_of_run options problem progress c.value_laws.ensures.values c.in_ok-engine.ensures.started.begun (λ serial. let both : Serial ≡ Free = sym serial ∙ c.requires.mode in cc) fault answer over told)
    c.from_residual-in_err-finals.ensures.1

pub finals_print-requires-clause-home : goal.finals_print-requires-clause-home
finals_print-requires-clause-home g c κs within =
    let engine = c.in_ok-engine.engine in
    home_at_end (g.A.App.meaning engine.app) engine.progress c.in_ok-finals.finals c.value_laws.ensures.values c.in_ok-finals.ensures.end

pub returns-clause-print : goal.returns-clause-print
returns-clause-print g c =
    let options = c.args.options.now in
    let app = c.args.app.now in
    let setting = g.A.Runnable.setting app in
    let meaning = g.A.App.meaning app in
    let problem = problem_of meaning setting in
    let progress = c.in_ok-engine.engine.progress in
    let finals = c.in_ok-finals.finals in
    let values = c.value_laws.ensures.values in
    let started = c.in_ok-engine.ensures.started in
    let ended = subst (λ a. IsRunEnd (g.A.App.meaning a) progress finals) c.in_ok-engine.ensures.app c.in_ok-finals.ensures.end in
    let orderly : (steps : ℕ) → IsOrderly (after_steps meaning.act steps (start_of setting.cells setting.tasks)) = λ steps.
    c.orderly_laws.ensures.stays_orderly app (start_of setting.cells setting.tasks) (c.orderly_laws.ensures.starts_fit app setting.cells setting.tasks started.fit_cells started.fit_tasks) (c.orderly_laws.ensures.starts_orderly setting.cells setting.tasks) steps in
    let run = run_at_end options problem progress values started.begun orderly c.join_laws.ensures.none finals ended in
    print_from_run options problem finals None c.in_ok-finals_print.field-0 values (none_told options (ap is_in_rounds c.requires.mode) (rounds_of options problem)) run c.in_ok-finals_print.ensures
