use Rattle.std.proofs.Common.{◌≡◌, ◌∙◌, ℕ, ap, subst, sym}
use Rattle.free_pool.specs.Runs.{end_of_rounds}
use Rattle.app_laws.specs.Execution.{after_steps, start_of}
use Rattle.app_laws.specs.Order.{IsOrderly}
use Rattle.source_pool.specs.Runs.{IsRoundsEnd, IsRunFault}
use Rattle.kdg_prog.specs.declared.words.Mode.TheVariants.{Rounds, Serial}
use Rattle.kdg_prog.specs.Problem.{problem_of, rounds_shown}
use Rattle.kdg_prog.specs.Refusals.{AnswersRounds, IsRunRefusal}
use Rattle.kdg_prog.proofs.AtEnd.{home_at_end, refusal_of_run, rounds_in_rounds, run_at_end}
use Rattle.kdg_prog.proofs.Refusing.{print_from_run, refused_with}
use Rattle.kdg_prog.proofs.running.rounds_print.Goals as goal

pub returns-in_err-finals-clause-refusal : goal.returns-in_err-finals-clause-refusal
returns-in_err-finals-clause-refusal g c =
    let options = c.args.options.now in
    let app = c.args.app.now in
    let problem = problem_of (g.A.App.meaning app) (g.A.Runnable.setting app) in
    let progress = c.in_ok-engine.engine.progress in
    let fault = c.in_err-finals.field-0.0 in
    let over = subst (λ a. IsRunFault (g.A.App.meaning a) progress fault) c.in_ok-engine.ensures.app c.in_err-finals.ensures.fault in
    refused_with c.from_residual-in_err-finals.result (AnswersRounds fault) (IsRunRefusal options problem)
    (λ answer told. refusal_of_run options problem progress c.value_laws.ensures.values c.in_ok-engine.ensures.started.begun (λ serial. let both : Serial ≡ Rounds = sym serial ∙ c.requires.mode in cc) fault answer over told)
    c.from_residual-in_err-finals.ensures.1

pub finals_print-requires-clause-home : goal.finals_print-requires-clause-home
finals_print-requires-clause-home g c κs within =
    let engine = c.in_ok-engine.engine in
    let app = g.A.App.meaning engine.app in
    home_at_end app engine.progress c.in_ok-finals.finals c.value_laws.ensures.values (end_of_rounds app engine.progress c.in_ok-finals.finals c.in_ok-finals.rounds c.in_ok-finals.ensures.end)

pub returns-clause-print : goal.returns-clause-print
returns-clause-print g c =
    let options = c.args.options.now in
    let app = c.args.app.now in
    let setting = g.A.Runnable.setting app in
    let meaning = g.A.App.meaning app in
    let problem = problem_of meaning setting in
    let progress = c.in_ok-engine.engine.progress in
    let finals = c.in_ok-finals.finals in
    let rounds = c.in_ok-finals.rounds in
    let values = c.value_laws.ensures.values in
    let started = c.in_ok-engine.ensures.started in
    let ended = subst (λ a. IsRoundsEnd (g.A.App.meaning a) progress finals rounds) c.in_ok-engine.ensures.app c.in_ok-finals.ensures.end in
    let orderly : (steps : ℕ) → IsOrderly (after_steps meaning.act steps (start_of setting.cells setting.tasks)) = λ steps.
    c.orderly_laws.ensures.stays_orderly app (start_of setting.cells setting.tasks) (c.orderly_laws.ensures.starts_fit app setting.cells setting.tasks started.fit_cells started.fit_tasks) (c.orderly_laws.ensures.starts_orderly setting.cells setting.tasks) steps in
    let ready = c.standing_laws.ensures.starts_ready app setting.cells setting.tasks started.fit_cells started.fit_tasks in
    let run = run_at_end options problem progress values started.begun orderly c.join_laws.ensures.none finals (end_of_rounds meaning progress finals rounds ended) in
    let counted = rounds_in_rounds options problem progress values started.begun finals rounds ended (c.round_count_laws.ensures.to_the_end app) (c.round_laws.ensures.one_number app) ready in
    let told = ap (rounds_shown options) counted ∙ sym c.rounds_shown-told.ensures in
    print_from_run options problem finals c.rounds_shown-told.result c.in_ok-finals_print.field-0 values told run c.in_ok-finals_print.ensures
