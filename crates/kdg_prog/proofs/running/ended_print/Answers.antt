use Rattle.std.proofs.Common.{◌≡◌, ◌∙◌, ap, sym}
use Rattle.std.proofs.lemmas.Result.{IfOk-weaker}
use Rattle.kdg_prog.specs.Problem.{answer_by, print_of_finals, problem_of, rounds_shown, whole_print}
use Rattle.kdg_prog.proofs.AtEnd.{rounds_to_end}
use Rattle.kdg_prog.proofs.Refusing.{print_from_run, run_is_home}
use Rattle.kdg_prog.proofs.running.ended_print.Goals as goal

pub finals_print-requires-clause-home : goal.finals_print-requires-clause-home
finals_print-requires-clause-home g c κs within = run_is_home (g.A.App.meaning c.args.app.now).act c.args.options.now.budget _ c.args.finals c.value_laws.ensures.values c.requires.end.run

pub returns : goal.returns
returns g c =
    let options = c.args.options.now in
    let app = c.args.app.now in
    let setting = g.A.Runnable.setting app in
    let problem = problem_of (g.A.App.meaning app) setting in
    let run = c.requires.end.run in
    let values = c.value_laws.ensures.values in
    let ready = c.standing_laws.ensures.starts_ready app setting.cells setting.tasks c.requires.fit_cells c.requires.fit_tasks in
    let counted = rounds_to_end options problem run.end c.args.rounds run.ends c.requires.end.rounds_are (c.round_count_laws.ensures.to_the_end app) (c.round_laws.ensures.one_number app) ready in
    let told = ap (rounds_shown options) counted ∙ sym c.rounds_shown-told.ensures in
    IfOk-weaker c.finals_print.result (λ bytes. bytes ≡ print_of_finals problem options c.rounds_shown-told.result c.args.finals) (λ bytes. answer_by options problem ≡ whole_print bytes)
    (λ bytes is-bytes. print_from_run options problem c.args.finals c.rounds_shown-told.result bytes values told run is-bytes) c.finals_print.ensures
