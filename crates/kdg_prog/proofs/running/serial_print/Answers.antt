use Rattle.std.proofs.Common.{ap}
use Rattle.kdg_prog.specs.Problem.{is_in_rounds, problem_of, rounds_of}
use Rattle.kdg_prog.proofs.Refusing.{none_told, print_from_serial, refusal_from_serial, run_is_home}
use Rattle.kdg_prog.proofs.running.serial_print.Goals as goal

pub finals_print-requires-clause-home : goal.finals_print-requires-clause-home
finals_print-requires-clause-home g c κs within = run_is_home (g.A.App.meaning c.args.app.now).act c.args.options.now.budget _ c.in_ok-finals.finals c.value_laws.ensures.values c.in_ok-finals.ensures.run

pub returns-clause-print : goal.returns-clause-print
returns-clause-print g c =
    let problem = problem_of (g.A.App.meaning c.args.app.now) (g.A.Runnable.setting c.args.app.now) in
    print_from_serial c.args.options.now problem c.in_ok-cells.cells.items c.in_ok-tasks.tasks c.in_ok-cells.ensures.cells c.in_ok-tasks.ensures.tasks
    c.in_ok-finals.finals c.in_ok-finals_print.field-0 c.value_laws.ensures.values (none_told c.args.options.now (ap is_in_rounds c.requires.mode) (rounds_of c.args.options.now problem)) c.in_ok-finals.ensures.run c.in_ok-finals_print.ensures

pub returns-in_err-finals-clause-refusal : goal.returns-in_err-finals-clause-refusal
returns-in_err-finals-clause-refusal g c =
    refusal_from_serial c.args.options.now (problem_of (g.A.App.meaning c.args.app.now) (g.A.Runnable.setting c.args.app.now)) c.in_ok-cells.cells.items c.in_ok-tasks.tasks
    c.in_ok-cells.ensures.cells c.in_ok-tasks.ensures.tasks
    c.in_err-finals.field-0.0 c.from_residual-in_err-finals.result c.in_err-finals.ensures.fault c.from_residual-in_err-finals.ensures.1
