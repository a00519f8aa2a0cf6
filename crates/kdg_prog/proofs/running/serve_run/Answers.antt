use Rattle.std.proofs.Common.{ap, refl}
use Rattle.std.proofs.KnownBytes.{Appends-nil}
use Rattle.outer_edge.specs.Transfers.{transfer_of}
use Rattle.kdg_prog.specs.Problem.{StreamsRounds, is_streamed, problem_of}
use Rattle.kdg_prog.specs.Refusals.{IsAtStart}
use Rattle.kdg_prog.proofs.Serving.{in_no_mode, run_at_once, run_unwritten}
use Rattle.kdg_prog.proofs.running.serve_run.Goals as goal

pub returns-in_err-check_start-clause-served : goal.returns-in_err-check_start-clause-served
returns-in_err-check_start-clause-served g c =
    let app = c.args.app.now in
    let sink = transfer_of g.K.Sink.contents g.K.Sink.faults c.args.sink.now c.args.sink.now in
    run_unwritten c.args.options.now (problem_of (g.A.App.meaning app) (g.A.Runnable.setting app)) sink c.in_err-check_start.field-0.0 c.from_residual.result c.from_residual.ensures.1
    c.in_err-check_start.ensures.refusal c.in_err-check_start.ensures.at_start (Appends-nil sink.before) refl

pub returns-clause-served : goal.returns-clause-served
returns-clause-served g c =
    let options = c.args.options.now in
    let app = c.args.app.now in
    let problem = problem_of (g.A.App.meaning app) (g.A.Runnable.setting app) in
    let sink = transfer_of g.K.Sink.contents g.K.Sink.faults c.args.sink.now c.write_print.new.sink in
    run_at_once options problem sink c.print_of_run.result c.write_print.result c.print_of_run.ensures.print c.print_of_run.ensures.refusal
    (in_no_mode (StreamsRounds options) (IsAtStart options problem) c.print_of_run.result (λ rounds. c.may_stream.ensures.no c.if-may_stream.false (ap is_streamed rounds.0, rounds.1))) c.write_print.ensures.written
