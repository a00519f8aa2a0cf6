use Rattle.outer_edge.specs.Transfers.{transfer_of}
use Rattle.kdg_prog.specs.Answer.{pattern_problem}
use Rattle.kdg_prog.specs.Problem.{StreamsRounds}
use Rattle.kdg_prog.specs.Refusals.{IsAtStart}
use Rattle.kdg_prog.proofs.Serving.{in_each_mode, run_at_once}
use Rattle.kdg_prog.proofs.whole_run.serve_matrix.Goals as goal

pub returns-in-Rounds-clause-served : goal.returns-in-Rounds-clause-served
returns-in-Rounds-clause-served g c =
    let options = c.args.options.now in
    let problem = pattern_problem c.args.matrix.now in
    let sink = transfer_of g.K.Sink.contents g.K.Sink.faults c.args.sink.now c.write_print.new.sink in
    run_at_once options problem sink c.resting_print-print.result c.write_print.result c.resting_print-print.ensures.print c.resting_print-print.ensures.refusal
    (in_each_mode (StreamsRounds options) (IsAtStart options problem) c.resting_print-print.result c.resting_print-print.ensures.at_start) c.write_print.ensures.written
