use Rattle.std.proofs.Common.{◌∙◌, ap, subst}
use Rattle.outer_edge.specs.Transfers.{transfer_of}
use Rattle.kdg_prog.specs.Problem.{print_of_finals, problem_of}
use Rattle.kdg_prog.specs.Serving.{IsStreamed}
use Rattle.kdg_prog.proofs.Streaming.{served_before_rest, served_cut, served_rest}
use Rattle.kdg_prog.proofs.running.end_stream.Goals as goal

pub returns-in-Ended-default-default-true-clause-served : goal.returns-in-Ended-default-default-true-clause-served
returns-in-Ended-default-default-true-clause-served g c = λ begin streamed.
    let options = c.args.options.now in
    let app = c.args.app.now in
    let problem = problem_of (g.A.App.meaning app) (g.A.Runnable.setting app) in
    let sink = transfer_of g.K.Sink.contents g.K.Sink.faults begin c.args.sink.now in
    let arm = c.in-Ended-default-default-true in
    served_cut options problem c.value_laws.ensures.values c.requires.streams arm.finals arm.rounds arm.failed sink (subst (IsStreamed options problem sink) arm.is streamed) arm.failed-test

pub returns-in_err-rest-in-Ended-default-default-false-clause-served : goal.returns-in_err-rest-in-Ended-default-default-false-clause-served
returns-in_err-rest-in-Ended-default-default-false-clause-served g c = λ begin streamed.
    let options = c.args.options.now in
    let app = c.args.app.now in
    let problem = problem_of (g.A.App.meaning app) (g.A.Runnable.setting app) in
    let sink = transfer_of g.K.Sink.contents g.K.Sink.faults begin c.args.sink.now in
    let arm = c.in-Ended-default-default-false in
    served_before_rest options problem c.value_laws.ensures.values c.requires.streams arm.finals arm.rounds arm.failed sink (subst (IsStreamed options problem sink) arm.is streamed) arm.failed-test
    c.from_residual.result c.from_residual.ensures.1 c.execution_laws.ensures.stops c.execution_laws.ensures.grows

pub returns-in_ok-rest-in-Ended-default-default-false-clause-served : goal.returns-in_ok-rest-in-Ended-default-default-false-clause-served
returns-in_ok-rest-in-Ended-default-default-false-clause-served g c = λ begin streamed.
    let options = c.args.options.now in
    let app = c.args.app.now in
    let problem = problem_of (g.A.App.meaning app) (g.A.Runnable.setting app) in
    let sink = transfer_of g.K.Sink.contents g.K.Sink.faults begin c.args.sink.now in
    let arm = c.in-Ended-default-default-false in
    let made = c.in_ok-rest-in-Ended-default-default-false in
    let is = made.ensures ∙ ap (λ told. print_of_finals problem options told arm.finals) c.rounds_shown-told.ensures in
    served_rest options problem c.value_laws.ensures.values c.requires.streams arm.finals arm.rounds arm.failed sink (subst (IsStreamed options problem sink) arm.is streamed) arm.failed-test
    made.rest (g.K.Sink.contents c.write_print.new.sink) (g.K.Sink.faults c.write_print.new.sink) c.write_print.result is c.write_print.ensures.written
