use Rattle.std.proofs.Common.{ℕ, refl, subst}
use Rattle.std.proofs.KnownBytes.{Appends-nil}
use Rattle.app_laws.specs.Execution.{after_steps, start_of}
use Rattle.app_laws.specs.Order.{IsOrderly}
use Rattle.outer_edge.specs.Transfers.{transfer_of}
use Rattle.source_pool.specs.Streams.{IsFitFlow, IsFlow}
use Rattle.kdg_prog.specs.Problem.{problem_of}
use Rattle.kdg_prog.proofs.AtEnd.{rounds_in_rounds}
use Rattle.kdg_prog.proofs.Serving.{run_unwritten}
use Rattle.kdg_prog.proofs.Streaming.{home_in_rounds, streamed_rounds}
use Rattle.kdg_prog.proofs.running.stream_rounds.Goals as goal

pub returns-in_err-engine-clause-served : goal.returns-in_err-engine-clause-served
returns-in_err-engine-clause-served g c =
    let app = c.args.app.now in
    let sink = transfer_of g.K.Sink.contents g.K.Sink.faults c.args.sink.now c.args.sink.now in
    run_unwritten c.args.options.now (problem_of (g.A.App.meaning app) (g.A.Runnable.setting app)) sink c.in_err-engine.field-0.0 c.from_residual.result c.from_residual.ensures.1
    c.in_err-engine.ensures.refusal c.in_err-engine.ensures.at_start (Appends-nil sink.before) refl

pub end_stream-requires-clause-home : goal.end_stream-requires-clause-home
end_stream-requires-clause-home g c κs within =
    let progress = c.in_ok-engine.engine.progress in
    let sink = transfer_of g.K.Sink.contents g.K.Sink.faults c.args.sink.now c.rounds_to-flow.new.out in
    let flow = c.rounds_to-flow.result in
    let app = c.args.app.now in
    home_in_rounds (g.A.App.meaning app) progress sink flow c.value_laws.ensures.values (subst (λ a. IsFlow (g.A.App.meaning a) progress sink flow) c.in_ok-engine.ensures.app c.rounds_to-flow.ensures.flow)
    (subst (λ a. IsFitFlow (g.A.App.meaning a) flow) c.in_ok-engine.ensures.app c.rounds_to-flow.ensures.fit)

pub returns-clause-served : goal.returns-clause-served
returns-clause-served g c =
    let options = c.args.options.now in
    let app = c.args.app.now in
    let setting = g.A.Runnable.setting app in
    let meaning = g.A.App.meaning app in
    let problem = problem_of meaning setting in
    let values = c.value_laws.ensures.values in
    let started = c.in_ok-engine.ensures.started in
    let progress = c.in_ok-engine.engine.progress in
    let sink = transfer_of g.K.Sink.contents g.K.Sink.faults c.args.sink.now c.rounds_to-flow.new.out in
    let flow = c.rounds_to-flow.result in
    let orderly : (steps : ℕ) → IsOrderly (after_steps meaning.act steps (start_of setting.cells setting.tasks)) = λ steps.
    c.orderly_laws.ensures.stays_orderly app (start_of setting.cells setting.tasks) (c.orderly_laws.ensures.starts_fit app setting.cells setting.tasks started.fit_cells started.fit_tasks) (c.orderly_laws.ensures.starts_orderly setting.cells setting.tasks) steps in
    let ready = c.standing_laws.ensures.starts_ready app setting.cells setting.tasks started.fit_cells started.fit_tasks in
    c.end_stream.ensures.served c.args.sink.now
    (streamed_rounds options problem progress values started.begun orderly c.join_laws.ensures.none c.requires.streams sink flow
    (subst (λ a. IsFlow (g.A.App.meaning a) progress sink flow) c.in_ok-engine.ensures.app c.rounds_to-flow.ensures.flow)
    (λ finals rounds ended. rounds_in_rounds options problem progress values started.begun finals rounds ended (c.round_count_laws.ensures.to_the_end app) (c.round_laws.ensures.one_number app) ready))
