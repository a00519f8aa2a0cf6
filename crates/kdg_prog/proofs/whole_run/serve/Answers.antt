use Rattle.std.proofs.Common.{refl, subst, sym}
use Rattle.std.proofs.KnownBytes.{Appends-nil}
use Rattle.outer_edge.specs.Transfers.{transfer_of}
use Rattle.kdg_prog.specs.declared.words.Command.TheVariants.{Mesh, Rank, Sim}
use Rattle.kdg_prog.specs.Serving.{IsServedFor}
use Rattle.kdg_prog.proofs.Serving.{input_unwritten, served_of_circuit, served_of_matrix, served_of_mesh}
use Rattle.kdg_prog.proofs.whole_run.serve.Goals as goal

pub returns-in_ok-circuit-in-Sim-clause-served : goal.returns-in_ok-circuit-in-Sim-clause-served
returns-in_ok-circuit-in-Sim-clause-served g c =
    let found = c.in_ok-circuit-in-Sim.ensures in
    let sink = transfer_of g.K.Sink.contents g.K.Sink.faults c.args.sink.now c.serve_run.new.sink in
    served_of_circuit c.args.options.now c.args.input c.in_ok-circuit-in-Sim.circuit sink c.serve_run.result c.in-Sim.is found.deck found.circuit c.serve_run.ensures.served

pub returns-in_ok-matrix-in-Rank-clause-served : goal.returns-in_ok-matrix-in-Rank-clause-served
returns-in_ok-matrix-in-Rank-clause-served g c =
    let sink = transfer_of g.K.Sink.contents g.K.Sink.faults c.args.sink.now c.serve_matrix.new.sink in
    served_of_matrix c.args.options.now c.args.input c.in_ok-matrix-in-Rank.matrix sink c.serve_matrix.result c.in-Rank.is c.in_ok-matrix-in-Rank.ensures.matrix c.serve_matrix.ensures.served

pub returns-in_ok-mesh-in-Mesh-clause-served : goal.returns-in_ok-mesh-in-Mesh-clause-served
returns-in_ok-mesh-in-Mesh-clause-served g c =
    let sink = transfer_of g.K.Sink.contents g.K.Sink.faults c.args.sink.now c.serve_run-in-Mesh.new.sink in
    served_of_mesh c.args.options.now c.args.input c.in_ok-mesh-in-Mesh.mesh sink c.serve_run-in-Mesh.result c.in-Mesh.is c.in_ok-mesh-in-Mesh.ensures.mesh c.serve_run-in-Mesh.ensures.served

pub returns-in-Levels-clause-served : goal.returns-in-Levels-clause-served
returns-in-Levels-clause-served g c =
    let sink = transfer_of g.K.Sink.contents g.K.Sink.faults c.args.sink.now c.serve_levels.new.sink in
    subst (λ command. IsServedFor command c.args.options.now c.args.input sink c.serve_levels.result) (sym c.in-Levels.is) c.serve_levels.ensures.served

pub returns-in_err-circuit-in-Sim-clause-served : goal.returns-in_err-circuit-in-Sim-clause-served
returns-in_err-circuit-in-Sim-clause-served g c =
    let sink = transfer_of g.K.Sink.contents g.K.Sink.faults c.args.sink.now c.args.sink.now in
    let refused = c.in_err-circuit-in-Sim in
    input_unwritten Sim c.args.options.now c.args.input sink refused.field-0.0 c.from_residual.result c.in-Sim.is c.from_residual.ensures.1 refused.ensures.refusal refused.ensures.before_start (Appends-nil sink.before) refl

pub returns-in_err-matrix-in-Rank-clause-served : goal.returns-in_err-matrix-in-Rank-clause-served
returns-in_err-matrix-in-Rank-clause-served g c =
    let sink = transfer_of g.K.Sink.contents g.K.Sink.faults c.args.sink.now c.args.sink.now in
    let refused = c.in_err-matrix-in-Rank in
    input_unwritten Rank c.args.options.now c.args.input sink refused.field-0.0 c.from_residual-in_err-matrix-in-Rank.result c.in-Rank.is c.from_residual-in_err-matrix-in-Rank.ensures.1 refused.ensures.refusal refused.ensures.before_start (Appends-nil sink.before) refl

pub returns-in_err-mesh-in-Mesh-clause-served : goal.returns-in_err-mesh-in-Mesh-clause-served
returns-in_err-mesh-in-Mesh-clause-served g c =
    let sink = transfer_of g.K.Sink.contents g.K.Sink.faults c.args.sink.now c.args.sink.now in
    let refused = c.in_err-mesh-in-Mesh in
    input_unwritten Mesh c.args.options.now c.args.input sink refused.field-0.0 c.from_residual-in_err-mesh-in-Mesh.result c.in-Mesh.is c.from_residual-in_err-mesh-in-Mesh.ensures.1 refused.ensures.refusal refused.ensures.before_start (Appends-nil sink.before) refl
