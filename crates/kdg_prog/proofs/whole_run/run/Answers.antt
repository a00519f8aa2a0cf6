use Rattle.std.proofs.Common.{subst, Result, ℕ}
use Rattle.std.specs.Prelude.{IfOk}
use Rattle.outer_edge.specs.Transfers.{transfer_of}
use Rattle.kdg_prog.specs.declared.words.Options.{Options}
use Rattle.kdg_prog.specs.Searches.{TellsLevels}
use Rattle.kdg_prog.proofs.whole_run.run.Goals as goal

pub returns-in-Ok-clause-levels : goal.returns-in-Ok-clause-levels
returns-in-Ok-clause-levels g c =
    let source = transfer_of g.S.Source.remaining g.S.Source.faults c.args.source.now c.run_asked.new.source in
    let sink = transfer_of g.K.Sink.contents g.K.Sink.faults c.args.sink.now c.run_asked.new.sink in
    subst (λ (read : Result Options ℕ). IfOk read (λ options. TellsLevels options source sink c.run_asked.result)) c.in-Ok.ensures.value c.run_asked.ensures.levels
