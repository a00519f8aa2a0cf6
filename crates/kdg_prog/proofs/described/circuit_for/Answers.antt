use Rattle.kdg_prog.specs.Refusals.{AnswersReader, IsBeforeStart}
use Rattle.kdg_prog.proofs.Refusing.{refused_with}
use Rattle.kdg_prog.proofs.Serving.{reads_before_start}
use Rattle.kdg_prog.proofs.described.circuit_for.Goals as goal

pub returns-in_err-deck-clause-before_start : goal.returns-in_err-deck-clause-before_start
returns-in_err-deck-clause-before_start c =
    let refusal = c.in_err-deck.field-0.0 in
    refused_with c.from_residual.result (AnswersReader refusal) IsBeforeStart (reads_before_start refusal) c.from_residual.ensures.1
