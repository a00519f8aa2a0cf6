use Rattle.std.proofs.Common.{arith, not, sym, length}
use Rattle.std.proofs.lemmas.List.Quantifiers.{position-Some}
use Rattle.std.proofs.lemmas.Grind.{common_steps}
use Rattle.kdg_text.specs.Tokens.{is_blank}
use Rattle.kdg_text.proofs.Cuts.{tokens_of-drop, begins_blank-drop}
use Rattle.kdg_text.proofs.Parts.{fails-position-None}
use Rattle.kdg_text.proofs.tokens.skip_blanks.Goals as goal

pub returns-in-Some-clause-tokens : goal.returns-in-Some-clause-tokens
returns-in-Some-clause-tokens c =
    let found = position-Some (λ byte. not (is_blank byte)) c.args.bytes.now c.in-Some.start 0 (sym c.in-Some.ensures) in
    let same = tokens_of-drop c.args.marks.now c.args.bytes.now c.in-Some.start (omega arith) found.2 in
    grind (arith, common_steps, same)

pub returns-in-Some-clause-skipped : goal.returns-in-Some-clause-skipped
returns-in-Some-clause-skipped c =
    let found = position-Some (λ byte. not (is_blank byte)) c.args.bytes.now c.in-Some.start 0 (sym c.in-Some.ensures) in
    let visible = begins_blank-drop c.args.bytes.now c.in-Some.start found.0 found.1 in
    grind (arith, common_steps, visible)

pub returns-in-None-clause-tokens : goal.returns-in-None-clause-tokens
returns-in-None-clause-tokens c =
    let same = tokens_of-drop c.args.marks.now c.args.bytes.now (length c.args.bytes.now) (omega arith)
    (fails-position-None (λ byte. not (is_blank byte)) c.args.bytes.now (sym c.in-None.ensures)) in
    grind (arith, common_steps, same)
