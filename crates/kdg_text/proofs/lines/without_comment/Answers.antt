use Rattle.std.proofs.Common.{arith, ◌==◌, sym}
use Rattle.std.proofs.lemmas.List.Quantifiers.{position-Some}
use Rattle.std.proofs.lemmas.Grind.{common_steps}
use Rattle.kdg_text.proofs.Parts.{before_comment-at, before_comment-none, fails-position-None}
use Rattle.kdg_text.proofs.lines.without_comment.Goals as goal

pub returns-in-Some : goal.returns-in-Some
returns-in-Some c =
    let found = position-Some (λ byte. byte == c.args.mark) c.args.line.now c.in-Some.end 0 (sym c.in-Some.ensures) in
    let cut = before_comment-at c.args.mark _ _ found.0 found.1 found.2 in
    grind (arith, common_steps, cut)

pub returns-in-None : goal.returns-in-None
returns-in-None c =
    sym (before_comment-none c.args.mark _ (fails-position-None (λ byte. byte == c.args.mark) c.args.line.now (sym c.in-None.ensures)))
