use Rattle.std.proofs.Common.{rules, ◌≡◌, ◌∙◌, ◌∷◌, Err, sym, ap}
use Rattle.spring_mesh.specs.Faults.{syntax}
use Rattle.spring_mesh.specs.LineForms.{spring_by}
use Rattle.spring_mesh.proofs.Words.{spring_by-long}
use Rattle.spring_mesh.proofs.statement.spring.Goals as goal

pub returns-in_err-line_end : goal.returns-in_err-line_end
returns-in_err-line_end c =
    let a = c.in_ok-a.a.now in
    let b = c.in_ok-b.b.now in
    let k = c.in_ok-k.k.now in
    let rx = c.in_ok-rx.rx.now in
    let ry = c.in_ok-ry.ry.now in
    let h = c.in_ok-h.h.now in
    let more = c.word-6.new.words in
    let whole : c.args.words.now ≡ a ∷ b ∷ k ∷ rx ∷ ry ∷ h ∷ more =
    c.in_ok-a.ensures.found
    ∙ ap (λ rest. a ∷ rest) (c.in_ok-b.ensures.found
    ∙ ap (λ rest. b ∷ rest) (c.in_ok-k.ensures.found
    ∙ ap (λ rest. k ∷ rest) (c.in_ok-rx.ensures.found
    ∙ ap (λ rest. rx ∷ rest) (c.in_ok-ry.ensures.found
    ∙ ap (λ rest. ry ∷ rest) c.in_ok-h.ensures.found)))) in
    let refused : c.from_residual-in_err-line_end.result ≡ Err syntax = search rules in
    refused ∙ sym (ap spring_by whole ∙ spring_by-long a b k rx ry h more c.in_err-line_end.ensures.more.1)
