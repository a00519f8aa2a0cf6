use Rattle.std.specs.Prelude.{◌≡◌, [], Ok, Err}
use Rattle.std.proofs.Common.{◌∙◌, ap, sym, subst}
use Rattle.std.proofs.lemmas.Result.{err_from_is_err_and}
use Rattle.kdg_text.specs.Faults.{Answers}
use Rattle.mtx_reader.specs.Grammar.{answer_below}
use Rattle.mtx_reader.specs.Patterns.{size_fault}
use Rattle.mtx_reader.specs.Readings.{answer_from, end_of, forms_left}
use Rattle.mtx_reader.proofs.Entries.{answer-entries, pattern-sound}
use Rattle.mtx_reader.proofs.reader.pattern_below.Goals as goal

pub returns-in_err-named-in-Ok-clause-answer : goal.returns-in_err-named-in-Ok-clause-answer
returns-in_err-named-in-Ok-clause-answer c =
    let given = err_from_is_err_and c.from_residual.result c.from_residual.ensures.1 in
    let end : end_of c.next_said.new.lines ≡ end_of c.args.lines.now = c.in-Some.ensures.end in
    let whole : answer_below c.args.banner (end_of c.args.lines.now) (forms_left c.args.banner.field c.args.lines.now) ≡ answer_from c.args.banner c.in-Ok.size 0 [] (end_of c.next_said.new.lines) (forms_left c.args.banner.field c.next_said.new.lines) =
    ap (answer_below c.args.banner (end_of c.args.lines.now)) c.in-Some.ensures.said
    ∙ answer-entries c.args.banner c.in-Ok.size c.in-Some.line.number (end_of c.args.lines.now) c.in-Some.line.form (forms_left c.args.banner.field c.next_said.new.lines) c.in-Ok.ensures.fits.0 c.in-Ok.ensures.fits.1
    ∙ ap (λ last. answer_from c.args.banner c.in-Ok.size 0 [] last (forms_left c.args.banner.field c.next_said.new.lines)) (sym end) in
    rw (given.1, given.2) (subst (Answers (Err c.in_err-named-in-Ok.field-0.0)) (sym whole) c.in_err-named-in-Ok.ensures.refused)

pub returns-in_ok-named-in-Ok-clause-answer : goal.returns-in_ok-named-in-Ok-clause-answer
returns-in_ok-named-in-Ok-clause-answer c =
    let end : end_of c.next_said.new.lines ≡ end_of c.args.lines.now = c.in-Some.ensures.end in
    ap (answer_below c.args.banner (end_of c.args.lines.now)) c.in-Some.ensures.said
    ∙ answer-entries c.args.banner c.in-Ok.size c.in-Some.line.number (end_of c.args.lines.now) c.in-Some.line.form (forms_left c.args.banner.field c.next_said.new.lines) c.in-Ok.ensures.fits.0 c.in-Ok.ensures.fits.1
    ∙ ap (λ last. answer_from c.args.banner c.in-Ok.size 0 [] last (forms_left c.args.banner.field c.next_said.new.lines)) (sym end)
    ∙ c.in_ok-named-in-Ok.ensures.found
    ∙ ap (λ places. Ok (record { rows = c.in-Ok.size.rows; cols = c.in-Ok.size.columns; places = places })) (sym c.ones.ensures)

pub returns-in_ok-named-in-Ok-clause-pattern : goal.returns-in_ok-named-in-Ok-clause-pattern
returns-in_ok-named-in-Ok-clause-pattern c =
    rw c.ones.ensures (pattern-sound c.args.banner.field c.args.banner.symmetry c.in-Ok.size c.in_ok-named-in-Ok.named.items (subst (λ said. size_fault c.args.banner.symmetry said ≡ _) c.in-Ok.ensures.fits.0 c.in-Ok.ensures.fits.1))
