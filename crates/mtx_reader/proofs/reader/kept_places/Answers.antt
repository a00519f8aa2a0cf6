use Rattle.std.specs.Prelude.{◌≡◌, ◌+◌}
use Rattle.std.proofs.Common.{◌∙◌, ap, arith, subst}
use Rattle.std.proofs.lemmas.Bool.{eqb-false}
use Rattle.mtx_reader.specs.Readings.{answer_from, end_of, forms_left, numbered_form}
use Rattle.mtx_reader.proofs.Entries.{answer-entry}
use Rattle.mtx_reader.proofs.reader.kept_places.Goals as goal

pub loop-line-preserved : goal.loop-line-preserved
loop-line-preserved c =
    let field = c.args.banner.field in
    let end = end_of c.args.lines.now in
    let behind = c.next_said.new.lines in
    let at : end_of behind ≡ end = c.in-Some.ensures.end ∙ c.loop-line.invariant.end in
    let plain = c.in_ok-count-2.ensures in
    record {
      whole = c.loop-line.invariant.whole
          ∙ ap (answer_from c.args.banner c.args.size c.loop-line.count c.loop-line.named.items end) c.in-Some.ensures.said
          ∙ answer-entry c.args.banner c.args.size c.loop-line.count c.loop-line.named.items c.push_kept.new.named.items end (numbered_form c.in-Some.line) (forms_left field behind) c.in-Ok.entry (omega (arith, eqb-false)) c.in-Ok.ensures.said c.in-Ok.ensures.fits c.in_ok-push_kept-in-Ok.ensures
          ∙ subst (λ last. answer_from c.args.banner c.args.size (c.loop-line.count + 1) c.push_kept.new.named.items last (forms_left field behind) ≡ answer_from c.args.banner c.args.size c.in_ok-count-2.count c.keep_plain_lines-in-Some.new.named.items last (forms_left field c.keep_plain_lines-in-Some.new.lines)) at plain.whole;
      end = plain.end ∙ at;
      few = plain.few;
      within = plain.within;
    }
