use Rattle.std.proofs.Common.{sym, ◌∙◌, ap, subst}
use Rattle.task_order.specs.Key.{at_key}
use Rattle.output_log.specs.Blocks.{entries_in}
use Rattle.output_log.specs.Entries.{IsInKeyOrder, entries_before, entries_from, joined_texts, with_texts}
use Rattle.output_log.specs.LogState.{LogState}
use Rattle.output_log.proofs.Parts.{parts_keep_order}
use Rattle.output_log.proofs.Written.{all_texts_are_written, written_before, written_from, written_in_order}
use Rattle.output_log.proofs.log.Log.take_below.Goals as goal

pub front_of-at-requires : goal.front_of-at-requires
front_of-at-requires c = subst IsInKeyOrder (sym c.self.invariant.1) (written_in_order c.self.inside.seen c.self.invariant.0)

pub invariant_of-self : goal.invariant_of-self
invariant_of-self c = (c.self.invariant.0, ap entries_in c.in_err-text.ensures.unchanged ∙ c.self.invariant.1)

pub invariant_of-self-2 : goal.invariant_of-self-2
invariant_of-self-2 c =
    let bound = at_key c.args.key.now in (
      subst IsInKeyOrder (sym c.take_below.ensures) (parts_keep_order bound c.self.inside.seen c.self.invariant.0).1,
      c.in_ok-text.ensures.rest ∙ c.front_of-at.ensures.from ∙ ap (entries_from bound) c.self.invariant.1 ∙ sym (written_from bound c.self.inside.seen) ∙ ap with_texts (sym c.take_below.ensures),
    )

pub returns-clause-text : goal.returns-clause-text
returns-clause-text c =
    let bound = at_key c.args.key.now in
    c.in_ok-text.ensures.text ∙ ap joined_texts (c.front_of-at.ensures.before ∙ ap (entries_before bound) c.self.invariant.1 ∙ sym (written_before bound c.self.inside.seen))
    ∙ all_texts_are_written (entries_before bound c.self.inside.seen) ∙ ap (λ (log : LogState). joined_texts (entries_before bound log.entries)) c.self.view_is
