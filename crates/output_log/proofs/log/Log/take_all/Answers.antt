use Rattle.std.proofs.Common.{sym, ◌∙◌, ap, subst}
use Rattle.std.specs.List.Sorted.{IsStrictlySortedBy}
use Rattle.output_log.specs.Blocks.{entries_in, entries_to}
use Rattle.output_log.specs.Entries.{IsInKeyOrder, joined_texts, with_texts}
use Rattle.output_log.specs.LogState.{LogState}
use Rattle.output_log.proofs.BlockEntries.{behind_all, up_to_all}
use Rattle.output_log.proofs.Written.{all_texts_are_written}
use Rattle.output_log.proofs.log.Log.take_all.Goals as goal

pub invariant_of-self : goal.invariant_of-self
invariant_of-self c = (c.self.invariant.0, ap entries_in c.in_err-text.ensures.unchanged ∙ c.self.invariant.1)

pub invariant_of-self-2 : goal.invariant_of-self-2
unfolding IsStrictlySortedBy
invariant_of-self-2 c =
    (subst IsInKeyOrder (sym c.new.ensures) tt, c.in_ok-text.ensures.rest ∙ behind_all c.self.inside.blocks.blocks c.count.result 0 c.count.ensures ∙ sym (ap with_texts c.new.ensures))

pub returns-clause-text : goal.returns-clause-text
returns-clause-text c =
    c.in_ok-text.ensures.text ∙ ap joined_texts (ap (λ at. entries_to c.self.inside.blocks.blocks at 0) c.count.ensures ∙ up_to_all c.self.inside.blocks.blocks ∙ c.self.invariant.1)
    ∙ all_texts_are_written c.self.inside.seen ∙ ap (λ (log : LogState). joined_texts log.entries) c.self.view_is
