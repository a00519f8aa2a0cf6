use Rattle.std.proofs.Common.{sym, ◌∙◌, ap, subst}
use Rattle.std.specs.List.Sorted.{IsStrictlySortedBy}
use Rattle.output_log.specs.Blocks.{entries_in}
use Rattle.output_log.specs.Entries.{IsInKeyOrder, with_texts}
use Rattle.output_log.proofs.log.Log.new.Goals as goal

pub invariant_of-result : goal.invariant_of-result
unfolding IsStrictlySortedBy
invariant_of-result c = (subst IsInKeyOrder (sym c.new-2.ensures) tt, ap entries_in c.new.ensures ∙ sym (ap with_texts c.new-2.ensures))
