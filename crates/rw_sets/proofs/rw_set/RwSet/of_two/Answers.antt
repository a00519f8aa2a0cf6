use Rattle.std.proofs.Common.{[], ◌∙◌, sym, arith}
use Rattle.rw_sets.specs.MergeLaws.{put_above, put_below}
use Rattle.rw_sets.proofs.rw_set.RwSet.of_two.Goals as goal

pub returns-then-first-second : goal.returns-then-first-second
returns-then-first-second c = c.in_order.ensures ∙ sym (put_above c.args.first c.args.second [] (omega (arith, c.if-first-second.true)))

pub returns-else-first-second : goal.returns-else-first-second
returns-else-first-second c = c.in_order-else-first-second.ensures ∙ sym (put_below c.args.first c.args.second [] (omega (arith, c.if-first-second.false, c.requires)))
