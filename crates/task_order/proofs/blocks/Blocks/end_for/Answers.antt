use Rattle.std.proofs.Common.{sym, ◌∙◌, ap, arith}
use Rattle.std.specs.Map.Iter.{deref}
use Rattle.std.specs.Option.{option_map}
use Rattle.plain_laws.specs.Orderings.{less_from_test}
use Rattle.task_order.proofs.Ends.{place_at_end}
use Rattle.task_order.proofs.blocks.Blocks.end_for.Goals as goal

pub returns-then-is_lt : goal.returns-then-is_lt
returns-then-is_lt c =
    place_at_end c.args.key.now c.args.self.now c.in_ok-at.at c.in_ok-checked_sub.field-0 c.block_len-len.result c.in_ok-last.last.now c.requires
    (omega (arith, c.in_ok-at.ensures, c.count.ensures))
    (sym c.get.ensures ∙ ap (option_map deref) c.in_ok-last.was)
    (omega (arith, c.in_ok-checked_sub.ensures, c.block_len-len.ensures.len))
    c.block_len-len.ensures.len
    (sym c.compare.ensures.order ∙ less_from_test c.compare.result (sym c.if-is_lt.ensures))
