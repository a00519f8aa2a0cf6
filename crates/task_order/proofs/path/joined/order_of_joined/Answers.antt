use Rattle.std.proofs.Common.{sym, ◌∙◌, ap, ◌++◌}
use Rattle.std.specs.Cmp.Lexicographic.{nat_list_cmp_total}
use Rattle.std.specs.Ordering.{ordering_reverse}
use Rattle.task_order.proofs.path.joined.order_of_joined.Goals as goal

pub returns-else-a-b : goal.returns-else-a-b
returns-else-a-b c =
    c.reverse.ensures ∙ ap ordering_reverse c.order_from_shorter-else-a-b.ensures
    ∙ sym (nat_list_cmp_total.antisymm (c.args.a.now ++ c.args.a_rest.now) (c.args.b.now ++ c.args.b_rest.now))
