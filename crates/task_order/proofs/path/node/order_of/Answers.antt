use Rattle.std.proofs.Common.{◌≡◌, ◌≤◌, ◌<◌, ◌+◌, ◌++◌, length, append_assoc, length-append, sym, ◌∙◌, ap, arith}
use Rattle.std.specs.Cmp.Lexicographic.{nat_list_cmp_total}
use Rattle.std.specs.Ordering.{ordering_reverse}
use Rattle.plain_laws.specs.Orderings.{above_from_cmp, below_from_cmp, same_from_cmp}
use Rattle.task_order.specs.SharedBytes.{chain}
use Rattle.task_order.specs.declared.path.node.TheConstants.{IN_PLACE}
use Rattle.task_order.specs.Comparing.{append-tied, append-decided}
use Rattle.task_order.proofs.SharedBytes.{order-deeper, some_behind}
use Rattle.task_order.proofs.path.node.order_of.Goals as goal

pub returns-in-Less : goal.returns-in-Less
returns-in-Less c =
    let a = c.split_last-a_split.result in
    let b = c.split_last-b_split.result in
    let lower : a.level < b.level = below_from_cmp a.level b.level (sym c.cmp.ensures ∙ c.in-Less.is) in
    let a_length : length (chain c.args.a.now) ≡ length (chain a.before.now) + length a.bytes.now = ap length c.split_last-a_split.ensures.all ∙ length-append (chain a.before.now) a.bytes.now in
    let b_length : length (chain c.args.b.now) ≡ length (chain b.before.now) + length b.bytes.now = ap length c.split_last-b_split.ensures.all ∙ length-append (chain b.before.now) b.bytes.now in
    let few : IN_PLACE ≤ length b.bytes.now = c.split_last-b_split.ensures.not_few (omega arith) in
    order-deeper (chain c.args.a.now) c.args.a_rest.now (chain a.before.now) a.bytes.now (chain c.args.b.now) c.args.b_rest.now c.order_below.result c.split_last-a_split.ensures.all
    (simp length-append (omega arith)) (some_behind (chain c.args.b.now) c.args.b_rest.now c.requires.b_goes_on (omega arith)) c.order_below.ensures

pub returns-in-Equal-order_of_full : goal.returns-in-Equal-order_of_full
returns-in-Equal-order_of_full c =
    let a = c.split_last-a_split.result in
    let b = c.split_last-b_split.result in
    let same : a.level ≡ b.level = same_from_cmp a.level b.level (sym c.cmp.ensures ∙ c.in-Equal.is) in
    c.order_of_joined.ensures
    ∙ sym (append-tied (chain a.before.now) (chain b.before.now) (a.bytes.now ++ c.args.a_rest.now) (b.bytes.now ++ c.args.b_rest.now) c.order_of_full.result (omega arith) c.order_of_full.ensures c.in-Equal-order_of_full.is)
    ∙ rw (c.split_last-a_split.ensures.all, c.split_last-b_split.ensures.all, append_assoc (chain a.before.now) a.bytes.now c.args.a_rest.now, append_assoc (chain b.before.now) b.bytes.now c.args.b_rest.now)

pub returns-in_default : goal.returns-in_default
returns-in_default c =
    let a = c.split_last-a_split.result in
    let b = c.split_last-b_split.result in
    let same : a.level ≡ b.level = same_from_cmp a.level b.level (sym c.cmp.ensures ∙ c.in-Equal.is) in
    append-decided (chain a.before.now) (chain b.before.now) (a.bytes.now ++ c.args.a_rest.now) (b.bytes.now ++ c.args.b_rest.now) c.order_of_full.result (omega arith) c.order_of_full.ensures c.in_default.not-Equal
    ∙ rw (c.split_last-a_split.ensures.all, c.split_last-b_split.ensures.all, append_assoc (chain a.before.now) a.bytes.now c.args.a_rest.now, append_assoc (chain b.before.now) b.bytes.now c.args.b_rest.now)

pub returns-in-Greater : goal.returns-in-Greater
returns-in-Greater c =
    let a = c.split_last-a_split.result in
    let b = c.split_last-b_split.result in
    let lower : b.level < a.level = above_from_cmp a.level b.level (sym c.cmp.ensures ∙ c.in-Greater.is) in
    let a_length : length (chain c.args.a.now) ≡ length (chain a.before.now) + length a.bytes.now = ap length c.split_last-a_split.ensures.all ∙ length-append (chain a.before.now) a.bytes.now in
    let b_length : length (chain c.args.b.now) ≡ length (chain b.before.now) + length b.bytes.now = ap length c.split_last-b_split.ensures.all ∙ length-append (chain b.before.now) b.bytes.now in
    let few : IN_PLACE ≤ length a.bytes.now = c.split_last-a_split.ensures.not_few (omega arith) in
    let turned = order-deeper (chain c.args.b.now) c.args.b_rest.now (chain b.before.now) b.bytes.now (chain c.args.a.now) c.args.a_rest.now c.order_below-in-Greater.result c.split_last-b_split.ensures.all
    (simp length-append (omega arith)) (some_behind (chain c.args.a.now) c.args.a_rest.now c.requires.a_goes_on (omega arith)) c.order_below-in-Greater.ensures in
    c.reverse.ensures ∙ ap ordering_reverse turned ∙ sym (nat_list_cmp_total.antisymm (chain c.args.a.now ++ c.args.a_rest.now) (chain c.args.b.now ++ c.args.b_rest.now))
