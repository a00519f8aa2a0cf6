use Rattle.std.proofs.Common.{◌≡◌, ◌≤◌, ℕ, List, ◌++◌, length, take, append_assoc, length-append, sym, ◌∙◌, ap, arith}
use Rattle.std.specs.Cmp.Lexicographic.{slice_cmp}
use Rattle.std.specs.declared.cmp.Ordering.{Ordering}
use Rattle.std.specs.declared.cmp.Ordering.TheVariants.{Less, Equal}
use Rattle.std.specs.Ordering.{nat_cmp, ordering_then}
use Rattle.task_order.specs.SharedBytes.{chain}
use Rattle.task_order.specs.Comparing.{then-decided}
use Rattle.task_order.proofs.SharedBytes.{order-below, levels_below}
use Rattle.task_order.proofs.path.node.order_below.Goals as goal

pub returns-in-Equal : goal.returns-in-Equal
returns-in-Equal c =
    let before = chain c.args.a.now.before.now in
    let own = c.args.a.now.bytes.now ++ c.args.a_rest.now in
    let below = chain c.lower.inside.before in
    let lower = c.lower.inside.bytes.items in
    let upper = c.upper.inside.bytes.items in
    let all : chain c.args.b.now ≡ c.deref.result.now = ap chain c.in-Some.is ∙ sym c.deref.ensures in
    let lower_all : chain c.upper.inside.before ≡ below ++ lower = ap chain c.in-Some-before.is ∙ sym c.deref-lower.ensures ∙ sym c.lower.view_is in
    let upper_all : below ++ (lower ++ upper) ≡ c.at_level-upper.result.now =
    sym (append_assoc below lower upper) ∙ ap (λ (front : List ℕ). front ++ upper) (sym lower_all) ∙ c.upper.view_is in
    let begins : c.at_level-upper.result.now ≡ take (length c.at_level-upper.result.now) (chain c.args.b.now) =
    c.at_level-upper.ensures.begins ∙ ap (take (length c.at_level-upper.result.now)) (sym all) in
    let levels = levels_below c.args.a.now.level before c.lower.inside.level lower below c.upper.inside.level upper (chain c.upper.inside.before) c.at_level-upper.result.now
    c.requires.full_before c.lower.invariant c.upper.invariant lower_all c.upper.view_is c.at_level-upper.ensures.not_below c.at_level-upper.ensures.not_above in
    let upto : length own ≤ length (lower ++ upper) = simp length-append (omega arith) in
    let whole = order-below before own below (lower ++ upper) c.at_level-upper.result.now (chain c.args.b.now) levels.0 upto upper_all begins in
    let joined : c.order_of_joined.result ≡ slice_cmp nat_cmp own (lower ++ upper) = c.order_of_joined.ensures ∙ rw (c.deref-in-Equal.ensures.value, c.deref-in-Equal-2.ensures.value) in
    let tied : slice_cmp nat_cmp before below ≡ Equal = sym c.order_of_full.ensures ∙ c.in-Equal.is in
    c.then.ensures ∙ ap (λ (o : Ordering). ordering_then o Less) joined
    ∙ sym (whole ∙ ap (λ (o : Ordering). ordering_then o (ordering_then (slice_cmp nat_cmp own (lower ++ upper)) Less)) tied)

pub returns-in_default-order_of_full : goal.returns-in_default-order_of_full
returns-in_default-order_of_full c =
    let before = chain c.args.a.now.before.now in
    let own = c.args.a.now.bytes.now ++ c.args.a_rest.now in
    let below = chain c.lower.inside.before in
    let lower = c.lower.inside.bytes.items in
    let upper = c.upper.inside.bytes.items in
    let all : chain c.args.b.now ≡ c.deref.result.now = ap chain c.in-Some.is ∙ sym c.deref.ensures in
    let lower_all : chain c.upper.inside.before ≡ below ++ lower = ap chain c.in-Some-before.is ∙ sym c.deref-lower.ensures ∙ sym c.lower.view_is in
    let upper_all : below ++ (lower ++ upper) ≡ c.at_level-upper.result.now =
    sym (append_assoc below lower upper) ∙ ap (λ (front : List ℕ). front ++ upper) (sym lower_all) ∙ c.upper.view_is in
    let begins : c.at_level-upper.result.now ≡ take (length c.at_level-upper.result.now) (chain c.args.b.now) =
    c.at_level-upper.ensures.begins ∙ ap (take (length c.at_level-upper.result.now)) (sym all) in
    let levels = levels_below c.args.a.now.level before c.lower.inside.level lower below c.upper.inside.level upper (chain c.upper.inside.before) c.at_level-upper.result.now
    c.requires.full_before c.lower.invariant c.upper.invariant lower_all c.upper.view_is c.at_level-upper.ensures.not_below c.at_level-upper.ensures.not_above in
    let upto : length own ≤ length (lower ++ upper) = simp length-append (omega arith) in
    let whole = order-below before own below (lower ++ upper) c.at_level-upper.result.now (chain c.args.b.now) levels.0 upto upper_all begins in
    sym (whole ∙ ap (λ (o : Ordering). ordering_then o (ordering_then (slice_cmp nat_cmp own (lower ++ upper)) Less)) (sym c.order_of_full.ensures)
    ∙ then-decided c.order_of_full.result (ordering_then (slice_cmp nat_cmp own (lower ++ upper)) Less) c.in_default-order_of_full.not-Equal)
