use Rattle.std.proofs.Common.{◌≡◌, ℕ, List, ◌++◌, length, sym, ◌∙◌, ap}
use Rattle.std.specs.Cmp.Lexicographic.{slice_cmp}
use Rattle.std.specs.declared.cmp.Ordering.{Ordering}
use Rattle.std.specs.Ordering.{nat_cmp, ordering_then}
use Rattle.task_order.specs.SharedBytes.{chain}
use Rattle.task_order.specs.Comparing.{then-decided}
use Rattle.task_order.proofs.SharedBytes.{same_level, order-found}
use Rattle.task_order.proofs.path.node.order_of_full.Goals.{in-Equal, in_default-order_of_alike}
use Rattle.task_order.proofs.path.node.order_of_full.Goals as goal

pub loop-a-preserved : goal.loop-a-preserved
loop-a-preserved c =
    let a = c.a_last.inside in
    let b = c.b_last.inside in
    let a_all : chain c.loop-a.a.now ≡ chain a.before ++ a.bytes.items = ap chain c.in-Some-Some.is-0 ∙ sym c.deref-a_last.ensures ∙ sym c.a_last.view_is in
    let b_all : chain c.loop-a.b.now ≡ chain b.before ++ b.bytes.items = ap chain c.in-Some-Some.is-1 ∙ sym c.deref-b_last.ensures ∙ sym c.b_last.view_is in
    let lengths : (length (chain a.before) ≡ length (chain b.before)) × (length a.bytes.items ≡ length b.bytes.items) =
    same_level a.level a.bytes.items (chain a.before) b.level b.bytes.items (chain b.before) c.a_last.invariant c.b_last.invariant (sym (ap length a_all) ∙ c.loop-a.invariant.0 ∙ ap length b_all) in
    let own : c.order_of_alike.result ≡ slice_cmp nat_cmp a.bytes.items b.bytes.items = c.order_of_alike.ensures ∙ rw (c.deref.ensures.value, c.deref-in-Some-Some.ensures.value) in
    let found : ordering_then (slice_cmp nat_cmp a.bytes.items b.bytes.items) c.loop-a.order ≡ c.match-order_of_alike.order = elim c.match-order_of_alike.branch [
      | in-Equal w ↦ ap (λ (o : Ordering). ordering_then o c.loop-a.order) (sym own ∙ w.in-Equal.is) ∙ sym w.order-is
      | in_default-order_of_alike w ↦ ap (λ (o : Ordering). ordering_then o c.loop-a.order) (sym own) ∙ then-decided c.order_of_alike.result c.loop-a.order w.in_default-order_of_alike.not-Equal ∙ cc
    ] in (
      lengths.0,
      c.loop-a.invariant.1 ∙ ap (λ (o : Ordering). ordering_then o c.loop-a.order) (ap (λ (xs : List ℕ). slice_cmp nat_cmp xs (chain c.loop-a.b.now)) a_all ∙ ap (slice_cmp nat_cmp (chain a.before ++ a.bytes.items)) b_all)
          ∙ order-found a.bytes.items (chain a.before) b.bytes.items (chain b.before) c.loop-a.order c.match-order_of_alike.order lengths.0 found,
    )
