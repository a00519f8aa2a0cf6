use Rattle.std.proofs.Common.{rules, ◌≡◌, ◌+◌, ◌≤◌, ◌<◌, ◌%◌, ◌++◌, ℕ, List, sym, ◌∙◌, ap, subst, length}
use Rattle.task_order.specs.SharedBytes.{chain}
use Rattle.task_order.specs.declared.path.node.TheConstants.{IN_PLACE, FULL_NODE}
use Rattle.task_order.proofs.SharedBytes.{IsNode-more, IsNode-next}
use Rattle.task_order.proofs.path.node.grown.Goals as goal

pub invariant_of-result-then-len-lt-FULL_NODE : goal.invariant_of-result-then-len-lt-FULL_NODE
invariant_of-result-then-len-lt-FULL_NODE c =
    let last = c.last.inside in
    let nodes : chain c.args.nodes.now ≡ chain last.before ++ last.bytes.items = ap chain c.in-Some.is ∙ sym c.deref-last.ensures ∙ sym c.last.view_is in
    let items : c.extend_from_slice-then-len-lt-FULL_NODE.new.self.items ≡ last.bytes.items ++ c.args.bytes.now = search rules in
    let whole : length (chain last.before ++ last.bytes.items) % IN_PLACE ≡ 0 = subst (λ (bytes : List ℕ). length bytes % IN_PLACE ≡ 0) nodes c.requires.whole in
    let room : length last.bytes.items < FULL_NODE = search rules in
    rw (items, c.in_ok-share.ensures) (IsNode-more last.level last.beginning last.bytes.items (chain last.before) c.args.bytes.now c.last.invariant c.told-bytes whole room)

pub invariant_of-result-2 : goal.invariant_of-result-2
invariant_of-result-2 c =
    let last = c.last.inside in
    let nodes : chain c.args.nodes.now ≡ chain last.before ++ last.bytes.items = ap chain c.in-Some.is ∙ sym c.deref-last.ensures ∙ sym c.last.view_is in
    let items : c.in_ok-from_slice-2.field-0.items ≡ c.args.bytes.now = search rules in
    let level : c.in_ok-ok_or.field-0 ≡ last.level + 1 = search rules in
    let full : FULL_NODE ≤ length last.bytes.items = search rules in
    rw (items, level, c.in_ok-share-2.ensures, nodes) (IsNode-next last.level last.beginning last.bytes.items (chain last.before) c.args.bytes.now c.last.invariant c.told-bytes full)
