use Rattle.std.proofs.Common.{List, ℕ, sym, ◌∙◌, ap, length, ◌++◌, arith}
use Rattle.std.specs.Cmp.Lexicographic.{slice_cmp}
use Rattle.std.specs.Ordering.{nat_cmp}
use Rattle.task_order.specs.Comparing.{slice_cmp-shorter, split-joined, append-tied, append-decided}
use Rattle.task_order.proofs.path.joined.order_behind.Goals as goal

pub returns-then-a-b : goal.returns-then-a-b
returns-then-a-b c = c.cmp.ensures ∙ sym (slice_cmp-shorter c.args.a.now c.args.b.now c.args.b_rest.now c.if-a-b.true)

pub returns-in-Equal : goal.returns-in-Equal
returns-in-Equal c =
    let first = c.split_at.result.0.now in
    let last = c.split_at.result.1.now in
    let b = c.args.b.now in
    let rest = c.args.b_rest.now in
    c.cmp-in-Equal.ensures
    ∙ sym (append-tied first b last rest c.cmp-2.result (omega arith) c.cmp-2.ensures c.in-Equal.is)
    ∙ ap (λ (a : List ℕ). slice_cmp nat_cmp a (b ++ rest)) (split-joined (length b) c.args.a.now first last c.split_at.ensures.front c.split_at.ensures.back)

pub returns-in_default : goal.returns-in_default
returns-in_default c =
    let first = c.split_at.result.0.now in
    let last = c.split_at.result.1.now in
    let b = c.args.b.now in
    let rest = c.args.b_rest.now in
    append-decided first b last rest c.cmp-2.result (omega arith) c.cmp-2.ensures c.in_default.not-Equal
    ∙ ap (λ (a : List ℕ). slice_cmp nat_cmp a (b ++ rest)) (split-joined (length b) c.args.a.now first last c.split_at.ensures.front c.split_at.ensures.back)
