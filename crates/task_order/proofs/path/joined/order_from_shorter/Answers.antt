use Rattle.std.proofs.Common.{List, ℕ, sym, ◌∙◌, ap, length, ◌++◌, append_assoc, arith}
use Rattle.std.specs.Cmp.Lexicographic.{slice_cmp}
use Rattle.std.specs.Ordering.{nat_cmp}
use Rattle.task_order.specs.Comparing.{split-joined, append-tied, append-decided}
use Rattle.task_order.proofs.path.joined.order_from_shorter.Goals as goal

pub returns-in-Equal : goal.returns-in-Equal
returns-in-Equal c =
    let a = c.args.a.now in
    let a_rest = c.args.a_rest.now in
    let first = c.split_at.result.0.now in
    let last = c.split_at.result.1.now in
    let rest = c.args.b_rest.now in
    c.order_behind.ensures
    ∙ sym (append-tied a first a_rest (last ++ rest) c.order_of_alike.result (omega arith) c.order_of_alike.ensures c.in-Equal.is)
    ∙ ap (slice_cmp nat_cmp (a ++ a_rest)) (sym (append_assoc first last rest))
    ∙ ap (λ (b : List ℕ). slice_cmp nat_cmp (a ++ a_rest) (b ++ rest)) (split-joined (length a) c.args.b.now first last c.split_at.ensures.front c.split_at.ensures.back)

pub returns-in_default : goal.returns-in_default
returns-in_default c =
    let a = c.args.a.now in
    let a_rest = c.args.a_rest.now in
    let first = c.split_at.result.0.now in
    let last = c.split_at.result.1.now in
    let rest = c.args.b_rest.now in
    append-decided a first a_rest (last ++ rest) c.order_of_alike.result (omega arith) c.order_of_alike.ensures c.in_default.not-Equal
    ∙ ap (slice_cmp nat_cmp (a ++ a_rest)) (sym (append_assoc first last rest))
    ∙ ap (λ (b : List ℕ). slice_cmp nat_cmp (a ++ a_rest) (b ++ rest)) (split-joined (length a) c.args.b.now first last c.split_at.ensures.front c.split_at.ensures.back)
