use Rattle.std.proofs.Common.{◌≡◌, sym, ◌∙◌, ap}
use Rattle.std.specs.Cmp.Lexicographic.{slice_cmp, bytes_decides}
use Rattle.std.specs.Ordering.{nat_cmp}
use Rattle.task_order.specs.Comparing.{slice_cmp-same}
use Rattle.task_order.proofs.path.joined.order_of_alike.Goals as goal

pub returns-then-eq : goal.returns-then-eq
returns-then-eq c =
    let same : c.args.a.now ≡ c.args.b.now = (bytes_decides c.args.a.now c.args.b.now).0 (sym c.eq.ensures ∙ c.if-eq.true) in
    sym (slice_cmp-same c.args.a.now) ∙ ap (slice_cmp nat_cmp c.args.a.now) same
