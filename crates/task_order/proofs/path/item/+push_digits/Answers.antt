use Rattle.std.proofs.Common.{◌-◌, ◌/◌, ◌%◌, ◌∷◌, [], sym, append-nil, append_assoc, arith}
use Rattle.task_order.specs.PathCode.{digits}
use Rattle.task_order.proofs.PathCode.{digits-none, digits-more}
use Rattle.task_order.proofs.path.item.+push_digits.Goals as goal

pub returns-then-count-eq0 : goal.returns-then-count-eq0
returns-then-count-eq0 t c = rw (c.if-count-eq0.true, digits-none c.args.number) (sym (append-nil c.args.bytes.now))

pub returns : goal.returns
returns t c =
    rw (digits-more c.args.count c.args.number (omega arith), ← append_assoc c.args.bytes.now (digits (c.args.count - 1) (c.args.number / 256)) (c.args.number % 256 ∷ []), ← c.in_ok-push_digits.ensures)
    c.push.ensures
