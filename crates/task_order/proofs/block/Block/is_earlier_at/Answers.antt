use Rattle.std.proofs.Common.{◌∙◌, sym, ap, is_lt, get_or, arith}
use Rattle.task_order.specs.TaskList.{is_earlier}
use Rattle.task_order.proofs.Counts.{counted_if, none_counted}
use Rattle.task_order.proofs.block.Block.is_earlier_at.Goals as goal

pub returns-then-place-len-clause-counted : goal.returns-then-place-len-clause-counted
returns-then-place-len-clause-counted c =
    none_counted c.args.key.now c.args.self.now c.args.place (omega (arith, c.len.ensures.len, c.if-place-len.true))

pub returns-clause-counted : goal.returns-clause-counted
returns-clause-counted c =
    let task = c.index.result.now in
    counted_if c.args.key.now c.args.self.now c.args.place task c.requires (omega (arith, c.len.ensures.len, c.if-place-len.false)) c.is_lt.result
    (ap (is_earlier c.args.key.now) (sym (c.index.ensures ∙ ap (λ l. get_or l c.args.place task) c.self.view_is)) ∙ sym (c.is_lt.ensures ∙ ap is_lt c.compare.ensures.order))
