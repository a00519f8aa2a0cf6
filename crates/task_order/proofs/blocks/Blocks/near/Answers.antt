use Rattle.std.proofs.Common.{◌+◌, ◌∙◌, sym, ap, length, subst, arith}
use Rattle.task_order.specs.TaskList.{IsAscending, tasks_before}
use Rattle.task_order.proofs.Places.{block_ascends, block_read}
use Rattle.task_order.proofs.blocks.Blocks.near.Goals as goal

pub place_near-requires : goal.place_near-requires
place_near-requires c =
    let at = c.args.at in
    subst IsAscending (sym (block_read c.self.inside.blocks.items c.args.self.now (at + 1) at c.index.result.now c.self.view_is c.index.ensures (omega arith) (omega arith) (omega (arith, c.count.ensures, c.if-at-count.false))))
    (block_ascends c.args.self.now at c.requires.ascending)

pub unless_next_starts-requires-clause-found : goal.unless_next_starts-requires-clause-found
unless_next_starts-requires-clause-found c =
    let at = c.args.at in
    c.in_ok-place.ensures.place
    ∙ ap (λ block. length (tasks_before c.args.key.now block))
    (block_read c.self.inside.blocks.items c.args.self.now (at + 1) at c.index.result.now c.self.view_is c.index.ensures (omega arith) (omega arith) (omega (arith, c.count.ensures, c.if-at-count.false)))
