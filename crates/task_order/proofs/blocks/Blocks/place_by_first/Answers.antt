use Rattle.std.proofs.Common.{◌∙◌, sym, ap, length, subst}
use Rattle.task_order.specs.TaskList.{IsAscending, tasks_before}
use Rattle.task_order.proofs.Places.{block_ascends, block_read}
use Rattle.task_order.proofs.blocks.Blocks.place_by_first.Goals as goal

pub place_behind-requires : goal.place_behind-requires
place_behind-requires c =
    subst IsAscending (sym (block_read c.self.inside.blocks.items c.args.self.now c.started_within-next.result c.in_ok-at.at c.index.result.now c.self.view_is c.index.ensures c.in_ok-at.ensures.0 c.in_ok-at.ensures.1 c.started_within-next.ensures))
    (block_ascends c.args.self.now c.in_ok-at.at c.requires.ascending)

pub unless_next_starts-requires-clause-found : goal.unless_next_starts-requires-clause-found
unless_next_starts-requires-clause-found c =
    c.in_ok-place.ensures.place
    ∙ ap (λ block. length (tasks_before c.args.key.now block))
    (block_read c.self.inside.blocks.items c.args.self.now c.started_within-next.result c.in_ok-at.at c.index.result.now c.self.view_is c.index.ensures c.in_ok-at.ensures.0 c.in_ok-at.ensures.1 c.started_within-next.ensures)
