use Rattle.std.proofs.Common.{◌∙◌, sym, ap, length, subst, arith}
use Rattle.task_order.specs.TaskList.{IsAscending, tasks_before}
use Rattle.task_order.proofs.Places.{place_before_all, place_found, block_ascends, block_read}
use Rattle.task_order.proofs.blocks.Blocks.search.Goals as goal

pub rank-requires : goal.rank-requires
rank-requires c =
    subst IsAscending (sym (block_read c.self.inside.blocks.items c.args.self.now c.started_by.result c.in-Some.at c.index.result.now c.self.view_is c.index.ensures c.in-Some.ensures.0 c.in-Some.ensures.1 c.started_by.ensures.bound))
    (block_ascends c.args.self.now c.in-Some.at c.requires.ascending)

pub returns-in-None : goal.returns-in-None
returns-in-None c = place_before_all c.args.key.now c.args.self.now c.started_by.result c.requires.ascending (omega (arith, c.in-None.ensures)) c.started_by.ensures.point

pub returns-in-Some : goal.returns-in-Some
returns-in-Some c =
    place_found c.args.key.now c.args.self.now c.started_by.result c.in-Some.at c.rank.result c.requires.ascending c.in-Some.ensures.0 c.in-Some.ensures.1 c.started_by.ensures.bound c.started_by.ensures.point
    (c.rank.ensures ∙ ap (λ block. length (tasks_before c.args.key.now block))
    (block_read c.self.inside.blocks.items c.args.self.now c.started_by.result c.in-Some.at c.index.result.now c.self.view_is c.index.ensures c.in-Some.ensures.0 c.in-Some.ensures.1 c.started_by.ensures.bound))
