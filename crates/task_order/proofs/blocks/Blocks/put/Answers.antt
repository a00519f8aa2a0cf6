use Rattle.std.proofs.Common.{◌∙◌, ap, sym, subst, arith}
use Rattle.std.specs.List.{insert}
use Rattle.task_order.specs.Blocks.{tasks_in, block_at, IsGapless}
use Rattle.task_order.proofs.Cuts.{put_in-block}
use Rattle.task_order.proofs.Rooms.{gapless_with_one, length-insert}
use Rattle.task_order.proofs.blocks.Blocks.put.Goals as goal

pub returns-clause-tasks : goal.returns-clause-tasks
returns-clause-tasks c =
    ap tasks_in c.put_into.ensures ∙ put_in-block c.args.task c.args.self.now c.args.at c.args.place c.requires.place c.requires.free.room.inside

pub returns-clause-gapless : goal.returns-clause-gapless
returns-clause-gapless c =
    let block = block_at c.args.self.now c.args.at in
    subst IsGapless (sym c.put_into.ensures)
    (gapless_with_one c.args.self.now c.args.at (insert block c.args.place c.args.task) c.requires.free.others (omega (arith, length-insert block c.args.place c.args.task c.requires.place.within)))
