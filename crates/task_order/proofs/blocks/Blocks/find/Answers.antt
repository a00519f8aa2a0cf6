use Rattle.task_order.proofs.Found.{new_from_elsewhere}
use Rattle.task_order.proofs.blocks.Blocks.find.Goals as goal

pub returns-clause-absent : goal.returns-clause-absent
returns-clause-absent c =
    new_from_elsewhere c.args.key.now c.args.self.now c.place_of-at.result.0 c.place_of-at.result.1 c.found_at.result c.requires.ascending c.place_of-at.ensures c.found_at.ensures.absent
