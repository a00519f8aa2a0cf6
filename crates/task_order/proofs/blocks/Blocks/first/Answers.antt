use Rattle.std.proofs.Common.{◌∙◌}
use Rattle.task_order.proofs.Cuts.{first_of_blocks}
use Rattle.task_order.proofs.blocks.Blocks.first.Goals as goal

pub returns : goal.returns
returns c = c.get.ensures ∙ first_of_blocks c.args.self.now c.requires
