use Rattle.std.proofs.Common.{◌≤◌, ◌⊎◌, length, ◌∙◌, ap, subst, sym}
use Rattle.std.specs.List.{AllByRecursion, remove}
use Rattle.task_order.specs.Blocks.{tasks_in, block_at, IsFilled}
use Rattle.task_order.proofs.Cuts.{others_filled, tasks_in-set}
use Rattle.task_order.proofs.Found.{without_at}
use Rattle.task_order.proofs.blocks.Blocks.remove.Goals as goal

pub drop_empty-requires-clause-others : goal.drop_empty-requires-clause-others
drop_empty-requires-clause-others c =
    subst (λ blocks. (length blocks ≤ 1) ⊎ AllByRecursion IsFilled (remove blocks c.args.at)) (sym c.remove_from-task.ensures.left)
    (others_filled c.args.self.now c.args.at (remove (block_at c.args.self.now c.args.at) c.args.place) c.requires.gapless)

pub returns-clause-left : goal.returns-clause-left
returns-clause-left c =
    c.drop_empty.ensures.tasks ∙ ap tasks_in c.remove_from-task.ensures.left ∙ tasks_in-set c.args.self.now c.args.at (remove (block_at c.args.self.now c.args.at) c.args.place) c.requires.inside
    ∙ without_at c.args.self.now c.args.at c.args.place c.remove_from-task.result c.requires.ascending c.requires.inside c.remove_from-task.ensures.task
