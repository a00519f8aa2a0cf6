use Rattle.std.proofs.Common.{rules, inl, ◌∙◌, ap, subst, sym, arith}
use Rattle.plain_laws.specs.Lists.{empty_from_length}
use Rattle.task_order.specs.Blocks.{tasks_in, block_at, IsGapless}
use Rattle.task_order.proofs.Cuts.{gapless-kept, gapless-removed, tasks_in-remove}
use Rattle.task_order.proofs.blocks.Blocks.drop_empty.Goals.{else-len-gt1-via-then-len-gt1+else-block_len-eq0, else-len-gt1-via-else-len-gt1}
use Rattle.task_order.proofs.blocks.Blocks.drop_empty.Goals as goal

pub returns-else-len-gt1-clause-gapless : goal.returns-else-len-gt1-clause-gapless
returns-else-len-gt1-clause-gapless c = elim c.else-len-gt1.branch [
  | else-len-gt1-via-then-len-gt1+else-block_len-eq0 w ↦ gapless-kept c.args.self.now c.args.at c.requires.at (omega (arith, w.if-block_len-eq0.false, w.block_len.ensures.len)) c.requires.others
  | else-len-gt1-via-else-len-gt1 w ↦ inl (search rules)
]

pub returns-then-block_len-eq0-clause-tasks : goal.returns-then-block_len-eq0-clause-tasks
returns-then-block_len-eq0-clause-tasks c =
    ap tasks_in c.remove_block.ensures ∙ tasks_in-remove c.args.self.now c.args.at c.requires.at (empty_from_length (block_at c.args.self.now c.args.at) (omega (arith, c.if-block_len-eq0.true, c.block_len.ensures.len)))

pub returns-then-block_len-eq0-clause-gapless : goal.returns-then-block_len-eq0-clause-gapless
returns-then-block_len-eq0-clause-gapless c = subst IsGapless (sym c.remove_block.ensures) (gapless-removed c.args.self.now c.args.at (search rules) c.requires.others)
