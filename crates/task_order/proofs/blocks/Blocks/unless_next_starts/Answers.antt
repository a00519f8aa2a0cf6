use Rattle.std.proofs.Common.{◌∙◌, inl, inr, sym, arith}
use Rattle.task_order.proofs.Near.{place_near}
use Rattle.task_order.proofs.blocks.Blocks.unless_next_starts.Goals as goal

pub returns-then-place-block_len : goal.returns-then-place-block_len
returns-then-place-block_len c =
    place_near c.args.key.now c.args.self.now c.args.at c.args.place c.requires.ascending c.requires.gapless c.requires.inside c.requires.some c.requires.found
    (inl (omega (arith, c.if-place-block_len.true, c.block_len.ensures.len)))

pub returns : goal.returns
returns c =
    place_near c.args.key.now c.args.self.now c.args.at c.args.place c.requires.ascending c.requires.gapless c.requires.inside c.requires.some c.requires.found
    (inr (sym c.is_started_at.ensures.starts ∙ c.if-is_started_at.false))
