use Rattle.std.proofs.Common.{◌∙◌, sym}
use Rattle.task_order.proofs.Near.{place_before_first}
use Rattle.task_order.proofs.blocks.Blocks.place_among.Goals as goal

pub returns-then-not-is_started_at : goal.returns-then-not-is_started_at
returns-then-not-is_started_at c = place_before_first c.args.key.now c.args.self.now c.requires.ascending c.requires.gapless (sym c.is_started_at.ensures.starts ∙ c.if-not-is_started_at.true)
