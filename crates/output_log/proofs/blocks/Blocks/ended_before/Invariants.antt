use Rattle.std.proofs.Common.{◌-◌}
use Rattle.task_order.specs.Key.{at_key}
use Rattle.output_log.proofs.Search.{IsBetween}
use Rattle.output_log.proofs.blocks.Blocks.ended_before.Given as goal

-- the blocks below the lower place end before the key, and the block at the upper one doesn't
abbrev pub invariant-loop-low : goal.invariant-loop-low
invariant-loop-low l = IsBetween (at_key l.key) l.self.blocks l.low l.high

abbrev pub decreases-loop-low : goal.decreases-loop-low
decreases-loop-low l = l.high - l.low
