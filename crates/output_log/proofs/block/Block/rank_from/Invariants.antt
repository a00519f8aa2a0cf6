use Rattle.std.proofs.Common.{◌≤◌, ◌-◌, length}
use Rattle.task_order.specs.Key.{at_key}
use Rattle.output_log.specs.Entries.{entries_before}
use Rattle.output_log.proofs.block.Block.rank_from.Given as goal

-- the entries before the lower place are earlier
abbrev pub invariant-loop-passed : goal.invariant-loop-passed
invariant-loop-passed l = (l.start ≤ l.low) × (l.low ≤ l.high) × (l.low ≤ length (entries_before (at_key l.key) l.self))

abbrev pub decreases-loop-passed : goal.decreases-loop-passed
decreases-loop-passed l = length (entries_before (at_key l.key) l.self) - l.low

-- and none is from the upper one on
abbrev pub invariant-loop-low : goal.invariant-loop-low
invariant-loop-low l = (l.low ≤ length (entries_before (at_key l.key) l.self)) × (length (entries_before (at_key l.key) l.self) ≤ l.high)

abbrev pub decreases-loop-low : goal.decreases-loop-low
decreases-loop-low l = l.high - l.low
