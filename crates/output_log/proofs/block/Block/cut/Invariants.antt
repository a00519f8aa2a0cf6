use Rattle.std.proofs.Common.{◌≡◌, ◌≤◌, ◌++◌, length}
use Rattle.output_log.specs.Blocks.{full_length}
use Rattle.output_log.proofs.block.Block.cut.Given as goal

-- no entry is lost, and those before the place stay
abbrev pub invariant-loop-self : goal.invariant-loop-self
invariant-loop-self l = (l.self ++ l.rest ≡ l.fn.self) × (l.place ≤ length l.self) × (length l.fn.self ≤ full_length)

abbrev pub decreases-loop-self : goal.decreases-loop-self
decreases-loop-self l = length l.self
