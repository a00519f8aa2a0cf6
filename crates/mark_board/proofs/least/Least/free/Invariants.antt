use Rattle.std.proofs.Common.{take}
use Rattle.std.specs.Prelude.{Contains}
use Rattle.mark_board.specs.Markers.{IsFreeAt}
use Rattle.mark_board.proofs.least.Least.free.Given as goal

-- no pair so far is barred
abbrev pub invariant-loop-pair : goal.invariant-loop-pair
invariant-loop-pair l = (p : _) → Contains (take l.pair-index l.set) p → IsFreeAt l.self.marks l.rank p.0 p.1
