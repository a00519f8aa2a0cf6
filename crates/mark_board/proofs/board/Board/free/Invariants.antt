use Rattle.std.proofs.Common.{◌≡◌, take}
use Rattle.std.specs.Prelude.{Contains}
use Rattle.mark_board.specs.Markers.{IsFreeAt}
use Rattle.mark_board.proofs.board.Board.free.Given as goal

-- no pair so far is barred, and the marker is as it was
abbrev pub invariant-loop-pair : goal.invariant-loop-pair
invariant-loop-pair l = record {
  so_far : (p : _) → Contains (take l.pair-index l.set) p → IsFreeAt l.fn.marker.marks l.rank p.0 p.1;
  same : l.marker ≡ l.fn.marker;
}
