use Rattle.std.proofs.Common.{◌≡◌, ◌++◌, take}
use Rattle.mark_board.specs.Markers.{marks_of}
use Rattle.mark_board.proofs.board.Board.mark.Given as goal

abbrev pub invariant-loop-pair : goal.invariant-loop-pair
invariant-loop-pair l = l.marker ≡ record l.fn.marker { marks = l.fn.marker.marks ++ marks_of l.rank (take l.pair-index l.set) }
