use Rattle.std.proofs.Common.{◌≡◌, ◌++◌, drop}
use Rattle.mark_board.specs.Ranks.{marks_from}
use Rattle.mark_rounds.proofs.marking.mark_sets.Given as goal

abbrev pub invariant-loop-rank : goal.invariant-loop-rank
invariant-loop-rank l = record {
  same : l.marker ≡ record l.fn.marker { marks = l.marker.marks };
  marks : l.marker.marks ++ marks_from l.rank (drop l.rank l.sets) ≡ l.fn.marker.marks ++ marks_from 0 l.sets;
}
