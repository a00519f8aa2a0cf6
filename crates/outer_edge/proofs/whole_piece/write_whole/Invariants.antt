use Rattle.std.proofs.Common.{◌≡◌, ℕ, List, [], ◌++◌, length}
use Rattle.std.specs.Io.KnownBytes.{Appends}
use Rattle.outer_edge.proofs.whole_piece.write_whole.Given as goal

abbrev pub invariant-loop-rest : goal.invariant-loop-rest
invariant-loop-rest g l = record {
  front : List ℕ;
  whole : l.piece ≡ front ++ l.rest;
  taken : Appends (g.K.Sink.contents l.initial.out) (g.K.Sink.contents l.out) front;
  faults : g.K.Sink.faults l.out ≡ g.K.Sink.faults l.initial.out;
  room : g.K.Sink.room l.out ≡ g.K.Sink.room l.initial.out;
  untouched : l.piece ≡ [] → l.out ≡ l.initial.out;
}

abbrev pub decreases-loop-rest : goal.decreases-loop-rest
decreases-loop-rest g l = length l.rest
