use Rattle.std.specs.Prelude.{take}
use Rattle.level_search.specs.Counts.{IsMost}
use Rattle.level_search.proofs.Times.{AreCounts}
use Rattle.level_search.proofs.counting.most_to_one.Given as goal

-- the vertices so far are counted
abbrev pub invariant-loop-vertex : goal.invariant-loop-vertex
invariant-loop-vertex l = record {
  counted : AreCounts l.count l.visits.items (take l.vertex-index l.vertices);
  most : IsMost (take l.vertex-index l.vertices) l.most;
}
