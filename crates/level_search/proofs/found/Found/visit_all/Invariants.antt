use Rattle.std.specs.Prelude.{◌≡◌, length, drop}
use Rattle.level_walk.specs.Walks.{vertex_count}
use Rattle.level_search.specs.Turns.{visited}
use Rattle.level_search.proofs.found.Found.visit_all.Given as goal

-- the visits so far, and then the others, are all visits
abbrev pub invariant-loop-vertex : goal.invariant-loop-vertex
invariant-loop-vertex l = record {
  whole : visited l.walk.pattern l.level l.self (drop l.vertex-index l.vertices) ≡ visited l.walk.pattern l.level l.fn.self l.vertices;
  one_each : length l.self.levels ≡ vertex_count l.walk.pattern;
}
