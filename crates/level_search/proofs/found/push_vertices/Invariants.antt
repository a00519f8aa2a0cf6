use Rattle.std.specs.Prelude.{◌≡◌, ◌++◌, map, take}
use Rattle.mtx_reader.specs.Places.{Place}
use Rattle.level_walk.specs.Walks.{edges_from}
use Rattle.level_search.proofs.found.push_vertices.Given as goal

-- the edges so far have their vertices there
abbrev pub invariant-loop-after : goal.invariant-loop-after
invariant-loop-after l = l.next.items ≡ l.fn.next.items ++ map (λ (edge : Place). edge.1) (take l.after-index (edges_from l.walk.pattern l.vertex))
