use Rattle.std.specs.Prelude.{◌≡◌, suc, map, take}
use Rattle.mtx_reader.specs.Places.{Place}
use Rattle.level_walk.specs.Levels.{child_at}
use Rattle.level_walk.specs.Walks.{edges_from}
use Rattle.level_walk.proofs.visits.next_children.Given as goal

-- the edges so far have their visits
abbrev pub invariant-loop-next : goal.invariant-loop-next
invariant-loop-next l = l.children ≡ map (λ (edge : Place). child_at (suc l.level) edge.1) (take l.next-index (edges_from l.walk.pattern l.vertex))
