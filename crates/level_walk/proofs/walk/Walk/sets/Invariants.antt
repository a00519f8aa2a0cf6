use Rattle.std.specs.Prelude.{◌≡◌}
use Rattle.level_walk.specs.Levels.{vertex_sets}
use Rattle.level_walk.proofs.walk.Walk.sets.Given as goal

-- the vertices so far have their sets
abbrev pub invariant-loop-loc : goal.invariant-loop-loc
invariant-loop-loc l = l.sets.items ≡ vertex_sets l.loc
