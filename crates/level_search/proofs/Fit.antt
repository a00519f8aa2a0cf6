-- What a search begins with is the application's, and so is what it leaves.
use Rattle.std.specs.Prelude.{◌≡◌, List, [], ◌∷◌, length}
use Rattle.std.specs.List.{AllByRecursion}
use Rattle.hook_app.specs.Hooked.{AreFitCells, FitTogether}
use Rattle.mtx_reader.specs.declared.pattern.Pattern.{Pattern}
use Rattle.level_walk.specs.declared.level.Level.{Level}
use Rattle.level_walk.specs.Levels.{vertex_sets, walking}
use Rattle.level_walk.specs.Walks.{vertex_count}

module _ (pattern : Pattern) where
  each_fit : (levels : List Level) → AllByRecursion (walking pattern).is_fit_value levels
  each_fit [] = tt
  each_fit (level ∷ levels) = (tt, each_fit levels)

  -- as many levels as there are vertices
  pub levels_fit : FitTogether (walking pattern) (vertex_count pattern) (vertex_sets (vertex_count pattern)) 1 → (levels : List Level) → length levels ≡ vertex_count pattern
      → AreFitCells (walking pattern) (vertex_count pattern) (vertex_sets (vertex_count pattern)) 1 levels
  levels_fit together levels count = record { together = together; count = count; fit = each_fit levels }
