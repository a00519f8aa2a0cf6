use Rattle.std.specs.Prelude.{◌≡◌, suc, ◌++◌, drop}
use Rattle.cell_store.specs.Values.{values_of}
use Rattle.level_walk.specs.Levels.{level_texts}
use Rattle.level_walk.proofs.walk.Walk.print_finals.Given as goal

-- the lines so far and those of the other vertices are all lines
abbrev pub invariant-loop-loc : goal.invariant-loop-loc
invariant-loop-loc l = l.text ++ level_texts (suc l.loc) (drop l.loc (values_of l.store)) ≡ level_texts 1 (values_of l.store)
