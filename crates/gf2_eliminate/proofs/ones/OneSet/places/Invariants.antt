use Rattle.std.specs.Prelude.{◌≡◌, ◌++◌}
use Rattle.gf2_eliminate.proofs.ones.OneSet.places.Given as goal

abbrev pub invariant-loop-place : goal.invariant-loop-place
invariant-loop-place l = l.places.items ++ l.place-iterator ≡ l.self
