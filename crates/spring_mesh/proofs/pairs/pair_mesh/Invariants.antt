use Rattle.std.proofs.Common.{◌≡◌}
use Rattle.spring_mesh.specs.Pairs.{generated_input}
use Rattle.spring_mesh.proofs.pairs.pair_mesh.Given as goal

-- the pairs so far make a mesh
abbrev pub invariant-loop-pair : goal.invariant-loop-pair
invariant-loop-pair l = l.file ≡ generated_input l.pair
