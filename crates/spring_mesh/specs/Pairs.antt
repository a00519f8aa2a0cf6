-- A mesh that is made from a number, that of its pairs of nodes, each of which has a spring of its own.
use Rattle.std.specs.Prelude.{ℕ, ◌+◌, ◌*◌, List, [], ◌∷◌, ◌++◌, map, replicate, ℤ, pos}
use Rattle.std.specs.List.{flat_map, range_with_len}
use Rattle.spring_mesh.specs.declared.file.MeshFile.{MeshFile}
use Rattle.spring_mesh.specs.declared.file.MeshNode.{MeshNode}
use Rattle.spring_mesh.specs.declared.file.Spring.{Spring}

abbrev pub most_pairs : ℕ
most_pairs = 2048

-- a node that doesn't move
abbrev pub resting_at : ℕ → ℕ → MeshNode
resting_at x y = record { x = pos x; y = pos y; vx = pos 0; vy = pos 0; time = 0 }

-- the two nodes of a pair, counted from 0
abbrev pub pair_nodes : ℕ → List MeshNode
pair_nodes pair = resting_at 0 (50 * pair) ∷ resting_at 30 (50 * pair) ∷ []

abbrev pub pair_mass : ℤ
pair_mass = pos 100

-- the spring between the nodes of a pair, which are 10 units of length further apart than at rest
abbrev pub pair_spring : ℕ → Spring
pair_spring pair = record { a = 2 * pair; b = 2 * pair + 1; k = pos 10; rx = pos 20; ry = pos 0; h = 2 }

-- no spring touches another pair's nodes, and each moves them twice
abbrev pub generated_input : ℕ → MeshFile
generated_input n = record {
  nodes = flat_map pair_nodes (range_with_len 0 n);
  masses = replicate (2 * n) pair_mass;
  springs = map pair_spring (range_with_len 0 n);
  end = 4;
}

-- a mesh with one pair more at its end
abbrev pub with_pair : MeshFile → ℕ → MeshFile
with_pair file pair = record file {
  nodes = file.nodes ++ pair_nodes pair;
  masses = file.masses ++ pair_mass ∷ pair_mass ∷ [];
  springs = file.springs ++ pair_spring pair ∷ [];
}
