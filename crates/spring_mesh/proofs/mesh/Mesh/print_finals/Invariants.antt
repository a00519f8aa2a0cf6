use Rattle.std.proofs.Common.{◌≡◌}
use Rattle.std.specs.List.{flat_map, range_with_len}
use Rattle.cell_store.specs.Values.{values_of}
use Rattle.spring_mesh.specs.Meaning.{final_line}
use Rattle.spring_mesh.proofs.mesh.Mesh.print_finals.Given as goal

-- the nodes so far are printed
abbrev pub invariant-loop-number : goal.invariant-loop-number
invariant-loop-number l = l.text ≡ flat_map (final_line l.self.end (values_of l.store)) (range_with_len 0 l.number)
