use Rattle.std.proofs.Common.{◌≡◌}
use Rattle.std.specs.Prelude.{map}
use Rattle.spring_mesh.specs.Meaning.{first_step, stepping_among}
use Rattle.spring_mesh.proofs.mesh.first_steps.Given as goal

-- the springs so far have their first steps
abbrev pub invariant-loop-number : goal.invariant-loop-number
invariant-loop-number l = l.starts ≡ map (first_step l.file) (stepping_among l.file l.number)
