use Rattle.std.proofs.Common.{subst, sym}
use Rattle.std.specs.Prelude.{◌≢◌}
use Rattle.spring_mesh.specs.declared.file.Spring.{Spring}
use Rattle.spring_mesh.specs.Lawful.{spring_at-fits}
use Rattle.spring_mesh.proofs.mesh.MeshApp.sets.Goals as goal

pub ends_of-requires : goal.ends_of-requires
ends_of-requires g c =
    subst (λ (s : Spring). s.a ≢ s.b) (sym c.spring-spring.ensures)
    (spring_at-fits c.args.self.now c.args.body.now.at (rw (← c.self.view_is) c.self.invariant) c.requires.fit.1.at_spring).two
