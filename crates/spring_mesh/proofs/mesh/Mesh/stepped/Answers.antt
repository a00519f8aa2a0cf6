use Rattle.std.proofs.Common.{◌∙◌, ap, arith}
use Rattle.spring_mesh.specs.Bounds.{brought_to-fits}
use Rattle.spring_mesh.specs.Files.{IsMass}
use Rattle.spring_mesh.specs.Lawful.{mass_at-fits}
use Rattle.spring_mesh.specs.Meaning.{mass_at}
use Rattle.spring_mesh.specs.Motion.{brought_to, first_after, second_after}
use Rattle.spring_mesh.proofs.Wide.{narrow_mass}
use Rattle.spring_mesh.proofs.mesh.Mesh.stepped.Goals as goal

pub mass-requires : goal.mass-requires
mass-requires c = omega (arith, c.requires.mesh.mass_count, c.requires.spring.a)

pub mass-requires-2 : goal.mass-requires-2
mass-requires-2 c = omega (arith, c.requires.mesh.mass_count, c.requires.spring.b)

pub ends_after-requires-clause-masses : goal.ends_after-requires-clause-masses
ends_after-requires-clause-masses c =
    let one : IsMass c.mass.result = rw c.mass.ensures (mass_at-fits c.args.self.now c.args.spring.now.a c.requires.mesh c.requires.spring.a) in
    let two : IsMass c.mass-2.result = rw c.mass-2.ensures (mass_at-fits c.args.self.now c.args.spring.now.b c.requires.mesh c.requires.spring.b) in
    (rw (narrow_mass c.mass.result one) one, rw (narrow_mass c.mass-2.result two) two)

pub ends_after-requires-clause-a : goal.ends_after-requires-clause-a
ends_after-requires-clause-a c = rw c.brought_to-first.ensures (brought_to-fits c.args.time c.args.a.now c.requires.a c.requires.time)

pub ends_after-requires-clause-b : goal.ends_after-requires-clause-b
ends_after-requires-clause-b c = rw c.brought_to-second.ensures (brought_to-fits c.args.time c.args.b.now c.requires.b c.requires.time)

pub returns-clause-first : goal.returns-clause-first
returns-clause-first c =
    let mesh = c.args.self.now in
    let spring = c.args.spring.now in
    let one : IsMass c.mass.result = rw c.mass.ensures (mass_at-fits mesh spring.a c.requires.mesh c.requires.spring.a) in
    c.ends_after.ensures.first
    ∙ ap (λ m. first_after spring m c.brought_to-first.result c.brought_to-second.result) (narrow_mass c.mass.result one ∙ c.mass.ensures)
    ∙ ap (λ n. first_after spring (mass_at mesh spring.a) n c.brought_to-second.result) c.brought_to-first.ensures
    ∙ ap (λ n. first_after spring (mass_at mesh spring.a) (brought_to c.args.time c.args.a.now) n) c.brought_to-second.ensures

pub returns-clause-second : goal.returns-clause-second
returns-clause-second c =
    let mesh = c.args.self.now in
    let spring = c.args.spring.now in
    let two : IsMass c.mass-2.result = rw c.mass-2.ensures (mass_at-fits mesh spring.b c.requires.mesh c.requires.spring.b) in
    c.ends_after.ensures.second
    ∙ ap (λ m. second_after spring m c.brought_to-first.result c.brought_to-second.result) (narrow_mass c.mass-2.result two ∙ c.mass-2.ensures)
    ∙ ap (λ n. second_after spring (mass_at mesh spring.b) n c.brought_to-second.result) c.brought_to-first.ensures
    ∙ ap (λ n. second_after spring (mass_at mesh spring.b) (brought_to c.args.time c.args.a.now) n) c.brought_to-second.ensures
