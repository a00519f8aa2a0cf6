use Rattle.std.proofs.Common.{◌≡◌, ◌∙◌, ap, subst, sym}
use Rattle.cell_store.specs.declared.cell.Cell.TheVariants.{Home}
use Rattle.cell_store.specs.Part.{Part}
use Rattle.cell_store.specs.Cells.{cell_in, with_value}
use Rattle.app_laws.specs.Applications.{IsEffect}
use Rattle.spring_mesh.specs.declared.file.MeshNode.{MeshNode}
use Rattle.spring_mesh.specs.declared.file.MeshFile.{MeshFile}
use Rattle.spring_mesh.specs.declared.file.Spring.{Spring}
use Rattle.spring_mesh.specs.Meaning.{children_of, mesh_steps}
use Rattle.spring_mesh.proofs.Held.{effect_found, first_fits, from_taken, second_fits}
use Rattle.spring_mesh.proofs.mesh.MeshApp.run.Goals as goal

pub stepped-requires-clause-a : goal.stepped-requires-clause-a
stepped-requires-clause-a c =
    let held = from_taken c.location_laws.ensures.parts c.value_laws.ensures.homes c.requires.fit c.requires.cells in
    first_fits held c.value-a.result (subst (λ (s : Spring). cell_in c.args.bundle s.a ≡ Home c.value-a.result) c.spring-spring.ensures c.value-a.ensures)

pub stepped-requires-clause-b : goal.stepped-requires-clause-b
stepped-requires-clause-b c =
    let held = from_taken c.location_laws.ensures.parts c.value_laws.ensures.homes c.requires.fit c.requires.cells in
    second_fits held c.value-b.result (subst (λ (s : Spring). cell_in c.args.bundle s.b ≡ Home c.value-b.result) c.spring-spring.ensures c.value-b.ensures)

pub returns-clause-effect : goal.returns-clause-effect
returns-clause-effect c =
    let mesh = c.args.self.now in
    let spring = c.spring-spring.result.now in
    let written : c.put-2.new.self ≡ with_value (with_value c.args.bundle spring.a c.stepped.result.0) spring.b c.stepped.result.1 =
    c.put-2.ensures ∙ ap (λ (part : Part MeshNode). with_value part spring.b c.stepped.result.1) c.put.ensures in
    subst (λ (part : Part MeshNode). IsEffect (mesh_steps mesh) c.args.task.now c.args.bundle (record { bundle = part; children = c.in-Ok.children; text = c.new.result })) (sym written)
    (effect_found c.args.task.now {bundle = c.args.bundle} c.location_laws.ensures.parts c.value_laws.ensures.homes c.requires.fit spring c.value-a.result c.value-b.result c.stepped.result.0 c.stepped.result.1 c.in-Ok.children c.new.result
    c.spring-spring.ensures c.value-a.ensures c.value-b.ensures c.stepped.ensures.first c.stepped.ensures.second
    (c.in-Ok.ensures ∙ ap (λ (file : MeshFile). children_of file.end c.args.task.now.key.prio c.args.task.now.body spring) c.self.view_is) c.new.ensures)
