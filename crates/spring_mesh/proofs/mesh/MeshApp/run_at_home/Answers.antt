use Rattle.std.proofs.Common.{◌∙◌, ap, subst}
use Rattle.std.specs.Prelude.{◌≡◌, List, slice_set}
use Rattle.cell_store.specs.declared.cell.Cell.{Cell}
use Rattle.cell_store.specs.declared.cell.Cell.TheVariants.{Home}
use Rattle.cell_store.specs.Cells.{cell_at}
use Rattle.spring_mesh.specs.declared.file.MeshNode.{MeshNode}
use Rattle.spring_mesh.specs.declared.file.MeshFile.{MeshFile}
use Rattle.spring_mesh.specs.declared.file.Spring.{Spring}
use Rattle.spring_mesh.specs.Meaning.{children_of}
use Rattle.spring_mesh.proofs.AtHome.{first_fits_at_home, second_fits_at_home, step_done}
use Rattle.spring_mesh.proofs.mesh.MeshApp.run_at_home.Goals as goal

pub stepped-requires-clause-a : goal.stepped-requires-clause-a
stepped-requires-clause-a c =
    first_fits_at_home c.location_laws.ensures.parts c.value_laws.ensures.homes c.requires.fit c.requires.ready.1 c.value-a.result.now
    (subst (λ (s : Spring). cell_at c.args.store.now s.a ≡ Home c.value-a.result.now) c.spring-spring.ensures c.value-a.ensures)

pub stepped-requires-clause-b : goal.stepped-requires-clause-b
stepped-requires-clause-b c =
    second_fits_at_home c.location_laws.ensures.parts c.value_laws.ensures.homes c.requires.fit c.requires.ready.1 c.value-b.result.now
    (subst (λ (s : Spring). cell_at c.args.store.now s.b ≡ Home c.value-b.result.now) c.spring-spring.ensures c.value-b.ensures)

pub returns-clause-done : goal.returns-clause-done
returns-clause-done c = λ set ready.
    let spring = c.spring-spring.result.now in
    step_done c.args.task.now set c.args.store.now
    (record { parts = c.location_laws.ensures.parts; values = c.value_laws.ensures.homes; writes = c.location_laws.ensures.writes; at_home = c.home_laws.ensures })
    c.requires.fit ready spring c.value-a.result.now c.value-b.result.now c.stepped.result.0 c.stepped.result.1 c.in_ok-children.children c.new.result c.put-2.new.self
    c.spring-spring.ensures c.value-a.ensures c.value-b.ensures c.stepped.ensures.first c.stepped.ensures.second
    (c.in_ok-children.ensures ∙ ap (λ (file : MeshFile). children_of file.end c.args.task.now.key.prio c.args.task.now.body spring) c.self.view_is) c.new.ensures
    (c.put-2.ensures ∙ ap (λ (cells : List (Cell MeshNode)). slice_set cells spring.b (Home c.stepped.result.1)) c.put.ensures)
