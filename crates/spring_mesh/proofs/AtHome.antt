-- A step on cells that are home finds its ends there, and leaves them as where its bundle is taken, and is given back as the step leaves it.
use Rattle.std.proofs.Common.{◌≡◌, ◌∙◌, ℕ, List, [], ap, sym, subst}
use Rattle.std.specs.Prelude.{IsSome, IsTrue, slice_set}
use Rattle.task_order.specs.declared.task.Task.{Task}
use Rattle.rw_sets.specs.Accesses.{Accesses, IsAscending, access_at, writes}
use Rattle.cell_store.specs.declared.cell.Cell.{Cell}
use Rattle.cell_store.specs.declared.cell.Cell.TheVariants.{Home}
use Rattle.cell_store.specs.Part.{Part}
use Rattle.cell_store.specs.Cells.{cell_at, cells_taken, part_of, with_value}
use Rattle.cell_store.specs.Laws.{HomesByLocation, PartsByLocation, WritesAtHome, WritesByLocation}
use Rattle.app_laws.specs.declared.child.Child.{Child}
use Rattle.app_laws.specs.Applications.{IsDoneAtHome, IsReady}
use Rattle.spring_mesh.specs.declared.file.MeshFile.{MeshFile}
use Rattle.spring_mesh.specs.declared.file.MeshNode.{MeshNode}
use Rattle.spring_mesh.specs.declared.file.Spring.{Spring}
use Rattle.spring_mesh.specs.Ends.{ends_of-ascending}
use Rattle.spring_mesh.specs.Files.{IsNode}
use Rattle.spring_mesh.specs.Meaning.{IsFitTask, children_of, ends_of, first_from, mesh_steps, second_from, spring_at}
use Rattle.spring_mesh.proofs.Held.{IsHeld, effect_found, first-in_bundle, first-named_in_bundle, first_fits, from_taken, second-in_bundle, second-named_in_bundle, second_fits}

-- the laws of bundles and of cells that are home
pub record HomeLaws : Type 0 where
  pub parts : PartsByLocation MeshNode
  pub values : HomesByLocation MeshNode
  pub writes : WritesByLocation MeshNode
  pub at_home : WritesAtHome MeshNode

-- a step that is ready has its spring's ends in its set, and finds nodes there
module _ {mesh : MeshFile} {task : Task} {set : Accesses} {old : List (Cell MeshNode)} (parts : PartsByLocation MeshNode) (values : HomesByLocation MeshNode)
    (step : IsFitTask mesh task.key.prio task.body) (ready : IsReady (mesh_steps mesh) task old set) where
  -- whatever set it is ready on, it is the declared one
  pub is_declared : set ≡ ends_of (spring_at mesh task.body.at)
  is_declared = ap (λ (part : Part MeshNode). part.set) ready.taken.is

  abbrev pub held : IsHeld mesh task (part_of old set) ready.taken.cells
  held = from_taken parts values step ready.taken

  pub first_fits_at_home : (node : MeshNode) → cell_at old (spring_at mesh task.body.at).a ≡ Home node → IsNode node
  first_fits_at_home node found = first_fits held node (parts.each old set (spring_at mesh task.body.at).a (first-named_in_bundle held) ∙ found)

  pub second_fits_at_home : (node : MeshNode) → cell_at old (spring_at mesh task.body.at).b ≡ Home node → IsNode node
  second_fits_at_home node found = second_fits held node (parts.each old set (spring_at mesh task.body.at).b (second-named_in_bundle held) ∙ found)

pub step_done : {mesh : MeshFile} (task : Task) (set : Accesses) (old : List (Cell MeshNode)) → HomeLaws → IsFitTask mesh task.key.prio task.body
    → IsReady (mesh_steps mesh) task old set
    → (spring : Spring) (first second new-first new-second : MeshNode) (children : List Child) (text : List ℕ) (new : List (Cell MeshNode)) → spring ≡ spring_at mesh task.body.at
    → cell_at old spring.a ≡ Home first → cell_at old spring.b ≡ Home second
    → new-first ≡ first_from mesh task.key.prio spring first second → new-second ≡ second_from mesh task.key.prio spring first second
    → children ≡ children_of mesh.end task.key.prio task.body spring → text ≡ [] → new ≡ slice_set (slice_set old spring.a (Home new-first)) spring.b (Home new-second)
    → IsDoneAtHome (mesh_steps mesh) task set old children text new
step_done {mesh} task set old laws step ready spring first second new-first new-second children text new spring-is first-is second-is new-first-is new-second-is children-is text-is new-is =
    let mine = held laws.parts laws.values step ready in
    let ascending : IsAscending set = subst IsAscending (sym (is_declared laws.parts laws.values step ready)) (ends_of-ascending (spring_at mesh task.body.at)) in
    let a-named : IsSome (access_at set spring.a) = subst (λ (s : Spring). IsSome (access_at set s.a)) (sym spring-is) (first-named_in_bundle mine) in
    let b-named : IsSome (access_at set spring.b) = subst (λ (s : Spring). IsSome (access_at set s.b)) (sym spring-is) (second-named_in_bundle mine) in
    let a-written : IsTrue (writes set spring.a) = subst (λ (s : Spring). IsTrue (writes set s.a)) (sym spring-is) (first-in_bundle mine) in
    let b-written : IsTrue (writes set spring.b) = subst (λ (s : Spring). IsTrue (writes set s.b)) (sym spring-is) (second-in_bundle mine) in
    let bundle : Part MeshNode = part_of old set in
    record {
      bundle = with_value (with_value bundle spring.a new-first) spring.b new-second;
      effect = effect_found task {bundle = bundle} laws.parts laws.values step spring first second new-first new-second children text spring-is
          (laws.parts.each old set spring.a a-named ∙ first-is) (laws.parts.each old set spring.b b-named ∙ second-is) new-first-is new-second-is children-is text-is;
      given = new-is
          ∙ ap (λ (cells : List (Cell MeshNode)). slice_set cells spring.b (Home new-second)) (laws.at_home.taken_and_given old set spring.a new-first ascending ready.home a-written)
          ∙ laws.at_home.given (cells_taken old set) (with_value bundle spring.a new-first) spring.b new-second
          (laws.writes.is_bundle bundle spring.a new-first (laws.parts.is_bundle old set ascending ready.home) a-named).is_part b-written;
    }
