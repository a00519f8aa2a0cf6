-- What a step finds in its bundle, and what it leaves there.
use Rattle.std.proofs.Common.{◌≡◌, ◌<◌, ◌≤◌, ◌+◌, ℕ, Bool, true, false, List, [], ◌∷◌, map, length, IsSome, IsTrue, arith, refl, sym, ap, ◌∙◌, subst, length-set, nat_le}
use Rattle.std.specs.Prelude.{if◌then◌else◌, slice_set}
use Rattle.task_order.specs.declared.task.Body.{Body}
use Rattle.task_order.specs.declared.task.Task.{Task}
use Rattle.rw_sets.specs.Accesses.{access_at, writes}
use Rattle.cell_store.specs.declared.cell.Cell.TheVariants.{Home}
use Rattle.cell_store.specs.Part.{Part}
use Rattle.cell_store.specs.Cells.{cell_in, part_of, with_value}
use Rattle.cell_store.specs.Values.{homes}
use Rattle.cell_store.specs.Laws.{PartsByLocation, HomesByLocation}
use Rattle.app_laws.specs.declared.app.Effect.{Effect}
use Rattle.app_laws.specs.declared.child.Child.{Child}
use Rattle.app_laws.specs.Applications.{handed, IsTaken, IsEffect}
use Rattle.spring_mesh.specs.declared.file.MeshFile.{MeshFile}
use Rattle.spring_mesh.specs.declared.file.MeshNode.{MeshNode}
use Rattle.spring_mesh.specs.declared.file.Spring.{Spring}
use Rattle.spring_mesh.specs.LineForms.{latest}
use Rattle.spring_mesh.specs.Files.{IsNode, IsSpring}
use Rattle.spring_mesh.specs.Meaning.{IsFitCells, IsFitTask, children_of, ends_of, first_from, first_stepped, mesh_steps, next_steps, no_node, node_at, second_from, second_stepped, spring_at, with_ends}
use Rattle.spring_mesh.specs.Ends.{ends_of-ascending, first-named, first-written, second-named, second-written}
use Rattle.spring_mesh.specs.Lawful.{node_at-fits, spring_at-fits}

-- the bundle of a step, taken of these cells
pub record IsHeld (mesh : MeshFile) (task : Task) (bundle : Part MeshNode) (cells : List MeshNode) : Type 0 where
  pub parts : PartsByLocation MeshNode
  pub values : HomesByLocation MeshNode
  pub step : IsFitTask mesh task.key.prio task.body
  pub fit : IsFitCells mesh cells
  pub is : bundle ≡ part_of (homes cells) (ends_of (spring_at mesh task.body.at))

pub from_taken : {mesh : MeshFile} {task : Task} {bundle : Part MeshNode} → PartsByLocation MeshNode → HomesByLocation MeshNode → IsFitTask mesh task.key.prio task.body
    → (taken : IsTaken (mesh_steps mesh) task bundle) → IsHeld mesh task bundle taken.cells
from_taken parts values step taken = record { parts = parts; values = values; step = step; fit = taken.fit; is = taken.is }

module _ {mesh : MeshFile} {task : Task} {bundle : Part MeshNode} {cells : List MeshNode} (held : IsHeld mesh task bundle cells) where
  pub spring_fits : IsSpring (length mesh.nodes) (spring_at mesh task.body.at)
  spring_fits = spring_at-fits mesh task.body.at held.fit.file held.step.at_spring

  pub in_time : task.key.prio ≤ latest
  in_time = omega (arith, held.step.in_time, held.fit.file.end)

  pub first-in_bundle : IsTrue (writes bundle.set (spring_at mesh task.body.at).a)
  first-in_bundle = subst (λ (part : Part MeshNode). IsTrue (writes part.set (spring_at mesh task.body.at).a)) (sym held.is) (first-written (spring_at mesh task.body.at))

  pub second-in_bundle : IsTrue (writes bundle.set (spring_at mesh task.body.at).b)
  second-in_bundle = subst (λ (part : Part MeshNode). IsTrue (writes part.set (spring_at mesh task.body.at).b)) (sym held.is) (second-written (spring_at mesh task.body.at))

  pub first-named_in_bundle : IsSome (access_at bundle.set (spring_at mesh task.body.at).a)
  first-named_in_bundle = subst (λ (part : Part MeshNode). IsSome (access_at part.set (spring_at mesh task.body.at).a)) (sym held.is) (first-named (spring_at mesh task.body.at))

  pub second-named_in_bundle : IsSome (access_at bundle.set (spring_at mesh task.body.at).b)
  second-named_in_bundle = subst (λ (part : Part MeshNode). IsSome (access_at part.set (spring_at mesh task.body.at).b)) (sym held.is) (second-named (spring_at mesh task.body.at))

  node_found : (loc : ℕ) (node : MeshNode) → loc < length mesh.nodes → IsSome (access_at (ends_of (spring_at mesh task.body.at)) loc) → cell_in bundle loc ≡ Home node → node ≡ node_at cells loc
  node_found loc node below named found =
      let same : Home node ≡ Home (node_at cells loc) =
      sym found ∙ ap (λ part. cell_in part loc) held.is ∙ held.parts.each (homes cells) (ends_of (spring_at mesh task.body.at)) loc named ∙ held.values.in_range cells loc no_node (omega (arith, held.fit.count, below)) in
      (cc)

  pub first_found : (node : MeshNode) → cell_in bundle (spring_at mesh task.body.at).a ≡ Home node → node ≡ node_at cells (spring_at mesh task.body.at).a
  first_found node found = node_found (spring_at mesh task.body.at).a node spring_fits.a (first-named (spring_at mesh task.body.at)) found

  pub second_found : (node : MeshNode) → cell_in bundle (spring_at mesh task.body.at).b ≡ Home node → node ≡ node_at cells (spring_at mesh task.body.at).b
  second_found node found = node_found (spring_at mesh task.body.at).b node spring_fits.b (second-named (spring_at mesh task.body.at)) found

  pub first_fits : (node : MeshNode) → cell_in bundle (spring_at mesh task.body.at).a ≡ Home node → IsNode node
  first_fits node found = rw (first_found node found) (node_at-fits mesh cells (spring_at mesh task.body.at).a held.fit.nodes (omega (arith, held.fit.count, spring_fits.a)))

  pub second_fits : (node : MeshNode) → cell_in bundle (spring_at mesh task.body.at).b ≡ Home node → IsNode node
  second_fits node found = rw (second_found node found) (node_at-fits mesh cells (spring_at mesh task.body.at).b held.fit.nodes (omega (arith, held.fit.count, spring_fits.b)))

  -- what is written to the bundle makes it that of the new cells
  rewritten_bundle : (first second : MeshNode)
      → with_value (with_value bundle (spring_at mesh task.body.at).a first) (spring_at mesh task.body.at).b second
      ≡ part_of (homes (with_ends (spring_at mesh task.body.at) first second cells)) (ends_of (spring_at mesh task.body.at))
  rewritten_bundle first second =
      let spring = spring_at mesh task.body.at in
      let up = ends_of-ascending spring in
      ap (λ part. with_value (with_value part spring.a first) spring.b second) held.is
      ∙ ap (λ part. with_value part spring.b second) (held.values.written cells (ends_of spring) spring.a first up (omega (arith, held.fit.count, spring_fits.a)))
      ∙ held.values.written (slice_set cells spring.a first) (ends_of spring) spring.b second up (omega (arith, held.fit.count, length-set cells spring.a first, spring_fits.b))

-- the next step has its spring's set
children_handed : (mesh : MeshFile) (time : ℕ) (body : Body) (cells : List MeshNode)
    → children_of mesh.end time body (spring_at mesh body.at) ≡ map (handed (mesh_steps mesh) cells) (next_steps mesh.end time body (spring_at mesh body.at))
children_handed mesh time body cells = by_test (nat_le (time + (spring_at mesh body.at).h) mesh.end)
  where
    by_test : (early : Bool)
        → (if early then record { prio = time + (spring_at mesh body.at).h; body = body; set = ends_of (spring_at mesh body.at) } ∷ [] else [])
        ≡ map (handed (mesh_steps mesh) cells) (if early then record { prio = time + (spring_at mesh body.at).h; body = body } ∷ [] else [])
    by_test true = refl
    by_test false = refl

same_effects : {one two : Part MeshNode} {made others : List Child} {line more : List ℕ} → one ≡ two → made ≡ others → line ≡ more
    → ◌≡◌ {A = Effect MeshNode} (record { bundle = one; children = made; text = line }) (record { bundle = two; children = others; text = more })
same_effects e f g = cc

-- what a step leaves is the operator's effect, whatever the other cells hold
pub effect_found : {mesh : MeshFile} (task : Task) {bundle : Part MeshNode} → PartsByLocation MeshNode → HomesByLocation MeshNode → IsFitTask mesh task.key.prio task.body
    → (spring : Spring) (first second new-first new-second : MeshNode) (children : List Child) (text : List ℕ) → spring ≡ spring_at mesh task.body.at
    → cell_in bundle spring.a ≡ Home first → cell_in bundle spring.b ≡ Home second
    → new-first ≡ first_from mesh task.key.prio spring first second → new-second ≡ second_from mesh task.key.prio spring first second
    → children ≡ children_of mesh.end task.key.prio task.body spring → text ≡ []
    → IsEffect (mesh_steps mesh) task bundle (record { bundle = with_value (with_value bundle spring.a new-first) spring.b new-second; children = children; text = text })
effect_found {mesh} task {bundle} parts values step spring first second new-first new-second children text spring-is first-is second-is new-first-is new-second-is children-is text-is cells fit is =
    let held : IsHeld mesh task bundle cells = record { parts = parts; values = values; step = step; fit = fit; is = is } in
    let time = task.key.prio in
    let s = spring_at mesh task.body.at in
    let a : first ≡ node_at cells s.a = first_found held first (subst (λ (p : Spring). cell_in bundle p.a ≡ Home first) spring-is first-is) in
    let b : second ≡ node_at cells s.b = second_found held second (subst (λ (p : Spring). cell_in bundle p.b ≡ Home second) spring-is second-is) in
    let one : new-first ≡ first_stepped mesh time s cells =
    new-first-is ∙ ap (λ (p : Spring). first_from mesh time p first second) spring-is ∙ ap (λ n. first_from mesh time s n second) a ∙ ap (λ n. first_from mesh time s (node_at cells s.a) n) b in
    let two : new-second ≡ second_stepped mesh time s cells =
    new-second-is ∙ ap (λ (p : Spring). second_from mesh time p first second) spring-is ∙ ap (λ n. second_from mesh time s n second) a ∙ ap (λ n. second_from mesh time s (node_at cells s.a) n) b in
    same_effects
    (ap (λ (p : Spring). with_value (with_value bundle p.a new-first) p.b new-second) spring-is
    ∙ ap (λ n. with_value (with_value bundle s.a n) s.b new-second) one ∙ ap (λ n. with_value (with_value bundle s.a (first_stepped mesh time s cells)) s.b n) two
    ∙ rewritten_bundle held (first_stepped mesh time s cells) (second_stepped mesh time s cells))
    (children-is ∙ ap (λ (p : Spring). children_of mesh.end time task.body p) spring-is ∙ children_handed mesh time task.body (with_ends s (first_stepped mesh time s cells) (second_stepped mesh time s cells) cells))
    text-is
