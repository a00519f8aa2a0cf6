-- Lists of what is below a number, one further.
use Rattle.std.proofs.Common.{arith, refl, ◌≡◌, ◌∙◌, ℕ, zero, suc, ◌+◌, ◌<◌, ◌≤◌, ◌^◌, Bool, true, false, List, [], ◌∷◌, ◌++◌, Result, Ok, Err, OnOk, length, nat_le, ap, sym}
use Rattle.std.specs.Prelude.{filter, map, if◌then◌else◌}
use Rattle.std.specs.List.{flat_map, range_with_len, AllByRecursion}
use Rattle.std.proofs.lemmas.Bool.{cond_both}
use Rattle.std.proofs.lemmas.Bool.Decides.{nat_tests}
use Rattle.std.proofs.lemmas.List.{length-map, append-nil, append_assoc, map-append}
use Rattle.std.proofs.lemmas.List.FromFn.{length-range_with_len}
use Rattle.std.proofs.lemmas.Grind.{flat_map-append}
use Rattle.plain_laws.specs.Ranges.{filter-range_more, range_more}
use Rattle.plain_laws.specs.Lists.{length-filter_le}
use Rattle.task_order.specs.declared.start.Start.{Start}
use Rattle.spring_mesh.specs.declared.file.MeshFile.{MeshFile}
use Rattle.spring_mesh.specs.declared.file.Spring.{Spring}
use Rattle.cell_store.specs.declared.cell.Cell.{Cell}
use Rattle.cell_store.specs.declared.cell.Cell.TheVariants.{Home}
use Rattle.cell_store.specs.Cells.{cell_at}
use Rattle.cell_store.specs.Values.{AreAllHome, values_of}
use Rattle.cell_store.specs.Laws.{HomesAreValues, HomesByLocation}
use Rattle.app_laws.specs.Applications.{AreFitStarts}
use Rattle.spring_mesh.specs.declared.file.MeshNode.{MeshNode}
use Rattle.spring_mesh.specs.Files.{IsMesh}
use Rattle.spring_mesh.specs.Motion.{brought_to}
use Rattle.spring_mesh.specs.Meaning.{IsFitTask, final_line, first_step, mesh_steps, no_node, node_at, node_line, spring_at, start_tasks, stepping_among}
use Rattle.spring_mesh.specs.Lawful.{in_time}

stepping_among-more : (file : MeshFile) (n : ℕ) (spring : Spring) (b : Bool) → spring ≡ spring_at file n → nat_le spring.h file.end ≡ b
    → stepping_among file (n + 1) ≡ stepping_among file n ++ (if b then n ∷ [] else [])
stepping_among-more file n spring b is e =
    filter-range_more (λ number. nat_le (spring_at file number).h file.end) n b (ap (λ (s : Spring). nat_le s.h file.end) (sym is) ∙ e)

early_is : (h end : ℕ) → h ≤ end → nat_le h end ≡ true
early_is h end early = grind (arith, nat_tests)

late_is : (h end : ℕ) → end < h → nat_le h end ≡ false
late_is h end late = grind (arith, nat_tests)

-- a further spring has a first step
pub first_steps_early : (file : MeshFile) (n : ℕ) (spring : Spring) (step : Start) (starts next : List Start) → spring ≡ spring_at file n → spring.h ≤ file.end
    → step ≡ record { prio = spring.h; body = record { kind = 0; at = n; arg = 0 } } → next ≡ starts ++ step ∷ []
    → starts ≡ map (first_step file) (stepping_among file n) → next ≡ map (first_step file) (stepping_among file (n + 1))
first_steps_early file n spring step starts next is early step-is next-is so_far =
    next-is
    ∙ ap (λ (s : List Start). s ++ step ∷ []) so_far
    ∙ ap (λ (s : Start). map (first_step file) (stepping_among file n) ++ s ∷ []) (step-is ∙ ap (λ (s : Spring). record { prio = s.h; body = record { kind = 0; at = n; arg = 0 } }) is)
    ∙ sym (map-append (first_step file) (stepping_among file n) (n ∷ []))
    ∙ ap (map (first_step file)) (sym (stepping_among-more file n spring true is (early_is spring.h file.end early)))

-- a further spring has none
pub first_steps_late : (file : MeshFile) (n : ℕ) (spring : Spring) (starts : List Start) → spring ≡ spring_at file n → file.end < spring.h
    → starts ≡ map (first_step file) (stepping_among file n) → starts ≡ map (first_step file) (stepping_among file (n + 1))
first_steps_late file n spring starts is late so_far =
    so_far ∙ ap (map (first_step file)) (sym (stepping_among-more file n spring false is (late_is spring.h file.end late) ∙ append-nil (stepping_among file n)))

-- one line more
pub flat_map_more : (f : ℕ → List ℕ) (n : ℕ) → flat_map f (range_with_len 0 (n + 1)) ≡ flat_map f (range_with_len 0 n) ++ f n
flat_map_more f n =
    ap (flat_map f) (range_more n) ∙ flat_map-append f (range_with_len 0 n) (n ∷ []) ∙ ap (λ last. flat_map f (range_with_len 0 n) ++ last) (append-nil (f n))

-- a piece more behind what was written
pub piece_more : (text so_far next front piece : List ℕ) → so_far ≡ text ++ front → next ≡ so_far ++ piece → next ≡ text ++ (front ++ piece)
piece_more text so_far next front piece is more = more ∙ ap (λ t. t ++ piece) is ∙ append_assoc text front piece

pub on_ok : {T E : Type 0} (r : Result T E) (A B : Type 0) → (A → B) → OnOk r A → OnOk r B
on_ok (Ok x) A B tells h = tells h
on_ok (Err e) A B tells h = tt

range_below : (first n bound : ℕ) → first + n ≤ bound → AllByRecursion (λ m. m < bound) (range_with_len first n)
range_below first zero bound within = tt
range_below first (suc n) bound within = (omega (arith, within), range_below (first + 1) n bound (omega (arith, within)))

steps_fit : (file : MeshFile) (numbers : List ℕ) → AllByRecursion (λ m. m < length file.springs) numbers
    → AllByRecursion (λ (start : Start). IsFitTask file start.prio start.body) (map (first_step file) (filter (λ number. nat_le (spring_at file number).h file.end) numbers))
steps_fit file [] below = tt
steps_fit file (number ∷ numbers) below =
    cond_both (nat_le (spring_at file number).h file.end) (number ∷ filter (λ number. nat_le (spring_at file number).h file.end) numbers) (filter (λ number. nat_le (spring_at file number).h file.end) numbers)
    (λ kept. AllByRecursion (λ (start : Start). IsFitTask file start.prio start.body) (map (first_step file) kept))
    (λ early. (record { kind = refl; at_spring = below.0; no_arg = refl; in_time = in_time (spring_at file number).h file.end early }, steps_fit file numbers below.1))
    (λ late. steps_fit file numbers below.1)

-- the first steps are steps of the springs
pub start_tasks-fit : (file : MeshFile) → AreFitStarts (mesh_steps file) (start_tasks file)
start_tasks-fit file = steps_fit file (range_with_len 0 (length file.springs)) (range_below 0 (length file.springs) (length file.springs) (omega arith))

-- and there are few of them
pub start_tasks-few : (file : MeshFile) → IsMesh file → length (start_tasks file) < 2 ^ 32
start_tasks-few file is =
    omega (
      arith,
      length-map (stepping_among file (length file.springs)) (first_step file),
      length-filter_le (λ number. nat_le (spring_at file number).h file.end) (range_with_len 0 (length file.springs)),
      length-range_with_len 0 (length file.springs),
      is.spring_count,
    )

-- the node that is seen at a location
pub seen_node : (store : List (Cell MeshNode)) (number : ℕ) (node : MeshNode) → HomesByLocation MeshNode → HomesAreValues MeshNode → AreAllHome store → number < length (values_of store)
    → Home node ≡ cell_at store number → node ≡ node_at (values_of store) number
seen_node store number node homes-at values all below seen =
    let same : Home node ≡ Home (node_at (values_of store) number) =
    seen ∙ ap (λ cells. cell_at cells number) (sym (values.homes_of_values store all)) ∙ homes-at.in_range (values_of store) number no_node below in
    (cc)

-- as many cells as values
pub as_many_values : (store : List (Cell MeshNode)) → HomesAreValues MeshNode → AreAllHome store → length store ≡ length (values_of store)
as_many_values store values all = ap length (sym (values.homes_of_values store all)) ∙ length-map (values_of store) Home

-- one node more is printed
pub printed_more : (end number counted : ℕ) (values : List MeshNode) (node brought : MeshNode) (text next : List ℕ) → next ≡ text ++ node_line (counted + 1) brought → counted ≡ number
    → brought ≡ brought_to end node → node ≡ node_at values number → text ≡ flat_map (final_line end values) (range_with_len 0 number)
    → next ≡ flat_map (final_line end values) (range_with_len 0 (number + 1))
printed_more end number counted values node brought text next next-is counted-is brought-is node-is so_far =
    next-is
    ∙ ap (λ t. t ++ node_line (counted + 1) brought) so_far
    ∙ ap (λ n. flat_map (final_line end values) (range_with_len 0 number) ++ node_line (n + 1) brought) counted-is
    ∙ ap (λ b. flat_map (final_line end values) (range_with_len 0 number) ++ node_line (number + 1) b) (brought-is ∙ ap (brought_to end) node-is)
    ∙ sym (flat_map_more (final_line end values) number)
