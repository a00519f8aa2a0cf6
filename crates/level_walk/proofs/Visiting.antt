-- What a visit leaves, and what the finals print.
use Rattle.std.specs.Prelude.{◌≡◌, ℕ, suc, ◌+◌, ◌-◌, ◌<◌, ◌≤◌, nat_lt, true, false, List, [], ◌∷◌, ◌++◌, length, map, drop, refl}
use Rattle.std.specs.List.{AllByRecursion}
use Rattle.std.proofs.Common.{arith, ap, sym, subst, ◌∙◌, cond, get_or, append_assoc, append-nil, drop-cons}
use Rattle.std.proofs.lemmas.List.{drop_all, get_or-map, length-map}
use Rattle.task_order.specs.declared.start.Start.{Start}
use Rattle.task_order.specs.declared.task.Task.{Task}
use Rattle.rw_sets.specs.Accesses.{Accesses}
use Rattle.cell_store.specs.declared.cell.Cell.{Cell}
use Rattle.cell_store.specs.declared.cell.Cell.TheVariants.{Home, Out}
use Rattle.cell_store.specs.Cells.{cell_at, cell_in, with_value}
use Rattle.cell_store.specs.Home.{IsHome}
use Rattle.cell_store.specs.Part.{Part}
use Rattle.cell_store.specs.Values.{homes, values_of}
use Rattle.app_laws.specs.declared.child.Child.{Child}
use Rattle.app_laws.specs.Names.{start_of_task}
use Rattle.mtx_reader.specs.declared.pattern.Pattern.{Pattern}
use Rattle.mtx_reader.specs.Places.{Place, IsWithin}
use Rattle.hook_app.specs.Hooked.{AreValuesOf, set_at}
use Rattle.hook_app.specs.Kept.{bundle_with, effect_with}
use Rattle.hook_app.specs.OneLocation.{found_is, one_value, own_set, put_is}
use Rattle.level_walk.specs.declared.level.Level.{Level}
use Rattle.level_walk.specs.declared.level.Level.TheVariants.{Unset, At}
use Rattle.level_walk.specs.Levels.{child_at, level_text, level_texts, most_level, next_children, next_visits, vertex_sets, visit_of, visit_text, walking}
use Rattle.level_walk.specs.VisitLaws.{own_at}
use Rattle.level_walk.specs.Walks.{edges_from, vertex_count}

handed_edges : (vertices level : ℕ) (edges : List Place) → AllByRecursion (IsWithin vertices vertices) edges
    → map (λ (next : Start). record { prio = next.prio; body = next.body; set = set_at (vertex_sets vertices) next.body.at }) (map (λ (edge : Place). visit_of level edge.1) edges) ≡ map (λ (edge : Place). child_at level edge.1) edges
handed_edges vertices level [] within = refl
handed_edges vertices level (edge ∷ edges) within =
    let own : set_at (vertex_sets vertices) (edge.1 - 1) ≡ own_set (edge.1 - 1) = own_at vertices (edge.1 - 1) (omega (arith, within.0.column.0, within.0.column.1)) in
    let first : Child = child_at level edge.1 in
    ap (λ set. record { prio = level; body = record { kind = 0; at = edge.1 - 1; arg = 0 }; set = set } ∷ map (λ (next : Start). record { prio = next.prio; body = next.body; set = set_at (vertex_sets vertices) next.body.at }) (map (λ (e : Place). visit_of level e.1) edges)) own
    ∙ ap (λ (children : List Child). first ∷ children) (handed_edges vertices level edges within.1)

-- the visits that follow, each with its set
handed_next : (pattern : Pattern) (vertex level : ℕ) → AllByRecursion (IsWithin (vertex_count pattern) (vertex_count pattern)) (edges_from pattern vertex)
    → map (λ (next : Start). record { prio = next.prio; body = next.body; set = set_at (vertex_sets (vertex_count pattern)) next.body.at }) (next_visits pattern vertex level) ≡ next_children pattern vertex level
handed_next pattern vertex level within =
    elim (nat_lt level most_level) as (λ more. map (λ (next : Start). record { prio = next.prio; body = next.body; set = set_at (vertex_sets (vertex_count pattern)) next.body.at })
    (cond more (map (λ (edge : Place). visit_of (suc level) edge.1) (edges_from pattern vertex)) []) ≡ cond more (map (λ (edge : Place). child_at (suc level) edge.1) (edges_from pattern vertex)) []) [
      | true ↦ handed_edges (vertex_count pattern) (suc level) (edges_from pattern vertex) within
      | false ↦ refl
    ]

module _ (pattern : Pattern) (task : Task) (bundle : Part Level) (values : List Level) (below : task.body.at < vertex_count pattern)
    (are : AreValuesOf (walking pattern) (set_at (vertex_sets (vertex_count pattern)) task.body.at) values) (is : bundle ≡ bundle_with (set_at (vertex_sets (vertex_count pattern)) task.body.at) values) where
  abbrev sets : List Accesses
  sets = vertex_sets (vertex_count pattern)

  one : (level : Level) × (values ≡ level ∷ [])
  one = one_value (walking pattern) sets task.body.at values (own_at (vertex_count pattern) task.body.at below) are

  one_bundle : bundle ≡ bundle_with (set_at sets task.body.at) (one.0 ∷ [])
  one_bundle = is ∙ ap (bundle_with (set_at sets task.body.at)) one.1

  found_one : (found : Level) → cell_in bundle task.body.at ≡ Home found → found ≡ one.0
  found_one found there = found_is sets task.body.at (own_at (vertex_count pattern) task.body.at below) bundle one.0 found one_bundle there

  -- what is left where the vertex had a level
  pub passed_effect : (level : ℕ) (children : List Child) (text : List ℕ) → cell_in bundle task.body.at ≡ Home (At level) → children ≡ [] → text ≡ []
      → record { bundle = bundle; children = children; text = text } ≡ effect_with sets (set_at sets task.body.at) ((walking pattern).deed (start_of_task task) values)
  passed_effect level children text there no_children no_text =
      let had : values ≡ At level ∷ [] = one.1 ∙ ap (λ (l : Level). l ∷ []) (sym (found_one (At level) there)) in
      let same : bundle ≡ bundle_with (set_at sets task.body.at) (At level ∷ []) = is ∙ ap (bundle_with (set_at sets task.body.at)) had in
      let effect : record { bundle = bundle; children = children; text = text } ≡ effect_with sets (set_at sets task.body.at) ((walking pattern).deed (start_of_task task) (At level ∷ [])) =
      λ i. record { bundle = same i; children = no_children i; text = no_text i } in
      effect ∙ ap (λ (vs : List Level). effect_with sets (set_at sets task.body.at) ((walking pattern).deed (start_of_task task) vs)) (sym had)

  -- and where it had none
  pub set_effect : (put : Part Level) (children : List Child) (text : List ℕ) → cell_in bundle task.body.at ≡ Home Unset → put ≡ with_value bundle task.body.at (At task.key.prio)
      → AllByRecursion (IsWithin (vertex_count pattern) (vertex_count pattern)) (edges_from pattern (suc task.body.at))
      → children ≡ next_children pattern (suc task.body.at) task.key.prio → text ≡ visit_text (suc task.body.at) task.key.prio
      → record { bundle = put; children = children; text = text } ≡ effect_with sets (set_at sets task.body.at) ((walking pattern).deed (start_of_task task) values)
  set_effect put children text there puts within follow says =
      let had : values ≡ Unset ∷ [] = one.1 ∙ ap (λ (l : Level). l ∷ []) (sym (found_one Unset there)) in
      let same : put ≡ bundle_with (set_at sets task.body.at) (At task.key.prio ∷ []) =
      put_is sets task.body.at (own_at (vertex_count pattern) task.body.at below) bundle put one.0 (At task.key.prio) one_bundle puts in
      let all_handed = follow ∙ sym (handed_next pattern (suc task.body.at) task.key.prio within) in
      let effect : record { bundle = put; children = children; text = text } ≡ effect_with sets (set_at sets task.body.at) ((walking pattern).deed (start_of_task task) (Unset ∷ [])) =
      λ i. record { bundle = same i; children = all_handed i; text = says i } in
      effect ∙ ap (λ (vs : List Level). effect_with sets (set_at sets task.body.at) ((walking pattern).deed (start_of_task task) vs)) (sym had)

-- ---- printing

-- a cell that is home has its value
home_at : (cells : List (Cell Level)) (loc : ℕ) → cells ≡ homes (values_of cells) → loc < length (values_of cells) → cell_at cells loc ≡ Home (get_or (values_of cells) loc Unset)
home_at cells loc home below = ap (λ (cs : List (Cell Level)). cell_at cs loc) home ∙ get_or-map Home (values_of cells) loc Unset Out below

as_many : (cells : List (Cell Level)) → cells ≡ homes (values_of cells) → length cells ≡ length (values_of cells)
as_many cells home = ap length home ∙ length-map (values_of cells) Home

pub is_home : (cells : List (Cell Level)) (loc : ℕ) → cells ≡ homes (values_of cells) → loc < length cells → IsHome (cell_at cells loc)
is_home cells loc home below = subst IsHome (sym (home_at cells loc home (let e = as_many cells home in omega (arith, below, e)))) tt

-- a line more
pub line_more : (cells : List (Cell Level)) (loc : ℕ) (before after whole : List ℕ) (level : Level) → cells ≡ homes (values_of cells) → loc < length cells
    → before ++ level_texts (suc loc) (drop loc (values_of cells)) ≡ whole → cell_at cells loc ≡ Home level → after ≡ before ++ level_text (loc + 1) level
    → after ++ level_texts (suc (loc + 1)) (drop (loc + 1) (values_of cells)) ≡ whole
line_more cells loc before after whole level home below so-far is more =
    let values = values_of cells in
    let within : loc < length values = let e = as_many cells home in omega (arith, below, e) in
    let same-cell : Home level ≡ Home (get_or values loc Unset) = sym is ∙ home_at cells loc home within in
    let same : level ≡ get_or values loc Unset = cc in
    let next : loc + 1 ≡ suc loc = omega arith in
    let text-next : after ≡ before ++ level_text (suc loc) (get_or values loc Unset) = more ∙ (λ i. before ++ level_text (next i) (same i)) in
    ap (λ (n : ℕ). after ++ level_texts (suc n) (drop n values)) next
    ∙ ap (λ (text : List ℕ). text ++ level_texts (suc (suc loc)) (drop (suc loc) values)) text-next
    ∙ append_assoc before (level_text (suc loc) (get_or values loc Unset)) (level_texts (suc (suc loc)) (drop (suc loc) values))
    ∙ ap (λ (levels : List Level). before ++ level_texts (suc loc) levels) (sym (drop-cons values loc Unset within))
    ∙ so-far

-- no line is left
pub all_lines : (cells : List (Cell Level)) (loc : ℕ) (text : List ℕ) → cells ≡ homes (values_of cells) → length cells ≤ loc
    → text ++ level_texts (suc loc) (drop loc (values_of cells)) ≡ level_texts 1 (values_of cells) → text ≡ level_texts 1 (values_of cells)
all_lines cells loc text home past so-far =
    let none : drop loc (values_of cells) ≡ [] = drop_all loc (values_of cells) (let e = as_many cells home in omega (arith, past, e)) in
    sym (append-nil text) ∙ ap (λ (levels : List Level). text ++ level_texts (suc loc) levels) (sym none) ∙ so-far
