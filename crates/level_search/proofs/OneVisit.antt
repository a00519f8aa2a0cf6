-- What one visit does as a task, and its children.
use Rattle.std.specs.Prelude.{◌≡◌, ℕ, zero, suc, ◌-◌, ◌<◌, ◌≤◌, ◌==◌, nat_lt, if◌then◌else◌, Bool, true, false, List, [], ◌∷◌, ◌++◌, length, map, Some, slice_get, slice_set, refl}
use Rattle.std.specs.List.{AllByRecursion}
use Rattle.std.specs.declared.cmp.Ordering.TheVariants.{Less}
use Rattle.std.proofs.Common.{arith, ap, sym, subst, ◌∙◌}
use Rattle.std.proofs.lemmas.Bool.{cond-true, cond-false, cond_both}
use Rattle.std.proofs.lemmas.Bool.Decides.{nat_tests}
use Rattle.std.proofs.lemmas.List.{append-nil}
use Rattle.task_order.specs.declared.key.Key.{Key}
use Rattle.task_order.specs.declared.start.Start.{Start}
use Rattle.task_order.specs.declared.task.Task.{Task}
use Rattle.task_order.specs.Key.{child_key, key_cmp}
use Rattle.task_order.specs.TaskList.{IsAscending}
use Rattle.app_laws.specs.Execution.{Outcome, children_from}
use Rattle.app_laws.specs.Names.{start_of_task}
use Rattle.mtx_reader.specs.declared.pattern.Pattern.{Pattern}
use Rattle.mtx_reader.specs.Ascending.{IsIn, all_from_in, all_in, from_filter, from_map}
use Rattle.mtx_reader.specs.Patterns.{IsPattern}
use Rattle.mtx_reader.specs.Places.{Place, IsWithin}
use Rattle.hook_app.specs.Hooked.{set_at}
use Rattle.hook_app.specs.Values.{values_at}
use Rattle.hook_app.specs.ValueLaws.{found, length-put_values}
use Rattle.level_walk.specs.declared.level.Level.{Level}
use Rattle.level_walk.specs.declared.level.Level.TheVariants.{Unset, At}
use Rattle.level_walk.specs.Levels.{IsVisit, most_level, next_visits, vertex_sets, visit_deed, visit_of, visit_text}
use Rattle.level_walk.specs.VisitLaws.{act_is, set_again, visit_at}
use Rattle.level_walk.specs.Walks.{edges_from, vertex_count}
use Rattle.level_search.specs.Basis.{Basis}
use Rattle.level_search.specs.Turns.{Left, after_visit, is_unset, next_vertices}
use Rattle.level_search.proofs.Acting.{IsVisitAt, act, vertices_of}

-- ---- the children of one task

module _ (key : Key) where
  -- what each child has by its start
  pub all_children : (P : Task → Type 0) (Q : Start → Type 0) → ((number : ℕ) (start : Start) → Q start → P (record { key = child_key key number start.prio; body = start.body }))
      → (number : ℕ) (starts : List Start) → AllByRecursion Q starts → AllByRecursion P (children_from key number starts)
  all_children P Q made number [] all = tt
  all_children P Q made number (start ∷ starts) all = (made number start all.0, all_children P Q made (suc number) starts all.1)

  -- the vertices that they visit
  pub visited_by_children : (number : ℕ) (starts : List Start) → vertices_of (children_from key number starts) ≡ map (λ start. suc start.body.at) starts
  visited_by_children number [] = refl
  visited_by_children number (start ∷ starts) = ap (λ (vertices : List ℕ). suc start.body.at ∷ vertices) (visited_by_children (suc number) starts)

  module _ (basis : Basis) (prio : ℕ) where
    -- a child is earlier than those behind it
    earlier_child : (first number : ℕ) (starts : List Start) → first < number → AllByRecursion (λ start. start.prio ≡ prio) starts
        → AllByRecursion (λ other. key_cmp (child_key key first prio) other.key ≡ Less) (children_from key number starts)
    earlier_child first number [] below same = tt
    earlier_child first number (start ∷ starts) below same = (
      subst (λ (p : ℕ). key_cmp (child_key key first prio) (child_key key number p) ≡ Less) (sym same.0) (basis.in_turn key first number prio below),
      earlier_child first (suc number) starts (omega (arith, below)) same.1,
    )

    -- at one priority they are in ascending order
    pub children_ascend : (number : ℕ) (starts : List Start) → AllByRecursion (λ start. start.prio ≡ prio) starts → IsAscending (children_from key number starts)
    children_ascend number [] same = tt
    children_ascend number (start ∷ starts) same = (
      subst (λ (p : ℕ). AllByRecursion (λ other. key_cmp (child_key key number p) other.key ≡ Less) (children_from key (suc number) starts)) (sym same.0)
          (earlier_child number (suc number) starts (omega arith) same.1),
      children_ascend (suc number) starts same.1,
    )

-- a visit that follows at the next level
pub record IsNext (pattern : Pattern) (level : ℕ) (start : Start) : Type 0 where
  pub visit : IsVisit (vertex_count pattern) start.prio start.body
  pub prio : start.prio ≡ suc level

-- each is at the next priority
pub prios_are : (pattern : Pattern) (level : ℕ) (starts : List Start) → AllByRecursion (IsNext pattern level) starts → AllByRecursion (λ start. start.prio ≡ suc level) starts
prios_are pattern level [] all = tt
prios_are pattern level (start ∷ starts) all = (all.0.prio, prios_are pattern level starts all.1)

-- ---- what one visit does

-- whether a vertex has no level, as it is found
unset_is : (cells : List Level) (loc : ℕ) → slice_get cells loc ≡ Some Unset → is_unset cells loc ≡ true
unset_is [] loc is = absurd cc
unset_is (Unset ∷ cells) zero is = refl
unset_is (At level ∷ cells) zero is = absurd cc
unset_is (Unset ∷ cells) (suc loc) is = unset_is cells loc is
unset_is (At level ∷ cells) (suc loc) is = unset_is cells loc is

set_is : (cells : List Level) (loc level : ℕ) → slice_get cells loc ≡ Some (At level) → is_unset cells loc ≡ false
set_is [] loc level is = absurd cc
set_is (Unset ∷ cells) zero level is = absurd cc
set_is (At other ∷ cells) zero level is = refl
set_is (Unset ∷ cells) (suc loc) level is = set_is cells loc level is
set_is (At other ∷ cells) (suc loc) level is = set_is cells loc level is

-- the vertices of edges are those of their visits
edges_visited : (level : ℕ) (edges : List Place) → AllByRecursion (λ edge. 1 ≤ edge.1) edges → map (λ edge. edge.1) edges ≡ map (λ start. suc start.body.at) (map (λ edge. visit_of level edge.1) edges)
edges_visited level [] all = refl
edges_visited level (edge ∷ edges) all =
    let here : edge.1 ≡ suc (edge.1 - 1) = omega (arith, all.0) in
    ap (λ (vertex : ℕ). vertex ∷ map (λ (e : Place). e.1) edges) here ∙ ap (λ (vertices : List ℕ). suc (edge.1 - 1) ∷ vertices) (edges_visited level edges all.1)

module _ (pattern : Pattern) (is-pattern : IsPattern pattern) where
  -- a visit finds a level or none, and acts by that
  act_at : (level : ℕ) (task : Task) (cells : List Level) → IsVisitAt pattern level task → length cells ≡ vertex_count pattern
      → (value : Level) × (slice_get cells task.body.at ≡ Some value) × (act pattern task cells ≡ visit_at pattern task value cells)
  act_at level task cells visit count =
      let here = found cells task.body.at (omega (arith, count, visit.visit.vertex)) in
      (here.0, here.1, act_is pattern task cells here.0 visit.visit here.1)

  -- there are as many cells as before
  pub cells_stay : (task : Task) (cells : List Level) → length (act pattern task cells).cells ≡ length cells
  cells_stay task cells =
      let set = set_at (vertex_sets (vertex_count pattern)) task.body.at in
      length-put_values set (visit_deed pattern (start_of_task task) (values_at set cells)).cells cells

  -- an edge is a place of the pattern
  edge_within : (vertex : ℕ) (edge : Place) → IsIn (edges_from pattern vertex) edge → IsWithin pattern.rows pattern.cols edge
  edge_within vertex edge there =
      all_in (IsWithin pattern.rows pattern.cols) pattern.places edge is-pattern.within (from_filter (λ (e : Place). e.0 == vertex) pattern.places edge there).0

  -- what follows are visits at the next level
  next_are : (vertex level : ℕ) → AllByRecursion (IsNext pattern level) (next_visits pattern vertex level)
  next_are vertex level =
      cond_both (nat_lt level most_level) (map (λ edge. visit_of (suc level) edge.1) (edges_from pattern vertex)) [] (AllByRecursion (IsNext pattern level))
      (λ less. all_from_in (IsNext pattern level) (map (λ edge. visit_of (suc level) edge.1) (edges_from pattern vertex)) (λ start there. of_edge less start (from_map (λ (edge : Place). visit_of (suc level) edge.1) (edges_from pattern vertex) start there)))
      (λ not. tt)
    where
      of_edge : nat_lt level most_level ≡ true → (start : Start) → ((edge : Place) × IsIn (edges_from pattern vertex) edge × (visit_of (suc level) edge.1 ≡ start)) → IsNext pattern level start
      of_edge less start (edge, there, is) =
          let within = edge_within vertex edge there in
          let columns : pattern.cols ≤ vertex_count pattern = cond_both (nat_lt pattern.rows pattern.cols) pattern.cols pattern.rows (λ n. pattern.cols ≤ n) (λ wide. omega arith) (λ tall. grind (arith, nat_tests, tall)) in
          subst (IsNext pattern level) is (record {
            visit = record { kind = refl; vertex = omega (arith, within.column.0, within.column.1, columns); arg = refl; level = grind (arith, nat_tests, less) };
            prio = refl;
          })

  -- and so are the children
  pub children_are : (level : ℕ) (task : Task) (cells : List Level) → IsVisitAt pattern level task → length cells ≡ vertex_count pattern
      → AllByRecursion (IsNext pattern level) (act pattern task cells).children
  children_are level task cells visit count =
      let here = act_at level task cells visit count in
      subst (λ (outcome : Outcome Level). AllByRecursion (IsNext pattern level) outcome.children) (sym here.2) (by_value here.0)
    where
      by_value : (value : Level) → AllByRecursion (IsNext pattern level) (visit_at pattern task value cells).children
      by_value Unset = subst (λ (l : ℕ). AllByRecursion (IsNext pattern l) (next_visits pattern (suc task.body.at) task.key.prio)) visit.at_level (next_are (suc task.body.at) task.key.prio)
      by_value (At earlier) = tt

  -- they go to the vertices that are visited next
  next_visited : (vertex level : ℕ) → next_vertices pattern vertex level ≡ map (λ start. suc start.body.at) (next_visits pattern vertex level)
  next_visited vertex level = by_limit (nat_lt level most_level)
    where
      by_limit : (less : Bool) → (if less then map (λ edge. edge.1) (edges_from pattern vertex) else [])
          ≡ map (λ start. suc start.body.at) (if less then map (λ edge. visit_of (suc level) edge.1) (edges_from pattern vertex) else [])
      by_limit true = edges_visited (suc level) (edges_from pattern vertex) (all_from_in (λ (edge : Place). 1 ≤ edge.1) (edges_from pattern vertex) (λ edge there. (edge_within vertex edge there).column.0))
      by_limit false = refl

  -- what the visit leaves of a search, by what it does as a task
  pub visit_leaves : (level : ℕ) (task : Task) (cells : List Level) (lines next : List ℕ) → IsVisitAt pattern level task → length cells ≡ vertex_count pattern
      → after_visit pattern level (record { levels = cells; lines = lines; next = next }) (suc task.body.at) ≡ record {
        levels = (act pattern task cells).cells;
        lines = lines ++ (act pattern task cells).text;
        next = next ++ map (λ start. suc start.body.at) (act pattern task cells).children;
      }
  visit_leaves level task cells lines next visit count =
      let here = act_at level task cells visit count in
      by_value here.0 here.1 ∙ ap made (sym here.2)
    where
      made : Outcome Level → Left
      made outcome = record { levels = outcome.cells; lines = lines ++ outcome.text; next = next ++ map (λ start. suc start.body.at) outcome.children }

      place : suc task.body.at - 1 ≡ task.body.at
      place = omega arith

      set_left : ℕ → ℕ → Left
      set_left loc l = record { levels = slice_set cells loc (At l); lines = lines ++ visit_text (suc task.body.at) l; next = next ++ next_vertices pattern (suc task.body.at) l }

      by_value : (value : Level) → slice_get cells task.body.at ≡ Some value
          → after_visit pattern level (record { levels = cells; lines = lines; next = next }) (suc task.body.at) ≡ made (visit_at pattern task value cells)
      by_value Unset is =
          cond-true (is_unset cells (suc task.body.at - 1)) _ _ (ap (is_unset cells) place ∙ unset_is cells task.body.at is)
          ∙ ap (λ (loc : ℕ). set_left loc level) place
          ∙ ap (set_left task.body.at) (sym visit.at_level)
          ∙ ap (λ (vertices : List ℕ). let left : Left = record { levels = slice_set cells task.body.at (At task.key.prio); lines = lines ++ visit_text (suc task.body.at) task.key.prio; next = next ++ vertices } in left) (next_visited (suc task.body.at) task.key.prio)
      by_value (At earlier) is =
          cond-false (is_unset cells (suc task.body.at - 1)) _ _ (ap (is_unset cells) place ∙ set_is cells task.body.at earlier is)
          ∙ λ i. record { levels = sym (set_again cells task.body.at (At earlier) is) i; lines = sym (append-nil lines) i; next = sym (append-nil next) i }
