-- What holds of the cells and the pending tasks of a search at each of its steps, and what follows at its end.
use Rattle.std.specs.Prelude.{◌≡◌, ◌≢◌, ℕ, zero, suc, ◌-◌, ◌<◌, ◌≤◌, ◌==◌, nat_lt, true, List, [], ◌∷◌, ◌++◌, length, map, replicate, Some, slice_get, slice_set, refl}
use Rattle.std.specs.List.{AllByRecursion}
use Rattle.std.proofs.Common.{arith, ap, sym, subst, ◌∙◌, inl, inr, ◌⊎◌, length-set, length-append}
use Rattle.std.proofs.lemmas.Bool.{cases_eq, cond-true, cond_both}
use Rattle.std.proofs.lemmas.Bool.Decides.{nat_tests}
use Rattle.std.proofs.lemmas.Option.{same_Some, slice_get_within}
use Rattle.plain_laws.specs.Lists.{All-weaker, get-set_same}
use Rattle.task_order.specs.declared.start.Start.{Start}
use Rattle.task_order.specs.declared.task.Task.{Task}
use Rattle.task_order.specs.TaskList.{put_all}
use Rattle.task_order.specs.TaskListLaws.{All-put_all}
use Rattle.app_laws.specs.Execution.{Execution, Outcome, acts, after_steps, children_from}
use Rattle.mtx_reader.specs.declared.pattern.Pattern.{Pattern}
use Rattle.mtx_reader.specs.Ascending.{IsIn, all_in, from_filter, from_map, in_filter, in_map}
use Rattle.mtx_reader.specs.Patterns.{IsPattern}
use Rattle.mtx_reader.specs.Places.{Place, IsWithin}
use Rattle.hook_app.specs.ValueLaws.{found, get-set_other}
use Rattle.level_walk.specs.declared.level.Level.{Level}
use Rattle.level_walk.specs.declared.level.Level.TheVariants.{Unset, At}
use Rattle.level_walk.specs.Levels.{IsVisit, levelling, most_level, next_visits, visit_of}
use Rattle.level_walk.specs.VisitLaws.{act_is, set_again, visit_at}
use Rattle.level_walk.specs.Walks.{HasEdge, HasWalk, IsWalk, edges_from, vertex_count}
use Rattle.level_walk.proofs.Pending.{IsByPriority, all_children, child_there, comes_there, put_all_by_priority, stays_there}

-- ---- cells

-- how many vertices have a level
pub set_count : List Level → ℕ
set_count [] = 0
set_count (Unset ∷ cells) = set_count cells
set_count (At level ∷ cells) = suc (set_count cells)

set_one_more : (cells : List Level) (loc level : ℕ) → slice_get cells loc ≡ Some Unset → set_count (slice_set cells loc (At level)) ≡ suc (set_count cells)
unfolding set_count
set_one_more [] loc level unset = absurd cc
set_one_more (Unset ∷ cells) zero level unset = refl
set_one_more (At other ∷ cells) zero level unset = absurd cc
set_one_more (Unset ∷ cells) (suc loc) level unset = set_one_more cells loc level unset
set_one_more (At other ∷ cells) (suc loc) level unset = ap suc (set_one_more cells loc level unset)

set_within : (cells : List Level) → set_count cells ≤ length cells
unfolding set_count
set_within [] = omega arith
set_within (Unset ∷ cells) = omega (arith, set_within cells)
set_within (At level ∷ cells) = omega (arith, set_within cells)

-- where one has none, they are fewer than all
not_all_set : (cells : List Level) (loc : ℕ) → slice_get cells loc ≡ Some Unset → set_count cells < length cells
unfolding set_count
not_all_set [] loc unset = absurd cc
not_all_set (Unset ∷ cells) loc unset = omega (arith, set_within cells)
not_all_set (At level ∷ cells) zero unset = absurd cc
not_all_set (At level ∷ cells) (suc loc) unset = omega (arith, not_all_set cells loc unset)

pub none_set : (count loc level : ℕ) → slice_get (replicate count Unset) loc ≡ Some (At level) → ⊥
none_set zero loc level is = cc
none_set (suc count) zero level is = cc
none_set (suc count) (suc loc) level is = none_set count loc level is

-- ---- walks

module _ (pattern : Pattern) where
  walk_on : (first last next : ℕ) (vertices : List ℕ) → IsWalk pattern first last vertices → HasEdge pattern last next → IsWalk pattern first next (vertices ++ next ∷ [])
  walk_on first last next [] walk edge = absurd walk
  walk_on first last next (vertex ∷ []) walk edge = (walk.0, subst (λ (v : ℕ). HasEdge pattern v next) (sym walk.1) edge, (refl, refl))
  walk_on first last next (vertex ∷ other ∷ vertices) walk edge = (walk.0, walk.1, walk_on other last next (other ∷ vertices) walk.2 edge)

  -- an edge more
  longer : (first last next edges : ℕ) → HasWalk pattern first last edges → HasEdge pattern last next → HasWalk pattern first next (suc edges)
  longer first last next edges has edge = record {
    vertices = has.vertices ++ next ∷ [];
    walk = walk_on first last next has.vertices has.walk edge;
    long = let e = length-append has.vertices (next ∷ []) in omega (arith, e, has.long);
  }

  pub rows_within : pattern.rows ≤ vertex_count pattern
  rows_within = cond_both (nat_lt pattern.rows pattern.cols) pattern.cols pattern.rows (λ n. pattern.rows ≤ n) (λ less. grind (arith, nat_tests, less)) (λ not. omega arith)

  pub columns_within : pattern.cols ≤ vertex_count pattern
  columns_within = cond_both (nat_lt pattern.rows pattern.cols) pattern.cols pattern.rows (λ n. pattern.cols ≤ n) (λ less. omega arith) (λ not. grind (arith, nat_tests, not))

  pub few_vertices : IsPattern pattern → vertex_count pattern ≤ most_level
  few_vertices is = cond_both (nat_lt pattern.rows pattern.cols) pattern.cols pattern.rows (λ n. n ≤ most_level) (λ less. is.columns) (λ not. is.rows)

  -- an edge leads from vertex to vertex
  pub edge_within : IsPattern pattern → (first second : ℕ) → HasEdge pattern first second → IsWithin (vertex_count pattern) (vertex_count pattern) (first, second)
  edge_within is first second edge =
      let within : IsWithin pattern.rows pattern.cols (first, second) = all_in (IsWithin pattern.rows pattern.cols) pattern.places (first, second) is.within edge in record {
        row = (within.row.0, omega (arith, within.row.1, rows_within));
        column = (within.column.0, omega (arith, within.column.1, columns_within));
      }

  -- where a walk ends at a vertex, it begins at one
  pub begins_within : IsPattern pattern → (first last : ℕ) (vertices : List ℕ) → IsWalk pattern first last vertices → last ≤ vertex_count pattern → first ≤ vertex_count pattern
  begins_within is first last [] walk within = absurd walk
  begins_within is first last (vertex ∷ []) walk within = omega (arith, walk.0, walk.1, within)
  begins_within is first last (vertex ∷ other ∷ vertices) walk within = let edge = (edge_within is vertex other walk.1).row.1 in omega (arith, walk.0, edge)

-- ---- a step

-- the vertex has a level up to this one, or a visit that brings it is pending
abbrev pub IsComing : List Level → List Task → ℕ → ℕ → Type 0
IsComing cells pending loc level =
    ((earlier : ℕ) × (slice_get cells loc ≡ Some (At earlier)) × (earlier ≤ level))
    ⊎ ((task : Task) × IsIn pending task × (task.body.at ≡ loc) × (task.key.prio ≡ level))

-- a pending task visits a vertex at the length of a walk to it, which is at most as great as vertices are visited
pub record IsDue (pattern : Pattern) (from : ℕ) (cells : List Level) (task : Task) : Type 0 where
  pub visit : IsVisit (vertex_count pattern) task.key.prio task.body
  pub walk : HasWalk pattern from (suc task.body.at) task.key.prio
  pub few : task.key.prio ≤ set_count cells

pub record IsSearched (pattern : Pattern) (from : ℕ) (cells : List Level) (pending : List Task) : Type 0 where
  pub count : length cells ≡ vertex_count pattern
  pub by_priority : IsByPriority pending
  pub due : AllByRecursion (IsDue pattern from cells) pending
  -- a level is the length of a walk, and no pending task brings a lower one
  pub walked : (loc level : ℕ) → slice_get cells loc ≡ Some (At level) → HasWalk pattern from (suc loc) level
  pub no_higher : (loc level : ℕ) → slice_get cells loc ≡ Some (At level) → AllByRecursion (λ task. level ≤ task.key.prio) pending
  -- where an edge leads from a vertex that has a level, the other vertex has or gets one
  pub next : (loc level other : ℕ) → slice_get cells loc ≡ Some (At level) → HasEdge pattern (suc loc) (suc other) → IsComing cells pending other (suc level)
  pub first : (loc : ℕ) → suc loc ≡ from → loc < vertex_count pattern → IsComing cells pending loc 0

module _ (pattern : Pattern) (is-pattern : IsPattern pattern) (from : ℕ) where
  -- the visit to a vertex that has a level
  passes : (task : Task) (others : List Task) (cells : List Level) (level : ℕ) → slice_get cells task.body.at ≡ Some (At level) → IsSearched pattern from cells (task ∷ others) → IsSearched pattern from cells others
  passes task others cells level set at = record {
    count = at.count;
    by_priority = at.by_priority.1;
    due = at.due.1;
    walked = at.walked;
    no_higher = λ loc l is. (at.no_higher loc l is).1;
    next = λ loc l other is edge. still other (suc l) (at.next loc l other is edge);
    first = λ loc start within. still loc 0 (at.first loc start within);
  }
    where
      low : level ≤ task.key.prio
      low = (at.no_higher task.body.at level set).0

      still : (loc l : ℕ) → IsComing cells (task ∷ others) loc l → IsComing cells others loc l
      still loc l (inl has) = inl has
      still loc l (inr (other, inl same, here, brings)) =
          let there : task.body.at ≡ loc = ap (λ (t : Task). t.body.at) same ∙ here in
          let same-prio : task.key.prio ≡ l = ap (λ (t : Task). t.key.prio) same ∙ brings in
          inl (level, ap (slice_get cells) (sym there) ∙ set, omega (arith, low, same-prio))
      still loc l (inr (other, inr there, here, brings)) = inr (other, there, here, brings)

  -- the first visit to a vertex
  module _ (task : Task) (others : List Task) (cells : List Level) (unset : slice_get cells task.body.at ≡ Some Unset) (at : IsSearched pattern from cells (task ∷ others)) where
    abbrev place : ℕ
    place = task.body.at

    abbrev level : ℕ
    level = task.key.prio

    abbrev cells_then : List Level
    cells_then = slice_set cells task.body.at (At task.key.prio)

    abbrev visits_then : List Start
    visits_then = next_visits pattern (suc task.body.at) task.key.prio

    abbrev pending_then : List Task
    pending_then = put_all (children_from task.key 0 visits_then) others

    below_most : level < most_level
    below_most = omega (arith, at.due.0.few, not_all_set cells task.body.at unset, at.count, few_vertices pattern is-pattern)

    within : task.body.at < length cells
    within = slice_get_within cells task.body.at Unset unset

    visits_are : visits_then ≡ map (λ (edge : Place). visit_of (suc task.key.prio) edge.1) (edges_from pattern (suc task.body.at))
    visits_are = cond-true (nat_lt task.key.prio most_level) _ _ (let below = below_most in grind (arith, nat_tests, below))

    one_more : set_count cells_then ≡ suc (set_count cells)
    one_more = set_one_more cells task.body.at task.key.prio unset

    -- what a cell has then
    set_then : (loc l : ℕ) → slice_get cells_then loc ≡ Some (At l) → ((loc ≡ task.body.at) × (l ≡ task.key.prio)) ⊎ ((loc ≢ task.body.at) × (slice_get cells loc ≡ Some (At l)))
    set_then loc l is = elim (cases_eq loc task.body.at) [
      | inl here ↦
          let same : At task.key.prio ≡ At l = same_Some (At task.key.prio) (At l) (sym (get-set_same cells task.body.at (At task.key.prio) within) ∙ ap (slice_get cells_then) (sym here) ∙ is) in
          let same-level : l ≡ task.key.prio = cc in
          inl (here, same-level)
      | inr elsewhere ↦ inr (elsewhere, sym (get-set_other cells task.body.at loc (At task.key.prio) elsewhere) ∙ is)
    ]

    has_then : slice_get cells_then task.body.at ≡ Some (At task.key.prio)
    has_then = get-set_same cells task.body.at (At task.key.prio) within

    -- a vertex that had a level keeps it
    keeps : (loc l : ℕ) → slice_get cells loc ≡ Some (At l) → slice_get cells_then loc ≡ Some (At l)
    keeps loc l is = elim (cases_eq loc task.body.at) [
      | inl here ↦ let same : Unset ≡ At l = same_Some Unset (At l) (sym unset ∙ ap (slice_get cells) (sym here) ∙ is) in absurd cc
      | inr elsewhere ↦ get-set_other cells task.body.at loc (At task.key.prio) elsewhere ∙ is
    ]

    -- what was coming to a vertex has come or is coming
    still_coming : (loc l : ℕ) → IsComing cells (task ∷ others) loc l → IsComing cells_then pending_then loc l
    still_coming loc l (inl has) = inl (has.0, keeps loc has.0 has.1, has.2)
    still_coming loc l (inr (other, inl same, here, brings)) =
        let there : task.body.at ≡ loc = ap (λ (t : Task). t.body.at) same ∙ here in
        let same-prio : task.key.prio ≡ l = ap (λ (t : Task). t.key.prio) same ∙ brings in
        inl (task.key.prio, ap (slice_get cells_then) (sym there) ∙ has_then, omega (arith, same-prio))
    still_coming loc l (inr (other, inr there, here, brings)) = inr (other, stays_there (children_from task.key 0 visits_then) others other there, here, brings)

    -- an edge for each visit
    edge_of : (start : Start) → IsIn visits_then start → (vertex : ℕ) × HasEdge pattern (suc task.body.at) (suc vertex) × (visit_of (suc task.key.prio) (suc vertex) ≡ start)
    edge_of start there =
        let made = from_map (λ (edge : Place). visit_of (suc task.key.prio) edge.1) (edges_from pattern (suc task.body.at)) start (subst (λ (starts : List Start). IsIn starts start) visits_are there) in
        of_edge made.0 made.1 made.2
      where
        of_edge : (edge : Place) → IsIn (edges_from pattern (suc task.body.at)) edge → visit_of (suc task.key.prio) edge.1 ≡ start → (vertex : ℕ) × HasEdge pattern (suc task.body.at) (suc vertex) × (visit_of (suc task.key.prio) (suc vertex) ≡ start)
        of_edge (row, zero) there is = absurd (let edge = (all_in (IsWithin pattern.rows pattern.cols) pattern.places (row, zero) is-pattern.within (from_filter (λ (e : Place). e.0 == suc task.body.at) pattern.places (row, zero) there).0).column.0 in omega (arith, edge))
        of_edge (row, suc vertex) there is =
            let kept = from_filter (λ (e : Place). e.0 == suc task.body.at) pattern.places (row, suc vertex) there in
            let same : row ≡ suc task.body.at = grind (arith, nat_tests, kept.1) in
            (vertex, subst (λ (r : ℕ). IsIn pattern.places (r, suc vertex)) same kept.0, is)

    child_due : (child : Task) → IsIn visits_then (record { prio = child.key.prio; body = child.body }) → IsDue pattern from cells_then child
    child_due child there =
        let start : Start = record { prio = child.key.prio; body = child.body } in
        let edge = edge_of start there in
        let within-edge = edge_within pattern is-pattern (suc task.body.at) (suc edge.0) edge.1 in
        let prio : suc task.key.prio ≡ child.key.prio = ap (λ (s : Start). s.prio) edge.2 in
        let vertex : suc edge.0 - 1 ≡ child.body.at = ap (λ (s : Start). s.body.at) edge.2 in
        let vertex-is : edge.0 ≡ child.body.at = omega (arith, vertex) in record {
          visit = record {
            kind = sym (ap (λ (s : Start). s.body.kind) edge.2);
            vertex = omega (arith, vertex-is, within-edge.column.1);
            arg = sym (ap (λ (s : Start). s.body.arg) edge.2);
            level = omega (arith, prio, below_most);
          };
          walk = subst (λ (v : ℕ). HasWalk pattern from (suc v) child.key.prio) vertex-is
              (subst (λ (l : ℕ). HasWalk pattern from (suc edge.0) l) prio (longer pattern from (suc task.body.at) (suc edge.0) task.key.prio at.due.0.walk edge.1));
          few = omega (arith, prio, one_more, at.due.0.few);
        }

    child_late : (child : Task) → IsIn visits_then (record { prio = child.key.prio; body = child.body }) → suc task.key.prio ≤ child.key.prio
    child_late child there = let prio : suc task.key.prio ≡ child.key.prio = ap (λ (s : Start). s.prio) (edge_of (record { prio = child.key.prio; body = child.body }) there).2 in omega (arith, prio)

    -- a visit to each vertex to which an edge leads
    visit_follows : (other : ℕ) → HasEdge pattern (suc task.body.at) (suc other) → IsComing cells_then pending_then other (suc task.key.prio)
    visit_follows other edge =
        let same : (suc task.body.at == suc task.body.at) ≡ true = grind (arith, nat_tests) in
        let chosen = in_map (λ (e : Place). visit_of (suc task.key.prio) e.1) (edges_from pattern (suc task.body.at)) (suc task.body.at, suc other) (in_filter (λ (e : Place). e.0 == suc task.body.at) pattern.places (suc task.body.at, suc other) edge same) in
        let child = child_there task.key 0 visits_then (visit_of (suc task.key.prio) (suc other)) (subst (λ (starts : List Start). IsIn starts (visit_of (suc task.key.prio) (suc other))) (sym visits_are) chosen) in
        let there : child.0.body.at ≡ suc other - 1 = ap (λ (b : _). b.at) child.3 in
        inr (child.0, comes_there (children_from task.key 0 visits_then) others child.0 child.1, omega (arith, there), child.2)

    sets_level : IsSearched pattern from cells_then pending_then
    sets_level = record {
      count = length-set cells task.body.at (At task.key.prio) ∙ at.count;
      by_priority = put_all_by_priority (children_from task.key 0 visits_then) others at.by_priority.1;
      due = All-put_all (IsDue pattern from cells_then) (children_from task.key 0 visits_then) others (all_children (IsDue pattern from cells_then) task.key 0 visits_then child_due)
          (All-weaker (IsDue pattern from cells) (IsDue pattern from cells_then) (λ other due. record { visit = due.visit; walk = due.walk; few = omega (arith, due.few, one_more) }) others at.due.1);
      walked = λ loc l is. elim (set_then loc l is) [
        | inl here ↦ subst (λ (v : ℕ). HasWalk pattern from (suc v) l) (sym here.0) (subst (HasWalk pattern from (suc task.body.at)) (sym here.1) at.due.0.walk)
        | inr there ↦ at.walked loc l there.1
      ];
      no_higher = λ loc l is. elim (set_then loc l is) [
        | inl here ↦ All-put_all (λ (t : Task). l ≤ t.key.prio) (children_from task.key 0 visits_then) others
            (all_children (λ (t : Task). l ≤ t.key.prio) task.key 0 visits_then (λ child there. omega (arith, child_late child there, here.1)))
            (All-weaker (λ (t : Task). task.key.prio ≤ t.key.prio) (λ (t : Task). l ≤ t.key.prio) (λ t above. omega (arith, above, here.1)) others at.by_priority.0)
        | inr there ↦ All-put_all (λ (t : Task). l ≤ t.key.prio) (children_from task.key 0 visits_then) others
            (all_children (λ (t : Task). l ≤ t.key.prio) task.key 0 visits_then (λ child here. omega (arith, child_late child here, (at.no_higher loc l there.1).0)))
            (at.no_higher loc l there.1).1
      ];
      next = λ loc l other is edge. elim (set_then loc l is) [
        | inl here ↦ subst (λ (n : ℕ). IsComing cells_then pending_then other (suc n)) (sym here.1) (visit_follows other (subst (λ (v : ℕ). HasEdge pattern (suc v) (suc other)) here.0 edge))
        | inr there ↦ still_coming other (suc l) (at.next loc l other there.1 edge)
      ];
      first = λ loc start within-all. still_coming loc 0 (at.first loc start within-all);
    }

  -- whatever the level of its vertex, a visit leaves a search
  visit_kept : (task : Task) (others : List Task) (cells : List Level) (level : Level) → slice_get cells task.body.at ≡ Some level → IsSearched pattern from cells (task ∷ others)
      → IsSearched pattern from (visit_at pattern task level cells).cells (put_all (children_from task.key 0 (visit_at pattern task level cells).children) others)
  visit_kept task others cells Unset is at = sets_level task others cells is at
  visit_kept task others cells (At level) is at =
      subst (λ (ls : List Level). IsSearched pattern from ls others) (sym (set_again cells task.body.at (At level) is)) (passes task others cells level is at)

  act_kept : (e : Execution Level) (pending : List Task) → IsSearched pattern from e.cells pending → e.pending ≡ pending
      → IsSearched pattern from (acts (levelling pattern).act e pending).cells (acts (levelling pattern).act e pending).pending
  act_kept e [] at is = subst (IsSearched pattern from e.cells) (sym is) at
  act_kept e (task ∷ others) at is =
      let here = found e.cells task.body.at (omega (arith, at.count, at.due.0.visit.vertex)) in
      subst (λ (outcome : Outcome Level). IsSearched pattern from outcome.cells (put_all (children_from task.key 0 outcome.children) others))
      (sym (act_is pattern task e.cells here.0 at.due.0.visit here.1)) (visit_kept task others e.cells here.0 here.1 at)

  pub steps_kept : (steps : ℕ) (e : Execution Level) → IsSearched pattern from e.cells e.pending → IsSearched pattern from (after_steps (levelling pattern).act steps e).cells (after_steps (levelling pattern).act steps e).pending
  unfolding after_steps
  steps_kept zero e at = at
  steps_kept (suc steps) e at = let before = after_steps (levelling pattern).act steps e in act_kept before before.pending (steps_kept steps e at) refl
