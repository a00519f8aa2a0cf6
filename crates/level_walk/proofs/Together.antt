-- That the deeds of a search belong together with its sets, and its start with both.
use Rattle.std.specs.Prelude.{◌≡◌, ℕ, zero, suc, ◌+◌, ◌<◌, ◌≤◌, ◌==◌, ◌^◌, nat_lt, List, [], ◌∷◌, ◌++◌, length, map, replicate, codes, refl}
use Rattle.std.specs.Fmt.{decimal}
use Rattle.std.specs.List.{AllByRecursion}
use Rattle.std.proofs.Common.{arith, ap, sym, subst, lit<}
use Rattle.std.proofs.lemmas.Bool.{cond_both}
use Rattle.std.proofs.lemmas.Bool.Decides.{nat_tests}
use Rattle.std.proofs.lemmas.List.{length-map, length-replicate}
use Rattle.std.proofs.lemmas.List.FromFn.{get_or-map-range_with_len, length-map-range_with_len}
use Rattle.plain_laws.specs.Lists.{length-filter_le}
use Rattle.plain_laws.specs.Ranges.{All-map-range}
use Rattle.task_order.specs.declared.start.Start.{Start}
use Rattle.rw_sets.specs.Accesses.{Accesses, IsAscending, IsInRange}
use Rattle.app_laws.specs.LineLaws.{whole_behind}
use Rattle.mtx_reader.specs.declared.pattern.Pattern.{Pattern}
use Rattle.mtx_reader.specs.Ascending.{IsIn, all_from_in, from_filter, from_map}
use Rattle.mtx_reader.specs.Patterns.{IsPattern}
use Rattle.mtx_reader.specs.Places.{Place, IsWithin}
use Rattle.hook_app.specs.Hooked.{AreValuesOf, FitTogether, IsFitDeed, set_at}
use Rattle.hook_app.specs.OneLocation.{one_value, own_ascending, own_in_range, own_set}
use Rattle.hook_app.specs.Values.{KeepsRead}
use Rattle.level_walk.specs.declared.level.Level.{Level}
use Rattle.level_walk.specs.declared.level.Level.TheVariants.{Unset, At}
use Rattle.level_walk.specs.Levels.{IsVisit, first_visits, levelling, most_level, start_levels, vertex_sets, visit_of, visited, walking}
use Rattle.level_walk.specs.VisitLaws.{own_at}
use Rattle.level_walk.specs.Walks.{edges_from, vertex_count}
use Rattle.level_walk.proofs.Between.{few_places}
use Rattle.level_walk.proofs.Searching.{edge_within}

module _ (pattern : Pattern) (is-pattern : IsPattern pattern) where
  pub few_edges : (vertex : ℕ) → length (edges_from pattern vertex) ≤ 16_785_409
  few_edges vertex =
      let shorter = length-filter_le (λ (edge : Place). edge.0 == vertex) pattern.places in
      let few = few_places pattern.rows pattern.cols pattern.places is-pattern.rows is-pattern.columns is-pattern.within is-pattern.ascending in
      omega (arith, shorter, few)

  pub edges_within : (vertex : ℕ) → AllByRecursion (IsWithin (vertex_count pattern) (vertex_count pattern)) (edges_from pattern vertex)
  edges_within vertex = all_from_in (IsWithin (vertex_count pattern) (vertex_count pattern)) (edges_from pattern vertex)
      (λ edge there. edge_within pattern is-pattern edge.0 edge.1 (from_filter (λ (e : Place). e.0 == vertex) pattern.places edge there).0)

  -- each visit that follows is one of the search
  next_fit : (vertex level : ℕ) → level < most_level → (start : Start) → IsIn (map (λ (edge : Place). visit_of (suc level) edge.1) (edges_from pattern vertex)) start → IsVisit (vertex_count pattern) start.prio start.body
  next_fit vertex level low start there =
      let made = from_map (λ (edge : Place). visit_of (suc level) edge.1) (edges_from pattern vertex) start there in
      let edge = edge_within pattern is-pattern made.0.0 made.0.1 (from_filter (λ (e : Place). e.0 == vertex) pattern.places made.0 made.1).0 in
      let visit : IsVisit (vertex_count pattern) (suc level) (visit_of (suc level) made.0.1).body = record { kind = refl; vertex = omega (arith, edge.column.0, edge.column.1); arg = refl; level = omega (arith, low) } in
      subst (λ (s : Start). IsVisit (vertex_count pattern) s.prio s.body) made.2 visit

  next_late : (vertex level : ℕ) → (start : Start) → IsIn (map (λ (edge : Place). visit_of (suc level) edge.1) (edges_from pattern vertex)) start → level + 1 ≤ start.prio
  next_late vertex level start there =
      let made = from_map (λ (edge : Place). visit_of (suc level) edge.1) (edges_from pattern vertex) start there in
      let prio : suc level ≡ start.prio = ap (λ (s : Start). s.prio) made.2 in omega (arith, prio)

  visited_fit : (start : Start) (level : Level) → IsVisit (vertex_count pattern) start.prio start.body → AreValuesOf (walking pattern) (set_at (vertex_sets (vertex_count pattern)) start.body.at) (level ∷ [])
      → IsFitDeed (walking pattern) (vertex_sets (vertex_count pattern)) 1 start (level ∷ []) (visited pattern (suc start.body.at) start.prio level)
  visited_fit start (At level) visit are = record {
    new_values = record { one_each = are.one_each; fit = (tt, tt) };
    read_kept = subst (λ (set : Accesses). KeepsRead set (At level ∷ []) (At level ∷ [])) (sym (own_at (vertex_count pattern) start.body.at visit.vertex)) tt;
    children = tt;
    few = lit< tt;
    lines = tt;
    late = tt;
  }
  visited_fit start Unset visit are =
      let made : List Start = map (λ (edge : Place). visit_of (suc start.prio) edge.1) (edges_from pattern (suc start.body.at)) in record {
        new_values = record { one_each = are.one_each; fit = (tt, tt) };
        read_kept = subst (λ (set : Accesses). KeepsRead set (Unset ∷ []) (At start.prio ∷ [])) (sym (own_at (vertex_count pattern) start.body.at visit.vertex)) tt;
        children = cond_both (nat_lt start.prio most_level) made [] (AllByRecursion (λ (child : Start). IsVisit (vertex_count pattern) child.prio child.body))
            (λ more. all_from_in (λ (child : Start). IsVisit (vertex_count pattern) child.prio child.body) made (next_fit (suc start.body.at) start.prio (grind (arith, nat_tests, more)))) (λ last. tt);
        few = cond_both (nat_lt start.prio most_level) made [] (λ (children : List Start). length children < 2 ^ 32)
            (λ more. let as-many = length-map (edges_from pattern (suc start.body.at)) (λ (edge : Place). visit_of (suc start.prio) edge.1) in omega (arith, as-many, few_edges (suc start.body.at))) (λ last. lit< tt);
        lines = whole_behind (codes "visit " ++ decimal (suc start.body.at)) (32 ∷ decimal start.prio);
        late = cond_both (nat_lt start.prio most_level) made [] (AllByRecursion (λ (child : Start). start.prio + 1 ≤ child.prio))
            (λ more. all_from_in (λ (child : Start). start.prio + 1 ≤ child.prio) made (next_late (suc start.body.at) start.prio)) (λ last. tt);
      }

  pub walking_together : FitTogether (walking pattern) (vertex_count pattern) (vertex_sets (vertex_count pattern)) 1
  walking_together = record {
    ascending = All-map-range IsAscending own_set 0 (vertex_count pattern) (λ n below. own_ascending n);
    below = All-map-range (λ (set : Accesses). IsInRange set (vertex_count pattern)) own_set 0 (vertex_count pattern) (λ n below. own_in_range n (vertex_count pattern) (omega (arith, below)));
    at_sets = λ prio body visit. let e = length-map-range_with_len own_set 0 (vertex_count pattern) in omega (arith, e, visit.vertex);
    deeds_fit = λ start values visit are.
        let one = one_value (walking pattern) (vertex_sets (vertex_count pattern)) start.body.at values (own_at (vertex_count pattern) start.body.at visit.vertex) are in
        subst (λ (vs : List Level). IsFitDeed (walking pattern) (vertex_sets (vertex_count pattern)) 1 start vs ((walking pattern).deed start vs)) (sym one.1)
        (visited_fit start one.0 visit (subst (AreValuesOf (walking pattern) (set_at (vertex_sets (vertex_count pattern)) start.body.at)) one.1 are));
  }

all_unset : (count : ℕ) → AllByRecursion (λ (level : Level). Unit {0}) (replicate count Unset)
all_unset zero = tt
all_unset (suc count) = (tt, all_unset count)

pub start_fit : (pattern : Pattern) → FitTogether (walking pattern) (vertex_count pattern) (vertex_sets (vertex_count pattern)) 1 → (levelling pattern).is_fit_cells (start_levels pattern)
start_fit pattern together = record { together = together; count = length-replicate (vertex_count pattern) Unset; fit = all_unset (vertex_count pattern) }

pub first_few : (pattern : Pattern) (from : ℕ) → length (first_visits pattern from) < 2 ^ 32
first_few pattern from = cond_both (nat_lt (vertex_count pattern) from) [] (visit_of 0 from ∷ []) (λ (first : List Start). length first < 2 ^ 32) (λ beyond. lit< tt) (λ among. lit< tt)
