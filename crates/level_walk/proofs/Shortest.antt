-- How a search begins, and what its levels are at its end.
use Rattle.std.specs.Prelude.{◌≡◌, ℕ, zero, suc, ◌+◌, ◌-◌, ◌<◌, ◌≤◌, nat_lt, true, false, List, [], ◌∷◌, length, Option, None, Some, slice_get, refl, MatchOption}
use Rattle.std.specs.List.{AllByRecursion}
use Rattle.std.specs.Option.{option_map}
use Rattle.std.proofs.Common.{arith, sym, subst, ◌∙◌, inl, inr}
use Rattle.std.proofs.lemmas.Bool.{cond_both}
use Rattle.std.proofs.lemmas.Bool.Decides.{nat_tests}
use Rattle.std.proofs.lemmas.List.{length-replicate}
use Rattle.std.proofs.lemmas.Option.{same_Some, slice_get_within}
use Rattle.plain_laws.specs.Lists.{All-push}
use Rattle.task_order.specs.declared.start.Start.{Start}
use Rattle.task_order.specs.declared.task.Task.{Task}
use Rattle.task_order.specs.Key.{end as never}
use Rattle.task_order.specs.TaskList.{put_all}
use Rattle.app_laws.specs.Execution.{Execution, acts, after_steps, first_from, is_clear_before, start_of, steps_until}
use Rattle.app_laws.specs.Laws.{IsFirstClear, StopsWhenClear}
use Rattle.app_laws.specs.StepLaws.{none_before_end}
use Rattle.app_laws.specs.Names.{start_of_task}
use Rattle.mtx_reader.specs.declared.pattern.Pattern.{Pattern}
use Rattle.mtx_reader.specs.Patterns.{IsPattern}
use Rattle.hook_app.specs.Hooked.{set_at}
use Rattle.hook_app.specs.Values.{values_at}
use Rattle.output_log.specs.Entries.{Entry}
use Rattle.level_walk.specs.declared.level.Level.{Level}
use Rattle.level_walk.specs.declared.level.Level.TheVariants.{Unset, At}
use Rattle.level_walk.specs.Laws.{IsVisitText, LevelsAreShortest, LogsAreVisits}
use Rattle.level_walk.specs.Levels.{first_visits, levelling, start_levels, vertex_sets, visit_deed, visit_of}
use Rattle.level_walk.specs.Walks.{HasEdge, HasWalk, IsShortest, IsWalk, vertex_count}
use Rattle.level_walk.proofs.Searching.{IsComing, IsSearched, begins_within, edge_within, none_set, steps_kept}

module _ (pattern : Pattern) (is-pattern : IsPattern pattern) (from : ℕ) (from-one : 1 ≤ from) where
  -- ---- the start

  start_searched : IsSearched pattern from (start_levels pattern) (put_all (first_from 0 (first_visits pattern from)) [])
  start_searched =
      cond_both (nat_lt (vertex_count pattern) from) [] (visit_of 0 from ∷ []) (λ (first : List Start). IsSearched pattern from (start_levels pattern) (put_all (first_from 0 first) []))
      (λ beyond. record {
        count = length-replicate (vertex_count pattern) Unset;
        by_priority = tt;
        due = tt;
        walked = λ loc level is. absurd (none_set (vertex_count pattern) loc level is);
        no_higher = λ loc level is. tt;
        next = λ loc level other is edge. absurd (none_set (vertex_count pattern) loc level is);
        first = λ loc start within. absurd (let far : vertex_count pattern < from = grind (arith, nat_tests, beyond) in omega (arith, far, start, within));
      })
      (λ among. let near : from ≤ vertex_count pattern = grind (arith, nat_tests, among) in
      let back : suc (from - 1) ≡ from = omega (arith, from-one) in record {
        count = length-replicate (vertex_count pattern) Unset;
        by_priority = (tt, tt);
        due = (
          record {
            visit = record { kind = refl; vertex = omega (arith, near, back); arg = refl; level = omega arith };
            walk = record { vertices = from ∷ []; walk = (refl, sym back); long = refl };
            few = omega arith;
          },
          tt,
        );
        walked = λ loc level is. absurd (none_set (vertex_count pattern) loc level is);
        no_higher = λ loc level is. absurd (none_set (vertex_count pattern) loc level is);
        next = λ loc level other is edge. absurd (none_set (vertex_count pattern) loc level is);
        first = λ loc start within. inr (_, inl refl, omega (arith, start), refl);
      })

  -- ---- the end

  -- the vertex has a level up to this one
  abbrev HasLevelTo : List Level → ℕ → ℕ → Type 0
  HasLevelTo cells vertex bound = (loc : ℕ) × (level : ℕ) × (suc loc ≡ vertex) × (slice_get cells loc ≡ Some (At level)) × (level ≤ bound)

  has_come : (cells : List Level) (loc level : ℕ) → IsComing cells [] loc level → HasLevelTo cells (suc loc) level
  has_come cells loc level (inl has) = (loc, has.0, refl, has.1, has.2)
  has_come cells loc level (inr (task, there, here, brings)) = absurd there

  -- along a walk each vertex has a level up to as many edges more
  arrives : (cells : List Level) (vertices : List ℕ) (first last bound edges : ℕ) → IsSearched pattern from cells [] → IsWalk pattern first last vertices → length vertices ≡ suc edges
      → HasLevelTo cells first bound → HasLevelTo cells last (bound + edges)
  arrives cells [] first last bound edges at walk long has = absurd walk
  arrives cells (vertex ∷ []) first last bound edges at walk long (loc, level, here, is, low) = (loc, level, here ∙ sym walk.0 ∙ walk.1, is, omega (arith, low))
  arrives cells (vertex ∷ zero ∷ vertices) first last bound edges at walk long has = absurd (let one = (edge_within pattern is-pattern vertex zero walk.1).column.0 in omega (arith, one))
  arrives cells (vertex ∷ suc other ∷ vertices) first last bound zero at walk long has = absurd (omega (arith, long))
  arrives cells (vertex ∷ suc other ∷ vertices) first last bound (suc edges) at walk long (loc, level, here, is, low) =
      let edge : HasEdge pattern (suc loc) (suc other) = subst (λ (v : ℕ). HasEdge pattern v (suc other)) (walk.0 ∙ sym here) walk.1 in
      let come : HasLevelTo cells (suc other) (suc level) = has_come cells other (suc level) (at.next loc level other is edge) in
      let end : HasLevelTo cells last (suc bound + edges) =
      arrives cells (suc other ∷ vertices) (suc other) last (suc bound) edges at walk.2 (omega (arith, long)) (come.0, come.1, come.2, come.3, omega (arith, come.4, low)) in
      (end.0, end.1, end.2, end.3, omega (arith, end.4))

  reached : (cells : List Level) (loc edges : ℕ) → IsSearched pattern from cells [] → loc < vertex_count pattern → HasWalk pattern from (suc loc) edges
      → (level : ℕ) × (slice_get cells loc ≡ Some (At level)) × (level ≤ edges)
  reached cells loc edges at within has =
      let begins : from ≤ vertex_count pattern = begins_within pattern is-pattern from (suc loc) has.vertices has.walk (omega (arith, within)) in
      let back : suc (from - 1) ≡ from = omega (arith, from-one) in
      let start : HasLevelTo cells from 0 = subst (λ (v : ℕ). HasLevelTo cells v 0) back (has_come cells (from - 1) 0 (at.first (from - 1) back (omega (arith, begins, back)))) in
      let end : HasLevelTo cells (suc loc) (0 + edges) = arrives cells has.vertices from (suc loc) 0 edges at has.walk has.long start in
      let same : end.0 ≡ loc = omega (arith, end.2) in
      (end.1, subst (λ (l : ℕ). slice_get cells l ≡ Some (At end.1)) same end.3, omega (arith, end.4))

  is_shortest : (cells : List Level) (loc : ℕ) (level : Level) → IsSearched pattern from cells [] → loc < vertex_count pattern → slice_get cells loc ≡ Some level → IsShortest pattern from (suc loc) level
  is_shortest cells loc Unset at within is = λ edges has.
      let there = reached cells loc edges at within has in
      let same : Unset ≡ At there.0 = same_Some Unset (At there.0) (sym is ∙ there.1) in absurd cc
  is_shortest cells loc (At level) at within is = (
    at.walked loc level is,
    λ edges has.
        let there = reached cells loc edges at within has in
        let same : At level ≡ At there.0 = same_Some (At level) (At there.0) (sym is ∙ there.1) in
        let same-level : level ≡ there.0 = cc in omega (arith, same-level, there.2),
  )

-- ---- the law

run_is : {V : Type 0} (steps : Option ℕ) (e : ℕ → Execution V) (P : ℕ → Type 0) (last : Execution V) → option_map e steps ≡ Some last → MatchOption steps (Unit {0}) P
    → (count : ℕ) × (e count ≡ last) × P count
run_is None e P last is known = absurd cc
run_is (Some steps) e P last is known = (steps, same_Some (e steps) last is, known)

pub levels_are_shortest : ((act : _) (e : Execution Level) → StopsWhenClear act e) → LevelsAreShortest
levels_are_shortest stops pattern from limit last is-pattern from-one ends =
    let act = (levelling pattern).act in
    let start : Execution Level = start_of (start_levels pattern) (first_visits pattern from) in
    let ran = run_is (steps_until act limit never start) (λ steps. after_steps act steps start) (λ steps. is_clear_before never (after_steps act steps start) ≡ true) last ends
    (clears (steps_until act limit never start) (stops act start limit never)) in
    let at : IsSearched pattern from last.cells last.pending =
    subst (λ (e : Execution Level). IsSearched pattern from e.cells e.pending) ran.1 (steps_kept pattern is-pattern from ran.0 start (start_searched pattern is-pattern from from-one)) in
    let none : last.pending ≡ [] = none_before_end last.pending (subst (λ (e : Execution Level). is_clear_before never e ≡ true) ran.1 ran.2) in
    let ended : IsSearched pattern from last.cells [] = subst (IsSearched pattern from last.cells) none at in record {
      one_each = ended.count;
      shortest = λ loc level is. is_shortest pattern is-pattern from from-one last.cells loc level ended (let within = slice_get_within last.cells loc level is in omega (arith, within, ended.count)) is;
    }
  where
    clears : (found : Option ℕ) → MatchOption found ((steps : ℕ) → steps ≤ limit → is_clear_before never (after_steps (levelling pattern).act steps (start_of (start_levels pattern) (first_visits pattern from))) ≡ false)
        (λ steps. (steps ≤ limit) × IsFirstClear (levelling pattern).act never (start_of (start_levels pattern) (first_visits pattern from)) steps)
        → MatchOption found (Unit {0}) (λ steps. is_clear_before never (after_steps (levelling pattern).act steps (start_of (start_levels pattern) (first_visits pattern from))) ≡ true)
    clears None told = tt
    clears (Some steps) told = told.1.clear

-- ---- what is written

visit_texts : (pattern : Pattern) (start : Start) (values : List Level) → IsVisitText (visit_deed pattern start values).text
visit_texts pattern start [] = inl refl
visit_texts pattern start (Unset ∷ levels) = inr (suc start.body.at, start.prio, refl)
visit_texts pattern start (At level ∷ levels) = inl refl

visits_logged : (pattern : Pattern) (e : Execution Level) (pending : List Task) → AllByRecursion (λ (entry : Entry). IsVisitText entry.1) e.log
    → AllByRecursion (λ (entry : Entry). IsVisitText entry.1) (acts (levelling pattern).act e pending).log
visits_logged pattern e [] all = all
visits_logged pattern e (task ∷ others) all =
    All-push (λ (entry : Entry). IsVisitText entry.1) e.log (task.key, ((levelling pattern).act task e.cells).text) all (visit_texts pattern (start_of_task task) (values_at (set_at (vertex_sets (vertex_count pattern)) task.body.at) e.cells))

steps_logged : (pattern : Pattern) (steps : ℕ) (e : Execution Level) → AllByRecursion (λ (entry : Entry). IsVisitText entry.1) e.log
    → AllByRecursion (λ (entry : Entry). IsVisitText entry.1) (after_steps (levelling pattern).act steps e).log
unfolding after_steps
steps_logged pattern zero e all = all
steps_logged pattern (suc steps) e all = let before = after_steps (levelling pattern).act steps e in visits_logged pattern before before.pending (steps_logged pattern steps e all)

ran_to : {V : Type 0} (steps : Option ℕ) (e : ℕ → Execution V) (last : Execution V) → option_map e steps ≡ Some last → (count : ℕ) × (e count ≡ last)
ran_to None e last is = absurd cc
ran_to (Some steps) e last is = (steps, same_Some (e steps) last is)

pub logs_are_visits : LogsAreVisits
logs_are_visits pattern from limit last ends =
    let act = (levelling pattern).act in
    let start : Execution Level = start_of (start_levels pattern) (first_visits pattern from) in
    let ran = ran_to (steps_until act limit never start) (λ steps. after_steps act steps start) last ends in
    subst (λ (e : Execution Level). AllByRecursion (λ (entry : Entry). IsVisitText entry.1) e.log) ran.1 (steps_logged pattern ran.0 start tt)
