-- What a visit to a vertex makes of the levels.
use Rattle.std.specs.Prelude.{◌≡◌, ℕ, zero, suc, ◌<◌, List, [], ◌∷◌, Some, slice_get, slice_set, refl, ◌≤◌, nat_lt}
use Rattle.std.proofs.Common.{arith, ap, sym, ◌∙◌}
use Rattle.std.proofs.lemmas.List.FromFn.{get_or-map-range_with_len}
use Rattle.std.proofs.lemmas.Option.{same_Some}
use Rattle.std.proofs.lemmas.Bool.{cond_both}
use Rattle.std.proofs.lemmas.Bool.Decides.{nat_tests}
use Rattle.task_order.specs.declared.task.Task.{Task}
use Rattle.rw_sets.specs.declared.access.Access.TheVariants.{Write}
use Rattle.rw_sets.specs.Accesses.{Accesses}
use Rattle.app_laws.specs.Execution.{Outcome}
use Rattle.app_laws.specs.Applications.{AreFitStarts}
use Rattle.app_laws.specs.Names.{start_of_task}
use Rattle.mtx_reader.specs.declared.pattern.Pattern.{Pattern}
use Rattle.hook_app.specs.Hooked.{acted, set_at}
use Rattle.hook_app.specs.OneLocation.{own_set}
use Rattle.hook_app.specs.Values.{put_values}
use Rattle.hook_app.specs.ValueLaws.{values_first}
use Rattle.level_walk.specs.declared.level.Level.{Level}
use Rattle.level_walk.specs.Levels.{IsVisit, first_visits, levelling, vertex_sets, visit_deed, visit_of, visited, walking}
use Rattle.level_walk.specs.Walks.{vertex_count}

-- the set of a vertex is its own cell
pub own_at : (vertices at : ℕ) → at < vertices → set_at (vertex_sets vertices) at ≡ own_set at
own_at vertices at below = get_or-map-range_with_len own_set 0 vertices at at [] below (omega arith)

-- a value that is put where it stood changes nothing
pub set_again : (cells : List Level) (loc : ℕ) (level : Level) → slice_get cells loc ≡ Some level → slice_set cells loc level ≡ cells
set_again [] loc level is = refl
set_again (first ∷ cells) zero level is = ap (λ (l : Level). l ∷ cells) (sym (same_Some first level is))
set_again (first ∷ cells) (suc loc) level is = ap (λ (ls : List Level). first ∷ ls) (set_again cells loc level is)

module _ (pattern : Pattern) where
  -- what a visit to a vertex of this level makes of the cells
  abbrev pub visit_at : Task → Level → List Level → Outcome Level
  visit_at task level cells = let outcome = visited pattern (suc task.body.at) task.key.prio level in
      record { cells = put_values (own_set task.body.at) outcome.cells cells; children = outcome.children; text = outcome.text }

  -- and that is what it does
  pub act_is : (task : Task) (cells : List Level) (level : Level) → IsVisit (vertex_count pattern) task.key.prio task.body → slice_get cells task.body.at ≡ Some level
      → (levelling pattern).act task cells ≡ visit_at task level cells
  act_is task cells level visit is =
      let at = task.body.at in
      let own : set_at (vertex_sets (vertex_count pattern)) at ≡ own_set at = get_or-map-range_with_len own_set 0 (vertex_count pattern) at at [] visit.vertex (omega arith) in
      let made : List Level → Outcome Level = λ values. let outcome = visit_deed pattern (start_of_task task) values in record { cells = put_values (own_set at) outcome.cells cells; children = outcome.children; text = outcome.text } in
      ap (λ (set : Accesses). acted (walking pattern) set (start_of_task task) cells) own ∙ ap made (values_first (at, Write) [] cells level is)

-- the first visit is one of the search
pub first_fit : (pattern : Pattern) (from : ℕ) → 1 ≤ from → AreFitStarts (levelling pattern) (first_visits pattern from)
first_fit pattern from from-one =
    cond_both (nat_lt (vertex_count pattern) from) [] (visit_of 0 from ∷ []) (AreFitStarts (levelling pattern)) (λ beyond. tt)
    (λ among. let near : from ≤ vertex_count pattern = grind (arith, nat_tests, among) in (record { kind = refl; vertex = omega (arith, near, from-one); arg = refl; level = omega arith }, tt))
