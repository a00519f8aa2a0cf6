-- What acting visits leave at each place.
use Rattle.std.specs.Prelude.{◌≡◌, ℕ, ◌<◌, List, [], ◌∷◌, length, Some, slice_get}
use Rattle.std.specs.List.{AllByRecursion}
use Rattle.std.proofs.Common.{arith, ap, sym, subst, ◌∙◌, inl, inr}
use Rattle.std.proofs.lemmas.Bool.{cases_eq}
use Rattle.plain_laws.specs.Lists.{get-set_same}
use Rattle.task_order.specs.declared.task.Task.{Task}
use Rattle.app_laws.specs.Execution.{Outcome}
use Rattle.mtx_reader.specs.declared.pattern.Pattern.{Pattern}
use Rattle.mtx_reader.specs.Patterns.{IsPattern}
use Rattle.hook_app.specs.ValueLaws.{found, get-set_other}
use Rattle.level_walk.specs.declared.level.Level.{Level}
use Rattle.level_walk.specs.declared.level.Level.TheVariants.{Unset, At}
use Rattle.level_walk.specs.Levels.{IsVisit}
use Rattle.level_walk.specs.VisitLaws.{act_is, set_again, visit_at}
use Rattle.level_walk.specs.Walks.{vertex_count}
use Rattle.level_search.proofs.Acting.{IsVisitAt, act, cells_after}
use Rattle.level_search.proofs.OneVisit.{cells_stay}

-- the vertex at the place has a level
pub record IsSet (cells : List Level) (place : ℕ) : Type 0 where
  pub level : ℕ
  pub is : slice_get cells place ≡ Some (At level)

module _ (pattern : Pattern) (task : Task) (cells : List Level) (visit : IsVisit (vertex_count pattern) task.key.prio task.body) where
  -- where it has one, a visit changes nothing
  pub idle : IsSet cells task.body.at → act pattern task cells ≡ record { cells = cells; children = []; text = [] }
  idle set =
      act_is pattern task cells (At set.level) visit set.is
      ∙ ap (λ (ls : List Level). let outcome : Outcome Level = record { cells = ls; children = []; text = [] } in outcome) (set_again cells task.body.at (At set.level) set.is)

  module _ (count : length cells ≡ vertex_count pattern) where
    within : task.body.at < length cells
    within = omega (arith, count, visit.vertex)

    -- by what is found at its place
    by_level : (P : Outcome Level → Type 0) → ((level : Level) → slice_get cells task.body.at ≡ Some level → P (visit_at pattern task level cells)) → P (act pattern task cells)
    by_level P each =
        let here = found cells task.body.at within in
        subst P (sym (act_is pattern task cells here.0 visit here.1)) (each here.0 here.1)

    -- then it has one
    pub sets : IsSet (act pattern task cells).cells task.body.at
    sets = by_level (λ (outcome : Outcome Level). IsSet outcome.cells task.body.at) each
      where
        each : (level : Level) → slice_get cells task.body.at ≡ Some level → IsSet (visit_at pattern task level cells).cells task.body.at
        each Unset is = record { level = task.key.prio; is = get-set_same cells task.body.at (At task.key.prio) within }
        each (At level) is = record { level = level; is = get-set_same cells task.body.at (At level) within }

    -- and the others keep theirs
    pub keeps_set : (place : ℕ) → IsSet cells place → IsSet (act pattern task cells).cells place
    keeps_set place set = elim (cases_eq place task.body.at) [
      | inl here ↦ subst (IsSet (act pattern task cells).cells) (sym here) sets
      | inr elsewhere ↦ by_level (λ (outcome : Outcome Level). IsSet outcome.cells place) (each elsewhere)
    ]
      where
        each : (place ≡ task.body.at → ⊥) → (level : Level) → slice_get cells task.body.at ≡ Some level → IsSet (visit_at pattern task level cells).cells place
        each elsewhere Unset is = record { level = set.level; is = get-set_other cells task.body.at place (At task.key.prio) elsewhere ∙ set.is }
        each elsewhere (At level) is = record { level = set.level; is = get-set_other cells task.body.at place (At level) elsewhere ∙ set.is }

module _ (pattern : Pattern) (is-pattern : IsPattern pattern) (level : ℕ) where
  -- places keep their levels while visits act
  pub all_keep_set : (place : ℕ) (tasks : List Task) (cells : List Level) → AllByRecursion (IsVisitAt pattern level) tasks → length cells ≡ vertex_count pattern
      → IsSet cells place → IsSet (cells_after pattern tasks cells) place
  all_keep_set place [] cells visits count set = set
  all_keep_set place (task ∷ tasks) cells visits count set =
      all_keep_set place tasks (act pattern task cells).cells visits.1 (cells_stay pattern is-pattern task cells ∙ count) (keeps_set pattern task cells visits.0.visit count place set)

  -- and each that they go to has one then
  pub all_set : (tasks : List Task) (cells : List Level) → AllByRecursion (IsVisitAt pattern level) tasks → length cells ≡ vertex_count pattern
      → AllByRecursion (λ task. IsSet (cells_after pattern tasks cells) task.body.at) tasks
  all_set [] cells visits count = tt
  all_set (task ∷ tasks) cells visits count =
      let next = cells_stay pattern is-pattern task cells ∙ count in (
        all_keep_set task.body.at tasks (act pattern task cells).cells visits.1 next (sets pattern task cells visits.0.visit count),
        all_set tasks (act pattern task cells).cells visits.1 next,
      )
