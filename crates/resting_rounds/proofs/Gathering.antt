-- What is gathered with one task more, and what it tells of a task's set.
use Rattle.std.proofs.Common.{◌≡◌, ◌<◌, ◌+◌, ℕ, zero, suc, Bool, true, false, ◌&&◌, ◌||◌, List, [], ◌∷◌, length, take, get_or, Option, Some, None, is_some, IsTrue, refl, sym, ap, subst, ◌∙◌, arith}
use Rattle.std.specs.Prelude.{◌==◌, slice_get, IfSome, IfNone}
use Rattle.std.proofs.lemmas.Bool.{and_parts, eqb-true, false≢true, true≢false}
use Rattle.plain_laws.specs.Bools.{or_true}
use Rattle.task_order.specs.declared.task.Task.{Task}
use Rattle.rw_sets.specs.Accesses.{writes}
use Rattle.app_laws.specs.Applications.{Application, set_in}
use Rattle.resting_rounds.specs.declared.front.Front.{Front}
use Rattle.resting_rounds.specs.declared.front.Reach.{Reach}
use Rattle.resting_rounds.specs.declared.waiting.Waiting.{Waiting}
use Rattle.resting_rounds.specs.Front.{HasCores, HasFirstSets, IsFront}
use Rattle.resting_rounds.specs.Sets.{HasSet, IsMeeting, MeetAt, any_has}
use Rattle.resting_rounds.specs.Waiting.{tasks_of}
use Rattle.resting_rounds.proofs.Gathered.{more_have, one_more_counts}

-- the task that stands at a place
pub task_at : (waiting : List Waiting) (place : ℕ) (one : Waiting) → place < length waiting → slice_get (tasks_of waiting) place ≡ Some (get_or waiting place one).task.now
task_at [] place one within = absurd (omega (arith, within))
task_at (first ∷ waiting) zero one within = refl
task_at (first ∷ waiting) (suc place) one within = task_at waiting place one (omega (arith, within))

pub as_many_tasks : (waiting : List Waiting) → length (tasks_of waiting) ≡ length waiting
as_many_tasks [] = refl
as_many_tasks (one ∷ waiting) = ap suc (as_many_tasks waiting)

pub where_none : (met : Option ℕ) (P : Type 0) → is_some met ≡ false → IfNone met P → P
where_none None P none holds = holds
where_none (Some loc) P none holds = absurd (true≢false none)

pub not_none : (met : Option ℕ) → is_some met ≡ true → met ≡ None → ⊥
not_none None some none = false≢true some
not_none (Some loc) some none = absurd cc

module _ {V C : Type 0} (app : Application V) (covers : C → ℕ → Bool) (tasks : List Task) (place : ℕ) where
  -- one core more
  pub one_core_more : (old : Reach C) (cover : C) (task : Task) (core : ℕ) → HasCores app covers tasks place old → old.count < place → slice_get tasks old.count ≡ Some task
      → ((cells : List V) → app.is_fit_cells cells → IsTrue (writes (set_in app cells task) core)) → ((loc : ℕ) → covers cover loc ≡ (covers old.cover loc || core == loc))
      → HasCores app covers tasks place (record { cover = cover; count = old.count + 1 })
  one_core_more old cover task core has below at always is = record {
    behind = omega (arith, below);
    within = λ cells loc fit has_loc. more cells loc fit (covers old.cover loc) refl (sym (is loc) ∙ has_loc);
  }
    where
      more : (cells : List V) (loc : ℕ) → app.is_fit_cells cells → (before : Bool) → covers old.cover loc ≡ before → (covers old.cover loc || core == loc) ≡ true
          → IsTrue (any_has app cells (take (old.count + 1) tasks) loc)
      more cells loc fit true before either =
          let first = has.within cells loc fit before in
          one_more_counts (λ next. writes (set_in app cells next) loc) tasks old.count task at
          ∙ ap (λ (b : Bool). b || writes (set_in app cells task) loc) first
      more cells loc fit false before either =
          let same : core ≡ loc = eqb-true core loc (sym (ap (λ (b : Bool). b || core == loc) before) ∙ either) in
          let here : writes (set_in app cells task) loc ≡ true = subst (λ (l : ℕ). writes (set_in app cells task) l ≡ true) same (always cells fit) in
          one_more_counts (λ next. writes (set_in app cells next) loc) tasks old.count task at
          ∙ ap (λ (b : Bool). any_has app cells (take old.count tasks) loc || b) here ∙ or_true (any_has app cells (take old.count tasks) loc)

  -- one set more
  pub one_set_more : (cells : List V) (old : Reach C) (cover : C) (task : Task) → HasFirstSets app covers cells tasks place old → old.count < place → slice_get tasks old.count ≡ Some task
      → ((loc : ℕ) → covers cover loc ≡ (covers old.cover loc || writes (set_in app cells task) loc))
      → HasFirstSets app covers cells tasks place (record { cover = cover; count = old.count + 1 })
  one_set_more cells old cover task has below at is = record {
    behind = omega (arith, below);
    sets = λ loc.
        is loc ∙ ap (λ (b : Bool). b || writes (set_in app cells task) loc) (has.sets loc)
        ∙ sym (one_more_counts (λ next. writes (set_in app cells next) loc) tasks old.count task at);
  }

  -- what a task has in common with what was gathered of those before the place
  pub own_tells : (cells : List V) (reach : Reach C) (own : C) (task : Task) (met : Option ℕ) → HasFirstSets app covers cells tasks place reach → HasSet app (covers own) cells task
      → IfSome met (λ loc. IsTrue (covers own loc && covers reach.cover loc)) → IfNone met ((loc : ℕ) → IsTrue (covers own loc) → covers reach.cover loc ≡ false)
      → (met ≡ None → reach.count ≡ place) → IsMeeting app cells (take place tasks) task met
  own_tells cells reach own task None has is some none all = λ loc own_has.
      subst (λ (n : ℕ). any_has app cells (take n tasks) loc ≡ false) (all refl) (sym (has.sets loc) ∙ none loc (is loc ∙ own_has))
  own_tells cells reach own task (Some loc) has is some none all =
      let both = and_parts (covers own loc) (covers reach.cover loc) some in
      record {
        own = sym (is loc) ∙ both.0;
        others_too = more_have (λ next. writes (set_in app cells next) loc) tasks reach.count place has.behind (sym (has.sets loc) ∙ both.1);
      }

  -- a location of the task's set that was gathered
  pub gathered_tells : (cells : List V) (reach : Reach C) (task : Task) (loc : ℕ) → HasFirstSets app covers cells tasks place reach → IsTrue (writes (set_in app cells task) loc) → IsTrue (covers reach.cover loc)
      → MeetAt app cells (take place tasks) task loc
  gathered_tells cells reach task loc has own gathered = record {
    own = own;
    others_too = more_have (λ next. writes (set_in app cells next) loc) tasks reach.count place has.behind (sym (has.sets loc) ∙ gathered);
  }

  pub core_tells : (cells : List V) (reach : Reach C) (task : Task) (loc : ℕ) → app.is_fit_cells cells → HasCores app covers tasks place reach → IsTrue (writes (set_in app cells task) loc) → IsTrue (covers reach.cover loc)
      → MeetAt app cells (take place tasks) task loc
  core_tells cells reach task loc fit has own gathered = record {
    own = own;
    others_too = more_have (λ next. writes (set_in app cells next) loc) tasks reach.count place has.behind (has.within cells loc fit gathered);
  }

  -- where something of the task's set is among gathered cores
  pub cores_tell : (cells : List V) (reach : Reach C) (task : Task) (met : Option ℕ) → app.is_fit_cells cells → HasCores app covers tasks place reach
      → IfSome met (λ loc. IsTrue (writes (set_in app cells task) loc)) → IfSome met (λ loc. IsTrue (covers reach.cover loc)) → IfSome met (MeetAt app cells (take place tasks) task)
  cores_tell cells reach task None fit has own gathered = own
  cores_tell cells reach task (Some loc) fit has own gathered = core_tells cells reach task loc fit has own gathered

  -- what was gathered of those before a place was gathered of those before the next
  pub further_on : (cells : List V) (front : Front C) → IsFront app covers cells tasks place front → IsFront app covers cells tasks (place + 1) front
  further_on cells front is = record {
    sets = record { behind = omega (arith, is.sets.behind); sets = is.sets.sets };
    cores = record { behind = omega (arith, is.cores.behind); within = is.cores.within };
  }
