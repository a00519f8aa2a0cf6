-- What a round leaves of waiting tasks.
use Rattle.std.proofs.Common.{◌≡◌, ℕ, Bool, true, false, not, ◌||◌, List, [], ◌∷◌, Option, Some, cond, refl, sym, ap, subst, ◌∙◌}
use Rattle.std.specs.Prelude.{IsSomeAnd}
use Rattle.std.specs.List.{AllByRecursion, filter, list_any}
use Rattle.std.specs.Ordering.{is_eq}
use Rattle.std.specs.declared.cmp.Ordering.TheVariants.{Less}
use Rattle.std.proofs.lemmas.Bool.{or_parts}
use Rattle.plain_laws.specs.Lists.{All-filter, All-weaker}
use Rattle.task_order.specs.declared.start.Start.{Start}
use Rattle.task_order.specs.declared.task.Task.{Task}
use Rattle.task_order.specs.Key.{key_cmp}
use Rattle.task_order.specs.TaskList.{IsAscending, has_key, is_earlier, put_all, tasks_before, without}
use Rattle.rw_sets.specs.Accesses.{writes}
use Rattle.cell_store.specs.declared.cell.Cell.{Cell}
use Rattle.cell_store.specs.Values.{values_of}
use Rattle.app_laws.specs.Applications.{Application, AreFitTasks, IsFitTask, set_in}
use Rattle.app_laws.specs.Execution.{children_from}
use Rattle.commuting.specs.Clear.{IsReady}
use Rattle.commuting.specs.Rounds.{after_round, clear_tasks, is_clear}
use Rattle.commuting.specs.States.{State, after_tasks, state_of}
use Rattle.resting_rounds.specs.declared.looking.Found.{Found}
use Rattle.resting_rounds.specs.declared.waiting.Waiting.{Waiting}
use Rattle.resting_rounds.specs.Basis.{Basis}
use Rattle.resting_rounds.specs.Found.{IsFound}
use Rattle.resting_rounds.specs.Sets.{any_has}
use Rattle.resting_rounds.specs.Waiting.{AreWaiting, MayRest, MeetsEarlierAt, Rests, blocked, state_in, tasks_of}
use Rattle.resting_rounds.proofs.Meetings.{in_range}

-- ---- lists of tasks from which some are taken out

abbrev all_without : List Task → List Task → List Task
all_without [] pending = pending
all_without (task ∷ tasks) pending = all_without tasks (without task.key pending)

-- those that pass a test are behind none that don't: an earlier task stands where others go
stays : (task : Task) (tasks pending : List Task) → AllByRecursion (λ other. has_key other.key task ≡ false) tasks → all_without tasks (task ∷ pending) ≡ task ∷ all_without tasks pending
stays task [] pending all = refl
stays task (other ∷ tasks) pending all =
    ap (λ (b : Bool). all_without tasks (cond (not b) (task ∷ without other.key pending) (without other.key pending))) all.0
    ∙ stays task tasks (without other.key pending) all.1

-- the tasks that don't pass
abbrev others : (Task → Bool) → List Task → List Task
others test tasks = filter (λ task. not (test task)) tasks

module _ (test earlier counts : Task → Bool) where
  same_behind : (task : Task) (some all : List Task) (before : Bool) → list_any counts some ≡ list_any counts all
      → list_any counts (cond before (task ∷ some) some) ≡ list_any counts (cond before (task ∷ all) all)
  same_behind task some all true same = ap (λ (b : Bool). counts task || b) same
  same_behind task some all false same = same

  uncounted : (task : Task) (all : List Task) (before : Bool) → counts task ≡ false → list_any counts all ≡ list_any counts (cond before (task ∷ all) all)
  uncounted task all true uncounts = sym (ap (λ (b : Bool). b || list_any counts all) uncounts)
  uncounted task all false uncounts = refl

  -- where those that pass don't count, the others tell all
  others_tell : (tasks : List Task) → list_any counts (filter test tasks) ≡ false → list_any counts (filter earlier (others test tasks)) ≡ list_any counts (filter earlier tasks)
  others_tell [] none = refl
  others_tell (task ∷ tasks) none = by_test (test task) none (others_tell tasks)
    where
      by_test : (passes : Bool) → list_any counts (cond passes (task ∷ filter test tasks) (filter test tasks)) ≡ false
          → (list_any counts (filter test tasks) ≡ false → list_any counts (filter earlier (others test tasks)) ≡ list_any counts (filter earlier tasks))
          → list_any counts (filter earlier (cond (not passes) (task ∷ others test tasks) (others test tasks))) ≡ list_any counts (cond (earlier task) (task ∷ filter earlier tasks) (filter earlier tasks))
      by_test true none_passes again =
          let both = or_parts (counts task) (list_any counts (filter test tasks)) none_passes in
          again both.1 ∙ uncounted task (filter earlier tasks) (earlier task) both.0
      by_test false none_passes again = same_behind task (filter earlier (others test tasks)) (filter earlier tasks) (earlier task) (again none_passes)

module _ {V : Type 0} (app : Application V) (basis : Basis app) where
  itself_gone : (task : Task) (tasks : List Task) → IsAscending (task ∷ tasks) → without task.key (task ∷ tasks) ≡ tasks
  itself_gone task tasks ascending =
      let itself : has_key task.key task ≡ true = ap is_eq (basis.equal task.key) in
      ap (λ (b : Bool). cond (not b) (task ∷ without task.key tasks) (without task.key tasks)) itself
      ∙ basis.new_key task.key tasks (basis.distinct (task ∷ tasks) ascending).0

  gone : (test : Task → Bool) (pending : List Task) → IsAscending pending → all_without (filter test pending) pending ≡ others test pending
  gone test [] ascending = refl
  gone test (task ∷ tasks) ascending = by_test (test task) (gone test tasks ascending.1)
    where
      by_test : (passes : Bool) → all_without (filter test tasks) tasks ≡ others test tasks
          → all_without (cond passes (task ∷ filter test tasks) (filter test tasks)) (task ∷ tasks) ≡ cond (not passes) (task ∷ others test tasks) (others test tasks)
      by_test true again = ap (all_without (filter test tasks)) (itself_gone task tasks ascending) ∙ again
      by_test false again =
          stays task (filter test tasks) tasks
          (All-filter (λ (other : Task). has_key other.key task ≡ false) test tasks
          (All-weaker (λ (other : Task). key_cmp task.key other.key ≡ Less) (λ (other : Task). has_key other.key task ≡ false) (λ other less. ap is_eq less) tasks ascending.0))
          ∙ ap (λ (rest : List Task). task ∷ rest) again

  -- ---- what tasks without children leave

  left_behind : (tasks pending : List Task) (cells : List V) → app.is_fit_cells cells → AreFitTasks app tasks → (after_tasks app.act tasks (state_of cells pending)).pending ≡ all_without tasks pending
  left_behind [] pending cells fit all = refl
  left_behind (task ∷ tasks) pending cells fit all =
      let now = (app.act task cells).cells in
      let rest = put_all (children_from task.key 0 (app.act task cells).children) (without task.key pending) in
      let childless : rest ≡ without task.key pending =
      ap (λ (children : List Start). put_all (children_from task.key 0 children) (without task.key pending)) (basis.resting.childless task cells fit all.0) in
      left_behind tasks rest now (basis.lawful.acts_are_fit task cells fit all.0).cells all.1 ∙ ap (all_without tasks) childless

  -- ---- sets outside those of tasks that acted

  same_has : (loc : ℕ) (cells now : List V) (tasks : List Task) → AreFitTasks app tasks
      → ((other : Task) → IsFitTask app other → writes (set_in app now other) loc ≡ writes (set_in app cells other) loc) → any_has app now tasks loc ≡ any_has app cells tasks loc
  same_has loc cells now [] all same = refl
  same_has loc cells now (task ∷ tasks) all same =
      ap (λ (b : Bool). b || any_has app now tasks loc) (same task all.0)
      ∙ ap (λ (b : Bool). writes (set_in app cells task) loc || b) (same_has loc cells now tasks all.1 same)

  -- whatever tasks do, each set has as much as before of a location that none of their sets had
  kept_outside : (loc : ℕ) (tasks pending : List Task) (cells : List V) → app.is_fit_cells cells → AreFitTasks app tasks → any_has app cells tasks loc ≡ false
      → (other : Task) → IsFitTask app other → writes (set_in app (after_tasks app.act tasks (state_of cells pending)).cells other) loc ≡ writes (set_in app cells other) loc
  kept_outside loc [] pending cells fit all none other fit_other = refl
  kept_outside loc (task ∷ tasks) pending cells fit all none other fit_other =
      let now = (app.act task cells).cells in
      let rest = put_all (children_from task.key 0 (app.act task cells).children) (without task.key pending) in
      let both = or_parts (writes (set_in app cells task) loc) (any_has app cells tasks loc) none in
      let one = λ (next : Task) (fit_next : IsFitTask app next). basis.resting.rest_is_kept task next cells loc fit all.0 fit_next both.0 in
      kept_outside loc tasks rest now (basis.lawful.acts_are_fit task cells fit all.0).cells all.1 (same_has loc cells now tasks all.1 one ∙ both.1) other fit_other
      ∙ one other fit_other

  -- ---- the round

  module _ (state : State V) (ready : IsReady app state) where
    clear_fit : AreFitTasks app (clear_tasks app state)
    clear_fit = All-filter (IsFitTask app) (is_clear app state) state.pending ready.tasks

    left_by_round : (after_round app state).pending ≡ blocked app state state.pending
    left_by_round =
        left_behind (clear_tasks app state) state.pending state.cells ready.cells clear_fit
        ∙ gone (is_clear app state) state.pending ready.ascending

    still_meets : (task : Task) (loc : ℕ) → IsFitTask app task → any_has app state.cells (clear_tasks app state) loc ≡ false → MeetsEarlierAt app state task loc
        → MeetsEarlierAt app (after_round app state) task loc
    still_meets task loc fit none meets =
        let now = (after_round app state).cells in
        let same = kept_outside loc (clear_tasks app state) state.pending state.cells ready.cells clear_fit none in
        let left = blocked app state state.pending in
        let before = tasks_before task.key left in
        let before_fit : AreFitTasks app before = All-filter (IsFitTask app) (is_earlier task.key) left (All-filter (IsFitTask app) (λ next. not (is_clear app state next)) state.pending ready.tasks) in
        record {
          own = same task fit ∙ meets.own;
          others_too =
              ap (λ (pending : List Task). any_has app now (tasks_before task.key pending) loc) left_by_round
              ∙ same_has loc state.cells now before before_fit same
              ∙ others_tell (is_clear app state) (is_earlier task.key) (λ next. writes (set_in app state.cells next) loc) state.pending none
              ∙ meets.others_too;
        }

    may_rest : (acted : ℕ → Bool) (one : Waiting) → IsFitTask app one.task.now → ((loc : ℕ) → acted loc ≡ any_has app state.cells (clear_tasks app state) loc)
        → Rests app state one → MayRest app acted (after_round app state) one
    may_rest acted one fit are rests =
        let at = λ (loc : ℕ) (is : one.watched ≡ Some loc). subst (λ (watched : Option ℕ). IsSomeAnd watched (MeetsEarlierAt app state one.task.now)) is rests in
        record {
          below = λ loc is. in_range app basis state.cells ready.cells one.task.now fit loc (at loc is).own;
          meets = λ loc is none. still_meets one.task.now loc fit (sym (are loc) ∙ none) (at loc is);
        }

    all_may_rest : (acted : ℕ → Bool) (waiting : List Waiting) → AreFitTasks app (tasks_of waiting) → ((loc : ℕ) → acted loc ≡ any_has app state.cells (clear_tasks app state) loc)
        → AllByRecursion (Rests app state) waiting → AllByRecursion (MayRest app acted (after_round app state)) waiting
    all_may_rest acted [] fit are all = tt
    all_may_rest acted (one ∷ waiting) fit are all = (may_rest acted one fit.0 are all.0, all_may_rest acted waiting fit.1 are all.1)

    -- what a look found waits for the next one, where the clear tasks have acted
    pub go_on_waiting : {C : Type 0} (covers : C → ℕ → Bool) (found : Found C) → IsFound app covers state state.pending found
        → AreWaiting app (covers found.acting) (after_round app state) found.later.items
    go_on_waiting covers found is = record {
      tasks = is.later ∙ sym left_by_round;
      each = all_may_rest (covers found.acting) found.later.items
          (subst (AreFitTasks app) (sym is.later) (All-filter (IsFitTask app) (λ next. not (is_clear app state next)) state.pending ready.tasks))
          (λ loc. is.acting loc ∙ ap (λ (tasks : List Task). any_has app state.cells tasks loc) is.clear)
          is.resting;
    }

-- what a look is asked for, and what it finds, speaks of the run's state
pub same_state : {V : Type 0} (state : State V) (store : List (Cell V)) (waiting lent : List Waiting) → tasks_of waiting ≡ state.pending → values_of store ≡ state.cells → lent ≡ waiting → state_in store lent ≡ state
same_state state store waiting lent pending cells same = λ i. record { cells = cells i; pending = (ap tasks_of same ∙ pending) i }
