-- What a look finds with one task more.
use Rattle.std.proofs.Common.{◌≡◌, ◌+◌, ℕ, Bool, true, false, not, ◌||◌, List, [], ◌∷◌, ◌++◌, take, Option, Some, None, cond, refl, sym, ap, subst, ◌∙◌, append-nil}
use Rattle.std.specs.Prelude.{slice_get, IfSome, IfNone}
use Rattle.std.specs.List.{AllByRecursion, filter}
use Rattle.std.proofs.lemmas.List.Elements.{filter-append}
use Rattle.std.proofs.lemmas.List.Folds.{list_any-append}
use Rattle.plain_laws.specs.Lists.{All-push, All-found}
use Rattle.plain_laws.specs.Bools.{or_false}
use Rattle.task_order.specs.declared.task.Task.{Task}
use Rattle.task_order.specs.TaskList.{tasks_before}
use Rattle.task_order.specs.TaskListLaws.{tasks_before-place}
use Rattle.rw_sets.specs.Accesses.{writes}
use Rattle.app_laws.specs.Applications.{Application, IsFitTask, set_in}
use Rattle.commuting.specs.Clear.{IsReady}
use Rattle.commuting.specs.Rounds.{is_clear}
use Rattle.commuting.specs.States.{State}
use Rattle.resting_rounds.specs.declared.waiting.Waiting.{Waiting}
use Rattle.resting_rounds.specs.Basis.{Basis}
use Rattle.resting_rounds.specs.Sets.{HasSets, IsMeeting, any_has}
use Rattle.resting_rounds.specs.Waiting.{MayRest, MeetsEarlierAt, Rests, blocked, still_watched, tasks_of}
use Rattle.resting_rounds.proofs.Gathered.{one_more_taken}
use Rattle.resting_rounds.proofs.Meetings.{apart_is_clear, meets_is_not_clear}

-- ---- lists with one item more

pub one_passes : {X : Type 0} (test : X → Bool) (made xs : List X) (x : X) → made ≡ filter test xs → test x ≡ true → made ++ x ∷ [] ≡ filter test (xs ++ x ∷ [])
one_passes {X} test made xs x is passes =
    ap (λ (all : List X). all ++ x ∷ []) is ∙ ap (λ (b : Bool). filter test xs ++ cond b (x ∷ []) []) (sym passes) ∙ sym (filter-append test xs (x ∷ []))

pub one_fails : {X : Type 0} (test : X → Bool) (made xs : List X) (x : X) → made ≡ filter test xs → test x ≡ false → made ≡ filter test (xs ++ x ∷ [])
one_fails {X} test made xs x is fails =
    is ∙ sym (append-nil (filter test xs)) ∙ ap (λ (b : Bool). filter test xs ++ cond b (x ∷ []) []) (sym fails) ∙ sym (filter-append test xs (x ∷ []))

pub tasks_more : (waiting : List Waiting) (one : Waiting) → tasks_of (waiting ++ one ∷ []) ≡ tasks_of waiting ++ one.task.now ∷ []
tasks_more [] one = refl
tasks_more (first ∷ waiting) one = ap (λ (rest : List Task). first.task.now ∷ rest) (tasks_more waiting one)

module _ {V : Type 0} (app : Application V) where
  -- the sets of one task more
  pub sets_more : (has now own : ℕ → Bool) (cells : List V) (tasks : List Task) (task : Task) → HasSets app has cells tasks → ((loc : ℕ) → now loc ≡ (has loc || own loc)) → ((loc : ℕ) → own loc ≡ writes (set_in app cells task) loc)
      → HasSets app now cells (tasks ++ task ∷ [])
  sets_more has now own cells tasks task is joined own_is loc =
      joined loc ∙ ap (λ (b : Bool). b || own loc) (is loc) ∙ ap (λ (b : Bool). any_has app cells tasks loc || b) (own_is loc ∙ sym (or_false (writes (set_in app cells task) loc)))
      ∙ sym (list_any-append (λ next. writes (set_in app cells next) loc) tasks (task ∷ []))

  module _ (basis : Basis app) (state : State V) (ready : IsReady app state) (place : ℕ) (task : Task) (there : slice_get state.pending place ≡ Some task) where
    fit : IsFitTask app task
    fit = All-found (IsFitTask app) state.pending place task ready.tasks there

    before : tasks_before task.key state.pending ≡ take place state.pending
    before = tasks_before-place state.pending place task ready.ascending there

    -- what meets one of those in front rests there, and isn't clear
    pub rests_there : (loc : ℕ) → IsMeeting app state.cells (take place state.pending) task (Some loc) → MeetsEarlierAt app state task loc
    rests_there loc meets = subst (λ (earlier : List Task). IsMeeting app state.cells earlier task (Some loc)) (sym before) meets

    pub not_clear_there : (loc : ℕ) → MeetsEarlierAt app state task loc → not (is_clear app state task) ≡ true
    not_clear_there loc meets = ap not (meets_is_not_clear app basis state ready task fit loc meets)

    -- what meets none of them is clear
    pub clear_there : IsMeeting app state.cells (take place state.pending) task None → is_clear app state task ≡ true
    clear_there apart = apart_is_clear app basis state ready task fit (subst (λ (earlier : List Task). IsMeeting app state.cells earlier task None) (sym before) apart)

    still_meets_there : (acted : ℕ → Bool) (one : Waiting) (loc : ℕ) → one.task.now ≡ task → MayRest app acted state one → still_watched acted one.watched ≡ Some loc → MeetsEarlierAt app state task loc
    still_meets_there acted one loc same may still =
        subst (λ (t : Task). MeetsEarlierAt app state t loc) same (by_watched one.watched refl still)
      where
        by_acted : (at : ℕ) (has : Bool) → one.watched ≡ Some at → acted at ≡ has → cond has None (Some at) ≡ Some loc → MeetsEarlierAt app state one.task.now loc
        by_acted at true is has nothing = absurd cc
        by_acted at false is has some = let here : at ≡ loc = cc in subst (λ (n : ℕ). MeetsEarlierAt app state one.task.now n) here (may.meets at is has)

        by_watched : (watched : Option ℕ) → one.watched ≡ watched → still_watched acted watched ≡ Some loc → MeetsEarlierAt app state one.task.now loc
        by_watched None is nothing = absurd cc
        by_watched (Some at) is some = by_acted at (acted at) is refl some

    -- what it still watches, it still meets
    pub still_rests : (acted : ℕ → Bool) (one : Waiting) (met : Option ℕ) → one.task.now ≡ task → MayRest app acted state one → met ≡ still_watched acted one.watched → IfSome met (MeetsEarlierAt app state task)
    still_rests acted one None same may is = tt
    still_rests acted one (Some loc) same may is = still_meets_there acted one loc same may (sym is)

    pub meeting_rests : (met : Option ℕ) → IsMeeting app state.cells (take place state.pending) task met → IfSome met (MeetsEarlierAt app state task)
    meeting_rests None meets = tt
    meeting_rests (Some loc) meets = rests_there loc meets

    pub meeting_clear : (met : Option ℕ) → IsMeeting app state.cells (take place state.pending) task met → IfNone met (is_clear app state task ≡ true)
    meeting_clear None meets = clear_there meets
    meeting_clear (Some loc) meets = tt

    one_more : take (place + 1) state.pending ≡ take place state.pending ++ task ∷ []
    one_more = one_more_taken state.pending place task there

    -- a task that rests is one of those that come later
    pub clear_same : (clear : List Task) (loc : ℕ) → clear ≡ filter (is_clear app state) (take place state.pending) → MeetsEarlierAt app state task loc → clear ≡ filter (is_clear app state) (take (place + 1) state.pending)
    clear_same clear loc is meets =
        one_fails (is_clear app state) clear (take place state.pending) task is (meets_is_not_clear app basis state ready task fit loc meets) ∙ ap (filter (is_clear app state)) (sym one_more)

    pub later_more : (later now : List Waiting) (one : Waiting) (loc : ℕ) → tasks_of later ≡ blocked app state (take place state.pending) → now ≡ later ++ one ∷ [] → one.task.now ≡ task → MeetsEarlierAt app state task loc
        → tasks_of now ≡ blocked app state (take (place + 1) state.pending)
    later_more later now one loc is more same meets =
        ap tasks_of more ∙ tasks_more later one ∙ ap (λ (t : Task). tasks_of later ++ t ∷ []) same
        ∙ one_passes (λ next. not (is_clear app state next)) (tasks_of later) (take place state.pending) task is (not_clear_there loc meets)
        ∙ ap (blocked app state) (sym one_more)

    pub resting_more : (later now : List Waiting) (one : Waiting) → AllByRecursion (Rests app state) later → now ≡ later ++ one ∷ [] → Rests app state one → AllByRecursion (Rests app state) now
    resting_more later now one all more rests = subst (AllByRecursion (Rests app state)) (sym more) (All-push (Rests app state) later one all rests)

    -- a clear one is one of those that act
    pub clear_more : (clear now : List Task) (copy : Task) → clear ≡ filter (is_clear app state) (take place state.pending) → now ≡ clear ++ copy ∷ [] → copy ≡ task → is_clear app state task ≡ true
        → now ≡ filter (is_clear app state) (take (place + 1) state.pending)
    clear_more clear now copy is more same passes =
        more ∙ ap (λ (t : Task). clear ++ t ∷ []) same ∙ one_passes (is_clear app state) clear (take place state.pending) task is passes ∙ ap (filter (is_clear app state)) (sym one_more)

    pub acting_more : (has now own : ℕ → Bool) (clear all : List Task) (copy : Task) → HasSets app has state.cells clear → all ≡ clear ++ copy ∷ [] → copy ≡ task → ((loc : ℕ) → now loc ≡ (has loc || own loc))
        → ((loc : ℕ) → own loc ≡ writes (set_in app state.cells task) loc) → HasSets app now state.cells all
    acting_more has now own clear all copy is more same joined own_is =
        subst (HasSets app now state.cells) (sym (more ∙ ap (λ (t : Task). clear ++ t ∷ []) same)) (sets_more has now own state.cells clear task is joined own_is)

    pub later_same : (later : List Waiting) → tasks_of later ≡ blocked app state (take place state.pending) → is_clear app state task ≡ true → tasks_of later ≡ blocked app state (take (place + 1) state.pending)
    later_same later is passes =
        one_fails (λ next. not (is_clear app state next)) (tasks_of later) (take place state.pending) task is (ap not passes) ∙ ap (blocked app state) (sym one_more)

pub same_there : {X : Type 0} (xs : List X) (place : ℕ) (x y : X) → slice_get xs place ≡ Some x → slice_get xs place ≡ Some y → x ≡ y
same_there xs place x y one other = cc

pub where_nothing : (met : Option ℕ) (P : Type 0) → met ≡ None → IfNone met P → P
where_nothing met P is holds = subst (λ (m : Option ℕ). IfNone m P) is holds
