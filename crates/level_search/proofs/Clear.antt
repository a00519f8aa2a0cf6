-- Which visits are clear where those of one level are pending, and others at the next.
use Rattle.std.specs.Prelude.{◌≡◌, ◌≢◌, ℕ, suc, ◌+◌, ◌<◌, ◌==◌, nat_lt, Bool, true, false, not, ◌&&◌, ◌||◌, List, [], ◌∷◌, ◌++◌, refl}
use Rattle.std.specs.List.{AllByRecursion, filter, list_any}
use Rattle.std.specs.declared.cmp.Ordering.TheVariants.{Less}
use Rattle.std.specs.Ordering.{is_lt, nat_cmp, ordering_then}
use Rattle.std.specs.Cmp.Lexicographic.{slice_cmp}
use Rattle.std.proofs.Common.{arith, ap, sym, subst, ◌∙◌, cond, inl, inr, append_assoc, append-nil}
use Rattle.std.proofs.lemmas.Bool.{and_from, and_left, and_right, cases_eq, cond-true}
use Rattle.std.proofs.lemmas.Bool.Decides.{nat_tests}
use Rattle.std.proofs.lemmas.List.Elements.{filter-append}
use Rattle.std.proofs.lemmas.List.Folds.{list_any-append}
use Rattle.plain_laws.specs.Lists.{All-append, All-weaker, filter-all, filter-none}
use Rattle.task_order.specs.declared.task.Task.{Task}
use Rattle.task_order.specs.declared.key.Key.{Key}
use Rattle.task_order.specs.Key.{key_cmp}
use Rattle.task_order.specs.TaskList.{IsAscending, is_earlier, tasks_before}
use Rattle.rw_sets.specs.Accesses.{conflicts_with}
use Rattle.app_laws.specs.Applications.{set_in}
use Rattle.commuting.specs.Rounds.{clear_tasks, is_clear}
use Rattle.commuting.specs.States.{state_of}
use Rattle.mtx_reader.specs.declared.pattern.Pattern.{Pattern}
use Rattle.hook_app.specs.Hooked.{is_ahead}
use Rattle.hook_app.specs.OneLocation.{own_set}
use Rattle.level_walk.specs.declared.level.Level.{Level}
use Rattle.level_walk.specs.Levels.{levelling}
use Rattle.level_walk.specs.VisitLaws.{own_at}
use Rattle.level_walk.specs.Walks.{vertex_count}
use Rattle.level_search.specs.Basis.{Basis}
use Rattle.level_search.proofs.Acting.{AreVisitsAt, IsVisitAt}
use Rattle.level_search.proofs.Firsts.{earlier_front, firsts, is_seen, later_behind}

-- ---- truth values

cond_not : {X : Type 0} (test : Bool) (x y : X) → cond (not test) x y ≡ cond test y x
cond_not true x y = refl
cond_not false x y = refl

or_turned : (x y : Bool) → (x || (y || false)) ≡ (y || x)
or_turned true true = refl
or_turned true false = refl
or_turned false true = refl
or_turned false false = refl

-- ---- sets and priorities

-- a key at a lower priority is earlier
lower_first : (a b : Key) → a.prio < b.prio → key_cmp a b ≡ Less
lower_first a b lower =
    let prio : nat_cmp a.prio b.prio ≡ Less = grind (arith, nat_tests, lower) in
    ap (λ o. ordering_then o (slice_cmp nat_cmp a.path b.path)) prio

-- two sets of one place conflict where the places are the same
own_conflict : (a b : ℕ) → conflicts_with (own_set a) (own_set b) ≡ (suc a == suc b)
own_conflict a b = elim (cases_eq a b) [
  | inl is ↦ grind (arith, nat_tests)
  | inr differs ↦ grind (arith, nat_tests)
]

-- whether a task visits the vertex
abbrev goes_to : ℕ → Task → Bool
goes_to vertex task = suc task.body.at == vertex

-- the vertices that these visit are the ones that were seen
abbrev pub AreSeen : List Task → List ℕ → Type 0
AreSeen tasks seen = (vertex : ℕ) → list_any (goes_to vertex) tasks ≡ is_seen vertex seen

seen_more : (tasks : List Task) (seen : List ℕ) (task : Task) → AreSeen tasks seen → AreSeen (tasks ++ task ∷ []) (suc task.body.at ∷ seen)
seen_more tasks seen task are vertex =
    list_any-append (goes_to vertex) tasks (task ∷ [])
    ∙ or_turned (list_any (goes_to vertex) tasks) (goes_to vertex task)
    ∙ ap (λ b. goes_to vertex task || b) (are vertex)

-- a task is safe behind those of its own level
same_level_ahead : (level : ℕ) (task : Task) (tasks : List Task) → task.key.prio ≡ level → AllByRecursion (λ other. other.key.prio ≡ level) tasks → is_ahead 1 task tasks ≡ true
same_level_ahead level task [] here all = refl
same_level_ahead level task (other ∷ tasks) here all =
    let before : nat_lt task.key.prio (other.key.prio + 1) ≡ true = let there = all.0 in grind (arith, nat_tests, here, there) in
    and_from (nat_lt task.key.prio (other.key.prio + 1)) (is_ahead 1 task tasks) before (same_level_ahead level task tasks here all.1)

module _ (pattern : Pattern) (basis : Basis) where
  -- in an ascending list those before a task are the ones in front of it
  before_is_front : (front : List Task) (task : Task) (rest : List Task) → AllByRecursion (λ other. key_cmp other.key task.key ≡ Less) front → AllByRecursion (λ other. key_cmp task.key other.key ≡ Less) rest
      → tasks_before task.key (front ++ task ∷ rest) ≡ front
  before_is_front front task rest earlier later =
      let Earlier = is_earlier task.key in
      let same : Earlier task ≡ false = ap is_lt (basis.equal task.key) in
      let beyond : AllByRecursion (λ other. Earlier other ≡ false) rest =
      All-weaker (λ (other : Task). key_cmp task.key other.key ≡ Less) (λ other. Earlier other ≡ false) (λ other less. ap is_lt ((basis.turned task.key other.key).0 less)) rest later in
      filter-append Earlier front (task ∷ rest)
      ∙ (λ i. filter-all Earlier front (All-weaker (λ (other : Task). key_cmp other.key task.key ≡ Less) (λ other. Earlier other ≡ true) (λ other less. ap is_lt less) front earlier) i
      ++ filter-none Earlier (task ∷ rest) (same, beyond) i)
      ∙ append-nil front

  module _ (level : ℕ) (cells : List Level) where
    -- the set of a visit is the place of its vertex
    set_of_visit : (task : Task) → IsVisitAt pattern level task → set_in (levelling pattern) cells task ≡ own_set task.body.at
    set_of_visit task visit = own_at (vertex_count pattern) task.body.at visit.visit.vertex

    -- those among visits that conflict with one are those to its vertex
    conflicts : (task : Task) (tasks : List Task) → IsVisitAt pattern level task → AllByRecursion (IsVisitAt pattern level) tasks
        → list_any (λ other. conflicts_with (set_in (levelling pattern) cells other) (set_in (levelling pattern) cells task)) tasks ≡ list_any (goes_to (suc task.body.at)) tasks
    conflicts task [] visit visits = refl
    conflicts task (other ∷ tasks) visit visits =
        let one : conflicts_with (set_in (levelling pattern) cells other) (set_in (levelling pattern) cells task) ≡ goes_to (suc task.body.at) other =
        (λ i. conflicts_with (set_of_visit other visits.0 i) (set_of_visit task visit i)) ∙ own_conflict other.body.at task.body.at in
        λ i. one i || conflicts task tasks visit visits.1 i

    -- a visit is clear where none in front of it goes to its vertex
    clear_by_seen : (front : List Task) (task : Task) (rest : List Task) (seen : List ℕ) → AllByRecursion (IsVisitAt pattern level) front → IsVisitAt pattern level task
        → AllByRecursion (λ other. key_cmp other.key task.key ≡ Less) front → AllByRecursion (λ other. key_cmp task.key other.key ≡ Less) rest → AreSeen front seen
        → is_clear (levelling pattern) (state_of cells (front ++ task ∷ rest)) task ≡ not (is_seen (suc task.body.at) seen)
    clear_by_seen front task rest seen visits visit earlier later are =
        let Conflict = λ (other : Task). conflicts_with (set_in (levelling pattern) cells other) (set_in (levelling pattern) cells task) in
        ap (λ (ts : List Task). not (list_any Conflict ts) && is_ahead 1 task ts) (before_is_front front task rest earlier later)
        ∙ (λ i. not ((conflicts task front visit visits ∙ are (suc task.body.at)) i) && same_level_ahead level task front visit.at_level (All-weaker (IsVisitAt pattern level) (λ other. other.key.prio ≡ level) (λ other it. it.at_level) front visits) i)
        ∙ and_true (not (is_seen (suc task.body.at) seen))
      where
        and_true : (b : Bool) → (b && true) ≡ b
        and_true true = refl
        and_true false = refl

    -- so the clear ones of this level are the first visits
    firsts_clear : (later : List Task) → AllByRecursion (λ other. other.key.prio ≡ suc level) later → (front tasks pending : List Task) (seen : List ℕ) → front ++ (tasks ++ later) ≡ pending → IsAscending (front ++ tasks)
        → AllByRecursion (IsVisitAt pattern level) front → AllByRecursion (IsVisitAt pattern level) tasks → AreSeen front seen
        → filter (is_clear (levelling pattern) (state_of cells pending)) tasks ≡ firsts seen tasks
    firsts_clear later late front [] pending seen is up visits-front visits are = refl
    firsts_clear later late front (task ∷ tasks) pending seen is up visits-front visits are =
        let seen-next = suc task.body.at ∷ seen in
        let behind : AllByRecursion (λ other. key_cmp task.key other.key ≡ Less) (tasks ++ later) =
        All-append (λ (other : Task). key_cmp task.key other.key ≡ Less) tasks later (later_behind front task tasks up)
        (All-weaker (λ (other : Task). other.key.prio ≡ suc level) (λ other. key_cmp task.key other.key ≡ Less) (λ other at. lower_first task.key other.key (omega (arith, at, visits.0.at_level))) later late) in
        let here : is_clear (levelling pattern) (state_of cells pending) task ≡ not (is_seen (suc task.body.at) seen) =
        subst (λ (ts : List Task). is_clear (levelling pattern) (state_of cells ts) task ≡ not (is_seen (suc task.body.at) seen)) is
        (clear_by_seen front task (tasks ++ later) seen visits-front visits.0 (earlier_front front task tasks up) behind are) in
        let rest : filter (is_clear (levelling pattern) (state_of cells pending)) tasks ≡ firsts seen-next tasks =
        firsts_clear later late (front ++ task ∷ []) tasks pending seen-next (append_assoc front (task ∷ []) (tasks ++ later) ∙ is) (subst IsAscending (sym (append_assoc front (task ∷ []) tasks)) up)
        (All-append (IsVisitAt pattern level) front (task ∷ []) visits-front (visits.0, tt)) visits.1 (seen_more front seen task are) in
        (λ i. cond (here i) (task ∷ rest i) (rest i)) ∙ cond_not (is_seen (suc task.body.at) seen) (task ∷ firsts seen-next tasks) (firsts seen-next tasks)

    -- and a visit at the next level isn't clear where one of this level is pending
    later_unclear : (first : Task) (pending : List Task) (task : Task) → first.key.prio ≡ level → task.key.prio ≡ suc level → is_clear (levelling pattern) (state_of cells (first ∷ pending)) task ≡ false
    later_unclear first pending task here there =
        let Conflict = λ (other : Task). conflicts_with (set_in (levelling pattern) cells other) (set_in (levelling pattern) cells task) in
        let earlier : is_earlier task.key first ≡ true = ap is_lt (lower_first first.key task.key (omega (arith, here, there))) in
        let before : tasks_before task.key (first ∷ pending) ≡ first ∷ tasks_before task.key pending = cond-true (is_earlier task.key first) (first ∷ tasks_before task.key pending) (tasks_before task.key pending) earlier in
        let ahead : nat_lt task.key.prio (first.key.prio + 1) ≡ false = grind (arith, nat_tests, here, there) in
        ap (λ (ts : List Task). not (list_any Conflict ts) && is_ahead 1 task ts) before
        ∙ and_right (not (list_any Conflict (first ∷ tasks_before task.key pending))) (is_ahead 1 task (first ∷ tasks_before task.key pending))
        (and_left (nat_lt task.key.prio (first.key.prio + 1)) (is_ahead 1 task (tasks_before task.key pending)) ahead)

    -- in all, the first visits are the clear ones
    pub clear_are_firsts : (tasks later : List Task) → tasks ≢ [] → AreVisitsAt pattern level tasks → AllByRecursion (λ other. other.key.prio ≡ suc level) later
        → clear_tasks (levelling pattern) (state_of cells (tasks ++ later)) ≡ firsts [] tasks
    clear_are_firsts [] later some visits late = absurd (some refl)
    clear_are_firsts (first ∷ tasks) later some visits late =
        let state = state_of cells (first ∷ tasks ++ later) in
        let Test = is_clear (levelling pattern) state in
        let none : filter Test later ≡ [] =
        filter-none Test later (All-weaker (λ (other : Task). other.key.prio ≡ suc level) (λ other. Test other ≡ false) (λ other at. later_unclear first (tasks ++ later) other visits.each.0.at_level at) later late) in
        filter-append Test (first ∷ tasks) later
        ∙ (λ i. firsts_clear later late [] (first ∷ tasks) (first ∷ tasks ++ later) [] refl visits.ascending tt visits.each (λ vertex. refl) i ++ none i)
        ∙ append-nil (firsts [] (first ∷ tasks))
