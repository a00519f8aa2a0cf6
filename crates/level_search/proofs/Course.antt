-- How far a search has come, beside the execution of its visits as tasks.
use Rattle.std.specs.Prelude.{◌≡◌, ◌≢◌, ℕ, suc, ◌+◌, ◌-◌, ◌<◌, ◌≤◌, ◌==◌, nat_lt, List, [], ◌∷◌, ◌++◌, length, None, Some, refl}
use Rattle.std.specs.List.{AllByRecursion}
use Rattle.std.proofs.Common.{arith, ap, cond, sym, subst, true, false, ◌∙◌, length-append}
use Rattle.std.proofs.lemmas.Bool.{cond_both}
use Rattle.std.proofs.lemmas.Bool.Decides.{nat_tests}
use Rattle.std.proofs.lemmas.List.{length-map, length-replicate}
use Rattle.std.proofs.lemmas.List.Sums.{count_by-le-length}
use Rattle.task_order.specs.declared.start.Start.{Start}
use Rattle.task_order.specs.declared.task.Task.{Task}
use Rattle.task_order.specs.TaskList.{put_all}
use Rattle.output_log.specs.Entries.{joined_texts}
use Rattle.app_laws.specs.Execution.{Execution, after_steps, first_from, run_to_end, start_of}
use Rattle.commuting.specs.Rounds.{TakesRounds}
use Rattle.commuting.specs.States.{state_of}
use Rattle.mtx_reader.specs.declared.pattern.Pattern.{Pattern}
use Rattle.mtx_reader.specs.Patterns.{IsPattern}
use Rattle.level_walk.specs.declared.level.Level.{Level}
use Rattle.level_walk.specs.declared.level.Level.TheVariants.{Unset}
use Rattle.level_walk.specs.Levels.{first_visits, levelling, most_level, start_levels, visit_of}
use Rattle.level_walk.specs.Walks.{vertex_count}
use Rattle.level_search.specs.Basis.{Basis}
use Rattle.level_search.specs.Counts.{IsMost}
use Rattle.level_search.specs.Turns.{IsVertex, Left, after_level, first_state, first_vertices, visited}
use Rattle.level_search.proofs.Acting.{AreVisitsAt, IsVisitAt, cells_after, children_after, entries_after, vertices_of}
use Rattle.level_search.proofs.Ends.{ends_there}
use Rattle.level_search.proofs.InRounds.{level_in_rounds}
use Rattle.level_search.proofs.InTurn.{cells_stay_many, children_visit, entries_are_many, left_is, level_in_turn}

-- the execution of the visits after that many steps
abbrev pub after : Pattern → ℕ → ℕ → Execution Level
after pattern from steps = after_steps (levelling pattern).act steps (start_of (start_levels pattern) (first_visits pattern from))

-- After that many steps all tasks before a level have ended, and just those of the level are pending. What was found is what the
-- execution has; and that many rounds led to its state.
pub record HasCome (pattern : Pattern) (from limit level ended rounds : ℕ) (left : Left) : Type 0 where
  pub visits : AreVisitsAt pattern level (after pattern from ended).pending
  pub next : left.next ≡ vertices_of (after pattern from ended).pending
  pub levels : left.levels ≡ (after pattern from ended).cells
  pub lines : left.lines ≡ joined_texts (after pattern from ended).log
  pub count : length left.levels ≡ vertex_count pattern
  pub logged : length (after pattern from ended).log ≡ ended
  pub within : ended ≤ limit
  pub few_rounds : rounds ≤ ended
  pub led : (more : ℕ) → TakesRounds (levelling pattern) more (state_of (after pattern from ended).cells (after pattern from ended).pending) → TakesRounds (levelling pattern) (rounds + more) (first_state pattern from)

none_to_visit : (tasks : List Task) → vertices_of tasks ≡ [] → tasks ≡ []
none_to_visit [] none = refl
none_to_visit (task ∷ tasks) none = absurd cc

-- the vertices of visits are vertices
visited_vertices : (pattern : Pattern) (level : ℕ) (tasks : List Task) → AllByRecursion (IsVisitAt pattern level) tasks → AllByRecursion (IsVertex pattern) (vertices_of tasks)
visited_vertices pattern level [] each = tt
visited_vertices pattern level (task ∷ tasks) each = (record { some = omega arith; within = each.0.visit.vertex }, visited_vertices pattern level tasks each.1)

module _ (pattern : Pattern) (from limit : ℕ) where
  -- ---- the start

  pub has_begun : 1 ≤ from → HasCome pattern from limit 0 0 0 (record { levels = start_levels pattern; lines = []; next = first_vertices pattern from })
  unfolding after_steps
  has_begun some = record {
    visits = cond_both (nat_lt (vertex_count pattern) from) [] (visit_of 0 from ∷ []) (λ (first : List Start). AreVisitsAt pattern 0 (put_all (first_from 0 first) []))
        (λ beyond. record { each = tt; ascending = tt })
        (λ among. let near : from ≤ vertex_count pattern = grind (arith, nat_tests, among) in record {
          each = (record { visit = record { kind = refl; vertex = omega (arith, near, some); arg = refl; level = omega arith }; at_level = refl; deep = refl }, tt);
          ascending = (tt, tt);
        });
    next = cond_both_same;
    levels = refl;
    lines = refl;
    count = length-replicate (vertex_count pattern) Unset;
    logged = refl;
    within = omega arith;
    few_rounds = omega arith;
    led = λ more takes. let same : more ≡ 0 + more = omega arith in subst (λ (n : ℕ). TakesRounds (levelling pattern) n (first_state pattern from)) same takes;
  }
    where
      back : suc (from - 1) ≡ from
      back = omega (arith, some)

      cond_both_same : first_vertices pattern from ≡ vertices_of (put_all (first_from 0 (first_visits pattern from)) [])
      cond_both_same = by_test (nat_lt (vertex_count pattern) from)
        where
          by_test : (beyond : _) → (cond beyond [] (from ∷ [])) ≡ vertices_of (put_all (first_from 0 (cond beyond [] (visit_of 0 from ∷ []))) [])
          by_test true = refl
          by_test false = ap (λ (n : ℕ). n ∷ []) (sym back)

  module _ (level ended rounds : ℕ) (left : Left) (come : HasCome pattern from limit level ended rounds left) where
    -- as many tasks are pending as vertices are visited next
    pub as_many : length left.next ≡ length (after pattern from ended).pending
    as_many = ap length come.next ∙ length-map (after pattern from ended).pending (λ (task : Task). suc task.body.at)

    pub next_within : AllByRecursion (IsVertex pattern) left.next
    next_within = subst (AllByRecursion (IsVertex pattern)) (sym come.next) (visited_vertices pattern level (after pattern from ended).pending come.visits.each)

    none_pending : left.next ≡ [] → (after pattern from ended).pending ≡ []
    none_pending none = none_to_visit (after pattern from ended).pending (sym come.next ∙ none)

    -- where some are visited next, the level is no higher than a visit goes
    pub level_within : left.next ≢ [] → level ≤ most_level
    level_within some = by_tasks (after pattern from ended).pending come.next come.visits.each
      where
        by_tasks : (tasks : List Task) → left.next ≡ vertices_of tasks → AllByRecursion (IsVisitAt pattern level) tasks → level ≤ most_level
        by_tasks [] next each = absurd (some next)
        by_tasks (task ∷ tasks) next each = omega (arith, each.0.visit.level, each.0.at_level)

    -- ---- the end

    pub ends_here : Basis → left.next ≡ [] → run_to_end (levelling pattern).act limit (start_of (start_levels pattern) (first_visits pattern from)) ≡ Some (after pattern from ended)
    ends_here basis none =
        let act = (levelling pattern).act in
        let start = start_of (start_levels pattern) (first_visits pattern from) in
        ends_there act start (basis.adds act start) (basis.stops act start) limit ended come.within (none_pending none)

    pub rounds_here : left.next ≡ [] → TakesRounds (levelling pattern) rounds (first_state pattern from)
    rounds_here none =
        let same : rounds + 0 ≡ rounds = omega arith in
        subst (λ (n : ℕ). TakesRounds (levelling pattern) n (first_state pattern from)) same (come.led 0 (none_pending none))

    -- where there are too many tasks, the run doesn't end within the limit
    pub over_here : Basis → limit < ended + length left.next → run_to_end (levelling pattern).act limit (start_of (start_levels pattern) (first_visits pattern from)) ≡ None
    over_here basis above =
        let act = (levelling pattern).act in
        let start = start_of (start_levels pattern) (first_visits pattern from) in
        (basis.ends act start limit).1 (ended, omega (arith, above, come.logged, as_many))

    -- ---- a level

    module _ (is-pattern : IsPattern pattern) (basis : Basis) where
      abbrev here : Execution Level
      here = after pattern from ended

      count_here : length (after pattern from ended).cells ≡ vertex_count pattern
      count_here = ap length (sym come.levels) ∙ come.count

      -- what the execution is once the tasks of the level have ended
      then_is : after pattern from (ended + length left.next)
          ≡ record { cells = cells_after pattern here.pending here.cells; pending = children_after pattern here.pending here.cells; log = here.log ++ entries_after pattern here.pending here.cells }
      then_is =
          basis.adds (levelling pattern).act (start_of (start_levels pattern) (first_visits pattern from)) ended (length left.next)
          ∙ ap (λ (n : ℕ). after_steps (levelling pattern).act n here) as_many
          ∙ level_in_turn pattern is-pattern basis level here.pending here refl come.visits count_here

      found_is : after_level pattern level left
          ≡ record { levels = cells_after pattern here.pending here.cells; lines = joined_texts here.log ++ joined_texts (entries_after pattern here.pending here.cells); next = vertices_of (children_after pattern here.pending here.cells) }
      found_is =
          (λ i. visited pattern level (record { levels = come.levels i; lines = come.lines i; next = [] }) (come.next i))
          ∙ left_is pattern is-pattern basis level here.pending here.cells (joined_texts here.log) [] come.visits count_here

      lines_are : joined_texts (here.log ++ entries_after pattern here.pending here.cells) ≡ joined_texts here.log ++ joined_texts (entries_after pattern here.pending here.cells)
      lines_are = basis.texts_follow here.log (entries_after pattern here.pending here.cells)

      pub level_done : (most : ℕ) → IsMost left.next most → ended + length left.next ≤ limit
          → HasCome pattern from limit (suc level) (ended + length left.next) (rounds + most) (after_level pattern level left)
      level_done most is within =
          let e : Execution Level = record { cells = cells_after pattern here.pending here.cells; pending = children_after pattern here.pending here.cells; log = here.log ++ entries_after pattern here.pending here.cells } in
          let stay = cells_stay_many pattern is-pattern basis here.pending here.cells in
          let visits = children_visit pattern is-pattern basis level here.pending here.cells come.visits count_here in
          let logged = length-append here.log (entries_after pattern here.pending here.cells) in
          let entries = entries_are_many pattern is-pattern basis here.pending here.cells in
          let few = count_by-le-length (λ (other : ℕ). other == is.number) left.next in record {
            visits = subst (λ (x : Execution Level). AreVisitsAt pattern (suc level) x.pending) (sym then_is) visits;
            next = ap (λ (l : Left). l.next) found_is ∙ sym (ap (λ (x : Execution Level). vertices_of x.pending) then_is);
            levels = ap (λ (l : Left). l.levels) found_is ∙ sym (ap (λ (x : Execution Level). x.cells) then_is);
            lines = ap (λ (l : Left). l.lines) found_is ∙ sym lines_are ∙ sym (ap (λ (x : Execution Level). joined_texts x.log) then_is);
            count = ap (λ (l : Left). length l.levels) found_is ∙ stay ∙ count_here;
            logged = ap (λ (x : Execution Level). length x.log) then_is ∙ omega (arith, logged, entries, come.logged, as_many);
            within = within;
            few_rounds = omega (arith, few, is.as_often, come.few_rounds);
            led = λ more takes.
                let at_then : TakesRounds (levelling pattern) more (state_of e.cells e.pending) = subst (λ (x : Execution Level). TakesRounds (levelling pattern) more (state_of x.cells x.pending)) then_is takes in
                let most-here : IsMost (vertices_of here.pending) most = subst (λ (vertices : List ℕ). IsMost vertices most) come.next is in
                let turned : rounds + (most + more) ≡ rounds + most + more = omega arith in
                subst (λ (n : ℕ). TakesRounds (levelling pattern) n (first_state pattern from)) turned
                (come.led (most + more) (level_in_rounds pattern is-pattern basis level most more here.pending here.cells come.visits count_here most-here at_then));
          }
