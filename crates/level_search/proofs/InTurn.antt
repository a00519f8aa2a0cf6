-- The visits of one level as tasks: what they come to where each acts after those before it.
use Rattle.std.specs.Prelude.{◌≡◌, ℕ, suc, ◌+◌, List, [], ◌∷◌, ◌++◌, length, refl}
use Rattle.std.specs.List.{AllByRecursion}
use Rattle.std.specs.declared.cmp.Ordering.TheVariants.{Less}
use Rattle.std.proofs.Common.{arith, ap, sym, subst, ◌∙◌, length-append}
use Rattle.std.proofs.lemmas.List.{append-nil, append_assoc, map-append}
use Rattle.plain_laws.specs.Lists.{All-weaker, All-append}
use Rattle.task_order.specs.declared.start.Start.{Start}
use Rattle.task_order.specs.declared.task.Task.{Task}
use Rattle.task_order.specs.Key.{child_key, key_cmp}
use Rattle.task_order.specs.TaskList.{IsAscending}
use Rattle.output_log.specs.Entries.{joined_texts}
use Rattle.app_laws.specs.Execution.{Execution, acts, after_steps, children_from}
use Rattle.mtx_reader.specs.declared.pattern.Pattern.{Pattern}
use Rattle.mtx_reader.specs.Patterns.{IsPattern}
use Rattle.level_walk.specs.declared.level.Level.{Level}
use Rattle.level_walk.specs.Walks.{vertex_count}
use Rattle.level_search.specs.Basis.{Basis}
use Rattle.level_search.specs.Turns.{Left, visited}
use Rattle.level_search.proofs.Acting.{AreVisitsAt, IsBeforeChildren, IsVisitAt, act, before_children, cells_after, children_after, children_last, entries_after, lower_before, vertices_of}
use Rattle.level_search.proofs.OneVisit.{IsNext, all_children, cells_stay, children_are, children_ascend, prios_are, visit_leaves, visited_by_children}

-- ---- lists of tasks

ascending_append : (tasks others : List Task) → IsAscending tasks → IsAscending others
    → AllByRecursion (λ task. AllByRecursion (λ other. key_cmp task.key other.key ≡ Less) others) tasks → IsAscending (tasks ++ others)
ascending_append [] others up also before = also
ascending_append (task ∷ tasks) others up also before =
    (All-append (λ other. key_cmp task.key other.key ≡ Less) tasks others up.0 before.0, ascending_append tasks others up.1 also before.1)

-- ---- the children of the visits of one level

module _ (pattern : Pattern) (level : ℕ) where
  -- where a visit is earlier than another of its level, so are its children
  next_before : (task other : Task) → IsVisitAt pattern level task → IsVisitAt pattern level other → key_cmp task.key other.key ≡ Less
      → (number : ℕ) (start : Start) → IsNext pattern level start → IsBeforeChildren other.key (suc level) (record { key = child_key task.key number start.prio; body = start.body })
  next_before task other visit another less number start next second =
      subst (λ (p : ℕ). key_cmp (child_key task.key number p) (child_key other.key second (suc level)) ≡ Less) (sym next.prio)
      (before_children task.key other.key (visit.at_level ∙ sym another.at_level) (visit.deep ∙ sym another.deep) less number second (suc level))

  -- and before those of all visits behind it
  later_are : (task : Task) (tasks : List Task) → IsVisitAt pattern level task → AllByRecursion (IsVisitAt pattern level) tasks
      → AllByRecursion (λ other. key_cmp task.key other.key ≡ Less) tasks → (number : ℕ) (start : Start) → IsNext pattern level start
      → AllByRecursion (λ other. IsBeforeChildren other.key (suc level) (record { key = child_key task.key number start.prio; body = start.body })) tasks
  later_are task [] visit visits earlier number start next = tt
  later_are task (other ∷ tasks) visit visits earlier number start next =
      (next_before task other visit visits.0 earlier.0 number start next, later_are task tasks visit visits.1 earlier.1 number start next)

module _ (pattern : Pattern) (is-pattern : IsPattern pattern) (level : ℕ) where
  -- what is so of each task that may follow from one of these is so of those that do
  all_after : (P : Task → Type 0) (tasks : List Task) (cells : List Level) → AllByRecursion (IsVisitAt pattern level) tasks
      → AllByRecursion (λ task. (number : ℕ) (start : Start) → IsNext pattern level start → P (record { key = child_key task.key number start.prio; body = start.body })) tasks
      → length cells ≡ vertex_count pattern → AllByRecursion P (children_after pattern tasks cells)
  all_after P [] cells visits made count = tt
  all_after P (task ∷ tasks) cells visits made count =
      All-append P (children_from task.key 0 (act pattern task cells).children) (children_after pattern tasks (act pattern task cells).cells)
      (all_children task.key P (IsNext pattern level) made.0 0 (act pattern task cells).children (children_are pattern is-pattern level task cells visits.0 count))
      (all_after P tasks (act pattern task cells).cells visits.1 made.1 (cells_stay pattern is-pattern task cells ∙ count))

  -- the tasks that follow are visits at the next level
  next_each : (tasks : List Task) (cells : List Level) → AllByRecursion (IsVisitAt pattern level) tasks → length cells ≡ vertex_count pattern
      → AllByRecursion (IsVisitAt pattern (suc level)) (children_after pattern tasks cells)
  next_each tasks cells visits count =
      all_after (IsVisitAt pattern (suc level)) tasks cells visits
      (All-weaker (IsVisitAt pattern level) (λ task. (number : ℕ) (start : Start) → IsNext pattern level start → IsVisitAt pattern (suc level) (record { key = child_key task.key number start.prio; body = start.body })) (λ task visit number start next. record { visit = next.visit; at_level = next.prio; deep = let long = length-append task.key.path (number ∷ []) in omega (arith, long, visit.deep) })
      tasks visits)
      count

  -- in ascending order
  next_ascend : Basis → (tasks : List Task) (cells : List Level) → AllByRecursion (IsVisitAt pattern level) tasks → IsAscending tasks → length cells ≡ vertex_count pattern
      → IsAscending (children_after pattern tasks cells)
  next_ascend basis [] cells visits up count = tt
  next_ascend basis (task ∷ tasks) cells visits up count =
      let outcome = act pattern task cells in
      let rest = children_after pattern tasks outcome.cells in
      let still : length outcome.cells ≡ vertex_count pattern = cells_stay pattern is-pattern task cells ∙ count in
      let are : AllByRecursion (IsNext pattern level) outcome.children = children_are pattern is-pattern level task cells visits.0 count in
      ascending_append (children_from task.key 0 outcome.children) rest
      (children_ascend task.key basis (suc level) 0 outcome.children (prios_are pattern level outcome.children are))
      (next_ascend basis tasks outcome.cells visits.1 up.1 still)
      (all_children task.key (λ child. AllByRecursion (λ other. key_cmp child.key other.key ≡ Less) rest) (IsNext pattern level)
      (λ number start next. all_after (λ other. key_cmp (child_key task.key number start.prio) other.key ≡ Less) tasks outcome.cells visits.1
      (All-weaker (λ other. IsBeforeChildren other.key (suc level) (record { key = child_key task.key number start.prio; body = start.body }))
      (λ other. (second : ℕ) (next_start : Start) → IsNext pattern level next_start → key_cmp (child_key task.key number start.prio) (child_key other.key second next_start.prio) ≡ Less) (λ other before second next_start is. subst (λ (p : ℕ). key_cmp (child_key task.key number start.prio) (child_key other.key second p) ≡ Less) (sym is.prio) (before second))
      tasks
      (later_are pattern level task tasks visits.0 visits.1 up.0 number start next))
      still)
      0 outcome.children are)

-- ---- the visits of one level

module _ (pattern : Pattern) (is-pattern : IsPattern pattern) (basis : Basis) where
  -- the visits that follow are those of the next level
  pub children_visit : (level : ℕ) (tasks : List Task) (cells : List Level) → AreVisitsAt pattern level tasks → length cells ≡ vertex_count pattern
      → AreVisitsAt pattern (suc level) (children_after pattern tasks cells)
  children_visit level tasks cells visits count = record {
    each = next_each pattern is-pattern level tasks cells visits.each count;
    ascending = next_ascend pattern is-pattern level basis tasks cells visits.each visits.ascending count;
  }

  -- there are as many cells as before
  pub cells_stay_many : (tasks : List Task) (cells : List Level) → length (cells_after pattern tasks cells) ≡ length cells
  cells_stay_many [] cells = refl
  cells_stay_many (task ∷ tasks) cells = cells_stay_many tasks (act pattern task cells).cells ∙ cells_stay pattern is-pattern task cells

  -- and an entry for each task
  pub entries_are_many : (tasks : List Task) (cells : List Level) → length (entries_after pattern tasks cells) ≡ length tasks
  entries_are_many [] cells = refl
  entries_are_many (task ∷ tasks) cells = ap suc (entries_are_many tasks (act pattern task cells).cells)

  -- one step, and none
  one_step : (e : Execution Level) (task : Task) (others : List Task) → e.pending ≡ task ∷ others → after_steps (act pattern) 1 e ≡ acts (act pattern) e (task ∷ others)
  unfolding after_steps
  one_step e task others is = ap (acts (act pattern) e) is

  no_step : (e : Execution Level) → after_steps (act pattern) 0 e ≡ e
  unfolding after_steps
  no_step e = refl

  -- visits at the front of the pending tasks, where the others are before all that may follow from them
  front_in_turn : (level : ℕ) (tasks later : List Task) (e : Execution Level) → e.pending ≡ tasks ++ later
      → AllByRecursion (IsVisitAt pattern level) tasks → IsAscending tasks → AllByRecursion (λ task. AllByRecursion (IsBeforeChildren task.key (suc level)) later) tasks
      → length e.cells ≡ vertex_count pattern
      → after_steps (act pattern) (length tasks) e ≡ record {
        cells = cells_after pattern tasks e.cells;
        pending = later ++ children_after pattern tasks e.cells;
        log = e.log ++ entries_after pattern tasks e.cells;
      }
  front_in_turn level [] later e is visits up before count =
      no_step e ∙ λ i. record { cells = e.cells; pending = (is ∙ sym (append-nil later)) i; log = sym (append-nil e.log) i }
  front_in_turn level (task ∷ tasks) later e is visits up before count =
      let outcome = act pattern task e.cells in
      let children = children_from task.key 0 outcome.children in
      let after = acts (act pattern) e (task ∷ tasks ++ later) in
      let one : suc (length tasks) ≡ 1 + length tasks = omega arith in
      let are : AllByRecursion (IsNext pattern level) outcome.children = children_are pattern is-pattern level task e.cells visits.0 count in
      let here : AllByRecursion (IsBeforeChildren task.key (suc level)) tasks =
      All-weaker (IsVisitAt pattern level) (IsBeforeChildren task.key (suc level)) (λ other visit. lower_before task.key (suc level) other (omega (arith, visit.at_level))) tasks visits.1 in
      let pending : after.pending ≡ tasks ++ (later ++ children) =
      children_last basis task.key 0 outcome.children (suc level) (tasks ++ later) (prios_are pattern level outcome.children are)
      (All-append (IsBeforeChildren task.key (suc level)) tasks later here before.0)
      ∙ append_assoc tasks later children in
      ap (λ (n : ℕ). after_steps (act pattern) n e) one ∙ basis.adds (act pattern) e 1 (length tasks)
      ∙ ap (after_steps (act pattern) (length tasks)) (one_step e task (tasks ++ later) is)
      ∙ front_in_turn level tasks (later ++ children) after pending visits.1 up.1 (still_before tasks visits.1 up.0 before.1) (cells_stay pattern is-pattern task e.cells ∙ count)
      ∙ λ i. record {
        cells = cells_after pattern tasks outcome.cells;
        pending = append_assoc later children (children_after pattern tasks outcome.cells) i;
        log = append_assoc e.log ((task.key, outcome.text) ∷ []) (entries_after pattern tasks outcome.cells) i;
      }
    where
      still_before : (others : List Task) → AllByRecursion (IsVisitAt pattern level) others → AllByRecursion (λ other. key_cmp task.key other.key ≡ Less) others
          → AllByRecursion (λ other. AllByRecursion (IsBeforeChildren other.key (suc level)) later) others
          → AllByRecursion (λ other. AllByRecursion (IsBeforeChildren other.key (suc level)) (later ++ children_from task.key 0 (act pattern task e.cells).children)) others
      still_before [] all earlier befores = tt
      still_before (other ∷ others) all earlier befores = (
        All-append (IsBeforeChildren other.key (suc level)) later (children_from task.key 0 (act pattern task e.cells).children) befores.0
            (all_children task.key (IsBeforeChildren other.key (suc level)) (IsNext pattern level) (next_before pattern level task other visits.0 all.0 earlier.0) 0 (act pattern task e.cells).children
            (children_are pattern is-pattern level task e.cells visits.0 count)),
        still_before others all.1 earlier.1 befores.1,
      )

  none_later : (level : ℕ) (tasks : List Task) → AllByRecursion (λ task. AllByRecursion (IsBeforeChildren task.key (suc level)) []) tasks
  none_later level [] = tt
  none_later level (task ∷ tasks) = (tt, none_later level tasks)

  -- where the visits of one level are pending, as many steps as they are leave those that follow
  pub level_in_turn : (level : ℕ) (tasks : List Task) (e : Execution Level) → e.pending ≡ tasks → AreVisitsAt pattern level tasks → length e.cells ≡ vertex_count pattern
      → after_steps (act pattern) (length tasks) e ≡ record {
        cells = cells_after pattern tasks e.cells;
        pending = children_after pattern tasks e.cells;
        log = e.log ++ entries_after pattern tasks e.cells;
      }
  level_in_turn level tasks e is visits count = front_in_turn level tasks [] e (is ∙ sym (append-nil tasks)) visits.each visits.ascending (none_later level tasks) count

  -- the same of visits in any order
  left_by : (level : ℕ) (tasks : List Task) (cells : List Level) (lines next : List ℕ) → AllByRecursion (IsVisitAt pattern level) tasks → length cells ≡ vertex_count pattern
      → visited pattern level (record { levels = cells; lines = lines; next = next }) (vertices_of tasks) ≡ record {
        levels = cells_after pattern tasks cells;
        lines = lines ++ joined_texts (entries_after pattern tasks cells);
        next = next ++ vertices_of (children_after pattern tasks cells);
      }
  left_by level [] cells lines next visits count = λ i. record { levels = cells; lines = sym (append-nil lines) i; next = sym (append-nil next) i }
  left_by level (task ∷ tasks) cells lines next visits count =
      let outcome = act pattern task cells in
      let children = children_from task.key 0 outcome.children in
      let rest = children_after pattern tasks outcome.cells in
      let with_next : List ℕ → Left = λ (vertices : List ℕ). record { levels = outcome.cells; lines = lines ++ outcome.text; next = next ++ vertices } in
      ap (λ (left : Left). visited pattern level left (vertices_of tasks)) (visit_leaves pattern is-pattern level task cells lines next visits.0 count ∙ ap with_next (sym (visited_by_children task.key 0 outcome.children)))
      ∙ left_by level tasks outcome.cells (lines ++ outcome.text) (next ++ vertices_of children) visits.1 (cells_stay pattern is-pattern task cells ∙ count)
      ∙ λ i. record {
        levels = cells_after pattern tasks outcome.cells;
        lines = append_assoc lines outcome.text (joined_texts (entries_after pattern tasks outcome.cells)) i;
        next = (append_assoc next (vertices_of children) (vertices_of rest) ∙ ap (λ (vertices : List ℕ). next ++ vertices) (sym (map-append (λ (t : Task). suc t.body.at) children rest))) i;
      }

  -- what they leave of a search is what they leave as tasks
  pub left_is : (level : ℕ) (tasks : List Task) (cells : List Level) (lines next : List ℕ) → AreVisitsAt pattern level tasks → length cells ≡ vertex_count pattern
      → visited pattern level (record { levels = cells; lines = lines; next = next }) (vertices_of tasks) ≡ record {
        levels = cells_after pattern tasks cells;
        lines = lines ++ joined_texts (entries_after pattern tasks cells);
        next = next ++ vertices_of (children_after pattern tasks cells);
      }
  left_is level tasks cells lines next visits count = left_by level tasks cells lines next visits.each count
