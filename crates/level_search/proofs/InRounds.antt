-- In how many rounds the visits of one level act: in as many as go to one vertex.
use Rattle.std.specs.Prelude.{◌≡◌, ◌≢◌, ℕ, zero, suc, ◌+◌, List, [], ◌∷◌, ◌++◌, length, refl}
use Rattle.std.specs.List.{AllByRecursion}
use Rattle.std.proofs.Common.{arith, ap, sym, subst, ◌∙◌, append-nil}
use Rattle.plain_laws.specs.Lists.{All-weaker}
use Rattle.task_order.specs.declared.task.Task.{Task}
use Rattle.commuting.specs.Rounds.{TakesRounds, after_round, clear_tasks}
use Rattle.commuting.specs.States.{after_tasks, state_of}
use Rattle.mtx_reader.specs.declared.pattern.Pattern.{Pattern}
use Rattle.mtx_reader.specs.Patterns.{IsPattern}
use Rattle.level_walk.specs.declared.level.Level.{Level}
use Rattle.level_walk.specs.Levels.{levelling}
use Rattle.level_walk.specs.Walks.{vertex_count}
use Rattle.level_search.specs.Basis.{Basis}
use Rattle.level_search.specs.Counts.{IsMost}
use Rattle.level_search.proofs.Acting.{AreVisitsAt, IsVisitAt, act, cells_after, children_after, vertices_of}
use Rattle.level_search.proofs.Clear.{clear_are_firsts}
use Rattle.level_search.proofs.Counts.{most_less, none_visits, some_visits}
use Rattle.level_search.proofs.FirstRound.{after_first_round}
use Rattle.level_search.proofs.Firsts.{all_others, ascending_others, firsts, others}
use Rattle.level_search.proofs.InTurn.{children_visit}
use Rattle.level_search.proofs.OtherRounds.{after_other_round}
use Rattle.level_search.proofs.Places.{IsSet, all_set}

some_pending : (tasks later : List Task) → tasks ≢ [] → tasks ++ later ≢ []
some_pending [] later some is = some refl
some_pending (task ∷ tasks) later some is = absurd cc

-- the other visits of a level are visits of it in order
others_visit : (pattern : Pattern) (level : ℕ) (tasks : List Task) → AreVisitsAt pattern level tasks → AreVisitsAt pattern level (others [] tasks)
others_visit pattern level tasks visits = record {
  each = all_others (IsVisitAt pattern level) [] tasks visits.each;
  ascending = ascending_others [] tasks visits.ascending;
}

module _ (pattern : Pattern) (is-pattern : IsPattern pattern) (basis : Basis) where
  -- where each vertex has a level, the visits act in that many rounds, before those of the tasks at the next level
  idle_in_rounds : (level most more : ℕ) (tasks later : List Task) (cells : List Level) → AreVisitsAt pattern level tasks → AllByRecursion (λ task. task.key.prio ≡ suc level) later
      → AllByRecursion (λ task. IsSet cells task.body.at) tasks → IsMost (vertices_of tasks) most
      → TakesRounds (levelling pattern) more (state_of cells later) → TakesRounds (levelling pattern) (most + more) (state_of cells (tasks ++ later))
  idle_in_rounds level zero more tasks later cells visits late set is takes =
      let none : more ≡ 0 + more = omega arith in
      subst (λ (n : ℕ). TakesRounds (levelling pattern) n (state_of cells (tasks ++ later))) none
      (subst (λ (ts : List Task). TakesRounds (levelling pattern) more (state_of cells (ts ++ later))) (sym (none_visits tasks is)) takes)
  idle_in_rounds level (suc most) more tasks later cells visits late set is takes =
      let state = state_of cells (tasks ++ later) in
      let one : suc (most + more) ≡ suc most + more = omega arith in
      let some = some_visits most tasks is in
      let round : after_round (levelling pattern) state ≡ state_of cells (others [] tasks ++ later) =
      ap (λ (ts : List Task). after_tasks (act pattern) ts state) (clear_are_firsts pattern basis level cells tasks later some visits late)
      ∙ after_other_round pattern basis level cells tasks later visits late set in
      let rest = idle_in_rounds level most more (others [] tasks) later cells (others_visit pattern level tasks visits) late (all_others (λ (task : Task). IsSet cells task.body.at) [] tasks set) (most_less most tasks is) takes in
      subst (λ (n : ℕ). TakesRounds (levelling pattern) n state) one
      (some_pending tasks later some, subst (TakesRounds (levelling pattern) (most + more)) (sym round) rest)

  -- the visits of one level act in as many rounds as go to one vertex, before those of their children
  pub level_in_rounds : (level most more : ℕ) (tasks : List Task) (cells : List Level) → AreVisitsAt pattern level tasks → length cells ≡ vertex_count pattern → IsMost (vertices_of tasks) most
      → TakesRounds (levelling pattern) more (state_of (cells_after pattern tasks cells) (children_after pattern tasks cells)) → TakesRounds (levelling pattern) (most + more) (state_of cells tasks)
  level_in_rounds level zero more tasks cells visits count is takes =
      let none : more ≡ 0 + more = omega arith in
      subst (λ (n : ℕ). TakesRounds (levelling pattern) n (state_of cells tasks)) none (none_acts tasks (none_visits tasks is) takes)
    where
      none_acts : (ts : List Task) → ts ≡ [] → TakesRounds (levelling pattern) more (state_of (cells_after pattern ts cells) (children_after pattern ts cells)) → TakesRounds (levelling pattern) more (state_of cells ts)
      none_acts [] is takes = takes
      none_acts (task ∷ ts) is takes = absurd cc
  level_in_rounds level (suc most) more tasks cells visits count is takes =
      let state = state_of cells tasks in
      let after = cells_after pattern tasks cells in
      let children = children_after pattern tasks cells in
      let one : suc (most + more) ≡ suc most + more = omega arith in
      let some = some_visits most tasks is in
      let clear : clear_tasks (levelling pattern) state ≡ firsts [] tasks =
      ap (λ (ts : List Task). clear_tasks (levelling pattern) (state_of cells ts)) (sym (append-nil tasks)) ∙ clear_are_firsts pattern basis level cells tasks [] some visits tt in
      let round : after_round (levelling pattern) state ≡ state_of after (others [] tasks ++ children) =
      ap (λ (ts : List Task). after_tasks (act pattern) ts state) clear ∙ after_first_round pattern is-pattern basis level tasks cells visits count in
      let late : AllByRecursion (λ child. child.key.prio ≡ suc level) children =
      All-weaker (IsVisitAt pattern (suc level)) (λ child. child.key.prio ≡ suc level) (λ child it. it.at_level) children (children_visit pattern is-pattern basis level tasks cells visits count).each in
      let set = all_others (λ (task : Task). IsSet after task.body.at) [] tasks (all_set pattern is-pattern level tasks cells visits.each count) in
      let rest = idle_in_rounds level most more (others [] tasks) children after (others_visit pattern level tasks visits) late set (most_less most tasks is) takes in
      subst (λ (n : ℕ). TakesRounds (levelling pattern) n state) one
      (some, subst (TakesRounds (levelling pattern) (most + more)) (sym round) rest)
