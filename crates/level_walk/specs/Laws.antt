-- What a search comes to.
use Rattle.std.specs.Prelude.{◌≡◌, ℕ, ◌≤◌, ◌⊎◌, List, [], Some}
use Rattle.std.specs.List.{AllByRecursion}
use Rattle.app_laws.specs.Execution.{Execution, run_to_end, start_of}
use Rattle.mtx_reader.specs.declared.pattern.Pattern.{Pattern}
use Rattle.mtx_reader.specs.Patterns.{IsPattern}
use Rattle.level_walk.specs.declared.level.Level.{Level}
use Rattle.level_walk.specs.Levels.{first_visits, levelling, start_levels, visit_text}
use Rattle.level_walk.specs.Walks.{AreShortest}

-- where a search from a vertex has ended, its levels are the lengths of shortest walks
abbrev pub LevelsAreShortest : Type 0
LevelsAreShortest = (pattern : Pattern) (from limit : ℕ) (last : Execution Level) → IsPattern pattern → 1 ≤ from →
    run_to_end (levelling pattern).act limit (start_of (start_levels pattern) (first_visits pattern from)) ≡ Some last → AreShortest pattern from last.cells

-- a text is that of a first visit, or none
abbrev pub IsVisitText : List ℕ → Type 0
IsVisitText text = (text ≡ []) ⊎ ((vertex : ℕ) × (level : ℕ) × (text ≡ visit_text vertex level))

-- a search writes nothing but lines of first visits
abbrev pub LogsAreVisits : Type 0
LogsAreVisits = (pattern : Pattern) (from limit : ℕ) (last : Execution Level) →
    run_to_end (levelling pattern).act limit (start_of (start_levels pattern) (first_visits pattern from)) ≡ Some last → AllByRecursion (λ entry. IsVisitText entry.1) last.log
