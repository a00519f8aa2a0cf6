-- The application that a table of sets and a lookahead make of deeds.
use Rattle.std.specs.Prelude.{◌≡◌, ◌+◌, ◌<◌, ◌≤◌, ◌^◌, ℕ, Bool, List, [], length, nat_lt, slice_index_or}
use Rattle.std.specs.List.{AllByRecursion, list_all}
use Rattle.task_order.specs.declared.start.Start.{Start}
use Rattle.task_order.specs.declared.task.Body.{Body}
use Rattle.task_order.specs.declared.task.Task.{Task}
use Rattle.rw_sets.specs.Accesses.{Accesses, IsAscending, IsInRange}
use Rattle.app_laws.specs.declared.app.SetAnswer.TheVariants as answer
use Rattle.app_laws.specs.Applications.{Application, IsWholeLines}
use Rattle.app_laws.specs.Execution.{Outcome}
use Rattle.app_laws.specs.Names.{start_of_task}
use Rattle.hook_app.specs.Deeds.{Deeds}
use Rattle.hook_app.specs.Values.{values_at, put_values, KeepsRead}

-- what a hooked application holds: what its deeds are of, how many cells there are, the sets, the lookahead and the operator
pub record Hooked (D H : Type 0) : Type 0 where
  pub deed : D
  pub cells : ℕ
  pub sets : List Accesses
  pub ahead : ℕ
  pub hook : H

-- the set of this number
abbrev pub set_at : List Accesses → ℕ → Accesses
set_at sets at = slice_index_or sets at []

-- the task is before whatever may still follow from each of these earlier tasks
abbrev pub is_ahead : ℕ → Task → List Task → Bool
is_ahead ahead task earlier = list_all (λ other. nat_lt task.key.prio (other.key.prio + ahead)) earlier

-- one fit value for each location of the set
pub record AreValuesOf {V : Type 0} (deeds : Deeds V) (set : Accesses) (values : List V) : Type 0 where
  pub one_each : length values ≡ length set
  pub fit : AllByRecursion deeds.is_fit_value values

-- a deed leaves one fit value for each location of its set, and those that are only read as they were; its children are fit,
-- fewer than 2^32, and come as late as the lookahead says; its text is whole lines
pub record IsFitDeed {V : Type 0} (deeds : Deeds V) (sets : List Accesses) (ahead : ℕ) (start : Start) (values : List V) (outcome : Outcome V) : Type 0 where
  pub new_values : AreValuesOf deeds (set_at sets start.body.at) outcome.cells
  pub read_kept : KeepsRead (set_at sets start.body.at) values outcome.cells
  pub children : AllByRecursion (λ child. deeds.is_fit_task child.prio child.body) outcome.children
  pub few : length outcome.children < 2 ^ 32
  pub lines : IsWholeLines outcome.text
  pub late : AllByRecursion (λ child. start.prio + ahead ≤ child.prio) outcome.children

-- the sets, the deeds and the lookahead belong together
pub record FitTogether {V : Type 0} (deeds : Deeds V) (cells : ℕ) (sets : List Accesses) (ahead : ℕ) : Type 0 where
  pub ascending : AllByRecursion IsAscending sets
  pub below : AllByRecursion (λ set. IsInRange set cells) sets
  pub at_sets : (prio : ℕ) (body : Body) → deeds.is_fit_task prio body → body.at < length sets
  pub deeds_fit : (start : Start) (values : List V) → deeds.is_fit_task start.prio start.body → AreValuesOf deeds (set_at sets start.body.at) values →
      IsFitDeed deeds sets ahead start values (deeds.deed start values)

-- cells of the application: one fit value for each location; and all parts belong together
pub record AreFitCells {V : Type 0} (deeds : Deeds V) (cells : ℕ) (sets : List Accesses) (ahead : ℕ) (values : List V) : Type 0 where
  pub together : FitTogether deeds cells sets ahead
  pub count : length values ≡ cells
  pub fit : AllByRecursion deeds.is_fit_value values

-- what a deed with this set leaves of all cells
abbrev pub acted : {V : Type 0} → Deeds V → Accesses → Start → List V → Outcome V
acted deeds set start values = let outcome = deeds.deed start (values_at set values) in
    record { cells = put_values set outcome.cells values; children = outcome.children; text = outcome.text }

-- a task acts by the deed on the values of the set that its body names, and may run where it is before whatever may still
-- follow from the earlier ones
abbrev pub hooked : {V : Type 0} → Deeds V → ℕ → List Accesses → ℕ → Application V
hooked deeds cells sets ahead = record {
  count = cells;
  is_fit_cells = AreFitCells deeds cells sets ahead;
  is_fit_task = deeds.is_fit_task;
  set_of = λ body values. set_at sets body.at;
  walk = λ body all. answer.Known (set_at sets body.at);
  act = λ task values. acted deeds (set_at sets task.body.at) (start_of_task task) values;
  is_safe = is_ahead ahead;
}
