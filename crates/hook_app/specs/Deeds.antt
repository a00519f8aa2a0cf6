-- What stored operators do.
use Rattle.std.specs.Prelude.{ℕ, List}
use Rattle.task_order.specs.declared.start.Start.{Start}
use Rattle.task_order.specs.declared.task.Body.{Body}
use Rattle.app_laws.specs.Execution.{Outcome}

-- which values are fit, which pairs of a priority and a body, and what a task with such a pair makes of the values at the
-- locations of its set, one for each in their order: as many new values, children and a text
pub record Deeds (V : Type 0) : Type 1 where
  pub is_fit_value : V → Type 0
  pub is_fit_task : ℕ → Body → Type 0
  pub deed : Start → List V → Outcome V
