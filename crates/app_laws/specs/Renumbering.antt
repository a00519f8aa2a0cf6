-- Pending tasks that were numbered anew.
use Rattle.std.specs.Prelude.{◌≡◌, List, []}
use Rattle.task_order.specs.declared.start.Start.{Start}
use Rattle.task_order.specs.declared.task.Task.{Task}
use Rattle.task_order.specs.TaskList.{put_all}
use Rattle.app_laws.specs.Execution.{first_from}
use Rattle.app_laws.specs.Renaming.{AreNamed}

-- the pending tasks have names, by which they are first tasks, and those stand for them
pub record AreRenumbered (pending renumbered : List Task) : Type 0 where
  pub first : List Start
  pub named : AreNamed pending first
  pub are : renumbered ≡ put_all (first_from 0 first) []
