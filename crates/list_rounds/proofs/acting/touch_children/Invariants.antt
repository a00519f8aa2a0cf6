use Rattle.std.proofs.Common.{◌≡◌, List, drop}
use Rattle.task_order.specs.declared.key.Key.{Key}
use Rattle.task_order.specs.declared.task.Task.{Task}
use Rattle.task_order.specs.TaskList.{put_all}
use Rattle.app_laws.specs.Applications.{starts_of}
use Rattle.app_laws.specs.Execution.{children_from}
use Rattle.list_rounds.proofs.acting.touch_children.Given as goal

-- it tells of some tasks, with which the children that are left make up what all of them make of the first
abbrev pub invariant-loop-child : goal.invariant-loop-child
invariant-loop-child g l = (parent : Key) (tasks : List Task) → g.A.App.tells l.app l.fn.horizon tasks →
    (some : List Task) × g.A.App.tells l.app l.horizon some
    × (put_all (children_from parent l.child-index (starts_of (drop l.child-index l.children))) some ≡ put_all (children_from parent 0 (starts_of l.children)) tasks)
