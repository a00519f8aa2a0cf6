-- The tasks of an application that are listed in the order of their paths are its tasks.
use Rattle.std.proofs.Common.{List, [], ◌∷◌, map, sym, subst}
use Rattle.std.proofs.lemmas.List.Elements.{All-from_recursion, recursion_from_All}
use Rattle.std.proofs.lemmas.List.Sorted.{All-permutation}
use Rattle.task_order.specs.declared.start.Start.{Start}
use Rattle.task_order.specs.declared.task.Task.{Task}
use Rattle.app_laws.specs.Applications.{Application, AreFitStarts, AreFitTasks, IsFitTask}
use Rattle.app_laws.specs.Names.{AreListed, start_of_task}

module _ {V : Type 0} (app : Application V) where
  starts_fit : (tasks : List Task) → AreFitTasks app tasks → AreFitStarts app (map start_of_task tasks)
  starts_fit [] fit = tt
  starts_fit (task ∷ tasks) fit = (fit.0, starts_fit tasks fit.1)

  pub listed_fit : (pending : List Task) (first : List Start) → AreListed pending first → AreFitTasks app pending → AreFitStarts app first
  listed_fit pending first listed fit =
      let all = All-permutation (IsFitTask app) pending listed.tasks listed.same (All-from_recursion (IsFitTask app) pending fit) in
      subst (AreFitStarts app) (sym listed.starts) (starts_fit listed.tasks (recursion_from_All (IsFitTask app) listed.tasks all))
