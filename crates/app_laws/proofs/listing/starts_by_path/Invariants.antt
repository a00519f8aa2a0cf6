use Rattle.std.proofs.Common.{◌≡◌, map, take}
use Rattle.app_laws.specs.Names.{start_of_task}
use Rattle.app_laws.proofs.listing.starts_by_path.Given as goal

abbrev pub invariant-loop-task : goal.invariant-loop-task
invariant-loop-task l = l.first.items ≡ map start_of_task (take l.task-index l.task-items)
