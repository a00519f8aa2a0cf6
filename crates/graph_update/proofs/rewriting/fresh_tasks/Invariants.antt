use Rattle.std.proofs.Common.{◌≡◌, ◌++◌, drop}
use Rattle.run_laws.specs.Events.{fresh_from}
use Rattle.graph_update.proofs.rewriting.fresh_tasks.Given as goal

abbrev pub invariant-loop-number : goal.invariant-loop-number
invariant-loop-number l = l.fresh.items ++ fresh_from l.parent l.number (drop l.number l.children) ≡ fresh_from l.fn.parent 0 l.fn.children
