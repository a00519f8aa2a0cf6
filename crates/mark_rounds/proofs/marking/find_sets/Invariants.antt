use Rattle.std.proofs.Common.{◌≡◌, ◌++◌, drop}
use Rattle.cell_store.specs.Values.{values_of}
use Rattle.mark_rounds.specs.Pending.{sets_in}
use Rattle.mark_rounds.proofs.marking.find_sets.Given as goal

abbrev pub invariant-loop-rank : goal.invariant-loop-rank
invariant-loop-rank g l = l.sets.items ++ sets_in (g.A.App.meaning l.app) (values_of l.store) (drop l.rank l.tasks) ≡ sets_in (g.A.App.meaning l.app) (values_of l.store) l.tasks
