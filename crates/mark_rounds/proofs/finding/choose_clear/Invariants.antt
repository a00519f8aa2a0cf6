use Rattle.std.proofs.Common.{◌≡◌, ◌++◌, drop}
use Rattle.std.specs.List.{filter}
use Rattle.commuting.specs.Rounds.{clear_tasks, is_clear}
use Rattle.mark_rounds.specs.Pending.{state_in}
use Rattle.mark_rounds.proofs.finding.choose_clear.Given as goal

abbrev pub invariant-loop-rank : goal.invariant-loop-rank
invariant-loop-rank g l = record {
  clear : l.clear.items ++ filter (is_clear (g.A.App.meaning l.app) (state_in l.pending)) (drop l.rank l.pending.tasks) ≡ clear_tasks (g.A.App.meaning l.app) (state_in l.pending);
  same : l.marker ≡ l.fn.marker;
  told : g.A.App.tells l.app l.horizon l.pending.tasks;
}
