use Rattle.std.proofs.Common.{◌≡◌}
use Rattle.free_pool.proofs.ActsInTurn.{HaveActed}
use Rattle.free_pool.proofs.acting.act_tasks.Given as goal

abbrev pub invariant-loop : goal.invariant-loop
invariant-loop g l = record {
  app : l.engine.app ≡ l.fn.engine.app;
  so_far : HaveActed (g.A.App.meaning l.fn.engine.app) l.fn.engine.progress l.engine.progress l.acted.items;
}
