use Rattle.std.proofs.Common.{◌≡◌, ◌-◌, length}
use Rattle.free_pool.proofs.ClaimsInTurn.{AreClaiming}
use Rattle.free_pool.proofs.turns.claim_tasks.Given as goal

abbrev pub invariant-loop-pick : goal.invariant-loop-pick
invariant-loop-pick g l = record {
  app : l.engine.app ≡ l.fn.engine.app;
  claiming : AreClaiming (g.A.App.meaning l.fn.engine.app) l.fn.engine.progress l.engine.progress l.jobs.items;
}

abbrev pub decreases-loop-pick : goal.decreases-loop-pick
decreases-loop-pick g l = l.most - length l.jobs.items
