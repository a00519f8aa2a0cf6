use Rattle.std.proofs.Common.{◌≡◌, ◌-◌}
use Rattle.resting_rounds.specs.Waiting.{AreWaiting}
use Rattle.resting_rounds.proofs.running.all_rounds.Given as goal

abbrev pub invariant-loop-run : goal.invariant-loop-run
invariant-loop-run g l = record {
  app : l.run.app ≡ l.fn.run.app;
  start : l.run.start ≡ l.fn.run.start;
  limit : l.run.limit ≡ l.fn.run.limit;
  told : g.A.App.tells l.fn.run.app l.horizon l.run.state.pending;
  waiting : AreWaiting (g.A.App.meaning l.fn.run.app) (g.A.Resting.covers l.fn.run.app l.list.acted) l.run.state l.list.waiting.items;
}

abbrev pub decreases-loop-run : goal.decreases-loop-run
decreases-loop-run g l = l.run.limit - l.run.ended
