use Rattle.std.proofs.Common.{◌≡◌, ◌-◌, length}
use Rattle.mark_rounds.specs.Board.{IsFresh}
use Rattle.mark_rounds.proofs.running.all_rounds.Given as goal

abbrev pub invariant-loop-run : goal.invariant-loop-run
invariant-loop-run g l = record {
  app : l.run.app ≡ l.fn.run.app;
  start : l.run.start ≡ l.fn.run.start;
  limit : l.run.limit ≡ l.fn.run.limit;
  told : g.A.App.tells l.fn.run.app l.horizon l.run.state.pending;
  cells : l.search.cells ≡ (g.A.App.meaning l.fn.run.app).count;
  wide : length l.search.lists.writers.items ≡ (g.A.App.meaning l.fn.run.app).count;
  fresh : IsFresh (g.A.App.meaning l.fn.run.app).count l.search.board l.search.marker;
}

abbrev pub decreases-loop-run : goal.decreases-loop-run
decreases-loop-run g l = l.run.limit - l.run.ended
