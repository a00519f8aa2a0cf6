use Rattle.std.proofs.Common.{◌≡◌, ◌+◌, length, drop}
use Rattle.cell_store.specs.Values.{values_of}
use Rattle.source_pool.specs.Course.{IsActing}
use Rattle.source_pool.proofs.acting.act_in_turn.Given as goal

abbrev pub invariant-loop-id : goal.invariant-loop-id
invariant-loop-id g l = record {
  app : l.engine.app ≡ l.fn.engine.app;
  acting : IsActing (g.A.App.meaning l.fn.engine.app) g.to.start (values_of g.to.start.cells) g.to.state g.to.text l.engine.progress (drop l.id-index l.ids);
  ended : l.engine.progress.ended + length (drop l.id-index l.ids) ≡ l.fn.engine.progress.ended + length l.ids;
}
