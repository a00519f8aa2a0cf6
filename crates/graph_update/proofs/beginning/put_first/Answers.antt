use Rattle.std.proofs.Common.{arith}
use Rattle.cell_store.specs.Values.{values_of}
use Rattle.graph_update.proofs.FirstNodes.{next_left}
use Rattle.graph_update.proofs.beginning.put_first.Goals as goal

pub loop-number-preserved : goal.loop-number-preserved
loop-number-preserved g c = record {
  left = next_left (g.A.App.meaning c.args.app.now) (values_of c.args.store.now) c.args.first.now c.loop-number.number _ _ c.loop-number-test.true c.loop-number.invariant.left
      c.put_laws.ensures.tasks c.in_ok-path.path _ c.in_ok-set.set _ c.in_ok-path.ensures c.in_ok-set.ensures.set c.insert.ensures.graph c.in-Ok.ensures.ok;
  steps = omega (arith, c.loop-number.invariant.steps, c.home_set.ensures.step);
}
