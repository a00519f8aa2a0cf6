use Rattle.app_laws.proofs.Putting.{first_left}
use Rattle.app_laws.proofs.serial_run.first_tasks.Goals as goal

pub loop-number-preserved : goal.loop-number-preserved
loop-number-preserved c =
    first_left c.args.first.now c.loop-number.number _ _ _ c.loop-number-test.true c.loop-number.invariant _ _ c.in_ok-root.ensures c.in_ok-put.ensures.put
