use Rattle.app_laws.proofs.Putting.{handed_left, handed_new}
use Rattle.app_laws.proofs.serial_run.put_children.Goals as goal

pub put-requires : goal.put-requires
put-requires c = record {
  new = handed_new c.args.parent.now c.args.children.now c.loop-number.number c.index-children-number.result _ _ c.loop-number-test.true c.index-children-number.is c.loop-number.invariant _ c.in_ok-child.ensures.key;
}

pub loop-number-preserved : goal.loop-number-preserved
loop-number-preserved c =
    handed_left c.args.parent.now c.args.children.now c.loop-number.number c.index-children-number.result _ _ c.loop-number-test.true c.index-children-number.is c.loop-number.invariant _ _ c.in_ok-child.ensures.key c.in_ok-put.ensures.put
