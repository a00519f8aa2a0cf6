use Rattle.std.proofs.Common.{◌≤◌}
use Rattle.graph_update.proofs.MakingFresh.{of_child, one_more_task}
use Rattle.graph_update.proofs.rewriting.fresh_tasks.Goals as goal

pub child-requires : goal.child-requires
child-requires c =
    of_child c.args.children.now c.loop-number.number c.index-children-number.result c.loop-number-test.true c.index-children-number.is (λ child. c.args.parent.now.prio ≤ child.prio) c.requires.not_earlier

pub loop-number-preserved : goal.loop-number-preserved
loop-number-preserved c =
    one_more_task c.args.children.now c.loop-number.number c.index-children-number.result c.loop-number-test.true c.index-children-number.is c.args.parent.now c.loop-number.fresh.items c.push.new.self.items _
    c.in_ok-child.field-0 c.in_ok-set.set c.loop-number.invariant c.in_ok-child.ensures.key c.in_ok-set.ensures c.in_ok-push.ensures.items
