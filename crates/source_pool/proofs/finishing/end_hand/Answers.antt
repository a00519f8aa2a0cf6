use Rattle.std.proofs.lemmas.Result.{IfErr-weaker, on_ok_weaker}
use Rattle.source_pool.specs.Performing.{AreDone, EndAtFault, IsHandOf}
use Rattle.source_pool.proofs.finishing.end_hand.Goals as goal

pub end_all-requires-clause-may_end : goal.end_all-requires-clause-may_end
end_all-requires-clause-may_end g c κs within =
    let may = c.requires.may_end in
    record { to = may.to; jobs = may.jobs; others = may.others; such = may.such c.if-not-hand.false; ending = may.ending }

pub returns-clause-ended : goal.returns-clause-ended
returns-clause-ended g c = on_ok_weaker c.end_all.result (λ ended. λ to jobs others such ending. ended to jobs others (such c.if-not-hand.false) ending) c.end_all.ensures.ended

pub returns-clause-fault : goal.returns-clause-fault
returns-clause-fault g c =
    let app = g.A.App.meaning c.args.engine.now.app in
    let old = c.args.engine.now.progress in
    IfErr-weaker c.end_all.result (EndAtFault app (AreDone app c.args.hand.now.dones.items) old) (EndAtFault app (IsHandOf app c.args.hand.now) old)
    (λ why fault. λ to jobs others such ending. fault to jobs others (such c.if-not-hand.false) ending) c.end_all.ensures.fault
