use Rattle.std.proofs.Common.{sym, subst}
use Rattle.std.proofs.lemmas.Result.{IfErr-weaker, err_from_is_err_and, on_ok_weaker}
use Rattle.source_pool.specs.Performing.{AreOfShares, AreShared, EndAtFault, HaveEnded, IsHandOf, MayEnd}
use Rattle.source_pool.proofs.InParts.{all_have_ended, first_at_fault, more_at_fault, more_may_end}
use Rattle.source_pool.proofs.SharesInParts.{own_last}
use Rattle.source_pool.proofs.sharing.end_each.Goals as goal

pub returns-in_err-end_shares-clause-fault : goal.returns-in_err-end_shares-clause-fault
returns-in_err-end_shares-clause-fault g c =
    let meaning = g.A.App.meaning in
    let app = c.args.engine.now.app in
    let shares = c.args.shares.now in
    let own = c.args.own.now in
    let AreFirst = AreOfShares meaning app shares in
    let AreMore = IsHandOf (meaning app) own in
    let AreAll = AreShared meaning app shares own in
    let old = c.args.engine.now.progress in
    let parts = own_last meaning app shares own in
    let e = err_from_is_err_and c.from_residual.result c.from_residual.ensures.1 in
    rw (e.1, e.2) (first_at_fault (meaning app) AreFirst AreMore AreAll parts old c.in_err-end_shares.field-0.0 c.in_err-end_shares.ensures.fault)

pub end_hand-requires-clause-may_end : goal.end_hand-requires-clause-may_end
end_hand-requires-clause-may_end g c κs within =
    let meaning = g.A.App.meaning in
    let app = c.args.engine.now.app in
    let shares = c.args.shares.now in
    let own = c.args.own.now in
    let AreFirst = AreOfShares meaning app shares in
    let AreMore = IsHandOf (meaning app) own in
    let AreAll = AreShared meaning app shares own in
    let old = c.args.engine.now.progress in
    let parts = own_last meaning app shares own in
    let mid = c.end_shares.new.engine.progress in
    subst (λ (a : g.row.A.Denot). MayEnd (meaning a) (IsHandOf (meaning a) own) mid) (sym c.end_shares.ensures.app)
    (more_may_end (meaning app) AreFirst AreMore AreAll parts old mid c.requires.may_end c.in_ok-end_shares.ensures.ended)

pub returns-clause-ended : goal.returns-clause-ended
returns-clause-ended g c =
    let meaning = g.A.App.meaning in
    let app = c.args.engine.now.app in
    let shares = c.args.shares.now in
    let own = c.args.own.now in
    let AreFirst = AreOfShares meaning app shares in
    let AreMore = IsHandOf (meaning app) own in
    let AreAll = AreShared meaning app shares own in
    let old = c.args.engine.now.progress in
    let parts = own_last meaning app shares own in
    let mid = c.end_shares.new.engine.progress in
    let new = c.end_hand.new.engine.progress in
    on_ok_weaker c.end_hand.result (λ ended. all_have_ended (meaning app) AreFirst AreMore AreAll parts old mid new c.in_ok-end_shares.ensures.ended
    (subst (λ (a : g.row.A.Denot). HaveEnded (meaning a) (IsHandOf (meaning a) own) mid new) c.end_shares.ensures.app ended)) c.end_hand.ensures.ended

pub returns-clause-fault : goal.returns-clause-fault
returns-clause-fault g c =
    let meaning = g.A.App.meaning in
    let app = c.args.engine.now.app in
    let shares = c.args.shares.now in
    let own = c.args.own.now in
    let AreFirst = AreOfShares meaning app shares in
    let AreMore = IsHandOf (meaning app) own in
    let AreAll = AreShared meaning app shares own in
    let old = c.args.engine.now.progress in
    let parts = own_last meaning app shares own in
    let mid = c.end_shares.new.engine.progress in
    IfErr-weaker c.end_hand.result (EndAtFault (meaning c.end_shares.new.engine.app) (IsHandOf (meaning c.end_shares.new.engine.app) own) mid) (EndAtFault (meaning app) AreAll old)
    (λ why fault. more_at_fault (meaning app) AreFirst AreMore AreAll parts old mid why c.in_ok-end_shares.ensures.ended
    (subst (λ (a : g.row.A.Denot). EndAtFault (meaning a) (IsHandOf (meaning a) own) mid why) c.end_shares.ensures.app fault)) c.end_hand.ensures.fault
