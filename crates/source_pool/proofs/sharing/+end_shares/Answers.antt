use Rattle.std.proofs.Common.{List, sym, subst}
use Rattle.std.specs.List.{All}
use Rattle.std.proofs.lemmas.List.Elements.{All-cons, All-tail}
use Rattle.std.proofs.lemmas.Result.{IfErr-weaker, err_from_is_err_and, on_ok_weaker}
use Rattle.run_laws.specs.Jobs.{Job}
use Rattle.source_pool.specs.declared.shares.Share.{Share}
use Rattle.source_pool.specs.Performing.{AreOfShares, EndAtFault, HaveEnded, IsHandOf, IsShareOf, IsTold, MayEnd}
use Rattle.source_pool.proofs.InParts.{all_have_ended, first_at_fault, first_may_end, more_at_fault, more_may_end}
use Rattle.source_pool.proofs.SharesInParts.{share_first}
use Rattle.source_pool.proofs.sharing.+end_shares.Goals as goal

pub end_hand-requires-clause-may_end : goal.end_hand-requires-clause-may_end
end_hand-requires-clause-may_end g t c κs within =
    let meaning = g.A.App.meaning in
    let app = c.args.engine.now.app in
    let share = c.in-Some.share.now in
    let more = c.in-Some.more.now in
    let next = c.collect.new.self in
    let same = subst (λ (a : g.row.A.Denot). (jobs : List (Job g.row.A-Val.Denot)) → IsShareOf meaning a share jobs → IsShareOf meaning a next jobs) c.app.ensures c.collect.ensures.same in
    let parts = share_first meaning app share next more c.args.shares.now c.in-Some.ensures.cases.0 same c.collect.ensures.back in
    let AreFirst = IsHandOf (meaning app) next.hand in
    let AreMore = AreOfShares meaning app more in
    let AreAll = AreOfShares meaning app c.args.shares.now in
    let old = c.args.engine.now.progress in
    first_may_end (meaning app) AreFirst AreMore AreAll parts old c.requires.may_end

pub returns-in_err-end_hand-clause-told : goal.returns-in_err-end_hand-clause-told
returns-in_err-end_hand-clause-told g t c =
    let meaning = g.A.App.meaning in
    let app = c.args.engine.now.app in
    let share = c.in-Some.share.now in
    let more = c.in-Some.more.now in
    let next = c.collect.new.self in
    let told = subst (λ (a : g.row.A.Denot). IsTold meaning a next) c.app.ensures c.collect.ensures.told in
    let all = subst (λ (shares : List (Share g.row.A.Denot g.row.A-Val.Denot g.row.A-Horizon.Denot)). All (IsTold meaning app) shares) c.in-Some.ensures.cases.0 c.requires.told in
    All-cons (IsTold meaning app) (record { partner = next.partner; errand = next.errand; hand = c.end_hand.new.hand }) more (record { partner = told.partner; errand = told.errand }) (All-tail (IsTold meaning app) share more all)

pub returns-in_err-end_hand-clause-fault : goal.returns-in_err-end_hand-clause-fault
returns-in_err-end_hand-clause-fault g t c =
    let meaning = g.A.App.meaning in
    let app = c.args.engine.now.app in
    let share = c.in-Some.share.now in
    let more = c.in-Some.more.now in
    let next = c.collect.new.self in
    let same = subst (λ (a : g.row.A.Denot). (jobs : List (Job g.row.A-Val.Denot)) → IsShareOf meaning a share jobs → IsShareOf meaning a next jobs) c.app.ensures c.collect.ensures.same in
    let parts = share_first meaning app share next more c.args.shares.now c.in-Some.ensures.cases.0 same c.collect.ensures.back in
    let AreFirst = IsHandOf (meaning app) next.hand in
    let AreMore = AreOfShares meaning app more in
    let AreAll = AreOfShares meaning app c.args.shares.now in
    let old = c.args.engine.now.progress in
    let e = err_from_is_err_and c.from_residual.result c.from_residual.ensures.1 in
    rw (e.1, e.2) (first_at_fault (meaning app) AreFirst AreMore AreAll parts old c.in_err-end_hand.field-0.0 c.in_err-end_hand.ensures.fault)

pub end_shares-requires-clause-told : goal.end_shares-requires-clause-told
end_shares-requires-clause-told g t c κs within =
    let meaning = g.A.App.meaning in
    let app = c.args.engine.now.app in
    let share = c.in-Some.share.now in
    let more = c.in-Some.more.now in
    let next = c.collect.new.self in
    let all = subst (λ (shares : List (Share g.row.A.Denot g.row.A-Val.Denot g.row.A-Horizon.Denot)). All (IsTold meaning app) shares) c.in-Some.ensures.cases.0 c.requires.told in
    subst (λ (a : g.row.A.Denot). All (IsTold meaning a) more) (sym c.end_hand.ensures.app) (All-tail (IsTold meaning app) share more all)

pub end_shares-requires-clause-may_end : goal.end_shares-requires-clause-may_end
end_shares-requires-clause-may_end g t c κs within =
    let meaning = g.A.App.meaning in
    let app = c.args.engine.now.app in
    let share = c.in-Some.share.now in
    let more = c.in-Some.more.now in
    let next = c.collect.new.self in
    let same = subst (λ (a : g.row.A.Denot). (jobs : List (Job g.row.A-Val.Denot)) → IsShareOf meaning a share jobs → IsShareOf meaning a next jobs) c.app.ensures c.collect.ensures.same in
    let parts = share_first meaning app share next more c.args.shares.now c.in-Some.ensures.cases.0 same c.collect.ensures.back in
    let AreFirst = IsHandOf (meaning app) next.hand in
    let AreMore = AreOfShares meaning app more in
    let AreAll = AreOfShares meaning app c.args.shares.now in
    let old = c.args.engine.now.progress in
    let mid = c.end_hand.new.engine.progress in
    subst (λ (a : g.row.A.Denot). MayEnd (meaning a) (AreOfShares meaning a more) mid) (sym c.end_hand.ensures.app)
    (more_may_end (meaning app) AreFirst AreMore AreAll parts old mid c.requires.may_end c.in_ok-end_hand.ensures.ended)

pub returns-clause-ended : goal.returns-clause-ended
returns-clause-ended g t c =
    let meaning = g.A.App.meaning in
    let app = c.args.engine.now.app in
    let share = c.in-Some.share.now in
    let more = c.in-Some.more.now in
    let next = c.collect.new.self in
    let same = subst (λ (a : g.row.A.Denot). (jobs : List (Job g.row.A-Val.Denot)) → IsShareOf meaning a share jobs → IsShareOf meaning a next jobs) c.app.ensures c.collect.ensures.same in
    let parts = share_first meaning app share next more c.args.shares.now c.in-Some.ensures.cases.0 same c.collect.ensures.back in
    let AreFirst = IsHandOf (meaning app) next.hand in
    let AreMore = AreOfShares meaning app more in
    let AreAll = AreOfShares meaning app c.args.shares.now in
    let old = c.args.engine.now.progress in
    let mid = c.end_hand.new.engine.progress in
    let new = c.end_shares.new.engine.progress in
    on_ok_weaker c.end_shares.result (λ ended. all_have_ended (meaning app) AreFirst AreMore AreAll parts old mid new c.in_ok-end_hand.ensures.ended
    (subst (λ (a : g.row.A.Denot). HaveEnded (meaning a) (AreOfShares meaning a more) mid new) c.end_hand.ensures.app ended)) c.end_shares.ensures.ended

pub returns-clause-fault : goal.returns-clause-fault
returns-clause-fault g t c =
    let meaning = g.A.App.meaning in
    let app = c.args.engine.now.app in
    let share = c.in-Some.share.now in
    let more = c.in-Some.more.now in
    let next = c.collect.new.self in
    let same = subst (λ (a : g.row.A.Denot). (jobs : List (Job g.row.A-Val.Denot)) → IsShareOf meaning a share jobs → IsShareOf meaning a next jobs) c.app.ensures c.collect.ensures.same in
    let parts = share_first meaning app share next more c.args.shares.now c.in-Some.ensures.cases.0 same c.collect.ensures.back in
    let AreFirst = IsHandOf (meaning app) next.hand in
    let AreMore = AreOfShares meaning app more in
    let AreAll = AreOfShares meaning app c.args.shares.now in
    let old = c.args.engine.now.progress in
    let mid = c.end_hand.new.engine.progress in
    IfErr-weaker c.end_shares.result (EndAtFault (meaning c.end_hand.new.engine.app) (AreOfShares meaning c.end_hand.new.engine.app more) mid) (EndAtFault (meaning app) AreAll old)
    (λ why fault. more_at_fault (meaning app) AreFirst AreMore AreAll parts old mid why c.in_ok-end_hand.ensures.ended
    (subst (λ (a : g.row.A.Denot). EndAtFault (meaning a) (AreOfShares meaning a more) mid why) c.end_hand.ensures.app fault)) c.end_shares.ensures.fault
