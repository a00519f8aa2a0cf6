use Rattle.std.proofs.Common.{sym, subst}
use Rattle.std.proofs.lemmas.Result.{IfErr-weaker, on_ok_weaker}
use Rattle.source_pool.specs.Performing.{AreShared, EndAtFault, HaveEnded, MayEnd}
use Rattle.source_pool.specs.Round.{IsRoundFault}
use Rattle.source_pool.proofs.RoundDrawn.{round_at_fault, round_is_drawn, round_may_end, round_played}
use Rattle.source_pool.proofs.sharing.give_and_end.Goals as goal

pub end_each-requires-clause-may_end : goal.end_each-requires-clause-may_end
end_each-requires-clause-may_end g c κs within =
    let meaning = g.A.App.meaning in
    let app = c.args.engine.now.app in
    let now = c.give_all.new.engine.progress in
    let shares = c.give_all.new.shares in
    let own = c.give_all.new.own in
    let AreAll = AreShared meaning app shares own in
    let laws = c.drawing_laws.ensures in
    let its = round_is_drawn (meaning app) g.from AreAll c.args.engine.now.progress now (laws.begins app) (laws.clear app) (laws.round app) (laws.some app)
    c.requires.1.1.1.1.1.1.1.0 c.in_ok-give_all.ensures.drawn c.in_ok-give_all.ensures.none_clear c.in_ok-give_all.ensures.ended in
    subst (λ (a : g.row.A.Denot). MayEnd (meaning a) (AreShared meaning a shares own) now) (sym c.give_all.ensures.app)
    (round_may_end (meaning app) g.from AreAll c.args.engine.now.progress now its)

pub returns-clause-played : goal.returns-clause-played
returns-clause-played g c =
    let meaning = g.A.App.meaning in
    let app = c.args.engine.now.app in
    let now = c.give_all.new.engine.progress in
    let shares = c.give_all.new.shares in
    let own = c.give_all.new.own in
    let AreAll = AreShared meaning app shares own in
    let laws = c.drawing_laws.ensures in
    let its = round_is_drawn (meaning app) g.from AreAll c.args.engine.now.progress now (laws.begins app) (laws.clear app) (laws.round app) (laws.some app)
    c.requires.1.1.1.1.1.1.1.0 c.in_ok-give_all.ensures.drawn c.in_ok-give_all.ensures.none_clear c.in_ok-give_all.ensures.ended in
    let new = c.end_each.new.engine.progress in
    on_ok_weaker c.end_each.result (λ ended. round_played (meaning app) g.from AreAll c.args.engine.now.progress now its (c.ending_laws.ensures.rest app) new
    (subst (λ (a : g.row.A.Denot). HaveEnded (meaning a) (AreShared meaning a shares own) now new) c.give_all.ensures.app ended)) c.end_each.ensures.ended

pub returns-clause-fault : goal.returns-clause-fault
returns-clause-fault g c =
    let meaning = g.A.App.meaning in
    let app = c.args.engine.now.app in
    let now = c.give_all.new.engine.progress in
    let shares = c.give_all.new.shares in
    let own = c.give_all.new.own in
    let AreAll = AreShared meaning app shares own in
    let laws = c.drawing_laws.ensures in
    let its = round_is_drawn (meaning app) g.from AreAll c.args.engine.now.progress now (laws.begins app) (laws.clear app) (laws.round app) (laws.some app)
    c.requires.1.1.1.1.1.1.1.0 c.in_ok-give_all.ensures.drawn c.in_ok-give_all.ensures.none_clear c.in_ok-give_all.ensures.ended in
    let mid = c.give_all.new.engine.app in
    IfErr-weaker c.end_each.result (EndAtFault (meaning mid) (AreShared meaning mid shares own) now) (IsRoundFault (meaning app) g.from c.args.engine.now.progress)
    (λ why fault. round_at_fault (meaning app) g.from AreAll c.args.engine.now.progress now its why
    (subst (λ (a : g.row.A.Denot). EndAtFault (meaning a) (AreShared meaning a shares own) now why) c.give_all.ensures.app fault)) c.end_each.ensures.fault
