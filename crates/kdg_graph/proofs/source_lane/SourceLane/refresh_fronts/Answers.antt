use Rattle.std.proofs.Common.{ℕ, ap, get_or, subst, length, arith, Contains, take_all}
use Rattle.kdg_graph.proofs.Common.{Contains-get_or, Access, Read, Accesses, ids_of, fronts_after, IsRankPast, clashing_at, AreRefreshed, is_unblocked, all_at}
use Rattle.kdg_graph.proofs.Selecting.{fronts_done, retested_none}
use Rattle.kdg_graph.proofs.source_lane.SourceLane.refresh_fronts.Goals as goal

pub loop-pair-init : goal.loop-pair-init
loop-pair-init c = retested_none (is_unblocked c.args.nodes.now.nodes) c.args.nodes.now.nodes c.args.self.now c.requires.some

pub refresh_front-requires-clause-first : goal.refresh_front-requires-clause-first
refresh_front-requires-clause-first c known =
    let p : ℕ × Access = get_or c.items-pair-items.result.now c.loop-pair.pair-index (0, Read) in
    let has : Contains c.args.set.now p = subst (λ (l : Accesses). Contains l p) c.items-pair-items.ensures.all (Contains-get_or c.items-pair-items.result.now c.loop-pair.pair-index (0, Read) c.loop-pair-test.true) in
    all_at (λ (q : ℕ × Access). IsRankPast c.args.key.now (clashing_at q.0 q.1 c.args.nodes.now.nodes) 0) c.args.set.now p (c.requires.first known) has

pub loop-pair-preserved : goal.loop-pair-preserved
loop-pair-preserved c =
    fronts_done (is_unblocked c.args.nodes.now.nodes) c.args.nodes.now.nodes c.items-pair-items.result.now c.args.set.now c.args.key.now c.loop-pair.pair-index (0, Read) c.args.self.now c.loop-pair.self c.refresh_front.new.self c.items-pair-items.ensures.all c.loop-pair-test.true c.loop-pair.invariant c.refresh_front.ensures

pub returns : goal.returns
returns c =
    let whole = take_all c.loop-pair.pair-index c.args.set.now (omega (arith, c.loop-pair-test.false, ap length c.items-pair-items.ensures.all)) in
    subst (λ (s : Accesses). AreRefreshed c.args.nodes.now.nodes (ids_of (fronts_after s c.args.key.now c.args.nodes.now.nodes)) c.args.self.now c.loop-pair.self) whole c.loop-pair.invariant
