use Rattle.std.proofs.Common.{◌≡◌, ◌∙◌, ℕ, Some, true, false, ap, arith, get_or, subst, sym, take_all, rules}
use Rattle.kdg_graph.proofs.Common.{Access, Read, Accesses, IsAscendingSet, access_at, is_same, lacking, fronts_after, ids_of, AreRefreshed, is_unblocked}
use Rattle.kdg_graph.proofs.Filing.{lacking_done, lacking_passed, still_beside, again}
use Rattle.kdg_graph.proofs.Selecting.{retested_none}
use Rattle.kdg_graph.proofs.exchange.refresh_lacking.Goals as goal

pub loop-pair-init : goal.loop-pair-init
loop-pair-init c = record {
  refreshed = retested_none (is_unblocked c.args.nodes.now.nodes) c.args.nodes.now.nodes c.args.sources.now c.requires.some;
  ascending = search rules;
  beside = search rules;
}

pub loop-pair-preserved-then-has : goal.loop-pair-preserved-then-has
loop-pair-preserved-then-has c =
    let ps : Accesses = c.items-pair-items.result.now in
    let i : ℕ = c.loop-pair.pair-index in
    let p : ℕ × Access = get_or ps i (0, Read) in
    let at : p ≡ get_or ps i p = again ps i (0, Read) p c.loop-pair-test.true in
    let beside : access_at c.loop-pair.walk.left.now p.0 ≡ access_at c.args.other.now p.0 = c.loop-pair.invariant.beside i (0, Read) (omega arith) c.loop-pair-test.true in
    let has : is_same (Some p.1) (access_at c.args.other.now p.0) ≡ true = ap (is_same (Some p.1)) (sym beside) ∙ sym c.has.ensures.found ∙ c.if-has.true in
    let up : IsAscendingSet ps = subst IsAscendingSet (sym c.items-pair-items.ensures.all) c.items-pair-items.ensures.ascending in
    record {
      ascending = c.has.ensures.ascending;
      beside = still_beside ps c.loop-pair.walk.left.now c.has.new.self.left.now c.args.other.now i p up at c.loop-pair.invariant.beside c.has.ensures.beyond;
      refreshed = subst (λ (pairs : Accesses). AreRefreshed c.args.nodes.now.nodes (ids_of (fronts_after pairs c.args.key.now c.args.nodes.now.nodes)) c.args.sources.now c.loop-pair.sources) (sym (lacking_passed ps c.args.other.now i p c.loop-pair-test.true at has)) c.loop-pair.invariant.refreshed;
    }

pub loop-pair-preserved : goal.loop-pair-preserved
loop-pair-preserved c =
    let ps : Accesses = c.items-pair-items.result.now in
    let i : ℕ = c.loop-pair.pair-index in
    let p : ℕ × Access = get_or ps i (0, Read) in
    let at : p ≡ get_or ps i p = again ps i (0, Read) p c.loop-pair-test.true in
    let beside : access_at c.loop-pair.walk.left.now p.0 ≡ access_at c.args.other.now p.0 = c.loop-pair.invariant.beside i (0, Read) (omega arith) c.loop-pair-test.true in
    let lacks : is_same (Some p.1) (access_at c.args.other.now p.0) ≡ false = ap (is_same (Some p.1)) (sym beside) ∙ sym c.has.ensures.found ∙ c.if-has.false in
    let up : IsAscendingSet ps = subst IsAscendingSet (sym c.items-pair-items.ensures.all) c.items-pair-items.ensures.ascending in
    record {
      ascending = c.has.ensures.ascending;
      beside = still_beside ps c.loop-pair.walk.left.now c.has.new.self.left.now c.args.other.now i p up at c.loop-pair.invariant.beside c.has.ensures.beyond;
      refreshed = lacking_done c.args.nodes.now.nodes ps c.args.other.now c.args.key.now i p c.args.sources.now c.loop-pair.sources c.refresh_front.new.self c.loop-pair-test.true at lacks c.loop-pair.invariant.refreshed c.refresh_front.ensures;
    }

pub returns : goal.returns
returns c =
    let whole = take_all c.loop-pair.pair-index c.items-pair-items.result.now (omega (arith, c.loop-pair-test.false)) ∙ c.items-pair-items.ensures.all in
    subst (λ (pairs : Accesses). AreRefreshed c.args.nodes.now.nodes (ids_of (fronts_after (lacking pairs c.args.other.now) c.args.key.now c.args.nodes.now.nodes)) c.args.sources.now c.loop-pair.sources) whole c.loop-pair.invariant.refreshed
