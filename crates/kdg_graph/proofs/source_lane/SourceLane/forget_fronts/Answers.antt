use Rattle.std.proofs.Common.{false, ap, subst, length, arith, take_all}
use Rattle.kdg_graph.proofs.Common.{Read, Accesses, ids_of, fronts_after, AreForgotten}
use Rattle.kdg_graph.proofs.Selecting.{fronts_done, retested_none}
use Rattle.kdg_graph.proofs.source_lane.SourceLane.forget_fronts.Goals as goal

pub loop-pair-init : goal.loop-pair-init
loop-pair-init c = retested_none (λ _. false) c.args.nodes.now.nodes c.args.self.now c.requires.some

pub loop-pair-preserved : goal.loop-pair-preserved
loop-pair-preserved c =
    fronts_done (λ _. false) c.args.nodes.now.nodes c.items-pair-items.result.now c.args.set.now c.args.key.now c.loop-pair.pair-index (0, Read) c.args.self.now c.loop-pair.self c.forget_front.new.self c.items-pair-items.ensures.all c.loop-pair-test.true c.loop-pair.invariant c.forget_front.ensures

pub returns : goal.returns
returns c =
    let whole = take_all c.loop-pair.pair-index c.args.set.now (omega (arith, c.loop-pair-test.false, ap length c.items-pair-items.ensures.all)) in
    subst (λ (s : Accesses). AreForgotten c.args.nodes.now.nodes (ids_of (fronts_after s c.args.key.now c.args.nodes.now.nodes)) c.args.self.now c.loop-pair.self) whole c.loop-pair.invariant
