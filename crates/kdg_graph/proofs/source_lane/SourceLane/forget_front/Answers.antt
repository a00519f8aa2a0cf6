use Rattle.std.proofs.Common.{◌≡◌, ◌-◌, ◌<◌, ◌∙◌, ℕ, false, List, ap, subst, sym, length, take, drop, arith}
use Rattle.kdg_graph.proofs.Common.{NodeId, clashes_at, lane_of, AreForgotten}
use Rattle.kdg_graph.proofs.Selecting.{front_done, lane_has, retested_none}
use Rattle.kdg_graph.proofs.source_lane.SourceLane.forget_front.Goals as goal

pub loop-place-init : goal.loop-place-init
loop-place-init c =
    let none : c.front_behind-behind.result.start - c.front_behind-behind.result.start ≡ 0 = omega arith in
    subst (λ (n : ℕ). AreForgotten c.args.nodes.now.nodes (take n (drop c.front_behind-behind.result.start (lane_of c.args.locations.now.locations.items c.args.loc c.args.access))) c.args.self.now c.args.self.now) (sym none) (retested_none (λ _. false) c.args.nodes.now.nodes c.args.self.now c.requires.some)

pub forget-requires-clause-there : goal.forget-requires-clause-there
forget-requires-clause-there c =
    let lane : List NodeId = lane_of c.args.locations.now.locations.items c.args.loc c.args.access in
    let inside : c.loop-place.place < length lane = omega (arith, c.loop-place-test.true, c.front_behind-behind.ensures.inside) in
    lane_has c.args.nodes.now.nodes (clashes_at c.args.loc c.args.access) lane c.loop-place.place c.at.result c.requires.graph (c.requires.filed c.args.loc c.args.access) inside c.at.ensures

pub loop-place-preserved : goal.loop-place-preserved
loop-place-preserved c =
    let lane : List NodeId = lane_of c.args.locations.now.locations.items c.args.loc c.args.access in
    let inside : c.loop-place.place < length lane = omega (arith, c.loop-place-test.true, c.front_behind-behind.ensures.inside) in
    front_done (λ _. false) c.args.nodes.now.nodes lane c.front_behind-behind.result.start c.loop-place.place c.at.result c.args.self.now c.loop-place.self c.forget.new.self c.loop-place.auto.place inside c.at.ensures c.loop-place.invariant c.forget.ensures

pub returns : goal.returns
returns c =
    let lane : List NodeId = lane_of c.args.locations.now.locations.items c.args.loc c.args.access in
    let at_end : c.loop-place.place ≡ c.front_behind-behind.result.end = omega (arith, c.loop-place-test.false, c.loop-place.auto.place-end c.front_behind-behind.ensures.ordered) in
    subst (λ (asked : List NodeId). AreForgotten c.args.nodes.now.nodes asked c.args.self.now c.loop-place.self) (ap (λ (n : ℕ). take (n - c.front_behind-behind.result.start) (drop c.front_behind-behind.result.start lane)) at_end ∙ c.front_behind-behind.ensures.ids) c.loop-place.invariant
