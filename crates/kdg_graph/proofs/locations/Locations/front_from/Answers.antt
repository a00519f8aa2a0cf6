use Rattle.std.proofs.Common.{◌≡◌, ◌-◌, ◌∙◌, List, [], Option, Some, ap, arith, drop, eqb-true, length, refl, subst, sym, take, IfSome, IsSome}
use Rattle.kdg_graph.proofs.Common.{Read, NodeId, IsRankPast, IsLaneAmong, clashing_at, lane_of, Node, ids_of, later_than, least_of}
use Rattle.kdg_graph.proofs.Filing.{filed_among}
use Rattle.kdg_graph.proofs.Fronting.{first_writer, front_alone, front_none, front_to_end, front_to_writer, none_first}
use Rattle.kdg_graph.proofs.Lanes.{length-ids}
use Rattle.kdg_graph.proofs.locations.Locations.front_from.Goals as goal

pub returns-then-start-len-clause-ids : goal.returns-then-start-len-clause-ids
returns-then-start-len-clause-ids c =
    let some : List Node = clashing_at c.args.loc c.args.access c.args.nodes.now.nodes in
    let filed : lane_of c.args.self.now.locations.items c.args.loc c.args.access ≡ ids_of some = c.requires.filed c.args.loc c.args.access in
    let end : c.args.start ≡ length (lane_of c.args.self.now.locations.items c.args.loc c.args.access) = omega (arith, c.if-start-len.true, c.len.ensures.len, ap length c.requires.lane) in
    front_none c.args.key.now c.args.loc c.args.access c.args.nodes.now.nodes (lane_of c.args.self.now.locations.items c.args.loc c.args.access) c.args.start filed end c.requires.rank

pub returns-then-all_write-clause-ids : goal.returns-then-all_write-clause-ids
returns-then-all_write-clause-ids c =
    let nodes : List Node = c.args.nodes.now.nodes in
    let some : List Node = clashing_at c.args.loc c.args.access nodes in
    let filed : lane_of c.args.self.now.locations.items c.args.loc c.args.access ≡ ids_of some = c.requires.filed c.args.loc c.args.access in
    let same : length (lane_of c.args.self.now.locations.items c.args.loc c.args.access) ≡ length (lane_of c.args.self.now.locations.items c.args.loc Read) = eqb-true _ _ (sym c.all_write.ensures ∙ c.if-all_write.true) in
    let full : length some ≡ length (clashing_at c.args.loc Read nodes) = omega (arith, same, ap length filed, ap length (c.requires.filed c.args.loc Read), length-ids some, length-ids (clashing_at c.args.loc Read nodes)) in
    front_alone c.args.key.now c.args.loc c.args.access nodes (lane_of c.args.self.now.locations.items c.args.loc c.args.access) c.args.start filed full c.requires.rank

pub returns-in-Some-clause-ordered : goal.returns-in-Some-clause-ordered
returns-in-Some-clause-ordered c =
    let nodes : List Node = c.args.nodes.now.nodes in
    let some : List Node = clashing_at c.args.loc c.args.access nodes in
    let ids : List NodeId = c.args.lane.now.ids.items in
    let are : ids ≡ ids_of some = c.requires.lane ∙ c.requires.filed c.args.loc c.args.access in
    let among : IsLaneAmong nodes some ids = filed_among nodes c.args.loc c.args.access ids c.len-graph.ensures.graph are in
    let first = first_writer c.args.key.now c.args.loc nodes c.in-Some.writer c.len-graph.ensures.graph (sym c.in-Some.ensures) in
    let writer : Node = first.0 in
    let behind : IsRankPast writer.task.key some c.rank_behind-end.result = subst (λ (o : Option Node). IfSome o (λ (n : Node). IsRankPast n.task.key some c.rank_behind-end.result)) first.3 (c.rank_behind-end.ensures.rank some among) in
    let both = front_to_writer c.args.key.now c.args.loc c.args.access writer first.1 nodes ids c.args.start c.rank_behind-end.result c.len-graph.ensures.graph.ascending are first.2 c.requires.rank behind in
    both.0

pub returns-in-Some-clause-ids : goal.returns-in-Some-clause-ids
returns-in-Some-clause-ids c =
    let nodes : List Node = c.args.nodes.now.nodes in
    let some : List Node = clashing_at c.args.loc c.args.access nodes in
    let ids : List NodeId = c.args.lane.now.ids.items in
    let are : ids ≡ ids_of some = c.requires.lane ∙ c.requires.filed c.args.loc c.args.access in
    let among : IsLaneAmong nodes some ids = filed_among nodes c.args.loc c.args.access ids c.len-graph.ensures.graph are in
    let first = first_writer c.args.key.now c.args.loc nodes c.in-Some.writer c.len-graph.ensures.graph (sym c.in-Some.ensures) in
    let writer : Node = first.0 in
    let behind : IsRankPast writer.task.key some c.rank_behind-end.result = subst (λ (o : Option Node). IfSome o (λ (n : Node). IsRankPast n.task.key some c.rank_behind-end.result)) first.3 (c.rank_behind-end.ensures.rank some among) in
    let both = front_to_writer c.args.key.now c.args.loc c.args.access writer first.1 nodes ids c.args.start c.rank_behind-end.result c.len-graph.ensures.graph.ascending are first.2 c.requires.rank behind in
    ap (λ l. take (c.rank_behind-end.result - c.args.start) (drop c.args.start l)) (sym c.requires.lane) ∙ both.1

pub returns-in-None-clause-ids : goal.returns-in-None-clause-ids
returns-in-None-clause-ids c =
    let nodes : List Node = c.args.nodes.now.nodes in
    let some : List Node = clashing_at c.args.loc c.args.access nodes in
    let are : c.args.lane.now.ids.items ≡ ids_of some = c.requires.lane ∙ c.requires.filed c.args.loc c.args.access in
    let none : clashing_at c.args.loc Read (later_than c.args.key.now nodes) ≡ [] = none_first (clashing_at c.args.loc Read (later_than c.args.key.now nodes)) (sym c.in-None.ensures) in
    (λ i. take (c.len-end.ensures.len i - c.args.start) (drop c.args.start (sym c.requires.lane i)))
    ∙ front_to_end c.args.key.now c.args.loc c.args.access nodes c.args.lane.now.ids.items c.args.start are none c.requires.rank

pub rank_behind-end-requires : goal.rank_behind-end-requires
rank_behind-end-requires c =
    let first : least_of (clashing_at c.args.loc Read (later_than c.args.key.now c.args.nodes.now.nodes)) ≡ Some c.in-Some.writer = sym c.in-Some.ensures in
    subst IsSome (sym (first_writer c.args.key.now c.args.loc c.args.nodes.now.nodes c.in-Some.writer c.len-graph.ensures.graph first).3) refl
