use Rattle.std.proofs.Common.{◌≡◌, ◌∙◌, List, Option, [], ap, refl, subst, sym, IfSome, IsSome}
use Rattle.kdg_graph.proofs.Common.{IsRankPast, IsLaneAmong, clashing_at, up_to_writer, Node, ids_of}
use Rattle.kdg_graph.proofs.Filing.{filed_among, no_ids}
use Rattle.kdg_graph.proofs.Fronting.{none_clashing}
use Rattle.kdg_graph.proofs.locations.Locations.front_behind.Goals as goal

pub rank_behind-start-requires : goal.rank_behind-start-requires
rank_behind-start-requires c = subst IsSome (sym c.requires.key.there) refl

pub front_from-requires-clause-rank : goal.front_from-requires-clause-rank
front_from-requires-clause-rank c =
    let some : List Node = clashing_at c.args.loc c.args.access c.args.nodes.now.nodes in
    let among : IsLaneAmong c.args.nodes.now.nodes some c.in-Some.lane.now.ids.items = filed_among c.args.nodes.now.nodes c.args.loc c.args.access c.in-Some.lane.now.ids.items c.rank_behind-start.ensures.graph (c.in-Some.ensures.kept ∙ c.requires.filed c.args.loc c.args.access) in
    let behind : IsRankPast c.requires.key.node.task.key some c.rank_behind-start.result = subst (λ (o : Option Node). IfSome o (λ (n : Node). IsRankPast n.task.key some c.rank_behind-start.result)) c.requires.key.there (c.rank_behind-start.ensures.rank some among) in
    subst (λ k. IsRankPast k some c.rank_behind-start.result) c.requires.key.key_is behind

pub returns-in-None-clause-ids : goal.returns-in-None-clause-ids
returns-in-None-clause-ids c =
    let none : ids_of (clashing_at c.args.loc c.args.access c.args.nodes.now.nodes) ≡ [] = sym (c.requires.filed c.args.loc c.args.access) ∙ c.in-None.ensures.beyond in
    sym (ap (λ l. ids_of (up_to_writer c.args.loc l)) (none_clashing c.args.key.now c.args.loc c.args.access c.args.nodes.now.nodes (no_ids (clashing_at c.args.loc c.args.access c.args.nodes.now.nodes) none)))
