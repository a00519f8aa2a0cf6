use Rattle.std.proofs.Common.{rules, ◌≡◌, ◌∙◌, List, [], None, Option, refl, subst, ap, sym, IfSome, IsSome, slice_get}
use Rattle.kdg_graph.proofs.Common.{NodeId, IsRankPast, IsLaneAmong, clashing_at, Node, ids_of, least_of}
use Rattle.kdg_graph.proofs.Filing.{filed_among, no_ids}
use Rattle.kdg_graph.proofs.Fronting.{first_from, later_clashing, none_clashing}
use Rattle.kdg_graph.proofs.locations.Locations.first_behind.Goals as goal

pub rank_behind-next-requires : goal.rank_behind-next-requires
rank_behind-next-requires c = subst IsSome (sym c.requires.key.there) refl

pub returns-in_err-lane : goal.returns-in_err-lane
returns-in_err-lane c =
    let none : ids_of (clashing_at c.args.loc c.args.access c.args.nodes.now.nodes) ≡ [] = sym (c.requires.filed c.args.loc c.args.access) ∙ c.in_err-lane.ensures.beyond in
    let result : c.from_residual.result ≡ None = search rules in
    result ∙ sym (ap least_of (none_clashing c.args.key.now c.args.loc c.args.access c.args.nodes.now.nodes (no_ids (clashing_at c.args.loc c.args.access c.args.nodes.now.nodes) none)))

pub returns : goal.returns
returns c =
    let nodes : List Node = c.args.nodes.now.nodes in
    let some : List Node = clashing_at c.args.loc c.args.access nodes in
    let are : c.in_ok-lane.lane.now.ids.items ≡ ids_of some = c.in_ok-lane.ensures.kept ∙ c.requires.filed c.args.loc c.args.access in
    let among : IsLaneAmong nodes some c.in_ok-lane.lane.now.ids.items = filed_among nodes c.args.loc c.args.access c.in_ok-lane.lane.now.ids.items c.rank_behind-next.ensures.graph are in
    let behind : IsRankPast c.requires.key.node.task.key some c.rank_behind-next.result = subst (λ (o : Option Node). IfSome o (λ (n : Node). IsRankPast n.task.key some c.rank_behind-next.result)) c.requires.key.there (c.rank_behind-next.ensures.rank some among) in
    let rank : IsRankPast c.args.key.now some c.rank_behind-next.result = subst (λ k. IsRankPast k some c.rank_behind-next.result) c.requires.key.key_is behind in
    c.get.ensures.id ∙ ap (λ (l : List NodeId). slice_get l c.rank_behind-next.result) are ∙ first_from c.rank_behind-next.result some ∙ ap least_of (later_clashing c.args.key.now c.args.loc c.args.access nodes c.rank_behind-next.result rank)
