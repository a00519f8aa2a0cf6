use Rattle.std.proofs.Common.{rules, ◌≡◌, ◌∙◌, List, [], None, ap, sym, slice_get}
use Rattle.kdg_graph.proofs.Common.{NodeId, IsRankPast, clashing_at, Node, ids_of, least_of}
use Rattle.kdg_graph.proofs.Filing.{filed_among, no_ids}
use Rattle.kdg_graph.proofs.Fronting.{first_from, later_clashing, none_clashing}
use Rattle.kdg_graph.proofs.locations.Locations.first_after.Goals as goal

pub returns-in_err-lane : goal.returns-in_err-lane
returns-in_err-lane c =
    let none : ids_of (clashing_at c.args.loc c.args.access c.args.nodes.now.nodes) ≡ [] = sym (c.requires.filed c.args.loc c.args.access) ∙ c.in_err-lane.ensures.beyond in
    let result : c.from_residual.result ≡ None = search rules in
    result ∙ sym (ap least_of (none_clashing c.args.key.now c.args.loc c.args.access c.args.nodes.now.nodes (no_ids (clashing_at c.args.loc c.args.access c.args.nodes.now.nodes) none)))

pub returns : goal.returns
returns c =
    let some : List Node = clashing_at c.args.loc c.args.access c.args.nodes.now.nodes in
    let are : c.in_ok-lane.lane.now.ids.items ≡ ids_of some = c.in_ok-lane.ensures.kept ∙ c.requires.filed c.args.loc c.args.access in
    let rank : IsRankPast c.args.key.now some c.rank_past-place.result = c.rank_past-place.ensures.rank some (filed_among c.args.nodes.now.nodes c.args.loc c.args.access c.in_ok-lane.lane.now.ids.items c.rank_past-place.ensures.graph are) in
    c.get.ensures.id ∙ ap (λ (l : List NodeId). slice_get l c.rank_past-place.result) are ∙ first_from c.rank_past-place.result some ∙ ap least_of (later_clashing c.args.key.now c.args.loc c.args.access c.args.nodes.now.nodes c.rank_past-place.result rank)
