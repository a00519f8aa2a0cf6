use Rattle.std.proofs.Common.{◌≡◌, ◌∙◌, [], ap, sym}
use Rattle.kdg_graph.proofs.Common.{clashing_at, up_to_writer, ids_of}
use Rattle.kdg_graph.proofs.Filing.{filed_among, no_ids}
use Rattle.kdg_graph.proofs.Fronting.{none_clashing}
use Rattle.kdg_graph.proofs.locations.Locations.front.Goals as goal

pub front_from-requires-clause-rank : goal.front_from-requires-clause-rank
front_from-requires-clause-rank c =
    c.rank_known-start.ensures.rank (clashing_at c.args.loc c.args.access c.args.nodes.now.nodes) (filed_among c.args.nodes.now.nodes c.args.loc c.args.access c.in-Some.lane.now.ids.items c.rank_known-start.ensures.graph (c.in-Some.ensures.kept ∙ c.requires.filed c.args.loc c.args.access)) c.requires.first

pub returns-in-None-clause-ids : goal.returns-in-None-clause-ids
returns-in-None-clause-ids c =
    let none : ids_of (clashing_at c.args.loc c.args.access c.args.nodes.now.nodes) ≡ [] = sym (c.requires.filed c.args.loc c.args.access) ∙ c.in-None.ensures.beyond in
    sym (ap (λ l. ids_of (up_to_writer c.args.loc l)) (none_clashing c.args.key.now c.args.loc c.args.access c.args.nodes.now.nodes (no_ids (clashing_at c.args.loc c.args.access c.args.nodes.now.nodes) none)))
