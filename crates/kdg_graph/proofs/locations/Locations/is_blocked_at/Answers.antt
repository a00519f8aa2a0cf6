use Rattle.std.proofs.Common.{◌≡◌, ◌∙◌, List, Option, Some, true, not, ap, subst, Contains, IfSome}
use Rattle.kdg_graph.proofs.Common.{access_at, clash, clashes_at, clashing_at, is_first_before, Node, ids_of, in_filter}
use Rattle.kdg_graph.proofs.Blocking.{behind_first}
use Rattle.kdg_graph.proofs.Filing.{filed_among}
use Rattle.kdg_graph.proofs.LookUps.{ids_find_nodes}
use Rattle.kdg_graph.proofs.locations.Locations.is_blocked_at.Goals as goal

pub returns-in-Read : goal.returns-in-Read
returns-in-Read c =
    let are : c.in-Some.lane.now.ids.items ≡ ids_of (clashing_at c.args.loc c.args.access c.args.nodes.now.nodes) = c.in-Some.ensures.kept ∙ c.requires.filed c.args.loc c.args.access in
    c.starts_before.ensures.first (clashing_at c.args.loc c.args.access c.args.nodes.now.nodes) (filed_among c.args.nodes.now.nodes c.args.loc c.args.access c.in-Some.lane.now.ids.items c.starts_before.ensures.graph are)

pub returns-in-Write : goal.returns-in-Write
returns-in-Write c =
    let nodes : List Node = c.args.nodes.now.nodes in
    let some : List Node = clashing_at c.args.loc c.args.access nodes in
    let node : Node = c.requires.key.node in
    let are : c.in-Some.lane.now.ids.items ≡ ids_of some = c.in-Some.ensures.kept ∙ c.requires.filed c.args.loc c.args.access in
    let access : access_at node.set c.args.loc ≡ Some c.args.access = subst (λ (o : Option Node). IfSome o (λ (n : Node). access_at n.set c.args.loc ≡ Some c.args.access)) c.requires.key.there c.requires.access in
    let clashes : clashes_at c.args.loc c.args.access node ≡ true = ap (clash (Some c.args.access)) access ∙ ap (λ a. clash (Some a) (Some a)) c.in-Write.is in
    let has : Contains some node = in_filter (clashes_at c.args.loc c.args.access) nodes node (ids_find_nodes nodes c.args.id node c.requires.key.there).0 clashes in
    ap not c.starts_with.ensures
    ∙ behind_first nodes some c.in-Some.lane.now.ids.items c.args.id node c.len-graph.ensures.graph (filed_among nodes c.args.loc c.args.access c.in-Some.lane.now.ids.items c.len-graph.ensures.graph are) c.requires.key.there has
    ∙ ap (λ k. is_first_before k some) c.requires.key.key_is
