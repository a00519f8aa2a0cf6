use Rattle.std.proofs.Common.{◌≡◌, ◌∙◌, List, ap, sym, true, false, not}
use Rattle.plain_laws.specs.Options.{if_some_at}
use Rattle.kdg_graph.proofs.Common.{Node, node_at, is_blocked, is_unblocked}
use Rattle.kdg_graph.proofs.Selecting.{answered}
use Rattle.kdg_graph.proofs.source_lane.SourceLane.refresh.Goals as goal
use Rattle.kdg_graph.specs.NodeLaws.{found_node}

pub returns-then-is_blocked : goal.returns-then-is_blocked
returns-then-is_blocked c =
    let nodes : List Node = c.args.nodes.now.nodes in
    let found = found_node nodes c.args.id c.requires.there in
    let blocked = sym (if_some_at (λ (n : Node). c.is_blocked.result ≡ is_blocked nodes n) (node_at nodes c.args.id) found.0 found.1 c.is_blocked.ensures) ∙ c.if-is_blocked.true in
    answered nodes c.args.id found.0 (λ _. false) (is_unblocked nodes) _ _ c.requires.graph found.1 (sym (ap not blocked)) c.forget.ensures

pub returns-else-is_blocked : goal.returns-else-is_blocked
returns-else-is_blocked c =
    let nodes : List Node = c.args.nodes.now.nodes in
    let found = found_node nodes c.args.id c.requires.there in
    let blocked = sym (if_some_at (λ (n : Node). c.is_blocked.result ≡ is_blocked nodes n) (node_at nodes c.args.id) found.0 found.1 c.is_blocked.ensures) ∙ c.if-is_blocked.false in
    answered nodes c.args.id found.0 (λ _. true) (is_unblocked nodes) _ _ c.requires.graph found.1 (sym (ap not blocked)) c.list.ensures
