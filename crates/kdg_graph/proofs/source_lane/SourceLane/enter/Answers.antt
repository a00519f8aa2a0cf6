use Rattle.std.proofs.Common.{◌≡◌, List, true, false, ap, sym, not}
use Rattle.plain_laws.specs.Options.{if_some_at}
use Rattle.kdg_graph.proofs.Common.{is_blocked, Node, node_at, is_unblocked}
use Rattle.kdg_graph.proofs.Selecting.{answered}
use Rattle.kdg_graph.proofs.source_lane.SourceLane.enter.Goals as goal
use Rattle.kdg_graph.specs.NodeLaws.{found_node}

pub returns-then-known : goal.returns-then-known
returns-then-known c =
    let nodes : List Node = c.args.nodes.now.nodes in
    let found = found_node nodes c.args.id c.requires.there in
    let free : is_blocked nodes found.0 ≡ false = if_some_at (λ (n : Node). c.args.known.first ≡ true → is_blocked nodes n ≡ false) (node_at nodes c.args.id) found.0 found.1 c.requires.first c.if-known.true in
    answered nodes c.args.id found.0 (λ _. true) (is_unblocked nodes) _ _ c.requires.graph found.1 (sym (ap not free)) c.list.ensures

pub returns-then-known-2 : goal.returns-then-known-2
returns-then-known-2 c =
    let nodes : List Node = c.args.nodes.now.nodes in
    let found = found_node nodes c.args.id c.requires.there in
    let blocked : is_blocked nodes found.0 ≡ true = if_some_at (λ (n : Node). c.args.known.blocked ≡ true → is_blocked nodes n ≡ true) (node_at nodes c.args.id) found.0 found.1 c.requires.blocked c.if-known-2.true in
    answered nodes c.args.id found.0 (λ _. false) (is_unblocked nodes) _ _ c.requires.graph found.1 (sym (ap not blocked)) c.forget.ensures
