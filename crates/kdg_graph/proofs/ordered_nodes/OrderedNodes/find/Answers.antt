use Rattle.std.proofs.Common.{rules, ◌≡◌, ◌∙◌, ℕ, None, Some, ap, find, option_map, is_eq}
use Rattle.std.proofs.lemmas.Iterator.Consumers.{YieldsList-from_first}
use Rattle.std.proofs.lemmas.Iterator.Search.{find_from_yields_List}
use Rattle.kdg_graph.proofs.Common.{entries, key_cmp, Node, node_with_key, NodeShelf}
use Rattle.kdg_graph.proofs.Searches.{with_key_stored}
use Rattle.kdg_graph.proofs.ordered_nodes.OrderedNodes.find.Goals as goal

pub returns-in_err-node : goal.returns-in_err-node
returns-in_err-node c =
    let has_key : ℕ × Node → _ = λ entry. is_eq (key_cmp entry.1.task.key c.args.key.now) in
    let found : option_map (λ item. (item.0, item.1.now)) c.find.result ≡ find has_key (entries c.self.inside.slots) =
    find_from_yields_List has_key _ _ _ c.find.ensures.ran (YieldsList-from_first (λ item. (item.0, item.1.now)) (λ rest. rest) (entries c.self.inside.slots) c.iter.ensures.rest) (λ x b q k. search rules) in
    c.from_residual.ensures
    ∙ ap (option_map (λ (node : Node). node.id)) (with_key_stored c.self.inside.slots c.args.key.now None c.self.invariant (rw c.in_err-node.was at found))
    ∙ ap (λ (shelf : NodeShelf). option_map (λ (node : Node). node.id) (node_with_key shelf.nodes c.args.key.now)) c.self.view_is

pub returns : goal.returns
returns c =
    let has_key : ℕ × Node → _ = λ entry. is_eq (key_cmp entry.1.task.key c.args.key.now) in
    let found : option_map (λ item. (item.0, item.1.now)) c.find.result ≡ find has_key (entries c.self.inside.slots) =
    find_from_yields_List has_key _ _ _ c.find.ensures.ran (YieldsList-from_first (λ item. (item.0, item.1.now)) (λ rest. rest) (entries c.self.inside.slots) c.iter.ensures.rest) (λ x b q k. search rules) in
    ap (λ (node : Node). Some node.id) c.node.view_is
    ∙ ap (option_map (λ (node : Node). node.id)) (with_key_stored c.self.inside.slots c.args.key.now (Some (c.in_ok-node.field-0-0, c.in_ok-node.node.now)) c.self.invariant (rw c.in_ok-node.was at found))
    ∙ ap (λ (shelf : NodeShelf). option_map (λ (node : Node). node.id) (node_with_key shelf.nodes c.args.key.now)) c.self.view_is
