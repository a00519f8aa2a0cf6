use Rattle.std.proofs.Common.{◌≡◌, ◌∙◌, List, ap, sym, option_map}
use Rattle.kdg_graph.proofs.Common.{IsLane, Node, ids_of, node_with_key, NodeShelf, nodes_of}
use Rattle.kdg_graph.proofs.Searches.{id_found_at, none_at_gap}
use Rattle.kdg_graph.proofs.ordered_nodes.OrderedNodes.find_in.Goals as goal

pub returns-in-Ok : goal.returns-in-Ok
returns-in-Ok c =
    let nodes : List Node = nodes_of c.self.inside.slots in
    let ids : c.args.order.now.ids.items ≡ ids_of nodes = c.requires ∙ ap (λ (shelf : NodeShelf). ids_of shelf.nodes) (sym c.self.view_is) in
    let lane : IsLane c.self.inside.slots nodes c.args.order.now.ids.items = record { stored = c.self.invariant.stored; ids_are = ids; ascending = c.self.invariant.graph.ascending } in
    c.get.ensures.id
    ∙ id_found_at c.args.key.now nodes c.args.order.now.ids.items c.in-Ok.place c.self.invariant.graph.ascending ids (c.in-Ok.ensures.found nodes lane)
    ∙ ap (λ (shelf : NodeShelf). option_map (λ (node : Node). node.id) (node_with_key shelf.nodes c.args.key.now)) c.self.view_is

pub returns-in-Err : goal.returns-in-Err
returns-in-Err c =
    let nodes : List Node = nodes_of c.self.inside.slots in
    let ids : c.args.order.now.ids.items ≡ ids_of nodes = c.requires ∙ ap (λ (shelf : NodeShelf). ids_of shelf.nodes) (sym c.self.view_is) in
    let lane : IsLane c.self.inside.slots nodes c.args.order.now.ids.items = record { stored = c.self.invariant.stored; ids_are = ids; ascending = c.self.invariant.graph.ascending } in
    sym (ap (option_map (λ (node : Node). node.id)) (none_at_gap c.args.key.now nodes c.in-Err.field-0 c.self.invariant.graph.ascending (c.in-Err.ensures.found nodes lane)))
    ∙ ap (λ (shelf : NodeShelf). option_map (λ (node : Node). node.id) (node_with_key shelf.nodes c.args.key.now)) c.self.view_is
