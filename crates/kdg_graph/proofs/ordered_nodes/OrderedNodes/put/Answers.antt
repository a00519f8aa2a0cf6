use Rattle.std.proofs.Common.{◌≡◌, ◌∙◌, ◌-◌, ◌^◌, ◌<◌, ap, arith, bit_and, subst, sym}
use Rattle.kdg_graph.proofs.Common.{slab_len, IsNewKey, Node, new_node, put_node, tasks_of, NodeShelf, nodes_of}
use Rattle.kdg_graph.proofs.Rewrites.{there_by_put}
use Rattle.kdg_graph.proofs.Rooms.{key_is_id}
use Rattle.kdg_graph.proofs.Stored.{put_stored}
use Rattle.kdg_graph.proofs.ordered_nodes.OrderedNodes.put.Goals as goal

pub invariant_of-self : goal.invariant_of-self
invariant_of-self c =
    let slots = c.self.inside.slots in
    let key = c.insert_reserved.result in
    let node : Node = new_node (record { at = bit_and c.vacant_key.result (2 ^ 32 - 1) }) c.args.task c.args.set in
    let left = subst (λ (shelf : NodeShelf). 0 < shelf.numbers) (sym c.self.view_is) c.requires.numbers in
    let same : c.vacant_key.result ≡ key = c.vacant_key.ensures.value ∙ sym c.insert_reserved.ensures.key in
    let is_id : node.id.at ≡ key = ap (λ k. bit_and k (2 ^ 32 - 1)) same ∙ key_is_id slots.capacity (slab_len slots) key left (omega (arith, c.insert_reserved.ensures.key_in_range, c.insert_reserved.ensures.capacity)) in
    let new : IsNewKey node.task.key (tasks_of (nodes_of slots)) = subst (λ (shelf : NodeShelf). IsNewKey node.task.key (tasks_of shelf.nodes)) (sym c.self.view_is) c.requires.new in
    (put_stored c.put_in_laws.ensures.ascending slots c.insert_reserved.new.self node key is_id c.self.invariant c.insert_reserved.ensures.was_vacant c.insert_reserved.ensures.updates new c.items-ascending.ensures.ascending).0

pub returns-clause-nodes : goal.returns-clause-nodes
returns-clause-nodes c =
    let slots = c.self.inside.slots in
    let key = c.insert_reserved.result in
    let node : Node = new_node (record { at = bit_and c.vacant_key.result (2 ^ 32 - 1) }) c.args.task c.args.set in
    let left = subst (λ (shelf : NodeShelf). 0 < shelf.numbers) (sym c.self.view_is) c.requires.numbers in
    let same : c.vacant_key.result ≡ key = c.vacant_key.ensures.value ∙ sym c.insert_reserved.ensures.key in
    let is_id : node.id.at ≡ key = ap (λ k. bit_and k (2 ^ 32 - 1)) same ∙ key_is_id slots.capacity (slab_len slots) key left (omega (arith, c.insert_reserved.ensures.key_in_range, c.insert_reserved.ensures.capacity)) in
    let new : IsNewKey node.task.key (tasks_of (nodes_of slots)) = subst (λ (shelf : NodeShelf). IsNewKey node.task.key (tasks_of shelf.nodes)) (sym c.self.view_is) c.requires.new in
    (put_stored c.put_in_laws.ensures.ascending slots c.insert_reserved.new.self node key is_id c.self.invariant c.insert_reserved.ensures.was_vacant c.insert_reserved.ensures.updates new c.items-ascending.ensures.ascending).1
    ∙ ap (λ (shelf : NodeShelf). put_node node shelf.nodes) c.self.view_is

pub returns-clause-graph : goal.returns-clause-graph
returns-clause-graph c = (invariant_of-self c).graph

pub returns-clause-there : goal.returns-clause-there
returns-clause-there c = there_by_put _ (new_node (record { at = bit_and c.vacant_key.result (2 ^ 32 - 1) }) c.args.task c.args.set) c.args.self.now.nodes (returns-clause-nodes c) (returns-clause-graph c)
