use Rattle.std.proofs.Common.{rules, ◌≡◌, ◌∙◌, List, [], Some, true, false, cond, ap, sym, filter}
use Rattle.kdg_graph.proofs.Common.{NodeId, Node, least_of, node_at}
use Rattle.kdg_graph.proofs.Earliest.{either_first, either_none, first_is_node, other_none}
use Rattle.kdg_graph.proofs.Fronting.{none_first}
use Rattle.kdg_graph.proofs.KeyOrder.{is_before}
use Rattle.kdg_graph.proofs.LookUps.{ids_find_nodes}
use Rattle.kdg_graph.proofs.ordered_nodes.OrderedNodes.earlier.Goals as goal

pub returns-in_default : goal.returns-in_default
returns-in_default c some p q among one_is other_is =
    let none : filter p some ≡ [] = none_first (filter p some) (sym one_is ∙ c.in_default.is) in
    other_is ∙ sym (ap least_of (either_none p q some none))

pub returns-in_default-other : goal.returns-in_default-other
returns-in_default-other c some p q among one_is other_is =
    let none : filter q some ≡ [] = none_first (filter q some) (sym other_is ∙ c.in_default-other.is) in
    sym c.in-Some.is ∙ one_is ∙ sym (ap least_of (other_none p q some none))

pub returns-then-is_lt : goal.returns-then-is_lt
returns-then-is_lt c some p q among one_is other_is =
    let nodes : List Node = c.args.self.now.nodes in
    let held : Node = record { id = c.held.inside.id; task = c.held.inside.task; set = c.held.inside.set; running = c.held.inside.running } in
    let found : Node = record { id = c.found.inside.id; task = c.found.inside.task; set = c.found.inside.set; running = c.found.inside.running } in
    let held_at : node_at nodes c.in-Some.first ≡ Some held = c.entry-held.ensures ∙ ap (λ (n : Node). Some n) (sym c.held.view_is) in
    let found_at : node_at nodes c.in-Some-other.second ≡ Some found = c.entry-found.ensures ∙ ap (λ (n : Node). Some n) (sym c.found.view_is) in
    let one = first_is_node nodes some p c.in-Some.first held c.len-graph.ensures.graph among (sym one_is ∙ c.in-Some.is) held_at in
    let other = first_is_node nodes some q c.in-Some-other.second found c.len-graph.ensures.graph among (sym other_is ∙ c.in-Some-other.is) found_at in
    let either = either_first p q some held found one.0 other.0 among.ascending one.1 other.1 in
    let test : is_before held.task.key found ≡ true = search rules in
    ap (λ (id : NodeId). Some id) (sym (ids_find_nodes nodes c.in-Some-other.second found found_at).1) ∙ ap (λ b. Some (cond b found.id held.id)) (sym test) ∙ sym either

pub returns-else-is_lt : goal.returns-else-is_lt
returns-else-is_lt c some p q among one_is other_is =
    let nodes : List Node = c.args.self.now.nodes in
    let held : Node = record { id = c.held.inside.id; task = c.held.inside.task; set = c.held.inside.set; running = c.held.inside.running } in
    let found : Node = record { id = c.found.inside.id; task = c.found.inside.task; set = c.found.inside.set; running = c.found.inside.running } in
    let held_at : node_at nodes c.in-Some.first ≡ Some held = c.entry-held.ensures ∙ ap (λ (n : Node). Some n) (sym c.held.view_is) in
    let found_at : node_at nodes c.in-Some-other.second ≡ Some found = c.entry-found.ensures ∙ ap (λ (n : Node). Some n) (sym c.found.view_is) in
    let one = first_is_node nodes some p c.in-Some.first held c.len-graph.ensures.graph among (sym one_is ∙ c.in-Some.is) held_at in
    let other = first_is_node nodes some q c.in-Some-other.second found c.len-graph.ensures.graph among (sym other_is ∙ c.in-Some-other.is) found_at in
    let either = either_first p q some held found one.0 other.0 among.ascending one.1 other.1 in
    let test : is_before held.task.key found ≡ false = search rules in
    ap (λ (id : NodeId). Some id) (sym (ids_find_nodes nodes c.in-Some.first held held_at).1) ∙ ap (λ b. Some (cond b found.id held.id)) (sym test) ∙ sym either
