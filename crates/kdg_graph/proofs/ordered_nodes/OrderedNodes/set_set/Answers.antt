use Rattle.std.proofs.Common.{rules, ◌≡◌, ◌∙◌, [], ◌∷◌, Some, ap, subst, sym, option_map}
use Rattle.kdg_graph.proofs.Common.{get, with_value, Accesses, Node, HasNode, set_at, NodeShelf, with_sets, IsStored, nodes_of}
use Rattle.kdg_graph.proofs.Stored.{entry_of, key_of, with_set_stored}
use Rattle.kdg_graph.proofs.ordered_nodes.OrderedNodes.set_set.Goals as goal

pub index_mut-named-requires : goal.index_mut-named-requires
index_mut-named-requires c = key_of c.self.inside.slots c.args.id c.self.invariant (subst (λ (shelf : NodeShelf). HasNode shelf.nodes c.args.id) (sym c.self.view_is) c.requires)

pub invariant_of-self : goal.invariant_of-self
invariant_of-self c =
    let node : Node = record { id = c.named.inside.id; task = c.named.inside.task; set = c.named.inside.set; running = c.named.inside.running } in
    let found : get c.self.inside.slots c.args.id.at ≡ Some node = c.index_mut-named.ensures.value ∙ ap (λ (n : Node). Some n) (sym c.named.view_is) in
    let is : c.replace.new.dest ≡ c.args.set = search rules in
    subst (λ (s : Accesses). IsStored (with_value c.self.inside.slots c.args.id.at (record node { set = s }))) (sym is) (with_set_stored c.self.inside.slots c.args.id node c.args.set c.items-ascending.ensures.ascending c.self.invariant found).0

pub returns-clause-nodes : goal.returns-clause-nodes
returns-clause-nodes c =
    let node : Node = record { id = c.named.inside.id; task = c.named.inside.task; set = c.named.inside.set; running = c.named.inside.running } in
    let found : get c.self.inside.slots c.args.id.at ≡ Some node = c.index_mut-named.ensures.value ∙ ap (λ (n : Node). Some n) (sym c.named.view_is) in
    let is : c.replace.new.dest ≡ c.args.set = search rules in
    ap (λ (s : Accesses). nodes_of (with_value c.self.inside.slots c.args.id.at (record node { set = s }))) is
    ∙ (with_set_stored c.self.inside.slots c.args.id node c.args.set c.items-ascending.ensures.ascending c.self.invariant found).1
    ∙ ap (λ (shelf : NodeShelf). with_sets (record { node = c.args.id; set = c.args.set } ∷ []) shelf.nodes) c.self.view_is

pub returns-clause-graph : goal.returns-clause-graph
returns-clause-graph c = (invariant_of-self c).graph

pub returns-clause-before : goal.returns-clause-before
returns-clause-before c =
    let node : Node = record { id = c.named.inside.id; task = c.named.inside.task; set = c.named.inside.set; running = c.named.inside.running } in
    let has : HasNode (nodes_of c.self.inside.slots) c.args.id = subst (λ (shelf : NodeShelf). HasNode shelf.nodes c.args.id) (sym c.self.view_is) c.requires in
    let found : get c.self.inside.slots c.args.id.at ≡ Some node = c.index_mut-named.ensures.value ∙ ap (λ (n : Node). Some n) (sym c.named.view_is) in
    let was : c.replace.result ≡ c.named.inside.set = search rules in
    ap (λ (shelf : NodeShelf). set_at shelf.nodes c.args.id) (sym c.self.view_is) ∙ ap (option_map (λ (n : Node). n.set)) (sym (entry_of c.self.inside.slots c.args.id c.self.invariant has) ∙ found) ∙ ap (λ (s : Accesses). Some s) (sym was)
