use Rattle.std.proofs.Common.{◌≡◌, ◌∙◌, Contains, IsSome, None, Some, ap, refl, subst, sym, true≢false}
use Rattle.kdg_graph.proofs.Common.{HasNode, Node, NodeShelf, get, node_at, nodes_of}
use Rattle.kdg_graph.proofs.Lanes.{same_by_number}
use Rattle.kdg_graph.proofs.Stored.{entry_of}
use Rattle.kdg_graph.proofs.ordered_nodes.OrderedNodes.arrival.Goals as goal

pub returns-in-Some-clause-told : goal.returns-in-Some-clause-told
returns-in-Some-clause-told c _ =
    let node : Node = record { id = c.node.inside.id; task = c.node.inside.task; set = c.node.inside.set; running = c.node.inside.running } in
    let got : get c.self.inside.slots c.args.id.at ≡ Some node = sym (ap (λ (n : Node). Some n) c.node.view_is ∙ c.in-Some.ensures) in
    let its = c.self.invariant.all c.args.id.at node got in
    record {
      node = node;
      there = subst (λ (shelf : NodeShelf). Contains shelf.nodes node) c.self.view_is its.1;
      id_is = same_by_number node.id c.args.id its.0;
      prio_is = refl;
      beginning_is = c.beginning.ensures.beginning;
      fits = c.beginning.ensures.fits;
    }

pub returns-in-None-clause-told : goal.returns-in-None-clause-told
returns-in-None-clause-told c tells =
    let has : HasNode c.args.self.now.nodes c.args.id = subst (HasNode c.args.self.now.nodes) c.new.ensures tells in
    let kept : HasNode (nodes_of c.self.inside.slots) c.args.id = subst (λ (shelf : NodeShelf). HasNode shelf.nodes c.args.id) (sym c.self.view_is) has in
    let none : node_at (nodes_of c.self.inside.slots) c.args.id ≡ None = sym (entry_of c.self.inside.slots c.args.id c.self.invariant kept) ∙ sym c.in-None.ensures in
    absurd (true≢false (sym (subst IsSome none kept)))
