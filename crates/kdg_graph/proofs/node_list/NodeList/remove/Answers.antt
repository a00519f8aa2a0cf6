use Rattle.std.proofs.Common.{◌≡◌, ◌∙◌, ℕ, List, [], Some, false, true, ap, length, subst, sym, arith, option_map}
use Rattle.plain_laws.specs.Options.{if_some_at}
use Rattle.kdg_graph.proofs.Common.{AllByRecursion, Access, IsRankPast, Node, NodeStock, node_at, task_at, IsOrder, AreFiled, clashing_at, without, AreSelected, is_unblocked, listed_in}
use Rattle.kdg_graph.proofs.Arriving.{unblocked_leads}
use Rattle.kdg_graph.proofs.Listed.{listed_without, number_listed, some_without}
use Rattle.kdg_graph.proofs.Ordered.{length-without}
use Rattle.kdg_graph.proofs.Settling.{select_left, settled_without}
use Rattle.kdg_graph.proofs.node_list.NodeList.remove.Goals as goal

pub refresh_behind-requires-clause-first : goal.refresh_behind-requires-clause-first
refresh_behind-requires-clause-first c listed =
    let nodes : List Node = c.self.inside.nodes.nodes in
    let node : Node = record { id = c.node.inside.id; task = c.node.inside.task; set = c.node.inside.set; running = c.node.inside.running } in
    let is : node_at nodes c.args.id ≡ Some node = c.remove-node.ensures.node ∙ ap (λ (n : Node). Some n) (sym c.node.view_is) in
    let free : is_unblocked nodes node ≡ true = sym (number_listed nodes (is_unblocked nodes) c.self.inside.sources c.args.id node c.self.invariant.0.graph is c.self.invariant.0.unblocked_are) ∙ sym c.is_listed-unblocked.ensures.listed ∙ listed in
    subst (λ (l : List Node). AllByRecursion (λ (p : ℕ × Access). IsRankPast node.task.key (clashing_at p.0 p.1 l) 0) node.set) (sym c.remove-node.ensures.nodes)
    (unblocked_leads c.conflict_laws.ensures.decided c.conflict_laws.ensures.mutual nodes c.args.id node c.self.invariant.0.graph is free)

pub refresh_behind-requires-clause-none_left : goal.refresh_behind-requires-clause-none_left
refresh_behind-requires-clause-none_left c none =
    let node : Node = record { id = c.node.inside.id; task = c.node.inside.task; set = c.node.inside.set; running = c.node.inside.running } in
    let is : node_at c.self.inside.nodes.nodes c.args.id ≡ Some node = c.remove-node.ensures.node ∙ ap (λ (n : Node). Some n) (sym c.node.view_is) in
    let alone : List Node → Node → Type 0 = λ l n. AllByRecursion (λ (p : ℕ × Access). clashing_at p.0 p.1 l ≡ []) n.set in
    subst (λ (l : List Node). alone l node) (sym c.remove-node.ensures.nodes) (if_some_at (λ (n : Node). c.leave-left.result ≡ false → alone (without c.args.id c.self.inside.nodes.nodes) n) (node_at c.self.inside.nodes.nodes c.args.id) node is c.leave-left.ensures.none_left none)

pub refresh_behind-requires-clause-filed : goal.refresh_behind-requires-clause-filed
refresh_behind-requires-clause-filed c = subst (λ (l : List Node). AreFiled l c.leave-left.new.self.locations.items) (sym c.remove-node.ensures.nodes) c.leave-left.ensures.filed

pub refresh_behind-requires-clause-some : goal.refresh_behind-requires-clause-some
refresh_behind-requires-clause-some c =
    some_without c.args.id c.remove-node.result c.self.inside.nodes.nodes c.remove-node.new.self.nodes (is_unblocked c.self.inside.nodes.nodes) c.forget.new.self c.self.invariant.0.graph c.remove-node.ensures.node c.remove-node.ensures.nodes (c.forget.ensures.ids (is_unblocked c.self.inside.nodes.nodes) c.self.invariant.0.unblocked_are) c.forget.ensures.some

pub invariant_of-self : goal.invariant_of-self
invariant_of-self c =
    let nodes : List Node = c.self.inside.nodes.nodes in
    let node : Node = record { id = c.node.inside.id; task = c.node.inside.task; set = c.node.inside.set; running = c.node.inside.running } in
    let is : node_at nodes c.args.id ≡ Some node = c.remove-node.ensures.node ∙ ap (λ (n : Node). Some n) (sym c.node.view_is) in
    let now : c.remove-node.new.self.nodes ≡ without c.args.id nodes = c.remove-node.ensures.nodes in
    let after : List Node = c.remove-node.new.self.nodes in
    let forgets = c.forget.ensures.ids (is_unblocked nodes) c.self.invariant.0.unblocked_are in
    let left = select_left nodes (is_unblocked nodes) c.args.id (listed_in nodes c.forget.new.self) forgets in
    let same = listed_without c.args.id c.remove-node.result nodes after (is_unblocked nodes) c.forget.new.self c.self.invariant.0.graph c.remove-node.ensures.node now forgets in
    let others = subst (λ (l : List Node). AreSelected l (is_unblocked nodes) (listed_in after c.forget.new.self)) (sym now) (same ∙ left) in
    let spare = c.self.invariant.2 in
    let fewer = ap length now in
    let one = length-without c.args.id nodes c.remove-node.result c.self.invariant.0.graph c.remove-node.ensures.node in (
      record {
        graph = c.remove-node.ensures.graph;
        filed = subst (λ (l : List Node). AreFiled l c.leave-left.new.self.locations.items) (sym now) c.leave-left.ensures.filed;
        some = c.refresh_behind.ensures.some;
        unblocked_are = settled_without c.args.id node nodes after (listed_in after c.refresh_behind.new.self) c.self.invariant.0.graph is now (c.refresh_behind.ensures.ids (is_unblocked nodes) others);
      },
      subst (λ (l : List Node). IsOrder l c.leave_order.new.order) (sym now) c.leave_order.ensures.order,
      record {
        places = omega (arith, spare.places, c.leave_order.ensures.places c.self.inside.nodes.numbers c.remove-node.new.self.numbers c.remove-node.ensures.numbers);
        numbers = omega (arith, spare.numbers, c.remove-node.ensures.numbers);
        marks = λ some. omega (arith, spare.marks some, c.remove-node.ensures.keys, c.refresh_behind.ensures.marks, c.forget.ensures.marks);
        room = omega (arith, spare.room, fewer, one, c.self.invariant.0.some.room, c.forget.ensures.room, c.refresh_behind.ensures.room);
      },
    )

pub returns-clause-task : goal.returns-clause-task
returns-clause-task c =
    ap (λ (stock : NodeStock). task_at stock.nodes c.args.id) (sym c.self.view_is)
    ∙ ap (option_map (λ (node : Node). node.task)) c.remove-node.ensures.node
    ∙ ap (λ (node : Node). Some node.task) (sym c.node.view_is)

pub returns-clause-nodes : goal.returns-clause-nodes
returns-clause-nodes c = c.remove-node.ensures.nodes ∙ ap (λ (stock : NodeStock). without c.args.id stock.nodes) c.self.view_is
