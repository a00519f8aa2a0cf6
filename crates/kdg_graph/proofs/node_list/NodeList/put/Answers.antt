use Rattle.std.proofs.Common.{◌≡◌, ◌<◌, ◌≤◌, ◌∙◌, ℕ, Bool, true, false, List, [], ◌∷◌, Option, ap, length, subst, sym, arith, IfSome}
use Rattle.plain_laws.specs.Options.{if_some_at}
use Rattle.kdg_graph.proofs.Common.{AllByRecursion, NodeId, Node, new_node, NodeStock, HaveOwnIds, ids_of, node_at, is_blocked, IsOrder, fronts_after, AreFiled, HasRoomFor, HasTakenFor, rooms_of, without, AreSelected, forgotten, is_unblocked, listed_in, refreshed}
use Rattle.kdg_graph.proofs.Listed.{listed_put, some_put}
use Rattle.kdg_graph.proofs.LookUps.{ids_find_nodes}
use Rattle.kdg_graph.proofs.Ordered.{place_left}
use Rattle.kdg_graph.proofs.Selecting.{but, length-put}
use Rattle.kdg_graph.proofs.Settling.{fronts_failing, found_put, select_but, settled_put, without_put}
use Rattle.kdg_graph.proofs.node_list.NodeList.put.Goals as goal

pub enter-known-requires-clause-room : goal.enter-known-requires-clause-room
enter-known-requires-clause-room c =
    let node : Node = new_node c.put-id.result c.args.task c.args.set in
    let room : HasRoomFor (c.args.set ∷ []) (rooms_of c.self.inside.locations.locations.items) = subst (λ (stock : NodeStock). HasRoomFor (c.args.set ∷ []) stock.rooms) (sym c.self.view_is) c.requires.rooms in
    subst (λ (o : Option Node). IfSome o (λ (n : Node). HasRoomFor (n.set ∷ []) (rooms_of c.self.inside.locations.locations.items))) (sym (found_put node c.self.inside.nodes.nodes c.put-id.new.self.nodes c.put-id.ensures.nodes c.put-id.ensures.graph)) room

pub enter-known-requires-clause-filed : goal.enter-known-requires-clause-filed
enter-known-requires-clause-filed c =
    let node : Node = new_node c.put-id.result c.args.task c.args.set in
    let left : without c.put-id.result c.put-id.new.self.nodes ≡ c.self.inside.nodes.nodes = ap (without c.put-id.result) c.put-id.ensures.nodes ∙ without_put node c.self.inside.nodes.nodes (subst HaveOwnIds c.put-id.ensures.nodes c.put-id.ensures.graph.own_ids) in
    subst (λ (l : List Node). AreFiled l c.self.inside.locations.locations.items) (sym left) c.self.invariant.0.filed

pub enter-requires-clause-some : goal.enter-requires-clause-some
enter-requires-clause-some c =
    let node : Node = new_node c.put-id.result c.args.task c.args.set in
    let long = ap length c.put-id.ensures.nodes ∙ length-put node c.self.inside.nodes.nodes in
    let some : 0 < c.self.inside.spare = omega (arith, c.requires.room, ap (λ (stock : NodeStock). stock.room) c.self.view_is) in
    let keys : c.self.inside.nodes.keys ≤ length c.self.inside.sources.standings = c.self.invariant.2.marks some in
    let fits : length c.put-id.new.self.nodes ≤ c.self.inside.sources.room = omega (arith, long, some, c.self.invariant.2.room) in
    let inside : c.put-id.result.at < length c.self.inside.sources.standings = omega (arith, keys, c.put-id.ensures.key, c.put-id.ensures.keys) in
    some_put node c.self.inside.nodes.nodes c.put-id.new.self.nodes c.self.inside.sources c.put-id.ensures.graph c.put-id.ensures.nodes fits inside c.self.invariant.0.some

pub invariant_of-self : goal.invariant_of-self
invariant_of-self c =
    let nodes : List Node = c.self.inside.nodes.nodes in
    let now : List Node = c.put-id.new.self.nodes in
    let node : Node = new_node c.put-id.result c.args.task c.args.set in
    let left : without c.put-id.result now ≡ nodes = ap (without c.put-id.result) c.put-id.ensures.nodes ∙ without_put node nodes (subst HaveOwnIds c.put-id.ensures.nodes c.put-id.ensures.graph.own_ids) in
    let listed : List NodeId = listed_in now c.self.inside.sources in
    let unblocked : AreSelected nodes (is_unblocked nodes) listed = listed_put node nodes now c.self.inside.sources c.put-id.ensures.graph c.put-id.ensures.nodes c.self.invariant.0.some ∙ c.self.invariant.0.unblocked_are in
    let others = select_but now (is_unblocked nodes) c.put-id.result listed (subst (λ (l : List Node). AreSelected l (is_unblocked nodes) listed) (sym left) unblocked) in
    let id = c.put-id.result in
    let first : Node → Bool = refreshed now (id ∷ []) (but id (is_unblocked nodes)) in
    let found = found_put node nodes now c.put-id.ensures.nodes c.put-id.ensures.graph in
    let blocked : c.enter-known.result.blocks_none ≡ true → AllByRecursion (λ other. is_blocked (without id now) other ≡ true) (fronts_after node.set node.task.key now) =
    if_some_at (λ (n : Node). c.enter-known.result.blocks_none ≡ true → AllByRecursion (λ other. is_blocked (without id now) other ≡ true) (fronts_after n.set n.task.key now)) (node_at now id) node found c.enter-known.ensures.blocks_none in
    let fail : c.enter-known.result.blocks_none ≡ true → AllByRecursion (λ other. first other ≡ false) (fronts_after node.set node.task.key now) =
    λ none. fronts_failing node nodes now c.put-id.ensures.graph (ids_find_nodes now id node found).0 (subst (λ (l : List Node). AllByRecursion (λ other. is_blocked l other ≡ true) (fronts_after node.set node.task.key now)) left (blocked none)) in
    let all : AreSelected now (forgotten (ids_of (fronts_after node.set node.task.key now)) first) (listed_in now c.forget_behind.new.self) =
    if_some_at (λ (n : Node). (c.enter-known.result.blocks_none ≡ true → AllByRecursion (λ other. first other ≡ false) (fronts_after n.set n.task.key now)) → AreSelected now (forgotten (ids_of (fronts_after n.set n.task.key now)) first) (listed_in now c.forget_behind.new.self))
    (node_at now id) node found (c.forget_behind.ensures.ids first (c.enter.ensures.ids (but id (is_unblocked nodes)) others)) fail in
    let spare = c.self.invariant.2 in
    let fewer = c.saturating_sub-self-inside.ensures in
    let long = ap length c.put-id.ensures.nodes ∙ length-put node nodes in (
      record {
        graph = c.put-id.ensures.graph;
        filed = c.enter-known.ensures.filed;
        some = c.forget_behind.ensures.some;
        unblocked_are = settled_put node nodes now (listed_in now c.forget_behind.new.self) c.self.invariant.0.graph.ascending c.put-id.ensures.graph c.put-id.ensures.nodes all;
      },
      c.enter_order.ensures.order,
      record {
        places = omega (arith, spare.places, fewer, c.enter_order.ensures.places c.self.inside.nodes.numbers c.put-id.new.self.numbers c.put-id.ensures.numbers);
        numbers = omega (arith, spare.numbers, fewer, c.put-id.ensures.numbers);
        marks = λ some. omega (arith, spare.marks (omega (arith, some, fewer)), c.put-id.ensures.keys, c.forget_behind.ensures.marks, c.enter.ensures.marks);
        room = omega (arith, spare.room, fewer, long, c.enter.ensures.room, c.forget_behind.ensures.room);
      },
    )

pub enter_order-requires-clause-others : goal.enter_order-requires-clause-others
enter_order-requires-clause-others c =
    let node : Node = new_node c.put-id.result c.args.task c.args.set in
    let left : without c.put-id.result c.put-id.new.self.nodes ≡ c.self.inside.nodes.nodes = ap (without c.put-id.result) c.put-id.ensures.nodes ∙ without_put node c.self.inside.nodes.nodes (subst HaveOwnIds c.put-id.ensures.nodes c.put-id.ensures.graph.own_ids) in
    subst (λ (l : List Node). IsOrder l c.self.inside.order) (sym left) c.self.invariant.1

pub enter_order-requires-clause-room : goal.enter_order-requires-clause-room
enter_order-requires-clause-room c =
    place_left c.self.inside.order c.self.inside.nodes.numbers (omega (arith, c.requires.room, ap (λ (stock : NodeStock). stock.room) c.self.view_is, c.self.invariant.2.places))

pub returns-clause-rooms : goal.returns-clause-rooms
returns-clause-rooms c =
    let nodes : List Node = c.self.inside.nodes.nodes in
    let now : List Node = c.put-id.new.self.nodes in
    let node : Node = new_node c.put-id.result c.args.task c.args.set in
    let before : List ℕ = rooms_of c.self.inside.locations.locations.items in
    let after : List ℕ = rooms_of c.enter-known.new.self.locations.items in
    let taken : HasTakenFor (c.args.set ∷ []) before after = if_some_at (λ (n : Node). HasTakenFor (n.set ∷ []) before after) (node_at now c.put-id.result) node (found_put node nodes now c.put-id.ensures.nodes c.put-id.ensures.graph) c.enter-known.ensures.room in
    subst (λ (stock : NodeStock). HasTakenFor (c.args.set ∷ []) stock.rooms after) c.self.view_is taken
