use Rattle.std.proofs.Common.{◌≡◌, ◌∙◌, ℕ, Bool, List, [], ◌∷◌, Option, Some, ap, length, refl, subst, sym, arith, IfSome, IsSome, option_map}
use Rattle.plain_laws.specs.Options.{if_some_at}
use Rattle.kdg_graph.proofs.Common.{Accesses, access_at, SetChange, NodeId, Node, NodeStock, HasNode, ids_of, node_at, AreFiledWith, lacking, fronts_after, HasRoomFor, HasTakenFor, Location, rooms_of, without, AreSelected, is_unblocked, listed_in, refreshed, length-map, ids_in}
use Rattle.kdg_graph.proofs.Keeping.{changed}
use Rattle.kdg_graph.proofs.Filing.{filed_before}
use Rattle.kdg_graph.proofs.Listed.{some_changed, listed_kept}
use Rattle.kdg_graph.proofs.Ordered.{order_kept, places_kept}
use Rattle.kdg_graph.proofs.Selecting.{but}
use Rattle.kdg_graph.proofs.Settling.{found_changed, ids-changed, select_but, select_left, settled_exchanged, without_changed}
use Rattle.kdg_graph.proofs.node_list.NodeList.exchange_set.Goals as goal
use Rattle.kdg_graph.specs.NodeLaws.{found_node}

pub exchange-requires-clause-there : goal.exchange-requires-clause-there
exchange-requires-clause-there c =
    let gone = found_node c.self.inside.nodes.nodes c.args.id (subst (λ (stock : NodeStock). HasNode stock.nodes c.args.id) (sym c.self.view_is) c.requires.there) in
    subst IsSome (sym (found_changed c.args.id gone.0 c.args.set c.self.inside.nodes.nodes c.set_set-before.new.self.nodes c.self.invariant.0.graph c.set_set-before.ensures.graph gone.1 c.set_set-before.ensures.nodes)) refl

pub exchange-requires-clause-filed : goal.exchange-requires-clause-filed
exchange-requires-clause-filed c =
    let nodes : List Node = c.self.inside.nodes.nodes in
    let now : List Node = c.set_set-before.new.self.nodes in
    let locations : List Location = c.self.inside.locations.locations.items in
    let gone = found_node nodes c.args.id (subst (λ (stock : NodeStock). HasNode stock.nodes c.args.id) (sym c.self.view_is) c.requires.there) in
    let left = without_changed c.args.id gone.0 c.args.set nodes now c.self.invariant.0.graph c.set_set-before.ensures.graph gone.1 c.set_set-before.ensures.nodes in
    let had : Some c.set_set-before.result ≡ Some gone.0.set = sym c.set_set-before.ensures.before ∙ ap (option_map (λ (n : Node). n.set)) gone.1 in
    let is_before : gone.0.set ≡ c.set_set-before.result = cc in
    let filed : AreFiledWith (without c.args.id now) (record gone.0 { set = c.args.set }) (access_at gone.0.set) locations = filed_before nodes (without c.args.id now) c.args.id gone.0 c.args.set locations c.self.invariant.0.graph gone.1 left c.self.invariant.0.filed in
    subst (λ (o : Option Node). IfSome o (λ (n : Node). AreFiledWith (without c.args.id now) n (access_at c.set_set-before.result) locations)) (sym (found_changed c.args.id gone.0 c.args.set nodes now c.self.invariant.0.graph c.set_set-before.ensures.graph gone.1 c.set_set-before.ensures.nodes))
    (subst (λ (l : Accesses). AreFiledWith (without c.args.id now) (record gone.0 { set = c.args.set }) (access_at l) locations) is_before filed)

pub exchange-requires-clause-room : goal.exchange-requires-clause-room
exchange-requires-clause-room c =
    let gone = found_node c.self.inside.nodes.nodes c.args.id (subst (λ (stock : NodeStock). HasNode stock.nodes c.args.id) (sym c.self.view_is) c.requires.there) in
    let rooms : List ℕ = rooms_of c.self.inside.locations.locations.items in
    let room : HasRoomFor (c.args.set ∷ []) rooms = subst (λ (stock : NodeStock). HasRoomFor (c.args.set ∷ []) stock.rooms) (sym c.self.view_is) c.requires.rooms in
    subst (λ (o : Option Node). IfSome o (λ (n : Node). HasRoomFor (n.set ∷ []) rooms)) (sym (found_changed c.args.id gone.0 c.args.set c.self.inside.nodes.nodes c.set_set-before.new.self.nodes c.self.invariant.0.graph c.set_set-before.ensures.graph gone.1 c.set_set-before.ensures.nodes)) room

pub entry-node-requires : goal.entry-node-requires
entry-node-requires c =
    let gone = found_node c.self.inside.nodes.nodes c.args.id (subst (λ (stock : NodeStock). HasNode stock.nodes c.args.id) (sym c.self.view_is) c.requires.there) in
    subst IsSome (sym (found_changed c.args.id gone.0 c.args.set c.self.inside.nodes.nodes c.set_set-before.new.self.nodes c.self.invariant.0.graph c.set_set-before.ensures.graph gone.1 c.set_set-before.ensures.nodes)) refl

pub refresh-requires-clause-some : goal.refresh-requires-clause-some
refresh-requires-clause-some c = some_changed (record { node = c.args.id; set = c.args.set } ∷ []) c.self.inside.nodes.nodes c.set_set-before.new.self.nodes c.forget.new.self c.set_set-before.ensures.nodes c.forget.ensures.some

pub invariant_of-self : goal.invariant_of-self
invariant_of-self c =
    let nodes : List Node = c.self.inside.nodes.nodes in
    let now : List Node = c.set_set-before.new.self.nodes in
    let gone = found_node nodes c.args.id (subst (λ (stock : NodeStock). HasNode stock.nodes c.args.id) (sym c.self.view_is) c.requires.there) in
    let left = without_changed c.args.id gone.0 c.args.set nodes now c.self.invariant.0.graph c.set_set-before.ensures.graph gone.1 c.set_set-before.ensures.nodes in
    let changes : List SetChange = record { node = c.args.id; set = c.args.set } ∷ [] in
    let listed : List NodeId = listed_in now c.forget.new.self in
    let same : listed ≡ listed_in nodes c.forget.new.self = listed_kept (ids_in c.forget.new.self) nodes now (ap ids_of c.set_set-before.ensures.nodes ∙ ids-changed changes nodes) in
    let others = select_left nodes (is_unblocked nodes) c.args.id listed (same ∙ c.forget.ensures.ids (is_unblocked nodes) c.self.invariant.0.unblocked_are) in
    let some = select_but now (is_unblocked nodes) c.args.id listed (subst (λ (l : List Node). AreSelected l (is_unblocked nodes) listed) (sym left) others) in
    let first : Node → Bool = refreshed now (c.args.id ∷ []) (but c.args.id (is_unblocked nodes)) in
    let entry : Node = record { id = c.node.inside.id; task = c.node.inside.task; set = c.node.inside.set; running = c.node.inside.running } in
    let before : Accesses = c.set_set-before.result in
    let its : Node = record gone.0 { set = c.args.set } in
    let second : Node → Bool = refreshed now (ids_of (fronts_after (lacking before entry.set) entry.task.key now)) first in
    let after : AreSelected now second (listed_in now c.refresh_lacking.new.sources) = c.refresh_lacking.ensures.ids first (c.refresh.ensures.ids (but c.args.id (is_unblocked nodes)) some) in
    let Settled : Accesses → Node → Type 0 = λ was n. AreSelected now (refreshed now (ids_of (fronts_after (lacking n.set was) n.task.key now)) (refreshed now (ids_of (fronts_after (lacking was n.set) n.task.key now)) first)) (listed_in now c.refresh_lacking-2.new.sources) in
    let all : Settled before entry = c.refresh_lacking-2.ensures.ids second after in
    let found : Some c.entry-node.result.now ≡ Some its = sym c.entry-node.ensures ∙ found_changed c.args.id gone.0 c.args.set nodes now c.self.invariant.0.graph c.set_set-before.ensures.graph gone.1 c.set_set-before.ensures.nodes in
    let is_changed : c.entry-node.result.now ≡ its = cc in
    let had : Some before ≡ Some gone.0.set = sym c.set_set-before.ensures.before ∙ ap (option_map (λ (n : Node). n.set)) gone.1 in
    let is_before : before ≡ gone.0.set = cc in
    let spare = c.self.invariant.2 in
    let long = ap length c.set_set-before.ensures.nodes ∙ length-map nodes (changed changes) in (
      record {
        graph = c.set_set-before.ensures.graph;
        filed = c.exchange.ensures.filed;
        some = c.refresh_lacking-2.ensures.some;
        unblocked_are = settled_exchanged c.args.id gone.0 c.args.set nodes now (listed_in now c.refresh_lacking-2.new.sources) c.self.invariant.0.graph c.set_set-before.ensures.graph gone.1 c.set_set-before.ensures.nodes
            (subst (Settled gone.0.set) (c.node.view_is ∙ is_changed) (subst (λ (was : Accesses). Settled was entry) is_before all));
      },
      order_kept nodes now c.self.inside.order (ap ids_of c.set_set-before.ensures.nodes ∙ ids-changed changes nodes) c.self.invariant.1,
      record {
        places = omega (arith, spare.places, places_kept c.self.inside.order c.self.inside.nodes.numbers c.set_set-before.new.self.numbers c.set_set-before.ensures.numbers);
        numbers = omega (arith, spare.numbers, c.set_set-before.ensures.numbers);
        marks = λ some. omega (arith, spare.marks some, c.set_set-before.ensures.keys, c.refresh_lacking-2.ensures.marks, c.refresh_lacking.ensures.marks, c.refresh.ensures.marks, c.forget.ensures.marks);
        room = omega (arith, spare.room, long, c.forget.ensures.room, c.refresh.ensures.room, c.refresh_lacking.ensures.room, c.refresh_lacking-2.ensures.room);
      },
    )

pub returns-clause-rooms : goal.returns-clause-rooms
returns-clause-rooms c =
    let nodes : List Node = c.self.inside.nodes.nodes in
    let now : List Node = c.set_set-before.new.self.nodes in
    let gone = found_node nodes c.args.id (subst (λ (stock : NodeStock). HasNode stock.nodes c.args.id) (sym c.self.view_is) c.requires.there) in
    let its : Node = record gone.0 { set = c.args.set } in
    let before : List ℕ = rooms_of c.self.inside.locations.locations.items in
    let after : List ℕ = rooms_of c.exchange.new.self.locations.items in
    let found = found_changed c.args.id gone.0 c.args.set nodes now c.self.invariant.0.graph c.set_set-before.ensures.graph gone.1 c.set_set-before.ensures.nodes in
    let taken : HasTakenFor (c.args.set ∷ []) before after = if_some_at (λ (n : Node). HasTakenFor (n.set ∷ []) before after) (node_at now c.args.id) its found c.exchange.ensures.room in
    subst (λ (stock : NodeStock). HasTakenFor (c.args.set ∷ []) stock.rooms after) c.self.view_is taken
