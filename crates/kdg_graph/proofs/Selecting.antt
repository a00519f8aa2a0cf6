-- Ids of the nodes that pass a test, where one comes in or goes out.
use Rattle.std.proofs.Common.{◌≡◌, ◌≢◌, inl, inr, ℕ, suc, ◌+◌, ◌-◌, ◌<◌, ◌≤◌, ◌||◌, ◌&&◌, Bool, true, false, not, cond, List, [], ◌∷◌, ◌++◌, length, take, drop, get_or, append-nil, length-drop, Some, refl, sym, ◌∙◌, ap, subst, arith, Contains, IfSome, filter, flat_map, is_lt, Less, get_or-drop}
use Rattle.plain_laws.specs.Members.{some_passes}
use Rattle.plain_laws.specs.Bools.{same_tests}
use Rattle.plain_laws.specs.Lists.{filter_both}
use Rattle.plain_laws.specs.Options.{if_some_at}
use Rattle.task_order.specs.KeyLaws.{not_past_earlier}
use Rattle.kdg_graph.proofs.Common.{AllByRecursion, map-append, take_more, flat_map-append, count_by-le-length, length-filter, Key, key_cmp, IsAscending, NodeId, Node, HasNode, HaveOwnIds, IsGraph, ids_of, is_at, node_at, put_node, tasks_of, without, Access, Accesses, IsLaneAmong, front_after, fronts_after, AreRetested, AreSelected, AreSome, MarkedIds, forgotten, is_among, is_unblocked, listed_in, refreshed, retested, all_at, all_from, cases, from_filter, from_map, here, in_filter, in_map, none}
use Rattle.kdg_graph.proofs.Blocking.{any_from, found_some, same_found, all_tasks}
use Rattle.kdg_graph.proofs.KeyOrder.{is_before, put_first, same_filter}
use Rattle.kdg_graph.proofs.Lanes.{length-ids}
use Rattle.kdg_graph.proofs.LookUps.{ids_find_nodes, nodes_have_ids}
use Rattle.kdg_graph.specs.NodeLaws.{same_id, is_at-same, not_at, ascending_filtered}

-- ---- one node more

-- a node of the list comes in where the test comes to select it
pub put_among : (test more : Node → Bool) (new : Node) (nodes : List Node) → IsAscending (tasks_of nodes) → HaveOwnIds nodes → Contains nodes new → test new ≡ false → more new ≡ true → ((node : Node) → is_at new.id node ≡ false → more node ≡ test node)
    → put_node new (filter test nodes) ≡ filter more nodes
put_among test more new [] up own has is_out is_in same = absurd (none new has)
put_among test more new (node ∷ nodes) up own has is_out is_in same = elim (cases node new nodes has) [
  | inl is ↦ put_here test more new node nodes up own is_out is_in same is
  | inr later ↦
      let earlier : is_before new.task.key node ≡ true = ap is_lt (all_tasks (λ task. key_cmp node.task.key task.key ≡ Less) nodes new up.0 later) in
      let differs : is_at new.id node ≡ false = not_at new.id node (λ is. all_at (λ (n : Node). n.id ≢ node.id) nodes new own.0 later (sym is)) in
      let rest : put_node new (filter test nodes) ≡ filter more nodes = put_among test more new nodes up.1 own.1 later is_out is_in same in
      by_test test more new node nodes (test node) (same node differs) earlier rest
]
  where
    put_here : (test more : Node → Bool) (new node : Node) (nodes : List Node) → IsAscending (tasks_of (node ∷ nodes)) → HaveOwnIds (node ∷ nodes) → test new ≡ false → more new ≡ true → ((other : Node) → is_at new.id other ≡ false → more other ≡ test other) → node ≡ new
        → put_node new (filter test (node ∷ nodes)) ≡ filter more (node ∷ nodes)
    put_here test more new node nodes up own is_out is_in same is =
        let later : AllByRecursion (λ (other : Node). is_before new.task.key other ≡ false) (filter test nodes) =
        all_from (λ (other : Node). is_before new.task.key other ≡ false) (filter test nodes) (λ other has.
        ap (λ (n : Node). is_before n.task.key other) (sym is) ∙ not_past_earlier node.task.key other.task.key (all_tasks (λ task. key_cmp node.task.key task.key ≡ Less) nodes other up.0 (from_filter test nodes other has).0)) in
        let rest : filter test nodes ≡ filter more nodes = same_filter test more nodes (λ other has.
        sym (same other (not_at new.id other (λ equal. all_at (λ (n : Node). n.id ≢ node.id) nodes other own.0 has (equal ∙ ap (λ (n : Node). n.id) (sym is)))))) in
        ap (λ b. put_node new (cond b (node ∷ filter test nodes) (filter test nodes))) (ap test is ∙ is_out)
        ∙ put_first new (filter test nodes) later
        ∙ (λ i. sym is i ∷ rest i)
        ∙ sym (ap (λ b. cond b (node ∷ filter more nodes) (filter more nodes)) (ap more is ∙ is_in))

    by_test : (test more : Node → Bool) (new node : Node) (nodes : List Node) (here_is : Bool) → more node ≡ here_is → is_before new.task.key node ≡ true → put_node new (filter test nodes) ≡ filter more nodes
        → put_node new (cond here_is (node ∷ filter test nodes) (filter test nodes)) ≡ cond (more node) (node ∷ filter more nodes) (filter more nodes)
    by_test test more new node nodes true is earlier rest =
        ap (λ b. cond b (node ∷ put_node new (filter test nodes)) (new ∷ node ∷ filter test nodes)) earlier ∙ ap (λ l. node ∷ l) rest ∙ sym (ap (λ b. cond b (node ∷ filter more nodes) (filter more nodes)) is)
    by_test test more new node nodes false is earlier rest = rest ∙ sym (ap (λ b. cond b (node ∷ filter more nodes) (filter more nodes)) is)

-- ---- the place of an id

pub some_of_lane : (nodes : List Node) (test : Node → Bool) (ids : List NodeId) → IsAscending (tasks_of nodes) → AreSelected nodes test ids → IsLaneAmong nodes (filter test nodes) ids
some_of_lane nodes test ids up is = record {
  ids_are = is;
  there = all_from (λ node. Contains nodes node) (filter test nodes) (λ node has. (from_filter test nodes node has).0);
  ascending = ascending_filtered test nodes up;
}

-- ---- one node is tested anew

-- two answers for it that are one select the same
pub same_answer : (nodes : List Node) (id : NodeId) (node : Node) (one other test : Node → Bool) → IsGraph nodes → node_at nodes id ≡ Some node → one node ≡ other node → filter (retested one (id ∷ []) test) nodes ≡ filter (retested other (id ∷ []) test) nodes
same_answer nodes id node one other test graph is same =
    let by_case : (n : Node) → Contains nodes n → (at : Bool) → is_at id n ≡ at → cond (at || false) (one n) (test n) ≡ cond (at || false) (other n) (test n) = λ n has. elim [
      | true ↦ λ at. let node_is : n ≡ node = same_found nodes id node n graph has (same_id id n at) is in ap one node_is ∙ same ∙ ap other (sym node_is)
      | false ↦ λ _. refl
    ] in
    same_filter (retested one (id ∷ []) test) (retested other (id ∷ []) test) nodes (λ n has. by_case n has (is_at id n) refl)

-- a node is among the ids that are selected where it passes the test
pub among_selected : (nodes : List Node) (test : Node → Bool) (ids : List NodeId) (node : Node) → IsGraph nodes → Contains nodes node → AreSelected nodes test ids → is_among ids node ≡ test node
among_selected nodes test ids node graph has is = same_tests (is_among ids node) (test node) passes listed
  where
    passes : is_among ids node ≡ true → test node ≡ true
    passes among =
        let found : (id : NodeId) × Contains ids id × (is_at id node ≡ true) = some_passes (λ id. is_at id node) ids among in
        let one : (n : Node) × Contains (filter test nodes) n × (n.id ≡ found.0) = from_map (λ (n : Node). n.id) (filter test nodes) found.0 (subst (λ (l : List NodeId). Contains l found.0) is found.1) in
        let one_is : Contains nodes one.0 × (test one.0 ≡ true) = from_filter test nodes one.0 one.1 in
        let same : one.0 ≡ node = same_found nodes node.id node one.0 graph one_is.0 (one.2 ∙ sym (same_id found.0 node found.2)) (nodes_have_ids nodes node graph has) in
        ap test (sym same) ∙ one_is.1

    listed : test node ≡ true → is_among ids node ≡ true
    listed is_in =
        any_from (λ id. is_at id node) ids node.id (subst (λ (l : List NodeId). Contains l node.id) (sym is) (in_map (λ (n : Node). n.id) (filter test nodes) node (in_filter test nodes node has is_in))) (is_at-same node.id node refl)

-- the test that fails for the node with the id
abbrev pub but : NodeId → (Node → Bool) → Node → Bool
but id test node = test node && not (is_at id node)

pub but_same : (id : NodeId) (test : Node → Bool) (node : Node) → is_at id node ≡ false → but id test node ≡ test node
but_same id test node apart = ap (λ b. test node && not b) apart ∙ and_true (test node)
  where
    and_true : (test : Bool) → (test && true) ≡ test
    and_true true = refl
    and_true false = refl

-- one id out
pub but_is_forgotten : (nodes : List Node) (id : NodeId) (test : Node → Bool) → filter (but id test) nodes ≡ filter (forgotten (id ∷ []) test) nodes
but_is_forgotten nodes id test = same_filter (but id test) (forgotten (id ∷ []) test) nodes (λ node _. by_case (is_at id node) (test node))
  where
    by_case : (at passes : Bool) → (passes && not at) ≡ cond (at || false) false passes
    by_case true true = refl
    by_case true false = refl
    by_case false true = refl
    by_case false false = refl

pub taken_out : (nodes : List Node) (test : Node → Bool) (id : NodeId) (ids : List NodeId) → ids ≡ ids_of (without id (filter test nodes)) → AreSelected nodes (forgotten (id ∷ []) test) ids
taken_out nodes test id ids is = is ∙ ap ids_of (filter_both (λ node. not (is_at id node)) test nodes ∙ but_is_forgotten nodes id test)

-- one id in
abbrev with_one : NodeId → (Node → Bool) → Node → Bool
with_one id test = retested (λ _. true) (id ∷ []) test

put_one : (nodes : List Node) (id : NodeId) (node : Node) (test : Node → Bool) → IsGraph nodes → node_at nodes id ≡ Some node → test node ≡ false → put_node node (filter test nodes) ≡ filter (with_one id test) nodes
put_one nodes id node test graph is is_out =
    let is_node : Contains nodes node × (node.id ≡ id) = ids_find_nodes nodes id node is in
    let at : is_at id node ≡ true = is_at-same id node is_node.1 in
    put_among test (with_one id test) node nodes graph.ascending graph.own_ids is_node.0 is_out (ap (λ b. cond (b || false) true (test node)) at)
    (λ other apart.
    let differs : is_at id other ≡ false = ap (λ (i : NodeId). is_at i other) (sym is_node.1) ∙ apart in
    ap (λ b. cond (b || false) true (test other)) differs)

pub put_in_place : (nodes : List Node) (id : NodeId) (node : Node) (before ids : List NodeId) (test : Node → Bool) → IsGraph nodes → node_at nodes id ≡ Some node → test node ≡ false → AreSelected nodes test before
    → ((some : List Node) → IsLaneAmong nodes some before → IfSome (node_at nodes id) (λ (n : Node). ids ≡ ids_of (put_node n some))) → AreSelected nodes (retested (λ _. true) (id ∷ []) test) ids
put_in_place nodes id node before ids test graph is is_out selected puts =
    let some : List Node = filter test nodes in
    let among : IsLaneAmong nodes some before = some_of_lane nodes test before graph.ascending selected in
    if_some_at (λ (n : Node). ids ≡ ids_of (put_node n some)) (node_at nodes id) node is (puts some among) ∙ ap ids_of (put_one nodes id node test graph is is_out)

-- an id that comes in has room where each node has
pub length-put : (node : Node) (nodes : List Node) → length (put_node node nodes) ≡ suc (length nodes)
length-put node [] = refl
length-put node (other ∷ nodes) = elim (is_before node.task.key other) as (λ b. length (cond b (other ∷ put_node node nodes) (node ∷ other ∷ nodes)) ≡ suc (suc (length nodes))) [ true ↦ ap suc (length-put node nodes) | false ↦ refl ]

pub has_room : (nodes : List Node) (id : NodeId) (node : Node) (ids : List NodeId) (test : Node → Bool) (room : ℕ) → IsGraph nodes → node_at nodes id ≡ Some node → test node ≡ false → AreSelected nodes test ids → length nodes ≤ room → length ids < room
has_room nodes id node ids test room graph is is_out selected fits =
    let more : Node → Bool = with_one id test in
    omega (
      arith,
      fits,
      ap length selected,
      length-ids (filter test nodes),
      length-put node (filter test nodes),
      ap length (put_one nodes id node test graph is is_out),
      length-filter more nodes,
      count_by-le-length more nodes,
    )

-- ---- several are tested anew

pub among_append : (some more : List NodeId) (node : Node) → is_among (some ++ more) node ≡ (is_among some node || is_among more node)
among_append [] more node = refl
among_append (id ∷ some) more node = elim (is_at id node) as (λ b. (b || is_among (some ++ more) node) ≡ ((b || is_among some node) || is_among more node)) [ true ↦ refl | false ↦ among_append some more node ]

retested_append : (answer : Node → Bool) (some more : List NodeId) (test : Node → Bool) (node : Node) → retested answer more (retested answer some test) node ≡ retested answer (some ++ more) test node
retested_append answer some more test node =
    by_tests (is_among some node) (is_among more node) ∙ sym (ap (λ b. cond b (answer node) (test node)) (among_append some more node))
  where
    by_tests : (first second : Bool) → cond second (answer node) (cond first (answer node) (test node)) ≡ cond (first || second) (answer node) (test node)
    by_tests true true = refl
    by_tests true false = refl
    by_tests false true = refl
    by_tests false false = refl

pub select_append : (answer : Node → Bool) (nodes : List Node) (some more : List NodeId) (test : Node → Bool) (ids : List NodeId) → AreSelected nodes (retested answer more (retested answer some test)) ids → AreSelected nodes (retested answer (some ++ more) test) ids
select_append answer nodes some more test ids is = is ∙ ap ids_of (same_filter _ _ nodes (λ node _. retested_append answer some more test node))

pub retested_none : (answer : Node → Bool) (nodes : List Node) (some : MarkedIds) → AreSome nodes some → AreRetested nodes answer [] some some
retested_none answer nodes some are = record { ids = λ test selected. selected; some = are; room = omega arith; marks = refl }

pub retested_twice : (answer : Node → Bool) (nodes : List Node) (asked more : List NodeId) (a b c : MarkedIds) → AreRetested nodes answer asked a b → AreRetested nodes answer more b c → AreRetested nodes answer (asked ++ more) a c
retested_twice answer nodes asked more a b c first second = record {
  ids = λ test selected. select_append answer nodes asked more test (listed_in nodes c) (second.ids (retested answer asked test) (first.ids test selected));
  some = second.some;
  room = omega (arith, first.room, second.room);
  marks = second.marks ∙ first.marks;
}

-- to forget nodes that fail the test changes nothing
pub forgotten_failing : (nodes some : List Node) (test : Node → Bool) (ids : List NodeId) → IsGraph nodes → ((node : Node) → Contains some node → Contains nodes node) → AllByRecursion (λ node. test node ≡ false) some → AreSelected nodes test ids → AreSelected nodes (forgotten (ids_of some) test) ids
forgotten_failing nodes some test ids graph there fail is =
    let by_case : (node : Node) → Contains nodes node → (among : Bool) → is_among (ids_of some) node ≡ among → test node ≡ cond among false (test node) = λ node has. elim [
      | true ↦ λ among. fails node has among
      | false ↦ λ _. refl
    ] in
    is ∙ ap ids_of (same_filter test (forgotten (ids_of some) test) nodes (λ node has. by_case node has (is_among (ids_of some) node) refl))
  where
    fails : (node : Node) → Contains nodes node → is_among (ids_of some) node ≡ true → test node ≡ false
    fails node has among =
        let found : (id : NodeId) × Contains (ids_of some) id × (is_at id node ≡ true) = some_passes (λ id. is_at id node) (ids_of some) among in
        let one : (n : Node) × Contains some n × (n.id ≡ found.0) = from_map (λ (n : Node). n.id) some found.0 found.1 in
        let same : one.0 ≡ node = same_found nodes node.id node one.0 graph (there one.0 one.1) (one.2 ∙ sym (same_id found.0 node found.2)) (nodes_have_ids nodes node graph has) in
        ap test (sym same) ∙ all_at (λ (n : Node). test n ≡ false) some one.0 fail one.1

-- the other answer for one node is the same
pub answered : (nodes : List Node) (id : NodeId) (node : Node) (one other : Node → Bool) (a b : MarkedIds) → IsGraph nodes → node_at nodes id ≡ Some node → one node ≡ other node → AreRetested nodes one (id ∷ []) a b → AreRetested nodes other (id ∷ []) a b
answered nodes id node one other a b graph is same was = record {
  ids = λ test selected. was.ids test selected ∙ ap ids_of (same_answer nodes id node one other test graph is same);
  some = was.some;
  room = was.room;
  marks = was.marks;
}

-- ---- the walks over fronts

-- one place more of a front
pub front_step : (lane : List NodeId) (start i : ℕ) (id : NodeId) → start ≤ i → i < length lane → id ≡ get_or lane i id → take (i + 1 - start) (drop start lane) ≡ take (i - start) (drop start lane) ++ id ∷ []
front_step lane start i id ordered inside here =
    let past : i + 1 - start ≡ i - start + 1 = omega (arith, ordered) in
    let at : start + (i - start) ≡ i = omega (arith, ordered) in
    let within : i - start < length (drop start lane) = omega (arith, ordered, inside, length-drop start lane) in
    ap (λ n. take n (drop start lane)) past
    ∙ take_more (drop start lane) (i - start) id within
    ∙ ap (λ x. take (i - start) (drop start lane) ++ x ∷ []) (get_or-drop start lane (i - start) id ∙ ap (λ n. get_or lane n id) at ∙ sym here)

pub front_done : (answer : Node → Bool) (nodes : List Node) (lane : List NodeId) (start i : ℕ) (id : NodeId) (a b c : MarkedIds) → start ≤ i → i < length lane → id ≡ get_or lane i id → AreRetested nodes answer (take (i - start) (drop start lane)) a b → AreRetested nodes answer (id ∷ []) b c
    → AreRetested nodes answer (take (i + 1 - start) (drop start lane)) a c
front_done answer nodes lane start i id a b c ordered inside here first second =
    subst (λ (asked : List NodeId). AreRetested nodes answer asked a c) (sym (front_step lane start i id ordered inside here)) (retested_twice answer nodes (take (i - start) (drop start lane)) (id ∷ []) a b c first second)

-- the ids of a location are those of nodes
pub lane_has : (nodes : List Node) (p : Node → Bool) (lane : List NodeId) (place : ℕ) (id : NodeId) → IsGraph nodes → lane ≡ ids_of (filter p nodes) → place < length lane → id ≡ get_or lane place id → HasNode nodes id
lane_has nodes p lane place id graph is inside here =
    let among : Contains (ids_of (filter p nodes)) id = subst (λ (l : List NodeId). Contains l id) is (place, inside, sym here) in
    let found : (node : Node) × Contains (filter p nodes) node × (node.id ≡ id) = from_map (λ (n : Node). n.id) (filter p nodes) id among in
    found_some nodes id found.0 graph (from_filter p nodes found.0 found.1).0 found.2

-- one location more of a set
fronts_step : (set : Accesses) (key : Key) (nodes : List Node) (i : ℕ) (d : ℕ × Access) → i < length set → ids_of (fronts_after (take (i + 1) set) key nodes) ≡ ids_of (fronts_after (take i set) key nodes) ++ ids_of (front_after (get_or set i d).0 (get_or set i d).1 key nodes)
fronts_step set key nodes i d inside =
    let front : ℕ × Access → List Node = λ (p : ℕ × Access). front_after p.0 p.1 key nodes in
    let p : ℕ × Access = get_or set i d in
    ap ids_of (ap (flat_map front) (take_more set i d inside) ∙ flat_map-append front (take i set) (p ∷ []) ∙ ap (λ l. flat_map front (take i set) ++ l) (append-nil (front p)))
    ∙ map-append (λ (n : Node). n.id) (flat_map front (take i set)) (front p)

pub fronts_done : (answer : Node → Bool) (nodes : List Node) (items set : Accesses) (key : Key) (i : ℕ) (d : ℕ × Access) (a b c : MarkedIds) → items ≡ set → i < length items → AreRetested nodes answer (ids_of (fronts_after (take i set) key nodes)) a b
    → AreRetested nodes answer (ids_of (front_after (get_or items i d).0 (get_or items i d).1 key nodes)) b c → AreRetested nodes answer (ids_of (fronts_after (take (i + 1) set) key nodes)) a c
fronts_done answer nodes items set key i d a b c same inside first second =
    let front : Accesses → List NodeId = λ (s : Accesses). ids_of (front_after (get_or s i d).0 (get_or s i d).1 key nodes) in
    let within : i < length set = subst (λ (s : Accesses). i < length s) same inside in
    let now : AreRetested nodes answer (front set) b c = subst (λ (s : Accesses). AreRetested nodes answer (front s) b c) same second in
    subst (λ (asked : List NodeId). AreRetested nodes answer asked a c) (sym (fronts_step set key nodes i d within)) (retested_twice answer nodes (ids_of (fronts_after (take i set) key nodes)) (front set) a b c first now)

-- ---- the end of the walks

-- once each node in doubt is refreshed, the unblocked nodes are selected
pub settled : (nodes : List Node) (done : List NodeId) (test : Node → Bool) (ids : List NodeId) → ((node : Node) → Contains nodes node → is_among done node ≡ false → test node ≡ is_unblocked nodes node) → AreSelected nodes (refreshed nodes done test) ids → AreSelected nodes (is_unblocked nodes) ids
settled nodes done test ids same is =
    let by_case : (node : Node) → Contains nodes node → (among : Bool) → is_among done node ≡ among → cond among (is_unblocked nodes node) (test node) ≡ is_unblocked nodes node = λ node has. elim [
      | true ↦ λ _. refl
      | false ↦ λ apart. same node has apart
    ] in
    is ∙ ap ids_of (same_filter _ _ nodes (λ node has. by_case node has (is_among done node) refl))
