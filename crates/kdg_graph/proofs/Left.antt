-- The nodes that are left behind the one that was looked at last, and which of them are sources.
use Rattle.std.proofs.Common.{◌≡◌, Bool, true, false, not, cond, List, [], ◌∷◌, Option, Some, refl, ◌∙◌, ap, unwrap_or, filter, option_map, ℕ, ◌+◌, ◌<◌, ◌^◌, ◌==◌, ◌||◌, ◌&&◌, ◌++◌, drop, get_or, length, take, None, sym, subst, arith, Contains, IfSome, MatchOption, slice_get, is_lt, true≢false, append_assoc, append-nil, eq-eqb, eqb-true}
use Rattle.std.proofs.Math.Bool.{and_assoc, and-true}
use Rattle.std.proofs.lemmas.List.Elements.{filter_more}
use Rattle.std.specs.Int.{from_bool}
use Rattle.plain_laws.specs.Orderings.{less_from_test}
use Rattle.plain_laws.specs.Lists.{filter-all, filter_both}
use Rattle.kdg_graph.proofs.Common.{NodeId, Node, IsGraph, ids_of, node_at, sources_of, is_unblocked, not_running, runs, unblocked_of, from_filter, option_eq, false_from_ne_true, map-append, Contains-get_or, key_cmp_total, IsAscending, Absent, Arrival, Standing, is_id, is_id_at, HasNode, is_at, least_of, tasks_of, AreLeft, AreSome, IsInOrder, IsLeft, IsNext, MarkedIds, arrived, has_number, ids_in, is_recent, recent_among, recent_in, settled_among, settled_from, settled_in, is_among, is_behind, is_later, is_left, left_in, listed_in, all_at, from_map, here, in_filter, filter-map}
use Rattle.kdg_graph.proofs.Blocking.{found_some, same_found}
use Rattle.kdg_graph.proofs.Fronting.{some_first}
use Rattle.kdg_graph.proofs.KeyOrder.{filters_commute, dropped, kept, same_filter, all_later, not_itself, is_past}
use Rattle.kdg_graph.proofs.LookUps.{nodes_have_ids}
use Rattle.kdg_graph.proofs.Ordered.{first_unblocked}
use Rattle.kdg_graph.proofs.Searches.{inside_at}
use Rattle.kdg_graph.proofs.Selecting.{among_append}
use Rattle.kdg_graph.specs.NodeLaws.{same_id, ascending_filtered}

-- ---- the sources are the unblocked nodes that are not running

pub runs_as_found : (nodes : List Node) (id : NodeId) (node : Node) → node_at nodes id ≡ Some node → runs nodes id ≡ node.running
runs_as_found nodes id node is = ap (λ (found : Option Node). unwrap_or (option_map (λ (n : Node). n.running) found) false) is

pub not_running_unblocked : (nodes : List Node) → IsGraph nodes → not_running nodes (unblocked_of nodes) ≡ sources_of nodes
not_running_unblocked nodes graph =
    let rests : Node → Bool = λ node. not node.running in
    let some : List Node = filter (is_unblocked nodes) nodes in
    filter-map (λ (n : Node). n.id) (λ id. not (runs nodes id)) some
    ∙ ap ids_of (same_filter (λ node. not (runs nodes node.id)) rests some (λ node has. ap not (runs_as_found nodes node.id node (nodes_have_ids nodes node graph (from_filter (is_unblocked nodes) nodes node has).0)))
    ∙ filters_commute rests (is_unblocked nodes) nodes ∙ filter_both (is_unblocked nodes) rests nodes)

-- ---- the first that passes a test

-- it is a node of the graph
pub least_there : (nodes : List Node) (p : Node → Bool) (found : Option NodeId) → IsGraph nodes → found ≡ least_of (filter p nodes) → IfSome found (HasNode nodes)
least_there nodes p None graph is = tt
least_there nodes p (Some id) graph is =
    let first = some_first (filter p nodes) id (sym is) in
    found_some nodes id first.0 graph (from_filter p nodes first.0 (subst (λ (l : List Node). Contains l first.0) (sym first.2) (here first.0 first.1))).0 first.3

-- a node that passes is the first of those with its id that do
pub only_at : (nodes : List Node) (id : NodeId) (node : Node) (test : Node → Bool) → node_at nodes id ≡ Some node → test node ≡ true → Some id ≡ least_of (filter (λ n. is_at id n && test n) nodes)
only_at [] id node test found passes = cc
only_at (first ∷ nodes) id node test found passes =
    let by_case : (at : Bool) → is_at id first ≡ at → cond at (Some first) (node_at nodes id) ≡ Some node → Some id ≡ least_of (filter (λ n. is_at id n && test n) (first ∷ nodes)) = elim [
      | true ↦ λ at is.
          let same : first ≡ node = cc in
          sym (ap least_of (kept (λ n. is_at id n && test n) first nodes (ap (λ b. b && test first) at ∙ ap test same ∙ passes)) ∙ ap (λ (i : NodeId). Some i) (same_id id first at))
      | false ↦ λ at is. only_at nodes id node test is passes ∙ sym (ap least_of (dropped (λ n. is_at id n && test n) first nodes (ap (λ b. b && test first) at)))
    ] in
    by_case (is_at id first) refl found

-- ---- one arrival more

-- it is a node of the graph, where it is marked as having come
pub arrival_there : (nodes : List Node) (some : MarkedIds) (items : List Arrival) (i : ℕ) (d : Arrival) → AreSome nodes some → items ≡ some.arrivals → i < length items → is_recent (get_or some.standings (get_or items i d).id.at Absent) ≡ true → HasNode nodes (get_or items i d).id
arrival_there nodes some items i d are same inside marked =
    let came : Contains some.arrivals (get_or items i d) = subst (λ (l : List Arrival). Contains l (get_or items i d)) same (Contains-get_or items i d inside) in
    all_at (λ (a : Arrival). HasNode nodes a.id) (recent_in some) (get_or items i d) are.recent (in_filter (λ (a : Arrival). is_recent (get_or some.standings a.id.at Absent)) some.arrivals (get_or items i d) came marked)

-- then its id stands last
pub arrived_more : (ids : List NodeId) (standings : List Standing) (arrivals : List Arrival) (i : ℕ) (d : Arrival) → i < length arrivals → is_recent (get_or standings (get_or arrivals i d).id.at Absent) ≡ true
    → ids ++ arrived (recent_among standings (take (i + 1) arrivals)) ≡ (ids ++ arrived (recent_among standings (take i arrivals))) ++ (get_or arrivals i d).id ∷ []
arrived_more ids standings arrivals i d inside marked =
    let came : Arrival → Bool = λ arrival. is_recent (get_or standings arrival.id.at Absent) in
    let arrival : Arrival = get_or arrivals i d in
    ap (λ (l : List Arrival). ids ++ arrived l) (filter_more came arrivals i d inside ∙ ap (λ b. recent_among standings (take i arrivals) ++ cond b (arrival ∷ []) []) marked)
    ∙ ap (λ l. ids ++ l) (map-append (λ (a : Arrival). a.id) (recent_among standings (take i arrivals)) (arrival ∷ []))
    ∙ sym (append_assoc ids (arrived (recent_among standings (take i arrivals))) (arrival.id ∷ []))

-- one that is marked otherwise adds nothing
pub arrived_no_more : (standings : List Standing) (arrivals : List Arrival) (i : ℕ) (d : Arrival) → i < length arrivals → is_recent (get_or standings (get_or arrivals i d).id.at Absent) ≡ false → recent_among standings (take (i + 1) arrivals) ≡ recent_among standings (take i arrivals)
arrived_no_more standings arrivals i d inside other =
    let came : Arrival → Bool = λ arrival. is_recent (get_or standings arrival.id.at Absent) in
    filter_more came arrivals i d inside ∙ ap (λ b. recent_among standings (take i arrivals) ++ cond b (get_or arrivals i d ∷ []) []) other ∙ append-nil (recent_among standings (take i arrivals))

-- where its node is left, that is left besides the others
pub one_more : (nodes : List Node) (ids : List NodeId) (last : Option NodeId) (id : NodeId) → filter (λ node. is_left nodes ids last node || (is_at id node && is_behind nodes last node)) nodes ≡ filter (is_left nodes (ids ++ id ∷ []) last) nodes
one_more nodes ids last id =
    same_filter (λ node. is_left nodes ids last node || (is_at id node && is_behind nodes last node)) (is_left nodes (ids ++ id ∷ []) last) nodes (λ node _.
    by_tests (is_among ids node) (is_at id node) (is_behind nodes last node) ∙ sym (ap (λ b. b && is_behind nodes last node) (among_append ids (id ∷ []) node)))
  where
    by_tests : (among at behind : Bool) → ((among && behind) || (at && behind)) ≡ ((among || (at || false)) && behind)
    by_tests true at true = refl
    by_tests true true false = refl
    by_tests true false false = refl
    by_tests false true true = refl
    by_tests false true false = refl
    by_tests false false behind = refl

-- where it isn't, nothing more is left
pub none_more : (nodes : List Node) (ids : List NodeId) (last : Option NodeId) (id : NodeId) (node : Node) → IsGraph nodes → node_at nodes id ≡ Some node → is_behind nodes last node ≡ false → filter (is_left nodes ids last) nodes ≡ filter (is_left nodes (ids ++ id ∷ []) last) nodes
none_more nodes ids last id node graph found passed =
    same_filter (is_left nodes ids last) (is_left nodes (ids ++ id ∷ []) last) nodes (λ other has.
    by_tests (is_among ids other) (is_at id other) (is_behind nodes last other) (λ at. ap (is_behind nodes last) (same_found nodes id node other graph has (same_id id other at) found) ∙ passed)
    ∙ sym (ap (λ b. b && is_behind nodes last other) (among_append ids (id ∷ []) other)))
  where
    by_tests : (among at behind : Bool) → (at ≡ true → behind ≡ false) → (among && behind) ≡ ((among || (at || false)) && behind)
    by_tests true at behind none = refl
    by_tests false true behind none = sym (none refl)
    by_tests false false behind none = refl

-- ---- behind the first

-- the others that pass are those that pass and are later
rest_behind : (p q : Node → Bool) (nodes : List Node) (head : Node) (rest : List Node) → IsAscending (tasks_of nodes) → filter p nodes ≡ head ∷ rest → ((node : Node) → q node ≡ (p node && is_past head.task.key node)) → filter q nodes ≡ rest
rest_behind p q nodes head rest up is same =
    let later : Node → Bool = is_past head.task.key in
    let up_found : IsAscending (tasks_of (head ∷ rest)) = subst (λ (l : List Node). IsAscending (tasks_of l)) is (ascending_filtered p nodes up) in
    same_filter q (λ node. p node && later node) nodes (λ node _. same node)
    ∙ sym (filter_both later p nodes) ∙ ap (filter later) is ∙ dropped later head rest (not_itself head.task.key) ∙ filter-all later rest (all_later head.task.key rest up_found.0)

-- what is later than a node that is behind another is behind it too
later_still : (nodes : List Node) (last : Option NodeId) (head node : Node) → is_behind nodes last head ≡ true → is_past head.task.key node ≡ true → is_behind nodes last node ≡ true
later_still nodes None head node behind past = refl
later_still nodes (Some id) head node behind past = by_found (node_at nodes id) behind
  where
    by_found : (found : Option Node) → is_later found head ≡ true → is_later found node ≡ true
    by_found None behind = refl
    by_found (Some other) behind = ap is_lt (key_cmp_total.trans other.task.key head.task.key node.task.key (less_from_test _ behind) (less_from_test _ past))

-- a test that another implies
both_tests : (behind past : Bool) → (past ≡ true → behind ≡ true) → past ≡ (behind && past)
both_tests behind true is = sym (ap (λ b. b && true) (is refl))
both_tests true false is = refl
both_tests false false is = refl

-- behind the first that is left are the others that are
left_behind : (nodes : List Node) (ids : List NodeId) (last : Option NodeId) (id : NodeId) (head : Node) (rest : List Node) → IsGraph nodes → node_at nodes id ≡ Some head → filter (is_left nodes ids last) nodes ≡ head ∷ rest → filter (is_left nodes ids (Some id)) nodes ≡ rest
left_behind nodes ids last id head rest graph found is =
    let passes : is_left nodes ids last head ≡ true = (from_filter (is_left nodes ids last) nodes head (subst (λ (l : List Node). Contains l head) (sym is) (here head rest))).1 in
    let behind : is_behind nodes last head ≡ true = second (is_among ids head) (is_behind nodes last head) passes in
    rest_behind (is_left nodes ids last) (is_left nodes ids (Some id)) nodes head rest graph.ascending is (λ node.
    ap (λ (o : Option Node). is_among ids node && is_later o node) found
    ∙ ap (λ b. is_among ids node && b) (both_tests (is_behind nodes last node) (is_past head.task.key node) (later_still nodes last head node behind))
    ∙ sym (and_assoc (is_among ids node) (is_behind nodes last node) (is_past head.task.key node)))
  where
    second : (a b : Bool) → (a && b) ≡ true → b ≡ true
    second true b is = is
    second false b is = absurd (true≢false (sym is))

-- the first that is left, and its node
first_left : (nodes : List Node) (ids : List NodeId) (last : Option NodeId) (id : NodeId) → IsGraph nodes → Some id ≡ least_of (filter (is_left nodes ids last) nodes)
    → (head : Node) × (rest : List Node) × (filter (is_left nodes ids last) nodes ≡ head ∷ rest) × (head.id ≡ id) × (filter (is_left nodes ids (Some id)) nodes ≡ rest)
first_left nodes ids last id graph is =
    let first = some_first (filter (is_left nodes ids last) nodes) id (sym is) in
    let has : Contains nodes first.0 = (from_filter (is_left nodes ids last) nodes first.0 (subst (λ (l : List Node). Contains l first.0) (sym first.2) (here first.0 first.1))).0 in
    let found : node_at nodes id ≡ Some first.0 = ap (node_at nodes) (sym first.3) ∙ nodes_have_ids nodes first.0 graph has in
    (first.0, first.1, first.2, first.3, left_behind nodes ids last id first.0 first.1 graph found first.2)

-- it stands before those that are left behind it
pub left_first : (nodes : List Node) (ids : List NodeId) (last : Option NodeId) (id : NodeId) → IsGraph nodes → Some id ≡ least_of (filter (is_left nodes ids last) nodes) → left_in nodes ids last ≡ id ∷ left_in nodes ids (Some id)
left_first nodes ids last id graph is =
    let first = first_left nodes ids last id graph is in
    ap ids_of first.2 ∙ (λ i. first.3 i ∷ ids_of (sym first.4 i))

-- of those that are not running it is left, unless it runs
pub seen_next : (nodes : List Node) (ids : List NodeId) (last : Option NodeId) (id : NodeId) (node : Node) (running : Bool) → IsGraph nodes → Some id ≡ least_of (filter (is_left nodes ids last) nodes) → node_at nodes id ≡ Some node → node.running ≡ running
    → not_running nodes (left_in nodes ids last) ≡ cond (not running) (id ∷ not_running nodes (left_in nodes ids (Some id))) (not_running nodes (left_in nodes ids (Some id)))
seen_next nodes ids last id node running graph is found test =
    let behind : List NodeId = not_running nodes (left_in nodes ids (Some id)) in
    ap (not_running nodes) (left_first nodes ids last id graph is) ∙ ap (λ b. cond (not b) (id ∷ behind) behind) (runs_as_found nodes id node found ∙ test)

-- ---- those in order

-- where it is the first of some ids, it is that of the first of the nodes that have these
heads : (found : Option NodeId) (ids rest : List NodeId) (some : List Node) → MatchOption found (ids ≡ []) (λ id. ids ≡ id ∷ rest) → ids ≡ ids_of some → found ≡ least_of some
heads None ids rest [] next is = refl
heads None ids rest (node ∷ some) next is = cc
heads (Some id) ids rest [] next is = cc
heads (Some id) ids rest (node ∷ some) next is = cc

-- so the id at the place is that of the first that is left
pub settled_first : (nodes : List Node) (some : MarkedIds) (place : ℕ) (last : Option NodeId) → IsLeft nodes some place last → IsNext some place → slice_get some.entries place ≡ least_of (filter (is_left nodes (settled_in some) last) nodes)
settled_first nodes some place last left next = heads (slice_get some.entries place) (settled_from some place) (settled_from some (place + 1)) (filter (is_left nodes (settled_in some) last) nodes) next left

-- of all that are left they are those among the ids
left_among : (nodes : List Node) (ids more : List NodeId) (last : Option NodeId) → filter (is_left nodes ids last) nodes ≡ filter (is_among ids) (filter (is_left nodes (ids ++ more) last) nodes)
left_among nodes ids more last =
    same_filter (is_left nodes ids last) (λ node. is_left nodes (ids ++ more) last node && is_among ids node) nodes (λ node _.
    by_tests (is_among ids node) (is_among more node) (is_behind nodes last node) ∙ sym (ap (λ b. (b && is_behind nodes last node) && is_among ids node) (among_append ids more node)))
    ∙ sym (filter_both (is_among ids) (is_left nodes (ids ++ more) last) nodes)
  where
    by_tests : (among came behind : Bool) → (among && behind) ≡ (((among || came) && behind) && among)
    by_tests true came true = refl
    by_tests true came false = refl
    by_tests false true true = refl
    by_tests false true false = refl
    by_tests false false behind = refl

-- of two that may be the first of some ids this one is, if the first of the nodes is among them
step : (some : MarkedIds) (place : ℕ) (id : NodeId) (head : Node) (rest : List Node) (found : Option NodeId) (among : Bool) → head.id ≡ id → is_among (settled_in some) head ≡ among
    → MatchOption found (settled_from some place ≡ []) (λ first. settled_from some place ≡ first ∷ settled_from some (place + 1)) → settled_from some place ≡ ids_of (cond among (head ∷ filter (is_among (settled_in some)) rest) (filter (is_among (settled_in some)) rest))
    → settled_from some (place + from_bool (is_id id found)) ≡ ids_of (filter (is_among (settled_in some)) rest)
step some place id head rest None true same among next is = cc
step some place id head rest (Some first) true same among next is =
    let its : first ≡ head.id = cc in
    let others : settled_from some (place + 1) ≡ ids_of (filter (is_among (settled_in some)) rest) = cc in
    ap (λ b. settled_from some (place + from_bool b)) (eq-eqb first.at id.at (ap (λ (i : NodeId). i.at) (its ∙ same))) ∙ others
step some place id head rest None false same apart next is =
    let stays : place + from_bool false ≡ place = omega arith in
    ap (settled_from some) stays ∙ is
step some place id head rest (Some first) false same apart next is =
    let stays : place + from_bool false ≡ place = omega arith in
    let other : is_id id (Some first) ≡ false = false_from_ne_true _ (λ at.
    let has : Contains (ids_of (filter (is_among (settled_in some)) rest)) first = subst (λ (l : List NodeId). Contains l first) (sym next ∙ is) (here first (settled_from some (place + 1))) in
    let one : (n : Node) × Contains (filter (is_among (settled_in some)) rest) n × (n.id ≡ first) = from_map (λ (n : Node). n.id) (filter (is_among (settled_in some)) rest) first has in
    let passes : is_among (settled_in some) one.0 ≡ true = (from_filter (is_among (settled_in some)) rest one.0 one.1).1 in
    let number : one.0.id.at ≡ head.id.at = ap (λ (i : NodeId). i.at) one.2 ∙ eqb-true first.at id.at at ∙ ap (λ (i : NodeId). i.at) (sym same) in
    true≢false (sym passes ∙ ap (λ n. has_number n (settled_in some)) number ∙ apart)) in
    ap (λ b. settled_from some (place + from_bool b)) other ∙ ap (settled_from some) stays ∙ is

-- where the first of all that are left is the one at the place, those behind it begin at the next place
settled_left : (nodes : List Node) (some : MarkedIds) (place : ℕ) (last : Option NodeId) (id : NodeId) → IsGraph nodes → IsLeft nodes some place last → IsNext some place → Some id ≡ least_of (filter (is_left nodes (ids_in some) last) nodes)
    → IsLeft nodes some (place + from_bool (is_id_at id some.entries place)) (Some id)
settled_left nodes some place last id graph left next is =
    let ids : List NodeId = settled_in some in
    let more : List NodeId = arrived (recent_in some) in
    let first = first_left nodes (ids ++ more) last id graph is in
    let before : settled_from some place ≡ ids_of (filter (is_among ids) (first.0 ∷ first.1)) = left ∙ ap ids_of (left_among nodes ids more last ∙ ap (filter (is_among ids)) first.2) in
    let after : left_in nodes ids (Some id) ≡ ids_of (filter (is_among ids) first.1) = ap ids_of (left_among nodes ids more (Some id) ∙ ap (filter (is_among ids)) first.4) in
    step some place id first.0 first.1 (slice_get some.entries place) (is_among ids first.0) first.3 refl next before ∙ sym after

-- the first of all that are left is looked at
pub left_next : (nodes : List Node) (some : MarkedIds) (start place next : ℕ) (last : Option NodeId) (id : NodeId) → AreLeft nodes some start last → settled_from some place ≡ settled_from some start → IsNext some place → Some id ≡ least_of (filter (is_left nodes (ids_in some) last) nodes)
    → next ≡ place + from_bool (is_id_at id some.entries place) → AreLeft nodes some next (Some id)
left_next nodes some start place next last id left same first is at = record {
  graph = left.graph;
  some_are = left.some_are;
  last_there = least_there nodes (is_left nodes (ids_in some) last) (Some id) left.graph is;
  place_is = subst (λ n. IsLeft nodes some n (Some id)) (sym at) (settled_left nodes some place last id left.graph (same ∙ left.place_is) first is);
}

-- ids are one where their numbers are
same_by : (same : NodeId → NodeId → Bool) → ((a b : NodeId) → same a b ≡ (a.at == b.at)) → (found : Option NodeId) (id : NodeId) → option_eq same found (Some id) ≡ is_id id found
same_by same is None id = refl
same_by same is (Some other) id = is other id

-- by the test of numbers, the id that is found at the place is this one
pub same_at : (same : NodeId → NodeId → Bool) → ((a b : NodeId) → same a b ≡ (a.at == b.at)) → (items ids : List NodeId) (place : ℕ) (found : Option NodeId) (id : NodeId) → found ≡ slice_get items place → items ≡ ids → option_eq same found (Some id) ≡ is_id_at id ids place
same_at same is items ids place found id at are = same_by same is found id ∙ ap (is_id id) (at ∙ ap (λ (l : List NodeId). slice_get l place) are)

-- the next place is a number of the machine
pub place_fits : (ids : List NodeId) (place : ℕ) (id : NodeId) → length ids < 2 ^ 63 → place < 2 ^ 64 → place + from_bool (is_id_at id ids place) < 2 ^ 64
place_fits ids place id small fits =
    let by_case : (test : Bool) → is_id_at id ids place ≡ test → place + from_bool test < 2 ^ 64 = elim [
      | true ↦ λ here. omega (arith, inside_at ids place id here, small)
      | false ↦ λ _. omega (arith, fits)
    ] in
    by_case (is_id_at id ids place) refl

-- ---- before the first look

-- then all are left
pub all_left : (nodes : List Node) (ids : List NodeId) → left_in nodes ids None ≡ ids_of (filter (is_among ids) nodes)
all_left nodes ids = ap ids_of (same_filter (is_left nodes ids None) (is_among ids) nodes (λ node _. and-true (is_among ids node)))

drop-nothing : (ids : List NodeId) → drop 0 ids ≡ ids
drop-nothing [] = refl
drop-nothing (id ∷ ids) = refl

-- and those in order begin at the first place
pub left_at_start : (nodes : List Node) (some : MarkedIds) → IsInOrder nodes (settled_in some) → IsLeft nodes some 0 None
left_at_start nodes some is = ap (settled_among some.standings) (drop-nothing some.entries) ∙ is ∙ sym (all_left nodes (settled_in some))

-- the first unblocked node is the first of all
pub least_left : (nodes : List Node) (some : MarkedIds) → IsGraph nodes → listed_in nodes some ≡ unblocked_of nodes → least_of (filter (is_left nodes (ids_in some) None) nodes) ≡ least_of nodes
least_left nodes some graph is =
    first_id (filter (is_left nodes (ids_in some) None) nodes) ∙ first_unblocked nodes (left_in nodes (ids_in some) None) graph (all_left nodes (ids_in some) ∙ is)
  where
    first_id : (some : List Node) → least_of some ≡ slice_get (ids_of some) 0
    first_id [] = refl
    first_id (node ∷ some) = refl
