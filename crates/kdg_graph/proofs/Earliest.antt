-- The first of the nodes that pass a test.
use Rattle.std.proofs.Common.{◌≡◌, ℕ, suc, ◌<◌, Bool, true, false, ◌||◌, cond, List, [], ◌∷◌, length, take, get_or, Option, Some, None, refl, sym, ◌∙◌, ap, subst, Contains, IfSome, IsSome, filter, take-suc, Less, is_lt, is_some, true≢false, slice_get, option_map}
use Rattle.plain_laws.specs.Bools.{or_false}
use Rattle.plain_laws.specs.Orderings.{less_from_test}
use Rattle.plain_laws.specs.Lists.{filter-all}
use Rattle.task_order.specs.KeyLaws.{not_past_earlier}
use Rattle.kdg_graph.proofs.Common.{AllByRecursion, list_any, list_any-append, Key, key_cmp, key_cmp_total, IsAscending, Access, Accesses, IsAscendingSet, access_at, clash, conflicts_with, NodeId, IsLaneAmong, clashes_at, Node, HasNode, IsGraph, ids_of, later_than, least_of, node_at, tasks_of, all_at, from_filter, here, clashing_at, Task, Read, writes, writers_of, WritersAreOfTasks, AreFiled, Location, lane_of, task_at, any_same, filter-map}
use Rattle.kdg_graph.proofs.Blocking.{access_of, any_from, same_found}
use Rattle.kdg_graph.proofs.Fronting.{filter_within, some_first, first_from, reads_by}
use Rattle.kdg_graph.proofs.KeyOrder.{dropped, filters_commute, kept, same_filter, all_later, is_before, not_itself, is_past}
use Rattle.kdg_graph.proofs.Lanes.{among_filtered, graph_among}
use Rattle.kdg_graph.proofs.LookUps.{key_later, nodes_have_ids, ids_find_nodes}
use Rattle.kdg_graph.specs.NodeLaws.{ascending_filtered}

-- ---- tests that agree

-- the conflict with a set, by the pairs of the set
pub conflicts_by_pairs : (ps : Accesses) (other : Node) → IsAscendingSet ps → list_any (λ (p : ℕ × Access). clashes_at p.0 p.1 other) ps ≡ conflicts_with ps other.set
conflicts_by_pairs ps other up = any_same (λ (p : ℕ × Access). clashes_at p.0 p.1 other) (λ (p : ℕ × Access). clash (access_at ps p.0) (access_at other.set p.0)) ps (λ p has. ap (λ found. clash found (access_at other.set p.0)) (sym (access_of ps p up has)))

-- ---- one test or the other

pub either_none : (p q : Node → Bool) (nodes : List Node) → filter p nodes ≡ [] → filter (λ node. p node || q node) nodes ≡ filter q nodes
either_none p q [] none = refl
either_none p q (node ∷ nodes) none =
    let by_case : (test : Bool) → p node ≡ test → cond test (node ∷ filter p nodes) (filter p nodes) ≡ [] → filter (λ other. p other || q other) (node ∷ nodes) ≡ filter q (node ∷ nodes) = elim [
      | true ↦ λ _ wrong. absurd (let w : node ∷ filter p nodes ≡ [] = wrong in cc)
      | false ↦ λ is rest. λ i. cond (is i || q node) (node ∷ either_none p q nodes rest i) (either_none p q nodes rest i)
    ] in
    by_case (p node) refl none

or-turned : (a b : Bool) → (a || b) ≡ (b || a)
or-turned true true = refl
or-turned true false = refl
or-turned false true = refl
or-turned false false = refl

pub other_none : (p q : Node → Bool) (nodes : List Node) → filter q nodes ≡ [] → filter (λ node. p node || q node) nodes ≡ filter p nodes
other_none p q nodes none = same_filter (λ node. p node || q node) (λ node. q node || p node) nodes (λ node _. or-turned (p node) (q node)) ∙ either_none q p nodes none

-- the earlier of two nodes
abbrev earlier_id : Node → Node → NodeId
earlier_id one other = cond (is_before one.task.key other) other.id one.id

later_than_first : (p : Node → Bool) (node found : Node) (nodes rest : List Node) → AllByRecursion (λ other. key_cmp node.task.key other.key ≡ Less) (tasks_of nodes) → filter p nodes ≡ found ∷ rest → key_cmp node.task.key found.task.key ≡ Less
later_than_first p node found nodes rest all is = key_later node nodes found all (from_filter p nodes found (subst (λ (l : List Node). Contains l found) (sym is) (here found rest))).0

either_by : (p q : Node → Bool) (node one other : Node) (nodes ones others : List Node) (a b : Bool) → p node ≡ a → q node ≡ b → AllByRecursion (λ later. key_cmp node.task.key later.key ≡ Less) (tasks_of nodes)
    → cond a (node ∷ filter p nodes) (filter p nodes) ≡ one ∷ ones → cond b (node ∷ filter q nodes) (filter q nodes) ≡ other ∷ others
    → (filter p nodes ≡ one ∷ ones → filter q nodes ≡ other ∷ others → least_of (filter (λ n. p n || q n) nodes) ≡ Some (earlier_id one other))
    → least_of (filter (λ n. p n || q n) (node ∷ nodes)) ≡ Some (earlier_id one other)
either_by p q node one other nodes ones others true true p_is q_is all is_one is_other rest =
    let first : node ≡ one = cc in
    let second : node ≡ other = cc in
    ap least_of (kept (λ n. p n || q n) node nodes (λ i. p_is i || q_is i))
    ∙ ap (λ (n : Node). Some n.id) first
    ∙ sym (ap (λ (n : Node). Some (earlier_id one n)) (sym second ∙ first) ∙ ap (λ test. Some (cond test one.id one.id)) (not_itself one.task.key))
either_by p q node one other nodes ones others true false p_is q_is all is_one is_other rest =
    let first : node ≡ one = cc in
    let later : is_before node.task.key other ≡ false = not_past_earlier node.task.key other.task.key (later_than_first q node other nodes others all is_other) in
    ap least_of (kept (λ n. p n || q n) node nodes (λ i. p_is i || q_is i))
    ∙ sym (ap (λ test. Some (cond test other.id node.id)) later)
    ∙ ap (λ (n : Node). Some (earlier_id n other)) first
either_by p q node one other nodes ones others false true p_is q_is all is_one is_other rest =
    let second : node ≡ other = cc in
    let earlier : is_before one.task.key node ≡ true = ap is_lt (later_than_first p node one nodes ones all is_one) in
    ap least_of (kept (λ n. p n || q n) node nodes (λ i. p_is i || q_is i))
    ∙ sym (ap (λ test. Some (cond test node.id one.id)) earlier)
    ∙ ap (λ (n : Node). Some (earlier_id one n)) second
either_by p q node one other nodes ones others false false p_is q_is all is_one is_other rest =
    ap least_of (dropped (λ n. p n || q n) node nodes (λ i. p_is i || q_is i)) ∙ rest is_one is_other

pub either_first : (p q : Node → Bool) (nodes : List Node) (one other : Node) (ones others : List Node) → IsAscending (tasks_of nodes) → filter p nodes ≡ one ∷ ones → filter q nodes ≡ other ∷ others
    → least_of (filter (λ node. p node || q node) nodes) ≡ Some (cond (is_before one.task.key other) other.id one.id)
either_first p q [] one other ones others up is_one is_other = absurd (let wrong : [] ≡ one ∷ ones = is_one in cc)
either_first p q (node ∷ nodes) one other ones others up is_one is_other =
    either_by p q node one other nodes ones others (p node) (q node) refl refl up.0 is_one is_other (λ a b. either_first p q nodes one other ones others up.1 a b)

-- ---- the nodes that are found first

pub first_is_node : (nodes some : List Node) (p : Node → Bool) (id : NodeId) (node : Node) → IsGraph nodes → IsLaneAmong nodes some (ids_of some) → least_of (filter p some) ≡ Some id → node_at nodes id ≡ Some node → (rest : List Node) × (filter p some ≡ node ∷ rest)
first_is_node nodes some p id node graph among is found =
    let first = some_first (filter p some) id is in
    let has : Contains nodes first.0 = all_at (λ (n : Node). Contains nodes n) some first.0 among.there (from_filter p some first.0 (subst (λ (l : List Node). Contains l first.0) (sym first.2) (here first.0 first.1))).0 in
    let same : Some first.0 ≡ Some node = sym (nodes_have_ids nodes first.0 graph has) ∙ ap (node_at nodes) first.3 ∙ found in
    let is_node : first.0 ≡ node = cc in
    (first.1, first.2 ∙ ap (λ (n : Node). n ∷ first.1) is_node)

pub first_there : (nodes : List Node) (key : Key) (p : Node → Bool) (found : Option NodeId) → IsGraph nodes → found ≡ least_of (filter p (later_than key nodes)) → IfSome found (HasNode nodes)
first_there nodes key p None graph is = tt
first_there nodes key p (Some id) graph is =
    let first = some_first (filter p (later_than key nodes)) id (sym is) in
    let has : Contains nodes first.0 = (from_filter (is_past key) nodes first.0 (from_filter p (later_than key nodes) first.0 (subst (λ (l : List Node). Contains l first.0) (sym first.2) (here first.0 first.1))).0).0 in
    subst (HasNode nodes) first.3 (subst IsSome (sym (nodes_have_ids nodes first.0 graph has)) refl)

pub later_among : (key : Key) (nodes : List Node) → IsGraph nodes → IsLaneAmong nodes (later_than key nodes) (ids_of (later_than key nodes))
later_among key nodes graph = among_filtered (is_past key) nodes nodes (ids_of nodes) (ids_of (later_than key nodes)) (graph_among nodes graph) refl

-- ---- pair by pair

filter-nothing : (nodes : List Node) → filter (λ node. false) nodes ≡ []
filter-nothing [] = refl
filter-nothing (node ∷ nodes) = filter-nothing nodes

pub first_of_none : (nodes : List Node) → least_of (filter (λ other. list_any (λ (p : ℕ × Access). clashes_at p.0 p.1 other) []) nodes) ≡ None
first_of_none nodes = ap least_of (filter-nothing nodes)

pub one_pair_more : (ps : Accesses) (i : ℕ) (p : ℕ × Access) (nodes : List Node) → i < length ps → p ≡ get_or ps i p
    → filter (λ other. list_any (λ (q : ℕ × Access). clashes_at q.0 q.1 other) (take i ps) || clashes_at p.0 p.1 other) nodes ≡ filter (λ other. list_any (λ (q : ℕ × Access). clashes_at q.0 q.1 other) (take (suc i) ps)) nodes
one_pair_more ps i p nodes inside at =
    same_filter (λ other. list_any (λ (q : ℕ × Access). clashes_at q.0 q.1 other) (take i ps) || clashes_at p.0 p.1 other) (λ other. list_any (λ (q : ℕ × Access). clashes_at q.0 q.1 other) (take (suc i) ps)) nodes (λ other _.
    let test : ℕ × Access → Bool = λ q. clashes_at q.0 q.1 other in
    sym (ap (list_any test) (take-suc ps i p inside) ∙ list_any-append test (take i ps) (get_or ps i p ∷ []) ∙ ap (λ b. list_any test (take i ps) || b) (or_false (test (get_or ps i p)) ∙ ap test (sym at))))

-- ---- the walk

-- behind the first that is found are those behind its key
pub behind_first : (p : Node → Bool) (key : Key) (nodes : List Node) (node : Node) (rest : List Node) → IsAscending (tasks_of nodes) → filter p (later_than key nodes) ≡ node ∷ rest → filter p (later_than node.task.key nodes) ≡ rest
behind_first p key nodes node rest up is =
    let later : Contains (later_than key nodes) node = (from_filter p (later_than key nodes) node (subst (λ (l : List Node). Contains l node) (sym is) (here node rest))).0 in
    let past : is_past key node ≡ true = (from_filter (is_past key) nodes node later).1 in
    let within : (other : Node) → is_past node.task.key other ≡ true → is_past key other ≡ true = λ other is_later. ap is_lt (key_cmp_total.trans key node.task.key other.task.key (less_from_test _ past) (less_from_test _ is_later)) in
    let up_found : IsAscending (tasks_of (node ∷ rest)) = subst (λ (l : List Node). IsAscending (tasks_of l)) is (ascending_filtered p (later_than key nodes) (ascending_filtered (is_past key) nodes up)) in
    ap (filter p) (sym (filter_within (is_past node.task.key) (is_past key) within nodes))
    ∙ filters_commute p (is_past node.task.key) (later_than key nodes) ∙ ap (filter (is_past node.task.key)) is ∙ dropped (is_past node.task.key) node rest (not_itself node.task.key)
    ∙ filter-all (is_past node.task.key) rest (all_later node.task.key rest up_found.0)

-- ---- an early end

-- where it clashes at one location of a set it is the first in conflict
first_met : (key : Key) (nodes : List Node) (set : Accesses) (p : ℕ × Access) (next : NodeId) → IsGraph nodes → IsAscendingSet set → Contains set p → least_of (later_than key nodes) ≡ Some next → least_of (clashing_at p.0 p.1 (later_than key nodes)) ≡ Some next
    → least_of (filter (λ other. conflicts_with set other.set) (later_than key nodes)) ≡ Some next
first_met key nodes set p next graph up has is found =
    let later : List Node = later_than key nodes in
    let test : Node → Bool = λ other. conflicts_with set other.set in
    let first = some_first later next is in
    let met = some_first (clashing_at p.0 p.1 later) next found in
    let clashing : Contains later met.0 × (clashes_at p.0 p.1 met.0 ≡ true) = from_filter (clashes_at p.0 p.1) later met.0 (subst (λ (l : List Node). Contains l met.0) (sym met.2) (here met.0 met.1)) in
    let in_met : Contains nodes met.0 = (from_filter (is_past key) nodes met.0 clashing.0).0 in
    let in_first : Contains nodes first.0 = (from_filter (is_past key) nodes first.0 (subst (λ (l : List Node). Contains l first.0) (sym first.2) (here first.0 first.1))).0 in
    let same : met.0 ≡ first.0 = same_found nodes first.0.id first.0 met.0 graph in_met (met.3 ∙ sym first.3) (nodes_have_ids nodes first.0 graph in_first) in
    let conflict : test first.0 ≡ true = sym (conflicts_by_pairs set first.0 up) ∙ any_from (λ (q : ℕ × Access). clashes_at q.0 q.1 first.0) set p has (ap (clashes_at p.0 p.1) (sym same) ∙ clashing.1) in
    ap (λ (l : List Node). least_of (filter test l)) first.2 ∙ ap least_of (kept test first.0 first.1 conflict) ∙ ap (λ (id : NodeId). Some id) first.3

-- the first of all may be given, and is met
pub ends_early : (key : Key) (nodes : List Node) (set : Accesses) (p : ℕ × Access) (next found : Option NodeId) → IsGraph nodes → IsAscendingSet set → Contains set p → is_some next ≡ true → IfSome next (λ id. least_of (later_than key nodes) ≡ Some id) → found ≡ next → found ≡ least_of (clashing_at p.0 p.1 (later_than key nodes))
    → found ≡ least_of (filter (λ other. conflicts_with set other.set) (later_than key nodes))
ends_early key nodes set p None found graph up has some is same clashing = absurd (true≢false (sym some))
ends_early key nodes set p (Some id) found graph up has some is same clashing = same ∙ sym (first_met key nodes set p id graph up has is (sym clashing ∙ same))

-- ---- a step of the walk

-- behind the one that is found are left those behind its key
pub walked : (set : Accesses) (key : Key) (nodes : List Node) (id : NodeId) (node : Node) → IsGraph nodes → least_of (filter (λ other. conflicts_with set other.set) (later_than key nodes)) ≡ Some id → node_at nodes id ≡ Some node
    → ids_of (filter (λ other. conflicts_with set other.set) (later_than key nodes)) ≡ id ∷ ids_of (filter (λ other. conflicts_with set other.set) (later_than node.task.key nodes))
walked set key nodes id node graph is found =
    let test : Node → Bool = λ other. conflicts_with set other.set in
    let first = first_is_node nodes (later_than key nodes) test id node graph (later_among key nodes graph) is found in
    ap ids_of first.1 ∙ (λ i. (ids_find_nodes nodes id node found).1 i ∷ ids_of (sym (behind_first test key nodes node first.0 graph.ascending first.1) i))

-- ---- the first node that writes a location

-- a read clashes with those that write
pub read_clashes : (nodes : List Node) (loc : ℕ) → clashing_at loc Read nodes ≡ writers_of nodes loc
read_clashes nodes loc = same_filter (clashes_at loc Read) (λ node. writes node.set loc) nodes (λ node _. reads_by (access_at node.set loc))

-- the first that is kept for an access is the earliest of those that it clashes with
pub first_filed : (nodes : List Node) (locations : List Location) (loc : ℕ) (access : Access) → AreFiled nodes locations → slice_get (lane_of locations loc access) 0 ≡ least_of (clashing_at loc access nodes)
first_filed nodes locations loc access filed = ap (λ (l : List NodeId). slice_get l 0) (filed loc access) ∙ first_from 0 (clashing_at loc access nodes)

-- for a read, of those that write
pub first_writing : (nodes : List Node) (locations : List Location) (loc : ℕ) → AreFiled nodes locations → slice_get (lane_of locations loc Read) 0 ≡ least_of (writers_of nodes loc)
first_writing nodes locations loc filed = first_filed nodes locations loc Read filed ∙ ap least_of (read_clashes nodes loc)

-- the task of the earliest that passes a test is the first of their tasks
pub least_task : (nodes : List Node) (p : Node → Bool) (id : NodeId) (task : Task) → IsGraph nodes → Some id ≡ least_of (filter p nodes) → task_at nodes id ≡ Some task → Some task ≡ slice_get (tasks_of (filter p nodes)) 0
least_task nodes p id task graph is at =
    let first = some_first (filter p nodes) id (sym is) in
    let node : Node = first.0 in
    let has : Contains nodes node = (from_filter p nodes node (subst (λ (l : List Node). Contains l node) (sym first.2) (here node first.1))).0 in
    let found : task_at nodes node.id ≡ Some node.task = ap (option_map (λ (n : Node). n.task)) (nodes_have_ids nodes node graph has) in
    sym at ∙ ap (task_at nodes) (sym first.3) ∙ found ∙ ap (λ (l : List Node). slice_get (tasks_of l) 0) (sym first.2)

pub writers_are_of_tasks : WritersAreOfTasks
writers_are_of_tasks nodes set_of loc all =
    ap tasks_of (same_filter (λ node. writes node.set loc) (λ node. writes (set_of node.task) loc) nodes (λ node has. ap (λ set. writes set loc) (all_at (λ (n : Node). n.set ≡ set_of n.task) nodes node all has)))
    ∙ sym (filter-map (λ (n : Node). n.task) (λ task. writes (set_of task) loc) nodes)
