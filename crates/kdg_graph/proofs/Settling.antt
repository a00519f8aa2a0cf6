-- The unblocked nodes after a node came, went or changed, once the nodes in doubt are refreshed.
use Rattle.std.proofs.Common.{◌≡◌, ◌≢◌, ℕ, ◌||◌, ◌&&◌, Bool, true, false, not, cond, List, [], ◌∷◌, ◌++◌, map, Some, refl, sym, ◌∙◌, ap, subst, Contains, filter, flat_map, is_lt, true≢false}
use Rattle.std.proofs.lemmas.Bool.{or_parts}
use Rattle.plain_laws.specs.Lists.{filter_both}
use Rattle.kdg_graph.proofs.Common.{AllByRecursion, list_any, false_from_ne_true, Key, key_cmp, IsAscending, Accesses, access_at, clash, conflicts_with, Access, NodeId, SetChange, Node, HaveOwnIds, IsGraph, earlier_than, ids_of, is_at, node_at, put_node, started, tasks_of, is_blocked, is_same, lacking, fronts_after, AreFiled, Location, clashes_at, clashing_at, up_to_writer, with_sets, without, AreSelected, forgotten, is_among, is_unblocked, refreshed, unblocked_of, all_at, all_from, from_filter, in_filter, any-map, any_same, filter-map}
use Rattle.kdg_graph.proofs.Blocking.{any_from, pair_of, ClashingPair, among_ids, blocked_front, blocked_put, clashing_pair, fronts_are_nodes, met_in_front, unblocked_outside}
use Rattle.kdg_graph.proofs.Filing.{same_access}
use Rattle.kdg_graph.proofs.Keeping.{changed, ids-map, with_set_if}
use Rattle.kdg_graph.proofs.KeyOrder.{filters_commute, put_dropped, put_without, same_filter, is_before, not_itself}
use Rattle.kdg_graph.proofs.LookUps.{ids_find_nodes, nodes_have_ids, map_none, none_at, without_none}
use Rattle.kdg_graph.proofs.Rewrites.{in_put_new}
use Rattle.kdg_graph.proofs.Selecting.{among_append, but, but_is_forgotten, but_same, select_append, settled}
use Rattle.kdg_graph.specs.NodeLaws.{ascending_filtered, is_at-same, not_at, start, start_keeps_id, start_keeps_set, start_keeps_task}

-- ---- the nodes but for one

-- the ids that are selected among the others are selected among all
pub select_but : (nodes : List Node) (test : Node → Bool) (id : NodeId) (ids : List NodeId) → AreSelected (without id nodes) test ids → AreSelected nodes (but id test) ids
select_but nodes test id ids is = is ∙ ap ids_of (filters_commute test (λ node. not (is_at id node)) nodes ∙ filter_both (λ node. not (is_at id node)) test nodes)

-- and those that are selected once its id is taken out are selected among the others
pub select_left : (nodes : List Node) (test : Node → Bool) (id : NodeId) (ids : List NodeId) → AreSelected nodes (forgotten (id ∷ []) test) ids → AreSelected (without id nodes) test ids
select_left nodes test id ids is =
    is ∙ ap ids_of (sym (filters_commute test (λ node. not (is_at id node)) nodes ∙ filter_both (λ node. not (is_at id node)) test nodes ∙ but_is_forgotten nodes id test))

-- a node that was put in is taken out again
pub without_put : (new : Node) (nodes : List Node) → HaveOwnIds (put_node new nodes) → without new.id (put_node new nodes) ≡ nodes
without_put new [] own = ap (λ b. cond (not b) (new ∷ []) []) (is_at-same new.id new refl)
without_put new (node ∷ nodes) own =
    let by_case : (past : Bool) → is_before new.task.key node ≡ past → HaveOwnIds (cond past (node ∷ put_node new nodes) (new ∷ node ∷ nodes)) → without new.id (cond past (node ∷ put_node new nodes) (new ∷ node ∷ nodes)) ≡ node ∷ nodes = elim [
      | true ↦ λ _ owns.
          let differs : is_at new.id node ≡ false = not_at new.id node (λ same. differs_put new node nodes owns.0 (sym same)) in
          ap (λ b. cond (not b) (node ∷ without new.id (put_node new nodes)) (without new.id (put_node new nodes))) differs ∙ ap (λ l. node ∷ l) (without_put new nodes owns.1)
      | false ↦ λ _ owns.
          ap (λ b. cond (not b) (new ∷ without new.id (node ∷ nodes)) (without new.id (node ∷ nodes))) (is_at-same new.id new refl)
          ∙ without_none new.id (node ∷ nodes) (none_at new.id new.id (node ∷ nodes) refl owns.0)
    ] in
    by_case (is_before new.task.key node) refl own
  where
    differs_put : (new node : Node) (nodes : List Node) → AllByRecursion (λ other. other.id ≢ node.id) (put_node new nodes) → new.id ≢ node.id
    differs_put new node [] all = all.0
    differs_put new node (other ∷ nodes) all =
        elim (is_before new.task.key other) as (λ past. AllByRecursion (λ (n : Node). n.id ≢ node.id) (cond past (other ∷ put_node new nodes) (new ∷ other ∷ nodes)) → new.id ≢ node.id) [
          | true ↦ λ rest. differs_put new node nodes rest.1
          | false ↦ λ first. first.0
        ] all

-- it is found by its id
pub found_put : (new : Node) (nodes now : List Node) → now ≡ put_node new nodes → IsGraph now → node_at now new.id ≡ Some new
found_put new nodes now is graph = nodes_have_ids now new graph (subst (λ (l : List Node). Contains l new) (sym is) (in_put_new new nodes))

-- ---- the fronts behind a node don't see it

pub fronts_put : (set : Accesses) (new : Node) (nodes : List Node) → fronts_after set new.task.key (put_node new nodes) ≡ fronts_after set new.task.key nodes
fronts_put set new nodes =
    ap (λ behind. flat_map (λ p. up_to_writer p.0 (clashing_at p.0 p.1 behind)) set) (put_dropped (λ node. is_lt (key_cmp new.task.key node.task.key)) new nodes (not_itself new.task.key))

-- ---- after a node came

-- to forget the fronts behind it is to refresh them
fronts_forgotten : (new : Node) (now : List Node) (test : Node → Bool) (ids : List NodeId) → IsGraph now → Contains now new → AreSelected now (forgotten (ids_of (fronts_after new.set new.task.key now)) test) ids → AreSelected now (refreshed now (ids_of (fronts_after new.set new.task.key now)) test) ids
fronts_forgotten new now test ids graph has is =
    let front : List NodeId = ids_of (fronts_after new.set new.task.key now) in
    let by_case : (node : Node) → Contains now node → (among : Bool) → is_among front node ≡ among → cond among false (test node) ≡ cond among (is_unblocked now node) (test node) = λ node has_node. elim [
      | true ↦ λ among. sym (blocked_front new now node graph has has_node among)
      | false ↦ λ _. refl
    ] in
    is ∙ ap ids_of (same_filter (forgotten front test) (refreshed now front test) now (λ node has_node. by_case node has_node (is_among front node) refl))

-- where all of the fronts were blocked before it came, they fail once it is refreshed
pub fronts_failing : (new : Node) (rest now : List Node) → IsGraph now → Contains now new → AllByRecursion (λ other. is_blocked rest other ≡ true) (fronts_after new.set new.task.key now)
    → AllByRecursion (λ other. refreshed now (new.id ∷ []) (but new.id (is_unblocked rest)) other ≡ false) (fronts_after new.set new.task.key now)
fronts_failing new rest now graph has blocked =
    let front : List Node = fronts_after new.set new.task.key now in
    let test : Node → Bool = refreshed now (new.id ∷ []) (but new.id (is_unblocked rest)) in
    all_from (λ (other : Node). test other ≡ false) front (λ other among.
    let here : is_unblocked now other ≡ false = blocked_front new now other graph has (fronts_are_nodes new.set new.task.key now other among) (among_ids front other among) in
    let before : is_unblocked rest other ≡ false = ap not (all_at (λ (n : Node). is_blocked rest n ≡ true) front other blocked among) in
    (λ i. cond (is_at new.id other || false) (here i) (before i && not (is_at new.id other))) ∙ fails_both (is_at new.id other || false))
  where
    fails_both : (among : Bool) → cond among false false ≡ false
    fails_both true = refl
    fails_both false = refl

-- where the others were tested right
pub settled_put : (new : Node) (rest now : List Node) (ids : List NodeId) → IsAscending (tasks_of rest) → IsGraph now → now ≡ put_node new rest → AreSelected now (forgotten (ids_of (fronts_after new.set new.task.key now)) (refreshed now (new.id ∷ []) (but new.id (is_unblocked rest)))) ids
    → ids ≡ unblocked_of now
settled_put new rest now ids up graph is selected =
    let test : Node → Bool = is_unblocked rest in
    let front : List NodeId = ids_of (fronts_after new.set new.task.key now) in
    let first : Node → Bool = refreshed now (new.id ∷ []) (but new.id test) in
    let has : Contains now new = subst (λ (l : List Node). Contains l new) (sym is) (in_put_new new rest) in
    let last : AreSelected now (refreshed now front first) ids = fronts_forgotten new now first ids graph has selected in
    let all : AreSelected now (refreshed now (new.id ∷ front) (but new.id test)) ids = select_append (is_unblocked now) now (new.id ∷ []) front (but new.id test) ids last in
    let left : without new.id now ≡ rest = ap (without new.id) is ∙ without_put new rest (subst HaveOwnIds is graph.own_ids) in
    settled now (new.id ∷ front) (but new.id test) ids (λ node has apart.
    let tests = or_parts (is_at new.id node) (is_among front node) apart in
    let in_rest : Contains rest node = subst (λ (l : List Node). Contains l node) left (in_filter (λ n. not (is_at new.id n)) now node has (ap not tests.0)) in
    let outside : is_among (ids_of (fronts_after new.set new.task.key rest)) node ≡ false = ap (λ l. is_among (ids_of l) node) (sym (ap (fronts_after new.set new.task.key) is ∙ fronts_put new.set new rest)) ∙ tests.1 in
    but_same new.id test node tests.0 ∙ sym (unblocked_outside new rest node up in_rest outside) ∙ ap (λ l. is_unblocked l node) (sym is)) all

-- ---- after a node went

-- the others are sources as before, but for the fronts
pub unblocked_without : (id : NodeId) (gone : Node) (nodes : List Node) (node : Node) → IsGraph nodes → node_at nodes id ≡ Some gone → Contains (without id nodes) node → is_among (ids_of (fronts_after gone.set gone.task.key (without id nodes))) node ≡ false
    → is_unblocked nodes node ≡ is_unblocked (without id nodes) node
unblocked_without id gone nodes node graph is has outside =
    ap (λ l. is_unblocked l node) (sym (put_without id nodes gone graph is)) ∙ unblocked_outside gone (without id nodes) node (ascending_filtered (λ n. not (is_at id n)) nodes graph.ascending) has outside

pub settled_without : (id : NodeId) (gone : Node) (nodes now : List Node) (ids : List NodeId) → IsGraph nodes → node_at nodes id ≡ Some gone → now ≡ without id nodes → AreSelected now (refreshed now (ids_of (fronts_after gone.set gone.task.key now)) (is_unblocked nodes)) ids → ids ≡ unblocked_of now
settled_without id gone nodes now ids graph is are selected =
    settled now (ids_of (fronts_after gone.set gone.task.key now)) (is_unblocked nodes) ids (λ node has apart.
    unblocked_without id gone nodes node graph is (subst (λ (l : List Node). Contains l node) are has) (ap (λ l. is_among (ids_of (fronts_after gone.set gone.task.key l)) node) (sym are) ∙ apart) ∙ ap (λ l. is_unblocked l node) (sym are)) selected

-- ---- after a node's set changed

map_put : (f : Node → Node) → ((node : Node) → (f node).task ≡ node.task) → (new : Node) (nodes : List Node) → map f (put_node new nodes) ≡ put_node (f new) (map f nodes)
map_put f keeps new [] = refl
map_put f keeps new (node ∷ nodes) =
    let rest : List Node = map f nodes in
    elim (is_before new.task.key node) as (λ b. map f (cond b (node ∷ put_node new nodes) (new ∷ node ∷ nodes)) ≡ cond b (f node ∷ put_node (f new) rest) (f new ∷ f node ∷ rest)) [
      | true ↦ ap (λ l. f node ∷ l) (map_put f keeps new nodes)
      | false ↦ refl
    ]
    ∙ (λ i. cond (is_lt (key_cmp (sym (keeps node) i).key (sym (keeps new) i).key)) (f node ∷ put_node (f new) rest) (f new ∷ f node ∷ rest))

others : (id : NodeId) (nodes : List Node) → AllByRecursion (λ node. is_at id node ≡ false) (without id nodes)
others id nodes = all_from (λ (n : Node). is_at id n ≡ false) (without id nodes) (λ node has. turned_back (is_at id node) (from_filter (λ n. not (is_at id n)) nodes node has).1)
  where
    turned_back : (test : Bool) → not test ≡ true → test ≡ false
    turned_back true is = sym is
    turned_back false is = refl

-- it is as if the node had gone and come again
pub changed_put : (id : NodeId) (gone : Node) (set : Accesses) (nodes : List Node) → IsGraph nodes → node_at nodes id ≡ Some gone → with_sets (record { node = id; set = set } ∷ []) nodes ≡ put_node (record gone { set = set }) (without id nodes)
changed_put id gone set nodes graph is =
    let f : Node → Node = changed (record { node = id; set = set } ∷ []) in
    let rest : List Node = without id nodes in
    let replaces : f gone ≡ record gone { set = set } = ap (λ test. with_set_if id set test gone) (is_at-same id gone (ids_find_nodes nodes id gone is).1) in
    ap (map f) (sym (put_without id nodes gone graph is)) ∙ map_put f (λ node. refl) gone rest ∙ (λ i. put_node (replaces i) (map_none f id rest (λ other differs. ap (λ test. with_set_if id set test other) differs) (others id nodes) i))

pub without_changed : (id : NodeId) (gone : Node) (set : Accesses) (nodes now : List Node) → IsGraph nodes → IsGraph now → node_at nodes id ≡ Some gone → now ≡ with_sets (record { node = id; set = set } ∷ []) nodes → without id now ≡ without id nodes
without_changed id gone set nodes now graph after is are =
    let put : now ≡ put_node (record gone { set = set }) (without id nodes) = are ∙ changed_put id gone set nodes graph is in
    ap (λ (i : NodeId). without i now) (sym (ids_find_nodes nodes id gone is).1) ∙ ap (without gone.id) put ∙ without_put (record gone { set = set }) (without id nodes) (subst HaveOwnIds put after.own_ids)

pub found_changed : (id : NodeId) (gone : Node) (set : Accesses) (nodes now : List Node) → IsGraph nodes → IsGraph now → node_at nodes id ≡ Some gone → now ≡ with_sets (record { node = id; set = set } ∷ []) nodes → node_at now id ≡ Some (record gone { set = set })
found_changed id gone set nodes now graph after is are =
    ap (node_at now) (sym (ids_find_nodes nodes id gone is).1) ∙ found_put (record gone { set = set }) (without id nodes) now (are ∙ changed_put id gone set nodes graph is) after

-- the set that the node has changes nothing
pub same_set_changes_none : (id : NodeId) (node : Node) (set : Accesses) (nodes : List Node) → IsGraph nodes → node_at nodes id ≡ Some node → node.set ≡ set → with_sets (record { node = id; set = set } ∷ []) nodes ≡ nodes
same_set_changes_none id node set nodes graph is same =
    changed_put id node set nodes graph is ∙ ap (λ (s : Accesses). put_node (record node { set = s }) (without id nodes)) (sym same) ∙ put_without id nodes node graph is

-- a pair that clashes is one that a set in no conflict lacks
lacks_met : (other set : Accesses) (p : ℕ × Access) → clash (Some p.1) (access_at set p.0) ≡ true → conflicts_with other set ≡ false → is_same (Some p.1) (access_at other p.0) ≡ false
lacks_met other set p met free = false_from_ne_true _ (λ same.
    let found : access_at other p.0 ≡ Some p.1 = same_access p.1 (access_at other p.0) same in
    true≢false (sym (any_from (λ (q : ℕ × Access). clash (access_at other q.0) (access_at set q.0)) other p (pair_of other p.0 p.1 found) (ap (λ a. clash a (access_at set p.0)) found ∙ met)) ∙ free))

-- who is in conflict with one of two sets alone is behind the pairs that the other lacks
lacking_in_front : (gone : Node) (other : Accesses) (rest : List Node) (node : Node) → IsAscending (tasks_of rest) → Contains rest node → is_among (ids_of (fronts_after (lacking gone.set other) gone.task.key rest)) node ≡ false
    → is_before node.task.key gone ≡ true → conflicts_with gone.set node.set ≡ true → conflicts_with other node.set ≡ false → is_blocked rest node ≡ true
lacking_in_front gone other rest node up has outside later conflict free =
    let met : ClashingPair gone.set node.set = clashing_pair gone.set node.set conflict in
    let named : Contains (lacking gone.set other) met.0 = in_filter (λ (p : ℕ × Access). not (is_same (Some p.1) (access_at other p.0))) gone.set met.0 met.1 (ap not (lacks_met other node.set met.0 met.2 free)) in
    met_in_front gone.task.key (lacking gone.set other) met.0 rest node up has outside named met.2 later

-- only the fronts at the pairs that one of the sets lacks see the exchange
blocked_exchanged : (gone : Node) (set : Accesses) (rest : List Node) (node : Node) → IsAscending (tasks_of rest) → Contains rest node → is_among (ids_of (fronts_after (lacking gone.set set) gone.task.key rest)) node ≡ false → is_among (ids_of (fronts_after (lacking set gone.set) gone.task.key rest)) node ≡ false
    → is_blocked (put_node gone rest) node ≡ is_blocked (put_node (record gone { set = set }) rest) node
blocked_exchanged gone set rest node up has gone_out come_out =
    let new : Node = record gone { set = set } in
    let by_case : (later before after : Bool) → is_before node.task.key gone ≡ later → conflicts_with gone.set node.set ≡ before → conflicts_with set node.set ≡ after → ((later && before) || is_blocked rest node) ≡ ((later && after) || is_blocked rest node) = elim [
      | true ↦ elim [
        | true ↦ elim [ true ↦ λ _ _ _. refl | false ↦ λ later conflict free. sym (lacking_in_front gone set rest node up has gone_out later conflict free) ]
        | false ↦ elim [ true ↦ λ later free conflict. lacking_in_front new gone.set rest node up has come_out later conflict free | false ↦ λ _ _ _. refl ]
      ]
      | false ↦ λ _ _ _ _ _. refl
    ] in
    blocked_put gone rest node ∙ by_case _ _ _ refl refl refl ∙ sym (blocked_put new rest node)

pub settled_exchanged : (id : NodeId) (gone : Node) (set : Accesses) (nodes now : List Node) (ids : List NodeId) → IsGraph nodes → IsGraph now → node_at nodes id ≡ Some gone → now ≡ with_sets (record { node = id; set = set } ∷ []) nodes
    → AreSelected now (refreshed now (ids_of (fronts_after (lacking set gone.set) gone.task.key now)) (refreshed now (ids_of (fronts_after (lacking gone.set set) gone.task.key now)) (refreshed now (id ∷ []) (but id (is_unblocked nodes))))) ids → ids ≡ unblocked_of now
settled_exchanged id gone set nodes now ids graph after is are selected =
    let rest : List Node = without id nodes in
    let new : Node = record gone { set = set } in
    let put : now ≡ put_node new rest = are ∙ changed_put id gone set nodes graph is in
    let left : List NodeId = ids_of (fronts_after (lacking gone.set set) gone.task.key now) in
    let come : List NodeId = ids_of (fronts_after (lacking set gone.set) gone.task.key now) in
    let first : Node → Bool = refreshed now (id ∷ []) (but id (is_unblocked nodes)) in
    let all : AreSelected now (refreshed now (id ∷ left ++ come) (but id (is_unblocked nodes))) ids = select_append (is_unblocked now) now (id ∷ []) (left ++ come) (but id (is_unblocked nodes)) ids (select_append (is_unblocked now) now left come first ids selected) in
    let up : IsAscending (tasks_of rest) = ascending_filtered (λ n. not (is_at id n)) nodes graph.ascending in
    settled now (id ∷ left ++ come) (but id (is_unblocked nodes)) ids (λ node has apart.
    let tests = or_parts (is_at id node) (is_among (left ++ come) node) apart in
    let fronts = or_parts (is_among left node) (is_among come node) (sym (among_append left come node) ∙ tests.1) in
    let in_rest : Contains rest node = subst (λ (l : List Node). Contains l node) (without_changed id gone set nodes now graph after is are) (in_filter (λ n. not (is_at id n)) now node has (ap not tests.0)) in
    let outside : (pairs : Accesses) → is_among (ids_of (fronts_after pairs gone.task.key now)) node ≡ false → is_among (ids_of (fronts_after pairs gone.task.key rest)) node ≡ false =
    λ pairs out. ap (λ l. is_among (ids_of l) node) (sym (ap (fronts_after pairs gone.task.key) put ∙ fronts_put pairs new rest)) ∙ out in
    but_same id (is_unblocked nodes) node tests.0 ∙ ap (λ l. is_unblocked l node) (sym (put_without id nodes gone graph is))
    ∙ ap not (blocked_exchanged gone set rest node up in_rest (outside (lacking gone.set set) fronts.0) (outside (lacking set gone.set) fronts.1)) ∙ ap (λ l. is_unblocked l node) (sym put)) all

-- ---- after a node started

pub ids-started : (id : NodeId) (nodes : List Node) → ids_of (started id nodes) ≡ ids_of nodes
ids-started id = ids-map (start id) (start_keeps_id id)

-- a filter of the nodes then is one of those before
filter_started : (id : NodeId) (p q : Node → Bool) (nodes : List Node) → ((node : Node) → q (start id node) ≡ p node) → filter q (started id nodes) ≡ map (start id) (filter p nodes)
filter_started id p q nodes same = filter-map (start id) q nodes ∙ ap (map (start id)) (same_filter (λ node. q (start id node)) p nodes (λ node _. same node))

any_started : (id : NodeId) (key : Key) (set : Accesses) (nodes : List Node) → list_any (λ other. conflicts_with other.set set) (earlier_than key (started id nodes)) ≡ list_any (λ other. conflicts_with other.set set) (earlier_than key nodes)
any_started id key set nodes =
    let test : Node → Bool = λ other. conflicts_with other.set set in
    ap (list_any test) (filter_started id (is_before key) (is_before key) nodes (λ node i. is_lt (key_cmp (start_keeps_task id node i).key key)))
    ∙ any-map (start id) test (earlier_than key nodes)
    ∙ any_same (λ node. test (start id node)) test (earlier_than key nodes) (λ node _ i. conflicts_with (start_keeps_set id node i) set)

-- its start unblocks and blocks none
pub unblocked_started : (id : NodeId) (nodes : List Node) → unblocked_of (started id nodes) ≡ unblocked_of nodes
unblocked_started id nodes =
    let now : List Node = started id nodes in
    let same : (node : Node) → is_unblocked now (start id node) ≡ is_unblocked nodes node =
    λ node. (λ i. not (list_any (λ other. conflicts_with other.set (start_keeps_set id node i)) (earlier_than (start_keeps_task id node i).key now))) ∙ ap not (any_started id node.task.key node.set nodes) in
    ap ids_of (filter_started id (is_unblocked nodes) (is_unblocked now) nodes same) ∙ ids-started id (filter (is_unblocked nodes) nodes)

-- and leaves it where it is filed
clashing_started : (id : NodeId) (loc : ℕ) (access : Access) (nodes : List Node) → ids_of (clashing_at loc access (started id nodes)) ≡ ids_of (clashing_at loc access nodes)
clashing_started id loc access nodes =
    ap ids_of (filter_started id (clashes_at loc access) (clashes_at loc access) nodes (λ node i. clash (Some access) (access_at (start_keeps_set id node i) loc))) ∙ ids-started id (clashing_at loc access nodes)

pub filed_started : (id : NodeId) (nodes : List Node) (locations : List Location) → AreFiled nodes locations → AreFiled (started id nodes) locations
filed_started id nodes locations filed loc access = filed loc access ∙ sym (clashing_started id loc access nodes)

pub ids-changed : (changes : List SetChange) (nodes : List Node) → ids_of (with_sets changes nodes) ≡ ids_of nodes
ids-changed changes = ids-map (changed changes) (λ node. refl)
