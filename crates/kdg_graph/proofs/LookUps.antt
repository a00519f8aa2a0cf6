-- Nodes are found by their ids and by their keys.
use Rattle.std.proofs.Common.{◌≡◌, ◌≢◌, ℕ, zero, suc, ◌<◌, Bool, true, false, not, cond, List, [], ◌∷◌, length, map, get_or, Some, refl, sym, ◌∙◌, ap, arith, remove, inl, inr, None, subst, Contains, filter, Less, is_eq, true≢false}
use Rattle.plain_laws.specs.Options.{some_injective}
use Rattle.plain_laws.specs.Orderings.{equal_from_test}
use Rattle.task_order.specs.KeyLaws.{differ_from_earlier}
use Rattle.kdg_graph.proofs.Common.{AllByRecursion, NodeId, Node, HaveOwnIds, is_at, node_at, without, tied_itself, Key, IsExactOrder, key_cmp, key_cmp_total, IsAscending, IsNewKey, ids_of, node_with_key, tasks_of, IdsFindNodes, IdsFindTheirNodes, KeysFindNodes, LeastIsEarliest, NewKeysFindNone, NodesHaveIds, NodesHaveKeys, NoneIsLeastOfNone, cases, from_filter, here, none, there}
use Rattle.kdg_graph.specs.NodeLaws.{same_id, is_at-same, not_at, found_by_id}

-- ---- the place of a node

-- the node at the place, and none before it, has the id
abbrev pub IsPlaceOf : NodeId → List Node → ℕ → Type 0
IsPlaceOf id [] place = ⊥
IsPlaceOf id (node ∷ nodes) zero = is_at id node ≡ true
IsPlaceOf id (node ∷ nodes) (suc place) = (is_at id node ≡ false) × IsPlaceOf id nodes place

pub place_inside : (id : NodeId) (nodes : List Node) (place : ℕ) → IsPlaceOf id nodes place → place < length nodes
place_inside id [] place at = absurd at
place_inside id (node ∷ nodes) zero at = omega arith
place_inside id (node ∷ nodes) (suc place) at = omega (arith, place_inside id nodes place at.1)

pub id_at-place : (id : NodeId) (nodes : List Node) (place : ℕ) (d : Node) → IsPlaceOf id nodes place → (get_or nodes place d).id ≡ id
id_at-place id [] place d at = absurd at
id_at-place id (node ∷ nodes) zero d at = same_id id node at
id_at-place id (node ∷ nodes) (suc place) d at = id_at-place id nodes place d at.1

-- ---- taking the node out

pub none_at : (id other : NodeId) (nodes : List Node) → id ≡ other → AllByRecursion (λ node. node.id ≢ id) nodes → AllByRecursion (λ node. is_at other node ≡ false) nodes
none_at id other [] same all = tt
none_at id other (node ∷ nodes) same all = (not_at other node (λ is. all.0 (is ∙ sym same)), none_at id other nodes same all.1)

pub without_none : (id : NodeId) (nodes : List Node) → AllByRecursion (λ node. is_at id node ≡ false) nodes → without id nodes ≡ nodes
without_none id [] all = refl
without_none id (node ∷ nodes) all = ap (λ test. cond (not test) (node ∷ without id nodes) (without id nodes)) all.0 ∙ ap (λ rest. node ∷ rest) (without_none id nodes all.1)

pub without-place : (id : NodeId) (nodes : List Node) (place : ℕ) → HaveOwnIds nodes → IsPlaceOf id nodes place → remove nodes place ≡ without id nodes
without-place id [] place own at = absurd at
without-place id (node ∷ nodes) zero own at =
    sym (ap (λ test. cond (not test) (node ∷ without id nodes) (without id nodes)) at ∙ without_none id nodes (none_at node.id id nodes (same_id id node at) own.0))
without-place id (node ∷ nodes) (suc place) own at =
    ap (λ rest. node ∷ rest) (without-place id nodes place own.1 at.1) ∙ sym (ap (λ test. cond (not test) (node ∷ without id nodes) (without id nodes)) at.0)

-- ---- changing the node

pub map_none : (f : Node → Node) (id : NodeId) (nodes : List Node) → ((node : Node) → is_at id node ≡ false → f node ≡ node) → AllByRecursion (λ node. is_at id node ≡ false) nodes → map f nodes ≡ nodes
map_none f id [] keeps all = refl
map_none f id (node ∷ nodes) keeps all = λ i. keeps node all.0 i ∷ map_none f id nodes keeps all.1 i

-- ---- by id

pub nodes_have_ids : NodesHaveIds
nodes_have_ids nodes node graph has = found_by_id nodes node graph.own_ids has

pub ids_find_nodes : IdsFindNodes
ids_find_nodes [] id node is = cc
ids_find_nodes (other ∷ nodes) id node is =
    let by_case : (test : Bool) → is_at id other ≡ test → cond test (Some other) (node_at nodes id) ≡ Some node → Contains (other ∷ nodes) node × (node.id ≡ id) = elim [
      | true ↦ λ at found. let same : other ≡ node = some_injective other node found in (subst (λ (n : Node). Contains (other ∷ nodes) n) same (here other nodes), sym (ap (λ (n : Node). n.id) same) ∙ same_id id other at)
      | false ↦ λ _ found. let rest : Contains nodes node × (node.id ≡ id) = ids_find_nodes nodes id node found in (there other node nodes rest.0, rest.1)
    ] in
    by_case (is_at id other) refl is

-- ---- by key

abbrev has_key : Key → Node → Bool
has_key key node = is_eq (key_cmp node.task.key key)

test_from_key : (key : Key) (node : Node) → node.task.key ≡ key → has_key key node ≡ true
test_from_key key node same = ap (λ k. is_eq (key_cmp k key)) same ∙ ap is_eq (tied_itself key_cmp_total key)

key_from_test : IsExactOrder → (key : Key) (node : Node) → has_key key node ≡ true → node.task.key ≡ key
key_from_test exact key node is = exact node.task.key key (equal_from_test _ is)

not_by : IsExactOrder → (key : Key) (node : Node) (test : Bool) → has_key key node ≡ test → node.task.key ≢ key → test ≡ false
not_by exact key node true is differ = absurd (differ (key_from_test exact key node is))
not_by exact key node false is differ = refl

pub key_later : (node : Node) (nodes : List Node) (other : Node) → AllByRecursion (λ task. key_cmp node.task.key task.key ≡ Less) (tasks_of nodes) → Contains nodes other → key_cmp node.task.key other.task.key ≡ Less
key_later node [] other all has = absurd (none other has)
key_later node (next ∷ nodes) other all has = elim (cases next other nodes has) [ inl same ↦ subst (λ (n : Node). key_cmp node.task.key n.task.key ≡ Less) same all.0 | inr later ↦ key_later node nodes other all.1 later ]

found_by_key : IsExactOrder → (nodes : List Node) (node : Node) → IsAscending (tasks_of nodes) → Contains nodes node → node_with_key nodes node.task.key ≡ Some node
found_by_key exact [] node up has = absurd (none node has)
found_by_key exact (other ∷ nodes) node up has = elim (cases other node nodes has) [
  | inl same ↦ ap (λ test. cond test (Some other) (node_with_key nodes node.task.key)) (test_from_key node.task.key other (ap (λ (n : Node). n.task.key) same)) ∙ ap Some same
  | inr later ↦
      ap (λ test. cond test (Some other) (node_with_key nodes node.task.key)) (not_by exact node.task.key other _ refl (differ_from_earlier other.task.key node.task.key (key_later other nodes node up.0 later)))
      ∙ found_by_key exact nodes node up.1 later
]

pub nodes_have_keys : IsExactOrder → NodesHaveKeys
nodes_have_keys exact nodes node graph has = found_by_key exact nodes node graph.ascending has

pub keys_find_nodes : IsExactOrder → KeysFindNodes
keys_find_nodes exact [] key node is = cc
keys_find_nodes exact (other ∷ nodes) key node is =
    let by_case : (test : Bool) → has_key key other ≡ test → cond test (Some other) (node_with_key nodes key) ≡ Some node → Contains (other ∷ nodes) node × (node.task.key ≡ key) = elim [
      | true ↦ λ at found. let same : other ≡ node = some_injective other node found in (subst (λ (n : Node). Contains (other ∷ nodes) n) same (here other nodes), sym (ap (λ (n : Node). n.task.key) same) ∙ key_from_test exact key other at)
      | false ↦ λ _ found. let rest : Contains nodes node × (node.task.key ≡ key) = keys_find_nodes exact nodes key node found in (there other node nodes rest.0, rest.1)
    ] in
    by_case (has_key key other) refl is

none_from_new : IsExactOrder → (nodes : List Node) (key : Key) → IsNewKey key (tasks_of nodes) → node_with_key nodes key ≡ None
none_from_new exact [] key new = refl
none_from_new exact (node ∷ nodes) key new = ap (λ test. cond test (Some node) (node_with_key nodes key)) (not_by exact key node _ refl new.0) ∙ none_from_new exact nodes key new.1

new_from_none : (nodes : List Node) (key : Key) → node_with_key nodes key ≡ None → IsNewKey key (tasks_of nodes)
new_from_none [] key is = tt
new_from_none (node ∷ nodes) key is =
    let by_case : (test : Bool) → has_key key node ≡ test → cond test (Some node) (node_with_key nodes key) ≡ None → (node.task.key ≢ key) × IsNewKey key (tasks_of nodes) = elim [
      | true ↦ λ _ found. absurd (let f : Some node ≡ None = found in cc)
      | false ↦ λ fails rest. ((λ same. true≢false (sym (test_from_key key node same) ∙ fails)), new_from_none nodes key rest)
    ] in
    by_case (has_key key node) refl is

pub new_keys_find_none : IsExactOrder → NewKeysFindNone
new_keys_find_none exact nodes key = (new_from_none nodes key, none_from_new exact nodes key)

-- ---- in order

found_each : (nodes some : List Node) → HaveOwnIds nodes → ((node : Node) → Contains some node → Contains nodes node) → map (node_at nodes) (ids_of some) ≡ map Some some
found_each nodes [] own among = refl
found_each nodes (node ∷ some) own among =
    λ i. found_by_id nodes node own (among node (here node some)) i ∷ found_each nodes some own (λ other has. among other (there node other some has)) i

pub ids_find_their_nodes : IdsFindTheirNodes
ids_find_their_nodes nodes test graph = found_each nodes (filter test nodes) graph.own_ids (λ node has. (from_filter test nodes node has).0)

-- ---- the least

pub least_is_earliest : LeastIsEarliest
least_is_earliest [] id graph is = cc
least_is_earliest (node ∷ nodes) id graph is =
    let same : node.id ≡ id = some_injective node.id id is in (
      node,
      ap (λ test. cond test (Some node) (node_at nodes id)) (is_at-same id node same),
      λ other has differs. elim (cases node other nodes has) [
        | inl is_first ↦ absurd (differs (sym (ap (λ (n : Node). n.id) is_first) ∙ same))
        | inr later ↦ key_later node nodes other graph.ascending.0 later
      ],
    )

pub none_is_least_of_none : NoneIsLeastOfNone
none_is_least_of_none [] = (λ _. refl, λ _. refl)
none_is_least_of_none (node ∷ nodes) = (λ is. absurd (let f : Some node.id ≡ None = is in cc), λ is. absurd (let f : node ∷ nodes ≡ [] = is in cc))
