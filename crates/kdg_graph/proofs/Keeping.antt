-- What a list of nodes keeps, whatever is done to it.
use Rattle.std.proofs.Common.{◌≡◌, ◌≢◌, ℕ, zero, suc, Bool, true, false, cond, unwrap_or, Some, None, List, [], ◌∷◌, map, set, refl, sym, ◌∙◌, ap, subst, insert, remove, option_map, is_lt}
use Rattle.kdg_graph.proofs.Common.{AllByRecursion, cond_both, IsAscending, IsNewKey, PutsKeepAscending, key_cmp, Accesses, IsAscendingSet, NodeId, SetChange, Node, IsGraph, HaveOwnIds, HaveSets, ids_of, is_at, put_node, started, tasks_of, set_after, with_sets}
use Rattle.kdg_graph.proofs.KeyOrder.{tasks-put_node}
use Rattle.kdg_graph.specs.NodeLaws.{start, start_keeps_id, start_keeps_task}

-- ---- a change that keeps each node's id and task

pub tasks-map : (f : Node → Node) → ((node : Node) → (f node).task ≡ node.task) → (nodes : List Node) → tasks_of (map f nodes) ≡ tasks_of nodes
tasks-map f keeps [] = refl
tasks-map f keeps (node ∷ nodes) = λ i. keeps node i ∷ tasks-map f keeps nodes i

others_map : (f : Node → Node) → ((node : Node) → (f node).id ≡ node.id) → (first : Node) (nodes : List Node) → AllByRecursion (λ other. other.id ≢ first.id) nodes → AllByRecursion (λ other. other.id ≢ (f first).id) (map f nodes)
others_map f keeps first [] all = tt
others_map f keeps first (node ∷ nodes) all = ((λ same. all.0 (sym (keeps node) ∙ same ∙ keeps first)), others_map f keeps first nodes all.1)

own_ids-map : (f : Node → Node) → ((node : Node) → (f node).id ≡ node.id) → (nodes : List Node) → HaveOwnIds nodes → HaveOwnIds (map f nodes)
own_ids-map f keeps [] own = tt
own_ids-map f keeps (node ∷ nodes) own = (others_map f keeps node nodes own.0, own_ids-map f keeps nodes own.1)

pub ids-map : (f : Node → Node) → ((node : Node) → (f node).id ≡ node.id) → (nodes : List Node) → ids_of (map f nodes) ≡ ids_of nodes
ids-map f keeps [] = refl
ids-map f keeps (node ∷ nodes) = λ i. keeps node i ∷ ids-map f keeps nodes i

sets-map : (f : Node → Node) → ((node : Node) → IsAscendingSet node.set → IsAscendingSet (f node).set) → (nodes : List Node) → HaveSets nodes → HaveSets (map f nodes)
sets-map f keeps [] sets = tt
sets-map f keeps (node ∷ nodes) sets = (keeps node sets.0, sets-map f keeps nodes sets.1)

graph_map : (f : Node → Node) → ((node : Node) → (f node).task ≡ node.task) → ((node : Node) → (f node).id ≡ node.id) → ((node : Node) → IsAscendingSet node.set → IsAscendingSet (f node).set) → (nodes : List Node) → IsGraph nodes → IsGraph (map f nodes)
graph_map f keeps_task keeps_id keeps_set nodes graph = record {
  sets = sets-map f keeps_set nodes graph.sets;
  ascending = subst IsAscending (sym (tasks-map f keeps_task nodes)) graph.ascending;
  own_ids = own_ids-map f keeps_id nodes graph.own_ids;
}

-- ---- a node is started

start_keeps_set : (id : NodeId) (node : Node) → IsAscendingSet node.set → IsAscendingSet (start id node).set
start_keeps_set id node set = elim (is_at id node) as (λ test. IsAscendingSet (let n : Node = cond test (record node { running = true }) node in n.set)) [ true ↦ set | false ↦ set ]

pub graph_started : (id : NodeId) (nodes : List Node) → IsGraph nodes → IsGraph (started id nodes)
graph_started id = graph_map (start id) (start_keeps_task id) (start_keeps_id id) (start_keeps_set id)

pub tasks-started : (id : NodeId) (nodes : List Node) → tasks_of (started id nodes) ≡ tasks_of nodes
tasks-started id = tasks-map (start id) (start_keeps_task id)

-- ---- a set is replaced

abbrev pub changed : List SetChange → Node → Node
changed changes node = record node { set = set_after changes node }

-- the node with the set of a change, where it is the one that is named
abbrev pub with_set_if : NodeId → Accesses → Bool → Node → Node
with_set_if id new test node =
    let change : SetChange = record { node = id; set = new } in
    record node { set = unwrap_or (option_map (λ (c : SetChange). c.set) (cond test (Some change) None)) node.set }

change_keeps_set : (id : NodeId) (new : Accesses) → IsAscendingSet new → (node : Node) → IsAscendingSet node.set → IsAscendingSet (changed (record { node = id; set = new } ∷ []) node).set
change_keeps_set id new up node set = elim (is_at id node) as (λ test. IsAscendingSet (with_set_if id new test node).set) [ true ↦ up | false ↦ set ]

pub graph_with_set : (id : NodeId) (new : Accesses) → IsAscendingSet new → (nodes : List Node) → IsGraph nodes → IsGraph (with_sets (record { node = id; set = new } ∷ []) nodes)
graph_with_set id new up = graph_map (changed (record { node = id; set = new } ∷ [])) (λ node. refl) (λ node. refl) (change_keeps_set id new up)

-- ---- a node is taken out

pub ids-remove : (nodes : List Node) (place : ℕ) → ids_of (remove nodes place) ≡ remove (ids_of nodes) place
ids-remove [] place = elim place as (λ n. ids_of (remove [] n) ≡ remove [] n) [ zero ↦ refl | suc n ↦ refl ]
ids-remove (node ∷ nodes) zero = refl
ids-remove (node ∷ nodes) (suc place) = ap (λ rest. node.id ∷ rest) (ids-remove nodes place)

-- ---- a node is put in

ascending_put : PutsKeepAscending → (node : Node) (nodes : List Node) → IsNewKey node.task.key (tasks_of nodes) → IsAscending (tasks_of nodes) → IsAscending (tasks_of (put_node node nodes))
ascending_put keeps node nodes new up = subst IsAscending (sym (tasks-put_node node nodes)) (keeps node.task (tasks_of nodes) new up)

sets_put : (node : Node) (nodes : List Node) → IsAscendingSet node.set → HaveSets nodes → HaveSets (put_node node nodes)
sets_put node [] set sets = (set, tt)
sets_put node (other ∷ nodes) set sets =
    cond_both (is_lt (key_cmp other.task.key node.task.key)) (other ∷ put_node node nodes) (node ∷ other ∷ nodes) HaveSets (λ _. (sets.0, sets_put node nodes set sets.1)) (λ _. (set, sets))

others_put : (first node : Node) (nodes : List Node) → node.id ≢ first.id → AllByRecursion (λ other. other.id ≢ first.id) nodes → AllByRecursion (λ other. other.id ≢ first.id) (put_node node nodes)
others_put first node [] differs all = (differs, tt)
others_put first node (other ∷ nodes) differs all =
    cond_both (is_lt (key_cmp other.task.key node.task.key)) (other ∷ put_node node nodes) (node ∷ other ∷ nodes) (AllByRecursion (λ (n : Node). n.id ≢ first.id))
    (λ _. (all.0, others_put first node nodes differs all.1)) (λ _. (differs, all))

own_ids_put : (node : Node) (nodes : List Node) → AllByRecursion (λ other. other.id ≢ node.id) nodes → HaveOwnIds nodes → HaveOwnIds (put_node node nodes)
own_ids_put node [] differ own = (tt, tt)
own_ids_put node (other ∷ nodes) differ own =
    cond_both (is_lt (key_cmp other.task.key node.task.key)) (other ∷ put_node node nodes) (node ∷ other ∷ nodes) HaveOwnIds
    (λ _. (others_put other node nodes (λ same. differ.0 (sym same)) own.0, own_ids_put node nodes differ.1 own.1)) (λ _. (differ, own))

-- its id is no other node's
pub graph_put : PutsKeepAscending → (node : Node) (nodes : List Node) → IsNewKey node.task.key (tasks_of nodes) → IsAscendingSet node.set → AllByRecursion (λ other. other.id ≢ node.id) nodes → IsGraph nodes → IsGraph (put_node node nodes)
graph_put keeps node nodes new set differ graph = record {
  ascending = ascending_put keeps node nodes new graph.ascending;
  sets = sets_put node nodes set graph.sets;
  own_ids = own_ids_put node nodes differ graph.own_ids;
}

pub ids-insert : (nodes : List Node) (place : ℕ) (node : Node) → ids_of (insert nodes place node) ≡ insert (ids_of nodes) place node.id
ids-insert [] place node = elim place as (λ n. ids_of (insert [] n node) ≡ insert [] n node.id) [ zero ↦ refl | suc n ↦ refl ]
ids-insert (other ∷ nodes) zero node = refl
ids-insert (other ∷ nodes) (suc place) node = ap (λ rest. other.id ∷ rest) (ids-insert nodes place node)
