-- What is so of nodes, of their ids and of their sets.
use Rattle.std.proofs.Common.{true, ap, eqb-true, ◌≡◌, eq-eqb, Bool, false, refl, ◌≢◌, List, Contains, Some, inl, cond, inr, sym, ◌∷◌, ◌∙◌, [], filter, Option, IsSome, None, Less}
use Rattle.std.proofs.lemmas.Bool.{cond_both}
use Rattle.std.specs.List.{AllByRecursion}
use Rattle.plain_laws.specs.Members.{none, cases, all_at, all_from, from_filter}
use Rattle.task_order.specs.declared.task.Task.{Task}
use Rattle.task_order.specs.TaskList.{IsAscending}
use Rattle.task_order.specs.Key.{key_cmp}
use Rattle.kdg_graph.specs.declared.node_id.NodeId.{NodeId}
use Rattle.kdg_graph.specs.Node.{Node}
use Rattle.kdg_graph.specs.Nodes.{is_at, HaveOwnIds, node_at, HasNode, tasks_of}
use Rattle.kdg_graph.specs.Rewrite.{with_sets}

pub same_id : (id : NodeId) (node : Node) → is_at id node ≡ true → node.id ≡ id
same_id id node is = ap (λ n. let made : NodeId = record { at = n } in made) (eqb-true node.id.at id.at is)

pub is_at-same : (id : NodeId) (node : Node) → node.id ≡ id → is_at id node ≡ true
is_at-same id node same = eq-eqb node.id.at id.at (ap (λ (other : NodeId). other.at) same)

pub not_at_by : (id : NodeId) (node : Node) (test : Bool) → is_at id node ≡ test → node.id ≢ id → test ≡ false
not_at_by id node true is differ = absurd (differ (same_id id node is))
not_at_by id node false is differ = refl

pub not_at : (id : NodeId) (node : Node) → node.id ≢ id → is_at id node ≡ false
not_at id node differ = not_at_by id node _ refl differ

pub found_by_id : (nodes : List Node) (node : Node) → HaveOwnIds nodes → Contains nodes node → node_at nodes node.id ≡ Some node
found_by_id [] node own has = absurd (none node has)
found_by_id (other ∷ nodes) node own has = elim (cases other node nodes has) [
  | inl same ↦ ap (λ test. cond test (Some other) (node_at nodes node.id)) (is_at-same node.id other (ap (λ (n : Node). n.id) same)) ∙ ap Some same
  | inr later ↦
      ap (λ test. cond test (Some other) (node_at nodes node.id)) (not_at node.id other (λ same. all_at (λ (n : Node). n.id ≢ other.id) nodes node own.0 later (sym same)))
      ∙ found_by_id nodes node own.1 later
]

pub own_filtered : (p : Node → Bool) (nodes : List Node) → HaveOwnIds nodes → HaveOwnIds (filter p nodes)
own_filtered p [] own = tt
own_filtered p (node ∷ nodes) own =
    cond_both (p node) (node ∷ filter p nodes) (filter p nodes) HaveOwnIds
    (λ _. (all_from (λ (other : Node). other.id ≢ node.id) (filter p nodes) (λ other has. all_at (λ (n : Node). n.id ≢ node.id) nodes other own.0 (from_filter p nodes other has).0), own_filtered p nodes own.1))
    (λ _. own_filtered p nodes own.1)

pub found_node : (nodes : List Node) (id : NodeId) → HasNode nodes id → (node : Node) × (node_at nodes id ≡ Some node)
found_node nodes id has = go (node_at nodes id) has
  where
    go : (found : Option Node) → IsSome found → (node : Node) × (found ≡ Some node)
    go None has = cc
    go (Some node) has = (node, refl)

pub with_no_sets : (nodes : List Node) → with_sets [] nodes ≡ nodes
with_no_sets [] = refl
with_no_sets (node ∷ nodes) = ap (λ rest. node ∷ rest) (with_no_sets nodes)

abbrev pub start : NodeId → Node → Node
start id node = cond (is_at id node) (record node { running = true }) node

pub start_keeps_id : (id : NodeId) (node : Node) → (start id node).id ≡ node.id
start_keeps_id id node = elim (is_at id node) as (λ test. (let n : Node = cond test (record node { running = true }) node in n.id) ≡ node.id) [ true ↦ refl | false ↦ refl ]

pub start_keeps_task : (id : NodeId) (node : Node) → (start id node).task ≡ node.task
start_keeps_task id node = elim (is_at id node) as (λ test. (let n : Node = cond test (record node { running = true }) node in n.task) ≡ node.task) [ true ↦ refl | false ↦ refl ]

pub start_keeps_set : (id : NodeId) (node : Node) → (start id node).set ≡ node.set
start_keeps_set id node = elim (is_at id node) as (λ test. (let n : Node = cond test (record node { running = true }) node in n.set) ≡ node.set) [ true ↦ refl | false ↦ refl ]

pub all_filtered : (P : Task → Type 0) (p : Node → Bool) (nodes : List Node) → AllByRecursion P (tasks_of nodes) → AllByRecursion P (tasks_of (filter p nodes))
all_filtered P p [] all = tt
all_filtered P p (node ∷ nodes) all =
    let rest = all_filtered P p nodes all.1 in
    cond_both (p node) (node ∷ filter p nodes) (filter p nodes) (λ (l : List Node). AllByRecursion P (tasks_of l)) (λ _. (all.0, rest)) (λ _. rest)

pub ascending_filtered : (p : Node → Bool) (nodes : List Node) → IsAscending (tasks_of nodes) → IsAscending (tasks_of (filter p nodes))
ascending_filtered p [] up = tt
ascending_filtered p (node ∷ nodes) up =
    let rest = ascending_filtered p nodes up.1 in
    cond_both (p node) (node ∷ filter p nodes) (filter p nodes) (λ (l : List Node). IsAscending (tasks_of l)) (λ _. (all_filtered (λ other. key_cmp node.task.key other.key ≡ Less) p nodes up.0, rest)) (λ _. rest)
