-- The nodes with one of them marked running.
use Rattle.std.proofs.Common.{◌≡◌, ◌≢◌, ◌⊎◌, inl, inr, ◌||◌, ◌&&◌, not, Bool, true, false, cond, List, [], ◌∷◌, length, refl, sym, ap, subst, ◌∙◌, eqb-true, eq-eqb}
use lib.ListN.{length-map}
use Rattle.std.specs.List.{AllByRecursion, list_any}
use Rattle.std.specs.Ordering.{is_lt}
use Rattle.task_order.specs.declared.key.Key.{Key}
use Rattle.task_order.specs.declared.task.Task.{Task}
use Rattle.task_order.specs.Key.{key_cmp}
use Rattle.task_order.specs.TaskList.{IsAscending}
use Rattle.rw_sets.specs.Accesses.{Accesses, IsAscending as IsAscendingSet, conflicts_with}
use Rattle.kdg_graph.specs.declared.node_id.NodeId.{NodeId}
use Rattle.kdg_graph.specs.Node.{Node}
use Rattle.kdg_graph.specs.Nodes.{HaveOwnIds, IsGraph, earlier_than, is_at, started, tasks_of}
use Rattle.kdg_graph.specs.NodeLaws.{start, start_keeps_id, start_keeps_set, start_keeps_task}
use Rattle.app_laws.specs.Applications.{Application}
use Rattle.run_laws.specs.Basis.{LowerLaws}
use Rattle.run_laws.specs.Sound.{is_unblocked}

-- ---- one node

pub as_many_started : (id : NodeId) (nodes now : List Node) → now ≡ started id nodes → length now ≡ length nodes
as_many_started id nodes now is = ap length is ∙ length-map nodes (start id)

pub start_keeps_running : (id : NodeId) (node : Node) → node.running ≡ true → (start id node).running ≡ true
start_keeps_running id node running = elim (is_at id node) as (λ test. let now : Node = cond test (record node { running = true }) node in now.running ≡ true) [ true ↦ refl | false ↦ running ]

-- only the node with the id changes
pub start_cases : (id : NodeId) (node : Node) → (node.id ≡ id) ⊎ (start id node ≡ node)
start_cases id node = by_case (is_at id node) refl
  where
    by_case : (test : Bool) → is_at id node ≡ test → (node.id ≡ id) ⊎ (start id node ≡ node)
    by_case true is = inl (ap (λ n. let made : NodeId = record { at = n } in made) (eqb-true node.id.at id.at is))
    by_case false is = inr (ap (λ test. cond test (record node { running = true }) node) is)

pub start_runs : (node : Node) → start node.id node ≡ record node { running = true }
start_runs node = ap (λ test. cond test (record node { running = true }) node) (eq-eqb node.id.at node.id.at refl)

-- ---- the graph

all_differ : (id other : NodeId) (nodes : List Node) → AllByRecursion (λ (n : Node). n.id ≢ other) nodes → AllByRecursion (λ (n : Node). n.id ≢ other) (started id nodes)
all_differ id other [] all = tt
all_differ id other (node ∷ nodes) all = ((λ same. all.0 (sym (start_keeps_id id node) ∙ same)), all_differ id other nodes all.1)

own_ids : (id : NodeId) (nodes : List Node) → HaveOwnIds nodes → HaveOwnIds (started id nodes)
own_ids id [] own = tt
own_ids id (node ∷ nodes) own =
    (all_differ id (start id node).id nodes (subst (λ other. AllByRecursion (λ (n : Node). n.id ≢ other) nodes) (sym (start_keeps_id id node)) own.0), own_ids id nodes own.1)

sets_ascend : (id : NodeId) (nodes : List Node) → AllByRecursion (λ (n : Node). IsAscendingSet n.set) nodes → AllByRecursion (λ (n : Node). IsAscendingSet n.set) (started id nodes)
sets_ascend id [] all = tt
sets_ascend id (node ∷ nodes) all = (subst IsAscendingSet (sym (start_keeps_set id node)) all.0, sets_ascend id nodes all.1)

pub started_graph : LowerLaws → (id : NodeId) (nodes : List Node) → IsGraph nodes → IsGraph (started id nodes)
started_graph lower id nodes graph = record {
  ascending = subst IsAscending (sym (lower.starts_keep_tasks id nodes)) graph.ascending;
  own_ids = own_ids id nodes graph.own_ids;
  sets = sets_ascend id nodes graph.sets;
}

-- ---- who stands in the way of whom

earlier_started : (id : NodeId) (key : Key) (nodes : List Node) → earlier_than key (started id nodes) ≡ started id (earlier_than key nodes)
earlier_started id key [] = refl
earlier_started id key (node ∷ nodes) =
    let rest = earlier_started id key nodes in
    ap (λ (task : Task). cond (is_lt (key_cmp task.key key)) (start id node ∷ earlier_than key (started id nodes)) (earlier_than key (started id nodes))) (start_keeps_task id node)
    ∙ elim (is_lt (key_cmp node.task.key key)) as (λ test. cond test (start id node ∷ earlier_than key (started id nodes)) (earlier_than key (started id nodes)) ≡ started id (cond test (node ∷ earlier_than key nodes) (earlier_than key nodes))) [
      | true ↦ ap (λ others. start id node ∷ others) rest
      | false ↦ rest
    ]

any_started : (id : NodeId) (set : Accesses) (nodes : List Node) → list_any (λ (other : Node). conflicts_with other.set set) (started id nodes) ≡ list_any (λ (other : Node). conflicts_with other.set set) nodes
any_started id set [] = refl
any_started id set (node ∷ nodes) =
    ap (λ own. conflicts_with own set || list_any (λ (other : Node). conflicts_with other.set set) (started id nodes)) (start_keeps_set id node)
    ∙ ap (λ others. conflicts_with node.set set || others) (any_started id set nodes)

module _ {V : Type 0} (app : Application V) (lower : LowerLaws) where
  abbrev is_free : Accesses → Task → List Node → Bool
  is_free set task earlier = not (list_any (λ (other : Node). conflicts_with other.set set) earlier) && app.is_safe task (tasks_of earlier)

  -- a start stands in nobody's way
  pub unblocked_started : (id : NodeId) (nodes : List Node) (node : Node) → is_unblocked app (started id nodes) (start id node) ≡ is_unblocked app nodes node
  unblocked_started id nodes node =
      let earlier = earlier_than node.task.key nodes in
      ap (λ set. is_free set (start id node).task (earlier_than (start id node).task.key (started id nodes))) (start_keeps_set id node)
      ∙ ap (λ (task : Task). is_free node.set task (earlier_than task.key (started id nodes))) (start_keeps_task id node)
      ∙ ap (is_free node.set node.task) (earlier_started id node.task.key nodes)
      ∙ ap (λ none. not none && app.is_safe node.task (tasks_of (started id earlier))) (any_started id node.set earlier)
      ∙ ap (λ tasks. not (list_any (λ (other : Node). conflicts_with other.set node.set) earlier) && app.is_safe node.task tasks) (lower.starts_keep_tasks id earlier)
