-- The nodes of a graph, which are taken out one by one, the earliest first.
use Rattle.std.proofs.Common.{◌≡◌, ◌<◌, not, cond, List, [], ◌∷◌, ◌++◌, Option, Some, length, append_assoc, refl, sym, ap, ◌∙◌, arith, eq-eqb}
use Rattle.std.specs.Option.{option_map}
use Rattle.std.proofs.lemmas.Option.{none-some, same_Some}
use Rattle.task_order.specs.declared.task.Task.{Task}
use Rattle.kdg_graph.specs.declared.change.Fresh.{Fresh}
use Rattle.kdg_graph.specs.declared.change.SetChange.{SetChange}
use Rattle.kdg_graph.specs.declared.node_id.NodeId.{NodeId}
use Rattle.kdg_graph.specs.Node.{Node}
use Rattle.kdg_graph.specs.Nodes.{IsGraph, least_of, node_at, task_at, tasks_of}
use Rattle.kdg_graph.specs.Rewrite.{IsRewritten, fresh_nodes, put_nodes, with_sets, without}
use Rattle.kdg_graph.specs.NodeLaws.{with_no_sets}
use Rattle.graph_update.proofs.ClaimedNodes.{none_taken}

no_fresh : (ids : List NodeId) (nodes : List Node) → put_nodes (fresh_nodes ids []) nodes ≡ nodes
no_fresh [] nodes = refl
no_fresh (id ∷ ids) nodes = refl

-- the earliest node is out, and this is its task
pub record IsTaken (nodes now : List Node) (task : Task) : Type 0 where
  pub first : Node
  pub nodes_are : nodes ≡ first ∷ now
  pub task_is : first.task ≡ task

module _ (id : NodeId) (changes : List SetChange) (none : changes ≡ []) (fresh : List Fresh) (empty : fresh ≡ []) (task : Task) where
  pub least_taken : (nodes now : List Node) → IsGraph nodes → Some id ≡ least_of nodes → task_at nodes id ≡ Some task → IsRewritten nodes id changes fresh now → IsTaken nodes now task
  least_taken [] now graph least of_id rewritten = absurd (none-some id (sym least))
  least_taken (node ∷ nodes) now graph least of_id rewritten =
      let same : id ≡ node.id = same_Some id node.id least in
      let own = eq-eqb node.id.at id.at (ap (λ (one : NodeId). one.at) (sym same)) in
      let others : without id (node ∷ nodes) ≡ nodes =
      ap (λ test. cond (not test) (node ∷ without id nodes) (without id nodes)) own ∙ ap (λ one. without one nodes) same ∙ none_taken node.id nodes graph.own_ids.0 in
      let left = rewritten.nodes ∙ ap (λ new. put_nodes (fresh_nodes rewritten.ids new) (with_sets changes (without id (node ∷ nodes)))) empty ∙ no_fresh rewritten.ids (with_sets changes (without id (node ∷ nodes)))
      ∙ ap (λ some. with_sets some (without id (node ∷ nodes))) none ∙ with_no_sets (without id (node ∷ nodes)) ∙ others in
      record {
        first = node;
        nodes_are = ap (λ rest. node ∷ rest) (sym left);
        task_is = same_Some node.task task (sym (ap (λ test. task_in (cond test (Some node) (node_at nodes id))) own) ∙ of_id);
      }
    where
      task_in : Option Node → Option Task
      task_in found = option_map (λ node. node.task) found

-- the tasks that were taken, and those of the nodes that are left, are all
pub one_more : (tasks all : List Task) (nodes now : List Node) (task : Task) → tasks ++ tasks_of nodes ≡ all → IsTaken nodes now task → (tasks ++ task ∷ []) ++ tasks_of now ≡ all
one_more tasks all nodes now task before taken =
    append_assoc tasks (task ∷ []) (tasks_of now) ∙ ap (λ (one : Task). tasks ++ one ∷ tasks_of now) (sym taken.task_is) ∙ ap (λ some. tasks ++ tasks_of some) (sym taken.nodes_are) ∙ before

pub fewer : (nodes now : List Node) (task : Task) → IsTaken nodes now task → length now < length nodes
fewer nodes now task taken = omega (arith, ap length taken.nodes_are)
