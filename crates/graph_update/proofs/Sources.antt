-- What the safe test asks of a source: that no earlier task conflicts with its, and who writes what where sets are fixed.
use Rattle.std.proofs.Common.{◌≡◌, List, [], ◌∷◌, Option, Some, None, refl, sym, ap, subst, ◌∙◌}
use Rattle.std.specs.Prelude.{Contains}
use Rattle.std.specs.List.{AllByRecursion}
use Rattle.std.specs.Option.{option_map}
use Rattle.std.proofs.lemmas.Option.{none-some, same_Some}
use Rattle.plain_laws.specs.Orderings.{less_from_test}
use Rattle.plain_laws.specs.Members.{all_at, from_filter, in_map}
use Rattle.plain_laws.specs.Lists.{All-weaker}
use Rattle.task_order.specs.declared.task.Task.{Task}
use Rattle.task_order.specs.Key.{key_cmp}
use Rattle.rw_sets.specs.Accesses.{Accesses, Conflicts, IsWithin}
use Rattle.kdg_graph.specs.declared.node_id.NodeId.{NodeId}
use Rattle.kdg_graph.specs.Edges.{sources_of, writers_of}
use Rattle.kdg_graph.specs.Laws.{IdsFindNodes, SourcesAreUnblocked, WritersAreOfTasks}
use Rattle.kdg_graph.specs.Node.{Node}
use Rattle.kdg_graph.specs.Nodes.{IsGraph, earlier_than, node_at, task_at, tasks_of}
use Rattle.app_laws.specs.declared.app.SetAnswer.TheVariants as answer
use Rattle.app_laws.specs.Applications.{Application, AreFitTasks, AreWriters, FixedSetsAreKnown, IsFitTask, IsSource, set_in, tasks_before}
use Rattle.run_laws.specs.Basis.{LowerLaws}
use Rattle.run_laws.specs.NodeLists.{all-tasks, tasks-earlier_than, wider_conflict}
use Rattle.graph_update.specs.Engine.{AreCovered, HaveFixedSets, IsKept}
use Rattle.run_laws.specs.Progress.{Progress}
use Rattle.run_laws.specs.Sound.{Covers}

known_set : (set other : Accesses) → answer.Known set ≡ answer.Known other → set ≡ other
known_set set other same = cc

-- the node whose task an id finds
pub node_of : (nodes : List Node) (id : NodeId) (task : Task) → task_at nodes id ≡ Some task → (node : Node) × (node_at nodes id ≡ Some node) × (node.task ≡ task)
node_of nodes id task at = by_node (node_at nodes id) refl
  where
    by_node : (found : Option Node) → node_at nodes id ≡ found → (node : Node) × (node_at nodes id ≡ Some node) × (node.task ≡ task)
    by_node None is = absurd (none-some task (sym (ap (option_map (λ (n : Node). n.task)) is) ∙ at))
    by_node (Some node) is = (node, is, same_Some node.task task (sym (ap (option_map (λ (n : Node). n.task)) is) ∙ at))

module _ {V : Type 0} (app : Application V) where
  -- an engine's nodes are covered by its whole cells
  pub kept_covered : (progress : Progress V) → IsKept app progress → AreCovered app progress.nodes
  kept_covered progress kept = record {
    tasks = kept.sound.ready.tasks;
    cells = kept.values;
    fit = kept.sound.ready.cells;
    within = All-weaker (Covers app progress.cells kept.values) (λ node. IsWithin (set_in app kept.values node.task) node.set) (λ node covers. covers.within) progress.nodes kept.sound.recorded_covers;
  }

  module _ (nodes : List Node) (id : NodeId) (task : Task) (at : task_at nodes id ≡ Some task) where
    found : (node : Node) × (node_at nodes id ≡ Some node) × (node.task ≡ task)
    found = node_of nodes id task at

    -- its task is one of the application
    pub source_fit : IdsFindNodes → AreFitTasks app (tasks_of nodes) → IsFitTask app task
    source_fit ids_find fit =
        subst (IsFitTask app) found.2
        (all_at (IsFitTask app) (tasks_of nodes) found.0.task fit (in_map (λ (node : Node). node.task) nodes found.0 (ids_find nodes id found.0 found.1).0))

    -- no earlier task conflicts with that of a source
    pub source_apart : LowerLaws → IdsFindNodes → SourcesAreUnblocked → IsGraph nodes → Contains (sources_of nodes) id → AreCovered app nodes
        → IsSource app task (tasks_before task.key (tasks_of nodes))
    source_apart lower ids_find unblocked graph source covered =
        subst (λ (task : Task). IsSource app task (tasks_before task.key (tasks_of nodes))) found.2 (
        let node = found.0 in
        let has = (ids_find nodes id node found.1).0 in
        let within = λ (other : Node) (there : Contains nodes other). all_at (λ (n : Node). IsWithin (set_in app covered.cells n.task) n.set) nodes other covered.within there in
        let none = ((unblocked nodes id node graph found.1).0 source).1 in
        record {
          cells = covered.cells;
          fit = covered.fit;
          apart = subst (AllByRecursion (λ (other : Task). ¬ Conflicts (set_in app covered.cells other) (set_in app covered.cells node.task))) (tasks-earlier_than node.task.key nodes)
              (all-tasks (λ (other : Task). ¬ Conflicts (set_in app covered.cells other) (set_in app covered.cells node.task)) (earlier_than node.task.key nodes)
              (λ other earlier conflict.
              let there = from_filter _ nodes other earlier in
              none other there.0 (less_from_test (key_cmp other.task.key node.task.key) there.1)
              (wider_conflict lower _ _ node.set other.set (within node has) (within other there.0) conflict)));
        }
        )

  -- where sets are fixed, the writers by the recorded sets are those by the declared ones
  pub writers_are : WritersAreOfTasks → (nodes : List Node) → AreFitTasks app (tasks_of nodes) → HaveFixedSets app nodes → FixedSetsAreKnown app
      → AreWriters app (λ loc. tasks_of (writers_of nodes loc)) (tasks_of nodes)
  writers_are of_tasks nodes fit_tasks have known values loc fit = of_tasks nodes (set_in app values) loc (go nodes fit_tasks (have known []))
    where
      go : (some : List Node) → AreFitTasks app (tasks_of some) → AllByRecursion (λ (node : Node). app.walk node.task.body [] ≡ answer.Known node.set) some
          → AllByRecursion (λ (node : Node). node.set ≡ set_in app values node.task) some
      go [] fits all = tt
      go (node ∷ some) fits all = (known_set _ _ (sym all.0 ∙ known node.task [] values fit fits.0), go some fits.1 all.1)
