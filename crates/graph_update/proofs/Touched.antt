-- The pending tasks of which a horizon tells, before and after a task's end.
use Rattle.std.proofs.Common.{◌≡◌, Some, List, ◌∷◌, ◌++◌, sym, ap, subst, ◌∙◌}
use Rattle.std.specs.Prelude.{Contains}
use Rattle.plain_laws.specs.Members.{in_map}
use Rattle.task_order.specs.declared.task.Task.{Task}
use Rattle.task_order.specs.TaskList.{put_all, without}
use Rattle.task_order.specs.TaskListLaws.{IsSplit, put_splits}
use Rattle.kdg_graph.specs.declared.change.Fresh.{Fresh}
use Rattle.kdg_graph.specs.declared.change.SetChange.{SetChange}
use Rattle.kdg_graph.specs.declared.node_id.NodeId.{NodeId}
use Rattle.kdg_graph.specs.Laws.{StartsKeepTasks}
use Rattle.kdg_graph.specs.Node.{Node}
use Rattle.kdg_graph.specs.Nodes.{IsGraph, node_at, started, task_at, tasks_of}
use Rattle.kdg_graph.specs.Rewrite.{IsRewritten, fresh_tasks}
use Rattle.app_laws.specs.Applications.{Application}
use Rattle.graph_update.specs.Basis.{EndBasis}
use Rattle.graph_update.proofs.Sources.{node_of}

-- where a node starts, what is told of the tasks is told as before
pub told_started : (Told : List Task → Type 0) → StartsKeepTasks → (id : NodeId) (nodes now : List Node) → now ≡ started id nodes → Told (tasks_of nodes) → Told (tasks_of now)
told_started Told keep id nodes now is told = subst Told (sym (ap tasks_of is ∙ keep id nodes)) told

module _ {V : Type 0} {app : Application V} (basis : EndBasis app) (nodes : List Node) (graph : IsGraph nodes) (id : NodeId) (task : Task) (at : task_at nodes id ≡ Some task) where
  -- the task that ends stands among the pending ones
  ended_splits : IsSplit task (tasks_of nodes) (without task.key (tasks_of nodes))
  ended_splits =
      let found = node_of nodes id task at in
      let has = subst (Contains (tasks_of nodes)) found.2 (in_map (λ (node : Node). node.task) nodes found.0 (basis.lower.ids_find nodes id found.0 found.1).0) in
      subst (λ (tasks : List Task). IsSplit task tasks (without task.key (tasks_of nodes))) (basis.lower.put_without task (tasks_of nodes) graph.ascending has) (put_splits task (without task.key (tasks_of nodes)))

  -- what is told of all tasks is told of the others, once it went
  pub told_of_others : (Before After : List Task → Type 0) → ((before after : List Task) → Before (before ++ task ∷ after) → After (before ++ after))
      → Before (tasks_of nodes) → After (without task.key (tasks_of nodes))
  told_of_others Before After went told =
      let split = ended_splits in
      subst After (sym split.others) (went split.before split.after (subst Before split.all told))

  -- the tasks after it are the others and the fresh ones
  pub tasks_after : (changes : Node → List SetChange) (fresh : List Fresh) (now : List Node)
      → ((node : Node) → node_at nodes id ≡ Some node → IsRewritten nodes id (changes node) fresh now)
      → tasks_of now ≡ put_all (fresh_tasks fresh) (without task.key (tasks_of nodes))
  tasks_after changes fresh now rewritten =
      let found = node_of nodes id task at in
      basis.lower.replaces nodes id (changes found.0) fresh now found.0 graph (rewritten found.0 found.1) found.1
      ∙ ap (λ (task : Task). put_all (fresh_tasks fresh) (without task.key (tasks_of nodes))) found.2
