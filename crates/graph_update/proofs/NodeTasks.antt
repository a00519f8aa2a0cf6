-- The task of the node of an id, and that it is the one of a job that was performed.
use Rattle.std.proofs.Common.{◌≡◌, Bool, true, false, cond, Option, Some, List, [], ◌∷◌, ap, subst, ◌∙◌}
use Rattle.std.specs.Prelude.{Contains, option_map}
use Rattle.std.specs.List.{AllByRecursion, find}
use Rattle.std.specs.Option.{unwrap_or}
use Rattle.plain_laws.specs.Members.{here, there}
use Rattle.plain_laws.specs.Lists.{All-middle}
use Rattle.task_order.specs.declared.task.Task.{Task}
use Rattle.kdg_graph.specs.declared.node_id.NodeId.{NodeId}
use Rattle.kdg_graph.specs.Node.{Node}
use Rattle.kdg_graph.specs.Nodes.{node_at}
use Rattle.kdg_graph.specs.NodeLaws.{not_at, found_by_id}
use Rattle.app_laws.specs.Applications.{Application}
use Rattle.run_laws.specs.Jobs.{Done}
use Rattle.run_laws.specs.Acting.{no_task, task_named}
use Rattle.run_laws.specs.Laws.{IsDone}
use Rattle.run_laws.specs.Progress.{Progress}
use Rattle.run_laws.specs.Sound.{IsOfNode}

found_is_there : (test : Node → Bool) (nodes : List Node) (node : Node) → find test nodes ≡ Some node → Contains nodes node
found_is_there test [] node is = cc
found_is_there test (other ∷ nodes) node is = by_case (test other) (found_is_there test nodes node) is
  where
    by_case : (passes : Bool) → (find test nodes ≡ Some node → Contains nodes node) → cond passes (Some other) (find test nodes) ≡ Some node → Contains (other ∷ nodes) node
    by_case true rest found = let same : other ≡ node = cc in subst (Contains (other ∷ nodes)) same (here other nodes)
    by_case false rest found = there other node nodes (rest found)

module _ {V : Type 0} {app : Application V} (old : Progress V) (done : Done V) (is : IsDone app old done) where
  named : IsOfNode app old.nodes is.job
  named = All-middle (IsOfNode app old.nodes) is.performed.before is.job is.performed.after (subst (AllByRecursion (IsOfNode app old.nodes)) is.performed.there is.sound.outs_match.named)

  pub own_task : task_named old.nodes done.node ≡ done.task
  own_task =
      let node = named.0 in
      let has = found_is_there _ old.nodes node named.1 in
      let at : node_at old.nodes done.node ≡ Some node =
      subst (λ (id : NodeId). node_at old.nodes id ≡ Some node) (named.2.id ∙ is.performed.node) (found_by_id old.nodes node is.sound.keys_and_counts.graph.own_ids has) in
      ap (λ (found : Option Node). unwrap_or (option_map (λ (node : Node). node.task) found) no_task) at
      ∙ named.2.task ∙ is.performed.task

  -- what was done, with the task of its node
  abbrev pub with_own_task : Done V
  with_own_task = record { node = done.node; task = task_named old.nodes done.node; effect = done.effect }

  pub same_done : with_own_task ≡ done
  same_done = ap (λ (task : Task). let same : Done V = record { node = done.node; task = task; effect = done.effect } in same) own_task
