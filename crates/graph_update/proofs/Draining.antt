-- What a drain takes, by the least node.
use Rattle.std.proofs.Common.{◌≡◌, ◌==◌, cond, List, [], ◌∷◌, Some, refl, sym, ap, subst, ◌∙◌, eq-eqb}
use Rattle.std.specs.Prelude.{Result, Ok, Err, OnOk, OnErr}
use Rattle.std.specs.Option.{option_map}
use Rattle.std.proofs.lemmas.Option.{none-some, same_Some}
use Rattle.task_order.specs.declared.task.Task.{Task}
use Rattle.task_order.specs.Key.{at_key}
use Rattle.output_log.specs.Entries.{Entry, entries_from}
use Rattle.kdg_graph.specs.declared.node_id.NodeId.{NodeId}
use Rattle.kdg_graph.specs.Node.{Node}
use Rattle.kdg_graph.specs.Nodes.{least_of, node_at, task_at}
use Rattle.app_laws.specs.Applications.{Application}
use Rattle.graph_update.specs.Engine.{IsKept}
use Rattle.run_laws.specs.Events.{undrainable}
use Rattle.run_laws.specs.Laws.{MarksAndDrainsKeepSound}
use Rattle.run_laws.specs.Progress.{Progress}

module _ {V : Type 0} (app : Application V) where
  -- the entries that stay are those that are not earlier than the least node's task
  pub left_by_least : (nodes : List Node) (id : NodeId) (task : Task) (log : List Entry) → Some id ≡ least_of nodes → task_at nodes id ≡ Some task
      → entries_from (at_key task.key) log ≡ undrainable app nodes log
  left_by_least [] id task log least found = absurd (none-some id (sym least))
  left_by_least (node ∷ nodes) id task log least found =
      let own : Some node ≡ node_at (node ∷ nodes) id =
      ap (λ test. cond test (Some node) (node_at nodes id)) (sym (ap (λ (i : NodeId). node.id.at == i.at) (same_Some id node.id least) ∙ eq-eqb node.id.at node.id.at refl)) in
      let same : node.task ≡ task = same_Some node.task task (ap (option_map (λ (n : Node). n.task)) own ∙ found) in
      ap (λ (t : Task). entries_from (at_key t.key) log) (sym same)

  -- whatever the log is after a drain, which takes what it may or nothing, the execution is kept
  pub kept_by_drain : {E T : Type 0} (result : Result T E) (old : Progress V) (entries rest : List Entry) → MarksAndDrainsKeepSound app → IsKept app old
      → rest ≡ undrainable app old.nodes old.log → OnOk result (entries ≡ rest) → OnErr result (entries ≡ old.log) → IsKept app (record old { log = entries })
  kept_by_drain (Ok text) old entries rest laws kept stays drained unchanged =
      subst (λ log. IsKept app (record old { log = log })) (sym (drained ∙ stays))
      (record { jobs = kept.jobs; values = kept.values; sound = laws.drained_one old kept.jobs kept.values kept.sound; limited = kept.limited })
  kept_by_drain (Err fault) old entries rest laws kept stays drained unchanged = subst (λ log. IsKept app (record old { log = log })) (sym unchanged) kept
