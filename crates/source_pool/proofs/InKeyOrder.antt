-- The first of the clear nodes is claimed, and the others are left, in key order.
use Rattle.std.proofs.Common.{◌≡◌, zero, not, Bool, true, false, cond, List, [], ◌∷◌, Some, length, refl, sym, ap, subst, ◌∙◌, eq-eqb}
use Rattle.std.specs.Prelude.{Contains, slice_get}
use Rattle.std.specs.List.{filter}
use Rattle.std.specs.declared.cmp.Ordering.TheVariants.{Less}
use Rattle.std.proofs.Math.Nat.{zero-mod}
use Rattle.std.proofs.lemmas.Bool.{eqb-true}
use Rattle.std.proofs.lemmas.Option.{same_Some}
use Rattle.plain_laws.specs.Members.{all_at, filter_of_all, from_filter, here, in_map, there}
use Rattle.task_order.specs.declared.task.Task.{Task}
use Rattle.task_order.specs.Key.{key_cmp}
use Rattle.task_order.specs.TaskList.{IsAscending}
use Rattle.kdg_graph.specs.Node.{Node}
use Rattle.kdg_graph.specs.Nodes.{is_at, node_at, tasks_of}
use Rattle.kdg_graph.specs.Rewrite.{without}
use Rattle.kdg_graph.specs.NodeLaws.{ascending_filtered}
use Rattle.app_laws.specs.Applications.{Application}
use Rattle.run_laws.specs.Events.{clear_nodes, is_clear}
use Rattle.run_laws.specs.Jobs.{Job}
use Rattle.run_laws.specs.Progress.{Progress}
use Rattle.source_pool.specs.Basis.{Basis}
use Rattle.source_pool.specs.Laws.{ClaimsGoInKeyOrder, ClearNodesHaveClearTasks}
use Rattle.source_pool.proofs.Acts.{they_are_the_clear}

module _ {V : Type 0} {app : Application V} (basis : Basis app) where
  -- no later node has the id
  others_have_other_ids : (now : Progress V) (node : Node) (nodes : List Node) → ((n : Node) → Contains (node ∷ nodes) n → node_at now.nodes n.id ≡ Some n) → IsAscending (tasks_of (node ∷ nodes))
      → (other : Node) → Contains nodes other → not (is_at node.id other) ≡ true
  others_have_other_ids now node nodes found up other has = by_case (is_at node.id other) refl
    where
      by_case : (test : Bool) → is_at node.id other ≡ test → not test ≡ true
      by_case false is = refl
      by_case true is =
          let at = eqb-true other.id.at node.id.at is in
          let same = same_Some other node (sym (found other (there node other nodes has)) ∙ ap (λ at. node_at now.nodes (record { at = at })) at ∙ found node (here node nodes)) in
          let later = all_at (λ (task : Task). key_cmp node.task.key task.key ≡ Less) (tasks_of nodes) other.task up.0 (in_map (λ (n : Node). n.task) nodes other has) in
          absurd (basis.irreflexive node.task.key other.task.key later (ap (λ (n : Node). n.task.key) (sym same)))

  -- the clear nodes without the first one
  others_are_left : (now : Progress V) (nodes : List Node) (node : Node) → ((n : Node) → Contains nodes n → node_at now.nodes n.id ≡ Some n) → IsAscending (tasks_of nodes)
      → slice_get nodes zero ≡ Some node → tasks_of nodes ≡ node.task ∷ tasks_of (without node.id nodes)
  others_are_left now [] node found up first = absurd (cc)
  others_are_left now (n ∷ nodes) node found up first =
      let is : n ≡ node = same_Some n node first in
      let gone : without n.id (n ∷ nodes) ≡ nodes =
      ap (λ test. cond (not test) (n ∷ without n.id nodes) (without n.id nodes)) (eq-eqb n.id.at n.id.at refl) ∙ filter_of_all (λ (m : Node). not (is_at n.id m)) nodes (others_have_other_ids now n nodes found up) in
      ap (λ (l : List Node). n.task ∷ tasks_of l) (sym gone) ∙ ap (λ (m : Node). m.task ∷ tasks_of (without m.id (n ∷ nodes))) is

  pub claims_go_in_key_order : ClaimsGoInKeyOrder app
  claims_go_in_key_order start now next cells state text jobs job drawing claimed =
      let sound = drawing.course.come.sound in
      let graph = sound.keys_and_counts.graph in
      let clear = clear_nodes app now.nodes in
      let first : slice_get clear zero ≡ Some claimed.node = ap (slice_get clear) (sym (zero-mod (length clear))) ∙ claimed.chosen in
      others_are_left now clear claimed.node (λ n has. basis.have_ids now.nodes n graph (from_filter (is_clear app now.nodes) now.nodes n has).0)
      (ascending_filtered (is_clear app now.nodes) now.nodes graph.ascending) first
      ∙ ap (λ (j : Job V). j.task ∷ tasks_of (without claimed.node.id clear)) (sym claimed.job_is)
      ∙ ap (λ (l : List Node). job.task ∷ tasks_of l) (sym (basis.take_one now next 0 job claimed))

  pub clear_nodes_have_clear_tasks : ClearNodesHaveClearTasks app
  clear_nodes_have_clear_tasks start now cells state text rest =
      let are = they_are_the_clear basis start now cells state text rest in
      (are, subst IsAscending are (ascending_filtered (is_clear app now.nodes) now.nodes rest.course.come.sound.keys_and_counts.graph.ascending))
