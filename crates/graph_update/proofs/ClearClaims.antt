-- A claim takes a clear node.
use Rattle.std.proofs.Common.{◌≡◌, ◌≢◌, ℕ, ◌+◌, cond, ◌||◌, Bool, true, false, List, [], ◌∷◌, Some, length, refl, sym, ap, subst, ◌∙◌}
use Rattle.std.specs.Prelude.{◌↔◌, Contains, IsSome, IsTrue}
use lib.ListN.{length-map}
use Rattle.std.specs.List.{list_any}
use Rattle.std.specs.Option.{option_map}
use Rattle.std.proofs.lemmas.Bool.{true≢false}
use Rattle.plain_laws.specs.Members.{all_from, found_is_there, from_filter, here, none_passes, some_passes}
use Rattle.plain_laws.specs.Options.{some_injective}
use Rattle.task_order.specs.declared.task.Task.{Task}
use Rattle.rw_sets.specs.Accesses.{Accesses}
use Rattle.cell_store.specs.declared.cell.Cell.{Cell}
use Rattle.cell_store.specs.Cells.{AreHome, cells_taken, part_of}
use Rattle.cell_store.specs.Part.{Part}
use Rattle.kdg_graph.specs.declared.node_id.NodeId.{NodeId}
use Rattle.kdg_graph.specs.Node.{Node}
use Rattle.kdg_graph.specs.Nodes.{HasNode, is_at, node_at, set_at, started, task_at}
use Rattle.kdg_graph.specs.Rewrite.{without}
use Rattle.app_laws.specs.Applications.{Application}
use Rattle.graph_update.specs.Basis.{Basis}
use Rattle.run_laws.specs.Jobs.{Job}
use Rattle.graph_update.specs.Engine.{IsKept, SomeRuns}
use Rattle.crew.specs.Jobs.{MayRun}
use Rattle.run_laws.specs.Events.{IsClaimed, clear_nodes, is_clear}
use Rattle.run_laws.specs.Progress.{Progress}
use Rattle.run_laws.specs.Sound.{IsSound}
use Rattle.graph_update.proofs.Picked.{IsPicked}

-- a graph that isn't told to be empty has nodes
pub some_nodes : (nodes : List Node) (empty : Bool) → (IsTrue empty ↔ (nodes ≡ [])) → empty ≡ false → nodes ≢ []
some_nodes nodes empty tells is none = true≢false (sym (tells.1 none) ∙ is)

module _ {V : Type 0} {app : Application V} (basis : Basis app) where
  module _ (old : Progress V) (jobs : List (Job V)) (values : List V) (sound : IsSound app old jobs values) (pick : ℕ) (id : NodeId) (picked : IsPicked app old.nodes pick id) where
    there : Contains old.nodes picked.node × (is_clear app old.nodes picked.node ≡ true)
    there = from_filter (is_clear app old.nodes) old.nodes picked.node (found_is_there (clear_nodes app old.nodes) _ picked.node picked.chosen)

    at : node_at old.nodes id ≡ Some picked.node
    at = ap (node_at old.nodes) (sym picked.id_is) ∙ basis.lower.have_ids old.nodes picked.node sound.keys_and_counts.graph there.0

    pub has_node : HasNode old.nodes id
    has_node = subst IsSome (sym at) refl

    pub picked_task : (task : Task) → task_at old.nodes id ≡ Some task → picked.node.task ≡ task
    picked_task task found = some_injective picked.node.task task (sym (ap (option_map (λ (n : Node). n.task)) at) ∙ found)

    pub picked_set : (set : Accesses) → set_at old.nodes id ≡ Some set → picked.node.set ≡ set
    picked_set set found = some_injective picked.node.set set (sym (ap (option_map (λ (n : Node). n.set)) at) ∙ found)

    pub picked_home : (set : Accesses) → set_at old.nodes id ≡ Some set → AreHome old.cells set
    picked_home set found = subst (AreHome old.cells) (picked_set set found) (basis.clear_home old jobs values picked.node sound there.0 there.1)

  module _ (old : Progress V) (kept : IsKept app old) (pick : ℕ) (id : NodeId) (picked : IsPicked app old.nodes pick id)
      (found copy : Task) (set : Accesses) (bundle : Part V) (cells : List (Cell V)) (nodes : List Node)
      (task_is : task_at old.nodes id ≡ Some found) (copied : copy ≡ found) (set_is : set_at old.nodes id ≡ Some set) (bundle_is : bundle ≡ part_of old.cells set)
      (cells_are : cells ≡ cells_taken old.cells set) (nodes_are : nodes ≡ started id old.nodes) where
    abbrev now : Progress V
    now = record old { nodes = nodes; cells = cells; created = old.ended + length nodes }

    abbrev job : Job V
    job = record { node = id; task = copy; bundle = bundle }

    same_task : copy ≡ picked.node.task
    same_task = copied ∙ sym (picked_task old kept.jobs kept.values kept.sound pick id picked found task_is)

    same_set : set ≡ picked.node.set
    same_set = sym (picked_set old kept.jobs kept.values kept.sound pick id picked set set_is)

    same_count : old.ended + length nodes ≡ old.created
    same_count = ap (λ count. old.ended + count) (ap length nodes_are ∙ length-map old.nodes (λ node. cond (is_at id node) (record node { running = true }) node)) ∙ sym kept.sound.keys_and_counts.created

    -- the claim of the picked node
    pub claimed : IsClaimed app old pick now job
    claimed = record {
      node = picked.node;
      chosen = picked.chosen;
      job_is = λ i. record { node = (sym picked.id_is) i; task = same_task i; bundle = (bundle_is ∙ ap (part_of old.cells) same_set) i };
      after = λ i. record old { nodes = (nodes_are ∙ ap (λ one. started one old.nodes) (sym picked.id_is)) i; cells = (cells_are ∙ ap (cells_taken old.cells) same_set) i; created = same_count i };
    }

    pub sound_after : (jobs : List (Job V)) (values : List V) → IsSound app old jobs values → IsSound app now (job ∷ jobs) values
    sound_after jobs values sound = basis.claims old now pick job jobs values sound claimed

    pub kept_after : IsKept app now
    kept_after = record { jobs = job ∷ kept.jobs; values = kept.values; sound = sound_after kept.jobs kept.values kept.sound; limited = kept.limited }

    -- the clear nodes after it
    pub clear_after : clear_nodes app nodes ≡ without id (clear_nodes app old.nodes)
    unfolding claimed
    clear_after = basis.one_clear old now pick job claimed ∙ ap (λ one. without one (clear_nodes app old.nodes)) picked.id_is

    pub may_run : MayRun app job
    may_run = basis.jobs_run now (job ∷ kept.jobs) kept.values job (sound_after kept.jobs kept.values kept.sound) (here job kept.jobs)

  -- where no node is clear, although nodes are there, some node is running
  pub some_runs : (progress : Progress V) (jobs : List (Job V)) (values : List V) → IsSound app progress jobs values → progress.nodes ≢ [] → clear_nodes app progress.nodes ≡ [] → SomeRuns progress.nodes
  some_runs progress jobs values sound some none_clear = by_search (list_any (λ (n : Node). n.running) progress.nodes) refl
    where
      by_search : (found : Bool) → list_any (λ (n : Node). n.running) progress.nodes ≡ found → SomeRuns progress.nodes
      by_search true is =
          let found = some_passes (λ (n : Node). n.running) progress.nodes is in
          record { node = found.0; there = found.1; running = found.2 }
      by_search false is =
          let none = all_from (λ (n : Node). n.running ≡ false) progress.nodes (λ node there. none_passes (λ (n : Node). n.running) progress.nodes node is there) in
          let idle = (basis.no_jobs progress jobs values sound).1 none in
          absurd (basis.some_clear progress values (subst (λ left. IsSound app progress left values) idle sound) some none_clear)
