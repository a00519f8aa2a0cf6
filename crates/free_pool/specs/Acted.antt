-- What comes of tasks that act within a turn.
use Rattle.std.specs.Prelude.{◌≡◌, ◌≢◌, List, [], ◌∷◌, ◌++◌, map, Option, Some, None}
use Rattle.std.specs.Option.{option_map, option_to_list}
use Rattle.std.specs.declared.snapshot.Snapshot.{Snapshot}
use Rattle.task_order.specs.declared.key.Key.{Key}
use Rattle.kdg_graph.specs.declared.node_id.NodeId.{NodeId}
use Rattle.kdg_graph.specs.Nodes.{node_at}
use Rattle.cell_store.specs.Cells.{part_of}
use Rattle.app_laws.specs.Applications.{Application}
use Rattle.run_laws.specs.Jobs.{Job}
use Rattle.run_laws.specs.Moves.{Moved}
use Rattle.run_laws.specs.Progress.{Progress}
use Rattle.graph_update.specs.Engine.{EngineState}
use Rattle.free_pool.specs.Turns.{AreToPerform, IsAnswer}
use Rattle.free_pool.specs.declared.acting.Act.{Act}
use Rattle.free_pool.specs.declared.acting.Act.TheVariants as act
use Rattle.free_pool.specs.declared.acting.Stuck.{Stuck}

-- the keys of the tasks that acted
abbrev pub keys_acted : List (Snapshot Key) → List Key
keys_acted acted = map (λ key. key.value) acted

-- the job that a claim of a node gives, where the node is there
abbrev pub job_of : {V : Type 0} → Progress V → NodeId → Option (Job V)
job_of progress id = option_map (λ node. record { node = node.id; task = node.task; bundle = part_of progress.cells node.set }) (node_at progress.nodes id)

-- the job of the task that was claimed and didn't end
abbrev pub jobs_stuck : {A V : Type 0} → Option (Stuck (EngineState A V)) → List (Job V)
jobs_stuck None = []
jobs_stuck (Some stuck) = option_to_list (job_of stuck.before.value.progress stuck.node)

module _ {A V : Type 0} (app : Application V) where
  -- Whatever the jobs in hand are, the key of one task ended more; or none did, for what comes next; or a task was claimed besides, and a
  -- mark stands.
  abbrev pub IsAct : Progress V → List (Snapshot Key) → Act (EngineState A V) → Progress V → List (Snapshot Key) → Type 0
  IsAct old acted act.Ended now acted_now = (key : Snapshot Key) × (acted_now ≡ acted ++ key ∷ []) × ((had : List (Job V)) → Moved app old had now had (key.value ∷ []))
  IsAct old acted (act.None next) now acted_now = (acted_now ≡ acted) × ((had : List (Job V)) → Moved app old had now had []) × AreToPerform {V = V} [] next × IsAnswer app now next
  IsAct old acted (act.Stuck stuck) now acted_now = (acted_now ≡ acted) × ((had : List (Job V)) → Moved app old had now (jobs_stuck (Some stuck) ++ had) []) × (now.over ≢ None)
