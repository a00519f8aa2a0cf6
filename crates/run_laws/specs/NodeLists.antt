-- Lemmas on nodes and their tasks, for the proofs of this crate and of those above it.
use Rattle.std.proofs.Common.{◌≡◌, true, false, cond, List, [], ◌∷◌, refl, ap}
use Rattle.std.specs.Prelude.{Contains}
use Rattle.std.specs.List.{AllByRecursion}
use Rattle.std.specs.Ordering.{is_lt}
use Rattle.plain_laws.specs.Members.{all_from}
use Rattle.task_order.specs.declared.key.Key.{Key}
use Rattle.task_order.specs.declared.task.Task.{Task}
use Rattle.task_order.specs.Key.{key_cmp}
use Rattle.rw_sets.specs.Accesses.{Accesses, Conflicts, IsWithin}
use Rattle.kdg_graph.specs.Node.{Node}
use Rattle.kdg_graph.specs.Nodes.{earlier_than, tasks_of}
use Rattle.app_laws.specs.Applications.{tasks_before}
use Rattle.run_laws.specs.Basis.{LowerLaws}

-- the earlier tasks are those of the earlier nodes
pub tasks-earlier_than : (key : Key) (nodes : List Node) → tasks_of (earlier_than key nodes) ≡ tasks_before key (tasks_of nodes)
tasks-earlier_than key [] = refl
tasks-earlier_than key (node ∷ nodes) =
    let rest = tasks-earlier_than key nodes in
    elim (is_lt (key_cmp node.task.key key)) as (λ earlier. tasks_of (cond earlier (node ∷ earlier_than key nodes) (earlier_than key nodes)) ≡ cond earlier (node.task ∷ tasks_before key (tasks_of nodes)) (tasks_before key (tasks_of nodes))) [
      | true ↦ ap (λ tasks. node.task ∷ tasks) rest
      | false ↦ rest
    ]

pub all-tasks : (P : Task → Type 0) (nodes : List Node) → ((node : Node) → Contains nodes node → P node.task) → AllByRecursion P (tasks_of nodes)
all-tasks P nodes each = go nodes (all_from (λ (node : Node). P node.task) nodes each)
  where
    go : (nodes : List Node) → AllByRecursion (λ (node : Node). P node.task) nodes → AllByRecursion P (tasks_of nodes)
    go [] all = tt
    go (node ∷ nodes) all = (all.0, go nodes all.1)

-- what conflicts by some sets conflicts by wider ones
pub wider_conflict : LowerLaws → (set other wide wide_other : Accesses) → IsWithin set wide → IsWithin other wide_other → Conflicts other set → Conflicts wide_other wide
wider_conflict lower set other wide wide_other within others_within conflict =
    lower.turned wide wide_other (lower.grows set wide wide_other within (lower.turned wide_other set (lower.grows other wide_other set others_within conflict)))
