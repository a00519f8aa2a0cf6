-- A place is free where its node is a source.
use Rattle.std.proofs.Common.{◌≡◌, inl, inr, ℕ, zero, suc, false, List, [], ◌∷◌, map, Some, sym, subst, ◌∙◌}
use Rattle.std.specs.Prelude.{Contains, slice_get}
use Rattle.std.specs.List.{AllByRecursion}
use Rattle.std.specs.declared.cmp.Ordering.TheVariants.{Less, Equal, Greater}
use Rattle.plain_laws.specs.Members.{all_at, cases, found_is_there, here, there}
use Rattle.task_order.specs.declared.task.Task.{Task}
use Rattle.task_order.specs.Key.{key_cmp}
use Rattle.task_order.specs.Laws.{EarlierIsTurned, EqualIsReflexive}
use Rattle.task_order.specs.TaskList.{IsAscending}
use Rattle.rw_sets.specs.Accesses.{Accesses, Conflicts, IsAscending as IsSet}
use Rattle.kdg_graph.specs.Laws.{NodesHaveIds, SourcesAreUnblocked}
use Rattle.kdg_graph.specs.Node.{Node}
use Rattle.kdg_graph.specs.Nodes.{HaveSets, tasks_of}
use Rattle.mark_board.specs.Ranks.{FreeRanksAreUnbarred, IsUnbarred}
use Rattle.mark_rounds.specs.Sources.{FreeNodesAreSources}

later_nodes : (P : Task → Type 0) (nodes : List Node) → AllByRecursion P (tasks_of nodes) → AllByRecursion (λ node. P node.task) nodes
later_nodes P [] all = tt
later_nodes P (node ∷ nodes) all = (all.0, later_nodes P nodes all.1)

its_sets : (nodes : List Node) → HaveSets nodes → AllByRecursion IsSet (map (λ (node : Node). node.set) nodes)
its_sets [] all = tt
its_sets (node ∷ nodes) all = (all.0, its_sets nodes all.1)

abbrev sets_of : List Node → List Accesses
sets_of nodes = map (λ (node : Node). node.set) nodes

-- no earlier node conflicts with the node
abbrev IsApart : List Node → Node → Type 0
IsApart nodes node = (other : Node) → Contains nodes other → key_cmp other.task.key node.task.key ≡ Less → Conflicts other.set node.set → ⊥

module _ (turned : EarlierIsTurned) (equal : EqualIsReflexive) where
  apart_from : (nodes : List Node) (rank : ℕ) (node : Node) → IsAscending (tasks_of nodes) → slice_get nodes rank ≡ Some node → IsUnbarred (sets_of nodes) rank node.set → IsApart nodes node
  apart_from [] rank node ascending at none other has less conflict = absurd cc
  apart_from (first ∷ nodes) zero node ascending at none other has less conflict =
      let same : first ≡ node = cc in
      let later = later_nodes (λ (task : Task). key_cmp first.task.key task.key ≡ Less) nodes ascending.0 in
      elim (cases first other nodes has) [
        | inl is ↦
            let itself : key_cmp node.task.key node.task.key ≡ Less = subst (λ (n : Node). key_cmp n.task.key node.task.key ≡ Less) (sym is ∙ same) less in
            differ (sym (equal node.task.key) ∙ itself)
        | inr behind ↦
            let after : key_cmp node.task.key other.task.key ≡ Less = subst (λ (n : Node). key_cmp n.task.key other.task.key ≡ Less) same (all_at (λ (n : Node). key_cmp first.task.key n.task.key ≡ Less) nodes other later behind) in
            turn (sym ((turned other.task.key node.task.key).0 less) ∙ after)
      ]
    where
      differ : Equal ≡ Less → ⊥
      differ wrong = cc

      turn : Greater ≡ Less → ⊥
      turn wrong = cc
  apart_from (first ∷ nodes) (suc rank) node ascending at none other has less conflict =
      elim (cases first other nodes has) [
        | inl is ↦ none.0 (subst (λ (n : Node). Conflicts n.set node.set) (sym is) conflict)
        | inr behind ↦ apart_from nodes rank node ascending.1 at none.1 other behind less conflict
      ]

  unbarred_from : (nodes : List Node) (rank : ℕ) (node : Node) → IsAscending (tasks_of nodes) → slice_get nodes rank ≡ Some node → IsApart nodes node → IsUnbarred (sets_of nodes) rank node.set
  unbarred_from [] rank node ascending at apart = absurd cc
  unbarred_from (first ∷ nodes) zero node ascending at apart = tt
  unbarred_from (first ∷ nodes) (suc rank) node ascending at apart =
      let later = later_nodes (λ (task : Task). key_cmp first.task.key task.key ≡ Less) nodes ascending.0 in (
        apart first (here first nodes) (all_at (λ (n : Node). key_cmp first.task.key n.task.key ≡ Less) nodes node later (found_is_there nodes rank node at)),
        unbarred_from nodes rank node ascending.1 at (λ other has. apart other (there first other nodes has)),
      )

pub free_nodes_are_sources : EarlierIsTurned → EqualIsReflexive → NodesHaveIds → SourcesAreUnblocked → FreeRanksAreUnbarred → FreeNodesAreSources
free_nodes_are_sources turned equal ids sources free nodes marks rank node graph idle marked at =
    let has = found_is_there nodes rank node at in
    let law = free (sets_of nodes) marks rank node.set (its_sets nodes graph.sets) marked in
    let source = sources nodes node.id node graph (ids nodes node graph has) in (
      (λ unmarked. source.1 (all_at (λ (n : Node). n.running ≡ false) nodes node idle has, apart_from turned equal nodes rank node graph.ascending at (law.0 unmarked))),
      (λ among. law.1 (unbarred_from turned equal nodes rank node graph.ascending at (source.0 among).1)),
    )
