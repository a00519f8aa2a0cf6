-- Among which of the clear nodes one is picked.
use Rattle.std.specs.Prelude.{◌≡◌, ◌≢◌, ◌⊎◌, ℕ, true, false, [], Some, slice_get}
use Rattle.std.specs.List.{remove}
use Rattle.kdg_graph.specs.declared.node_id.NodeId.{NodeId}
use Rattle.graph_update.specs.declared.ready.Among.{Among}
use Rattle.graph_update.specs.declared.ready.Among.TheVariants as among
use Rattle.graph_update.specs.declared.ready.Ready.{Ready}

-- one may be picked of these: no task has ended since the last look, or, where it is among those that are known, some are
abbrev pub AreEnough : Among → Ready → Type 0
AreEnough among.All ready = ready.is_current ≡ true
AreEnough among.Known ready = (ready.is_current ≡ true) ⊎ (ready.ids.items ≢ [])

-- among all clear nodes it is the pick that counts
abbrev pub MayPick : Among → ℕ → ℕ → Type 0
MayPick among.All pick other = other ≡ pick
MayPick among.Known pick other = Unit {0}

-- what is known once the node of an id was claimed: where that was the first one that was known, the others are known still
abbrev pub IsLeftBy : NodeId → Ready → Ready → Type 0
IsLeftBy id ready left = ((slice_get ready.ids.items 0 ≡ Some id) × (left.ids.items ≡ remove ready.ids.items 0) × (left.is_current ≡ ready.is_current)) ⊎ ((left.ids.items ≡ []) × (left.is_current ≡ false))
