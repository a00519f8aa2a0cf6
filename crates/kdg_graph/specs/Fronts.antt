-- The nodes that another node may block alone, when it comes or goes.
use Rattle.std.specs.Prelude.{◌≡◌, ◌≢◌, ◌⊎◌, List, []}
use Rattle.std.specs.List.{flat_map}
use Rattle.rw_sets.specs.declared.access.Access.{Access}
use Rattle.rw_sets.specs.declared.access.Access.TheVariants.{Read, Write}
use Rattle.task_order.specs.declared.key.Key.{Key}
use Rattle.rw_sets.specs.Accesses.{Accesses}
use Rattle.kdg_graph.specs.Node.{Node}
use Rattle.kdg_graph.specs.Nodes.{earlier_than, later_than}
use Rattle.kdg_graph.specs.Locations.{front_after}

-- the fronts behind a key at each location of a set
abbrev pub fronts_after : Accesses → Key → List Node → List Node
fronts_after set key nodes = flat_map (λ p. front_after p.0 p.1 key nodes) set

-- of those that name a location and those that write it, the ones that clash with all that an access there may block: a write may block any, a read those that write
abbrev pub stoppers : Access → List Node → List Node → List Node
stoppers Read named writers = named
stoppers Write named writers = writers

-- with an access there, a node of this key blocks none of those behind it alone: none is there, or an earlier one blocks them
abbrev pub BlocksNoneAlone : Access → Key → List Node → List Node → Type 0
BlocksNoneAlone access key named writers = (later_than key named ≡ []) ⊎ (earlier_than key (stoppers access named writers) ≢ [])
