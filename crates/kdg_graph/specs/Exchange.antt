-- The exchange of a node's recorded set for another.
use Rattle.std.specs.Prelude.{◌≡◌, ℕ, Bool, true, false, not, if◌then◌else◌, List, Option, Some, None}
use Rattle.std.specs.List.{filter}
use Rattle.rw_sets.specs.declared.access.Access.{Access}
use Rattle.rw_sets.specs.declared.access.Access.TheVariants.{Read, Write}
use Rattle.rw_sets.specs.Accesses.{Accesses, access_at, clash}
use Rattle.kdg_graph.specs.Locations.{Location, clashing_at, lane_of, put_if}
use Rattle.kdg_graph.specs.Node.{Node}
use Rattle.kdg_graph.specs.Nodes.{ids_of}

-- whether two sets have the same access to a location, or both none
abbrev pub is_same : Option Access → Option Access → Bool
is_same None None = true
is_same None (Some y) = false
is_same (Some x) None = false
is_same (Some Read) (Some Read) = true
is_same (Some Read) (Some Write) = false
is_same (Some Write) (Some Read) = false
is_same (Some Write) (Some Write) = true

-- the pairs of the first set that the second lacks
abbrev pub lacking : Accesses → Accesses → Accesses
lacking set other = filter (λ p. not (is_same (Some p.1) (access_at other p.0))) set

-- the access to a location midway: where both sets have the same that one, elsewhere that of a part of either
abbrev pub midway : Accesses → Accesses → Accesses → ℕ → Option Access
midway before now part loc = if is_same (access_at before loc) (access_at now loc) then access_at before loc else access_at part loc

-- the nodes that clash with each access to each location are kept, in key order, where one of them has these accesses
abbrev pub AreFiledWith : List Node → Node → (ℕ → Option Access) → List Location → Type 0
AreFiledWith others node accesses locations = (loc : ℕ) (access : Access) → lane_of locations loc access ≡ ids_of (put_if (clash (Some access) (accesses loc)) node (clashing_at loc access others))
