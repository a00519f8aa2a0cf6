-- The nodes of each location, and which of them stand in the way of which.
use Rattle.std.specs.Prelude.{◌≡◌, ◌==◌, ℕ, zero, suc, ◌+◌, ◌-◌, ◌≤◌, Bool, false, min, if◌then◌else◌, List, [], ◌∷◌, length, map, Some, is_some, Contains}
use Rattle.std.specs.List.{AllByRecursion, filter}
use Rattle.std.specs.Ordering.{is_lt}
use Rattle.rw_sets.specs.declared.access.Access.{Access}
use Rattle.rw_sets.specs.declared.access.Access.TheVariants.{Read, Write}
use Rattle.rw_sets.specs.Accesses.{Accesses, access_at, clash, writes}
use Rattle.task_order.specs.declared.key.Key.{Key}
use Rattle.task_order.specs.Key.{key_cmp}
use Rattle.task_order.specs.TaskList.{IsAscending}
use Rattle.kdg_graph.specs.declared.lane.Lane.{Lane}
use Rattle.kdg_graph.specs.declared.node_id.NodeId.{NodeId}
use Rattle.kdg_graph.specs.Node.{Node}
use Rattle.kdg_graph.specs.Nodes.{ids_of, later_than, put_node, tasks_of}
use Rattle.kdg_graph.specs.Rewrite.{without}

-- ---- the nodes of a location

-- whether an access to the location clashes with the node's: a write with any, a read with a write
abbrev pub clashes_at : ℕ → Access → Node → Bool
clashes_at loc access node = clash (Some access) (access_at node.set loc)

-- the nodes that it clashes with: for a write all that name the location, for a read those that write it
abbrev pub clashing_at : ℕ → Access → List Node → List Node
clashing_at loc access nodes = filter (clashes_at loc access) nodes

-- whether the first of the nodes is earlier than the key
abbrev pub is_first_before : Key → List Node → Bool
is_first_before key [] = false
is_first_before key (first ∷ nodes) = is_lt (key_cmp first.task.key key)

-- whether some earlier node stands in the way of the node at the location: the first that its access there clashes with does, if any
abbrev pub is_blocked_at : List Node → Node → ℕ × Access → Bool
is_blocked_at nodes node p = is_first_before node.task.key (clashing_at p.0 p.1 nodes)

-- the nodes up to the first that writes the location, and this one
abbrev pub up_to_writer : ℕ → List Node → List Node
up_to_writer loc [] = []
up_to_writer loc (node ∷ nodes) = node ∷ (if writes node.set loc then [] else up_to_writer loc nodes)

-- of the nodes later than the key that clash with the access to the location, those that it may block alone: a writer blocks all behind it
abbrev pub front_after : ℕ → Access → Key → List Node → List Node
front_after loc access key nodes = up_to_writer loc (clashing_at loc access (later_than key nodes))

-- ---- some nodes of a graph by their ids

-- the ids are those of some of the nodes, in key order
pub record IsLaneAmong (nodes some : List Node) (ids : List NodeId) : Type 0 where
  pub ids_are : ids ≡ ids_of some
  pub there : AllByRecursion (λ node. Contains nodes node) some
  pub ascending : IsAscending (tasks_of some)

-- the nodes with one more, or with one less, where the test says so
abbrev pub put_if : Bool → Node → List Node → List Node
put_if test node nodes = if test then put_node node nodes else nodes

abbrev pub without_if : Bool → NodeId → List Node → List Node
without_if test id nodes = if test then without id nodes else nodes

-- ---- locations by their numbers

-- the ids that are kept at a location, of the nodes that name it and of those that write it, for how many more there is room, and for how many of them one reservation made it, which has a number
pub record Location : Type 0 where
  pub named : List NodeId
  pub writers : List NodeId
  pub room : ℕ
  pub reservation : ℕ
  pub reserved : ℕ

-- the ids of those that write it, which stand in a list of their own where some don't
abbrev pub writers_in : Bool → List NodeId → List NodeId → List NodeId
writers_in apart named writers = if apart then writers else named

-- the ids that are kept for an access to the location
abbrev pub ids_for : Access → Location → List NodeId
ids_for Read location = location.writers
ids_for Write location = location.named

-- the ids that are kept for an access to the location of a number: none beyond the list
abbrev pub lane_of : List Location → ℕ → Access → List NodeId
lane_of [] loc access = []
lane_of (location ∷ locations) zero access = ids_for access location
lane_of (location ∷ locations) (suc loc) access = lane_of locations loc access

-- the nodes that clash with each access to each location are kept, in key order
abbrev pub AreFiled : List Node → List Location → Type 0
AreFiled nodes locations = (loc : ℕ) (access : Access) → lane_of locations loc access ≡ ids_of (clashing_at loc access nodes)

-- the same ids are kept
abbrev pub HaveSameLanes : List Location → List Location → Type 0
HaveSameLanes before after = (loc : ℕ) (access : Access) → lane_of after loc access ≡ lane_of before loc access

-- ---- room

-- for how many more nodes there is room at a location
abbrev pub room_in : Location → ℕ
room_in location = location.room

-- the room that two lists have, of all ids and of some of them
abbrev pub room_for_both : ℕ → List NodeId → ℕ → List NodeId → ℕ
room_for_both capacity ids other_capacity some = min (capacity - length ids) (other_capacity - length some)

-- the list of those that write is empty until it is used; that of all has room for at least `spare` more ids, and the other one for at least `spare_writers` more behind all that write
pub record AreLists (named writers : Lane) (apart : Bool) (spare spare_writers : ℕ) : Type 0 where
  pub unused : apart ≡ false → writers.ids.items ≡ []
  pub room : length named.ids.items + spare ≤ named.ids.capacity
  pub room_behind_writers : length (writers_in apart named.ids.items writers.ids.items) + spare_writers ≤ writers.ids.capacity

abbrev pub rooms_of : List Location → List ℕ
rooms_of locations = map room_in locations

abbrev pub room_at : List ℕ → ℕ → ℕ
room_at [] loc = zero
room_at (room ∷ rooms) zero = room
room_at (room ∷ rooms) (suc loc) = room_at rooms loc

-- for how many nodes the reservation with a number made room at a location
abbrev pub reserved_in : ℕ → Location → ℕ
reserved_in number location = if location.reservation == number then min location.reserved location.room else 0

abbrev pub reserved_of : ℕ → List Location → List ℕ
reserved_of number locations = map (reserved_in number) locations

-- how many of the sets name a location
abbrev pub times_named : List Accesses → ℕ → ℕ
times_named [] loc = 0
times_named (set ∷ sets) loc = (if is_some (access_at set loc) then 1 else 0) + times_named sets loc

-- at each location there is room for as many more as sets name it
abbrev pub HasRoomFor : List Accesses → List ℕ → Type 0
HasRoomFor sets rooms = (loc : ℕ) → times_named sets loc ≤ room_at rooms loc

-- at each location there is room for as many more than before as sets name it
abbrev pub HasMoreFor : List Accesses → List ℕ → List ℕ → Type 0
HasMoreFor sets before after = (loc : ℕ) → room_at before loc + times_named sets loc ≤ room_at after loc

-- of the room at a location no more is taken than sets name it
abbrev pub HasTakenFor : List Accesses → List ℕ → List ℕ → Type 0
HasTakenFor sets before after = (loc : ℕ) → room_at before loc ≤ room_at after loc + times_named sets loc

-- no location has less room
abbrev pub HaveNoLess : List ℕ → List ℕ → Type 0
HaveNoLess before after = (loc : ℕ) → room_at before loc ≤ room_at after loc
