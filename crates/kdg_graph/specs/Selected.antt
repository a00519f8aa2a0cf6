-- Ids of those nodes of a graph that pass a test.
use Rattle.std.specs.Prelude.{◌≡◌, ℕ, ◌+◌, ◌<◌, ◌≤◌, Bool, true, false, not, ◌&&◌, ◌==◌, if◌then◌else◌, List, [], ◌∷◌, ◌++◌, drop, get_or, length, map, slice_get, Contains, Option, None, Some, IfSome, MatchOption, unwrap_or}
use Rattle.std.specs.List.{AllByRecursion, filter, list_any}
use Rattle.std.specs.List.Sorted.{IsSortedBy}
use Rattle.std.specs.Option.{option_cmp, option_map}
use Rattle.std.specs.Ordering.{is_lt, nat_cmp, ordering_then}
use Rattle.std.specs.declared.cmp.Ordering.{Ordering}
use Rattle.task_order.specs.declared.key.Key.{Key}
use Rattle.task_order.specs.Key.{key_cmp}
use Rattle.task_order.specs.PathCode.{CanCode, path_beginning}
use Rattle.kdg_graph.specs.declared.arrival.Arrival.{Arrival}
use Rattle.kdg_graph.specs.declared.source_lane.Standing.{Standing}
use Rattle.kdg_graph.specs.declared.source_lane.Standing.TheVariants.{Absent, Settled, Recent}
use Rattle.kdg_graph.specs.declared.node_id.NodeId.{NodeId}
use Rattle.kdg_graph.specs.Node.{Node}
use Rattle.kdg_graph.specs.Nodes.{HasNode, IsGraph, ids_of, is_at, node_at, running_at}
use Rattle.kdg_graph.specs.Edges.{is_blocked}

-- ---- the unblocked nodes

-- no earlier node's recorded set conflicts with the node's, which may be running
abbrev pub is_unblocked : List Node → Node → Bool
is_unblocked nodes node = not (is_blocked nodes node)

-- the unblocked nodes, in key order
abbrev pub unblocked_of : List Node → List NodeId
unblocked_of nodes = ids_of (filter (is_unblocked nodes) nodes)

-- whether the node with the id is running
abbrev pub runs : List Node → NodeId → Bool
runs nodes id = unwrap_or (running_at nodes id) false

-- those of the ids whose nodes are not running
abbrev pub not_running : List Node → List NodeId → List NodeId
not_running nodes ids = filter (λ id. not (runs nodes id)) ids

-- ---- lists of some of the nodes

-- the ids are those of the nodes that pass the test, in key order
abbrev pub AreSelected : List Node → (Node → Bool) → List NodeId → Type 0
AreSelected nodes test ids = ids ≡ ids_of (filter test nodes)

-- whether one of the ids is that of the node
abbrev pub is_among : List NodeId → Node → Bool
is_among ids node = list_any (λ id. is_at id node) ids

-- whether an id with this number is there
abbrev pub has_number : ℕ → List NodeId → Bool
has_number at ids = list_any (λ id. at == id.at) ids

-- the ids are those of some of the nodes, in key order
abbrev pub IsInOrder : List Node → List NodeId → Type 0
IsInOrder nodes ids = ids ≡ ids_of (filter (is_among ids) nodes)

-- ---- ids in key order, and those that came since

-- the id of a node, with its priority and the beginning of its path
pub record IsArrival (nodes : List Node) (arrival : Arrival) : Type 0 where
  pub node : Node
  pub there : Contains nodes node
  pub id_is : node.id ≡ arrival.id
  pub prio_is : arrival.prio ≡ node.task.key.prio
  pub beginning_is : arrival.beginning ≡ path_beginning node.task.key.path
  pub fits : CanCode 0 node.task.key.path

-- it is that of its id's node, if there is one
abbrev pub TellsItsKey : List Node → Arrival → Type 0
TellsItsKey nodes arrival = HasNode nodes arrival.id → IsArrival nodes arrival

-- the key of the node with the id, if there is one
abbrev pub key_at : List Node → NodeId → Option Key
key_at nodes id = option_map (λ node. node.task.key) (node_at nodes id)

-- how two compare: as their nodes' keys do, where each is that of a node
abbrev pub arrival_cmp : List Node → Arrival → Arrival → Ordering
arrival_cmp nodes a b = ordering_then (nat_cmp a.prio b.prio) (ordering_then (nat_cmp a.beginning b.beginning) (option_cmp key_cmp (key_at nodes a.id) (key_at nodes b.id)))

-- none comes before the one in front of it
abbrev pub AreInTurn : List Node → List Arrival → Type 0
AreInTurn nodes arrivals = IsSortedBy (λ a b. is_lt (arrival_cmp nodes a b)) arrivals

abbrev pub arrived : List Arrival → List NodeId
arrived recent = map (λ arrival. arrival.id) recent

abbrev pub is_settled : Standing → Bool
is_settled Absent = false
is_settled Settled = true
is_settled Recent = false

abbrev pub is_recent : Standing → Bool
is_recent Absent = false
is_recent Settled = false
is_recent Recent = true

-- it is known of each number in which of two lists there is an id with it, which is in one of them at most
pub record AreMarked (ids : List NodeId) (recent : List Arrival) (standings : List Standing) : Type 0 where
  pub are_settled : (at : ℕ) → is_settled (get_or standings at Absent) ≡ has_number at ids
  pub are_recent : (at : ℕ) → is_recent (get_or standings at Absent) ≡ has_number at (arrived recent)

-- of ids that were put in order those that are marked so still, and of those that came the same
abbrev pub settled_among : List Standing → List NodeId → List NodeId
settled_among standings ids = filter (λ id. is_settled (get_or standings id.at Absent)) ids

abbrev pub recent_among : List Standing → List Arrival → List Arrival
recent_among standings arrivals = filter (λ arrival. is_recent (get_or standings arrival.id.at Absent)) arrivals

-- how many ids that were put in order are marked otherwise by now
abbrev pub HasGone : List Standing → List NodeId → ℕ → Type 0
HasGone standings ids gone = length ids ≡ gone + length (settled_among standings ids)

-- ids that were put in order, those that came since, how each number is marked, and for how many in order there is room: an id that is marked otherwise counts no more
pub record MarkedIds : Type 0 where
  pub entries : List NodeId
  pub arrivals : List Arrival
  pub standings : List Standing
  pub room : ℕ

-- those in order, and those of them from a place of the list on
abbrev pub settled_in : MarkedIds → List NodeId
settled_in some = settled_among some.standings some.entries

abbrev pub settled_from : MarkedIds → ℕ → List NodeId
settled_from some place = settled_among some.standings (drop place some.entries)

-- the id at the place, if there is one, is the first of these
abbrev pub IsNext : MarkedIds → ℕ → Type 0
IsNext some place = MatchOption (slice_get some.entries place) (settled_from some place ≡ []) (λ id. settled_from some place ≡ id ∷ settled_from some (place + 1))

-- those that came since
abbrev pub recent_in : MarkedIds → List Arrival
recent_in some = recent_among some.standings some.arrivals

-- all of them
abbrev pub ids_in : MarkedIds → List NodeId
ids_in some = settled_in some ++ arrived (recent_in some)

-- those of the nodes, in key order
abbrev pub listed_in : List Node → MarkedIds → List NodeId
listed_in nodes some = ids_of (filter (is_among (ids_in some)) nodes)

-- each id of a node has a mark
abbrev pub HaveMarks : List Node → ℕ → Type 0
HaveMarks nodes marks = AllByRecursion (λ id. id.at < marks) (ids_of nodes)

-- all of them are those of nodes, and each node has room and a mark
pub record AreSome (nodes : List Node) (some : MarkedIds) : Type 0 where
  pub in_order : IsInOrder nodes (settled_in some)
  pub recent : AllByRecursion (λ arrival. HasNode nodes arrival.id) (recent_in some)
  pub room : length nodes ≤ some.room
  pub marks : HaveMarks nodes (length some.standings)

-- ---- those behind the one that was looked at last

-- whether the node is later than another, if another is given
abbrev pub is_later : Option Node → Node → Bool
is_later None node = true
is_later (Some last) node = is_lt (key_cmp last.task.key node.task.key)

-- whether the node is later than the one with an id, if an id is given
abbrev pub is_behind : List Node → Option NodeId → Node → Bool
is_behind nodes None node = true
is_behind nodes (Some last) node = is_later (node_at nodes last) node

abbrev pub is_left : List Node → List NodeId → Option NodeId → Node → Bool
is_left nodes ids last node = is_among ids node && is_behind nodes last node

abbrev pub left_in : List Node → List NodeId → Option NodeId → List NodeId
left_in nodes ids last = ids_of (filter (is_left nodes ids last) nodes)

-- of those in key order these are the ones from a place on
abbrev pub IsLeft : List Node → MarkedIds → ℕ → Option NodeId → Type 0
IsLeft nodes some place last = settled_from some place ≡ left_in nodes (settled_in some) last

pub record AreLeft (nodes : List Node) (some : MarkedIds) (place : ℕ) (last : Option NodeId) : Type 0 where
  pub graph : IsGraph nodes
  pub some_are : AreSome nodes some
  pub last_there : IfSome last (HasNode nodes)
  pub place_is : IsLeft nodes some place last

-- ---- tests that are made anew

-- the test, but for the nodes that have one of the ids: these are asked another one
abbrev pub retested : (Node → Bool) → List NodeId → (Node → Bool) → Node → Bool
retested answer ids test node = if is_among ids node then answer node else test node

-- these pass where they are unblocked
abbrev pub refreshed : List Node → List NodeId → (Node → Bool) → Node → Bool
refreshed nodes = retested (is_unblocked nodes)

-- these fail
abbrev pub forgotten : List NodeId → (Node → Bool) → Node → Bool
forgotten = retested (λ _. false)

-- the listed nodes that have one of the ids are asked the other question, and there is no less room
pub record AreRetested (nodes : List Node) (answer : Node → Bool) (asked : List NodeId) (before after : MarkedIds) : Type 0 where
  pub ids : (test : Node → Bool) → AreSelected nodes test (listed_in nodes before) → AreSelected nodes (retested answer asked test) (listed_in nodes after)
  pub some : AreSome nodes after
  pub room : before.room ≤ after.room
  pub marks : length after.standings ≡ length before.standings

abbrev pub AreRefreshed : List Node → List NodeId → MarkedIds → MarkedIds → Type 0
AreRefreshed nodes asked before after = AreRetested nodes (is_unblocked nodes) asked before after

abbrev pub AreForgotten : List Node → List NodeId → MarkedIds → MarkedIds → Type 0
AreForgotten nodes asked before after = AreRetested nodes (λ _. false) asked before after
