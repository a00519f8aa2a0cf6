-- Nodes that are kept under their ids, and lists of ids in the order of the nodes' keys.
use Rattle.std.specs.Prelude.{◌≡◌, ◌==◌, ℕ, suc, ◌<◌, ◌≤◌, Bool, true, false, List, Contains, length, slice_get, slice_index_or, MatchResult, Option, Some, None, Result}
use Rattle.std.specs.List.{AllByRecursion}
use Rattle.std.specs.List.Sorted.{IsPartitionPoint}
use Rattle.std.specs.Ordering.{is_lt}
use Rattle.std.specs.declared.cmp.Ordering.{Ordering}
use Rattle.std.specs.declared.cmp.Ordering.TheVariants.{Less, Equal, Greater}
use Rattle.slab.specs.Slab.{Slab, get}
use Rattle.task_order.specs.declared.key.Key.{Key}
use Rattle.task_order.specs.Key.{key_cmp}
use Rattle.task_order.specs.TaskList.{IsAscending}
use Rattle.kdg_graph.specs.declared.node_id.NodeId.{NodeId}
use Rattle.kdg_graph.specs.Node.{Node}
use Rattle.kdg_graph.specs.Nodes.{ids_of, tasks_of}

-- each node is kept under its id
abbrev pub AreStored : Slab Node → List Node → Type 0
AreStored slots nodes = AllByRecursion (λ node. get slots node.id.at ≡ Some node) nodes

-- the ids are those of the nodes, which are kept under them and ascend
pub record IsLane (slots : Slab Node) (nodes : List Node) (ids : List NodeId) : Type 0 where
  pub stored : AreStored slots nodes
  pub ids_are : ids ≡ ids_of nodes
  pub ascending : IsAscending (tasks_of nodes)

-- `place` of the nodes are earlier than the key, and they stand first
pub record IsRank (key : Key) (nodes : List Node) (place : ℕ) : Type 0 where
  pub inside : place ≤ length nodes
  pub point : IsPartitionPoint (λ node. is_lt (key_cmp node.task.key key) ≡ true) (λ node. is_lt (key_cmp node.task.key key) ≡ false) nodes place

-- `place` of the nodes are not later than the key, and they stand first
pub record IsRankPast (key : Key) (nodes : List Node) (place : ℕ) : Type 0 where
  pub inside : place ≤ length nodes
  pub point : IsPartitionPoint (λ node. is_lt (key_cmp key node.task.key) ≡ false) (λ node. is_lt (key_cmp key node.task.key) ≡ true) nodes place

-- ---- searches

-- whether the id is this one
abbrev pub is_id : NodeId → Option NodeId → Bool
is_id id None = false
is_id id (Some other) = other.at == id.at

-- whether the id at a place is this one
abbrev pub is_id_at : NodeId → List NodeId → ℕ → Bool
is_id_at id ids place = is_id id (slice_get ids place)

-- how the node compares with the key; none counts as later
abbrev pub cmp_if : Key → Option Node → Ordering
cmp_if key None = Greater
cmp_if key (Some node) = key_cmp node.task.key key

-- how the node with an id compares with the key
abbrev pub cmp_in : Slab Node → Key → NodeId → Ordering
cmp_in slots key id = cmp_if key (get slots id.at)

abbrev pub cmp_in_if : Slab Node → Key → Option NodeId → Ordering
cmp_in_if slots key None = Greater
cmp_in_if slots key (Some id) = cmp_in slots key id

-- how the node whose id is at a place compares with the key
abbrev pub cmp_at : Slab Node → Key → List NodeId → ℕ → Ordering
cmp_at slots key ids place = cmp_in_if slots key (slice_get ids place)

-- the node at the place has the key, and those before it are earlier
pub record IsFound (key : Key) (nodes : List Node) (place : ℕ) : Type 0 where
  pub rank : IsRank key nodes place
  pub inside : place < length nodes
  pub tied : (d : Node) → key_cmp (slice_index_or nodes place d).task.key key ≡ Equal

-- no node has the key, and those before the place are the earlier ones
pub record IsGap (key : Key) (nodes : List Node) (place : ℕ) : Type 0 where
  pub rank : IsRank key nodes place
  pub apart : (d : Node) → place < length nodes → key_cmp (slice_index_or nodes place d).task.key key ≡ Greater

-- what a search for the key tells
abbrev pub IsSearched : Key → List Node → Result ℕ ℕ → Type 0
IsSearched key nodes result = MatchResult result (IsFound key nodes) (IsGap key nodes)

-- the node just before the first place, if there is one, is earlier than the key, and the one at the second place, if any, is later
pub record IsBetween (slots : Slab Node) (key : Key) (ids : List NodeId) (low high : ℕ) : Type 0 where
  pub ordered : low ≤ high
  pub inside : high ≤ length ids
  pub earlier : (place : ℕ) → suc place ≡ low → cmp_at slots key ids place ≡ Less
  pub later : cmp_at slots key ids high ≡ Greater

-- those from a place on are later than the key: the first of these is, if there is one
pub record AreLater (nodes : List Node) (key : Key) (ids : List NodeId) (end : ℕ) : Type 0 where
  pub inside : end ≤ length ids
  pub later : end < length ids → (node : Node) × Contains nodes node × (slice_get ids end ≡ Some node.id) × (key_cmp node.task.key key ≡ Greater)

-- the node at the place has the key, or else the place is between an earlier node and a later one
abbrev pub IsEnded : Slab Node → Key → List NodeId → Result ℕ ℕ → Type 0
IsEnded slots key ids result = MatchResult result (λ place. cmp_at slots key ids place ≡ Equal) (λ place. IsBetween slots key ids place place)
