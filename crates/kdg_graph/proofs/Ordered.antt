-- The list of all ids in key order, and the first of all nodes.
use Rattle.std.proofs.Common.{◌≡◌, ℕ, suc, ◌<◌, ◌≤◌, true, false, not, List, [], ◌∷◌, length, drop, Option, Some, None, refl, sym, ◌∙◌, ap, subst, arith, IfSome, slice_get, filter}
use Rattle.plain_laws.specs.Options.{if_some_at}
use Rattle.kdg_graph.proofs.Common.{AllByRecursion, list_any, Key, conflicts_with, Lane, NodeId, IsOrder, IsRankPast, IsLaneAmong, Node, places_in, HasNode, IsGraph, earlier_than, ids_of, is_at, later_than, least_of, node_at, put_node, without, is_unblocked, unblocked_of}
use Rattle.kdg_graph.proofs.Fronting.{first_from}
use Rattle.kdg_graph.proofs.KeyOrder.{dropped, kept, none_before, put_without, is_before, not_itself, drop_past}
use Rattle.kdg_graph.proofs.Lanes.{among_filtered, graph_among}
use Rattle.kdg_graph.proofs.Selecting.{length-put}
use Rattle.kdg_graph.specs.NodeLaws.{found_node}

-- ---- the order after a change

-- all nodes are some of the nodes
order_among : (nodes : List Node) (ids : List NodeId) → IsGraph nodes → ids ≡ ids_of nodes → IsLaneAmong nodes nodes ids
order_among nodes ids graph is = subst (IsLaneAmong nodes nodes) (sym is) (graph_among nodes graph)

-- a node that came is put into it
pub order_put : (id : NodeId) (nodes : List Node) (before ids : List NodeId) → IsGraph nodes → HasNode nodes id → before ≡ ids_of (without id nodes) → ((some : List Node) → IsLaneAmong nodes some before → IfSome (node_at nodes id) (λ node. ids ≡ ids_of (put_node node some)))
    → ids ≡ ids_of nodes
order_put id nodes before ids graph has was put =
    let new = found_node nodes id has in
    let among : IsLaneAmong nodes (without id nodes) before = among_filtered (λ (n : Node). not (is_at id n)) nodes nodes (ids_of nodes) before (graph_among nodes graph) was in
    if_some_at (λ (n : Node). ids ≡ ids_of (put_node n (without id nodes))) (node_at nodes id) new.0 new.1 (put (without id nodes) among) ∙ ap ids_of (put_without id nodes new.0 graph new.1)

-- a node that goes is taken out
pub order_without : (id : NodeId) (nodes : List Node) (before ids : List NodeId) → IsGraph nodes → before ≡ ids_of nodes → ((some : List Node) → IsLaneAmong nodes some before → ids ≡ ids_of (without id some)) → ids ≡ ids_of (without id nodes)
order_without id nodes before ids graph was taken = taken nodes (order_among nodes before graph was)

-- a change that keeps the ids keeps the order
pub order_kept : (nodes now : List Node) (order : Option Lane) → ids_of now ≡ ids_of nodes → IsOrder nodes order → IsOrder now order
order_kept nodes now None same is = tt
order_kept nodes now (Some lane) same is = is ∙ sym same

pub places_kept : (order : Option Lane) (before after : ℕ) → before ≤ after → places_in order before ≤ places_in order after
places_kept None before after less = less
places_kept (Some lane) before after less = omega arith

pub place_left : (order : Option Lane) (numbers : ℕ) → 0 < places_in order numbers → IfSome order (λ lane. length lane.ids.items < lane.ids.capacity)
place_left None numbers some = tt
place_left (Some lane) numbers some = omega (arith, some)

-- one node fewer
pub length-without : (id : NodeId) (nodes : List Node) (node : Node) → IsGraph nodes → node_at nodes id ≡ Some node → length nodes ≡ suc (length (without id nodes))
length-without id nodes node graph is = ap length (sym (put_without id nodes node graph is)) ∙ length-put node (without id nodes)

-- ---- the first of all

none_earlier : (key : Key) (nodes : List Node) → AllByRecursion (λ node. is_before key node ≡ false) nodes → earlier_than key nodes ≡ []
none_earlier key [] all = refl
none_earlier key (node ∷ nodes) all = dropped (is_before key) node nodes all.0 ∙ none_earlier key nodes all.1

-- nothing is earlier, so it is unblocked, and the first that is
least_unblocked : (nodes : List Node) → IsGraph nodes → least_of (filter (is_unblocked nodes) nodes) ≡ least_of nodes
least_unblocked [] graph = refl
least_unblocked (first ∷ nodes) graph =
    let key : Key = first.task.key in
    let none : earlier_than key (first ∷ nodes) ≡ [] = none_earlier key (first ∷ nodes) (not_itself key, none_before key key nodes (not_itself key) graph.ascending.0) in
    let free : is_unblocked (first ∷ nodes) first ≡ true = ap (λ (l : List Node). not (list_any (λ other. conflicts_with other.set first.set) l)) none in
    ap least_of (kept (is_unblocked (first ∷ nodes)) first nodes free)

pub first_unblocked : (nodes : List Node) (ids : List NodeId) → IsGraph nodes → ids ≡ unblocked_of nodes → slice_get ids 0 ≡ least_of nodes
first_unblocked nodes ids graph is =
    ap (λ (l : List NodeId). slice_get l 0) is ∙ first_from 0 (filter (is_unblocked nodes) nodes) ∙ none_dropped_yet (filter (is_unblocked nodes) nodes) ∙ least_unblocked nodes graph
  where
    none_dropped_yet : (nodes : List Node) → least_of (drop 0 nodes) ≡ least_of nodes
    none_dropped_yet [] = refl
    none_dropped_yet (node ∷ nodes) = refl

-- ---- the next of all

-- the id at the place behind a node is that of the first later one
pub next_in_order : (nodes : List Node) (ids : List NodeId) (id : NodeId) (place : ℕ) → IsGraph nodes → HasNode nodes id → ids ≡ ids_of nodes → ((some : List Node) → IsLaneAmong nodes some ids → IfSome (node_at nodes id) (λ node. IsRankPast node.task.key some place))
    → IfSome (node_at nodes id) (λ node. slice_get ids place ≡ least_of (later_than node.task.key nodes))
next_in_order nodes ids id place graph has is behind =
    let of = found_node nodes id has in
    let past : IsRankPast of.0.task.key nodes place = if_some_at (λ (n : Node). IsRankPast n.task.key nodes place) (node_at nodes id) of.0 of.1 (behind nodes (order_among nodes ids graph is)) in
    let first : slice_get ids place ≡ least_of (later_than of.0.task.key nodes) = ap (λ (l : List NodeId). slice_get l place) is ∙ first_from place nodes ∙ ap least_of (drop_past of.0.task.key nodes place past) in
    subst (λ (o : Option Node). IfSome o (λ node. slice_get ids place ≡ least_of (later_than node.task.key nodes))) (sym of.1) first
