-- Nodes that are kept under their ids, and lists of these ids in key order.
use Rattle.std.proofs.Common.{◌≡◌, ◌≢◌, ℕ, zero, suc, ◌<◌, Bool, true, false, cond, List, [], ◌∷◌, length, map, get_or, Option, Some, None, refl, sym, ◌∙◌, ap, subst, arith, eq-eqb, IsSome, is_lt, Contains, filter, insert, remove, Less, true≢false}
use Rattle.kdg_graph.proofs.Common.{AllByRecursion, cond_both, Slab, ContainsKey, Updates, get, key_cmp, NodeId, Node, HasNode, ids_of, is_at, node_at, put_node, AreStored, tied_itself, key_cmp_total, IsAscending, IsLane, IsRank, IsLaneAmong, HaveOwnIds, IsGraph, tasks_of, without, IsStored, nodes_of, all_at, all_from, from_filter, there}
use Rattle.kdg_graph.proofs.Blocking.{same_found}
use Rattle.kdg_graph.proofs.Keeping.{ids-insert, ids-remove}
use Rattle.kdg_graph.proofs.KeyOrder.{insert_at_point, is_before, not_itself}
use Rattle.kdg_graph.proofs.LookUps.{ids_find_nodes, nodes_have_ids, IsPlaceOf, id_at-place, place_inside, without-place, without_none}
use Rattle.kdg_graph.specs.NodeLaws.{same_id, found_by_id, ascending_filtered}

-- ---- nodes that are kept under their ids, and lists of these ids

pub length-ids : (nodes : List Node) → length (ids_of nodes) ≡ length nodes
length-ids [] = refl
length-ids (node ∷ nodes) = ap suc (length-ids nodes)

-- ---- looking up

-- a node is kept under its id
pub stored_has : (slots : Slab Node) (nodes : List Node) (id : NodeId) → AreStored slots nodes → HasNode nodes id → get slots id.at ≡ node_at nodes id
stored_has slots [] id stored has = cc
stored_has slots (node ∷ nodes) id stored has =
    let by_case : (test : Bool) → is_at id node ≡ test → IsSome (cond test (Some node) (node_at nodes id)) → get slots id.at ≡ cond test (Some node) (node_at nodes id) = elim [
      | true ↦ λ is _. ap (λ (other : NodeId). get slots other.at) (sym (same_id id node is)) ∙ stored.0
      | false ↦ λ _ rest. stored_has slots nodes id stored.1 rest
    ] in
    by_case _ refl has

pub stored_key : (slots : Slab Node) (nodes : List Node) (id : NodeId) → AreStored slots nodes → HasNode nodes id → ContainsKey slots id.at
stored_key slots nodes id stored has = subst IsSome (sym (stored_has slots nodes id stored has)) has

pub some_node : (nodes : List Node) (place : ℕ) → place < length nodes → Node
some_node [] place inside = absurd (omega (arith, inside))
some_node (node ∷ nodes) place inside = node

-- ---- changes

pub stored_others : (old new : Slab Node) (key : ℕ) (slot : Option Node) (nodes : List Node) → Updates old new key slot → AllByRecursion (λ node. node.id.at ≢ key) nodes → AreStored old nodes → AreStored new nodes
stored_others old new key slot [] updates differ stored = tt
stored_others old new key slot (node ∷ nodes) updates differ stored = (updates.others node.id.at differ.0 ∙ stored.0, stored_others old new key slot nodes updates differ.1 stored.1)

-- where nothing is kept, no node is
none_under : (slots : Slab Node) (key : ℕ) (nodes : List Node) → get slots key ≡ None → AreStored slots nodes → AllByRecursion (λ node. node.id.at ≢ key) nodes
none_under slots key [] none stored = tt
none_under slots key (node ∷ nodes) none stored =
    ((λ same. absurd (let found : None ≡ Some node = sym none ∙ ap (get slots) (sym same) ∙ stored.0 in cc)), none_under slots key nodes none stored.1)

pub new_id : (slots : Slab Node) (id : NodeId) (nodes : List Node) → get slots id.at ≡ None → AreStored slots nodes → AllByRecursion (λ other. other.id ≢ id) nodes
new_id slots id [] none stored = tt
new_id slots id (node ∷ nodes) none stored =
    ((λ same. absurd (let found : None ≡ Some node = sym none ∙ ap (λ (other : NodeId). get slots other.at) (sym same) ∙ stored.0 in cc)), new_id slots id nodes none stored.1)

stored_with : (slots : Slab Node) (node : Node) (nodes : List Node) → get slots node.id.at ≡ Some node → AreStored slots nodes → AreStored slots (put_node node nodes)
stored_with slots node [] is stored = (is, tt)
stored_with slots node (other ∷ nodes) is stored =
    cond_both (is_lt (key_cmp other.task.key node.task.key)) (other ∷ put_node node nodes) (node ∷ other ∷ nodes) (AreStored slots)
    (λ _. (stored.0, stored_with slots node nodes is stored.1)) (λ _. (is, stored))

pub stored_put : (old new : Slab Node) (node : Node) (nodes : List Node) → get old node.id.at ≡ None → Updates old new node.id.at (Some node) → AreStored old nodes → AreStored new (put_node node nodes)
stored_put old new node nodes none updates stored =
    stored_with new node nodes updates.changed (stored_others old new node.id.at (Some node) nodes updates (none_under old node.id.at nodes none stored) stored)

at_differs : (a b : NodeId) → a ≢ b → a.at ≢ b.at
at_differs a b differs same = differs (ap (λ n. let made : NodeId = record { at = n } in made) same)

pub differ_at : (id : NodeId) (nodes : List Node) → AllByRecursion (λ other. other.id ≢ id) nodes → AllByRecursion (λ node. node.id.at ≢ id.at) nodes
differ_at id [] all = tt
differ_at id (node ∷ nodes) all = (at_differs node.id id all.0, differ_at id nodes all.1)

-- one node is changed, and keeps its id
pub stored_map : (old new : Slab Node) (f : Node → Node) (id : NodeId) (nodes : List Node) (node now : Node) → ((other : Node) → is_at id other ≡ false → f other ≡ other) → ((other : Node) → (f other).id ≡ other.id)
    → get old id.at ≡ Some node → f node ≡ now → Updates old new id.at (Some now) → AreStored old nodes → AreStored new (map f nodes)
stored_map old new f id [] node now keeps same is becomes updates stored = tt
stored_map old new f id (other ∷ nodes) node now keeps same is becomes updates stored =
    let rest : AreStored new (map f nodes) = stored_map old new f id nodes node now keeps same is becomes updates stored.1 in
    let by_case : (test : Bool) → is_at id other ≡ test → get new other.id.at ≡ Some (f other) = elim [
      | true ↦ λ at.
          let id_is : other.id ≡ id = same_id id other at in
          let found : Some other ≡ Some node = sym stored.0 ∙ ap (λ (n : NodeId). get old n.at) id_is ∙ is in
          let here : node ≡ other = cc in
          ap (λ (n : NodeId). get new n.at) id_is ∙ updates.changed ∙ ap (λ (n : Node). Some n) (sym becomes) ∙ ap (λ (n : Node). Some (f n)) here
      | false ↦ λ differs.
          let apart : other.id.at ≢ id.at = λ is_same. absurd (let t : true ≡ false = sym (eq-eqb other.id.at id.at is_same) ∙ differs in cc) in
          updates.others other.id.at apart ∙ stored.0 ∙ ap (λ (n : Node). Some n) (sym (keeps other differs))
    ] in
    (ap (λ (n : NodeId). get new n.at) (same other) ∙ by_case (is_at id other) refl, rest)

-- the slots are the same ones
pub stored_same : (old new : Slab Node) (nodes : List Node) → new.slots ≡ old.slots → AreStored old nodes → AreStored new nodes
stored_same old new [] same stored = tt
stored_same old new (node ∷ nodes) same stored = (ap (λ slots. get_or slots node.id.at None) same ∙ stored.0, stored_same old new nodes same stored.1)

pub id_there : (nodes : List Node) (ids : List NodeId) (place : ℕ) (id : NodeId) (d : Node) → ids ≡ ids_of nodes → place < length ids → get_or ids place id ≡ (get_or nodes place d).id
id_there [] ids place id d same inside = absurd (omega (arith, inside, ap length same))
id_there (node ∷ nodes) [] place id d same inside = absurd (omega (arith, inside))
id_there (node ∷ nodes) (first ∷ ids) zero id d same inside = cc
id_there (node ∷ nodes) (first ∷ ids) (suc place) id d same inside =
    let rest : ids ≡ ids_of nodes = cc in
    id_there nodes ids place id d rest (omega (arith, inside))

-- ---- some nodes of a graph by their ids, in key order

pub graph_among : (nodes : List Node) → IsGraph nodes → IsLaneAmong nodes nodes (ids_of nodes)
graph_among nodes graph = record { ids_are = refl; there = all_from (λ (node : Node). Contains nodes node) nodes (λ node has. has); ascending = graph.ascending }

pub among_filtered : (p : Node → Bool) (nodes some : List Node) (before ids : List NodeId) → IsLaneAmong nodes some before → ids ≡ ids_of (filter p some) → IsLaneAmong nodes (filter p some) ids
among_filtered p nodes some before ids among is = record {
  ids_are = is;
  there = all_from (λ (node : Node). Contains nodes node) (filter p some) (λ node has. all_at (λ (n : Node). Contains nodes n) some node among.there (from_filter p some node has).0);
  ascending = ascending_filtered p some among.ascending;
}

-- ---- they are kept where all are

pub lane_of_among : (slots : Slab Node) (ids : List NodeId) (some : List Node) → IsStored slots → IsLaneAmong (nodes_of slots) some ids → IsLane slots some ids
lane_of_among slots ids some is among = record {
  ids_are = among.ids_are;
  ascending = among.ascending;
  stored = all_from (λ (node : Node). get slots node.id.at ≡ Some node) some (λ node has.
      all_at (λ (n : Node). get slots n.id.at ≡ Some n) (nodes_of slots) node is.stored (all_at (λ (n : Node). Contains (nodes_of slots) n) some node among.there has));
}

-- ---- they have ids of their own

differ_from : (nodes : List Node) (first : Node) (rest : List Node) → IsGraph nodes → Contains nodes first → AllByRecursion (λ (node : Node). Contains nodes node) rest → AllByRecursion (λ other. key_cmp first.task.key other.key ≡ Less) (tasks_of rest)
    → AllByRecursion (λ (other : Node). other.id ≢ first.id) rest
differ_from nodes first [] graph has all later = tt
differ_from nodes first (other ∷ rest) graph has all later = (
  λ same.
      let is : other ≡ first = same_found nodes first.id first other graph all.0 same (nodes_have_ids nodes first graph has) in
      let tied = tied_itself key_cmp_total first.task.key in
      let earlier : key_cmp first.task.key first.task.key ≡ Less = subst (λ (n : Node). key_cmp first.task.key n.task.key ≡ Less) is later.0 in
      absurd cc,
  differ_from nodes first rest graph has all.1 later.1,
)

own_by_parts : (nodes some : List Node) → IsGraph nodes → AllByRecursion (λ (node : Node). Contains nodes node) some → IsAscending (tasks_of some) → HaveOwnIds some
own_by_parts nodes [] graph all up = tt
own_by_parts nodes (first ∷ rest) graph all up = (differ_from nodes first rest graph all.0 all.1 up.0, own_by_parts nodes rest graph all.1 up.1)

pub among_own_ids : (nodes some : List Node) (ids : List NodeId) → IsGraph nodes → IsLaneAmong nodes some ids → HaveOwnIds some
among_own_ids nodes some ids graph among = own_by_parts nodes some graph among.there among.ascending

-- ---- look-ups

pub among_found : (nodes some : List Node) (ids : List NodeId) (node : Node) → IsGraph nodes → IsLaneAmong nodes some ids → Contains some node → node_at nodes node.id ≡ Some node
among_found nodes some ids node graph among has = nodes_have_ids nodes node graph (all_at (λ (n : Node). Contains nodes n) some node among.there has)

pub contains_at : (some : List Node) (place : ℕ) (d : Node) → place < length some → Contains some (get_or some place d)
contains_at [] place d inside = absurd (omega (arith, inside))
contains_at (node ∷ some) zero d inside = (0, omega arith, refl)
contains_at (node ∷ some) (suc place) d inside = there node (get_or some place d) some (contains_at some place d (omega (arith, inside)))

-- the id at a place is that of the node there
pub among_at : (nodes some : List Node) (ids : List NodeId) (place : ℕ) (id : NodeId) (d : Node) → IsGraph nodes → IsLaneAmong nodes some ids → place < length ids → id ≡ get_or ids place id → node_at nodes id ≡ Some (get_or some place d)
among_at nodes some ids place id d graph among inside here =
    let node : Node = get_or some place d in
    let within : place < length some = omega (arith, inside, ap length among.ids_are, length-ids some) in
    ap (node_at nodes) (here ∙ id_there some ids place id d among.ids_are inside) ∙ among_found nodes some ids node graph among (contains_at some place d within)

-- ---- a node comes

pub filed : (ids : List NodeId) (some : List Node) (node : Node) (place : ℕ) → ids ≡ ids_of some → IsRank node.task.key some place → insert ids place node.id ≡ ids_of (put_node node some)
filed ids some node place are rank = ap (λ l. insert l place node.id) are ∙ sym (ids-insert some place node) ∙ ap ids_of (insert_at_point node some place rank.inside rank.point)

-- ---- a node goes

none_with_id : (id : NodeId) (some : List Node) → node_at some id ≡ None → AllByRecursion (λ node. is_at id node ≡ false) some
none_with_id id [] none = tt
none_with_id id (node ∷ some) none =
    let by_case : (test : Bool) → is_at id node ≡ test → cond test (Some node) (node_at some id) ≡ None → AllByRecursion (λ other. is_at id other ≡ false) (node ∷ some) = elim [
      | true ↦ λ _ wrong. cc
      | false ↦ λ is rest. (is, none_with_id id some rest)
    ] in
    by_case (is_at id node) refl none

-- the node that some of the nodes have under an id is the graph's
pub same_among : (nodes some : List Node) (ids : List NodeId) (id : NodeId) (node other : Node) → IsGraph nodes → IsLaneAmong nodes some ids → node_at nodes id ≡ Some node → node_at some id ≡ Some other → other ≡ node
same_among nodes some ids id node other graph among is found =
    let has : Contains some other × (other.id ≡ id) = ids_find_nodes some id other found in
    same_found nodes id node other graph (all_at (λ (n : Node). Contains nodes n) some other among.there has.0) has.1 is

-- the place of a node is its rank
place_by_rank : (id : NodeId) (nodes : List Node) (node : Node) (place : ℕ) → IsAscending (tasks_of nodes) → node_at nodes id ≡ Some node → IsRank node.task.key nodes place → IsPlaceOf id nodes place
place_by_rank id [] node place up is rank = cc
place_by_rank id (first ∷ nodes) node zero up is rank =
    let by_case : (test : Bool) → is_at id first ≡ test → cond test (Some first) (node_at nodes id) ≡ Some node → is_at id first ≡ true = elim [
      | true ↦ λ at _. at
      | false ↦ λ _ found. absurd (true≢false (sym (is_earlier first nodes node id up found) ∙ rank.point.1 0 first (omega arith) (omega arith)))
    ] in
    by_case (is_at id first) refl is
  where
    is_earlier : (first : Node) (nodes : List Node) (node : Node) (id : NodeId) → IsAscending (tasks_of (first ∷ nodes)) → node_at nodes id ≡ Some node → is_before node.task.key first ≡ true
    is_earlier first nodes node id up found = ap is_lt (later_all first nodes node id up.0 found)
      where
        later_all : (first : Node) (nodes : List Node) (node : Node) (id : NodeId) → AllByRecursion (λ task. key_cmp first.task.key task.key ≡ Less) (tasks_of nodes) → node_at nodes id ≡ Some node → key_cmp first.task.key node.task.key ≡ Less
        later_all first [] node id all found = cc
        later_all first (other ∷ nodes) node id all found =
            let by_case : (test : Bool) → cond test (Some other) (node_at nodes id) ≡ Some node → key_cmp first.task.key node.task.key ≡ Less = elim [
              | true ↦ λ here. let same : other ≡ node = cc in subst (λ (n : Node). key_cmp first.task.key n.task.key ≡ Less) same all.0
              | false ↦ λ later. later_all first nodes node id all.1 later
            ] in
            by_case (is_at id other) found
place_by_rank id (first ∷ nodes) node (suc place) up is rank =
    let by_case : (test : Bool) → is_at id first ≡ test → cond test (Some first) (node_at nodes id) ≡ Some node → (is_at id first ≡ false) × IsPlaceOf id nodes place = elim [
      | true ↦ λ _ here.
          let same : first ≡ node = cc in
          let earlier : is_before node.task.key first ≡ true = rank.point.0 0 first (omega arith) (omega arith) in
          absurd (true≢false (sym (ap (λ (n : Node). is_before n.task.key first) same ∙ earlier) ∙ not_itself first.task.key))
      | false ↦ λ at later. (
        at,
        place_by_rank id nodes node place up.1 later (record {
          inside = omega (arith, rank.inside);
          point = ((λ k d from upto. rank.point.0 (suc k) d (omega arith) (omega (arith, upto))), (λ k d from upto. rank.point.1 (suc k) d (omega (arith, from)) (omega (arith, upto))));
        }),
      )
    ] in
    by_case (is_at id first) refl is

-- its place among some of them is its rank
pub place_among : (nodes some : List Node) (ids : List NodeId) (id : NodeId) (node : Node) (place : ℕ) → IsGraph nodes → IsLaneAmong nodes some ids → node_at nodes id ≡ Some node → HasNode some id → IsRank node.task.key some place → IsPlaceOf id some place
place_among nodes some ids id node place graph among is has rank =
    let by_case : (found : Option Node) → node_at some id ≡ found → IsSome found → IsPlaceOf id some place = elim [
      | None ↦ λ _ wrong. cc
      | Some other ↦ λ found _. place_by_rank id some node place among.ascending (found ∙ ap (λ (n : Node). Some n) (same_among nodes some ids id node other graph among is found)) rank
    ] in
    by_case (node_at some id) refl has

pub unfiled : (nodes some : List Node) (ids : List NodeId) (id : NodeId) (node : Node) (place : ℕ) → IsGraph nodes → IsLaneAmong nodes some ids → node_at nodes id ≡ Some node → IsRank node.task.key some place → place < length ids → id ≡ get_or ids place id
    → remove ids place ≡ ids_of (without id some)
unfiled nodes some ids id node place graph among is rank inside here =
    let within : place < length some = omega (arith, inside, ap length among.ids_are, length-ids some) in
    let d : Node = some_node some place within in
    let own = among_own_ids nodes some ids graph among in
    let at : (get_or some place d).id ≡ id = sym (here ∙ id_there some ids place id d among.ids_are inside) in
    let found : node_at some (get_or some place d).id ≡ Some (get_or some place d) = found_by_id some (get_or some place d) own (contains_at some place d within) in
    let has : HasNode some id = subst (HasNode some) at (subst IsSome (sym found) refl) in
    ap (λ l. remove l place) among.ids_are ∙ sym (ids-remove some place) ∙ ap ids_of (without-place id some place own (place_among nodes some ids id node place graph among is has rank))

-- where its rank has another id it isn't there
pub not_filed : (nodes some : List Node) (ids : List NodeId) (id : NodeId) (node : Node) (place : ℕ) (d : NodeId) → IsGraph nodes → IsLaneAmong nodes some ids → node_at nodes id ≡ Some node → IsRank node.task.key some place → (place < length ids → get_or ids place d ≢ id)
    → ids ≡ ids_of (without id some)
not_filed nodes some ids id node place d graph among is rank other =
    let by_case : (found : Option Node) → node_at some id ≡ found → ids ≡ ids_of (without id some) = elim [
      | None ↦ λ none. among.ids_are ∙ ap ids_of (sym (without_none id some (none_with_id id some none)))
      | Some n ↦ λ found.
          let at : IsPlaceOf id some place = place_among nodes some ids id node place graph among is (subst IsSome (sym found) refl) rank in
          let within : place < length ids = omega (arith, place_inside id some place at, ap length among.ids_are, length-ids some) in
          absurd (other within (id_there some ids place d node among.ids_are within ∙ id_at-place id some place node at))
    ] in
    by_case (node_at some id) refl

pub same_by_number : (a b : NodeId) → a.at ≡ b.at → a ≡ b
same_by_number a b same = ap (λ n. let made : NodeId = record { at = n } in made) same
