-- What a search among ids tells of the nodes that have them.
use Rattle.std.proofs.Common.{◌≡◌, ℕ, zero, suc, ◌<◌, ◌≤◌, true, false, List, [], ◌∷◌, length, get_or, Ok, Err, Result, refl, sym, ◌∙◌, ap, subst, arith, true≢false, MatchResult, is_lt, Ordering, Less, Equal, Greater, ◌≢◌, inl, inr, eqb-true, eq-eqb, Bool, cond, Option, Some, None, Contains, slice_get, find, remove, option_map, is_eq}
use Rattle.plain_laws.specs.Orderings.{equal_from_test}
use Rattle.kdg_graph.proofs.Common.{false_from_ne_true, slice_get_past, ordering_reverse, Slab, get, Key, key_cmp, key_cmp_total, IsAscending, NodeId, Node, ids_of, tasks_of, AreStored, IsBetween, IsEnded, IsFound, IsGap, IsLane, IsRank, IsSearched, cmp_at, cmp_if, cmp_in_if, tied_itself, cases_lt, false≢true, get_or_from_slice_get, slice_get-map, slice_get_cases, slice_get_within, entries, Contains-entries, AreLater, IsRankPast, is_id_at, IsLaneAmong, IsGraph, is_at, node_at, node_with_key, without, key_at, IsStored, nodes_of, all_at, cases, find_none, from_find, none, none_found}
use Rattle.kdg_graph.proofs.Blocking.{same_found}
use Rattle.kdg_graph.proofs.KeyOrder.{earlier_at, is_before, is_partitioned, found_at_point, no_key_past_all, past_nothing, past_tied, past_untied}
use Rattle.kdg_graph.proofs.Lanes.{length-ids, among_at, contains_at, same_by_number, unfiled, id_there, some_node}
use Rattle.kdg_graph.proofs.LookUps.{ids_find_nodes, key_later}

-- ---- what a look at a place tells

pub later_past : (slots : Slab Node) (key : Key) (ids : List NodeId) (place : ℕ) → length ids ≤ place → cmp_at slots key ids place ≡ Greater
later_past slots key ids place past = ap (cmp_in_if slots key) (slice_get_past ids place past)

-- what isn't later is there
inside_unless : (slots : Slab Node) (key : Key) (ids : List NodeId) (place : ℕ) → (cmp_at slots key ids place ≡ Greater → ⊥) → place < length ids
inside_unless slots key [] place other = absurd (other (later_past slots key [] place (omega arith)))
inside_unless slots key (id ∷ ids) zero other = omega arith
inside_unless slots key (id ∷ ids) (suc place) other = omega (arith, inside_unless slots key ids place other)

-- the node there is compared
compared : (slots : Slab Node) (key : Key) (nodes : List Node) (ids : List NodeId) (place : ℕ) (d : Node) → AreStored slots nodes → ids ≡ ids_of nodes → place < length ids → cmp_at slots key ids place ≡ key_cmp (get_or nodes place d).task.key key
compared slots key [] ids place d stored same inside = absurd (omega (arith, inside, ap length same))
compared slots key (node ∷ nodes) [] place d stored same inside = absurd (omega (arith, inside))
compared slots key (node ∷ nodes) (first ∷ ids) zero d stored same inside =
    let first_is : first ≡ node.id = cc in
    ap (λ (id : NodeId). cmp_if key (get slots id.at)) first_is ∙ ap (cmp_if key) stored.0
compared slots key (node ∷ nodes) (first ∷ ids) (suc place) d stored same inside =
    let rest : ids ≡ ids_of nodes = cc in
    compared slots key nodes ids place d stored.1 rest (omega (arith, inside))

as_many : (slots : Slab Node) (nodes : List Node) (ids : List NodeId) → IsLane slots nodes ids → length ids ≡ length nodes
as_many slots nodes ids lane = ap length lane.ids_are ∙ length-ids nodes

compared_in : (slots : Slab Node) (key : Key) (nodes : List Node) (ids : List NodeId) (place : ℕ) (o : Ordering) → IsLane slots nodes ids → place < length nodes → cmp_at slots key ids place ≡ o → (d : Node) → key_cmp (get_or nodes place d).task.key key ≡ o
compared_in slots key nodes ids place o lane inside is d =
    sym (compared slots key nodes ids place d lane.stored lane.ids_are (omega (arith, inside, as_many slots nodes ids lane))) ∙ is

-- ---- nodes around a place

-- where the one just before is earlier and the one there isn't, the place is the rank
rank_around : (key : Key) (nodes : List Node) (place : ℕ) → IsAscending (tasks_of nodes) → place ≤ length nodes
    → ((before : ℕ) → suc before ≡ place → (d : Node) → is_before key (get_or nodes before d) ≡ true) → (place < length nodes → (d : Node) → is_before key (get_or nodes place d) ≡ false) → IsRank key nodes place
rank_around key nodes zero up inside earlier later = record {
  inside = inside;
  point = (
    (λ k d from upto. absurd (omega (arith, upto))),
    (λ k d from upto. false_from_ne_true _ (λ is. true≢false (sym (is_partitioned key nodes up 0 k d (omega arith) upto is) ∙ later (omega (arith, upto)) d))),
  );
}
rank_around key nodes (suc before) up inside earlier later = record {
  inside = inside;
  point = (
    (λ k d from upto. is_partitioned key nodes up k before d (omega (arith, upto)) (omega (arith, inside)) (earlier before refl d)),
    (λ k d from upto. false_from_ne_true _ (λ is. true≢false (sym (is_partitioned key nodes up (suc before) k d from upto is) ∙ later (omega (arith, from, upto)) d))),
  );
}

pub less_tied : (a b key : Key) → key_cmp a b ≡ Less → key_cmp b key ≡ Equal → key_cmp a key ≡ Less
less_tied a b key less tied =
    key_cmp_total.antisymm a key ∙ ap ordering_reverse (sym (key_cmp_total.congr b key a tied)) ∙ sym (key_cmp_total.antisymm a b) ∙ less

-- the nodes before one that has the key are earlier
before_tied : (key : Key) (nodes : List Node) (before : ℕ) (d : Node) → IsAscending (tasks_of nodes) → suc before < length nodes → key_cmp (get_or nodes (suc before) d).task.key key ≡ Equal → key_cmp (get_or nodes before d).task.key key ≡ Less
before_tied key [] before d up inside tied = absurd (omega (arith, inside))
before_tied key (node ∷ nodes) zero d up inside tied =
    let next : Node = get_or nodes 0 d in
    let turn : key_cmp node.task.key next.task.key ≡ Less = earlier_at (λ other. key_cmp node.task.key other.key ≡ Less) nodes 0 d (omega (arith, inside)) up.0 in
    less_tied node.task.key next.task.key key turn tied
before_tied key (node ∷ nodes) (suc before) d up inside tied = before_tied key nodes before d up.1 (omega (arith, inside)) tied

pub found_tied : (key : Key) (nodes : List Node) (place : ℕ) → IsAscending (tasks_of nodes) → place < length nodes → ((d : Node) → key_cmp (get_or nodes place d).task.key key ≡ Equal) → IsFound key nodes place
found_tied key nodes place up inside tied = record {
  rank = rank_around key nodes place up (omega (arith, inside))
      (λ before is d. ap is_lt (before_tied key nodes before d up (omega (arith, inside, is)) (subst (λ n. key_cmp (get_or nodes n d).task.key key ≡ Equal) (sym is) (tied d))))
      (λ _ d. ap is_lt (tied d));
  inside = inside;
  tied = tied;
}

pub gap_ended : (slots : Slab Node) (key : Key) (nodes : List Node) (ids : List NodeId) (place : ℕ) → IsLane slots nodes ids → IsBetween slots key ids place place → IsGap key nodes place
gap_ended slots key nodes ids place lane between = record {
  rank = rank_around key nodes place lane.ascending (omega (arith, between.inside, as_many slots nodes ids lane))
      (λ before is d. ap is_lt (compared_in slots key nodes ids before Less lane (omega (arith, is, between.inside, as_many slots nodes ids lane)) (between.earlier before is) d))
      (λ inside d. ap is_lt (compared_in slots key nodes ids place Greater lane inside between.later d));
  apart = λ d inside. compared_in slots key nodes ids place Greater lane inside between.later d;
}

-- where the last is earlier, or none is there, all are
pub all_earlier : (slots : Slab Node) (key : Key) (nodes : List Node) (ids : List NodeId) (len : ℕ) → IsLane slots nodes ids → len ≡ length ids → ((place : ℕ) → suc place ≡ len → cmp_at slots key ids place ≡ Less) → IsRank key nodes len
all_earlier slots key nodes ids len lane is earlier =
    let between : IsBetween slots key ids len len = record { ordered = omega arith; inside = omega (arith, is); earlier = earlier; later = later_past slots key ids len (omega (arith, is)) } in
    (gap_ended slots key nodes ids len lane between).rank

-- where the first is later, or none is there, none is earlier
pub none_earlier : (slots : Slab Node) (key : Key) (nodes : List Node) (ids : List NodeId) → IsLane slots nodes ids → cmp_at slots key ids 0 ≡ Greater → IsRank key nodes 0
none_earlier slots key nodes ids lane later =
    let between : IsBetween slots key ids 0 0 = record { ordered = omega arith; inside = omega arith; earlier = λ place is. absurd (omega (arith, is)); later = later } in
    (gap_ended slots key nodes ids 0 lane between).rank

-- ---- what a search tells

pub inside_tied : (slots : Slab Node) (key : Key) (ids : List NodeId) (place : ℕ) → cmp_at slots key ids place ≡ Equal → place < length ids
inside_tied slots key ids place tied = inside_unless slots key ids place (λ later. let wrong : Equal ≡ Greater = sym tied ∙ later in cc)

pub found_ended : (slots : Slab Node) (key : Key) (nodes : List Node) (ids : List NodeId) (place : ℕ) → IsLane slots nodes ids → cmp_at slots key ids place ≡ Equal → IsFound key nodes place
found_ended slots key nodes ids place lane tied =
    let inside : place < length nodes = omega (arith, inside_tied slots key ids place tied, as_many slots nodes ids lane) in
    found_tied key nodes place lane.ascending inside (compared_in slots key nodes ids place Equal lane inside tied)

pub searched : (slots : Slab Node) (key : Key) (nodes : List Node) (ids : List NodeId) (result : Result ℕ ℕ) → IsLane slots nodes ids → IsEnded slots key ids result → IsSearched key nodes result
searched slots key nodes ids (Ok place) lane tied = found_ended slots key nodes ids place lane tied
searched slots key nodes ids (Err place) lane between = gap_ended slots key nodes ids place lane between

pub ended_inside : (slots : Slab Node) (key : Key) (ids : List NodeId) (result : Result ℕ ℕ) → IsEnded slots key ids result → MatchResult result (λ place. place < length ids) (λ place. place ≤ length ids)
ended_inside slots key ids (Ok place) tied = inside_tied slots key ids place tied
ended_inside slots key ids (Err place) between = between.inside

-- ---- the node with the key

pub none_at_gap : (key : Key) (nodes : List Node) (place : ℕ) → IsAscending (tasks_of nodes) → IsGap key nodes place → node_with_key nodes key ≡ None
none_at_gap key nodes place up gap = elim (slice_get_cases nodes place).1 [
  | inl here ↦ found_at_point key nodes place here.0 false up here.1 gap.rank.point (sym here.3) (ap is_eq (subst (λ (n : Node). key_cmp n.task.key key ≡ Greater) here.3 (gap.apart here.0 here.1)))
  | inr past ↦ no_key_past_all key nodes place past.0 gap.rank.point
]

-- where the ids are those of all nodes the one that is found is the node's
pub id_found_at : (key : Key) (nodes : List Node) (ids : List NodeId) (place : ℕ) → IsAscending (tasks_of nodes) → ids ≡ ids_of nodes → IsFound key nodes place → slice_get ids place ≡ option_map (λ node. node.id) (node_with_key nodes key)
id_found_at key nodes ids place up same found = elim (slice_get_cases nodes place).1 [
  | inl here ↦
      let is : is_eq (key_cmp here.0.task.key key) ≡ true = ap is_eq (subst (λ (n : Node). key_cmp n.task.key key ≡ Equal) here.3 (found.tied here.0)) in
      ap (λ l. slice_get l place) same
      ∙ slice_get-map (λ (node : Node). node.id) nodes place
      ∙ ap (option_map (λ (node : Node). node.id)) (here.2 ∙ sym (found_at_point key nodes place here.0 true up here.1 found.rank.point (sym here.3) is))
  | inr past ↦ absurd (omega (arith, past.0, found.inside))
]

abbrev has_key : Key → Node → Bool
has_key key node = is_eq (key_cmp node.task.key key)

with_key : (key : Key) (nodes : List Node) (node : Node) → IsAscending (tasks_of nodes) → Contains nodes node → has_key key node ≡ true → node_with_key nodes key ≡ Some node
with_key key [] node up has is = absurd (none node has)
with_key key (other ∷ nodes) node up has is = elim (cases other node nodes has) [
  | inl same ↦ ap (λ test. cond test (Some other) (node_with_key nodes key)) (ap (has_key key) same ∙ is) ∙ ap (λ (n : Node). Some n) same
  | inr later ↦
      let less : key_cmp other.task.key key ≡ Less = less_tied other.task.key node.task.key key (key_later other nodes node up.0 later) (equal_from_test _ is) in
      ap (λ test. cond test (Some other) (node_with_key nodes key)) (ap is_eq less) ∙ with_key key nodes node up.1 later is
]

-- a walk over the entries of a slab finds it
pub with_key_stored : (slots : Slab Node) (key : Key) (found : Option (ℕ × Node)) → IsStored slots → found ≡ find (λ (entry : ℕ × Node). has_key key entry.1) (entries slots) → option_map (λ (entry : ℕ × Node). entry.1) found ≡ node_with_key (nodes_of slots) key
with_key_stored slots key None is none_is =
    sym (find_none (has_key key) (nodes_of slots) (λ node has.
    let kept : get slots node.id.at ≡ Some node = all_at (λ (n : Node). get slots n.id.at ≡ Some n) (nodes_of slots) node is.stored has in
    none_found (λ (entry : ℕ × Node). has_key key entry.1) (entries slots) (node.id.at, node) (sym none_is) ((Contains-entries slots node.id.at node).1 kept)))
with_key_stored slots key (Some entry) is found_is =
    let was = from_find (λ (e : ℕ × Node). has_key key e.1) (entries slots) entry (sym found_is) in
    let kept : get slots entry.0 ≡ Some entry.1 = (Contains-entries slots entry.0 entry.1).0 was.0 in
    sym (with_key key (nodes_of slots) entry.1 is.graph.ascending (is.all entry.0 entry.1 kept).1 was.1)

-- ---- what is kept

-- what is kept under an id is the node that has it, if there is one
kept_at : (slots : Slab Node) (id : NodeId) → IsStored slots → get slots id.at ≡ node_at (nodes_of slots) id
kept_at slots id is =
    let nodes : List Node = nodes_of slots in
    let by_case : (found : Option Node) → node_at nodes id ≡ found → get slots id.at ≡ found = elim [
      | Some node ↦ λ found.
          let has : Contains nodes node × (node.id ≡ id) = ids_find_nodes nodes id node found in
          ap (λ (i : NodeId). get slots i.at) (sym has.1) ∙ all_at (λ (n : Node). get slots n.id.at ≡ Some n) nodes node is.stored has.0
      | None ↦ λ none_is. nothing none_is (get slots id.at) refl
    ] in
    by_case (node_at nodes id) refl
  where
    nothing : node_at (nodes_of slots) id ≡ None → (kept : Option Node) → get slots id.at ≡ kept → kept ≡ None
    nothing none_is None at = refl
    nothing none_is (Some node) at =
        let was : (node.id.at ≡ id.at) × Contains (nodes_of slots) node = is.all id.at node at in
        absurd (false≢true (sym (none_found (is_at id) (nodes_of slots) node none_is was.1) ∙ eq-eqb node.id.at id.at was.0))

-- and its key is the node's
pub key_kept : (slots : Slab Node) (id : NodeId) (found : Option Node) (nodes : List Node) → IsStored slots → nodes_of slots ≡ nodes → found ≡ get slots id.at → option_map (λ node. node.task.key) found ≡ key_at nodes id
key_kept slots id found nodes is are kept = ap (option_map (λ (node : Node). node.task.key)) (kept ∙ kept_at slots id is ∙ ap (λ (l : List Node). node_at l id) are)

-- nodes that are later are so where they are kept
pub later_stored : (slots : Slab Node) (key : Key) (nodes : List Node) (ids : List NodeId) (end : ℕ) → IsStored slots → nodes_of slots ≡ nodes → AreLater nodes key ids end → cmp_at slots key ids end ≡ Greater
later_stored slots key nodes ids end is are known = elim (cases_lt end (length ids)) [
  | inl inside ↦
      let first = known.later inside in
      let there : Contains (nodes_of slots) first.0 = subst (λ (l : List Node). Contains l first.0) (sym are) first.1 in
      ap (cmp_in_if slots key) first.2 ∙ ap (cmp_if key) (all_at (λ (n : Node). get slots n.id.at ≡ Some n) (nodes_of slots) first.0 is.stored there) ∙ first.3
  | inr past ↦ later_past slots key ids end past
]

-- ---- what is later than the key

pub past_gap : (key : Key) (some : List Node) (place : ℕ) → IsAscending (tasks_of some) → IsGap key some place → IsRankPast key some place
past_gap key some place up gap = elim (slice_get_cases some place).1 [
  | inl here ↦ past_untied key some place here.0 up gap.rank (λ inside. ap is_eq (gap.apart here.0 inside))
  | inr past ↦ past_nothing key some place up gap.rank (omega (arith, past.0, gap.rank.inside))
]

pub past_found : (key : Key) (some : List Node) (place : ℕ) → IsAscending (tasks_of some) → IsFound key some place → IsRankPast key some (suc place)
past_found key some place up found =
    let d : Node = some_node some place found.inside in
    past_tied key some place d up found.rank found.inside (ap is_eq (found.tied d))

-- ---- the id of a node

pub id_at : (ids : List NodeId) (place : ℕ) (id : NodeId) → is_id_at id ids place ≡ true → slice_get ids place ≡ Some id
id_at [] place id is = absurd (false≢true is)
id_at (first ∷ ids) zero id is = ap (λ (other : NodeId). Some other) (same_by_number first id (eqb-true first.at id.at is))
id_at (first ∷ ids) (suc place) id is = id_at ids place id is

pub inside_at : (ids : List NodeId) (place : ℕ) (id : NodeId) → is_id_at id ids place ≡ true → place < length ids
inside_at ids place id is = slice_get_within ids place id (id_at ids place id is)

-- two nodes at one key are one
pub same_key : (nodes : List Node) (a b : Node) → IsAscending (tasks_of nodes) → Contains nodes a → Contains nodes b → key_cmp a.task.key b.task.key ≡ Equal → a ≡ b
same_key [] a b up has_a has_b tied = absurd (none a has_a)
same_key (node ∷ nodes) a b up has_a has_b tied = elim (cases node a nodes has_a) [
  | inl is_a ↦ elim (cases node b nodes has_b) [
    | inl is_b ↦ sym is_a ∙ is_b
    | inr later ↦
        let less : key_cmp a.task.key b.task.key ≡ Less = subst (λ (n : Node). key_cmp n.task.key b.task.key ≡ Less) is_a (key_later node nodes b up.0 later) in
        absurd (let wrong : Equal ≡ Less = sym tied ∙ less in cc)
  ]
  | inr later_a ↦ elim (cases node b nodes has_b) [
    | inl is_b ↦
        let less : key_cmp b.task.key a.task.key ≡ Less = subst (λ (n : Node). key_cmp n.task.key a.task.key ≡ Less) is_b (key_later node nodes a up.0 later_a) in
        absurd (let wrong : Equal ≡ Greater = sym tied ∙ key_cmp_total.antisymm a.task.key b.task.key ∙ ap ordering_reverse less in cc)
    | inr later_b ↦ same_key nodes a b up.1 later_a later_b tied
  ]
]

contains_among : (nodes some : List Node) (ids : List NodeId) (place : ℕ) (d : Node) → IsLaneAmong nodes some ids → place < length some → Contains nodes (get_or some place d)
contains_among nodes some ids place d among inside = all_at (λ (n : Node). Contains nodes n) some (get_or some place d) among.there (contains_at some place d inside)

inside_among : (nodes some : List Node) (ids : List NodeId) (place : ℕ) → IsLaneAmong nodes some ids → place < length some → place < length ids
inside_among nodes some ids place among inside = omega (arith, inside, ap length among.ids_are, length-ids some)

-- where the key of a node is found its id is
id_found : (nodes some : List Node) (ids : List NodeId) (id : NodeId) (node : Node) (place : ℕ) → IsGraph nodes → IsLaneAmong nodes some ids → node_at nodes id ≡ Some node → IsFound node.task.key some place → id ≡ get_or ids place id
id_found nodes some ids id node place graph among is found =
    let has : Contains nodes node × (node.id ≡ id) = ids_find_nodes nodes id node is in
    let same : get_or some place node ≡ node = same_key nodes (get_or some place node) node graph.ascending (contains_among nodes some ids place node among found.inside) has.0 (found.tied node) in
    sym (id_there some ids place id node among.ids_are (inside_among nodes some ids place among found.inside) ∙ ap (λ (n : Node). n.id) same ∙ has.1)

-- and taking that one out takes the node out
pub unfiled_found : (nodes some : List Node) (ids : List NodeId) (id : NodeId) (node : Node) (place : ℕ) → IsGraph nodes → IsLaneAmong nodes some ids → node_at nodes id ≡ Some node → IsFound node.task.key some place → remove ids place ≡ ids_of (without id some)
unfiled_found nodes some ids id node place graph among is found =
    unfiled nodes some ids id node place graph among is found.rank (inside_among nodes some ids place among found.inside) (id_found nodes some ids id node place graph among is found)

-- where its id stands its key is found
pub found_at_id : (nodes some : List Node) (ids : List NodeId) (id : NodeId) (node : Node) (place : ℕ) → IsGraph nodes → IsLaneAmong nodes some ids → node_at nodes id ≡ Some node → is_id_at id ids place ≡ true → IsFound node.task.key some place
found_at_id nodes some ids id node place graph among is here =
    let at : slice_get ids place ≡ Some id = id_at ids place id here in
    let inside : place < length ids = inside_at ids place id here in
    let within : place < length some = omega (arith, inside, ap length among.ids_are, length-ids some) in
    let there : id ≡ get_or ids place id = sym (get_or_from_slice_get ids place id id at) in
    found_tied node.task.key some place among.ascending within (λ d.
    let found : Some (get_or some place d) ≡ Some node = sym (among_at nodes some ids place id d graph among inside there) ∙ is in
    let same : get_or some place d ≡ node = cc in
    subst (λ (n : Node). key_cmp n.task.key node.task.key ≡ Equal) (sym same) (tied_itself key_cmp_total node.task.key))

-- where it isn't found its id isn't there
pub id_apart : (nodes some : List Node) (ids : List NodeId) (id : NodeId) (node : Node) (place : ℕ) (d : NodeId) → IsGraph nodes → IsLaneAmong nodes some ids → node_at nodes id ≡ Some node → IsGap node.task.key some place → place < length ids → get_or ids place d ≢ id
id_apart nodes some ids id node place d graph among is gap inside same =
    let within : place < length some = omega (arith, inside, ap length among.ids_are, length-ids some) in
    let there : (get_or some place node).id ≡ id = sym (id_there some ids place d node among.ids_are inside) ∙ same in
    let is_node : get_or some place node ≡ node = same_found nodes id node (get_or some place node) graph (contains_among nodes some ids place node among within) there is in
    let apart : key_cmp node.task.key node.task.key ≡ Greater = subst (λ (n : Node). key_cmp n.task.key node.task.key ≡ Greater) is_node (gap.apart node within) in
    absurd (let wrong : Equal ≡ Greater = sym (tied_itself key_cmp_total node.task.key) ∙ apart in cc)
