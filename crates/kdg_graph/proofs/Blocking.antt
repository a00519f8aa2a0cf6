-- Which nodes are blocked, which later ones are in conflict, and which of these change where a node comes or goes.
use Rattle.std.proofs.Common.{◌≡◌, ◌≢◌, Bool, true, false, not, ◌&&◌, List, [], ◌∷◌, map, Some, refl, sym, ◌∙◌, ap, subst, Contains, ◌↔◌, IsSome, filter, Less, is_lt, true≢false, ◌==◌, ℕ, Option, None, arith, inl, inr, ◌⊎◌, ◌||◌, cond, ◌++◌, eqb-true, is_some}
use Rattle.plain_laws.specs.Members.{some_passes}
use Rattle.plain_laws.specs.Bools.{same_tests}
use Rattle.plain_laws.specs.Orderings.{less_from_test}
use Rattle.rw_sets.specs.AccessLaws.{clash_where_written}
use Rattle.kdg_graph.proofs.Common.{tied_itself, AllByRecursion, key_cmp, key_cmp_total, Conflicts, conflicts_with, ConflictsAreDecided, NodeId, SetChange, Node, HasNode, HaveOwnIds, IsGraph, earlier_than, ids_of, later_than, node_at, is_blocked, is_source, laters_of, sources_of, LatersAreInConflict, LatersAreNodes, LatersMayChange, RunningNodesAreNoSources, SourcesAreNodes, SourcesAreUnblocked, AreOfOwnNodes, all_at, all_from, from_filter, from_map, in_filter, in_map, none_any, none_passes, list_any, cases_eq, false≢true, or_left, or_right, Key, IsAscending, Access, access_first, access_other, absent_beyond, ascending_first, ascending_rest, Accesses, IsAscendingSet, access_at, clash, ConflictsAreMutual, IsLaneAmong, clashes_at, clashing_at, is_blocked_at, is_first_before, is_id_at, is_at, tasks_of, cases, here, none, there, Task, allows_write, writes, put_node, front_after, up_to_writer, fronts_after, is_among, is_unblocked}
use Rattle.kdg_graph.proofs.KeyOrder.{is_before, not_itself}
use Rattle.kdg_graph.proofs.LookUps.{ids_find_nodes, nodes_have_ids, key_later}
use Rattle.kdg_graph.specs.NodeLaws.{same_id, is_at-same, not_at, own_filtered, ascending_filtered}

-- ---- which nodes are sources, and which later nodes are in conflict

-- what two look-ups of one id find is one node
pub same_found : (nodes : List Node) (id : NodeId) (node other : Node) → IsGraph nodes → Contains nodes other → other.id ≡ id → node_at nodes id ≡ Some node → other ≡ node
same_found nodes id node other graph has same is =
    let found : Some other ≡ Some node = sym (nodes_have_ids nodes other graph has) ∙ ap (node_at nodes) same ∙ is in
    cc

pub found_some : (nodes : List Node) (id : NodeId) (other : Node) → IsGraph nodes → Contains nodes other → other.id ≡ id → HasNode nodes id
found_some nodes id other graph has same = subst (HasNode nodes) same (subst IsSome (sym (nodes_have_ids nodes other graph has)) refl)

-- the ids of some of the nodes: a node's id is among them exactly where the node is
id_among : (nodes some : List Node) (id : NodeId) (node : Node) → IsGraph nodes → ((other : Node) → Contains some other → Contains nodes other) → node_at nodes id ≡ Some node → Contains (ids_of some) id ↔ Contains some node
id_among nodes some id node graph among is = (
  λ has.
      let found : (other : Node) × Contains some other × (other.id ≡ id) = from_map (λ (n : Node). n.id) some id has in
      subst (Contains some) (same_found nodes id node found.0 graph (among found.0 found.1) found.2 is) found.1,
  λ has.
      let node_is : Contains nodes node × (node.id ≡ id) = ids_find_nodes nodes id node is in
      subst (Contains (ids_of some)) node_is.1 (in_map (λ (n : Node). n.id) some node has),
)

-- ---- sources

source_among : (nodes : List Node) (other : Node) → Contains (filter (is_source nodes) nodes) other → Contains nodes other
source_among nodes other has = (from_filter (is_source nodes) nodes other has).0

pub sources_are_nodes : SourcesAreNodes
sources_are_nodes nodes id graph has =
    let found : (node : Node) × Contains (filter (is_source nodes) nodes) node × (node.id ≡ id) = from_map (λ (n : Node). n.id) (filter (is_source nodes) nodes) id has in
    found_some nodes id found.0 graph (source_among nodes found.0 found.1) found.2

both_from : (a b : Bool) → (not a && not b) ≡ true → (a ≡ false) × (b ≡ false)
both_from true b is = absurd (true≢false (sym is))
both_from false true is = absurd (true≢false (sym is))
both_from false false is = (refl, refl)

from_both : (a b : Bool) → a ≡ false → b ≡ false → (not a && not b) ≡ true
from_both a b a_is b_is = (λ i. not (a_is i) && not (b_is i))

decided_false : ConflictsAreDecided → (a b : _) (test : Bool) → conflicts_with a b ≡ test → (Conflicts a b → ⊥) → test ≡ false
decided_false decided a b true is differ = absurd (differ ((decided a b).0 is))
decided_false decided a b false is differ = refl

conflict_free : ConflictsAreDecided → (a b : _) → conflicts_with a b ≡ false → Conflicts a b → ⊥
conflict_free decided a b is clash = true≢false (sym ((decided a b).1 clash) ∙ is)

-- no earlier node is in conflict
abbrev IsUnblockedIn : List Node → Node → Type 0
IsUnblockedIn nodes node = (other : Node) → Contains nodes other → key_cmp other.task.key node.task.key ≡ Less → Conflicts other.set node.set → ⊥

unblocked_from : ConflictsAreDecided → (nodes : List Node) (node : Node) → is_blocked nodes node ≡ false → IsUnblockedIn nodes node
unblocked_from decided nodes node is other has earlier =
    let among : Contains (earlier_than node.task.key nodes) other = in_filter (λ (n : Node). is_lt (key_cmp n.task.key node.task.key)) nodes other has (ap is_lt earlier) in
    conflict_free decided other.set node.set (none_passes (λ (n : Node). conflicts_with n.set node.set) (earlier_than node.task.key nodes) other is among)

from_unblocked : ConflictsAreDecided → (nodes : List Node) (node : Node) → IsUnblockedIn nodes node → is_blocked nodes node ≡ false
from_unblocked decided nodes node free = none_any (λ (n : Node). conflicts_with n.set node.set) (earlier_than node.task.key nodes) (λ other has.
    let was : Contains nodes other × (is_lt (key_cmp other.task.key node.task.key) ≡ true) = from_filter (λ (n : Node). is_lt (key_cmp n.task.key node.task.key)) nodes other has in
    decided_false decided other.set node.set _ refl (free other was.0 (less_from_test _ was.1)))

pub sources_are_unblocked : ConflictsAreDecided → SourcesAreUnblocked
sources_are_unblocked decided nodes id node graph is =
    let among : Contains (sources_of nodes) id ↔ Contains (filter (is_source nodes) nodes) node = id_among nodes (filter (is_source nodes) nodes) id node graph (source_among nodes) is in (
      λ has.
          let tests : (node.running ≡ false) × (is_blocked nodes node ≡ false) = both_from node.running (is_blocked nodes node) (from_filter (is_source nodes) nodes node (among.0 has)).1 in
          (tests.0, unblocked_from decided nodes node tests.1),
      λ free. among.1 (in_filter (is_source nodes) nodes node (ids_find_nodes nodes id node is).0 (from_both node.running (is_blocked nodes node) free.0 (from_unblocked decided nodes node free.1))),
    )

pub running_nodes_are_no_sources : ConflictsAreDecided → RunningNodesAreNoSources
running_nodes_are_no_sources decided nodes id node graph is running has = true≢false (sym running ∙ ((sources_are_unblocked decided nodes id node graph is).0 has).0)

-- ---- later nodes

abbrev is_later : Node → Node → Bool
is_later node other = is_lt (key_cmp node.task.key other.task.key)

abbrev in_conflict : Node → Node → Bool
in_conflict node other = conflicts_with node.set other.set

abbrev conflicting : List Node → Node → List Node
conflicting nodes node = filter (in_conflict node) (later_than node.task.key nodes)

from_conflicting : (nodes : List Node) (node other : Node) → Contains (conflicting nodes node) other → Contains nodes other × (is_later node other ≡ true) × (in_conflict node other ≡ true)
from_conflicting nodes node other has =
    let clash : Contains (later_than node.task.key nodes) other × (in_conflict node other ≡ true) = from_filter (in_conflict node) (later_than node.task.key nodes) other has in
    let later : Contains nodes other × (is_later node other ≡ true) = from_filter (is_later node) nodes other clash.0 in
    (later.0, later.1, clash.1)

later_among : (nodes : List Node) (node other : Node) → Contains (conflicting nodes node) other → Contains nodes other
later_among nodes node other has = (from_conflicting nodes node other has).0

pub laters_are_nodes : LatersAreNodes
laters_are_nodes nodes node id graph has =
    let found : (other : Node) × Contains (conflicting nodes node) other × (other.id ≡ id) = from_map (λ (n : Node). n.id) (conflicting nodes node) id has in
    found_some nodes id found.0 graph (later_among nodes node found.0 found.1) found.2

pub laters_are_in_conflict : ConflictsAreDecided → LatersAreInConflict
laters_are_in_conflict decided nodes node id later graph is =
    let among : Contains (laters_of nodes node) id ↔ Contains (conflicting nodes node) later = id_among nodes (conflicting nodes node) id later graph (later_among nodes node) is in (
      λ has.
          let tests = from_conflicting nodes node later (among.0 has) in
          (less_from_test _ tests.1, (decided node.set later.set).0 tests.2),
      λ both. among.1 (in_filter (in_conflict node) (later_than node.task.key nodes) later (in_filter (is_later node) nodes later (ids_find_nodes nodes id later is).0 (ap is_lt both.0)) ((decided node.set later.set).1 both.1)),
    )

-- ---- changes of later nodes

differ_as : (changes : List SetChange) (some : List Node) (id other : NodeId) → map (λ change. change.node) changes ≡ ids_of some → id ≡ other → AllByRecursion (λ (node : Node). node.id ≢ other) some → AllByRecursion (λ (change : SetChange). change.node ≢ id) changes
differ_as [] some id other same is all = tt
differ_as (change ∷ changes) [] id other same is all = absurd (let f : change.node ∷ map (λ (c : SetChange). c.node) changes ≡ [] = same in cc)
differ_as (change ∷ changes) (node ∷ some) id other same is all =
    let first : change.node ≡ node.id = cc in
    let rest : map (λ (c : SetChange). c.node) changes ≡ ids_of some = cc in
    ((λ equal. all.0 (sym first ∙ equal ∙ is)), differ_as changes some id other rest is all.1)

own_nodes : (changes : List SetChange) (some : List Node) → map (λ change. change.node) changes ≡ ids_of some → HaveOwnIds some → AreOfOwnNodes changes
own_nodes [] some same own = tt
own_nodes (change ∷ changes) [] same own = absurd (let f : change.node ∷ map (λ (c : SetChange). c.node) changes ≡ [] = same in cc)
own_nodes (change ∷ changes) (node ∷ some) same own =
    let first : change.node ≡ node.id = cc in
    let rest : map (λ (c : SetChange). c.node) changes ≡ ids_of some = cc in
    (differ_as changes some change.node node.id rest first own.0, own_nodes changes some rest own.1)

each_named : (P : NodeId → Type 0) (changes : List SetChange) (ids : List NodeId) → map (λ change. change.node) changes ≡ ids → ((id : NodeId) → Contains ids id → P id) → AllByRecursion (λ (change : SetChange). P change.node) changes
each_named P changes ids same each =
    all_from (λ (change : SetChange). P change.node) changes (λ change has. each change.node (subst (λ (l : List NodeId). Contains l change.node) same (in_map (λ (c : SetChange). c.node) changes change has)))

not_ended : (nodes : List Node) (ended : NodeId) (node : Node) (id : NodeId) → IsGraph nodes → node_at nodes ended ≡ Some node → Contains (laters_of nodes node) id → id ≢ ended
not_ended nodes ended node id graph is has same =
    let found : (other : Node) × Contains (conflicting nodes node) other × (other.id ≡ id) = from_map (λ (n : Node). n.id) (conflicting nodes node) id has in
    let tests = from_conflicting nodes node found.0 found.1 in
    let itself : found.0 ≡ node = same_found nodes ended node found.0 graph tests.0 (found.2 ∙ same) is in
    let later : is_lt (key_cmp node.task.key node.task.key) ≡ true = ap (λ (n : Node). is_lt (key_cmp node.task.key n.task.key)) (sym itself) ∙ tests.1 in
    true≢false (sym later ∙ ap is_lt (tied_itself key_cmp_total node.task.key))

pub laters_may_change : LatersMayChange
laters_may_change nodes ended node changes graph is same = record {
  there = each_named (HasNode nodes) changes (laters_of nodes node) same (λ id has. laters_are_nodes nodes node id graph has);
  stay = each_named (λ id. id ≢ ended) changes (laters_of nodes node) same (λ id has. not_ended nodes ended node id graph is has);
  own = own_nodes changes (conflicting nodes node) same (own_filtered (in_conflict node) (later_than node.task.key nodes) (own_filtered (is_later node) nodes graph.own_ids));
}

-- ---- some of a list

pub any_from : {X : Type 0} (p : X → Bool) (xs : List X) (x : X) → Contains xs x → p x ≡ true → list_any p xs ≡ true
any_from p [] x has is = absurd (none x has)
any_from p (y ∷ xs) x has is = elim (cases y x xs has) [
  | inl same ↦ or_left (p y) (list_any p xs) (ap p same ∙ is)
  | inr later ↦ or_right (p y) (list_any p xs) (any_from p xs x later is)
]

-- ---- the pairs of a set

pub pair_of : (ps : Accesses) (loc : ℕ) (access : Access) → access_at ps loc ≡ Some access → Contains ps (loc, access)
pair_of [] loc access is = absurd cc
pair_of (p ∷ ps) loc access is = elim (cases_eq p.0 loc) [
  | inl same ↦
      let found : Some p.1 ≡ Some access = sym (access_first p ps loc same) ∙ is in
      let second : p.1 ≡ access = cc in
      subst (λ (q : ℕ × Access). Contains (p ∷ ps) q) (λ i. (same i, second i)) (here p ps)
  | inr differs ↦ there p (loc, access) ps (pair_of ps loc access (sym (access_other p ps loc differs) ∙ is))
]

pub access_of : (ps : Accesses) (p : ℕ × Access) → IsAscendingSet ps → Contains ps p → access_at ps p.0 ≡ Some p.1
access_of [] p up has = absurd (none p has)
access_of (q ∷ ps) p up has = elim (cases q p ps has) [
  | inl same ↦ access_first q ps p.0 (ap (λ (r : ℕ × Access). r.0) same) ∙ ap (λ (r : ℕ × Access). Some r.1) same
  | inr later ↦
      access_other q ps p.0 (λ same. (let found : None ≡ Some p.1 = sym (ap (access_at ps) (sym same) ∙ absent_beyond q.0 q.0 ps (omega arith) (ascending_first q ps up)) ∙ access_of ps p (ascending_rest q ps up) later in absurd cc))
      ∙ access_of ps p (ascending_rest q ps up) later
]

pub has_access : (x y : Option Access) → clash x y ≡ true → (access : Access) × (x ≡ Some access)
has_access None y is = absurd (false≢true is)
has_access (Some access) y is = (access, refl)

-- ---- the first of some nodes

pub first_before : (key : Key) (nodes : List Node) (other : Node) → IsAscending (tasks_of nodes) → Contains nodes other → is_before key other ≡ true → is_first_before key nodes ≡ true
first_before key [] other up has is = absurd (none other has)
first_before key (first ∷ nodes) other up has is = elim (cases first other nodes has) [
  | inl same ↦ ap (is_before key) same ∙ is
  | inr later ↦ ap is_lt (key_cmp_total.trans first.task.key other.task.key key (key_later first nodes other up.0 later) (less_from_test _ is))
]

pub before_first : (key : Key) (nodes : List Node) → is_first_before key nodes ≡ true → (first : Node) × Contains nodes first × (is_before key first ≡ true)
before_first key [] is = absurd (false≢true is)
before_first key (first ∷ nodes) is = (first, here first nodes, is)

-- a node that stands among some is behind another exactly where its id isn't the first
pub behind_first : (nodes some : List Node) (ids : List NodeId) (id : NodeId) (node : Node) → IsGraph nodes → IsLaneAmong nodes some ids → node_at nodes id ≡ Some node → Contains some node → not (is_id_at id ids 0) ≡ is_first_before node.task.key some
behind_first nodes [] ids id node graph among is has = absurd (none node has)
behind_first nodes (first ∷ rest) [] id node graph among is has = absurd (let wrong : first.id ∷ ids_of rest ≡ [] = sym among.ids_are in cc)
behind_first nodes (first ∷ rest) (top ∷ ids) id node graph among is has =
    let top_is : top ≡ first.id = (let same : top ∷ ids ≡ first.id ∷ ids_of rest = among.ids_are in cc) in
    let its_id : node.id ≡ id = (ids_find_nodes nodes id node is).1 in
    elim (cases first node rest has) [
      | inl same ↦
          let here : is_at id first ≡ true = is_at-same id first (ap (λ (n : Node). n.id) same ∙ its_id) in
          ap (λ (other : NodeId). not (other.at == id.at)) top_is ∙ ap not here ∙ sym (ap (λ (n : Node). is_before node.task.key n) same ∙ not_itself node.task.key)
      | inr later ↦
          let less : key_cmp first.task.key node.task.key ≡ Less = key_later first rest node among.ascending.0 later in
          let apart : is_at id first ≡ false = not_at id first (λ same.
          let is_node : first ≡ node = same_found nodes id node first graph among.there.0 same is in
          let itself : is_before node.task.key node ≡ true = ap (is_before node.task.key) (sym is_node) ∙ ap is_lt less in
          absurd (false≢true (sym (not_itself node.task.key) ∙ itself))) in
          ap (λ (other : NodeId). not (other.at == id.at)) top_is ∙ ap not apart ∙ sym (ap is_lt less)
    ]

-- ---- the node is blocked at a location

blocked_somewhere : ConflictsAreDecided → ConflictsAreMutual → (nodes : List Node) (node : Node) → IsAscending (tasks_of nodes) → is_blocked nodes node ≡ true → list_any (is_blocked_at nodes node) node.set ≡ true
blocked_somewhere decided both_ways nodes node up is =
    let key : Key = node.task.key in
    let found : (other : Node) × Contains (earlier_than key nodes) other × (conflicts_with other.set node.set ≡ true) = some_passes (λ (other : Node). conflicts_with other.set node.set) (earlier_than key nodes) is in
    let other : Node = found.0 in
    let earlier : Contains nodes other × (is_before key other ≡ true) = from_filter (is_before key) nodes other found.1 in
    let conflict : Conflicts node.set other.set = both_ways other.set node.set ((decided other.set node.set).0 found.2) in
    let loc : ℕ = conflict.0 in
    let has : (access : Access) × (access_at node.set loc ≡ Some access) = has_access (access_at node.set loc) (access_at other.set loc) conflict.1 in
    let access : Access = has.0 in
    let clashes : clashes_at loc access other ≡ true = ap (λ found. clash found (access_at other.set loc)) (sym has.1) ∙ conflict.1 in
    any_from (is_blocked_at nodes node) node.set (loc, access) (pair_of node.set loc access has.1)
    (first_before key (clashing_at loc access nodes) other (ascending_filtered (clashes_at loc access) nodes up) (in_filter (clashes_at loc access) nodes other earlier.0 clashes) earlier.1)

blocked_there : ConflictsAreDecided → ConflictsAreMutual → (nodes : List Node) (node : Node) → IsAscendingSet node.set → list_any (is_blocked_at nodes node) node.set ≡ true → is_blocked nodes node ≡ true
blocked_there decided both_ways nodes node up is =
    let key : Key = node.task.key in
    let found : (p : ℕ × Access) × Contains node.set p × (is_blocked_at nodes node p ≡ true) = some_passes (is_blocked_at nodes node) node.set is in
    let p : ℕ × Access = found.0 in
    let first : (other : Node) × Contains (clashing_at p.0 p.1 nodes) other × (is_before key other ≡ true) = before_first key (clashing_at p.0 p.1 nodes) found.2 in
    let other : Node = first.0 in
    let among : Contains nodes other × (clashes_at p.0 p.1 other ≡ true) = from_filter (clashes_at p.0 p.1) nodes other first.1 in
    let conflict : Conflicts node.set other.set = (p.0, ap (λ found. clash found (access_at other.set p.0)) (access_of node.set p up found.1) ∙ among.1) in
    any_from (λ (n : Node). conflicts_with n.set node.set) (earlier_than key nodes) other (in_filter (is_before key) nodes other among.0 first.2) ((decided other.set node.set).1 (both_ways node.set other.set conflict))

pub blocked_by_first : ConflictsAreDecided → ConflictsAreMutual → (nodes : List Node) (node : Node) → IsAscending (tasks_of nodes) → IsAscendingSet node.set → is_blocked nodes node ≡ list_any (is_blocked_at nodes node) node.set
blocked_by_first decided both_ways nodes node up set_up = same_tests (is_blocked nodes node) (list_any (is_blocked_at nodes node) node.set) (blocked_somewhere decided both_ways nodes node up) (blocked_there decided both_ways nodes node set_up)

-- ---- one node more among the earlier ones

or_later : (first more rest : Bool) → (first || (more || rest)) ≡ (more || (first || rest))
or_later true true rest = refl
or_later true false rest = refl
or_later false more rest = refl

-- a test of some of the nodes, where there is one more
any_put : (some test : Node → Bool) (new : Node) (nodes : List Node) → list_any test (filter some (put_node new nodes)) ≡ ((some new && test new) || list_any test (filter some nodes))
any_put some test new [] = elim (some new) as (λ b. list_any test (cond b (new ∷ []) []) ≡ ((b && test new) || false)) [ true ↦ refl | false ↦ refl ]
any_put some test new (node ∷ nodes) =
    let rest : List Node = filter some nodes in
    elim (is_before new.task.key node) as (λ b. list_any test (filter some (cond b (node ∷ put_node new nodes) (new ∷ node ∷ nodes))) ≡ ((some new && test new) || list_any test (filter some (node ∷ nodes)))) [
      | true ↦
          elim (some node) as (λ b. list_any test (cond b (node ∷ filter some (put_node new nodes)) (filter some (put_node new nodes))) ≡ ((some new && test new) || list_any test (cond b (node ∷ rest) rest))) [
            | true ↦ ap (λ b. test node || b) (any_put some test new nodes) ∙ or_later (test node) (some new && test new) (list_any test rest)
            | false ↦ any_put some test new nodes
          ]
      | false ↦ elim (some new) as (λ b. list_any test (cond b (new ∷ filter some (node ∷ nodes)) (filter some (node ∷ nodes))) ≡ ((b && test new) || list_any test (filter some (node ∷ nodes)))) [ true ↦ refl | false ↦ refl ]
    ]

-- a node is blocked by one more exactly where that is earlier and in conflict with it
pub blocked_put : (new : Node) (nodes : List Node) (node : Node) → is_blocked (put_node new nodes) node ≡ ((is_before node.task.key new && conflicts_with new.set node.set) || is_blocked nodes node)
blocked_put new nodes node = any_put (is_before node.task.key) (λ other. conflicts_with other.set node.set) new nodes

-- ---- conflicts and locations

clash_named : (a b : Option Access) → clash a b ≡ true → is_some b ≡ true
clash_named None b is = absurd (true≢false (sym is))
clash_named (Some x) None is = absurd (true≢false (sym is))
clash_named (Some x) (Some y) is = refl

-- a test of a location that a set names
named_passes : (test : ℕ → Bool) (loc : ℕ) (set : Accesses) → allows_write (access_at set loc) ≡ true → test loc ≡ true → list_any (λ (p : ℕ × Access). test p.0) set ≡ true
named_passes test loc [] is passes = absurd (true≢false (sym is))
named_passes test loc (p ∷ set) is passes =
    let by_case : (same : Bool) → (p.0 == loc) ≡ same → allows_write (cond same (Some p.1) (access_at set loc)) ≡ true → (test p.0 || list_any (λ (q : ℕ × Access). test q.0) set) ≡ true = elim [
      | true ↦ λ same _. ap (λ b. b || list_any (λ (q : ℕ × Access). test q.0) set) (ap test (eqb-true p.0 loc same) ∙ passes)
      | false ↦ λ _ later. elim (test p.0) as (λ b. (b || list_any (λ (q : ℕ × Access). test q.0) set) ≡ true) [ true ↦ refl | false ↦ named_passes test loc set later passes ]
    ] in
    by_case (p.0 == loc) refl is

-- who writes a location is in conflict with all who name it
pub writer_conflicts : (loc : ℕ) (writer set : Accesses) → writes writer loc ≡ true → is_some (access_at set loc) ≡ true → conflicts_with writer set ≡ true
writer_conflicts loc writer set is named = named_passes (λ at. clash (access_at writer at) (access_at set at)) loc writer is (clash_where_written (access_at writer loc) (access_at set loc) is named)

-- where two sets conflict, one of the pairs of the first clashes with the second
abbrev pub ClashingPair : Accesses → Accesses → Type 0
ClashingPair a b = (p : ℕ × Access) × Contains a p × (clash (Some p.1) (access_at b p.0) ≡ true)

pub clashing_pair : (a b : Accesses) → conflicts_with a b ≡ true → ClashingPair a b
clashing_pair a b is =
    let met = some_passes (λ (p : ℕ × Access). clash (access_at a p.0) (access_at b p.0)) a is in
    let loc : ℕ = met.0.0 in
    let has = has_access (access_at a loc) (access_at b loc) met.2 in
    ((loc, has.0), pair_of a loc has.0 has.1, ap (λ found. clash found (access_at b loc)) (sym has.1) ∙ met.2)

-- ---- the front

pub all_tasks : (P : Task → Type 0) (nodes : List Node) (node : Node) → AllByRecursion P (tasks_of nodes) → Contains nodes node → P node.task
all_tasks P nodes node all has = all_at P (tasks_of nodes) node.task all (in_map (λ (n : Node). n.task) nodes node has)

-- a writer that is earlier than the node
abbrev EarlierWriter : ℕ → List Node → Node → Type 0
EarlierWriter loc nodes node = (writer : Node) × Contains nodes writer × (writes writer.set loc ≡ true) × (key_cmp writer.task.key node.task.key ≡ Less)

-- who isn't in the front has a writer before it
front_or_writer : (loc : ℕ) (nodes : List Node) (node : Node) → IsAscending (tasks_of nodes) → Contains nodes node → Contains (up_to_writer loc nodes) node ⊎ EarlierWriter loc nodes node
front_or_writer loc [] node up has = absurd (none node has)
front_or_writer loc (first ∷ nodes) node up has =
    let front : List Node = up_to_writer loc nodes in
    let by_case : (test : Bool) → writes first.set loc ≡ test → (first ≡ node) ⊎ Contains nodes node → Contains (first ∷ cond test [] front) node ⊎ EarlierWriter loc (first ∷ nodes) node = elim [
      | true ↦ λ is c. elim c [
        | inl same ↦ inl (subst (λ (n : Node). Contains (first ∷ []) n) same (here first []))
        | inr later ↦ inr (first, here first nodes, is, all_tasks (λ task. key_cmp first.task.key task.key ≡ Less) nodes node up.0 later)
      ]
      | false ↦ λ _ c. elim c [
        | inl same ↦ inl (subst (λ (n : Node). Contains (first ∷ front) n) same (here first front))
        | inr later ↦ elim (front_or_writer loc nodes node up.1 later) [
          | inl among ↦ inl (there first node front among)
          | inr behind ↦ inr (behind.0, there first behind.0 nodes behind.1, behind.2, behind.3)
        ]
      ]
    ] in
    by_case (writes first.set loc) refl (cases first node nodes has)

in_left : {X : Type 0} (xs ys : List X) (x : X) → Contains xs x → Contains (xs ++ ys) x
in_left [] ys x has = absurd (none x has)
in_left {X} (y ∷ xs) ys x has = elim (cases y x xs has) [ inl same ↦ subst (λ (z : X). Contains (y ∷ xs ++ ys) z) same (here y (xs ++ ys)) | inr later ↦ there y x (xs ++ ys) (in_left xs ys x later) ]

in_right : {X : Type 0} (xs ys : List X) (x : X) → Contains ys x → Contains (xs ++ ys) x
in_right [] ys x has = has
in_right (y ∷ xs) ys x has = there y x (xs ++ ys) (in_right xs ys x has)

in_fronts : (set : Accesses) (p : ℕ × Access) (key : Key) (nodes : List Node) (node : Node) → Contains set p → Contains (front_after p.0 p.1 key nodes) node → Contains (fronts_after set key nodes) node
in_fronts [] p key nodes node has among = absurd (none p has)
in_fronts (q ∷ set) p key nodes node has among = elim (cases q p set has) [
  | inl same ↦ in_left (front_after q.0 q.1 key nodes) (fronts_after set key nodes) node (subst (λ (r : ℕ × Access). Contains (front_after r.0 r.1 key nodes) node) (sym same) among)
  | inr later ↦ in_right (front_after q.0 q.1 key nodes) (fronts_after set key nodes) node (in_fronts set p key nodes node later among)
]

pub among_ids : (nodes : List Node) (node : Node) → Contains nodes node → is_among (ids_of nodes) node ≡ true
among_ids nodes node has = any_from (λ id. is_at id node) (ids_of nodes) node.id (in_map (λ (n : Node). n.id) nodes node has) (is_at-same node.id node refl)

-- a later node that one of the pairs clashes with is in the fronts, or else blocked by others
pub met_in_front : (key : Key) (pairs : Accesses) (p : ℕ × Access) (nodes : List Node) (node : Node) → IsAscending (tasks_of nodes) → Contains nodes node → is_among (ids_of (fronts_after pairs key nodes)) node ≡ false → Contains pairs p → clash (Some p.1) (access_at node.set p.0) ≡ true
    → is_lt (key_cmp key node.task.key) ≡ true → is_blocked nodes node ≡ true
met_in_front key pairs p nodes node up has outside named met later =
    let loc : ℕ = p.0 in
    let access : Access = p.1 in
    let is_later : Node → Bool = λ other. is_lt (key_cmp key other.task.key) in
    let behind : List Node = later_than key nodes in
    let clashing : List Node = clashing_at loc access behind in
    let among : Contains clashing node = in_filter (clashes_at loc access) behind node (in_filter is_later nodes node has later) met in
    let ascends : IsAscending (tasks_of clashing) = ascending_filtered (clashes_at loc access) behind (ascending_filtered is_later nodes up) in
    elim (front_or_writer loc clashing node ascends among) [
      | inl front ↦ absurd (true≢false (sym (among_ids (fronts_after pairs key nodes) node (in_fronts pairs p key nodes node named front)) ∙ outside))
      | inr writer ↦
          let there_behind : Contains behind writer.0 = (from_filter (clashes_at loc access) behind writer.0 writer.1).0 in
          let in_nodes : Contains nodes writer.0 = (from_filter is_later nodes writer.0 there_behind).0 in
          let conflicts : conflicts_with writer.0.set node.set ≡ true = writer_conflicts loc writer.0.set node.set writer.2 (clash_named (Some access) (access_at node.set loc) met) in
          any_from (λ (other : Node). conflicts_with other.set node.set) (earlier_than node.task.key nodes) writer.0 (in_filter (is_before node.task.key) nodes writer.0 in_nodes (ap is_lt writer.3)) conflicts
    ]

-- and so is one in conflict
conflict_in_front : (new : Node) (nodes : List Node) (node : Node) → IsAscending (tasks_of nodes) → Contains nodes node → is_among (ids_of (fronts_after new.set new.task.key nodes)) node ≡ false
    → is_before node.task.key new ≡ true → conflicts_with new.set node.set ≡ true → is_blocked nodes node ≡ true
conflict_in_front new nodes node up has outside later conflict =
    let met : ClashingPair new.set node.set = clashing_pair new.set node.set conflict in
    met_in_front new.task.key new.set met.0 nodes node up has outside met.1 met.2 later

-- only the fronts behind a node see whether it is there
pub blocked_outside : (new : Node) (nodes : List Node) (node : Node) → IsAscending (tasks_of nodes) → Contains nodes node → is_among (ids_of (fronts_after new.set new.task.key nodes)) node ≡ false → is_blocked (put_node new nodes) node ≡ is_blocked nodes node
blocked_outside new nodes node up has outside =
    let by_case : (later conflict : Bool) → is_before node.task.key new ≡ later → conflicts_with new.set node.set ≡ conflict → ((later && conflict) || is_blocked nodes node) ≡ is_blocked nodes node = elim [
      | true ↦ elim [ true ↦ λ later conflict. sym (conflict_in_front new nodes node up has outside later conflict) | false ↦ λ _ _. refl ]
      | false ↦ λ _ _ _. refl
    ] in
    blocked_put new nodes node ∙ by_case _ _ refl refl

pub unblocked_outside : (new : Node) (nodes : List Node) (node : Node) → IsAscending (tasks_of nodes) → Contains nodes node → is_among (ids_of (fronts_after new.set new.task.key nodes)) node ≡ false → is_unblocked (put_node new nodes) node ≡ is_unblocked nodes node
unblocked_outside new nodes node up has outside = ap not (blocked_outside new nodes node up has outside)

-- ---- who is in a front is blocked

from_append : {X : Type 0} (xs ys : List X) (x : X) → Contains (xs ++ ys) x → Contains xs x ⊎ Contains ys x
from_append [] ys x has = inr has
from_append {X} (y ∷ xs) ys x has = elim (cases y x (xs ++ ys) has) [
  | inl same ↦ inl (subst (λ (z : X). Contains (y ∷ xs) z) same (here y xs))
  | inr later ↦ elim (from_append xs ys x later) [ inl first ↦ inl (there y x xs first) | inr second ↦ inr second ]
]

pub from_fronts : (set : Accesses) (key : Key) (nodes : List Node) (node : Node) → Contains (fronts_after set key nodes) node → (p : ℕ × Access) × Contains set p × Contains (front_after p.0 p.1 key nodes) node
from_fronts [] key nodes node has = absurd (none node has)
from_fronts (p ∷ set) key nodes node has = elim (from_append (front_after p.0 p.1 key nodes) (fronts_after set key nodes) node has) [
  | inl first ↦ (p, here p set, first)
  | inr later ↦ let rest : (q : ℕ × Access) × Contains set q × Contains (front_after q.0 q.1 key nodes) node = from_fronts set key nodes node later in (rest.0, there p rest.0 set rest.1, rest.2)
]

pub from_up_to : (loc : ℕ) (nodes : List Node) (node : Node) → Contains (up_to_writer loc nodes) node → Contains nodes node
from_up_to loc [] node has = has
from_up_to loc (first ∷ nodes) node has = elim (cases first node (cond (writes first.set loc) [] (up_to_writer loc nodes)) has) [
  | inl same ↦ subst (λ (n : Node). Contains (first ∷ nodes) n) same (here first nodes)
  | inr later ↦ there first node nodes (elim (writes first.set loc) as (λ last. Contains (cond last [] (up_to_writer loc nodes)) node → Contains nodes node) [ true ↦ λ is. absurd (none node is) | false ↦ from_up_to loc nodes node ] later)
]

-- the fronts are some of the nodes
pub fronts_are_nodes : (set : Accesses) (key : Key) (nodes : List Node) (node : Node) → Contains (fronts_after set key nodes) node → Contains nodes node
fronts_are_nodes set key nodes node has =
    let pair : (p : ℕ × Access) × Contains set p × Contains (front_after p.0 p.1 key nodes) node = from_fronts set key nodes node has in
    let loc : ℕ = pair.0.0 in
    let behind : List Node = later_than key nodes in
    let clashes : Contains behind node × (clashes_at loc pair.0.1 node ≡ true) = from_filter (clashes_at loc pair.0.1) behind node (from_up_to loc (clashing_at loc pair.0.1 behind) node pair.2) in
    (from_filter (λ other. is_lt (key_cmp key other.task.key)) nodes node clashes.0).0

-- the fronts behind a node that is there are blocked by it
pub blocked_front : (new : Node) (nodes : List Node) (node : Node) → IsGraph nodes → Contains nodes new → Contains nodes node → is_among (ids_of (fronts_after new.set new.task.key nodes)) node ≡ true → is_unblocked nodes node ≡ false
blocked_front new nodes node graph has has_node among =
    let key : Key = new.task.key in
    let is_later : Node → Bool = λ other. is_lt (key_cmp key other.task.key) in
    let fronts : List Node = fronts_after new.set key nodes in
    let id : (i : NodeId) × Contains (ids_of fronts) i × (is_at i node ≡ true) = some_passes (λ i. is_at i node) (ids_of fronts) among in
    let one : (n : Node) × Contains fronts n × (n.id ≡ id.0) = from_map (λ (n : Node). n.id) fronts id.0 id.1 in
    let pair : (p : ℕ × Access) × Contains new.set p × Contains (front_after p.0 p.1 key nodes) one.0 = from_fronts new.set key nodes one.0 one.1 in
    let loc : ℕ = pair.0.0 in
    let clashes : Contains (later_than key nodes) one.0 × (clashes_at loc pair.0.1 one.0 ≡ true) =
    from_filter (clashes_at loc pair.0.1) (later_than key nodes) one.0 (from_up_to loc (clashing_at loc pair.0.1 (later_than key nodes)) one.0 pair.2) in
    let later : Contains nodes one.0 × (is_later one.0 ≡ true) = from_filter is_later nodes one.0 clashes.0 in
    let same : one.0 ≡ node = same_found nodes node.id node one.0 graph later.0 (one.2 ∙ sym (same_id id.0 node id.2)) (nodes_have_ids nodes node graph has_node) in
    let named : access_at new.set loc ≡ Some pair.0.1 = access_of new.set pair.0 (all_at (λ (n : Node). IsAscendingSet n.set) nodes new graph.sets has) pair.1 in
    let clash_is : clash (access_at new.set loc) (access_at node.set loc) ≡ true = ap (λ found. clash found (access_at node.set loc)) named ∙ ap (clashes_at loc pair.0.1) (sym same) ∙ clashes.1 in
    let conflict : conflicts_with new.set node.set ≡ true = any_from (λ (p : ℕ × Access). clash (access_at new.set p.0) (access_at node.set p.0)) new.set pair.0 pair.1 clash_is in
    ap not (any_from (λ (other : Node). conflicts_with other.set node.set) (earlier_than node.task.key nodes) new (in_filter (is_before node.task.key) nodes new has (ap is_later (sym same) ∙ later.1)) conflict)
