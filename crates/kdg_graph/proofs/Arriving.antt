-- What is known of the nodes before and behind one that comes or goes.
use Rattle.std.proofs.Common.{◌≡◌, ◌≢◌, inl, inr, ℕ, zero, suc, ◌<◌, ◌≤◌, Bool, true, false, not, List, [], ◌∷◌, length, get_or, Option, Some, None, refl, sym, ◌∙◌, ap, subst, arith, eqb-true, ltb, ◌==◌, Contains, IfSome, filter, is_lt, ltb-true, true≢false, ◌++◌, set, ltb-false}
use Rattle.plain_laws.specs.Orderings.{less_from_test}
use Rattle.plain_laws.specs.Lists.{empty_from_length}
use Rattle.kdg_graph.proofs.Common.{AreFiledWith, put_if, AllByRecursion, false_from_ne_true, Key, key_cmp_total, Access, Read, Write, Accesses, Conflicts, IsAscendingSet, access_at, clash, conflicts_with, ConflictsAreDecided, ConflictsAreMutual, NodeId, is_blocked, BlocksNoneAlone, fronts_after, stoppers, IsRank, clashes_at, clashing_at, front_after, is_blocked_at, is_first_before, up_to_writer, Node, IsGraph, earlier_than, ids_of, is_at, later_than, node_at, without, all_from, from_filter, here, in_filter, none, none_any, Contains-get_or, IsAscending, IsRankPast, Location, ids_for, tasks_of, is_unblocked, all_at, cases, none_passes}
use Rattle.kdg_graph.proofs.Blocking.{access_of, any_from, before_first, blocked_by_first, from_fronts, from_up_to, same_found, first_before}
use Rattle.kdg_graph.proofs.Filing.{again, named_by, lane_changed}
use Rattle.kdg_graph.proofs.KeyOrder.{dropped, kept, is_before, not_itself, earlier_not_past, is_past, rank_rest, filters_commute}
use Rattle.kdg_graph.proofs.Lanes.{length-ids}
use Rattle.kdg_graph.proofs.LookUps.{ids_find_nodes, key_later}
use Rattle.kdg_graph.specs.NodeLaws.{ascending_filtered, is_at-same, not_at}

-- ---- its place among some nodes

-- at the first place none is earlier
pub none_earlier : (key : Key) (some : List Node) (place : ℕ) → place ≡ 0 → IsRank key some place → earlier_than key some ≡ []
none_earlier key [] place first rank = refl
none_earlier key (node ∷ some) place first rank =
    let rest : IsRank key some 0 = record {
      inside = omega arith;
      point = ((λ k d from upto. absurd (omega (arith, upto))), (λ k d from upto. rank.point.1 (suc k) d (omega (arith, first)) (omega (arith, upto))));
    } in
    dropped (is_before key) node some (rank.point.1 0 node (omega (arith, first)) (omega arith)) ∙ none_earlier key some 0 refl rest

-- behind the last none is later
pub none_later : (key : Key) (some : List Node) (place : ℕ) → length some ≤ place → IsRank key some place → later_than key some ≡ []
none_later key [] place last rank = refl
none_later key (node ∷ some) zero last rank = absurd (omega (arith, last))
none_later key (node ∷ some) (suc place) last rank =
    dropped (is_past key) node some (earlier_not_past key node (rank.point.0 0 node (omega arith) (omega arith))) ∙ none_later key some place (omega (arith, last)) (rank_rest key node some place rank)

-- behind the first place some are
pub some_earlier : (key : Key) (some : List Node) (place : ℕ) → 0 < place → IsRank key some place → earlier_than key some ≢ []
some_earlier key [] place behind rank none = absurd (omega (arith, behind, rank.inside))
some_earlier key (node ∷ some) place behind rank none =
    let wrong : node ∷ earlier_than key some ≡ [] = sym (kept (is_before key) node some (rank.point.0 0 node (omega arith) (omega (arith, behind)))) ∙ none in
    cc

-- so by the test of the place
pub first_if : (found : Option Node) (some : List Node) (place : ℕ) → IfSome found (λ node. IsRank node.task.key some place) → IfSome found (λ node. (place == 0) ≡ true → earlier_than node.task.key some ≡ [])
first_if None some place rank = tt
first_if (Some node) some place rank = λ is. none_earlier node.task.key some place (eqb-true place 0 is) rank

pub blocked_if : (A : Type 0) (found : Option Node) (some : List Node) (place : ℕ) (access : Access) → IfSome found (λ node. IsRank node.task.key some place) → (A → (0 < place) × (access ≡ Write)) → IfSome found (λ node. A → (access ≡ Write) × (earlier_than node.task.key some ≢ []))
blocked_if A None some place access rank told = tt
blocked_if A (Some node) some place access rank told = λ is. ((told is).1, some_earlier node.task.key some place (told is).0 rank)

pub last_if : (A : Type 0) (found : Option Node) (access : Access) (some writers : List Node) (ids : List NodeId) (place others : ℕ) → others ≡ length ids → ids ≡ ids_of some → place ≡ others → IfSome found (λ node. IsRank node.task.key some place)
    → IfSome found (λ node. A → BlocksNoneAlone access node.task.key some writers)
last_if A None access some writers ids place others long are is rank = tt
last_if A (Some node) access some writers ids place others long are is rank = λ _. inl (none_later node.task.key some place (omega (arith, is, long, ap length are, length-ids some)) rank)

pub stopped_if : (found : Option Node) (access : Access) (some writers : List Node) (place : ℕ) → IfSome found (λ node. IsRank node.task.key (stoppers access some writers) place) → IfSome found (λ node. ltb 0 place ≡ true → BlocksNoneAlone access node.task.key some writers)
stopped_if None access some writers place rank = tt
stopped_if (Some node) access some writers place rank = λ is. inr (some_earlier node.task.key (stoppers access some writers) place (ltb-true 0 place is) rank)

-- ---- at one location

-- another node that clashes with an access is among the others that name the location
others_named : (p : Node → Bool) (nodes : List Node) (id : NodeId) (node other : Node) (loc : ℕ) (access : Access) → IsGraph nodes → node_at nodes id ≡ Some node → p node ≡ false → Contains nodes other → clashes_at loc access other ≡ true → p other ≡ true
    → Contains (filter p (clashing_at loc Write (without id nodes))) other
others_named p nodes id node other loc access graph is fails has clashes passes =
    let apart : is_at id other ≡ false = not_at id other (λ same. true≢false (sym passes ∙ ap p (same_found nodes id node other graph has same is) ∙ fails)) in
    let rest : Contains (without id nodes) other = in_filter (λ (n : Node). not (is_at id n)) nodes other has (ap not apart) in
    in_filter p (clashing_at loc Write (without id nodes)) other (in_filter (clashes_at loc Write) (without id nodes) other rest (named_by access (access_at other.set loc) clashes)) passes

-- where none of these is earlier, none blocks the node there
unblocked_at : (nodes : List Node) (id : NodeId) (node : Node) (loc : ℕ) (access : Access) → IsGraph nodes → node_at nodes id ≡ Some node → earlier_than node.task.key (clashing_at loc Write (without id nodes)) ≡ [] → is_first_before node.task.key (clashing_at loc access nodes) ≡ false
unblocked_at nodes id node loc access graph is first =
    let key : Key = node.task.key in
    false_from_ne_true _ (λ before.
    let found = before_first key (clashing_at loc access nodes) before in
    let among = from_filter (clashes_at loc access) nodes found.0 found.1 in
    let named : Contains (earlier_than key (clashing_at loc Write (without id nodes))) found.0 = others_named (is_before key) nodes id node found.0 loc access graph is (not_itself key) among.0 among.1 found.2 in
    none found.0 (subst (λ (l : List Node). Contains l found.0) first named))

no_members : (nodes : List Node) → ((node : Node) → Contains nodes node → ⊥) → nodes ≡ []
no_members [] each = refl
no_members (node ∷ nodes) each = absurd (each node (here node nodes))

-- and where none is later, it blocks none there
no_front_at : (nodes : List Node) (id : NodeId) (node : Node) (loc : ℕ) (access : Access) → IsGraph nodes → node_at nodes id ≡ Some node → later_than node.task.key (clashing_at loc Write (without id nodes)) ≡ [] → front_after loc access node.task.key nodes ≡ []
no_front_at nodes id node loc access graph is last =
    let key : Key = node.task.key in
    ap (up_to_writer loc) (no_members (clashing_at loc access (later_than key nodes)) (λ other has.
    let clashing = from_filter (clashes_at loc access) (later_than key nodes) other has in
    let later = from_filter (is_past key) nodes other clashing.0 in
    let named : Contains (later_than key (clashing_at loc Write (without id nodes))) other = others_named (is_past key) nodes id node other loc access graph is (not_itself key) later.0 clashing.1 later.1 in
    none other (subst (λ (l : List Node). Contains l other) last named)))

-- ---- at the locations of its set

-- what holds of each pair so far holds of each at the end
pub each_pair : (P : ℕ × Access → Type 0) (ps set : Accesses) (i : ℕ) → ps ≡ set → length ps ≤ i → ((k : ℕ) → k < i → P (get_or ps k (0, Read))) → (p : ℕ × Access) → Contains set p → P p
each_pair P ps set i same end each p has =
    let found : Contains ps p = subst (λ (l : Accesses). Contains l p) (sym same) has in
    subst P (again ps found.0 (0, Read) p found.1 ∙ found.2) (each found.0 (omega (arith, found.1, end)))

-- where it is first at each, nothing blocks it
pub first_unblocked : ConflictsAreDecided → ConflictsAreMutual → (nodes : List Node) (id : NodeId) (node : Node) → IsGraph nodes → IsAscendingSet node.set → node_at nodes id ≡ Some node
    → ((p : ℕ × Access) → Contains node.set p → earlier_than node.task.key (clashing_at p.0 Write (without id nodes)) ≡ []) → is_blocked nodes node ≡ false
first_unblocked decided both_ways nodes id node graph up is each =
    blocked_by_first decided both_ways nodes node graph.ascending up ∙ none_any (is_blocked_at nodes node) node.set (λ p has. unblocked_at nodes id node p.0 p.1 graph is (each p has))

a_member : (nodes : List Node) → nodes ≢ [] → (node : Node) × Contains nodes node
a_member [] some = absurd (some refl)
a_member (node ∷ nodes) some = (node, here node nodes)

-- who is earlier there blocks it, where it writes
pub blocked_by_earlier : ConflictsAreDecided → ConflictsAreMutual → (nodes : List Node) (id : NodeId) (node : Node) (p : ℕ × Access) → IsAscendingSet node.set → Contains node.set p → p.1 ≡ Write → earlier_than node.task.key (clashing_at p.0 Write (without id nodes)) ≢ []
    → is_blocked nodes node ≡ true
blocked_by_earlier decided both_ways nodes id node p up has is some =
    let key : Key = node.task.key in
    let rest : List Node = without id nodes in
    let first = a_member (earlier_than key (clashing_at p.0 Write rest)) some in
    let earlier = from_filter (is_before key) (clashing_at p.0 Write rest) first.0 first.1 in
    let among = from_filter (clashes_at p.0 Write) rest first.0 earlier.0 in
    let stands = from_filter (λ (n : Node). not (is_at id n)) nodes first.0 among.0 in
    let conflict : Conflicts node.set first.0.set = (p.0, ap (λ found. clash found (access_at first.0.set p.0)) (access_of node.set p up has ∙ ap (λ (x : Access). Some x) is) ∙ among.1) in
    any_from (λ (n : Node). conflicts_with n.set node.set) (earlier_than key nodes) first.0 (in_filter (is_before key) nodes first.0 stands.0 earlier.1) ((decided first.0.set node.set).1 (both_ways node.set first.0.set conflict))

-- ---- those that it doesn't block alone

named_meets_writer : (a b : Option Access) → clash (Some Write) a ≡ true → clash (Some Read) b ≡ true → clash a b ≡ true
named_meets_writer None b named writes = absurd (true≢false (sym named))
named_meets_writer (Some x) None named writes = absurd (true≢false (sym writes))
named_meets_writer (Some x) (Some Read) named writes = absurd (true≢false (sym writes))
named_meets_writer (Some Read) (Some Write) named writes = refl
named_meets_writer (Some Write) (Some Write) named writes = refl

writer_meets_named : (a b : Option Access) → clash (Some Read) a ≡ true → clash (Some Write) b ≡ true → clash a b ≡ true
writer_meets_named None b writes named = absurd (true≢false (sym writes))
writer_meets_named (Some Read) b writes named = absurd (true≢false (sym writes))
writer_meets_named (Some Write) None writes named = absurd (true≢false (sym named))
writer_meets_named (Some Write) (Some y) writes named = refl

-- a stopper is in conflict with all that the access may block
stopper_conflicts : ConflictsAreDecided → (loc : ℕ) (access : Access) (nodes : List Node) (stopper other : Node) → Contains (stoppers access (clashing_at loc Write nodes) (clashing_at loc Read nodes)) stopper → clashes_at loc access other ≡ true
    → Contains nodes stopper × (conflicts_with stopper.set other.set ≡ true)
stopper_conflicts decided loc Read nodes stopper other has met =
    let among = from_filter (clashes_at loc Write) nodes stopper has in
    (among.0, (decided stopper.set other.set).1 (loc, named_meets_writer (access_at stopper.set loc) (access_at other.set loc) among.1 met))
stopper_conflicts decided loc Write nodes stopper other has met =
    let among = from_filter (clashes_at loc Read) nodes stopper has in
    (among.0, (decided stopper.set other.set).1 (loc, writer_meets_named (access_at stopper.set loc) (access_at other.set loc) among.1 met))

-- where it blocks none there alone, the others block its front
front_blocked : ConflictsAreDecided → (nodes : List Node) (id : NodeId) (node other : Node) (loc : ℕ) (access : Access) → IsGraph nodes → node_at nodes id ≡ Some node
    → BlocksNoneAlone access node.task.key (clashing_at loc Write (without id nodes)) (clashing_at loc Read (without id nodes)) → Contains (front_after loc access node.task.key nodes) other → is_blocked (without id nodes) other ≡ true
front_blocked decided nodes id node other loc access graph is not_alone has =
    let key : Key = node.task.key in
    let rest : List Node = without id nodes in
    let stopping : List Node = stoppers access (clashing_at loc Write rest) (clashing_at loc Read rest) in
    elim not_alone [
      | inl last ↦ absurd (none other (subst (λ (l : List Node). Contains l other) (no_front_at nodes id node loc access graph is last) has))
      | inr some ↦
          let clashing = from_filter (clashes_at loc access) (later_than key nodes) other (from_up_to loc (clashing_at loc access (later_than key nodes)) other has) in
          let later = from_filter (is_past key) nodes other clashing.0 in
          let first = a_member (earlier_than key stopping) some in
          let earlier = from_filter (is_before key) stopping first.0 first.1 in
          let met = stopper_conflicts decided loc access rest first.0 other earlier.0 clashing.1 in
          let before : is_before other.task.key first.0 ≡ true = ap is_lt (key_cmp_total.trans first.0.task.key key other.task.key (less_from_test _ earlier.1) (less_from_test _ later.1)) in
          any_from (λ (n : Node). conflicts_with n.set other.set) (earlier_than other.task.key rest) first.0 (in_filter (is_before other.task.key) rest first.0 met.0 before) met.1
    ]

pub fronts_blocked : ConflictsAreDecided → (nodes : List Node) (id : NodeId) (node : Node) → IsGraph nodes → node_at nodes id ≡ Some node
    → ((p : ℕ × Access) → Contains node.set p → BlocksNoneAlone p.1 node.task.key (clashing_at p.0 Write (without id nodes)) (clashing_at p.0 Read (without id nodes))) → AllByRecursion (λ other. is_blocked (without id nodes) other ≡ true) (fronts_after node.set node.task.key nodes)
fronts_blocked decided nodes id node graph is each =
    all_from (λ (other : Node). is_blocked (without id nodes) other ≡ true) (fronts_after node.set node.task.key nodes) (λ other has.
    let front = from_fronts node.set node.task.key nodes other has in
    front_blocked decided nodes id node other front.0.0 front.0.1 graph is (each front.0 front.1) front.2)

-- ---- what is known of the nodes behind a node that goes, where it is unblocked, and where none clashes with it

-- another node that isn't earlier is later
later_of_two : (nodes : List Node) (node other : Node) → IsAscending (tasks_of nodes) → Contains nodes node → Contains nodes other → other ≢ node → is_before node.task.key other ≡ false → is_past node.task.key other ≡ true
later_of_two [] node other up has has_other differs fails = absurd (none node has)
later_of_two (first ∷ nodes) node other up has has_other differs fails = elim (cases first node nodes has) [
  | inl same ↦ elim (cases first other nodes has_other) [
    | inl also ↦ absurd (differs (sym also ∙ same))
    | inr later ↦ subst (λ (n : Node). is_past n.task.key other ≡ true) same (ap is_lt (key_later first nodes other up.0 later))
  ]
  | inr behind ↦ elim (cases first other nodes has_other) [
    | inl is ↦ absurd (true≢false (sym (ap is_lt (key_later first nodes node up.0 behind)) ∙ ap (is_before node.task.key) is ∙ fails))
    | inr later ↦ later_of_two nodes node other up.1 behind later differs fails
  ]
]

-- where all are later, none stands before the later ones
all_later : (key : Key) (some : List Node) → ((node : Node) → Contains some node → is_past key node ≡ true) → IsRankPast key some 0
all_later key some each = record { inside = omega arith; point = ((λ k d from upto. absurd (omega (arith, upto))), (λ k d from upto. each (get_or some k d) (Contains-get_or some k d upto))) }

-- where none that an access of the node clashes with is earlier, all others are later
later_at : (nodes : List Node) (id : NodeId) (gone : Node) (loc : ℕ) (access : Access) → IsGraph nodes → node_at nodes id ≡ Some gone → is_first_before gone.task.key (clashing_at loc access nodes) ≡ false
    → IsRankPast gone.task.key (clashing_at loc access (without id nodes)) 0
later_at nodes id gone loc access graph is free =
    let key : Key = gone.task.key in
    let its : Contains nodes gone × (gone.id ≡ id) = ids_find_nodes nodes id gone is in
    all_later key (clashing_at loc access (without id nodes)) (λ other has.
    let clashing = from_filter (clashes_at loc access) (without id nodes) other has in
    let left = from_filter (λ (n : Node). not (is_at id n)) nodes other clashing.0 in
    let differs : other ≢ gone = λ same. true≢false (sym left.1 ∙ ap not (is_at-same id other (ap (λ (n : Node). n.id) same ∙ its.1))) in
    let not_earlier : is_before key other ≡ false = false_from_ne_true _ (λ earlier.
    true≢false (sym (first_before key (clashing_at loc access nodes) other (ascending_filtered (clashes_at loc access) nodes graph.ascending) (in_filter (clashes_at loc access) nodes other left.0 clashing.1) earlier) ∙ free)) in
    later_of_two nodes gone other graph.ascending its.0 left.0 differs not_earlier)

-- so behind an unblocked node at each location of its set
pub unblocked_leads : ConflictsAreDecided → ConflictsAreMutual → (nodes : List Node) (id : NodeId) (gone : Node) → IsGraph nodes → node_at nodes id ≡ Some gone → is_unblocked nodes gone ≡ true
    → AllByRecursion (λ p. IsRankPast gone.task.key (clashing_at p.0 p.1 (without id nodes)) 0) gone.set
unblocked_leads decided both_ways nodes id gone graph is free =
    let up : IsAscendingSet gone.set = all_at (λ (n : Node). IsAscendingSet n.set) nodes gone graph.sets (ids_find_nodes nodes id gone is).0 in
    let not_blocked : is_blocked nodes gone ≡ false = false_from_ne_true _ (λ blocked. true≢false (sym free ∙ ap not blocked)) in
    all_from (λ (p : ℕ × Access). IsRankPast gone.task.key (clashing_at p.0 p.1 (without id nodes)) 0) gone.set (λ p has.
    later_at nodes id gone p.0 p.1 graph is (none_passes (is_blocked_at nodes gone) gone.set p (sym (blocked_by_first decided both_ways nodes gone graph.ascending up) ∙ not_blocked) has))

-- ---- where none is left

-- the location that a node was taken out of last keeps no id where no other clashes there
pub none_left_at : (others : List Node) (node : Node) (g : ℕ → Option Access) (p : ℕ × Access) (locations : List Location) (now : Location) (len : ℕ) → g p.0 ≡ None → p.0 < length locations → AreFiledWith others node g (set locations p.0 now)
    → len ≡ length (ids_for p.1 now) → ltb 0 len ≡ false → clashing_at p.0 p.1 others ≡ []
none_left_at others node g p locations now len gone within filed is empty =
    let kept : ids_for p.1 now ≡ ids_of (clashing_at p.0 p.1 others) =
    sym (lane_changed locations p.0 now p.1 within) ∙ filed p.0 p.1 ∙ ap (λ found. ids_of (put_if (clash (Some p.1) found) node (clashing_at p.0 p.1 others))) gone in
    empty_from_length (clashing_at p.0 p.1 others) (omega (arith, ltb-false 0 len empty, is, ap length kept, length-ids (clashing_at p.0 p.1 others)))

-- then no front is behind the node
pub fronts_of_none : (pairs : Accesses) (key : Key) (nodes : List Node) → AllByRecursion (λ p. clashing_at p.0 p.1 nodes ≡ []) pairs → fronts_after pairs key nodes ≡ []
fronts_of_none [] key nodes none = refl
fronts_of_none (p ∷ pairs) key nodes none =
    ap (λ (l : List Node). up_to_writer p.0 l ++ fronts_after pairs key nodes) (filters_commute (clashes_at p.0 p.1) (is_past key) nodes ∙ ap (later_than key) none.0) ∙ fronts_of_none pairs key nodes none.1
