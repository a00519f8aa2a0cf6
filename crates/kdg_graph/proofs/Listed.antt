-- Ids of nodes, some in key order and others that came since, where a node or an id changes.
use Rattle.std.proofs.Common.{◌≡◌, inl, inr, ℕ, ◌<◌, ◌||◌, Bool, true, false, not, cond, List, [], ◌∷◌, ◌++◌, length, get_or, set, refl, sym, ◌∙◌, ap, eq-eqb, ◌==◌, ne_eqb, true≢false, get_or-set_other, ◌≤◌, append-nil, Some, subst, Contains, IfSome, IsSome, None, filter, is_lt, ◌≢◌, ◌+◌, Option, arith, slice_get, option_map, nat_cmp, take, unwrap_or, Ordering, Less, Equal, Greater, map}
use Rattle.std.proofs.Math.Bool.{or-true}
use Rattle.std.proofs.Math.Seq.{take-append_seam}
use Rattle.std.proofs.lemmas.List.{get_or-take, length-append, length-take-le, take_at, take_more}
use Rattle.std.proofs.lemmas.Cmp.{nat_cmp_total, on_total, then_total, ranked}
use Rattle.std.proofs.lemmas.List.MinMax.{ranks_by}
use Rattle.std.specs.Cmp.Lexicographic.{options_total, nat_list_cmp_total, slice_cmp}
use Rattle.std.proofs.lemmas.Bool.{or_parts}
use Rattle.plain_laws.specs.Lists.{All-pushed}
use Rattle.plain_laws.specs.Options.{if_some_at}
use Rattle.task_order.specs.PathCode.{path_beginning}
use Rattle.kdg_graph.proofs.Common.{cases_eq, get_or-set_at, list_any-append, Arrival, NodeId, Standing, Absent, Node, ids_of, is_at, put_node, without, AreMarked, arrived, has_number, is_recent, is_settled, IsStrictWeakOrder, IsTotalOrder, AllByRecursion, key_cmp_total, HasNode, IsGraph, node_at, IsLaneAmong, AreSelected, HaveMarks, IsInOrder, MarkedIds, arrival_cmp, forgotten, ids_in, is_among, key_at, listed_in, recent_in, retested, settled_in, all_at, in_map, option_cmp, ordering_reverse, ordering_then, get_or_default, recent_among, TellsItsKey, sorted_far, get_or_from_slice_get, slice_get_within, Key, key_cmp, LowerBeginningsComeFirst, Settled, Recent, AreLater, AreInTurn, IsArrival, all_from, false_from_ne_true, length-map, SetChange, HaveOwnIds, started, with_sets, AreSome, from_filter, from_map, in_filter, none_any, none_found, filter-map}
use Rattle.kdg_graph.proofs.Blocking.{any_from}
use Rattle.kdg_graph.proofs.Keeping.{changed, ids-map}
use Rattle.kdg_graph.proofs.KeyOrder.{is_before, same_filter, put_dropped, put_without}
use Rattle.kdg_graph.proofs.LookUps.{ids_find_nodes, nodes_have_ids}
use Rattle.kdg_graph.proofs.Ordered.{length-without}
use Rattle.kdg_graph.proofs.Rewrites.{in_put_old}
use Rattle.kdg_graph.proofs.Searches.{same_key}
use Rattle.kdg_graph.proofs.Selecting.{among_selected, has_room, put_in_place, some_of_lane, taken_out, among_append}
use Rattle.kdg_graph.proofs.Settling.{without_put}
use Rattle.kdg_graph.specs.NodeLaws.{same_id, is_at-same, not_at, found_node, start, start_keeps_id}

-- ---- which numbers the ids of a list have, and the marks of them, where one id comes in or goes out

-- the second list has one id's number or lacks it, and has each other number where the first has it
abbrev pub IsSetIn : Bool → NodeId → List NodeId → List NodeId → Type 0
IsSetIn answer id before ids = (at : ℕ) → has_number at ids ≡ cond (at == id.at) answer (has_number at before)

-- the same list, where the answer is the one that it gives
pub set_as_it_is : (id : NodeId) (ids : List NodeId) (answer : Bool) → has_number id.at ids ≡ answer → IsSetIn answer id ids ids
set_as_it_is id ids answer is at = elim (cases_eq at id.at) [
  | inl equal ↦ ap (λ n. has_number n ids) equal ∙ is ∙ sym (ap (λ b. cond b answer (has_number at ids)) (eq-eqb at id.at equal))
  | inr differs ↦ sym (ap (λ b. cond b answer (has_number at ids)) (ne_eqb at id.at differs))
]

-- two lists, one behind the other
pub set_in_either : (one other : Bool) (id : NodeId) (before ids more_before more : List NodeId) → IsSetIn one id before ids → IsSetIn other id more_before more → IsSetIn (one || other) id (before ++ more_before) (ids ++ more)
set_in_either one other id before ids more_before more first second at =
    list_any-append (λ (i : NodeId). at == i.at) ids more
    ∙ (λ i. first at i || second at i)
    ∙ by_case (at == id.at) one other (has_number at before) (has_number at more_before)
    ∙ ap (cond (at == id.at) (one || other)) (sym (list_any-append (λ (i : NodeId). at == i.at) before more_before))
  where
    by_case : (here a b c d : Bool) → (cond here a c || cond here b d) ≡ cond here (a || b) (c || d)
    by_case true a b c d = refl
    by_case false a b c d = refl

-- ---- one id more

or_first : (a b c : Bool) → (a || cond b true c) ≡ cond b true (a || c)
or_first true true c = refl
or_first false true c = refl
or_first a false c = refl

or_cond : (a b : Bool) → (a || b) ≡ cond a true b
or_cond true b = refl
or_cond false b = refl

has_put : (new : Node) (nodes : List Node) → IsSetIn true new.id (ids_of nodes) (ids_of (put_node new nodes))
has_put new [] at = or_cond (at == new.id.at) false
has_put new (node ∷ nodes) at =
    elim (is_before new.task.key node) as (λ b. has_number at (ids_of (cond b (node ∷ put_node new nodes) (new ∷ node ∷ nodes))) ≡ cond (at == new.id.at) true (has_number at (ids_of (node ∷ nodes)))) [
      | true ↦ ap (λ b. (at == node.id.at) || b) (has_put new nodes at) ∙ or_first (at == node.id.at) (at == new.id.at) (has_number at (ids_of nodes))
      | false ↦ or_cond (at == new.id.at) (has_number at (ids_of (node ∷ nodes)))
    ]

pub set_by_put : (id : NodeId) (node : Node) (some : List Node) (before ids : List NodeId) → node.id ≡ id → before ≡ ids_of some → ids ≡ ids_of (put_node node some) → IsSetIn true id before ids
set_by_put id node some before ids same was is at = ap (has_number at) is ∙ has_put node some at ∙ (λ i. cond (at == (same i).at) true (has_number at (sym was i)))

pub set_by_arrival : (recent : List Arrival) (arrival : Arrival) (id : NodeId) → arrival.id ≡ id → IsSetIn true id (arrived recent) (arrived (recent ++ arrival ∷ []))
set_by_arrival [] arrival id same at = or_cond (at == arrival.id.at) false ∙ ap (λ (i : NodeId). cond (at == i.at) true false) same
set_by_arrival (first ∷ recent) arrival id same at = ap (λ b. (at == first.id.at) || b) (set_by_arrival recent arrival id same at) ∙ or_first (at == first.id.at) (at == id.at) (has_number at (arrived recent))

-- ---- the marks

pub mark_set : (is : Standing → Bool) (standings : List Standing) (place at : ℕ) (standing : Standing) → place < length standings → is (get_or (set standings place standing) at Absent) ≡ cond (at == place) (is standing) (is (get_or standings at Absent))
mark_set is standings place at standing inside = elim (cases_eq at place) [
  | inl equal ↦ ap is (get_or-set_at standings place at standing Absent equal inside) ∙ sym (ap (λ b. cond b (is standing) (is (get_or standings at Absent))) (eq-eqb at place equal))
  | inr differs ↦ ap is (get_or-set_other standings place at standing Absent differs) ∙ sym (ap (λ b. cond b (is standing) (is (get_or standings at Absent))) (ne_eqb at place differs))
]

-- an id's mark is set to where it stands now
pub marked_set : (standings : List Standing) (before ids : List NodeId) (recent now : List Arrival) (id : NodeId) (standing : Standing) → AreMarked before recent standings → id.at < length standings
    → IsSetIn (is_settled standing) id before ids → IsSetIn (is_recent standing) id (arrived recent) (arrived now) → AreMarked ids now (set standings id.at standing)
marked_set standings before ids recent now id standing marked inside settled came = record {
  are_settled = λ at. mark_set is_settled standings id.at at standing inside ∙ ap (cond (at == id.at) (is_settled standing)) (marked.are_settled at) ∙ sym (settled at);
  are_recent = λ at. mark_set is_recent standings id.at at standing inside ∙ ap (cond (at == id.at) (is_recent standing)) (marked.are_recent at) ∙ sym (came at);
}

-- ---- ids of nodes, some in key order and others that came since, where one comes in or goes out

-- whether an id is in one of the lists
pub has_either : (some : MarkedIds) (at : ℕ) → has_number at (ids_in some) ≡ (has_number at (settled_in some) || has_number at (arrived (recent_in some)))
has_either some at = list_any-append (λ (i : NodeId). at == i.at) (settled_in some) (arrived (recent_in some))

-- ids in any order, put in order
abbrev pub in_order_of : List Node → List NodeId → List NodeId
in_order_of nodes ids = ids_of (filter (is_among ids) nodes)

-- where two lists have the same numbers, they are the same in order
pub same_in_order : (nodes : List Node) (before ids : List NodeId) → ((at : ℕ) → has_number at ids ≡ has_number at before) → in_order_of nodes ids ≡ in_order_of nodes before
same_in_order nodes before ids same = ap ids_of (same_filter (is_among ids) (is_among before) nodes (λ node _. same node.id.at))

-- a node is among them exactly where it passes the test that selects them
pub among_in_order : (nodes : List Node) (test : Node → Bool) (ids : List NodeId) (node : Node) → IsGraph nodes → Contains nodes node → AreSelected nodes test (in_order_of nodes ids) → is_among ids node ≡ test node
among_in_order nodes test ids node graph has is = sym (among_selected nodes (is_among ids) (in_order_of nodes ids) node graph has refl) ∙ among_selected nodes test (in_order_of nodes ids) node graph has is

-- where one id comes in or goes out, its node is tested anew
pub selected_set : (nodes : List Node) (test : Node → Bool) (id : NodeId) (answer : Bool) (before ids : List NodeId) → IsGraph nodes → IsSetIn answer id before ids → AreSelected nodes test (in_order_of nodes before) → AreSelected nodes (retested (λ _. answer) (id ∷ []) test) (in_order_of nodes ids)
selected_set nodes test id answer before ids graph sets is =
    ap ids_of (same_filter (is_among ids) (retested (λ _. answer) (id ∷ []) test) nodes (λ node has.
    sets node.id.at ∙ ap (cond (node.id.at == id.at) answer) (among_in_order nodes test before node graph has is) ∙ one (node.id.at == id.at) (test node)))
  where
    one : (here passes : Bool) → cond here answer passes ≡ cond (here || false) answer passes
    one true passes = refl
    one false passes = refl

-- ---- arrivals

-- their order is one by priority, then by the beginning of the path, then by key
arrivals_total : (nodes : List Node) → IsTotalOrder (arrival_cmp nodes)
arrivals_total nodes =
    then_total (on_total (λ (a : Arrival). a.prio) nat_cmp_total) (then_total (on_total (λ (a : Arrival). a.beginning) nat_cmp_total) (on_total (λ (a : Arrival). key_at nodes a.id) (options_total key_cmp_total)))

pub earliest_first : (nodes : List Node) → IsStrictWeakOrder (λ (a b : Arrival). is_lt (arrival_cmp nodes a b))
earliest_first nodes = ranks_by (arrivals_total nodes) (λ (a : Arrival). a)

-- once all of them have their places, the same ids are in order
pub all_placed : (nodes : List Node) (before : MarkedIds) (ids : List NodeId) → ((at : ℕ) → has_number at ids ≡ (has_number at (settled_in before) || has_number at (arrived (recent_in before)))) → in_order_of nodes (ids ++ []) ≡ listed_in nodes before
all_placed nodes before ids same = same_in_order nodes (ids_in before) (ids ++ []) (λ at. ap (has_number at) (append-nil ids) ∙ same at ∙ sym (has_either before at))

-- ---- the ids in order

-- the ids that a test selects are in order
pub in_order_selected : (nodes : List Node) (test : Node → Bool) (ids : List NodeId) → IsGraph nodes → AreSelected nodes test ids → IsInOrder nodes ids
in_order_selected nodes test ids graph is = is ∙ ap ids_of (same_filter test (is_among ids) nodes (λ node has. sym (among_selected nodes test ids node graph has is)))

pub lane_in_order : (nodes : List Node) (ids : List NodeId) → IsGraph nodes → IsInOrder nodes ids → IsLaneAmong nodes (filter (is_among ids) nodes) ids
lane_in_order nodes ids graph in_order = some_of_lane nodes (is_among ids) ids graph.ascending in_order

-- one is taken out
abbrev pub IsTakenFrom : List Node → NodeId → List NodeId → List NodeId → Type 0
IsTakenFrom nodes id before ids = (some : List Node) → IsLaneAmong nodes some before → ids ≡ ids_of (without id some)

pub in_order_taking : (nodes : List Node) (id : NodeId) (before ids : List NodeId) → IsGraph nodes → IsInOrder nodes before → IsTakenFrom nodes id before ids → IsInOrder nodes ids
in_order_taking nodes id before ids graph in_order takes =
    let test : Node → Bool = is_among before in
    in_order_selected nodes (forgotten (id ∷ []) test) ids graph (taken_out nodes test id ids (takes (filter test nodes) (lane_in_order nodes before graph in_order)))

-- one is put in
abbrev pub IsPutInto : List Node → NodeId → List NodeId → List NodeId → Type 0
IsPutInto nodes id before ids = (some : List Node) → IsLaneAmong nodes some before → IfSome (node_at nodes id) (λ node. ids ≡ ids_of (put_node node some))

pub set_by_putting : (nodes : List Node) (id : NodeId) (before ids : List NodeId) → IsGraph nodes → HasNode nodes id → IsInOrder nodes before → IsPutInto nodes id before ids → IsSetIn true id before ids
set_by_putting nodes id before ids graph there in_order puts =
    let some : List Node = filter (is_among before) nodes in
    let found = found_node nodes id there in
    set_by_put id found.0 some before ids (ids_find_nodes nodes id found.0 found.1).1 in_order
    (if_some_at (λ (n : Node). ids ≡ ids_of (put_node n some)) (node_at nodes id) found.0 found.1 (puts some (lane_in_order nodes before graph in_order)))

-- whether the node with an id is among others
among_by_id : (nodes : List Node) (id : NodeId) (node : Node) (ids : List NodeId) (answer : Bool) → node_at nodes id ≡ Some node → has_number id.at ids ≡ answer → is_among ids node ≡ answer
among_by_id nodes id node ids answer found is = ap (λ (i : NodeId). has_number i.at ids) (ids_find_nodes nodes id node found).1 ∙ is

pub in_order_putting : (nodes : List Node) (id : NodeId) (before ids : List NodeId) → IsGraph nodes → HasNode nodes id → IsInOrder nodes before → has_number id.at before ≡ false → IsPutInto nodes id before ids → IsInOrder nodes ids
in_order_putting nodes id before ids graph there in_order lacks puts =
    let test : Node → Bool = is_among before in
    let found = found_node nodes id there in
    in_order_selected nodes (retested (λ _. true) (id ∷ []) test) ids graph (put_in_place nodes id found.0 before ids test graph found.1 (among_by_id nodes id found.0 before false found.1 lacks) in_order puts)

-- one that comes in has room where each node has
pub room_for_one : (nodes : List Node) (id : NodeId) (ids : List NodeId) (room : ℕ) → IsGraph nodes → HasNode nodes id → IsInOrder nodes ids → has_number id.at ids ≡ false → length nodes ≤ room → length ids < room
room_for_one nodes id ids room graph there in_order lacks fits =
    let found = found_node nodes id there in
    has_room nodes id found.0 ids (is_among ids) room graph found.1 (among_by_id nodes id found.0 ids false found.1 lacks) in_order fits

-- the id of a node has a mark
pub has_mark : (nodes : List Node) (id : NodeId) (marks : ℕ) → HasNode nodes id → HaveMarks nodes marks → id.at < marks
has_mark nodes id marks there all =
    let found = found_node nodes id there in
    let is_node = ids_find_nodes nodes id found.0 found.1 in
    subst (λ (i : NodeId). i.at < marks) is_node.1 (all_at (λ (i : NodeId). i.at < marks) (ids_of nodes) found.0.id all (in_map (λ (n : Node). n.id) nodes found.0 is_node.0))

-- ---- ids that came, and are put in order with the others one after another, the latest first

pub found_arrival : (nodes : List Node) (arrival : Arrival) (arrives : IsArrival nodes arrival) → IsGraph nodes → node_at nodes arrival.id ≡ Some arrives.node
found_arrival nodes arrival arrives graph = ap (node_at nodes) (sym arrives.id_is) ∙ nodes_have_ids nodes arrives.node graph arrives.there

-- ---- their order

-- beginnings that don't turn paths round don't turn keys round
by_parts : (prios beginnings paths : Ordering) → (beginnings ≡ Greater → paths ≡ Greater) → is_lt (ordering_then prios (ordering_then beginnings (ordering_then prios paths))) ≡ false → is_lt (ordering_then prios paths) ≡ false
by_parts Less beginnings paths turns is = is
by_parts Equal Less paths turns is = absurd (true≢false is)
by_parts Equal Equal paths turns is = is
by_parts Equal Greater paths turns is = ap is_lt (turns refl)
by_parts Greater beginnings paths turns is = refl

key_arrived : (nodes : List Node) (arrival : Arrival) (arrives : IsArrival nodes arrival) → IsGraph nodes → key_at nodes arrival.id ≡ Some arrives.node.task.key
key_arrived nodes arrival arrives graph = ap (option_map (λ (n : Node). n.task.key)) (found_arrival nodes arrival arrives graph)

-- where one doesn't come before another its node isn't earlier
not_earlier : LowerBeginningsComeFirst → (nodes : List Node) (one other : Arrival) (a : IsArrival nodes one) (b : IsArrival nodes other) → IsGraph nodes → is_lt (arrival_cmp nodes one other) ≡ false → is_before b.node.task.key a.node ≡ false
not_earlier lower nodes one other a b graph is =
    let mine : Key = a.node.task.key in
    let its : Key = b.node.task.key in
    let compared : arrival_cmp nodes one other ≡ ordering_then (nat_cmp mine.prio its.prio) (ordering_then (nat_cmp (path_beginning mine.path) (path_beginning its.path)) (key_cmp mine its)) =
    λ i. ordering_then (nat_cmp (a.prio_is i) (b.prio_is i)) (ordering_then (nat_cmp (a.beginning_is i) (b.beginning_is i)) (option_cmp key_cmp (key_arrived nodes one a graph i) (key_arrived nodes other b graph i))) in
    let turns : nat_cmp (path_beginning mine.path) (path_beginning its.path) ≡ Greater → slice_cmp nat_cmp mine.path its.path ≡ Greater = λ later.
    nat_list_cmp_total.antisymm mine.path its.path ∙ ap ordering_reverse (lower its.path mine.path b.fits a.fits (ranked (path_beginning mine.path) (path_beginning its.path) Greater (sym later))) in
    by_parts (nat_cmp mine.prio its.prio) (nat_cmp (path_beginning mine.path) (path_beginning its.path)) (slice_cmp nat_cmp mine.path its.path) turns (sym (ap is_lt compared) ∙ is)

-- of two nodes the first is later where it isn't earlier
later_unless : (nodes : List Node) (one other : Node) → IsGraph nodes → Contains nodes one → Contains nodes other → one ≢ other → is_before other.task.key one ≡ false → key_cmp one.task.key other.task.key ≡ Greater
later_unless nodes one other graph has_one has_other differ is = by_case (key_cmp one.task.key other.task.key) refl
  where
    by_case : (o : Ordering) → key_cmp one.task.key other.task.key ≡ o → o ≡ Greater
    by_case Less compared = absurd (true≢false (sym (ap is_lt compared) ∙ is))
    by_case Equal compared = absurd (differ (same_key nodes one other graph.ascending has_one has_other compared))
    by_case Greater compared = refl

-- ---- how far they are put in order

-- the ids from the place on are those of later nodes than that of each one that is left, where its own isn't there
abbrev pub IsReached : List Node → List NodeId → ℕ → List Arrival → Type 0
IsReached nodes ids end left = AllByRecursion (λ next. has_number next.id.at ids ≡ false → IfSome (node_at nodes next.id) (λ node. AreLater nodes node.task.key ids end)) left

pub reached_end : (nodes : List Node) (ids : List NodeId) (left : List Arrival) → IsReached nodes ids (length ids) left
reached_end nodes ids left =
    all_from (λ (next : Arrival). has_number next.id.at ids ≡ false → IfSome (node_at nodes next.id) (λ node. AreLater nodes node.task.key ids (length ids))) left (λ next has absent.
    elim (node_at nodes next.id) as (λ found. IfSome found (λ (node : Node). AreLater nodes node.task.key ids (length ids))) [
      | None ↦ tt
      | Some node ↦ record { inside = omega arith; later = λ within. absurd (omega (arith, within)) }
    ])

-- those behind an arrival are later than the next one, which comes no later, where its own id isn't there
reached_later : LowerBeginningsComeFirst → (nodes : List Node) (ids : List NodeId) (place : ℕ) (arrival next : Arrival) (before : IsArrival nodes arrival) (arrives : IsArrival nodes next) → IsGraph nodes → slice_get ids place ≡ Some arrival.id → is_lt (arrival_cmp nodes arrival next) ≡ false → has_number next.id.at ids ≡ false
    → AreLater nodes arrives.node.task.key ids place
reached_later lower nodes ids place arrival next before arrives graph at turns absent =
    let within : place < length ids = slice_get_within ids place arrival.id at in
    let stands : slice_get ids place ≡ Some before.node.id = at ∙ ap (λ (id : NodeId). Some id) (sym before.id_is) in
    let differ : before.node ≢ arrives.node = λ same.
    let there : Contains ids next.id = (place, within, get_or_from_slice_get ids place next.id next.id (stands ∙ ap (λ (id : NodeId). Some id) (ap (λ (n : Node). n.id) same ∙ arrives.id_is))) in
    true≢false (sym (any_from (λ (id : NodeId). next.id.at == id.at) ids next.id there (eq-eqb next.id.at next.id.at refl)) ∙ absent) in
    record {
      inside = omega (arith, within);
      later = λ _. (before.node, before.there, stands, later_unless nodes before.node arrives.node graph before.there arrives.there differ (not_earlier lower nodes arrival next before arrives graph turns));
    }

reached_next : LowerBeginningsComeFirst → (nodes : List Node) (all : List Arrival) (arrival : Arrival) (has : Contains all arrival) (ids : List NodeId) (place : ℕ) → IsGraph nodes → AreInTurn nodes all → (1 < length all → AllByRecursion (TellsItsKey nodes) all) → HasNode nodes arrival.id → slice_get ids place ≡ Some arrival.id
    → IsReached nodes ids place (take has.0 all)
reached_next lower nodes all arrival has ids place graph turns told there at =
    let inside : has.0 < length all = has.1 in
    all_from (λ (next : Arrival). has_number next.id.at ids ≡ false → IfSome (node_at nodes next.id) (λ node. AreLater nodes node.task.key ids place)) (take has.0 all) (λ next in_front absent.
    let before : in_front.0 < has.0 = omega (arith, in_front.1, length-take-le has.0 all (omega (arith, inside))) in
    let within : in_front.0 < length all = omega (arith, before, inside) in
    let here : get_or all in_front.0 next ≡ next = sym (get_or-take has.0 all in_front.0 next before) ∙ in_front.2 in
    let tells : AllByRecursion (TellsItsKey nodes) all = told (omega (arith, before, inside)) in
    let arrives : IsArrival nodes arrival = all_at (TellsItsKey nodes) all arrival tells has there in
    let after : is_lt (arrival_cmp nodes arrival next) ≡ false = (λ i. is_lt (arrival_cmp nodes (sym has.2 i) (sym (get_or_default all in_front.0 arrival next within ∙ here) i)))
    ∙ sorted_far (λ (a b : Arrival). is_lt (arrival_cmp nodes a b)) (earliest_first nodes) all turns in_front.0 has.0 arrival (omega (arith, before)) inside in
    let by_found : (found : Option Node) → node_at nodes next.id ≡ found → IfSome found (λ (node : Node). AreLater nodes node.task.key ids place) = elim [
      | None ↦ λ _. tt
      | Some node ↦ λ is.
          let next_is : IsArrival nodes next = all_at (TellsItsKey nodes) all next tells (in_front.0, within, here) (subst IsSome (sym is) refl) in
          let same : next_is.node ≡ node = some_same_node _ _ (sym (found_arrival nodes next next_is graph) ∙ is) in
          subst (λ (n : Node). AreLater nodes n.task.key ids place) same (reached_later lower nodes ids place arrival next arrives next_is graph at after absent)
    ] in
    by_found (node_at nodes next.id) refl)
  where
    some_same_node : (a b : Node) → Some a ≡ Some b → a ≡ b
    some_same_node a b is = ap (λ (found : Option Node). unwrap_or found a) is

-- ---- their standings

-- some of those that came are left, and the others are in order with the ids that were before
pub record AreMarkedSoFar (before : List NodeId) (was : List Standing) (left : List Arrival) (ids : List NodeId) (standings : List Standing) : Type 0 where
  pub settled : (at : ℕ) → is_settled (get_or standings at Absent) ≡ has_number at ids
  pub left_out : (at : ℕ) → is_recent (get_or standings at Absent) ≡ true → has_number at (arrived left) ≡ true
  pub came : (at : ℕ) → is_recent (get_or standings at Absent) ≡ true → is_recent (get_or was at Absent) ≡ true
  pub all : (at : ℕ) → (has_number at ids || is_recent (get_or standings at Absent)) ≡ (has_number at before || is_recent (get_or was at Absent))

-- a number that isn't that of the last is among the rest
rest_number : (at : ℕ) (arrival : Arrival) (rest : List Arrival) → at ≢ arrival.id.at → has_number at (arrived (rest ++ arrival ∷ [])) ≡ true → has_number at (arrived rest) ≡ true
rest_number at arrival [] differs is = sym (ap (λ b. b || false) (ne_eqb at arrival.id.at differs)) ∙ is
rest_number at arrival (first ∷ rest) differs is = elim (at == first.id.at) as (λ b. (b || has_number at (arrived (rest ++ arrival ∷ []))) ≡ true → (b || has_number at (arrived rest)) ≡ true) [
  | true ↦ λ _. refl
  | false ↦ rest_number at arrival rest differs
] is

pub is_Recent : (standing : Standing) → is_recent standing ≡ true → standing ≡ Recent
is_Recent Absent is = absurd (true≢false (sym is))
is_Recent Settled is = absurd (true≢false (sym is))
is_Recent Recent is = refl

-- one that isn't marked any more is passed over
marked_rest : (before : List NodeId) (was : List Standing) (rest : List Arrival) (arrival : Arrival) (ids : List NodeId) (standings : List Standing) → AreMarkedSoFar before was (rest ++ arrival ∷ []) ids standings → get_or standings arrival.id.at Absent ≢ Recent → AreMarkedSoFar before was rest ids standings
marked_rest before was rest arrival ids standings marked other = record {
  settled = marked.settled;
  left_out = λ at is. rest_number at arrival rest (λ same. other (ap (λ n. get_or standings n Absent) (sym same) ∙ is_Recent (get_or standings at Absent) is)) (marked.left_out at is);
  came = marked.came;
  all = marked.all;
}

-- one that is goes over to the others
marked_next : (before : List NodeId) (was : List Standing) (rest : List Arrival) (arrival : Arrival) (ids now : List NodeId) (standings : List Standing) → AreMarkedSoFar before was (rest ++ arrival ∷ []) ids standings → get_or standings arrival.id.at Absent ≡ Recent → arrival.id.at < length standings
    → IsSetIn true arrival.id ids now → AreMarkedSoFar before was rest now (set standings arrival.id.at Settled)
marked_next before was rest arrival ids now standings marked is inside sets = record {
  settled = λ at. elim (cases_eq at arrival.id.at) [
    | inl same ↦ ap is_settled (here at same) ∙ sym (put_here at same)
    | inr differs ↦ ap is_settled (elsewhere at differs) ∙ marked.settled at ∙ sym (put_elsewhere at differs)
  ];
  left_out = λ at recent. elim (cases_eq at arrival.id.at) [
    | inl same ↦ absurd (true≢false (sym recent ∙ ap is_recent (here at same)))
    | inr differs ↦ rest_number at arrival rest differs (marked.left_out at (sym (ap is_recent (elsewhere at differs)) ∙ recent))
  ];
  came = λ at recent. elim (cases_eq at arrival.id.at) [
    | inl same ↦ absurd (true≢false (sym recent ∙ ap is_recent (here at same)))
    | inr differs ↦ marked.came at (sym (ap is_recent (elsewhere at differs)) ∙ recent)
  ];
  all = λ at. elim (cases_eq at arrival.id.at) [
    | inl same ↦
        let was : is_recent (get_or standings at Absent) ≡ true = ap (λ n. is_recent (get_or standings n Absent)) same ∙ ap is_recent is in
        ap (λ b. b || is_recent (get_or (set standings arrival.id.at Settled) at Absent)) (put_here at same) ∙ sym (or-true (has_number at ids)) ∙ ap (λ b. has_number at ids || b) (sym was) ∙ marked.all at
    | inr differs ↦ (λ i. put_elsewhere at differs i || is_recent (elsewhere at differs i)) ∙ marked.all at
  ];
}
  where
    here : (at : ℕ) → at ≡ arrival.id.at → get_or (set standings arrival.id.at Settled) at Absent ≡ Settled
    here at same = get_or-set_at standings arrival.id.at at Settled Absent same inside

    elsewhere : (at : ℕ) → at ≢ arrival.id.at → get_or (set standings arrival.id.at Settled) at Absent ≡ get_or standings at Absent
    elsewhere at differs = get_or-set_other standings arrival.id.at at Settled Absent differs

    put_here : (at : ℕ) → at ≡ arrival.id.at → has_number at now ≡ true
    put_here at same = sets at ∙ ap (λ b. cond b true (has_number at ids)) (eq-eqb at arrival.id.at same)

    put_elsewhere : (at : ℕ) → at ≢ arrival.id.at → has_number at now ≡ has_number at ids
    put_elsewhere at differs = sets at ∙ ap (λ b. cond b true (has_number at ids)) (ne_eqb at arrival.id.at differs)

-- a number that is marked as that of one that came isn't that of another
absent_recent : (before : List NodeId) (was : List Standing) (left : List Arrival) (ids : List NodeId) (standings : List Standing) (at : ℕ) → AreMarkedSoFar before was left ids standings → get_or standings at Absent ≡ Recent → has_number at ids ≡ false
absent_recent before was left ids standings at marked is = sym (marked.settled at) ∙ ap is_settled is

-- ---- from one to the next

-- of those that came these are left, and the others are in order with the ids that were there before
pub record ArePut (nodes : List Node) (before : List NodeId) (was : List Standing) (left : List Arrival) (ids : List NodeId) (standings : List Standing) (end : ℕ) : Type 0 where
  pub in_order : IsInOrder nodes ids
  pub marked : AreMarkedSoFar before was left ids standings
  pub reached : IsReached nodes ids end left

pub put_rest : (nodes : List Node) (before : List NodeId) (was : List Standing) (rest : List Arrival) (arrival : Arrival) (ids : List NodeId) (standings : List Standing) (end : ℕ) → ArePut nodes before was (rest ++ arrival ∷ []) ids standings end → get_or standings arrival.id.at Absent ≢ Recent → ArePut nodes before was rest ids standings end
put_rest nodes before was rest arrival ids standings end put other = record {
  in_order = put.in_order;
  marked = marked_rest before was rest arrival ids standings put.marked other;
  reached = (All-pushed _ rest arrival put.reached).0;
}

pub put_next : LowerBeginningsComeFirst → (nodes : List Node) (before : List NodeId) (was : List Standing) (all rest : List Arrival) (arrival : Arrival) (has : Contains all arrival) (ids now : List NodeId) (standings : List Standing) (end place : ℕ) → IsGraph nodes → AreInTurn nodes all → (1 < length all → AllByRecursion (TellsItsKey nodes) all)
    → rest ≡ take has.0 all → HasNode nodes arrival.id → ArePut nodes before was (rest ++ arrival ∷ []) ids standings end → get_or standings arrival.id.at Absent ≡ Recent → arrival.id.at < length standings → slice_get now place ≡ Some arrival.id → IsPutInto nodes arrival.id ids now
    → ArePut nodes before was rest now (set standings arrival.id.at Settled) place
put_next lower nodes before was all rest arrival has ids now standings end place graph turns told is_rest there put is inside at puts = record {
  in_order = in_order_putting nodes arrival.id ids now graph there put.in_order (absent_recent before was (rest ++ arrival ∷ []) ids standings arrival.id.at put.marked is) puts;
  marked = marked_next before was rest arrival ids now standings put.marked is inside (set_by_putting nodes arrival.id ids now graph there put.in_order puts);
  reached = subst (IsReached nodes now place) (sym is_rest) (reached_next lower nodes all arrival has now place graph turns told there at);
}

-- the last of those that are left
last_at : (rest : List Arrival) (arrival : Arrival) → get_or (rest ++ arrival ∷ []) (length rest) arrival ≡ arrival
last_at [] arrival = refl
last_at (first ∷ rest) arrival = last_at rest arrival

pub popped : (all left rest : List Arrival) (arrival : Arrival) → left ≡ rest ++ arrival ∷ [] → left ≡ take (length left) all → length left ≤ length all → (rest ≡ take (length rest) all) × (length rest < length all) × (get_or all (length rest) arrival ≡ arrival)
popped all left rest arrival is front fits =
    let long : length left ≡ length rest + 1 = ap length is ∙ length-append rest (arrival ∷ []) in
    let inside : length rest < length all = omega (arith, long, fits) in
    let seen : take (length rest + 1) all ≡ rest ++ arrival ∷ [] = ap (λ n. take n all) (sym long) ∙ sym front ∙ is in (
      sym (take-append_seam rest (arrival ∷ [])) ∙ ap (take (length rest)) (sym seen ∙ take_more all (length rest) arrival inside) ∙ take_at (take (length rest) all) (get_or all (length rest) arrival ∷ []) (length rest) (length-take-le (length rest) all (omega (arith, inside))),
      inside,
      sym (get_or-take (length rest + 1) all (length rest) arrival (omega arith)) ∙ ap (λ l. get_or l (length rest) arrival) seen ∙ last_at rest arrival,
    )

-- the next one's id has room
pub room_next : (nodes : List Node) (before : List NodeId) (was : List Standing) (left : List Arrival) (arrival : Arrival) (ids : List NodeId) (standings : List Standing) (end room : ℕ) → IsGraph nodes → HasNode nodes arrival.id → ArePut nodes before was left ids standings end → get_or standings arrival.id.at Absent ≡ Recent → length nodes ≤ room → length ids < room
room_next nodes before was left arrival ids standings end room graph there put is fits = room_for_one nodes arrival.id ids room graph there put.in_order (absent_recent before was left ids standings arrival.id.at put.marked is) fits

-- and is that of an earlier node than those from the place that was reached on
pub known_next : (nodes : List Node) (before : List NodeId) (was : List Standing) (rest : List Arrival) (arrival : Arrival) (ids : List NodeId) (standings : List Standing) (end : ℕ) → ArePut nodes before was (rest ++ arrival ∷ []) ids standings end → get_or standings arrival.id.at Absent ≡ Recent
    → IfSome (node_at nodes arrival.id) (λ (node : Node). AreLater nodes node.task.key ids end)
known_next nodes before was rest arrival ids standings end put is = (All-pushed _ rest arrival put.reached).1 (absent_recent before was (rest ++ arrival ∷ []) ids standings arrival.id.at put.marked is)

-- and is that of a node
pub there_next : (nodes : List Node) (before : List NodeId) (was : List Standing) (all left : List Arrival) (arrival : Arrival) (ids : List NodeId) (standings : List Standing) (end : ℕ) → AllByRecursion (λ a. HasNode nodes a.id) (recent_among was all) → Contains all arrival → ArePut nodes before was left ids standings end → get_or standings arrival.id.at Absent ≡ Recent
    → HasNode nodes arrival.id
there_next nodes before was all left arrival ids standings end there has put is =
    all_at (λ (a : Arrival). HasNode nodes a.id) (recent_among was all) arrival there (in_filter (λ (a : Arrival). is_recent (get_or was a.id.at Absent)) all arrival has (put.marked.came arrival.id.at (ap is_recent is)))

-- ---- whose ids are listed

-- the number of a node's id is listed where it passes the test by which the listed ones are selected
pub number_listed : (nodes : List Node) (test : Node → Bool) (some : MarkedIds) (id : NodeId) (node : Node) → IsGraph nodes → node_at nodes id ≡ Some node → AreSelected nodes test (listed_in nodes some) → has_number id.at (ids_in some) ≡ test node
number_listed nodes test some id node graph found is =
    let its : Contains nodes node × (node.id ≡ id) = ids_find_nodes nodes id node found in
    ap (λ (i : NodeId). has_number i.at (ids_in some)) (sym its.1) ∙ among_in_order nodes test (ids_in some) node graph its.0 is

-- what is not listed is in neither list
in_neither : (some : MarkedIds) (node : Node) → is_among (ids_in some) node ≡ false → (is_among (settled_in some) node ≡ false) × (is_among (arrived (recent_in some)) node ≡ false)
in_neither some node apart = or_parts (is_among (settled_in some) node) (is_among (arrived (recent_in some)) node) (sym (among_append (settled_in some) (arrived (recent_in some)) node) ∙ apart)

-- an id that came is that of a node
came_as : (nodes : List Node) (recent : List Arrival) (arrival : Arrival) → AllByRecursion (λ a. HasNode nodes a.id) recent → Contains recent arrival → (node : Node) × Contains nodes node × (node.id ≡ arrival.id)
came_as nodes recent arrival all has =
    let found = found_node nodes arrival.id (all_at (λ (a : Arrival). HasNode nodes a.id) recent arrival all has) in
    let its = ids_find_nodes nodes arrival.id found.0 found.1 in
    (found.0, its.0, its.1)

has_by_id : (nodes : List Node) (id : NodeId) (node : Node) → Contains nodes node → node.id ≡ id → HasNode nodes id
has_by_id nodes id node has same = by_found (node_at nodes id) refl
  where
    by_found : (found : Option Node) → node_at nodes id ≡ found → HasNode nodes id
    by_found None is = absurd (true≢false (sym (is_at-same id node same) ∙ none_found (is_at id) nodes node is has))
    by_found (Some other) is = subst IsSome (sym is) refl

-- the id of a node that is not there is not listed
unlisted : (nodes : List Node) (some : MarkedIds) (node : Node) → AreSome nodes some → ((other : Node) → Contains nodes other → other.id ≢ node.id) → is_among (ids_in some) node ≡ false
unlisted nodes some node are differs =
    among_append (settled_in some) (arrived (recent_in some)) node ∙ (λ i. none_in_order i || none_came i)
  where
    none_in_order : is_among (settled_in some) node ≡ false
    none_in_order = none_any (λ id. is_at id node) (settled_in some) (λ id has.
        let one : (n : Node) × Contains (filter (is_among (settled_in some)) nodes) n × (n.id ≡ id) = from_map (λ (n : Node). n.id) (filter (is_among (settled_in some)) nodes) id (subst (λ (l : List NodeId). Contains l id) are.in_order has) in
        not_at id node (λ same. differs one.0 (from_filter (is_among (settled_in some)) nodes one.0 one.1).0 (one.2 ∙ sym same)))

    none_came : is_among (arrived (recent_in some)) node ≡ false
    none_came = none_any (λ id. is_at id node) (arrived (recent_in some)) (λ id has.
        let one : (a : Arrival) × Contains (recent_in some) a × (a.id ≡ id) = from_map (λ (a : Arrival). a.id) (recent_in some) id has in
        let its = came_as nodes (recent_in some) one.0 are.recent one.1 in
        not_at id node (λ same. differs its.0 its.1 (its.2 ∙ one.2 ∙ sym same)))

-- a node whose id is not there makes no difference
not_put : (ids : List NodeId) (node : Node) (nodes : List Node) → is_among ids node ≡ false → ids_of (filter (is_among ids) (put_node node nodes)) ≡ ids_of (filter (is_among ids) nodes)
not_put ids node nodes apart = ap ids_of (put_dropped (is_among ids) node nodes apart)

-- ---- a node comes

-- the new id needs a mark
marks_put : (new : Node) (nodes : List Node) (marks : ℕ) → HaveMarks nodes marks → new.id.at < marks → HaveMarks (put_node new nodes) marks
marks_put new [] marks all inside = (inside, tt)
marks_put new (node ∷ nodes) marks all inside = elim (is_before new.task.key node) as (λ b. HaveMarks (cond b (node ∷ put_node new nodes) (new ∷ node ∷ nodes)) marks) [
  | true ↦ (all.0, marks_put new nodes marks all.1 inside)
  | false ↦ (inside, all)
]

-- the others have other ids
others_differ : (new : Node) (nodes : List Node) → HaveOwnIds (put_node new nodes) → (other : Node) → Contains nodes other → other.id ≢ new.id
others_differ new nodes own other has same =
    let left : Contains (without new.id (put_node new nodes)) other = subst (λ (l : List Node). Contains l other) (sym (without_put new nodes own)) has in
    true≢false (sym (from_filter (λ (n : Node). not (is_at new.id n)) (put_node new nodes) other left).1 ∙ ap not (is_at-same new.id other same))

-- and its own is not listed
new_apart : (new : Node) (nodes : List Node) (some : MarkedIds) → IsGraph (put_node new nodes) → AreSome nodes some → is_among (ids_in some) new ≡ false
new_apart new nodes some graph are = unlisted nodes some new are (others_differ new nodes graph.own_ids)

-- so the same ids are listed, and the lists are as good with it
pub listed_put : (new : Node) (nodes now : List Node) (some : MarkedIds) → IsGraph now → now ≡ put_node new nodes → AreSome nodes some → listed_in now some ≡ listed_in nodes some
listed_put new nodes now some graph is are = ap (λ l. listed_in l some) is ∙ not_put (ids_in some) new nodes (new_apart new nodes some (subst IsGraph is graph) are)

pub some_put : (new : Node) (nodes now : List Node) (some : MarkedIds) → IsGraph now → now ≡ put_node new nodes → length now ≤ some.room → new.id.at < length some.standings → AreSome nodes some → AreSome now some
some_put new nodes now some graph is fits inside are =
    let lists = in_neither some new (new_apart new nodes some (subst IsGraph is graph) are) in
    subst (λ (l : List Node). AreSome l some) (sym is) (record {
      in_order = are.in_order ∙ sym (not_put (settled_in some) new nodes lists.0);
      recent = all_from (λ (a : Arrival). HasNode (put_node new nodes) a.id) (recent_in some) (λ arrival has.
          let its = came_as nodes (recent_in some) arrival are.recent has in
          has_by_id (put_node new nodes) arrival.id its.0 (in_put_old new nodes its.0 its.1) its.2);
      room = subst (λ (l : List Node). length l ≤ some.room) is fits;
      marks = marks_put new nodes (length some.standings) are.marks inside;
    })

-- ---- a node goes

-- the others keep theirs
marks_without : (id : NodeId) (nodes : List Node) (marks : ℕ) → HaveMarks nodes marks → HaveMarks (without id nodes) marks
marks_without id [] marks all = tt
marks_without id (node ∷ nodes) marks all = elim (is_at id node) as (λ b. HaveMarks (cond (not b) (node ∷ without id nodes) (without id nodes)) marks) [
  | true ↦ marks_without id nodes marks all.1
  | false ↦ (all.0, marks_without id nodes marks all.1)
]

-- one that was forgotten isn't listed
forgotten_apart : (nodes : List Node) (test : Node → Bool) (some : MarkedIds) (id : NodeId) (gone : Node) → IsGraph nodes → node_at nodes id ≡ Some gone → AreSelected nodes (forgotten (id ∷ []) test) (listed_in nodes some) → is_among (ids_in some) gone ≡ false
forgotten_apart nodes test some id gone graph found is =
    let its : Contains nodes gone × (gone.id ≡ id) = ids_find_nodes nodes id gone found in
    among_in_order nodes (forgotten (id ∷ []) test) (ids_in some) gone graph its.0 is ∙ ap (λ b. cond (b || false) false (test gone)) (is_at-same id gone its.1)

-- so it makes no difference
others_listed : (id : NodeId) (gone : Node) (nodes : List Node) (ids : List NodeId) → IsGraph nodes → node_at nodes id ≡ Some gone → is_among ids gone ≡ false → ids_of (filter (is_among ids) nodes) ≡ ids_of (filter (is_among ids) (without id nodes))
others_listed id gone nodes ids graph found apart = ap (λ l. ids_of (filter (is_among ids) l)) (sym (put_without id nodes gone graph found)) ∙ not_put ids gone (without id nodes) apart

-- and the lists are as good without it
pub listed_without : (id : NodeId) (gone : Node) (nodes now : List Node) (test : Node → Bool) (some : MarkedIds) → IsGraph nodes → node_at nodes id ≡ Some gone → now ≡ without id nodes → AreSelected nodes (forgotten (id ∷ []) test) (listed_in nodes some)
    → listed_in now some ≡ listed_in nodes some
listed_without id gone nodes now test some graph found is selected =
    ap (λ l. listed_in l some) is ∙ sym (others_listed id gone nodes (ids_in some) graph found (forgotten_apart nodes test some id gone graph found selected))

-- who came is another one
arrival_left : (id : NodeId) (gone : Node) (nodes : List Node) (recent : List Arrival) (arrival : Arrival) (node : Node) → node_at nodes id ≡ Some gone → is_among (arrived recent) gone ≡ false → Contains recent arrival → Contains nodes node → node.id ≡ arrival.id → Contains (without id nodes) node
arrival_left id gone nodes recent arrival node found apart has there same_as =
    in_filter (λ n. not (is_at id n)) nodes node there (ap not (false_from_ne_true (is_at id node) (λ at.
    let same : gone.id ≡ arrival.id = (ids_find_nodes nodes id gone found).1 ∙ sym (same_id id node at) ∙ same_as in
    true≢false (sym (any_from (λ i. is_at i gone) (arrived recent) arrival.id (in_map (λ (a : Arrival). a.id) recent arrival has) (is_at-same arrival.id gone same)) ∙ apart))))

pub some_without : (id : NodeId) (gone : Node) (nodes now : List Node) (test : Node → Bool) (some : MarkedIds) → IsGraph nodes → node_at nodes id ≡ Some gone → now ≡ without id nodes → AreSelected nodes (forgotten (id ∷ []) test) (listed_in nodes some) → AreSome nodes some
    → AreSome now some
some_without id gone nodes now test some graph found is selected are =
    let rest : List Node = without id nodes in
    let lists = in_neither some gone (forgotten_apart nodes test some id gone graph found selected) in
    subst (λ (l : List Node). AreSome l some) (sym is) (record {
      in_order = are.in_order ∙ others_listed id gone nodes (settled_in some) graph found lists.0;
      recent = all_from (λ (a : Arrival). HasNode rest a.id) (recent_in some) (λ arrival has.
          let its = came_as nodes (recent_in some) arrival are.recent has in
          has_by_id rest arrival.id its.0 (arrival_left id gone nodes (recent_in some) arrival its.0 found lists.1 has its.1 its.2) its.2);
      room = omega (arith, length-without id nodes gone graph found, are.room);
      marks = marks_without id nodes (length some.standings) are.marks;
    })

-- ---- a change that keeps each node's id and task

-- of the ids of the nodes, those that are there
listed_by_ids : (ids : List NodeId) (nodes : List Node) → ids_of (filter (is_among ids) nodes) ≡ filter (λ id. has_number id.at ids) (ids_of nodes)
listed_by_ids ids nodes = sym (filter-map (λ (n : Node). n.id) (λ id. has_number id.at ids) nodes)

-- where the nodes have the same ids, the same are listed
pub listed_kept : (ids : List NodeId) (nodes now : List Node) → ids_of now ≡ ids_of nodes → ids_of (filter (is_among ids) now) ≡ ids_of (filter (is_among ids) nodes)
listed_kept ids nodes now same = listed_by_ids ids now ∙ ap (filter (λ (id : NodeId). has_number id.at ids)) same ∙ sym (listed_by_ids ids nodes)

-- and the lists are as good
some_map : (f : Node → Node) → ((node : Node) → (f node).id ≡ node.id) → (nodes : List Node) (some : MarkedIds) → AreSome nodes some → AreSome (map f nodes) some
some_map f keeps_id nodes some are =
    let same : ids_of (map f nodes) ≡ ids_of nodes = ids-map f keeps_id nodes in
    record {
      in_order = are.in_order ∙ sym (listed_kept (settled_in some) nodes (map f nodes) same);
      recent = all_from (λ (a : Arrival). HasNode (map f nodes) a.id) (recent_in some) (λ arrival has.
          let its = came_as nodes (recent_in some) arrival are.recent has in
          has_by_id (map f nodes) arrival.id (f its.0) (in_map f nodes its.0 its.1) (keeps_id its.0 ∙ its.2));
      room = omega (arith, length-map nodes f, are.room);
      marks = subst (AllByRecursion (λ (id : NodeId). id.at < length some.standings)) (sym same) are.marks;
    }

-- a node starts
pub some_started : (id : NodeId) (nodes now : List Node) (some : MarkedIds) → now ≡ started id nodes → AreSome nodes some → AreSome now some
some_started id nodes now some is are = subst (λ (l : List Node). AreSome l some) (sym is) (some_map (start id) (start_keeps_id id) nodes some are)

-- sets are replaced
pub some_changed : (changes : List SetChange) (nodes now : List Node) (some : MarkedIds) → now ≡ with_sets changes nodes → AreSome nodes some → AreSome now some
some_changed changes nodes now some is are = subst (λ (l : List Node). AreSome l some) (sym is) (some_map (changed changes) (λ node. refl) nodes some are)
