-- Lists of ids of which some count, by how their numbers are marked.
use Rattle.std.proofs.Common.{◌≡◌, inl, inr, ℕ, zero, suc, ◌+◌, ◌<◌, ◌≤◌, ◌==◌, ◌&&◌, ◌||◌, Bool, true, false, not, cond, List, [], ◌∷◌, ◌++◌, length, take, drop, get_or, set, refl, sym, ◌∙◌, ap, subst, arith, eqb-true, eq-eqb, ne_eqb, true≢false, Contains, IsPermutation, MatchOption, Option, None, Some, filter, take_all, length-drop, length-set, slice_get}
use Rattle.std.proofs.Math.Bool.{or-false}
use Rattle.std.proofs.lemmas.List.Sorted.{Contains-permutation, IsPermutation-sym}
use Rattle.std.specs.Int.{from_bool}
use Rattle.std.specs.List.{remove}
use Rattle.std.proofs.lemmas.List.{take-append-le}
use Rattle.std.proofs.lemmas.List.Elements.{Contains-push_cases, filter_agree, filter_more}
use Rattle.std.proofs.lemmas.Bool.{or_parts}
use Rattle.plain_laws.specs.Lists.{filter_both, filter_again}
use Rattle.plain_laws.specs.Members.{filter_of_all}
use Rattle.plain_laws.specs.Bools.{and_false}
use Rattle.kdg_graph.proofs.Common.{cases_eq, count_by-le-length, drop_more, get_or_from_slice_get, slice_get_within, list_any-IsPermutation, and_parts, from_map, in_map, length-filter, take_more, AllByRecursion, Arrival, NodeId, Standing, Absent, Recent, Settled, Node, HasNode, HaveOwnIds, IsGraph, ids_of, is_at, without, IsLaneAmong, IsInOrder, AreForgotten, AreMarked, AreRetested, AreSome, HasGone, HaveMarks, IsNext, MarkedIds, arrived, ids_in, listed_in, recent_in, settled_from, settled_in, has_number, is_among, is_recent, is_settled, recent_among, settled_among, all_at, all_from, from_filter, in_filter, here, filter-map, false_from_ne_true}
use Rattle.kdg_graph.proofs.Blocking.{any_from}
use Rattle.kdg_graph.proofs.Lanes.{among_own_ids, length-ids, same_by_number}
use Rattle.kdg_graph.proofs.LookUps.{ids_find_nodes, none_at, without_none}
use Rattle.kdg_graph.proofs.Rooms.{all_mapped}
use Rattle.kdg_graph.proofs.Listed.{ArePut, IsPutInto, IsReached, IsSetIn, IsTakenFrom, has_either, has_mark, number_listed, in_order_putting, in_order_taking, lane_in_order, mark_set, marked_set, reached_end, selected_set, set_as_it_is, set_by_arrival, set_by_putting, set_in_either}
use Rattle.kdg_graph.specs.NodeLaws.{same_id, found_node}

-- ---- filters of any list

-- what is as long as before
pub filter_full : {X : Type 0} (p : X → Bool) (xs : List X) → length xs ≤ length (filter p xs) → filter p xs ≡ xs
filter_full p [] fits = refl
filter_full p (x ∷ xs) fits =
    let by_case : (test : Bool) → length (x ∷ xs) ≤ length (cond test (x ∷ filter p xs) (filter p xs)) → cond test (x ∷ filter p xs) (filter p xs) ≡ x ∷ xs = elim [
      | true ↦ λ some. ap (λ l. x ∷ l) (filter_full p xs (omega (arith, some)))
      | false ↦ λ some. absurd (omega (arith, some, length-filter p xs, count_by-le-length p xs))
    ] in
    by_case (p x) fits

drop_none : {X : Type 0} (xs : List X) → drop 0 xs ≡ xs
drop_none [] = refl
drop_none (x ∷ xs) = refl

-- one that fails is taken out
pub filter_removed : {X : Type 0} (p : X → Bool) (xs : List X) (place : ℕ) (d : X) → place < length xs → p (get_or xs place d) ≡ false → filter p (remove xs place) ≡ filter p xs
filter_removed p [] place d inside fails = absurd (omega (arith, inside))
filter_removed p (x ∷ xs) zero d inside fails = ap (filter p) (drop_none xs) ∙ sym (ap (λ b. cond b (x ∷ filter p xs) (filter p xs)) fails)
filter_removed p (x ∷ xs) (suc place) d inside fails = ap (λ l. cond (p x) (x ∷ l) l) (filter_removed p xs place d (omega (arith, inside)) fails)

-- those before it stay
pub front_kept : {X : Type 0} (xs : List X) (place : ℕ) → take place (remove xs place) ≡ take place xs
front_kept [] zero = refl
front_kept [] (suc place) = refl
front_kept (x ∷ xs) zero = refl
front_kept (x ∷ xs) (suc place) = ap (λ l. x ∷ l) (front_kept xs place)

-- one more that passes
pub front_more : {X : Type 0} (p : X → Bool) (xs : List X) (i : ℕ) (d : X) → i < length xs → filter p (take i xs) ≡ take i xs → p (get_or xs i d) ≡ true → filter p (take (i + 1) xs) ≡ take (i + 1) xs
front_more p xs i d inside was passes =
    filter_more p xs i d inside ∙ (λ j. was j ++ cond (passes j) (get_or xs i d ∷ []) []) ∙ sym (take_more xs i d inside)

-- all of them
pub front_all : {X : Type 0} (p : X → Bool) (xs : List X) (i : ℕ) → length xs ≤ i → filter p (take i xs) ≡ take i xs → filter p xs ≡ xs
front_all p xs i past was = ap (filter p) (sym (take_all i xs past)) ∙ was ∙ take_all i xs past

-- ---- numbers of ids that are kept by their numbers

pub has-kept : (keeps : ℕ → Bool) (ids : List NodeId) (at : ℕ) → has_number at (filter (λ id. keeps id.at) ids) ≡ (has_number at ids && keeps at)
has-kept keeps [] at = refl
has-kept keeps (id ∷ ids) at =
    let kept : List NodeId = filter (λ (i : NodeId). keeps i.at) ids in
    let rest : has_number at kept ≡ (has_number at ids && keeps at) = has-kept keeps ids at in
    let by_case : (same stays : Bool) → (at == id.at) ≡ same → keeps id.at ≡ stays → has_number at (cond stays (id ∷ kept) kept) ≡ ((same || has_number at ids) && keeps at) = elim [
      | true ↦ elim [
        | true ↦ λ here_is stays. ap (λ b. b || has_number at kept) here_is ∙ sym (ap keeps (eqb-true at id.at here_is) ∙ stays)
        | false ↦ λ here_is goes.
            let gone : keeps at ≡ false = ap keeps (eqb-true at id.at here_is) ∙ goes in
            rest ∙ ap (λ b. has_number at ids && b) gone ∙ and_false (has_number at ids) ∙ sym gone
      ]
      | false ↦ elim [
        | true ↦ λ apart stays. ap (λ b. b || has_number at kept) apart ∙ rest
        | false ↦ λ apart goes. rest
      ]
    ] in
    by_case (at == id.at) (keeps id.at) refl refl

pub arrived-kept : (keeps : ℕ → Bool) (arrivals : List Arrival) → arrived (filter (λ arrival. keeps arrival.id.at) arrivals) ≡ filter (λ id. keeps id.at) (arrived arrivals)
arrived-kept keeps arrivals = sym (filter-map (λ (a : Arrival). a.id) (λ (id : NodeId). keeps id.at) arrivals)

-- the same by the marks
pub has-settled : (standings : List Standing) (ids : List NodeId) (at : ℕ) → has_number at (settled_among standings ids) ≡ (has_number at ids && is_settled (get_or standings at Absent))
has-settled standings ids at = has-kept (λ n. is_settled (get_or standings n Absent)) ids at

pub has-recent : (standings : List Standing) (arrivals : List Arrival) (at : ℕ) → has_number at (arrived (recent_among standings arrivals)) ≡ (has_number at (arrived arrivals) && is_recent (get_or standings at Absent))
has-recent standings arrivals at = ap (has_number at) (arrived-kept (λ n. is_recent (get_or standings n Absent)) arrivals) ∙ has-kept (λ n. is_recent (get_or standings n Absent)) (arrived arrivals) at

-- an id is among those that have its number
has_itself : (ids : List NodeId) (id : NodeId) → Contains ids id → has_number id.at ids ≡ true
has_itself ids id has = any_from (λ (i : NodeId). id.at == i.at) ids id has (eq-eqb id.at id.at refl)

-- where the marks tell who is there, all are marked
pub all_settled : (standings : List Standing) (ids : List NodeId) → ((at : ℕ) → is_settled (get_or standings at Absent) ≡ has_number at ids) → settled_among standings ids ≡ ids
all_settled standings ids told = filter_of_all (λ (id : NodeId). is_settled (get_or standings id.at Absent)) ids (λ id has. told id.at ∙ has_itself ids id has)

-- ---- an id loses its mark

-- the ids but for one
abbrev pub ids_but : NodeId → List NodeId → List NodeId
ids_but id ids = filter (λ other. not (other.at == id.at)) ids

and_not : (a b : Bool) → (a && not b) ≡ cond b false a
and_not true true = refl
and_not true false = refl
and_not false true = refl
and_not false false = refl

pub set_by_dropping : (id : NodeId) (ids : List NodeId) → IsSetIn false id ids (ids_but id ids)
set_by_dropping id ids at = has-kept (λ n. not (n == id.at)) ids at ∙ and_not (has_number at ids) (at == id.at)

pub taken_by_dropping : (nodes : List Node) (id : NodeId) (ids : List NodeId) → IsTakenFrom nodes id ids (ids_but id ids)
taken_by_dropping nodes id ids some among = ap (ids_but id) among.ids_are ∙ filter-map (λ (n : Node). n.id) (λ (other : NodeId). not (other.at == id.at)) some

-- with a mark that keeps it no more, those that are kept are the others
pub settled_unmarked : (standings : List Standing) (ids : List NodeId) (id : NodeId) (standing : Standing) → id.at < length standings → is_settled standing ≡ false → settled_among (set standings id.at standing) ids ≡ ids_but id (settled_among standings ids)
settled_unmarked standings ids id standing inside other =
    filter_agree (λ (i : NodeId). is_settled (get_or (set standings id.at standing) i.at Absent)) (λ (i : NodeId). is_settled (get_or standings i.at Absent) && not (i.at == id.at)) (λ i.
    mark_set is_settled standings id.at i.at standing inside ∙ ap (λ b. cond (i.at == id.at) b (is_settled (get_or standings i.at Absent))) other ∙ sym (and_not (is_settled (get_or standings i.at Absent)) (i.at == id.at))) ids
    ∙ sym (filter_both (λ (i : NodeId). not (i.at == id.at)) (λ (i : NodeId). is_settled (get_or standings i.at Absent)) ids)

pub recent_unmarked : (standings : List Standing) (arrivals : List Arrival) (id : NodeId) (standing : Standing) → id.at < length standings → is_recent standing ≡ false → recent_among (set standings id.at standing) arrivals ≡ filter (λ arrival. not (arrival.id.at == id.at)) (recent_among standings arrivals)
recent_unmarked standings arrivals id standing inside other =
    filter_agree (λ (a : Arrival). is_recent (get_or (set standings id.at standing) a.id.at Absent)) (λ (a : Arrival). is_recent (get_or standings a.id.at Absent) && not (a.id.at == id.at)) (λ a.
    mark_set is_recent standings id.at a.id.at standing inside ∙ ap (λ b. cond (a.id.at == id.at) b (is_recent (get_or standings a.id.at Absent))) other ∙ sym (and_not (is_recent (get_or standings a.id.at Absent)) (a.id.at == id.at))) arrivals
    ∙ sym (filter_both (λ (a : Arrival). not (a.id.at == id.at)) (λ (a : Arrival). is_recent (get_or standings a.id.at Absent)) arrivals)

-- where it wasn't kept before, all stay
not_there : (id : NodeId) (ids : List NodeId) → has_number id.at ids ≡ false → ids_but id ids ≡ ids
not_there id ids absent = filter_of_all (λ (other : NodeId). not (other.at == id.at)) ids (λ other has. ap not (false_from_ne_true (other.at == id.at) (λ same.
    true≢false (sym (has_itself ids other has) ∙ ap (λ n. has_number n ids) (eqb-true other.at id.at same) ∙ absent))))

pub settled_stays : (standings : List Standing) (ids : List NodeId) (id : NodeId) (standing : Standing) → id.at < length standings → is_settled standing ≡ false → is_settled (get_or standings id.at Absent) ≡ false → settled_among (set standings id.at standing) ids ≡ settled_among standings ids
settled_stays standings ids id standing inside other absent =
    settled_unmarked standings ids id standing inside other ∙ not_there id (settled_among standings ids) (has-settled standings ids id.at ∙ ap (λ b. has_number id.at ids && b) absent ∙ and_false (has_number id.at ids))

-- at most one is lost
loses_one : (id : NodeId) (some : List Node) → HaveOwnIds some → length some ≤ suc (length (without id some))
loses_one id [] own = omega arith
loses_one id (node ∷ some) own =
    let by_case : (at : Bool) → is_at id node ≡ at → length (node ∷ some) ≤ suc (length (cond (not at) (node ∷ without id some) (without id some))) = elim [
      | true ↦ λ at. omega (arith, ap length (without_none id some (none_at node.id id some (same_id id node at) own.0)))
      | false ↦ λ _. omega (arith, loses_one id some own.1)
    ] in
    by_case (is_at id node) refl

pub fewer_by_one : (nodes : List Node) (id : NodeId) (ids : List NodeId) → IsGraph nodes → IsInOrder nodes ids → length ids ≤ suc (length (ids_but id ids))
fewer_by_one nodes id ids graph in_order =
    let some : List Node = filter (is_among ids) nodes in
    let among : IsLaneAmong nodes some ids = lane_in_order nodes ids graph in_order in
    omega (
      arith,
      loses_one id some (among_own_ids nodes some ids graph among),
      ap length in_order,
      length-ids some,
      ap length (taken_by_dropping nodes id ids some among),
      length-ids (without id some),
    )

-- ---- an id comes

or_both : (here a b : Bool) → (cond here true a && cond here true b) ≡ cond here true (a && b)
or_both true a b = refl
or_both false a b = refl

pub recent_marked : (standings : List Standing) (arrivals : List Arrival) (arrival : Arrival) (id : NodeId) → arrival.id ≡ id → id.at < length standings
    → IsSetIn true id (arrived (recent_among standings arrivals)) (arrived (recent_among (set standings id.at Recent) (arrivals ++ arrival ∷ [])))
recent_marked standings arrivals arrival id same inside at =
    has-recent (set standings id.at Recent) (arrivals ++ arrival ∷ []) at
    ∙ (λ i. set_by_arrival arrivals arrival id same at i && mark_set is_recent standings id.at at Recent inside i)
    ∙ or_both (at == id.at) (has_number at (arrived arrivals)) (is_recent (get_or standings at Absent))
    ∙ ap (cond (at == id.at) true) (sym (has-recent standings arrivals at))

pub recent_there : (nodes : List Node) (standings : List Standing) (arrivals : List Arrival) (arrival : Arrival) (id : NodeId) → arrival.id ≡ id → id.at < length standings → HasNode nodes id → AllByRecursion (λ a. HasNode nodes a.id) (recent_among standings arrivals)
    → AllByRecursion (λ a. HasNode nodes a.id) (recent_among (set standings id.at Recent) (arrivals ++ arrival ∷ []))
recent_there nodes standings arrivals arrival id same inside there_is all =
    all_from (λ (a : Arrival). HasNode nodes a.id) (recent_among (set standings id.at Recent) (arrivals ++ arrival ∷ [])) (λ a has.
    let one : Contains (arrivals ++ arrival ∷ []) a × (is_recent (get_or (set standings id.at Recent) a.id.at Absent) ≡ true) = from_filter (λ (x : Arrival). is_recent (get_or (set standings id.at Recent) x.id.at Absent)) (arrivals ++ arrival ∷ []) a has in
    elim (cases_eq a.id.at id.at) [
      | inl equal ↦ subst (HasNode nodes) (sym (same_by_number a.id id equal)) there_is
      | inr differs ↦
          let was : is_recent (get_or standings a.id.at Absent) ≡ true = sym (mark_set is_recent standings id.at a.id.at Recent inside ∙ ap (λ b. cond b true (is_recent (get_or standings a.id.at Absent))) (ne_eqb a.id.at id.at differs)) ∙ one.1 in
          elim (Contains-push_cases arrivals arrival a one.0) [
            | inl before ↦ all_at (λ (x : Arrival). HasNode nodes x.id) (recent_among standings arrivals) a all (in_filter (λ (x : Arrival). is_recent (get_or standings x.id.at Absent)) arrivals a before was)
            | inr itself ↦ absurd (differs (ap (λ (x : Arrival). x.id.at) (sym itself) ∙ ap (λ (i : NodeId). i.at) same))
          ]
    ])

-- ---- places of the list in order

pub drop_at : (ids : List NodeId) (place : ℕ) (id : NodeId) → slice_get ids place ≡ Some id → drop place ids ≡ id ∷ drop (place + 1) ids
drop_at ids place id at = drop_more ids place id (slice_get_within ids place id at) ∙ ap (λ i. i ∷ drop (place + 1) ids) (get_or_from_slice_get ids place id id at)

pub drop_end : (ids : List NodeId) (place : ℕ) → slice_get ids place ≡ None → drop place ids ≡ []
drop_end [] zero is = refl
drop_end [] (suc place) is = refl
drop_end (id ∷ ids) zero is = cc
drop_end (id ∷ ids) (suc place) is = drop_end ids place is

-- one that is marked so is the first of those from its place on, and any other is passed over
pub settled_here : (some : MarkedIds) (place : ℕ) (id : NodeId) → slice_get some.entries place ≡ Some id → is_settled (get_or some.standings id.at Absent) ≡ true → settled_from some place ≡ id ∷ settled_from some (place + 1)
settled_here some place id at is =
    ap (settled_among some.standings) (drop_at some.entries place id at) ∙ ap (λ b. cond b (id ∷ settled_from some (place + 1)) (settled_from some (place + 1))) is

pub settled_past : (some : MarkedIds) (place : ℕ) (id : NodeId) → slice_get some.entries place ≡ Some id → is_settled (get_or some.standings id.at Absent) ≡ false → settled_from some (place + 1) ≡ settled_from some place
settled_past some place id at other =
    sym (ap (settled_among some.standings) (drop_at some.entries place id at) ∙ ap (λ b. cond b (id ∷ settled_from some (place + 1)) (settled_from some (place + 1))) other)

-- ---- the same lists

pub listed_same : (nodes : List Node) (before after : MarkedIds) → settled_in after ≡ settled_in before → recent_in after ≡ recent_in before → listed_in nodes after ≡ listed_in nodes before
listed_same nodes before after settled recent i = ids_of (filter (is_among (settled i ++ arrived (recent i))) nodes)

pub some_same : (nodes : List Node) (before after : MarkedIds) → settled_in after ≡ settled_in before → recent_in after ≡ recent_in before → before.room ≤ after.room → length before.standings ≤ length after.standings → AreSome nodes before → AreSome nodes after
some_same nodes before after settled recent room long are = record {
  in_order = subst (IsInOrder nodes) (sym settled) are.in_order;
  recent = subst (AllByRecursion (λ a. HasNode nodes a.id)) (sym recent) are.recent;
  room = omega (arith, room, are.room);
  marks = all_mapped (λ (id : NodeId). id.at < length before.standings) (λ (id : NodeId). id.at < length after.standings) (ids_of nodes) (λ id inside. omega (arith, inside, long)) are.marks;
}

-- ---- an id is forgotten

mark_lost_settled : (standings : List Standing) (entries : List NodeId) (id : NodeId) → id.at < length standings → IsSetIn false id (settled_among standings entries) (settled_among (set standings id.at Absent) entries)
mark_lost_settled standings entries id inside at =
    ap (has_number at) (settled_unmarked standings entries id Absent inside refl) ∙ set_by_dropping id (settled_among standings entries) at

mark_lost_recent : (standings : List Standing) (arrivals : List Arrival) (id : NodeId) → id.at < length standings → IsSetIn false id (arrived (recent_among standings arrivals)) (arrived (recent_among (set standings id.at Absent) arrivals))
mark_lost_recent standings arrivals id inside at =
    ap (λ (l : List Arrival). has_number at (arrived l)) (recent_unmarked standings arrivals id Absent inside refl)
    ∙ ap (has_number at) (arrived-kept (λ n. not (n == id.at)) (recent_among standings arrivals)) ∙ set_by_dropping id (arrived (recent_among standings arrivals)) at

pub marked_forgotten : (standings : List Standing) (entries : List NodeId) (arrivals : List Arrival) (id : NodeId) → AreMarked (settled_among standings entries) (recent_among standings arrivals) standings → id.at < length standings
    → AreMarked (settled_among (set standings id.at Absent) entries) (recent_among (set standings id.at Absent) arrivals) (set standings id.at Absent)
marked_forgotten standings entries arrivals id marked inside =
    marked_set standings (settled_among standings entries) (settled_among (set standings id.at Absent) entries) (recent_among standings arrivals) (recent_among (set standings id.at Absent) arrivals) id Absent marked inside
    (mark_lost_settled standings entries id inside) (mark_lost_recent standings arrivals id inside)

-- one that is there is lost
loses_it : (id : NodeId) (ids : List NodeId) → has_number id.at ids ≡ true → suc (length (ids_but id ids)) ≤ length ids
loses_it id [] has = absurd (true≢false (sym has))
loses_it id (first ∷ ids) has =
    let others : NodeId → Bool = λ other. not (other.at == id.at) in
    let by_case : (same : Bool) → (first.at == id.at) ≡ same → suc (length (cond (not same) (first ∷ ids_but id ids) (ids_but id ids))) ≤ length (first ∷ ids) = elim [
      | true ↦ λ _. omega (arith, length-filter others ids, count_by-le-length others ids)
      | false ↦ λ other.
          let differs : (id.at == first.at) ≡ false = false_from_ne_true (id.at == first.at) (λ same. true≢false (sym (eq-eqb first.at id.at (sym (eqb-true id.at first.at same))) ∙ other)) in
          omega (arith, loses_it id ids (ap (λ b. b || has_number id.at ids) (sym differs) ∙ has))
    ] in
    by_case (first.at == id.at) refl

-- of those in order one is lost, if it was one of them
pub lost_by_mark : (nodes : List Node) (standings : List Standing) (entries : List NodeId) (id : NodeId) (answer : Bool) → IsGraph nodes → IsInOrder nodes (settled_among standings entries) → id.at < length standings → is_settled (get_or standings id.at Absent) ≡ answer → has_number id.at (settled_among standings entries) ≡ answer
    → length (settled_among standings entries) ≡ from_bool answer + length (settled_among (set standings id.at Absent) entries)
lost_by_mark nodes standings entries id true graph in_order inside is has =
    omega (arith, fewer_by_one nodes id (settled_among standings entries) graph in_order, loses_it id (settled_among standings entries) has, ap length (settled_unmarked standings entries id Absent inside refl))
lost_by_mark nodes standings entries id false graph in_order inside is has =
    omega (arith, ap length (settled_stays standings entries id Absent inside refl is))

pub forgets : (nodes : List Node) (id : NodeId) (some : MarkedIds) → IsGraph nodes → HasNode nodes id → AreSome nodes some → AreForgotten nodes (id ∷ []) some (record some { standings = set some.standings id.at Absent })
forgets nodes id some graph there_is are =
    let inside : id.at < length some.standings = has_mark nodes id (length some.standings) there_is are.marks in
    let before : List NodeId = settled_in some in
    let unmarked = settled_unmarked some.standings some.entries id Absent inside refl in
    let now : MarkedIds = record some { standings = set some.standings id.at Absent } in
    let long = length-set some.standings id.at Absent in
    let both = set_in_either false false id before (settled_in now) (arrived (recent_in some)) (arrived (recent_in now)) (mark_lost_settled some.standings some.entries id inside) (mark_lost_recent some.standings some.arrivals id inside) in
    record {
      ids = λ test was. selected_set nodes test id false (ids_in some) (ids_in now) graph both was;
      some = record {
        in_order = subst (IsInOrder nodes) (sym unmarked) (in_order_taking nodes id before (ids_but id before) graph are.in_order (taken_by_dropping nodes id before));
        recent = subst (AllByRecursion (λ a. HasNode nodes a.id)) (sym (recent_unmarked some.standings some.arrivals id Absent inside refl))
            (all_from (λ (a : Arrival). HasNode nodes a.id) (filter (λ (a : Arrival). not (a.id.at == id.at)) (recent_in some)) (λ a has.
            all_at (λ (x : Arrival). HasNode nodes x.id) (recent_in some) a are.recent (from_filter (λ (x : Arrival). not (x.id.at == id.at)) (recent_in some) a has).0));
        room = are.room;
        marks = subst (HaveMarks nodes) (sym long) are.marks;
      };
      room = omega arith;
      marks = long;
    }

-- ---- an id waits

waiting_settled : (standings : List Standing) (entries : List NodeId) (id : NodeId) → id.at < length standings → is_settled (get_or standings id.at Absent) ≡ false → IsSetIn false id (settled_among standings entries) (settled_among (set standings id.at Recent) entries)
waiting_settled standings entries id inside absent =
    subst (IsSetIn false id (settled_among standings entries)) (sym (settled_stays standings entries id Recent inside refl absent))
    (set_as_it_is id (settled_among standings entries) false (has-settled standings entries id.at ∙ ap (λ b. has_number id.at entries && b) absent ∙ and_false (has_number id.at entries)))

pub marked_waiting : (standings : List Standing) (entries : List NodeId) (arrivals : List Arrival) (arrival : Arrival) (id : NodeId) → AreMarked (settled_among standings entries) (recent_among standings arrivals) standings → id.at < length standings → arrival.id ≡ id → is_settled (get_or standings id.at Absent) ≡ false
    → AreMarked (settled_among (set standings id.at Recent) entries) (recent_among (set standings id.at Recent) (arrivals ++ arrival ∷ [])) (set standings id.at Recent)
marked_waiting standings entries arrivals arrival id marked inside same absent =
    marked_set standings (settled_among standings entries) (settled_among (set standings id.at Recent) entries) (recent_among standings arrivals) (recent_among (set standings id.at Recent) (arrivals ++ arrival ∷ [])) id Recent marked inside
    (waiting_settled standings entries id inside absent) (recent_marked standings arrivals arrival id same inside)

pub waits : (nodes : List Node) (id : NodeId) (arrival : Arrival) (some : MarkedIds) → arrival.id ≡ id → IsGraph nodes → HasNode nodes id → AreSome nodes some → is_settled (get_or some.standings id.at Absent) ≡ false
    → AreRetested nodes (λ _. true) (id ∷ []) some (record some { arrivals = some.arrivals ++ arrival ∷ []; standings = set some.standings id.at Recent })
waits nodes id arrival some same graph there_is are absent =
    let inside : id.at < length some.standings = has_mark nodes id (length some.standings) there_is are.marks in
    let now : MarkedIds = record some { arrivals = some.arrivals ++ arrival ∷ []; standings = set some.standings id.at Recent } in
    let long = length-set some.standings id.at Recent in
    let both = set_in_either false true id (settled_in some) (settled_in now) (arrived (recent_in some)) (arrived (recent_in now)) (waiting_settled some.standings some.entries id inside absent) (recent_marked some.standings some.arrivals arrival id same inside) in
    record {
      ids = λ test was. selected_set nodes test id true (ids_in some) (ids_in now) graph both was;
      some = record {
        in_order = subst (IsInOrder nodes) (sym (settled_stays some.standings some.entries id Recent inside refl absent)) are.in_order;
        recent = recent_there nodes some.standings some.arrivals arrival id same inside there_is are.recent;
        room = are.room;
        marks = subst (HaveMarks nodes) (sym long) are.marks;
      };
      room = omega arith;
      marks = long;
    }

-- ---- an id comes to its place at once, where all that are in order are marked so, and none waits

pub marked_placed : (nodes : List Node) (standings : List Standing) (entries ids : List NodeId) (id : NodeId) → IsGraph nodes → HasNode nodes id → id.at < length standings → AreMarked (settled_among standings entries) [] standings → settled_among standings entries ≡ entries → IsInOrder nodes (settled_among standings entries)
    → IsPutInto nodes id entries ids → AreMarked ids [] (set standings id.at Settled)
marked_placed nodes standings entries ids id graph there_is inside marked all in_order puts =
    marked_set standings entries ids [] [] id Settled (subst (λ (l : List NodeId). AreMarked l [] standings) all marked) inside (set_by_putting nodes id entries ids graph there_is (subst (IsInOrder nodes) all in_order) puts) (none_waits (λ at. at == id.at))
  where
    none_waits : (same : ℕ → Bool) (at : ℕ) → false ≡ cond (same at) false false
    none_waits same at = elim (same at) as (λ b. false ≡ cond b false false) [ true ↦ refl | false ↦ refl ]

-- the marks tell who is there, so each one is marked
pub as_marked : (ids : List NodeId) (standings : List Standing) → AreMarked ids [] standings → AreMarked (settled_among standings ids) [] standings
as_marked ids standings marked = subst (λ (l : List NodeId). AreMarked l [] standings) (sym (all_settled standings ids marked.are_settled)) marked

pub placed : (nodes : List Node) (standings : List Standing) (entries ids : List NodeId) (id : NodeId) (room more : ℕ) → IsGraph nodes → HasNode nodes id → AreSome nodes (record { entries = entries; arrivals = []; standings = standings; room = room }) → AreMarked (settled_among standings entries) [] standings → settled_among standings entries ≡ entries → has_number id.at entries ≡ false
    → IsPutInto nodes id entries ids → room ≤ more → AreRetested nodes (λ _. true) (id ∷ []) (record { entries = entries; arrivals = []; standings = standings; room = room }) (record { entries = ids; arrivals = []; standings = set standings id.at Settled; room = more })
placed nodes standings entries ids id room more graph there_is are marked all absent puts fits =
    let some : MarkedIds = record { entries = entries; arrivals = []; standings = standings; room = room } in
    let now : MarkedIds = record { entries = ids; arrivals = []; standings = set standings id.at Settled; room = more } in
    let inside : id.at < length standings = has_mark nodes id (length standings) there_is are.marks in
    let in_order : IsInOrder nodes entries = subst (IsInOrder nodes) all are.in_order in
    let told : AreMarked ids [] (set standings id.at Settled) = marked_placed nodes standings entries ids id graph there_is inside marked all are.in_order puts in
    let now_all : settled_in now ≡ ids = all_settled (set standings id.at Settled) ids told.are_settled in
    let long = length-set standings id.at Settled in
    let sets : IsSetIn true id (settled_in some) (settled_in now) = λ at.
    ap (has_number at) now_all ∙ set_by_putting nodes id entries ids graph there_is in_order puts at ∙ ap (λ (l : List NodeId). cond (at == id.at) true (has_number at l)) (sym all) in
    let both : IsSetIn true id (ids_in some) (ids_in now) = set_in_either true false id (settled_in some) (settled_in now) [] [] sets (λ at. elim (at == id.at) as (λ b. false ≡ cond b false false) [ true ↦ refl | false ↦ refl ]) in
    record {
      ids = λ test was. selected_set nodes test id true (ids_in some) (ids_in now) graph both was;
      some = record {
        in_order = subst (IsInOrder nodes) (sym now_all) (in_order_putting nodes id entries ids graph there_is in_order absent puts);
        recent = tt;
        room = omega (arith, fits, are.room);
        marks = subst (HaveMarks nodes) (sym long) are.marks;
      };
      room = fits;
      marks = long;
    }

-- ---- those that came are put in order

-- one arrival more has what its key tells
pub arrived_set : (arrivals : List Arrival) (i : ℕ) (arrival d : Arrival) → i < length arrivals → arrival.id ≡ (get_or arrivals i d).id → arrived (set arrivals i arrival) ≡ arrived arrivals
arrived_set [] i arrival d inside same = absurd (omega (arith, inside))
arrived_set (first ∷ arrivals) zero arrival d inside same = ap (λ (id : NodeId). id ∷ arrived arrivals) same
arrived_set (first ∷ arrivals) (suc i) arrival d inside same = ap (λ l. first.id ∷ l) (arrived_set arrivals i arrival d (omega (arith, inside)) same)

-- arrivals in another order, of which what they tell may be looked up anew
pub moved_numbers : (standings : List Standing) (arrivals now : List Arrival) → IsPermutation (arrived arrivals) (arrived now) → (at : ℕ) → has_number at (arrived (recent_among standings now)) ≡ has_number at (arrived (recent_among standings arrivals))
moved_numbers standings arrivals now moved at =
    has-recent standings now at ∙ ap (λ b. b && is_recent (get_or standings at Absent)) (sym (list_any-IsPermutation (λ (i : NodeId). at == i.at) (arrived arrivals) (arrived now) moved)) ∙ sym (has-recent standings arrivals at)

pub moved_marked : (standings : List Standing) (entries : List NodeId) (arrivals now : List Arrival) → IsPermutation (arrived arrivals) (arrived now) → AreMarked entries (recent_among standings arrivals) standings → AreMarked entries (recent_among standings now) standings
moved_marked standings entries arrivals now moved marked = record { are_settled = marked.are_settled; are_recent = λ at. marked.are_recent at ∙ sym (moved_numbers standings arrivals now moved at) }

pub moved_there : (nodes : List Node) (standings : List Standing) (arrivals now : List Arrival) → IsPermutation (arrived arrivals) (arrived now) → AllByRecursion (λ a. HasNode nodes a.id) (recent_among standings arrivals) → AllByRecursion (λ a. HasNode nodes a.id) (recent_among standings now)
moved_there nodes standings arrivals now moved all =
    let waits : NodeId → Bool = λ id. is_recent (get_or standings id.at Absent) in
    all_from (λ (a : Arrival). HasNode nodes a.id) (recent_among standings now) (λ a has.
    let its = from_filter (λ (x : Arrival). waits x.id) now a has in
    let was = from_map (λ (x : Arrival). x.id) arrivals a.id (Contains-permutation (arrived now) (arrived arrivals) a.id (IsPermutation-sym (arrived arrivals) (arrived now) moved) (in_map (λ (x : Arrival). x.id) now a its.0)) in
    subst (HasNode nodes) was.2 (all_at (λ (x : Arrival). HasNode nodes x.id) (recent_among standings arrivals) was.0 all (in_filter (λ (x : Arrival). waits x.id) arrivals was.0 was.1 (ap waits was.2 ∙ its.1))))

-- before the first one is put, and once none is left
pub put_none : (nodes : List Node) (before : List NodeId) (arrivals : List Arrival) (standings : List Standing) (end : ℕ) → end ≡ length before → IsInOrder nodes before → AreMarked before (recent_among standings arrivals) standings → ArePut nodes before standings arrivals before standings end
put_none nodes before arrivals standings end at_end in_order marked = record {
  in_order = in_order;
  marked = record {
    settled = marked.are_settled;
    left_out = λ at is. (and_parts (has_number at (arrived arrivals)) (is_recent (get_or standings at Absent)) (sym (has-recent standings arrivals at) ∙ sym (marked.are_recent at) ∙ is)).0;
    came = λ at is. is;
    all = λ at. refl;
  };
  reached = subst (λ (n : ℕ). IsReached nodes before n arrivals) (sym at_end) (reached_end nodes before arrivals);
}

pub put_all : (nodes : List Node) (before : List NodeId) (was : List Standing) (arrivals : List Arrival) (ids : List NodeId) (standings : List Standing) (end : ℕ) → ArePut nodes before was [] ids standings end → AreMarked before (recent_among was arrivals) was
    → AreMarked ids [] standings × ((at : ℕ) → has_number at ids ≡ (has_number at before || has_number at (arrived (recent_among was arrivals))))
put_all nodes before was arrivals ids standings end put marked = (
  record { are_settled = put.marked.settled; are_recent = none_waits },
  λ at. sym (ap (λ b. has_number at ids || b) (none_waits at) ∙ or-false (has_number at ids)) ∙ put.marked.all at ∙ ap (λ b. has_number at before || b) (marked.are_recent at),
)
  where
    none_waits : (at : ℕ) → is_recent (get_or standings at Absent) ≡ false
    none_waits at = false_from_ne_true _ (λ is. true≢false (sym (put.marked.left_out at is)))

-- ---- ids that are gone are taken out

pub cleaned : (standings : List Standing) (entries now : List NodeId) → now ≡ settled_among standings entries → settled_among standings now ≡ settled_among standings entries
cleaned standings entries now is = ap (settled_among standings) is ∙ filter_again (λ (id : NodeId). is_settled (get_or standings id.at Absent)) entries

pub marked_cleaned : (standings : List Standing) (entries now : List NodeId) (arrivals : List Arrival) → AreMarked (settled_among standings entries) (recent_among standings arrivals) standings → now ≡ settled_among standings entries → AreMarked (settled_among standings now) (recent_among standings arrivals) standings × HasGone standings now 0
marked_cleaned standings entries now arrivals marked is =
    let again = cleaned standings entries now is in
    (subst (λ (l : List NodeId). AreMarked l (recent_among standings arrivals) standings) (sym again) marked, omega (arith, ap length is, ap length again))

pub none_gone : (standings : List Standing) (entries : List NodeId) (gone : ℕ) → HasGone standings entries gone → gone ≤ 0 → entries ≡ settled_among standings entries
none_gone standings entries gone few none = sym (filter_full (λ (id : NodeId). is_settled (get_or standings id.at Absent)) entries (omega (arith, few, none)))

-- the walk over the list: the one at the place stays, or is taken out
pub stays_in : (standings : List Standing) (ids : List NodeId) (place : ℕ) (id : NodeId) → slice_get ids place ≡ Some id → settled_among standings (take place ids) ≡ take place ids → is_settled (get_or standings id.at Absent) ≡ true → settled_among standings (take (place + 1) ids) ≡ take (place + 1) ids
stays_in standings ids place id at front is =
    front_more (λ (i : NodeId). is_settled (get_or standings i.at Absent)) ids place id (slice_get_within ids place id at) front (ap (λ (i : NodeId). is_settled (get_or standings i.at Absent)) (get_or_from_slice_get ids place id id at) ∙ is)

pub goes_out : (standings : List Standing) (ids : List NodeId) (place : ℕ) (id : NodeId) → slice_get ids place ≡ Some id → is_settled (get_or standings id.at Absent) ≡ false → settled_among standings (remove ids place) ≡ settled_among standings ids
goes_out standings ids place id at other =
    filter_removed (λ (i : NodeId). is_settled (get_or standings i.at Absent)) ids place id (slice_get_within ids place id at) (ap (λ (i : NodeId). is_settled (get_or standings i.at Absent)) (get_or_from_slice_get ids place id id at) ∙ other)

pub front_stays : (standings : List Standing) (ids : List NodeId) (place : ℕ) → settled_among standings (take place ids) ≡ take place ids → settled_among standings (take place (remove ids place)) ≡ take place (remove ids place)
front_stays standings ids place front = ap (settled_among standings) (front_kept ids place) ∙ front ∙ sym (front_kept ids place)

-- at the end of the list all that is left is marked so
pub all_walked : (standings : List Standing) (ids : List NodeId) (place : ℕ) → slice_get ids place ≡ None → settled_among standings (take place ids) ≡ take place ids → settled_among standings ids ≡ ids
all_walked standings ids place at front =
    front_all (λ (id : NodeId). is_settled (get_or standings id.at Absent)) ids place (omega (arith, length-drop place ids, ap length (drop_end ids place at))) front

-- what a slice of a vector was written to
pub written_back : {X : Type 0} (now items : List X) (len : ℕ) → length items ≡ len → length now ≡ length items → take len (now ++ drop (length now) items) ≡ now
written_back now items len long same =
    let le : len ≤ length now = omega (arith, long, same) in
    let past : length now ≤ len = omega (arith, long, same) in
    rw take-append-le (take_all len now past)

-- ---- the next of those in order

pub next_here : (some : MarkedIds) (place : ℕ) (id : NodeId) → slice_get some.entries place ≡ Some id → is_settled (get_or some.standings id.at Absent) ≡ true → IsNext some place
next_here some place id at is =
    subst (λ (found : Option NodeId). MatchOption found (settled_from some place ≡ []) (λ i. settled_from some place ≡ i ∷ settled_from some (place + 1))) (sym at) (settled_here some place id at is)

pub next_nowhere : (some : MarkedIds) (place : ℕ) → slice_get some.entries place ≡ None → IsNext some place
next_nowhere some place at =
    subst (λ (found : Option NodeId). MatchOption found (settled_from some place ≡ []) (λ i. settled_from some place ≡ i ∷ settled_from some (place + 1))) (sym at) (ap (settled_among some.standings) (drop_end some.entries place at))

-- where all that were put in order are marked so, each place counts
pub next_where_all : (some : MarkedIds) (place : ℕ) → settled_in some ≡ some.entries → IsNext some place
next_where_all some place all = by_case (slice_get some.entries place) refl
  where
    by_case : (found : Option NodeId) → slice_get some.entries place ≡ found → IsNext some place
    by_case None at = next_nowhere some place at
    by_case (Some id) at =
        let has : Contains (settled_in some) id = subst (λ (l : List NodeId). Contains l id) (sym all) (place, slice_get_within some.entries place id at, get_or_from_slice_get some.entries place id id at) in
        next_here some place id at (from_filter (λ (i : NodeId). is_settled (get_or some.standings i.at Absent)) some.entries id has).1

-- ---- all others are put in order first

-- who wasn't listed before isn't among those in order then
pub still_absent : (nodes : List Node) (before after : MarkedIds) (id : NodeId) → IsGraph nodes → HasNode nodes id → listed_in nodes after ≡ listed_in nodes before → has_number id.at (ids_in before) ≡ false → settled_in after ≡ after.entries → has_number id.at after.entries ≡ false
still_absent nodes before after id graph there_is listed absent all =
    let found = found_node nodes id there_is in
    let its = ids_find_nodes nodes id found.0 found.1 in
    let unlisted : has_number id.at (ids_in after) ≡ false = number_listed nodes (is_among (ids_in before)) after id found.0 graph found.1 listed ∙ ap (λ (i : NodeId). has_number i.at (ids_in before)) its.1 ∙ absent in
    ap (has_number id.at) (sym all) ∙ (or_parts (has_number id.at (settled_in after)) (has_number id.at (arrived (recent_in after))) (sym (has_either after id.at) ∙ unlisted)).0
