-- The lanes of the locations, while a node is filed at one after another.
use Rattle.std.proofs.Common.{◌≡◌, ◌≢◌, ℕ, zero, suc, ◌<◌, ◌≤◌, cond, List, [], ◌∷◌, ◌++◌, length, map, take, drop, get_or, set, Some, None, refl, sym, ◌∙◌, ap, subst, arith, ◌==◌, ◌+◌, Bool, true, false, not, Option, inl, inr, IfSome, is_some, ◌-◌, ◌||◌, append-nil, filter, flat_map}
use Rattle.kdg_graph.proofs.Common.{Access, Accesses, AllBeyond, IsAscendingSet, access_at, absent_beyond, access_first, access_other, ascending_first, ascending_rest, Location, ids_for, lane_of, room_at, room_in, rooms_of, cases_eq, Read, Write, clash, excludes, NodeId, HasRoomFor, HasTakenFor, HaveNoLess, times_named, reserved_in, reserved_of, IsLaneAmong, clashes_at, clashing_at, put_if, without_if, Node, IsGraph, ids_of, is_at, node_at, put_node, without, take-length, flat_map-append, map-append, take_more, filter-append, Key, beyond_lower, AreFiledWith, is_same, lacking, midway, fronts_after, AreFiled, front_after, AreRefreshed, MarkedIds, is_unblocked, from_filter}
use Rattle.kdg_graph.proofs.KeyOrder.{filter_with, filters_commute, no_more_kept, same_filter, is_before}
use Rattle.kdg_graph.proofs.Lanes.{among_filtered, graph_among, length-ids}
use Rattle.kdg_graph.proofs.LookUps.{ids_find_nodes}
use Rattle.kdg_graph.proofs.Selecting.{length-put, retested_twice}
use Rattle.kdg_graph.specs.NodeLaws.{is_at-same}

-- ---- the location at a number

pub lane_at : (locations : List Location) (loc : ℕ) (access : Access) (d : Location) → loc < length locations → lane_of locations loc access ≡ ids_for access (get_or locations loc d)
lane_at [] loc access d inside = absurd (omega (arith, inside))
lane_at (location ∷ locations) zero access d inside = refl
lane_at (location ∷ locations) (suc loc) access d inside = lane_at locations loc access d (omega (arith, inside))

pub lane_beyond : (locations : List Location) (loc : ℕ) (access : Access) → length locations ≤ loc → lane_of locations loc access ≡ []
lane_beyond [] loc access beyond = refl
lane_beyond (location ∷ locations) zero access beyond = absurd (omega (arith, beyond))
lane_beyond (location ∷ locations) (suc loc) access beyond = lane_beyond locations loc access (omega (arith, beyond))

number_there : (f : Location → ℕ) (locations : List Location) (loc : ℕ) (d : Location) → loc < length locations → room_at (map f locations) loc ≡ f (get_or locations loc d)
number_there f [] loc d inside = absurd (omega (arith, inside))
number_there f (location ∷ locations) zero d inside = refl
number_there f (location ∷ locations) (suc loc) d inside = number_there f locations loc d (omega (arith, inside))

pub room_there : (locations : List Location) (loc : ℕ) (d : Location) → loc < length locations → room_at (rooms_of locations) loc ≡ room_in (get_or locations loc d)
room_there = number_there room_in

-- beyond the last there is no room
pub within_room : (locations : List Location) (loc : ℕ) → 1 ≤ room_at (rooms_of locations) loc → loc < length locations
within_room [] loc room = absurd (omega (arith, room))
within_room (location ∷ locations) zero room = omega arith
within_room (location ∷ locations) (suc loc) room = omega (arith, within_room locations loc room)

pub within_lane : (locations : List Location) (loc : ℕ) (access : Access) → lane_of locations loc access ≢ [] → loc < length locations
within_lane [] loc access some = absurd (some refl)
within_lane (location ∷ locations) zero access some = omega arith
within_lane (location ∷ locations) (suc loc) access some = omega (arith, within_lane locations loc access some)

-- ---- one location is changed

pub lane_changed : (locations : List Location) (loc : ℕ) (now : Location) (access : Access) → loc < length locations → lane_of (set locations loc now) loc access ≡ ids_for access now
lane_changed [] loc now access inside = absurd (omega (arith, inside))
lane_changed (location ∷ locations) zero now access inside = refl
lane_changed (location ∷ locations) (suc loc) now access inside = lane_changed locations loc now access (omega (arith, inside))

pub lane_other : (locations : List Location) (at loc : ℕ) (now : Location) (access : Access) → (at ≡ loc → ⊥) → lane_of (set locations at now) loc access ≡ lane_of locations loc access
lane_other [] at loc now access differs = elim at as (λ n. lane_of (set [] n now) loc access ≡ []) [ zero ↦ refl | suc n ↦ refl ]
lane_other (location ∷ locations) zero zero now access differs = absurd (differs refl)
lane_other (location ∷ locations) zero (suc loc) now access differs = refl
lane_other (location ∷ locations) (suc at) zero now access differs = refl
lane_other (location ∷ locations) (suc at) (suc loc) now access differs = lane_other locations at loc now access (λ same. differs (ap suc same))

number_changed : (f : Location → ℕ) (locations : List Location) (loc : ℕ) (now : Location) → loc < length locations → room_at (map f (set locations loc now)) loc ≡ f now
number_changed f [] loc now inside = absurd (omega (arith, inside))
number_changed f (location ∷ locations) zero now inside = refl
number_changed f (location ∷ locations) (suc loc) now inside = number_changed f locations loc now (omega (arith, inside))

number_other : (f : Location → ℕ) (locations : List Location) (at loc : ℕ) (now : Location) → (at ≡ loc → ⊥) → room_at (map f (set locations at now)) loc ≡ room_at (map f locations) loc
number_other f [] at loc now differs = elim at as (λ n. room_at (map f (set [] n now)) loc ≡ 0) [ zero ↦ refl | suc n ↦ refl ]
number_other f (location ∷ locations) zero zero now differs = absurd (differs refl)
number_other f (location ∷ locations) zero (suc loc) now differs = refl
number_other f (location ∷ locations) (suc at) zero now differs = refl
number_other f (location ∷ locations) (suc at) (suc loc) now differs = number_other f locations at loc now (λ same. differs (ap suc same))

-- ---- one location more, that has no nodes

lane_first : (now : Location) (loc : ℕ) (access : Access) → ids_for access now ≡ [] → lane_of (now ∷ []) loc access ≡ []
lane_first now zero access none = none
lane_first now (suc loc) access none = refl

pub lane_more : (locations : List Location) (now : Location) (loc : ℕ) (access : Access) → ids_for access now ≡ [] → lane_of (locations ++ now ∷ []) loc access ≡ lane_of locations loc access
lane_more [] now loc access none = lane_first now loc access none
lane_more (location ∷ locations) now zero access none = refl
lane_more (location ∷ locations) now (suc loc) access none = lane_more locations now loc access none

pub number_more : (f : Location → ℕ) (locations : List Location) (now : Location) (loc : ℕ) → room_at (map f locations) loc ≤ room_at (map f (locations ++ now ∷ [])) loc
number_more f [] now loc = omega arith
number_more f (location ∷ locations) now zero = omega arith
number_more f (location ∷ locations) now (suc loc) = number_more f locations now loc

-- ---- the pairs of a set so far, and those that are left

pub beyond_at : (loc : ℕ) (ps : Accesses) (i : ℕ) (d : ℕ × Access) → AllBeyond loc ps → i < length ps → loc < (let p : ℕ × Access = get_or ps i d in p.0)
beyond_at loc [] i d all inside = absurd (omega (arith, inside))
beyond_at loc (p ∷ ps) zero d all inside = all.0
beyond_at loc (p ∷ ps) (suc i) d all inside = beyond_at loc ps i d all.1 (omega (arith, inside))

-- a pair's location is not among those before it
pub not_before : (ps : Accesses) (i : ℕ) (p : ℕ × Access) → IsAscendingSet ps → i < length ps → p ≡ get_or ps i p → access_at (take i ps) p.0 ≡ None
not_before [] i p up inside here = absurd (omega (arith, inside))
not_before (q ∷ ps) zero p up inside here = refl
not_before (q ∷ ps) (suc i) p up inside here =
    let beyond : q.0 < p.0 = subst (λ (r : ℕ × Access). q.0 < r.0) (sym here) (beyond_at q.0 ps i p (ascending_first q ps up) (omega (arith, inside))) in
    access_other q (take i ps) p.0 (λ same. omega (arith, same, beyond)) ∙ not_before ps i p (ascending_rest q ps up) (omega (arith, inside)) here

pub so_far_here : (ps : Accesses) (i : ℕ) (p : ℕ × Access) → IsAscendingSet ps → i < length ps → p ≡ get_or ps i p → access_at (take (suc i) ps) p.0 ≡ Some p.1
so_far_here [] i p up inside here = absurd (omega (arith, inside))
so_far_here (q ∷ ps) zero p up inside here = access_first q (take 0 ps) p.0 (ap (λ (r : ℕ × Access). r.0) (sym here)) ∙ ap (λ (r : ℕ × Access). Some r.1) (sym here)
so_far_here (q ∷ ps) (suc i) p up inside here =
    let beyond : q.0 < p.0 = subst (λ (r : ℕ × Access). q.0 < r.0) (sym here) (beyond_at q.0 ps i p (ascending_first q ps up) (omega (arith, inside))) in
    access_other q (take (suc i) ps) p.0 (λ same. omega (arith, same, beyond)) ∙ so_far_here ps i p (ascending_rest q ps up) (omega (arith, inside)) here

pub so_far_other : (ps : Accesses) (i : ℕ) (p : ℕ × Access) (loc : ℕ) → i < length ps → p ≡ get_or ps i p → (p.0 ≡ loc → ⊥) → access_at (take (suc i) ps) loc ≡ access_at (take i ps) loc
so_far_other [] i p loc inside here differs = absurd (omega (arith, inside))
so_far_other (q ∷ ps) zero p loc inside here differs = access_other q (take 0 ps) loc (λ same. differs (ap (λ (r : ℕ × Access). r.0) here ∙ same))
so_far_other (q ∷ ps) (suc i) p loc inside here differs = ap (λ found. cond (q.0 == loc) (Some q.1) found) (so_far_other ps i p loc (omega (arith, inside)) here differs)

pub left_here : (ps : Accesses) (i : ℕ) (p : ℕ × Access) → i < length ps → p ≡ get_or ps i p → access_at (drop i ps) p.0 ≡ Some p.1
left_here [] i p inside here = absurd (omega (arith, inside))
left_here (q ∷ ps) zero p inside here = access_first q ps p.0 (ap (λ (r : ℕ × Access). r.0) (sym here)) ∙ ap (λ (r : ℕ × Access). Some r.1) (sym here)
left_here (q ∷ ps) (suc i) p inside here = left_here ps i p (omega (arith, inside)) here

pub not_left : (ps : Accesses) (i : ℕ) (p : ℕ × Access) → IsAscendingSet ps → i < length ps → p ≡ get_or ps i p → access_at (drop (suc i) ps) p.0 ≡ None
not_left [] i p up inside here = absurd (omega (arith, inside))
not_left (q ∷ ps) zero p up inside here = ap (access_at ps) (ap (λ (r : ℕ × Access). r.0) here) ∙ absent_beyond q.0 q.0 ps (omega arith) (ascending_first q ps up)
not_left (q ∷ ps) (suc i) p up inside here = not_left ps i p (ascending_rest q ps up) (omega (arith, inside)) here

pub left_other : (ps : Accesses) (i : ℕ) (p : ℕ × Access) (loc : ℕ) → i < length ps → p ≡ get_or ps i p → (p.0 ≡ loc → ⊥) → access_at (drop i ps) loc ≡ access_at (drop (suc i) ps) loc
left_other [] i p loc inside here differs = absurd (omega (arith, inside))
left_other (q ∷ ps) zero p loc inside here differs = access_other q ps loc (λ same. differs (ap (λ (r : ℕ × Access). r.0) here ∙ same))
left_other (q ∷ ps) (suc i) p loc inside here differs = left_other ps i p loc (omega (arith, inside)) here differs

-- a pair of an ascending set is found by its location
pub pair_found : (ps : Accesses) (i : ℕ) (p : ℕ × Access) → IsAscendingSet ps → i < length ps → p ≡ get_or ps i p → access_at ps p.0 ≡ Some p.1
pair_found [] i p up inside here = absurd (omega (arith, inside))
pair_found (q ∷ ps) zero p up inside here = left_here (q ∷ ps) 0 p inside here
pair_found (q ∷ ps) (suc i) p up inside here =
    let beyond : q.0 < p.0 = subst (λ (r : ℕ × Access). q.0 < r.0) (sym here) (beyond_at q.0 ps i p (ascending_first q ps up) (omega (arith, inside))) in
    access_other q ps p.0 (λ same. omega (arith, same, beyond)) ∙ pair_found ps i p (ascending_rest q ps up) (omega (arith, inside)) here

-- ---- lanes that are filed

pub filed_among : (nodes : List Node) (loc : ℕ) (access : Access) (ids : List NodeId) → IsGraph nodes → ids ≡ ids_of (clashing_at loc access nodes) → IsLaneAmong nodes (clashing_at loc access nodes) ids
filed_among nodes loc access ids graph is = among_filtered (clashes_at loc access) nodes nodes (ids_of nodes) ids (graph_among nodes graph) is

pub others_among : (nodes : List Node) (id : NodeId) (loc : ℕ) (access : Access) (ids : List NodeId) → IsGraph nodes → ids ≡ ids_of (clashing_at loc access (without id nodes)) → IsLaneAmong nodes (clashing_at loc access (without id nodes)) ids
others_among nodes id loc access ids graph is =
    among_filtered (clashes_at loc access) nodes (without id nodes) (ids_of (without id nodes)) ids (among_filtered (λ node. not (is_at id node)) nodes nodes (ids_of nodes) (ids_of (without id nodes)) (graph_among nodes graph) refl) is

-- ---- a node at one location

-- with an access there it is among those that the access excludes
pub clashing_with : (nodes : List Node) (id : NodeId) (node : Node) (loc : ℕ) (access : Access) (found : Option Access) → IsGraph nodes → node_at nodes id ≡ Some node → access_at node.set loc ≡ found
    → clashing_at loc access nodes ≡ put_if (clash (Some access) found) node (clashing_at loc access (without id nodes))
clashing_with nodes id node loc access found graph is has =
    filter_with (clashes_at loc access) id nodes node graph is ∙ ap (λ f. put_if (clash (Some access) f) node (clashing_at loc access (without id nodes))) has

-- ---- those that write

-- who clashes with some access names the location
pub named_by : (access : Access) (found : Option Access) → clash (Some access) found ≡ true → clash (Some Write) found ≡ true
named_by Read None is = is
named_by Read (Some x) is = refl
named_by Write found is = is

-- where a node is filed that reads a location, fewer write it than name it
pub fewer_write : (others : List Node) (node : Node) (f : ℕ → Option Access) (p : ℕ × Access) (locations : List Location) (old : Location) → f p.0 ≡ Some p.1 → p.0 < length locations → old ≡ get_or locations p.0 old → AreFiledWith others node f locations
    → p.1 ≡ Read → length (ids_for Read old) < length (ids_for Write old)
fewer_write others node f p locations old had within here filed reads =
    let kept : (access : Access) → ids_for access old ≡ ids_of (put_if (excludes access Read) node (clashing_at p.0 access others)) =
    λ access.
    ap (ids_for access) here ∙ sym (lane_at locations p.0 access old within) ∙ filed p.0 access ∙ ap (λ found. ids_of (put_if (clash (Some access) found) node (clashing_at p.0 access others))) (had ∙ ap (λ (x : Access). Some x) reads) in
    let writing : length (ids_for Read old) ≡ length (clashing_at p.0 Read others) = ap length (kept Read) ∙ length-ids (clashing_at p.0 Read others) in
    let naming : length (ids_for Write old) ≡ suc (length (clashing_at p.0 Write others)) =
    ap length (kept Write) ∙ length-ids (put_node node (clashing_at p.0 Write others)) ∙ length-put node (clashing_at p.0 Write others) in
    omega (arith, writing, naming, no_more_kept (clashes_at p.0 Read) (clashes_at p.0 Write) others (λ other. named_by Read (access_at other.set p.0)))

-- ---- places and room

pub some_put : (node : Node) (nodes : List Node) → ids_of (put_node node nodes) ≡ [] → ⊥
some_put node [] none = let n : List NodeId = node.id ∷ [] in let is : n ≡ [] = none in absurd cc
some_put node (other ∷ nodes) none =
    let by_case : (test : Bool) → ids_of (cond test (other ∷ put_node node nodes) (node ∷ other ∷ nodes)) ≡ [] → ⊥ = elim [
      | true ↦ λ wrong. absurd (let is : other.id ∷ ids_of (put_node node nodes) ≡ [] = wrong in cc)
      | false ↦ λ wrong. absurd (let is : node.id ∷ other.id ∷ ids_of nodes ≡ [] = wrong in cc)
    ] in
    by_case _ none

-- there is room at the location that is next
pub room_next : (ps : Accesses) (i : ℕ) (p : ℕ × Access) (first locations : List Location) → IsAscendingSet ps → i < length ps → p ≡ get_or ps i p → HasRoomFor (ps ∷ []) (rooms_of first)
    → ((loc : ℕ) → room_at (rooms_of first) loc ≤ room_at (rooms_of locations) loc + cond (is_some (access_at (take i ps) loc)) 1 0) → 1 ≤ room_at (rooms_of locations) p.0
room_next ps i p first locations up inside at all room =
    let none : cond (is_some (access_at (take i ps) p.0)) 1 0 ≡ 0 = ap {B = ℕ} (λ found. cond (is_some found) 1 0) (not_before ps i p up inside at) in
    let named : cond (is_some (access_at ps p.0)) 1 0 ≡ 1 = ap {B = ℕ} (λ found. cond (is_some found) 1 0) (pair_found ps i p up inside at) in
    omega (arith, none, named, all p.0, room p.0)

pub room_step : (ps : Accesses) (i : ℕ) (p : ℕ × Access) (first locations : List Location) (old now : Location) → IsAscendingSet ps → i < length ps → p ≡ get_or ps i p → p.0 < length locations → old ≡ get_or locations p.0 old → room_in old ≤ room_in now + 1
    → ((loc : ℕ) → room_at (rooms_of first) loc ≤ room_at (rooms_of locations) loc + cond (is_some (access_at (take i ps) loc)) 1 0)
    → (loc : ℕ) → room_at (rooms_of first) loc ≤ room_at (rooms_of (set locations p.0 now)) loc + cond (is_some (access_at (take (suc i) ps) loc)) 1 0
room_step ps i p first locations old now up inside at within here fits room loc =
    let was : room_at (rooms_of locations) p.0 ≡ room_in old = room_there locations p.0 old within ∙ sym (ap room_in here) in
    let before : cond (is_some (access_at (take i ps) p.0)) 1 0 ≡ 0 = ap {B = ℕ} (λ found. cond (is_some found) 1 0) (not_before ps i p up inside at) in
    let after : cond (is_some (access_at (take (suc i) ps) p.0)) 1 0 ≡ 1 = ap {B = ℕ} (λ found. cond (is_some found) 1 0) (so_far_here ps i p up inside at) in
    let changed : room_at (rooms_of first) p.0 ≤ room_at (rooms_of (set locations p.0 now)) p.0 + cond (is_some (access_at (take (suc i) ps) p.0)) 1 0 = omega (arith, was, before, after, fits, room p.0, number_changed room_in locations p.0 now within) in
    elim (cases_eq p.0 loc) as (λ _. room_at (rooms_of first) loc ≤ room_at (rooms_of (set locations p.0 now)) loc + cond (is_some (access_at (take (suc i) ps) loc)) 1 0) [
      | inl same ↦ subst (λ n. room_at (rooms_of first) n ≤ room_at (rooms_of (set locations p.0 now)) n + cond (is_some (access_at (take (suc i) ps) n)) 1 0) same changed
      | inr differs ↦
          let same : cond (is_some (access_at (take (suc i) ps) loc)) 1 0 ≡ cond (is_some (access_at (take i ps) loc)) 1 0 = ap {B = ℕ} (λ found. cond (is_some found) 1 0) (so_far_other ps i p loc inside at differs) in
          omega (arith, same, room loc, number_other room_in locations p.0 loc now differs)
    ]

-- what all pairs have taken
pub taken_whole : (so_far set : Accesses) (before after : List ℕ) → so_far ≡ set → ((loc : ℕ) → room_at before loc ≤ room_at after loc + cond (is_some (access_at so_far loc)) 1 0) → HasTakenFor (set ∷ []) before after
taken_whole so_far set before after same taken loc = subst (λ (l : Accesses). room_at before loc ≤ room_at after loc + times_named (l ∷ []) loc) same (omega (arith, taken loc))

-- room that is made at the location of one pair more
pub more_step : (ps : Accesses) (i : ℕ) (p : ℕ × Access) (first before after : List ℕ) → IsAscendingSet ps → i < length ps → p ≡ get_or ps i p → room_at before p.0 + 1 ≤ room_at after p.0 → HaveNoLess before after
    → ((loc : ℕ) → room_at first loc + cond (is_some (access_at (take i ps) loc)) 1 0 ≤ room_at before loc) → (loc : ℕ) → room_at first loc + cond (is_some (access_at (take (suc i) ps) loc)) 1 0 ≤ room_at after loc
more_step ps i p first before after up inside at made no_less so_far loc =
    let none : cond (is_some (access_at (take i ps) p.0)) 1 0 ≡ 0 = ap {B = ℕ} (λ found. cond (is_some found) 1 0) (not_before ps i p up inside at) in
    let named : cond (is_some (access_at (take (suc i) ps) p.0)) 1 0 ≡ 1 = ap {B = ℕ} (λ found. cond (is_some found) 1 0) (so_far_here ps i p up inside at) in
    let here : room_at first p.0 + cond (is_some (access_at (take (suc i) ps) p.0)) 1 0 ≤ room_at after p.0 = omega (arith, none, named, made, so_far p.0) in
    elim (cases_eq p.0 loc) [
      | inl same ↦ subst (λ n. room_at first n + cond (is_some (access_at (take (suc i) ps) n)) 1 0 ≤ room_at after n) same here
      | inr differs ↦
          let same : cond (is_some (access_at (take (suc i) ps) loc)) 1 0 ≡ cond (is_some (access_at (take i ps) loc)) 1 0 = ap {B = ℕ} (λ found. cond (is_some found) 1 0) (so_far_other ps i p loc inside at differs) in
          omega (arith, same, no_less loc, so_far loc)
    ]

-- ---- a number of each location, where one is changed

number_grows : (f : Location → ℕ) (p : ℕ) (first : List ℕ) (locations : List Location) (old now : Location) → p < length locations → old ≡ get_or locations p old → f old ≤ f now → HaveNoLess first (map f locations) → HaveNoLess first (map f (set locations p now))
number_grows f p first locations old now within here fits no_less loc =
    let was : room_at (map f locations) p ≡ f old = number_there f locations p old within ∙ sym (ap f here) in
    let changed : room_at first p ≤ room_at (map f (set locations p now)) p = omega (arith, was, fits, no_less p, number_changed f locations p now within) in
    elim (cases_eq p loc) [
      | inl same ↦ subst (λ n. room_at first n ≤ room_at (map f (set locations p now)) n) same changed
      | inr differs ↦ omega (arith, no_less loc, number_other f locations p loc now differs)
    ]

pub no_less_step : (p : ℕ) (first locations : List Location) (old now : Location) → p < length locations → old ≡ get_or locations p old → room_in old ≤ room_in now → HaveNoLess (rooms_of first) (rooms_of locations) → HaveNoLess (rooms_of first) (rooms_of (set locations p now))
no_less_step p first = number_grows room_in p (rooms_of first)

-- where a reservation made room for one more at a location, it has done so for no fewer anywhere
pub reserved_step : (number p : ℕ) (first : List ℕ) (locations : List Location) (old now : Location) → p < length locations → old ≡ get_or locations p old → reserved_in number old + 1 ≤ reserved_in number now → HaveNoLess first (reserved_of number locations)
    → (room_at first p + 1 ≤ room_at (reserved_of number (set locations p now)) p) × HaveNoLess first (reserved_of number (set locations p now))
reserved_step number p first locations old now within here more no_less =
    let was : room_at (reserved_of number locations) p ≡ reserved_in number old = number_there (reserved_in number) locations p old within ∙ sym (ap (reserved_in number) here) in
    let changed : room_at (reserved_of number (set locations p now)) p ≡ reserved_in number now = number_changed (reserved_in number) locations p now within in
    (omega (arith, was, changed, more, no_less p), number_grows (reserved_in number) p first locations old now within here (omega (arith, more)) no_less)

pub again : {X : Type 0} (xs : List X) (i : ℕ) (d e : X) → i < length xs → get_or xs i d ≡ get_or xs i e
again [] i d e inside = absurd (omega (arith, inside))
again (x ∷ xs) zero d e inside = refl
again (x ∷ xs) (suc i) d e inside = again xs i d e (omega (arith, inside))

pub no_ids : (nodes : List Node) → ids_of nodes ≡ [] → nodes ≡ []
no_ids [] none = refl
no_ids (node ∷ nodes) none = absurd (let wrong : node.id ∷ ids_of nodes ≡ [] = none in cc)

-- ---- the same access

pub same_access : (x : Access) (found : Option Access) → is_same (Some x) found ≡ true → found ≡ Some x
same_access x None is = absurd cc
same_access Read (Some Read) is = refl
same_access Read (Some Write) is = absurd cc
same_access Write (Some Read) is = absurd cc
same_access Write (Some Write) is = refl

pub same_turned : (a b : Option Access) → is_same a b ≡ is_same b a
same_turned None None = refl
same_turned None (Some y) = refl
same_turned (Some x) None = refl
same_turned (Some Read) (Some Read) = refl
same_turned (Some Read) (Some Write) = refl
same_turned (Some Write) (Some Read) = refl
same_turned (Some Write) (Some Write) = refl

both_same : (a b : Option Access) → is_same a b ≡ true → a ≡ b
both_same None None is = refl
both_same None (Some y) is = absurd cc
both_same (Some x) b is = sym (same_access x b is)

-- ---- a walk beside another

-- locations rise
rises : (ps : Accesses) (i k : ℕ) (p d : ℕ × Access) → IsAscendingSet ps → i < k → k < length ps → p ≡ get_or ps i p → p.0 < (get_or ps k d).0
rises [] i k p d up before inside at = absurd (omega (arith, inside))
rises (q ∷ ps) i zero p d up before inside at = absurd (omega (arith, before))
rises (q ∷ ps) zero (suc k) p d up before inside at = subst (λ (r : ℕ × Access). r.0 < (get_or ps k d).0) (sym at) (beyond_at q.0 ps k d (ascending_first q ps up) (omega (arith, inside)))
rises (q ∷ ps) (suc i) (suc k) p d up before inside at = rises ps i k p d (ascending_rest q ps up) (omega (arith, before)) (omega (arith, inside)) at

-- what is left of one set has at the locations that are left of the other what the whole has
pub still_beside : (ps left more whole : Accesses) (i : ℕ) (p : ℕ × Access) → IsAscendingSet ps → p ≡ get_or ps i p → ((k : ℕ) (d : ℕ × Access) → i ≤ k → k < length ps → access_at left (get_or ps k d).0 ≡ access_at whole (get_or ps k d).0)
    → ((loc : ℕ) → p.0 < loc → access_at more loc ≡ access_at left loc) → (k : ℕ) (d : ℕ × Access) → i + 1 ≤ k → k < length ps → access_at more (get_or ps k d).0 ≡ access_at whole (get_or ps k d).0
still_beside ps left more whole i p up at beside kept k d from inside = kept (get_or ps k d).0 (rises ps i k p d up (omega (arith, from)) inside at) ∙ beside k d (omega (arith, from)) inside

-- a step of the walk passes the first pair
all_but_first : (p : ℕ × Access) (ps : Accesses) → take (length (p ∷ ps) - 1) (drop 1 (p ∷ ps)) ≡ ps
all_but_first p ps =
    let long : length (p ∷ ps) - 1 ≡ length ps = omega arith in
    ap (λ n. take n ps) long ∙ take-length ps

pub step_ascends : (left : Accesses) → IsAscendingSet left → 1 ≤ length left → IsAscendingSet (take (length left - 1) (drop 1 left))
step_ascends [] up some = absurd (omega (arith, some))
step_ascends (p ∷ ps) up some = subst IsAscendingSet (sym (all_but_first p ps)) (ascending_rest p ps up)

pub step_passes : (left whole : Accesses) (loc : ℕ) (d : ℕ × Access) → 1 ≤ length left → (get_or left 0 d).0 < loc → ((other : ℕ) → loc ≤ other → access_at left other ≡ access_at whole other) → (other : ℕ) → loc ≤ other → access_at (take (length left - 1) (drop 1 left)) other ≡ access_at whole other
step_passes [] whole loc d some before beyond other from = absurd (omega (arith, some))
step_passes (p ∷ ps) whole loc d some before beyond other from = ap (λ l. access_at l other) (all_but_first p ps) ∙ sym (access_other p ps other (λ same. omega (arith, same, before, from))) ∙ beyond other from

-- no location before the first is there
pub not_there : (left : Accesses) (loc : ℕ) (x : Access) (d : ℕ × Access) → IsAscendingSet left → 1 ≤ length left → loc < (get_or left 0 d).0 → is_same (Some x) (access_at left loc) ≡ false
not_there [] loc x d up some before = absurd (omega (arith, some))
not_there (p ∷ ps) loc x d up some before = ap (is_same (Some x)) (absent_beyond loc loc (p ∷ ps) (omega arith) (before, beyond_lower loc p.0 ps (omega (arith, before)) (ascending_first p ps up)))

-- ---- midway, by the locations that are left

midway_at : (before now part : Accesses) (loc : ℕ) (test : Bool) → is_same (access_at before loc) (access_at now loc) ≡ test → midway before now part loc ≡ cond test (access_at before loc) (access_at part loc)
midway_at before now part loc test is = ap (λ b. cond b (access_at before loc) (access_at part loc)) is

midway_as : (before now some more : Accesses) (loc : ℕ) → access_at some loc ≡ access_at more loc → midway before now some loc ≡ midway before now more loc
midway_as before now some more loc same = ap (λ found. cond (is_same (access_at before loc) (access_at now loc)) (access_at before loc) found) same

-- at one location, or another
at_one_or_other : (P : ℕ → Type 0) (one loc : ℕ) → P one → ((one ≡ loc → ⊥) → P loc) → P loc
at_one_or_other P one loc here there = elim (cases_eq one loc) [ inl same ↦ subst P same here | inr differs ↦ there differs ]

tested_before : (before now : Accesses) (i : ℕ) (p : ℕ × Access) (test : Bool) → IsAscendingSet before → i < length before → p ≡ get_or before i p → is_same (Some p.1) (access_at now p.0) ≡ test → is_same (access_at before p.0) (access_at now p.0) ≡ test
tested_before before now i p test up inside at is = ap (λ found. is_same found (access_at now p.0)) (pair_found before i p up inside at) ∙ is

pub left_had : (before now : Accesses) (i : ℕ) (p : ℕ × Access) → IsAscendingSet before → i < length before → p ≡ get_or before i p → is_same (Some p.1) (access_at now p.0) ≡ false → midway before now (drop i before) p.0 ≡ Some p.1
left_had before now i p up inside at is = midway_at before now (drop i before) p.0 false (tested_before before now i p false up inside at is) ∙ left_here before i p inside at

pub left_has : (before now : Accesses) (i : ℕ) (p : ℕ × Access) → IsAscendingSet before → i < length before → p ≡ get_or before i p → is_same (Some p.1) (access_at now p.0) ≡ false → midway before now (drop (suc i) before) p.0 ≡ None
left_has before now i p up inside at is = midway_at before now (drop (suc i) before) p.0 false (tested_before before now i p false up inside at is) ∙ not_left before i p up inside at

pub left_elsewhere : (before now : Accesses) (i : ℕ) (p : ℕ × Access) (loc : ℕ) → i < length before → p ≡ get_or before i p → (p.0 ≡ loc → ⊥) → midway before now (drop i before) loc ≡ midway before now (drop (suc i) before) loc
left_elsewhere before now i p loc inside at differs = midway_as before now (drop i before) (drop (suc i) before) loc (left_other before i p loc inside at differs)

pub left_as_was : (before now : Accesses) (i : ℕ) (p : ℕ × Access) → IsAscendingSet before → i < length before → p ≡ get_or before i p → is_same (Some p.1) (access_at now p.0) ≡ true → (loc : ℕ) → midway before now (drop i before) loc ≡ midway before now (drop (suc i) before) loc
left_as_was before now i p up inside at is loc =
    let same : is_same (access_at before p.0) (access_at now p.0) ≡ true = tested_before before now i p true up inside at is in
    at_one_or_other (λ n. midway before now (drop i before) n ≡ midway before now (drop (suc i) before) n) p.0 loc
    (midway_at before now (drop i before) p.0 true same ∙ sym (midway_at before now (drop (suc i) before) p.0 true same))
    (left_elsewhere before now i p loc inside at)

-- ---- midway, by the locations so far

tested_now : (before now : Accesses) (i : ℕ) (p : ℕ × Access) (test : Bool) → IsAscendingSet now → i < length now → p ≡ get_or now i p → is_same (Some p.1) (access_at before p.0) ≡ test → is_same (access_at before p.0) (access_at now p.0) ≡ test
tested_now before now i p test up inside at is = ap (is_same (access_at before p.0)) (pair_found now i p up inside at) ∙ same_turned (access_at before p.0) (Some p.1) ∙ is

pub entered_had : (before now : Accesses) (i : ℕ) (p : ℕ × Access) → IsAscendingSet now → i < length now → p ≡ get_or now i p → is_same (Some p.1) (access_at before p.0) ≡ false → midway before now (take i now) p.0 ≡ None
entered_had before now i p up inside at is = midway_at before now (take i now) p.0 false (tested_now before now i p false up inside at is) ∙ not_before now i p up inside at

pub entered_has : (before now : Accesses) (i : ℕ) (p : ℕ × Access) → IsAscendingSet now → i < length now → p ≡ get_or now i p → is_same (Some p.1) (access_at before p.0) ≡ false → midway before now (take (suc i) now) p.0 ≡ Some p.1
entered_has before now i p up inside at is = midway_at before now (take (suc i) now) p.0 false (tested_now before now i p false up inside at is) ∙ so_far_here now i p up inside at

pub entered_elsewhere : (before now : Accesses) (i : ℕ) (p : ℕ × Access) (loc : ℕ) → i < length now → p ≡ get_or now i p → (p.0 ≡ loc → ⊥) → midway before now (take i now) loc ≡ midway before now (take (suc i) now) loc
entered_elsewhere before now i p loc inside at differs = midway_as before now (take i now) (take (suc i) now) loc (sym (so_far_other now i p loc inside at differs))

pub entered_as_was : (before now : Accesses) (i : ℕ) (p : ℕ × Access) → IsAscendingSet now → i < length now → p ≡ get_or now i p → is_same (Some p.1) (access_at before p.0) ≡ true → (loc : ℕ) → midway before now (take i now) loc ≡ midway before now (take (suc i) now) loc
entered_as_was before now i p up inside at is loc =
    let same : is_same (access_at before p.0) (access_at now p.0) ≡ true = tested_now before now i p true up inside at is in
    at_one_or_other (λ n. midway before now (take i now) n ≡ midway before now (take (suc i) now) n) p.0 loc
    (midway_at before now (take i now) p.0 true same ∙ sym (midway_at before now (take (suc i) now) p.0 true same))
    (entered_elsewhere before now i p loc inside at)

-- at last it is the one that is now
pub midway_last : (before now : Accesses) (loc : ℕ) → midway before now now loc ≡ access_at now loc
midway_last before now loc =
    let by_case : (test : Bool) → is_same (access_at before loc) (access_at now loc) ≡ test → cond test (access_at before loc) (access_at now loc) ≡ access_at now loc = elim [
      | true ↦ λ is. both_same (access_at before loc) (access_at now loc) is
      | false ↦ λ _. refl
    ] in
    by_case (is_same (access_at before loc) (access_at now loc)) refl

-- ---- the lanes

pub filed_as : (others : List Node) (node : Node) (f g : ℕ → Option Access) (locations : List Location) → ((loc : ℕ) → f loc ≡ g loc) → AreFiledWith others node f locations → AreFiledWith others node g locations
filed_as others node f g locations same filed loc access = filed loc access ∙ ap (λ found. ids_of (put_if (clash (Some access) found) node (clashing_at loc access others))) (same loc)

-- what holds of a node that an id finds holds of each that it finds
pub for_found : (nodes : List Node) (id : NodeId) (held : Node) (P : Node → Type 0) → node_at nodes id ≡ Some held → P held → (node : Node) → node_at nodes id ≡ Some node → P node
for_found nodes id held P found holds node is =
    let both : Some held ≡ Some node = sym found ∙ is in
    let same : held ≡ node = cc in
    subst P same holds

-- with its own accesses all nodes are filed
pub filed_own : (nodes : List Node) (id : NodeId) (node : Node) (locations : List Location) → IsGraph nodes → node_at nodes id ≡ Some node → AreFiledWith (without id nodes) node (access_at node.set) locations → AreFiled nodes locations
filed_own nodes id node locations graph is filed loc access = filed loc access ∙ ap ids_of (sym (clashing_with nodes id node loc access (access_at node.set loc) graph is refl))

pub filed_apart : (nodes : List Node) (id : NodeId) (node : Node) (locations : List Location) → IsGraph nodes → node_at nodes id ≡ Some node → AreFiled nodes locations → AreFiledWith (without id nodes) node (access_at node.set) locations
filed_apart nodes id node locations graph is filed loc access = filed loc access ∙ ap ids_of (clashing_with nodes id node loc access (access_at node.set loc) graph is refl)

-- with none the others are
pub filed_without : (others : List Node) (node : Node) (f : ℕ → Option Access) (locations : List Location) → ((loc : ℕ) → f loc ≡ None) → AreFiledWith others node f locations → AreFiled others locations
filed_without others node f locations none filed loc access = filed loc access ∙ ap (λ found. ids_of (put_if (clash (Some access) found) node (clashing_at loc access others))) (none loc)

put_alike : (gone : Node) (set : Accesses) (others : List Node) → ids_of (put_node gone others) ≡ ids_of (put_node (record gone { set = set }) others)
put_alike gone set [] = refl
put_alike gone set (other ∷ others) =
    let new : Node = record gone { set = set } in
    elim (is_before gone.task.key other) as (λ b. ids_of (cond b (other ∷ put_node gone others) (gone ∷ other ∷ others)) ≡ ids_of (cond b (other ∷ put_node new others) (new ∷ other ∷ others))) [
      | true ↦ ap (λ ids. other.id ∷ ids) (put_alike gone set others)
      | false ↦ refl
    ]

-- where only its set is another it is filed with its accesses of before
pub filed_before : (nodes others : List Node) (id : NodeId) (gone : Node) (set : Accesses) (locations : List Location) → IsGraph nodes → node_at nodes id ≡ Some gone → others ≡ without id nodes → AreFiled nodes locations → AreFiledWith others (record gone { set = set }) (access_at gone.set) locations
filed_before nodes others id gone set locations graph is are filed loc access =
    let new : Node = record gone { set = set } in
    let rest : List Node = clashing_at loc access (without id nodes) in
    filed_apart nodes id gone locations graph is filed loc access
    ∙ elim (clash (Some access) (access_at gone.set loc)) as (λ b. ids_of (put_if b gone rest) ≡ ids_of (put_if b new rest)) [ true ↦ put_alike gone set rest | false ↦ refl ]
    ∙ ap (λ l. ids_of (put_if (clash (Some access) (access_at gone.set loc)) new (clashing_at loc access l))) (sym are)

-- the others and the node are those that pass a test
one_more : (q : Node → Bool) (nodes : List Node) (id : NodeId) (node : Node) → IsGraph nodes → node_at nodes id ≡ Some node → put_node node (filter q (without id nodes)) ≡ filter (λ other. is_at id other || q other) nodes
one_more q nodes id node graph is =
    let p : Node → Bool = λ other. is_at id other || q other in
    let passes : p node ≡ true = ap (λ b. b || q node) (is_at-same id node (ids_find_nodes nodes id node is).1) in
    let rest : filter p (without id nodes) ≡ filter q (without id nodes) = same_filter p q (without id nodes) (λ other has. ap (λ b. b || q other) (apart (is_at id other) (from_filter (λ n. not (is_at id n)) nodes other has).1)) in
    sym (filter_with p id nodes node graph is ∙ ap (λ b. put_if b node (filter p (without id nodes))) passes ∙ ap (put_node node) rest)
  where
    apart : (test : Bool) → not test ≡ true → test ≡ false
    apart true is = sym is
    apart false is = refl

one_among : (test : Bool) (loc : ℕ) (access : Access) (nodes : List Node) (id : NodeId) (node : Node) (ids : List NodeId) → IsGraph nodes → node_at nodes id ≡ Some node → ids ≡ ids_of (put_if test node (clashing_at loc access (without id nodes)))
    → IsLaneAmong nodes (put_if test node (clashing_at loc access (without id nodes))) ids
one_among true loc access nodes id node ids graph is are =
    let more = one_more (clashes_at loc access) nodes id node graph is in
    subst (λ (l : List Node). IsLaneAmong nodes l ids) (sym more) (among_filtered (λ other. is_at id other || clashes_at loc access other) nodes nodes (ids_of nodes) ids (graph_among nodes graph) (are ∙ ap ids_of more))
one_among false loc access nodes id node ids graph is are = others_among nodes id loc access ids graph are

one_less : (test : Bool) (loc : ℕ) (access : Access) (nodes : List Node) (id : NodeId) (node : Node) → IsGraph nodes → node_at nodes id ≡ Some node → without_if test id (put_if test node (clashing_at loc access (without id nodes))) ≡ clashing_at loc access (without id nodes)
one_less true loc access nodes id node graph is =
    let p : Node → Bool = λ other. is_at id other || clashes_at loc access other in
    ap (without id) (one_more (clashes_at loc access) nodes id node graph is) ∙ filters_commute (λ other. not (is_at id other)) p nodes
    ∙ same_filter p (clashes_at loc access) (without id nodes) (λ other has. ap (λ b. b || clashes_at loc access other) (apart (is_at id other) (from_filter (λ n. not (is_at id n)) nodes other has).1))
  where
    apart : (test : Bool) → not test ≡ true → test ≡ false
    apart true is = sym is
    apart false is = refl
one_less false loc access nodes id node graph is = refl

-- the node is filed at a location no more
pub left_there : (nodes : List Node) (id : NodeId) (node : Node) (f g : ℕ → Option Access) (p : ℕ × Access) (locations : List Location) (old now : Location) → IsGraph nodes → node_at nodes id ≡ Some node
    → f p.0 ≡ Some p.1 → g p.0 ≡ None → ((loc : ℕ) → (p.0 ≡ loc → ⊥) → f loc ≡ g loc) → p.0 < length locations → old ≡ get_or locations p.0 old
    → ((access : Access) (some : List Node) → IsLaneAmong nodes some (ids_for access old) → ids_for access now ≡ ids_of (without_if (excludes access p.1) id some))
    → AreFiledWith (without id nodes) node f locations → AreFiledWith (without id nodes) node g (set locations p.0 now)
left_there nodes id node f g p locations old now graph is had has elsewhere within here lanes filed loc access =
    let rest : List Node = clashing_at p.0 access (without id nodes) in
    let some : List Node = put_if (excludes access p.1) node rest in
    let before : ids_for access old ≡ ids_of some = ap (ids_for access) here ∙ sym (lane_at locations p.0 access old within) ∙ filed p.0 access ∙ ap (λ found. ids_of (put_if (clash (Some access) found) node rest)) had in
    let taken : ids_for access now ≡ ids_of rest = lanes access some (one_among (excludes access p.1) p.0 access nodes id node (ids_for access old) graph is before) ∙ ap ids_of (one_less (excludes access p.1) p.0 access nodes id node graph is) in
    let changed : lane_of (set locations p.0 now) p.0 access ≡ ids_of (put_if (clash (Some access) (g p.0)) node rest) = lane_changed locations p.0 now access within ∙ taken ∙ ap (λ found. ids_of (put_if (clash (Some access) found) node rest)) (sym has) in
    at_one_or_other (λ n. lane_of (set locations p.0 now) n access ≡ ids_of (put_if (clash (Some access) (g n)) node (clashing_at n access (without id nodes)))) p.0 loc changed
    (λ differs. lane_other locations p.0 loc now access differs ∙ filed loc access ∙ ap (λ found. ids_of (put_if (clash (Some access) found) node (clashing_at loc access (without id nodes)))) (elsewhere loc differs))

-- the others are kept at a location where the node is to come in
pub others_there : (nodes : List Node) (id : NodeId) (node : Node) (f : ℕ → Option Access) (p : ℕ × Access) (locations : List Location) (old : Location) → IsGraph nodes → f p.0 ≡ None → p.0 < length locations → old ≡ get_or locations p.0 old
    → AreFiledWith (without id nodes) node f locations → (access : Access) → IsLaneAmong nodes (clashing_at p.0 access (without id nodes)) (ids_for access old)
others_there nodes id node f p locations old graph had within here filed access =
    others_among nodes id p.0 access (ids_for access old) graph
    (ap (ids_for access) here ∙ sym (lane_at locations p.0 access old within) ∙ filed p.0 access ∙ ap (λ found. ids_of (put_if (clash (Some access) found) node (clashing_at p.0 access (without id nodes)))) had)

-- the node comes in at a location
pub entered_there : (nodes : List Node) (id : NodeId) (node : Node) (f g : ℕ → Option Access) (p : ℕ × Access) (locations : List Location) (old now : Location) → IsGraph nodes → node_at nodes id ≡ Some node
    → f p.0 ≡ None → g p.0 ≡ Some p.1 → ((loc : ℕ) → (p.0 ≡ loc → ⊥) → f loc ≡ g loc) → p.0 < length locations → old ≡ get_or locations p.0 old
    → ((access : Access) (some : List Node) → IsLaneAmong nodes some (ids_for access old) → IfSome (node_at nodes id) (λ (n : Node). ids_for access now ≡ ids_of (put_if (excludes access p.1) n some)))
    → AreFiledWith (without id nodes) node f locations → AreFiledWith (without id nodes) node g (set locations p.0 now)
entered_there nodes id node f g p locations old now graph is had has elsewhere within here lanes filed loc access =
    let rest : List Node = clashing_at p.0 access (without id nodes) in
    let put : ids_for access now ≡ ids_of (put_if (excludes access p.1) node rest) =
    subst (λ (o : Option Node). IfSome o (λ (n : Node). ids_for access now ≡ ids_of (put_if (excludes access p.1) n rest))) is (lanes access rest (others_there nodes id node f p locations old graph had within here filed access)) in
    let changed : lane_of (set locations p.0 now) p.0 access ≡ ids_of (put_if (clash (Some access) (g p.0)) node rest) = lane_changed locations p.0 now access within ∙ put ∙ ap (λ found. ids_of (put_if (clash (Some access) found) node rest)) (sym has) in
    at_one_or_other (λ n. lane_of (set locations p.0 now) n access ≡ ids_of (put_if (clash (Some access) (g n)) node (clashing_at n access (without id nodes)))) p.0 loc changed
    (λ differs. lane_other locations p.0 loc now access differs ∙ filed loc access ∙ ap (λ found. ids_of (put_if (clash (Some access) found) node (clashing_at loc access (without id nodes)))) (elsewhere loc differs))

-- a location where the node is filed is kept
pub within_filed : (others : List Node) (node : Node) (f : ℕ → Option Access) (p : ℕ × Access) (locations : List Location) → f p.0 ≡ Some p.1 → AreFiledWith others node f locations → p.0 < length locations
within_filed others node f p locations had filed =
    within_lane locations p.0 Write (λ none. some_put node (clashing_at p.0 Write others) (sym (filed p.0 Write ∙ ap (λ found. ids_of (put_if (clash (Some Write) found) node (clashing_at p.0 Write others))) had) ∙ none))

-- ---- room

-- a location that is passed by keeps its room
pub room_passed : (ps : Accesses) (i : ℕ) (p : ℕ × Access) (first locations : List Location) → IsAscendingSet ps → i < length ps → p ≡ get_or ps i p
    → ((loc : ℕ) → room_at (rooms_of first) loc ≤ room_at (rooms_of locations) loc + cond (is_some (access_at (take i ps) loc)) 1 0)
    → (loc : ℕ) → room_at (rooms_of first) loc ≤ room_at (rooms_of locations) loc + cond (is_some (access_at (take (suc i) ps) loc)) 1 0
room_passed ps i p first locations up inside at room loc =
    let none : cond (is_some (access_at (take i ps) p.0)) 1 0 ≡ 0 = ap {B = ℕ} (λ found. cond (is_some found) 1 0) (not_before ps i p up inside at) in
    let here : room_at (rooms_of first) p.0 ≤ room_at (rooms_of locations) p.0 + cond (is_some (access_at (take (suc i) ps) p.0)) 1 0 = omega (arith, none, room p.0) in
    let there : (p.0 ≡ loc → ⊥) → room_at (rooms_of first) loc ≤ room_at (rooms_of locations) loc + cond (is_some (access_at (take (suc i) ps) loc)) 1 0 =
    λ differs.
    let same : cond (is_some (access_at (take (suc i) ps) loc)) 1 0 ≡ cond (is_some (access_at (take i ps) loc)) 1 0 = ap {B = ℕ} (λ found. cond (is_some found) 1 0) (so_far_other ps i p loc inside at differs) in
    omega (arith, same, room loc) in
    at_one_or_other (λ n. room_at (rooms_of first) n ≤ room_at (rooms_of locations) n + cond (is_some (access_at (take (suc i) ps) n)) 1 0) p.0 loc here there

-- ---- the fronts

pub lacking_more : (set other : Accesses) (i : ℕ) (p : ℕ × Access) → i < length set → p ≡ get_or set i p → is_same (Some p.1) (access_at other p.0) ≡ false → lacking (take (i + 1) set) other ≡ lacking (take i set) other ++ p ∷ []
lacking_more set other i p inside at is =
    let test : ℕ × Access → Bool = λ q. not (is_same (Some q.1) (access_at other q.0)) in
    ap (filter test) (take_more set i p inside) ∙ filter-append test (take i set) (get_or set i p ∷ []) ∙ ap (λ q. filter test (take i set) ++ filter test (q ∷ [])) (sym at) ∙ ap (λ b. filter test (take i set) ++ cond (not b) (p ∷ []) []) is

pub lacking_passed : (set other : Accesses) (i : ℕ) (p : ℕ × Access) → i < length set → p ≡ get_or set i p → is_same (Some p.1) (access_at other p.0) ≡ true → lacking (take (i + 1) set) other ≡ lacking (take i set) other
lacking_passed set other i p inside at is =
    let test : ℕ × Access → Bool = λ q. not (is_same (Some q.1) (access_at other q.0)) in
    ap (filter test) (take_more set i p inside) ∙ filter-append test (take i set) (get_or set i p ∷ []) ∙ ap (λ q. filter test (take i set) ++ filter test (q ∷ [])) (sym at) ∙ ap (λ b. filter test (take i set) ++ cond (not b) (p ∷ []) []) is
    ∙ append-nil (filter test (take i set))

-- one location more is refreshed
pub lacking_done : (nodes : List Node) (set other : Accesses) (key : Key) (i : ℕ) (p : ℕ × Access) (a b c : MarkedIds) → i < length set → p ≡ get_or set i p → is_same (Some p.1) (access_at other p.0) ≡ false → AreRefreshed nodes (ids_of (fronts_after (lacking (take i set) other) key nodes)) a b
    → AreRefreshed nodes (ids_of (front_after p.0 p.1 key nodes)) b c → AreRefreshed nodes (ids_of (fronts_after (lacking (take (i + 1) set) other) key nodes)) a c
lacking_done nodes set other key i p a b c inside at is first second =
    let front : ℕ × Access → List Node = λ (q : ℕ × Access). front_after q.0 q.1 key nodes in
    let before : Accesses = lacking (take i set) other in
    let joined : ids_of (fronts_after (before ++ p ∷ []) key nodes) ≡ ids_of (fronts_after before key nodes) ++ ids_of (front_after p.0 p.1 key nodes) =
    ap ids_of (flat_map-append front before (p ∷ []) ∙ ap (λ l. flat_map front before ++ l) (append-nil (front p))) ∙ map-append (λ (n : Node). n.id) (flat_map front before) (front p) in
    subst (λ (asked : List NodeId). AreRefreshed nodes asked a c) (sym (ap (λ pairs. ids_of (fronts_after pairs key nodes)) (lacking_more set other i p inside at is) ∙ joined))
    (retested_twice (is_unblocked nodes) nodes (ids_of (fronts_after before key nodes)) (ids_of (front_after p.0 p.1 key nodes)) a b c first second)
