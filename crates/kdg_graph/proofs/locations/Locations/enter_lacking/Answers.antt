use Rattle.std.proofs.Common.{rules, ◌≡◌, ◌+◌, ◌<◌, ◌≤◌, ◌∙◌, ◌∷◌, [], ℕ, List, Option, Some, true, false, add-one, ap, arith, get_or, length, set, suc, subst, sym, take, take_all, IfSome}
use Rattle.kdg_graph.proofs.Common.{take-length, Access, Read, Accesses, IsAscendingSet, access_at, AreFiledWith, is_same, midway, HasRoomFor, HasTakenFor, room_at, room_in, rooms_of, Node, node_at, without}
use Rattle.kdg_graph.proofs.Filing.{entered_as_was, entered_elsewhere, entered_had, entered_has, entered_there, filed_as, filed_own, for_found, midway_last, room_passed, still_beside, again, room_next, room_step, room_there, taken_whole, within_room}
use Rattle.kdg_graph.proofs.locations.Locations.enter_lacking.Goals.{Else-has}
use Rattle.kdg_graph.proofs.locations.Locations.enter_lacking.Goals as goal

pub loop-pair-preserved-then-has : goal.loop-pair-preserved-then-has
loop-pair-preserved-then-has c =
    let nodes : List Node = c.args.nodes.now.nodes in
    let held : Node = record { id = c.node.inside.id; task = c.node.inside.task; set = c.node.inside.set; running = c.node.inside.running } in
    let found : node_at nodes c.args.id ≡ Some held = c.entry-node.ensures ∙ ap (λ (n : Node). Some n) (sym c.node.view_is) in
    let before : Accesses = c.args.before.now in
    let ps : Accesses = c.items-pair-items.result.now in
    let i : ℕ = c.loop-pair.pair-index in
    let p : ℕ × Access = get_or ps i (0, Read) in
    let inside : i < length held.set = subst (λ (l : Accesses). i < length l) c.items-pair-items.ensures.all c.loop-pair-test.true in
    let at : p ≡ get_or held.set i p = subst (λ (l : Accesses). p ≡ get_or l i p) c.items-pair-items.ensures.all (again ps i (0, Read) p c.loop-pair-test.true) in
    let beside : access_at c.loop-pair.walk.left.now p.0 ≡ access_at before p.0 = c.loop-pair.invariant.beside held found i (0, Read) (omega arith) c.loop-pair-test.true in
    let has : is_same (Some p.1) (access_at before p.0) ≡ true = ap (is_same (Some p.1)) (sym beside) ∙ sym c.has.ensures.found ∙ c.if-has.true in
    let up : IsAscendingSet ps = subst IsAscendingSet (sym c.items-pair-items.ensures.all) c.items-pair-items.ensures.ascending in
    let filed : AreFiledWith (without c.args.id nodes) held (midway before held.set (take (suc i) held.set)) c.loop-pair.self.locations.items =
    filed_as (without c.args.id nodes) held (midway before held.set (take i held.set)) (midway before held.set (take (suc i) held.set)) c.loop-pair.self.locations.items (entered_as_was before held.set i p c.items-pair-items.ensures.ascending inside at has) (c.loop-pair.invariant.filed held found) in
    record {
      ascending = c.has.ensures.ascending;
      beside = for_found nodes c.args.id held (λ n. (k : ℕ) (d : ℕ × Access) → i + 1 ≤ k → k < length ps → access_at c.has.new.self.left.now (get_or ps k d).0 ≡ access_at before (get_or ps k d).0) found
          (still_beside ps c.loop-pair.walk.left.now c.has.new.self.left.now before i p up (again ps i (0, Read) p c.loop-pair-test.true) (c.loop-pair.invariant.beside held found) c.has.ensures.beyond);
      filed = for_found nodes c.args.id held (λ n. AreFiledWith (without c.args.id nodes) n (midway before n.set (take (i + 1) n.set)) c.loop-pair.self.locations.items) found (rw add-one filed);
      room = rw add-one (room_passed ps i p c.args.self.now.locations.items c.loop-pair.self.locations.items up c.loop-pair-test.true (again ps i (0, Read) p c.loop-pair-test.true) c.loop-pair.invariant.room);
    }

-- there is room at the location that is next
next : (c : Else-has) → 1 ≤ room_at (rooms_of c.loop-pair.self.locations.items) (get_or c.items-pair-items.result.now c.loop-pair.pair-index (0, Read)).0
next c =
    let held : Node = record { id = c.node.inside.id; task = c.node.inside.task; set = c.node.inside.set; running = c.node.inside.running } in
    let found : node_at c.args.nodes.now.nodes c.args.id ≡ Some held = c.entry-node.ensures ∙ ap (λ (n : Node). Some n) (sym c.node.view_is) in
    let ps : Accesses = c.items-pair-items.result.now in
    let p : ℕ × Access = get_or ps c.loop-pair.pair-index (0, Read) in
    let first = c.args.self.now.locations.items in
    let up : IsAscendingSet ps = subst IsAscendingSet (sym c.items-pair-items.ensures.all) c.items-pair-items.ensures.ascending in
    let all : HasRoomFor (held.set ∷ []) (rooms_of first) = subst (λ (o : Option Node). IfSome o (λ (n : Node). HasRoomFor (n.set ∷ []) (rooms_of first))) found c.requires.room in
    let own : HasRoomFor (ps ∷ []) (rooms_of first) = subst (λ (l : Accesses). HasRoomFor (l ∷ []) (rooms_of first)) (sym c.items-pair-items.ensures.all) all in
    room_next ps c.loop-pair.pair-index p first c.loop-pair.self.locations.items up c.loop-pair-test.true (again ps c.loop-pair.pair-index (0, Read) p c.loop-pair-test.true) own c.loop-pair.invariant.room

pub index_mut-requires : goal.index_mut-requires
index_mut-requires c =
    let within = within_room c.loop-pair.self.locations.items _ (next (goal.at.index_mut-requires c).Else-has) in
    search (rules, within)

pub enter-requires-clause-room : goal.enter-requires-clause-room
enter-requires-clause-room c =
    let room = next (goal.at.enter-requires-clause-room c).Else-has in
    let within = within_room c.loop-pair.self.locations.items _ room in
    omega (arith, room, room_there c.loop-pair.self.locations.items _ c.index_mut.result.now within, ap room_in c.index_mut.ensures.value)

pub loop-pair-preserved : goal.loop-pair-preserved
loop-pair-preserved c =
    let nodes : List Node = c.args.nodes.now.nodes in
    let held : Node = record { id = c.node.inside.id; task = c.node.inside.task; set = c.node.inside.set; running = c.node.inside.running } in
    let found : node_at nodes c.args.id ≡ Some held = c.entry-node.ensures ∙ ap (λ (n : Node). Some n) (sym c.node.view_is) in
    let before : Accesses = c.args.before.now in
    let ps : Accesses = c.items-pair-items.result.now in
    let i : ℕ = c.loop-pair.pair-index in
    let p : ℕ × Access = get_or ps i (0, Read) in
    let inside : i < length held.set = subst (λ (l : Accesses). i < length l) c.items-pair-items.ensures.all c.loop-pair-test.true in
    let at : p ≡ get_or held.set i p = subst (λ (l : Accesses). p ≡ get_or l i p) c.items-pair-items.ensures.all (again ps i (0, Read) p c.loop-pair-test.true) in
    let beside : access_at c.loop-pair.walk.left.now p.0 ≡ access_at before p.0 = c.loop-pair.invariant.beside held found i (0, Read) (omega arith) c.loop-pair-test.true in
    let lacks : is_same (Some p.1) (access_at before p.0) ≡ false = ap (is_same (Some p.1)) (sym beside) ∙ sym c.has.ensures.found ∙ c.if-has.false in
    let up : IsAscendingSet ps = subst IsAscendingSet (sym c.items-pair-items.ensures.all) c.items-pair-items.ensures.ascending in
    let there : p ≡ get_or ps i p = again ps i (0, Read) p c.loop-pair-test.true in
    let within = within_room c.loop-pair.self.locations.items p.0 (next (goal.at.loop-pair-preserved c).Else-has) in
    let f : ℕ → Option Access = midway before held.set (take i held.set) in
    let g : ℕ → Option Access = midway before held.set (take (suc i) held.set) in
    let locations = set c.loop-pair.self.locations.items p.0 c.enter.new.self in
    let filed : AreFiledWith (without c.args.id nodes) held g locations =
    entered_there nodes c.args.id held f g p c.loop-pair.self.locations.items c.index_mut.result.now c.enter.new.self c.len-graph.ensures.graph found
    (entered_had before held.set i p c.items-pair-items.ensures.ascending inside at lacks) (entered_has before held.set i p c.items-pair-items.ensures.ascending inside at lacks)
    (λ loc differs. entered_elsewhere before held.set i p loc inside at differs) within c.index_mut.ensures.value c.enter.ensures.lanes (c.loop-pair.invariant.filed held found) in
    record {
      ascending = c.has.ensures.ascending;
      beside = for_found nodes c.args.id held (λ n. (k : ℕ) (d : ℕ × Access) → i + 1 ≤ k → k < length ps → access_at c.has.new.self.left.now (get_or ps k d).0 ≡ access_at before (get_or ps k d).0) found
          (still_beside ps c.loop-pair.walk.left.now c.has.new.self.left.now before i p up (again ps i (0, Read) p c.loop-pair-test.true) (c.loop-pair.invariant.beside held found) c.has.ensures.beyond);
      filed = for_found nodes c.args.id held (λ n. AreFiledWith (without c.args.id nodes) n (midway before n.set (take (i + 1) n.set)) locations) found (rw add-one filed);
      room = rw add-one (room_step ps i p c.args.self.now.locations.items c.loop-pair.self.locations.items c.index_mut.result.now c.enter.new.self up c.loop-pair-test.true there within c.index_mut.ensures.value c.enter.ensures.room c.loop-pair.invariant.room);
    }

pub returns-clause-filed : goal.returns-clause-filed
returns-clause-filed c =
    let held : Node = record { id = c.node.inside.id; task = c.node.inside.task; set = c.node.inside.set; running = c.node.inside.running } in
    let found : node_at c.args.nodes.now.nodes c.args.id ≡ Some held = c.entry-node.ensures ∙ ap (λ (n : Node). Some n) (sym c.node.view_is) in
    let end : c.loop-pair.pair-index ≡ length held.set = omega (arith, c.loop-pair-test.false, c.loop-pair.auto.pair-index-end, ap length c.items-pair-items.ensures.all) in
    let whole : take c.loop-pair.pair-index held.set ≡ held.set = ap (λ n. take n held.set) end ∙ take-length held.set in
    filed_own c.args.nodes.now.nodes c.args.id held c.loop-pair.self.locations.items c.len-graph.ensures.graph found
    (filed_as (without c.args.id c.args.nodes.now.nodes) held (midway c.args.before.now held.set (take c.loop-pair.pair-index held.set)) (access_at held.set) c.loop-pair.self.locations.items (λ loc. ap (λ (l : Accesses). midway c.args.before.now held.set l loc) whole ∙ midway_last c.args.before.now held.set loc) (c.loop-pair.invariant.filed held found))

pub returns-clause-room : goal.returns-clause-room
returns-clause-room c =
    let held : Node = record { id = c.node.inside.id; task = c.node.inside.task; set = c.node.inside.set; running = c.node.inside.running } in
    let found : node_at c.args.nodes.now.nodes c.args.id ≡ Some held = c.entry-node.ensures ∙ ap (λ (n : Node). Some n) (sym c.node.view_is) in
    let whole = take_all c.loop-pair.pair-index c.items-pair-items.result.now (omega (arith, c.loop-pair-test.false)) ∙ c.items-pair-items.ensures.all in
    let first : List ℕ = rooms_of c.args.self.now.locations.items in
    let last : List ℕ = rooms_of c.loop-pair.self.locations.items in
    subst (λ (o : Option Node). IfSome o (λ (n : Node). HasTakenFor (n.set ∷ []) first last)) (sym found)
    (taken_whole (take c.loop-pair.pair-index c.items-pair-items.result.now) held.set first last whole c.loop-pair.invariant.room)
