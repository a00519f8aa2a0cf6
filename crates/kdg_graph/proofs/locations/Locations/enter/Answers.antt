use Rattle.std.proofs.Common.{rules, ◌≡◌, ◌≢◌, inl, inr, ℕ, ◌+◌, ◌<◌, ◌≤◌, ◌∙◌, ◌∷◌, List, [], Option, Some, true, false, true≢false, add-one, ap, arith, below_more, get_or, length, set, suc, subst, sym, take, take_all, Contains, IfSome}
use Rattle.plain_laws.specs.Options.{if_some_at}
use Rattle.kdg_graph.proofs.Common.{and_parts, or_cases, AllByRecursion, Access, Read, Write, Accesses, IsAscendingSet, access_at, is_blocked, BlocksNoneAlone, fronts_after, AreFiledWith, HasRoomFor, HasTakenFor, IsLaneAmong, clashing_at, ids_for, room_at, room_in, rooms_of, Node, earlier_than, node_at, without}
use Rattle.kdg_graph.proofs.Arriving.{blocked_by_earlier, each_pair, first_unblocked, fronts_blocked}
use Rattle.kdg_graph.proofs.Filing.{again, entered_there, filed_own, for_found, not_before, others_there, room_next, room_step, room_there, so_far_here, so_far_other, taken_whole, within_room}
use Rattle.kdg_graph.proofs.locations.Locations.enter.Goals as goal

pub loop-pair-init : goal.loop-pair-init
loop-pair-init c = record {
  first = λ node is known k upto. absurd (omega (arith, upto));
  blocked = λ node is wrong. absurd (true≢false (sym wrong));
  blocks_none = λ node is known k upto. absurd (omega (arith, upto));
  filed = λ node is. c.requires.filed;
  room = λ loc. omega arith;
}

pub index_mut-requires : goal.index_mut-requires
index_mut-requires c =
    let node : Node = record { id = c.node.inside.id; task = c.node.inside.task; set = c.node.inside.set; running = c.node.inside.running } in
    let found : node_at c.args.nodes.now.nodes c.args.id ≡ Some node = c.entry-node.ensures ∙ ap (λ (n : Node). Some n) (sym c.node.view_is) in
    let ps : Accesses = c.items-pair-items.result.now in
    let up : IsAscendingSet ps = subst IsAscendingSet (sym c.items-pair-items.ensures.all) c.items-pair-items.ensures.ascending in
    let i : ℕ = c.loop-pair.pair-index in
    let p : ℕ × Access = get_or ps i (0, Read) in
    let at : p ≡ get_or ps i p = again ps i (0, Read) p c.loop-pair-test.true in
    let all : HasRoomFor (node.set ∷ []) (rooms_of c.args.self.now.locations.items) = subst (λ (o : Option Node). IfSome o (λ (n : Node). HasRoomFor (n.set ∷ []) (rooms_of c.args.self.now.locations.items))) found c.requires.room in
    let own : HasRoomFor (ps ∷ []) (rooms_of c.args.self.now.locations.items) = subst (λ (l : Accesses). HasRoomFor (l ∷ []) (rooms_of c.args.self.now.locations.items)) (sym c.items-pair-items.ensures.all) all in
    let within = within_room c.loop-pair.self.locations.items p.0 (room_next ps i p c.args.self.now.locations.items c.loop-pair.self.locations.items up c.loop-pair-test.true at own c.loop-pair.invariant.room) in
    search (rules, within)

pub enter-here-requires-clause-room : goal.enter-here-requires-clause-room
enter-here-requires-clause-room c =
    let node : Node = record { id = c.node.inside.id; task = c.node.inside.task; set = c.node.inside.set; running = c.node.inside.running } in
    let found : node_at c.args.nodes.now.nodes c.args.id ≡ Some node = c.entry-node.ensures ∙ ap (λ (n : Node). Some n) (sym c.node.view_is) in
    let ps : Accesses = c.items-pair-items.result.now in
    let up : IsAscendingSet ps = subst IsAscendingSet (sym c.items-pair-items.ensures.all) c.items-pair-items.ensures.ascending in
    let i : ℕ = c.loop-pair.pair-index in
    let p : ℕ × Access = get_or ps i (0, Read) in
    let at : p ≡ get_or ps i p = again ps i (0, Read) p c.loop-pair-test.true in
    let all : HasRoomFor (node.set ∷ []) (rooms_of c.args.self.now.locations.items) = subst (λ (o : Option Node). IfSome o (λ (n : Node). HasRoomFor (n.set ∷ []) (rooms_of c.args.self.now.locations.items))) found c.requires.room in
    let own : HasRoomFor (ps ∷ []) (rooms_of c.args.self.now.locations.items) = subst (λ (l : Accesses). HasRoomFor (l ∷ []) (rooms_of c.args.self.now.locations.items)) (sym c.items-pair-items.ensures.all) all in
    let now : 1 ≤ room_at (rooms_of c.loop-pair.self.locations.items) p.0 = room_next ps i p c.args.self.now.locations.items c.loop-pair.self.locations.items up c.loop-pair-test.true at own c.loop-pair.invariant.room in
    let within = within_room c.loop-pair.self.locations.items p.0 now in
    omega (arith, now, room_there c.loop-pair.self.locations.items p.0 c.index_mut.result.now within, ap room_in c.index_mut.ensures.value)

pub loop-pair-preserved : goal.loop-pair-preserved
loop-pair-preserved c =
    let nodes : List Node = c.args.nodes.now.nodes in
    let node : Node = record { id = c.node.inside.id; task = c.node.inside.task; set = c.node.inside.set; running = c.node.inside.running } in
    let found : node_at nodes c.args.id ≡ Some node = c.entry-node.ensures ∙ ap (λ (n : Node). Some n) (sym c.node.view_is) in
    let ps : Accesses = c.items-pair-items.result.now in
    let up : IsAscendingSet ps = subst IsAscendingSet (sym c.items-pair-items.ensures.all) c.items-pair-items.ensures.ascending in
    let i : ℕ = c.loop-pair.pair-index in
    let inside : i < length ps = c.loop-pair-test.true in
    let p : ℕ × Access = get_or ps i (0, Read) in
    let at : p ≡ get_or ps i p = again ps i (0, Read) p inside in
    let all : HasRoomFor (node.set ∷ []) (rooms_of c.args.self.now.locations.items) = subst (λ (o : Option Node). IfSome o (λ (n : Node). HasRoomFor (n.set ∷ []) (rooms_of c.args.self.now.locations.items))) found c.requires.room in
    let own : HasRoomFor (ps ∷ []) (rooms_of c.args.self.now.locations.items) = subst (λ (l : Accesses). HasRoomFor (l ∷ []) (rooms_of c.args.self.now.locations.items)) (sym c.items-pair-items.ensures.all) all in
    let within = within_room c.loop-pair.self.locations.items p.0 (room_next ps i p c.args.self.now.locations.items c.loop-pair.self.locations.items up inside at own c.loop-pair.invariant.room) in
    let others : List Node = clashing_at p.0 Write (without c.args.id nodes) in
    let among : IsLaneAmong nodes others (ids_for Write c.index_mut.result.now) =
    others_there nodes c.args.id node (access_at (take i ps)) p c.loop-pair.self.locations.items c.index_mut.result.now c.len-graph.ensures.graph (not_before ps i p up inside at) within c.index_mut.ensures.value (c.loop-pair.invariant.filed node found) Write in
    let writers : List Node = clashing_at p.0 Read (without c.args.id nodes) in
    let writers_among : IsLaneAmong nodes writers (ids_for Read c.index_mut.result.now) =
    others_there nodes c.args.id node (access_at (take i ps)) p c.loop-pair.self.locations.items c.index_mut.result.now c.len-graph.ensures.graph (not_before ps i p up inside at) within c.index_mut.ensures.value (c.loop-pair.invariant.filed node found) Read in
    let locations = set c.loop-pair.self.locations.items p.0 c.enter-here.new.self in
    let after : AreFiledWith (without c.args.id nodes) node (access_at (take (suc i) ps)) locations =
    entered_there nodes c.args.id node (access_at (take i ps)) (access_at (take (suc i) ps)) p c.loop-pair.self.locations.items c.index_mut.result.now c.enter-here.new.self c.len-graph.ensures.graph found (not_before ps i p up inside at) (so_far_here ps i p up inside at)
    (λ loc differs. sym (so_far_other ps i p loc inside at differs)) within c.index_mut.ensures.value c.enter-here.ensures.lanes (c.loop-pair.invariant.filed node found) in
    record {
      first = λ held is both.
          let parts = and_parts c.loop-pair.first c.enter-here.result.first both in
          let here = if_some_at (λ (n : Node). c.enter-here.result.first ≡ true → earlier_than n.task.key others ≡ []) (node_at nodes c.args.id) held is (c.enter-here.ensures.first others among) in
          below_more _ _ (c.loop-pair.invariant.first held is parts.0) (here parts.1);
      blocked = λ held is either. elim (or_cases c.loop-pair.blocked c.enter-here.result.blocked either) [
        | inl before ↦ c.loop-pair.invariant.blocked held is before
        | inr now ↦
            let told = if_some_at (λ (n : Node). c.enter-here.result.blocked ≡ true → (p.1 ≡ Write) × (earlier_than n.task.key others ≢ [])) (node_at nodes c.args.id) held is (c.enter-here.ensures.blocked others among) now in
            let same : node ≡ held = (let both : Some node ≡ Some held = sym found ∙ is in cc) in
            let its_set : ps ≡ held.set = c.items-pair-items.ensures.all ∙ ap (λ (n : Node). n.set) same in
            let named : Contains held.set p = subst (λ (l : Accesses). Contains l p) its_set (i, inside, sym at) in
            blocked_by_earlier c.conflict_laws.ensures.decided c.conflict_laws.ensures.mutual nodes c.args.id held p (subst IsAscendingSet its_set up) named told.0 told.1
      ];
      blocks_none = λ held is both.
          let parts = and_parts c.loop-pair.blocks_none c.enter-here.result.blocks_none both in
          let here = if_some_at (λ (n : Node). c.enter-here.result.blocks_none ≡ true → BlocksNoneAlone p.1 n.task.key others writers) (node_at nodes c.args.id) held is (c.enter-here.ensures.blocks_none others writers among writers_among) in
          below_more _ _ (c.loop-pair.invariant.blocks_none held is parts.0) (here parts.1);
      filed = for_found nodes c.args.id node (λ n. AreFiledWith (without c.args.id nodes) n (access_at (take (i + 1) ps)) locations) found (rw add-one after);
      room = rw add-one (room_step ps i p c.args.self.now.locations.items c.loop-pair.self.locations.items c.index_mut.result.now c.enter-here.new.self up inside at within c.index_mut.ensures.value c.enter-here.ensures.room c.loop-pair.invariant.room);
    }

pub returns-clause-filed : goal.returns-clause-filed
returns-clause-filed c =
    let node : Node = record { id = c.node.inside.id; task = c.node.inside.task; set = c.node.inside.set; running = c.node.inside.running } in
    let found : node_at c.args.nodes.now.nodes c.args.id ≡ Some node = c.entry-node.ensures ∙ ap (λ (n : Node). Some n) (sym c.node.view_is) in
    let whole = take_all c.loop-pair.pair-index c.items-pair-items.result.now (omega (arith, c.loop-pair-test.false)) ∙ c.items-pair-items.ensures.all in
    filed_own c.args.nodes.now.nodes c.args.id node c.loop-pair.self.locations.items c.len-graph.ensures.graph found
    (subst (λ (l : Accesses). AreFiledWith (without c.args.id c.args.nodes.now.nodes) node (access_at l) c.loop-pair.self.locations.items) whole (c.loop-pair.invariant.filed node found))

pub returns-clause-first : goal.returns-clause-first
returns-clause-first c =
    let nodes : List Node = c.args.nodes.now.nodes in
    let node : Node = record { id = c.node.inside.id; task = c.node.inside.task; set = c.node.inside.set; running = c.node.inside.running } in
    let found : node_at nodes c.args.id ≡ Some node = c.entry-node.ensures ∙ ap (λ (n : Node). Some n) (sym c.node.view_is) in
    let end : length c.items-pair-items.result.now ≤ c.loop-pair.pair-index = omega (arith, c.loop-pair-test.false) in
    let none : ℕ × Access → Type 0 = λ p. earlier_than node.task.key (clashing_at p.0 Write (without c.args.id nodes)) ≡ [] in
    subst (λ (o : Option Node). IfSome o (λ (n : Node). c.loop-pair.first ≡ true → is_blocked nodes n ≡ false)) (sym found) (λ is.
    first_unblocked c.conflict_laws.ensures.decided c.conflict_laws.ensures.mutual nodes c.args.id node c.len-graph.ensures.graph c.items-pair-items.ensures.ascending found
    (each_pair none c.items-pair-items.result.now node.set c.loop-pair.pair-index c.items-pair-items.ensures.all end (c.loop-pair.invariant.first node found is)))

pub returns-clause-blocked : goal.returns-clause-blocked
returns-clause-blocked c =
    let node : Node = record { id = c.node.inside.id; task = c.node.inside.task; set = c.node.inside.set; running = c.node.inside.running } in
    let found : node_at c.args.nodes.now.nodes c.args.id ≡ Some node = c.entry-node.ensures ∙ ap (λ (n : Node). Some n) (sym c.node.view_is) in
    subst (λ (o : Option Node). IfSome o (λ (n : Node). c.loop-pair.blocked ≡ true → is_blocked c.args.nodes.now.nodes n ≡ true)) (sym found) (c.loop-pair.invariant.blocked node found)

pub returns-clause-blocks_none : goal.returns-clause-blocks_none
returns-clause-blocks_none c =
    let nodes : List Node = c.args.nodes.now.nodes in
    let others : List Node = without c.args.id nodes in
    let node : Node = record { id = c.node.inside.id; task = c.node.inside.task; set = c.node.inside.set; running = c.node.inside.running } in
    let found : node_at nodes c.args.id ≡ Some node = c.entry-node.ensures ∙ ap (λ (n : Node). Some n) (sym c.node.view_is) in
    let end : length c.items-pair-items.result.now ≤ c.loop-pair.pair-index = omega (arith, c.loop-pair-test.false) in
    let none : ℕ × Access → Type 0 = λ p. BlocksNoneAlone p.1 node.task.key (clashing_at p.0 Write others) (clashing_at p.0 Read others) in
    subst (λ (o : Option Node). IfSome o (λ (n : Node). c.loop-pair.blocks_none ≡ true → AllByRecursion (λ other. is_blocked others other ≡ true) (fronts_after n.set n.task.key nodes))) (sym found) (λ is.
    fronts_blocked c.conflict_laws.ensures.decided nodes c.args.id node c.len-graph.ensures.graph found (each_pair none c.items-pair-items.result.now node.set c.loop-pair.pair-index c.items-pair-items.ensures.all end (c.loop-pair.invariant.blocks_none node found is)))

pub returns-clause-room : goal.returns-clause-room
returns-clause-room c =
    let node : Node = record { id = c.node.inside.id; task = c.node.inside.task; set = c.node.inside.set; running = c.node.inside.running } in
    let found : node_at c.args.nodes.now.nodes c.args.id ≡ Some node = c.entry-node.ensures ∙ ap (λ (n : Node). Some n) (sym c.node.view_is) in
    let whole = take_all c.loop-pair.pair-index c.items-pair-items.result.now (omega (arith, c.loop-pair-test.false)) ∙ c.items-pair-items.ensures.all in
    let first : List ℕ = rooms_of c.args.self.now.locations.items in
    let last : List ℕ = rooms_of c.loop-pair.self.locations.items in
    subst (λ (o : Option Node). IfSome o (λ (n : Node). HasTakenFor (n.set ∷ []) first last)) (sym found)
    (taken_whole (take c.loop-pair.pair-index c.items-pair-items.result.now) node.set first last whole c.loop-pair.invariant.room)
