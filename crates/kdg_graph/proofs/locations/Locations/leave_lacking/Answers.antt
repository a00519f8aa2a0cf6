use Rattle.std.proofs.Common.{rules, ◌≡◌, ◌+◌, ◌<◌, ◌≤◌, ◌∙◌, ℕ, List, Option, Some, true, false, add-one, ap, arith, drop, get_or, length, set, suc, subst, sym}
use Rattle.kdg_graph.proofs.Common.{Access, Read, Accesses, IsAscendingSet, access_at, AreFiledWith, is_same, midway, Node, node_at, without}
use Rattle.kdg_graph.proofs.Filing.{filed_as, for_found, left_as_was, left_elsewhere, left_had, left_has, left_there, still_beside, within_filed, again, fewer_write, no_less_step}
use Rattle.kdg_graph.proofs.locations.Locations.leave_lacking.Goals as goal

pub loop-pair-preserved-then-has : goal.loop-pair-preserved-then-has
loop-pair-preserved-then-has c =
    let nodes : List Node = c.args.nodes.now.nodes in
    let held : Node = record { id = c.node.inside.id; task = c.node.inside.task; set = c.node.inside.set; running = c.node.inside.running } in
    let found : node_at nodes c.args.id ≡ Some held = c.entry-node.ensures ∙ ap (λ (n : Node). Some n) (sym c.node.view_is) in
    let before : Accesses = c.args.before.now in
    let ps : Accesses = c.items-pair-items.result.now in
    let i : ℕ = c.loop-pair.pair-index in
    let p : ℕ × Access = get_or ps i (0, Read) in
    let inside : i < length before = subst (λ (l : Accesses). i < length l) c.items-pair-items.ensures.all c.loop-pair-test.true in
    let at : p ≡ get_or before i p = subst (λ (l : Accesses). p ≡ get_or l i p) c.items-pair-items.ensures.all (again ps i (0, Read) p c.loop-pair-test.true) in
    let beside : access_at c.loop-pair.walk.left.now p.0 ≡ access_at held.set p.0 = c.loop-pair.invariant.beside held found i (0, Read) (omega arith) c.loop-pair-test.true in
    let has : is_same (Some p.1) (access_at held.set p.0) ≡ true = ap (is_same (Some p.1)) (sym beside) ∙ sym c.has.ensures.found ∙ c.if-has.true in
    let filed : AreFiledWith (without c.args.id nodes) held (midway before held.set (drop (suc i) before)) c.loop-pair.self.locations.items =
    filed_as (without c.args.id nodes) held (midway before held.set (drop i before)) (midway before held.set (drop (suc i) before)) c.loop-pair.self.locations.items (left_as_was before held.set i p c.items-pair-items.ensures.ascending inside at has) (c.loop-pair.invariant.filed held found) in
    record {
      ascending = c.has.ensures.ascending;
      beside = for_found nodes c.args.id held (λ n. (k : ℕ) (d : ℕ × Access) → i + 1 ≤ k → k < length ps → access_at c.has.new.self.left.now (get_or ps k d).0 ≡ access_at n.set (get_or ps k d).0) found
          (still_beside ps c.loop-pair.walk.left.now c.has.new.self.left.now held.set i p (subst IsAscendingSet (sym c.items-pair-items.ensures.all) c.items-pair-items.ensures.ascending) (again ps i (0, Read) p c.loop-pair-test.true) (c.loop-pair.invariant.beside held found) c.has.ensures.beyond);
      filed = for_found nodes c.args.id held (λ n. AreFiledWith (without c.args.id nodes) n (midway before n.set (drop (i + 1) before)) c.loop-pair.self.locations.items) found (rw add-one filed);
      no_less = c.loop-pair.invariant.no_less;
    }

pub index_mut-requires : goal.index_mut-requires
index_mut-requires c =
    let held : Node = record { id = c.node.inside.id; task = c.node.inside.task; set = c.node.inside.set; running = c.node.inside.running } in
    let found : node_at c.args.nodes.now.nodes c.args.id ≡ Some held = c.entry-node.ensures ∙ ap (λ (n : Node). Some n) (sym c.node.view_is) in
    let before : Accesses = c.args.before.now in
    let i : ℕ = c.loop-pair.pair-index in
    let p : ℕ × Access = get_or c.items-pair-items.result.now i (0, Read) in
    let inside : i < length before = subst (λ (l : Accesses). i < length l) c.items-pair-items.ensures.all c.loop-pair-test.true in
    let at : p ≡ get_or before i p = subst (λ (l : Accesses). p ≡ get_or l i p) c.items-pair-items.ensures.all (again c.items-pair-items.result.now i (0, Read) p c.loop-pair-test.true) in
    let beside : access_at c.loop-pair.walk.left.now p.0 ≡ access_at held.set p.0 = c.loop-pair.invariant.beside held found i (0, Read) (omega arith) c.loop-pair-test.true in
    let lacks : is_same (Some p.1) (access_at held.set p.0) ≡ false = ap (is_same (Some p.1)) (sym beside) ∙ sym c.has.ensures.found ∙ c.if-has.false in
    let within = within_filed (without c.args.id c.args.nodes.now.nodes) held (midway before held.set (drop i before)) p c.loop-pair.self.locations.items (left_had before held.set i p c.items-pair-items.ensures.ascending inside at lacks) (c.loop-pair.invariant.filed held found) in
    search (rules, within)

pub leave-requires-clause-reads : goal.leave-requires-clause-reads
leave-requires-clause-reads c =
    let held : Node = record { id = c.node.inside.id; task = c.node.inside.task; set = c.node.inside.set; running = c.node.inside.running } in
    let found : node_at c.args.nodes.now.nodes c.args.id ≡ Some held = c.entry-node.ensures ∙ ap (λ (n : Node). Some n) (sym c.node.view_is) in
    let before : Accesses = c.args.before.now in
    let i : ℕ = c.loop-pair.pair-index in
    let p : ℕ × Access = get_or c.items-pair-items.result.now i (0, Read) in
    let inside : i < length before = subst (λ (l : Accesses). i < length l) c.items-pair-items.ensures.all c.loop-pair-test.true in
    let at : p ≡ get_or before i p = subst (λ (l : Accesses). p ≡ get_or l i p) c.items-pair-items.ensures.all (again c.items-pair-items.result.now i (0, Read) p c.loop-pair-test.true) in
    let beside : access_at c.loop-pair.walk.left.now p.0 ≡ access_at held.set p.0 = c.loop-pair.invariant.beside held found i (0, Read) (omega arith) c.loop-pair-test.true in
    let lacks : is_same (Some p.1) (access_at held.set p.0) ≡ false = ap (is_same (Some p.1)) (sym beside) ∙ sym c.has.ensures.found ∙ c.if-has.false in
    let f : ℕ → Option Access = midway before held.set (drop i before) in
    let had = left_had before held.set i p c.items-pair-items.ensures.ascending inside at lacks in
    let filed = c.loop-pair.invariant.filed held found in
    let within = within_filed (without c.args.id c.args.nodes.now.nodes) held f p c.loop-pair.self.locations.items had filed in
    fewer_write (without c.args.id c.args.nodes.now.nodes) held f p c.loop-pair.self.locations.items c.index_mut.result.now had within c.index_mut.ensures.value filed

pub loop-pair-preserved : goal.loop-pair-preserved
loop-pair-preserved c =
    let nodes : List Node = c.args.nodes.now.nodes in
    let held : Node = record { id = c.node.inside.id; task = c.node.inside.task; set = c.node.inside.set; running = c.node.inside.running } in
    let found : node_at nodes c.args.id ≡ Some held = c.entry-node.ensures ∙ ap (λ (n : Node). Some n) (sym c.node.view_is) in
    let before : Accesses = c.args.before.now in
    let ps : Accesses = c.items-pair-items.result.now in
    let i : ℕ = c.loop-pair.pair-index in
    let p : ℕ × Access = get_or ps i (0, Read) in
    let inside : i < length before = subst (λ (l : Accesses). i < length l) c.items-pair-items.ensures.all c.loop-pair-test.true in
    let at : p ≡ get_or before i p = subst (λ (l : Accesses). p ≡ get_or l i p) c.items-pair-items.ensures.all (again ps i (0, Read) p c.loop-pair-test.true) in
    let beside : access_at c.loop-pair.walk.left.now p.0 ≡ access_at held.set p.0 = c.loop-pair.invariant.beside held found i (0, Read) (omega arith) c.loop-pair-test.true in
    let lacks : is_same (Some p.1) (access_at held.set p.0) ≡ false = ap (is_same (Some p.1)) (sym beside) ∙ sym c.has.ensures.found ∙ c.if-has.false in
    let f : ℕ → Option Access = midway before held.set (drop i before) in
    let g : ℕ → Option Access = midway before held.set (drop (suc i) before) in
    let had = left_had before held.set i p c.items-pair-items.ensures.ascending inside at lacks in
    let within = within_filed (without c.args.id nodes) held f p c.loop-pair.self.locations.items had (c.loop-pair.invariant.filed held found) in
    let locations = set c.loop-pair.self.locations.items p.0 c.leave.new.self in
    let filed : AreFiledWith (without c.args.id nodes) held g locations =
    left_there nodes c.args.id held f g p c.loop-pair.self.locations.items c.index_mut.result.now c.leave.new.self c.len-graph.ensures.graph found had (left_has before held.set i p c.items-pair-items.ensures.ascending inside at lacks)
    (λ loc differs. left_elsewhere before held.set i p loc inside at differs) within c.index_mut.ensures.value c.leave.ensures.lanes (c.loop-pair.invariant.filed held found) in
    record {
      ascending = c.has.ensures.ascending;
      beside = for_found nodes c.args.id held (λ n. (k : ℕ) (d : ℕ × Access) → i + 1 ≤ k → k < length ps → access_at c.has.new.self.left.now (get_or ps k d).0 ≡ access_at n.set (get_or ps k d).0) found
          (still_beside ps c.loop-pair.walk.left.now c.has.new.self.left.now held.set i p (subst IsAscendingSet (sym c.items-pair-items.ensures.all) c.items-pair-items.ensures.ascending) (again ps i (0, Read) p c.loop-pair-test.true) (c.loop-pair.invariant.beside held found) c.has.ensures.beyond);
      filed = for_found nodes c.args.id held (λ n. AreFiledWith (without c.args.id nodes) n (midway before n.set (drop (i + 1) before)) locations) found (rw add-one filed);
      no_less = no_less_step p.0 c.args.self.now.locations.items c.loop-pair.self.locations.items c.index_mut.result.now c.leave.new.self within c.index_mut.ensures.value c.leave.ensures.no_less c.loop-pair.invariant.no_less;
    }
