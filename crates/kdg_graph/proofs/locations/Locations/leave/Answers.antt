use Rattle.std.proofs.Common.{rules, ◌≡◌, ℕ, ◌+◌, ◌<◌, ◌≤◌, ◌∙◌, List, [], Option, Some, false, add-one, ap, arith, below_more, drop, drop_of_length-le, get_or, length, ltb, set, suc, subst, sym, IfSome}
use Rattle.kdg_graph.proofs.Common.{or_parts, AllByRecursion, Access, Read, Accesses, IsAscendingSet, access_at, AreFiledWith, clashing_at, Node, node_at, without, all_from}
use Rattle.kdg_graph.proofs.Arriving.{each_pair, none_left_at}
use Rattle.kdg_graph.proofs.Filing.{again, fewer_write, filed_apart, filed_without, for_found, left_here, left_other, left_there, no_less_step, not_left, within_filed}
use Rattle.kdg_graph.proofs.locations.Locations.leave.Goals as goal

pub loop-pair-init : goal.loop-pair-init
loop-pair-init c =
    let nodes : List Node = c.args.nodes.now.nodes in
    let node : Node = record { id = c.node.inside.id; task = c.node.inside.task; set = c.node.inside.set; running = c.node.inside.running } in
    let found : node_at nodes c.args.id ≡ Some node = c.entry-node.ensures ∙ ap (λ (n : Node). Some n) (sym c.node.view_is) in
    let own : AreFiledWith (without c.args.id nodes) node (access_at c.items-pair-items.result.now) c.args.self.now.locations.items =
    subst (λ (l : Accesses). AreFiledWith (without c.args.id nodes) node (access_at l) c.args.self.now.locations.items) (sym c.items-pair-items.ensures.all) (filed_apart nodes c.args.id node c.args.self.now.locations.items c.len-graph.ensures.graph found c.requires.filed) in
    record {
      filed = for_found nodes c.args.id node (λ n. AreFiledWith (without c.args.id nodes) n (access_at c.items-pair-items.result.now) c.args.self.now.locations.items) found own;
      none_left = λ _ k upto. absurd (omega (arith, upto));
      no_less = λ loc. omega arith;
    }

pub index_mut-here-requires : goal.index_mut-here-requires
index_mut-here-requires c =
    let node : Node = record { id = c.node.inside.id; task = c.node.inside.task; set = c.node.inside.set; running = c.node.inside.running } in
    let found : node_at c.args.nodes.now.nodes c.args.id ≡ Some node = c.entry-node.ensures ∙ ap (λ (n : Node). Some n) (sym c.node.view_is) in
    let ps : Accesses = c.items-pair-items.result.now in
    let i : ℕ = c.loop-pair.pair-index in
    let p : ℕ × Access = get_or ps i (0, Read) in
    let at : p ≡ get_or ps i p = again ps i (0, Read) p c.loop-pair-test.true in
    let within = within_filed (without c.args.id c.args.nodes.now.nodes) node (access_at (drop i ps)) p c.loop-pair.self.locations.items (left_here ps i p c.loop-pair-test.true at) (c.loop-pair.invariant.filed node found) in
    search (rules, within)

pub leave-requires-clause-reads : goal.leave-requires-clause-reads
leave-requires-clause-reads c =
    let node : Node = record { id = c.node.inside.id; task = c.node.inside.task; set = c.node.inside.set; running = c.node.inside.running } in
    let found : node_at c.args.nodes.now.nodes c.args.id ≡ Some node = c.entry-node.ensures ∙ ap (λ (n : Node). Some n) (sym c.node.view_is) in
    let ps : Accesses = c.items-pair-items.result.now in
    let i : ℕ = c.loop-pair.pair-index in
    let p : ℕ × Access = get_or ps i (0, Read) in
    let at : p ≡ get_or ps i p = again ps i (0, Read) p c.loop-pair-test.true in
    let within = within_filed (without c.args.id c.args.nodes.now.nodes) node (access_at (drop i ps)) p c.loop-pair.self.locations.items (left_here ps i p c.loop-pair-test.true at) (c.loop-pair.invariant.filed node found) in
    fewer_write (without c.args.id c.args.nodes.now.nodes) node (access_at (drop i ps)) p c.loop-pair.self.locations.items c.index_mut-here.result.now (left_here ps i p c.loop-pair-test.true at) within c.index_mut-here.ensures.value (c.loop-pair.invariant.filed node found)

pub loop-pair-preserved : goal.loop-pair-preserved
loop-pair-preserved c =
    let nodes : List Node = c.args.nodes.now.nodes in
    let node : Node = record { id = c.node.inside.id; task = c.node.inside.task; set = c.node.inside.set; running = c.node.inside.running } in
    let found : node_at nodes c.args.id ≡ Some node = c.entry-node.ensures ∙ ap (λ (n : Node). Some n) (sym c.node.view_is) in
    let ps : Accesses = c.items-pair-items.result.now in
    let up : IsAscendingSet ps = subst IsAscendingSet (sym c.items-pair-items.ensures.all) c.items-pair-items.ensures.ascending in
    let i : ℕ = c.loop-pair.pair-index in
    let inside : i < length ps = c.loop-pair-test.true in
    let p : ℕ × Access = get_or ps i (0, Read) in
    let at : p ≡ get_or ps i p = again ps i (0, Read) p inside in
    let within = within_filed (without c.args.id nodes) node (access_at (drop i ps)) p c.loop-pair.self.locations.items (left_here ps i p inside at) (c.loop-pair.invariant.filed node found) in
    let gone = not_left ps i p up inside at in
    let locations = set c.loop-pair.self.locations.items p.0 c.leave.new.self in
    let after : AreFiledWith (without c.args.id nodes) node (access_at (drop (suc i) ps)) locations =
    left_there nodes c.args.id node (access_at (drop i ps)) (access_at (drop (suc i) ps)) p c.loop-pair.self.locations.items c.index_mut-here.result.now c.leave.new.self c.len-graph.ensures.graph found (left_here ps i p inside at) gone
    (λ loc differs. left_other ps i p loc inside at differs) within c.index_mut-here.ensures.value c.leave.ensures.lanes (c.loop-pair.invariant.filed node found) in
    record {
      filed = for_found nodes c.args.id node (λ n. AreFiledWith (without c.args.id nodes) n (access_at (drop (i + 1) ps)) locations) found (rw add-one after);
      none_left = λ either.
          let parts = or_parts c.loop-pair.left (ltb 0 c.len.result) either in
          below_more _ _ (c.loop-pair.invariant.none_left parts.0) (none_left_at (without c.args.id nodes) node (access_at (drop (suc i) ps)) p c.loop-pair.self.locations.items c.leave.new.self c.len.result gone within after (c.len.ensures.len ∙ ap length c.clashing.ensures) parts.1);
      no_less = no_less_step p.0 c.args.self.now.locations.items c.loop-pair.self.locations.items c.index_mut-here.result.now c.leave.new.self within c.index_mut-here.ensures.value c.leave.ensures.no_less c.loop-pair.invariant.no_less;
    }

pub returns-clause-filed : goal.returns-clause-filed
returns-clause-filed c =
    let node : Node = record { id = c.node.inside.id; task = c.node.inside.task; set = c.node.inside.set; running = c.node.inside.running } in
    let found : node_at c.args.nodes.now.nodes c.args.id ≡ Some node = c.entry-node.ensures ∙ ap (λ (n : Node). Some n) (sym c.node.view_is) in
    let none : drop c.loop-pair.pair-index c.items-pair-items.result.now ≡ [] = drop_of_length-le c.items-pair-items.result.now (omega (arith, c.loop-pair-test.false)) in
    filed_without (without c.args.id c.args.nodes.now.nodes) node (access_at (drop c.loop-pair.pair-index c.items-pair-items.result.now)) c.loop-pair.self.locations.items (λ loc. ap (λ (l : Accesses). access_at l loc) none) (c.loop-pair.invariant.filed node found)

pub returns-clause-none_left : goal.returns-clause-none_left
returns-clause-none_left c =
    let node : Node = record { id = c.node.inside.id; task = c.node.inside.task; set = c.node.inside.set; running = c.node.inside.running } in
    let found : node_at c.args.nodes.now.nodes c.args.id ≡ Some node = c.entry-node.ensures ∙ ap (λ (n : Node). Some n) (sym c.node.view_is) in
    let end : length c.items-pair-items.result.now ≤ c.loop-pair.pair-index = omega (arith, c.loop-pair-test.false) in
    let none : ℕ × Access → Type 0 = λ p. clashing_at p.0 p.1 (without c.args.id c.args.nodes.now.nodes) ≡ [] in
    subst (λ (o : Option Node). IfSome o (λ (n : Node). c.loop-pair.left ≡ false → AllByRecursion none n.set)) (sym found) (λ is.
    all_from none node.set (each_pair none c.items-pair-items.result.now node.set c.loop-pair.pair-index c.items-pair-items.ensures.all end (c.loop-pair.invariant.none_left is)))
