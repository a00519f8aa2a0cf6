use Rattle.std.proofs.Common.{◌≡◌, ℕ, ◌∙◌, List, Option, Some, true, false, ap, arith, get_or, length, refl, subst, sym, take, Contains, IfSome}
use Rattle.kdg_graph.proofs.Common.{take-length, Contains-get_or, list_any, Access, Read, Accesses, access_at, is_blocked, is_blocked_at, Node, node_at}
use Rattle.kdg_graph.proofs.Blocking.{access_of, any_from, blocked_by_first}
use Rattle.kdg_graph.proofs.locations.Locations.is_blocked.Goals as goal

pub is_blocked_at-requires-clause-key : goal.is_blocked_at-requires-clause-key
is_blocked_at-requires-clause-key c =
    let node : Node = record { id = c.node.inside.id; task = c.node.inside.task; set = c.node.inside.set; running = c.node.inside.running } in
    record { node = node; there = c.entry-node.ensures ∙ ap (λ (n : Node). Some n) (sym c.node.view_is); key_is = refl }

pub is_blocked_at-requires-clause-access : goal.is_blocked_at-requires-clause-access
is_blocked_at-requires-clause-access c =
    let node : Node = record { id = c.node.inside.id; task = c.node.inside.task; set = c.node.inside.set; running = c.node.inside.running } in
    let found : node_at c.args.nodes.now.nodes c.args.id ≡ Some node = c.entry-node.ensures ∙ ap (λ (n : Node). Some n) (sym c.node.view_is) in
    let p : ℕ × Access = get_or c.items-pair-items.result.now c.loop-pair.pair-index (0, Read) in
    let has : Contains node.set p = subst (λ (l : Accesses). Contains l p) c.items-pair-items.ensures.all (Contains-get_or c.items-pair-items.result.now c.loop-pair.pair-index (0, Read) c.loop-pair-test.true) in
    subst (λ (o : Option Node). IfSome o (λ (n : Node). access_at n.set p.0 ≡ Some p.1)) (sym found) (access_of node.set p c.items-pair-items.ensures.ascending has)

pub returns-then-is_blocked_at : goal.returns-then-is_blocked_at
returns-then-is_blocked_at c =
    let nodes : List Node = c.args.nodes.now.nodes in
    let node : Node = record { id = c.node.inside.id; task = c.node.inside.task; set = c.node.inside.set; running = c.node.inside.running } in
    let found : node_at nodes c.args.id ≡ Some node = c.entry-node.ensures ∙ ap (λ (n : Node). Some n) (sym c.node.view_is) in
    let ps : Accesses = c.items-pair-items.result.now in
    let p : ℕ × Access = get_or ps c.loop-pair.pair-index (0, Read) in
    let any : list_any (is_blocked_at nodes node) ps ≡ true = any_from (is_blocked_at nodes node) ps p (Contains-get_or ps c.loop-pair.pair-index (0, Read) c.loop-pair-test.true) (sym c.is_blocked_at.ensures ∙ c.if-is_blocked_at.true) in
    let is : true ≡ is_blocked nodes node =
    sym (blocked_by_first c.conflict_laws.ensures.decided c.conflict_laws.ensures.mutual nodes node c.len-graph.ensures.graph.ascending c.items-pair-items.ensures.ascending ∙ ap (list_any (is_blocked_at nodes node)) (sym c.items-pair-items.ensures.all) ∙ any) in
    subst (λ (o : Option Node). IfSome o (λ (n : Node). true ≡ is_blocked nodes n)) (sym found) is

pub returns : goal.returns
returns c =
    let nodes : List Node = c.args.nodes.now.nodes in
    let node : Node = record { id = c.node.inside.id; task = c.node.inside.task; set = c.node.inside.set; running = c.node.inside.running } in
    let found : node_at nodes c.args.id ≡ Some node = c.entry-node.ensures ∙ ap (λ (n : Node). Some n) (sym c.node.view_is) in
    let ps : Accesses = c.items-pair-items.result.now in
    let end : c.loop-pair.pair-index ≡ length ps = omega (arith, c.loop-pair-test.false, c.loop-pair.auto.pair-index-end) in
    let all : take c.loop-pair.pair-index ps ≡ node.set = ap (λ n. take n ps) end ∙ take-length ps ∙ c.items-pair-items.ensures.all in
    let is : false ≡ is_blocked nodes node =
    sym (blocked_by_first c.conflict_laws.ensures.decided c.conflict_laws.ensures.mutual nodes node c.len-graph.ensures.graph.ascending c.items-pair-items.ensures.ascending ∙ ap (list_any (is_blocked_at nodes node)) (sym all) ∙ c.loop-pair.invariant) in
    subst (λ (o : Option Node). IfSome o (λ (n : Node). false ≡ is_blocked nodes n)) (sym found) is
