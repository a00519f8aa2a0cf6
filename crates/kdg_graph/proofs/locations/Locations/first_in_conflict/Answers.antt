use Rattle.std.proofs.Common.{rules, ◌≡◌, ◌∙◌, ℕ, Bool, List, add-one, ap, arith, get_or, length, subst, sym, take, Contains, filter}
use Rattle.kdg_graph.proofs.Common.{take-length, list_any, Access, Read, Accesses, conflicts_with, clashes_at, Node, later_than, least_of}
use Rattle.kdg_graph.proofs.Earliest.{conflicts_by_pairs, first_of_none, first_there, later_among, one_pair_more, ends_early}
use Rattle.kdg_graph.proofs.Filing.{again}
use Rattle.kdg_graph.proofs.KeyOrder.{same_filter}
use Rattle.kdg_graph.proofs.locations.Locations.first_in_conflict.Goals as goal

abbrev clashes_so_far : ℕ → Accesses → Node → Bool
clashes_so_far i ps other = list_any (λ (p : ℕ × Access). clashes_at p.0 p.1 other) (take i ps)

pub loop-pair-init : goal.loop-pair-init
loop-pair-init c = sym (first_of_none (later_than c.args.key.now c.args.nodes.now.nodes))

pub earlier-first-requires-clause-one : goal.earlier-first-requires-clause-one
earlier-first-requires-clause-one c =
    first_there c.args.nodes.now.nodes c.args.key.now (clashes_so_far c.loop-pair.pair-index c.items-pair-items.result.now) c.loop-pair.first c.len-graph.ensures.graph c.loop-pair.invariant

pub earlier-first-requires-clause-other : goal.earlier-first-requires-clause-other
earlier-first-requires-clause-other c =
    let p : ℕ × Access = get_or c.items-pair-items.result.now c.loop-pair.pair-index (0, Read) in
    first_there c.args.nodes.now.nodes c.args.key.now (clashes_at p.0 p.1) c.first_behind-other.result c.len-graph.ensures.graph c.first_behind-other.ensures

pub loop-pair-preserved : goal.loop-pair-preserved
loop-pair-preserved c =
    let ps : Accesses = c.items-pair-items.result.now in
    let i : ℕ = c.loop-pair.pair-index in
    let p : ℕ × Access = get_or ps i (0, Read) in
    let at : p ≡ get_or ps i p = again ps i (0, Read) p c.loop-pair-test.true in
    let later : List Node = later_than c.args.key.now c.args.nodes.now.nodes in
    rw add-one (c.earlier-first.ensures later (clashes_so_far i ps) (clashes_at p.0 p.1) (later_among c.args.key.now c.args.nodes.now.nodes c.len-graph.ensures.graph) c.loop-pair.invariant c.first_behind-other.ensures
    ∙ ap least_of (one_pair_more ps i p later c.loop-pair-test.true at))

pub returns-then-eq-clause-first : goal.returns-then-eq-clause-first
returns-then-eq-clause-first c =
    let i : ℕ = c.loop-pair.pair-index in
    let p : ℕ × Access = get_or c.items-pair-items.result.now i (0, Read) in
    let at : get_or c.items-pair-items.result.now i p ≡ p = sym (again c.items-pair-items.result.now i (0, Read) p c.loop-pair-test.true) in
    let has : Contains c.args.set.now p = subst (λ (l : Accesses). Contains l p) c.items-pair-items.ensures.all (i, c.loop-pair-test.true, at) in
    let met : c.first_behind-other.result ≡ c.args.next = search rules in
    ends_early c.args.key.now c.args.nodes.now.nodes c.args.set.now p c.args.next c.first_behind-other.result c.len-graph.ensures.graph c.items-pair-items.ensures.ascending has (sym c.is_some.ensures ∙ c.if-is_some.true) c.requires.next met c.first_behind-other.ensures

pub returns-clause-first : goal.returns-clause-first
returns-clause-first c =
    let ps : Accesses = c.items-pair-items.result.now in
    let end : c.loop-pair.pair-index ≡ length ps = omega (arith, c.loop-pair-test.false, c.loop-pair.auto.pair-index-end) in
    let all : take c.loop-pair.pair-index ps ≡ c.args.set.now = ap (λ n. take n ps) end ∙ take-length ps ∙ c.items-pair-items.ensures.all in
    let later : List Node = later_than c.args.key.now c.args.nodes.now.nodes in
    c.loop-pair.invariant
    ∙ ap (λ (l : Accesses). least_of (filter (λ other. list_any (λ (p : ℕ × Access). clashes_at p.0 p.1 other) l) later)) all
    ∙ ap least_of (same_filter (λ other. list_any (λ (p : ℕ × Access). clashes_at p.0 p.1 other) c.args.set.now) (λ other. conflicts_with c.args.set.now other.set) later (λ other _. conflicts_by_pairs c.args.set.now other c.items-pair-items.ensures.ascending))
