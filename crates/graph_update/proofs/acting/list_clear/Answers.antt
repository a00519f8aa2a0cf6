use Rattle.std.proofs.Common.{◌≡◌, ◌++◌, [], sym, ap, subst, ◌∙◌}
use Rattle.std.specs.Prelude.{Contains}
use Rattle.std.specs.List.{AllByRecursion}
use Rattle.std.proofs.lemmas.List.{append-nil}
use Rattle.plain_laws.specs.Members.{all_from}
use Rattle.kdg_graph.specs.Edges.{sources_of}
use Rattle.kdg_graph.specs.Nodes.{tasks_of}
use Rattle.graph_update.specs.Engine.{HaveFixedSets}
use Rattle.graph_update.proofs.ClearIds.{answer_is, clear_are_safe, next_passed, safe_ids}
use Rattle.graph_update.proofs.acting.list_clear.Goals as goal

pub loop-node-init : goal.loop-node-init
loop-node-init g c =
    let sources : c.into_iter-node-iterator.result ≡ sources_of c.args.graph.now = c.into_iter-node-iterator.ensures.into_iter_gives ∙ c.sources-node-items.ensures.sources in
    let app = g.A.App.meaning c.args.app.now in
    record {
      passed = ap (λ ids. ids ++ safe_ids app c.args.graph.now c.into_iter-node-iterator.result) c.clear.ensures.items ∙ ap (safe_ids app c.args.graph.now) sources;
      there = subst (AllByRecursion (Contains (sources_of c.args.graph.now))) (sym sources) (all_from (Contains (sources_of c.args.graph.now)) (sources_of c.args.graph.now) (λ id has. has));
      told = c.requires.told;
    }

pub is_safe-requires-clause-fixed : goal.is_safe-requires-clause-fixed
is_safe-requires-clause-fixed g c κs within = subst (HaveFixedSets (g.A.App.meaning c.args.app.now)) (sym c.of-pending.ensures) c.requires.fixed

pub loop-node-preserved-in-Continue-1 : goal.loop-node-preserved-in-Continue-1
loop-node-preserved-in-Continue-1 g c =
    let app = g.A.App.meaning c.args.app.now in
    let graph = c.args.graph.now in
    let steps = c.in-Some.ensures.steps in
    let left = subst (AllByRecursion (Contains (sources_of graph))) steps c.loop-node.invariant.there in
    let safe = answer_is app graph c.source_laws.ensures.nodes c.sources-node-items.ensures.graph c.in-Some.node left.0 c.of-pending.result c.of-pending.ensures c.is_safe.result c.is_safe.ensures.answer ∙ c.if-is_safe.true in
    record {
      passed = ap (λ ids. ids ++ safe_ids app graph c.next.new.self) c.in_ok-push.ensures.items
          ∙ (next_passed app graph c.loop-node.ids.items c.in-Some.node c.next.new.self _ (ap (λ left. c.loop-node.ids.items ++ safe_ids app graph left) (sym steps) ∙ c.loop-node.invariant.passed)).0 safe;
      there = left.1;
      told = subst (λ nodes. g.A.App.tells c.args.app.now c.is_safe.new.horizon (tasks_of nodes)) c.of-pending.ensures c.is_safe.ensures.told;
    }

pub loop-node-preserved : goal.loop-node-preserved
loop-node-preserved g c =
    let app = g.A.App.meaning c.args.app.now in
    let graph = c.args.graph.now in
    let steps = c.in-Some.ensures.steps in
    let left = subst (AllByRecursion (Contains (sources_of graph))) steps c.loop-node.invariant.there in
    let unsafe = answer_is app graph c.source_laws.ensures.nodes c.sources-node-items.ensures.graph c.in-Some.node left.0 c.of-pending.result c.of-pending.ensures c.is_safe.result c.is_safe.ensures.answer ∙ c.if-is_safe.false in
    record {
      passed = (next_passed app graph c.loop-node.ids.items c.in-Some.node c.next.new.self _ (ap (λ left. c.loop-node.ids.items ++ safe_ids app graph left) (sym steps) ∙ c.loop-node.invariant.passed)).1 unsafe;
      there = left.1;
      told = subst (λ nodes. g.A.App.tells c.args.app.now c.is_safe.new.horizon (tasks_of nodes)) c.of-pending.ensures c.is_safe.ensures.told;
    }

pub returns-clause-ids : goal.returns-clause-ids
returns-clause-ids g c =
    let app = g.A.App.meaning c.args.app.now in
    let none : c.loop-node.node-iterator ≡ [] = c.in-None.ensures.steps.0 in
    sym (append-nil c.loop-node.ids.items) ∙ ap (λ ids. c.loop-node.ids.items ++ safe_ids app c.args.graph.now ids) (sym none)
    ∙ c.loop-node.invariant.passed ∙ clear_are_safe app c.args.graph.now c.node_laws.ensures.have_ids c.sources-node-items.ensures.graph
