use Rattle.std.proofs.Common.{◌≡◌, ◌∙◌, subst}
use Rattle.std.specs.Prelude.{IfSome}
use Rattle.kdg_graph.specs.Edges.{laters_of}
use Rattle.kdg_graph.specs.NodeLaws.{found_node}
use Rattle.graph_update.proofs.Renewing.{all_renewed, has_next, none_renewed, one_more, step_within, steps_within}
use Rattle.graph_update.proofs.rewriting.renewals.Goals as goal

pub loop-node-init : goal.loop-node-init
loop-node-init g c = (
  tt,
  tt,
  λ node is.
      none_renewed (g.A.App.meaning c.args.app.now) c.args.store.now c.args.graph.now node c.args.steps.now c.into_iter-node-iterator.result c.new-changes.result.items
      (c.into_iter-node-iterator.ensures.into_iter_gives ∙ subst (λ found. IfSome found (λ of. c.later_of-node-items.result ≡ laters_of c.args.graph.now of)) is c.later_of-node-items.ensures.laters)
      c.new-changes.ensures.items,
)

pub renewed-requires-clause-later : goal.renewed-requires-clause-later
renewed-requires-clause-later g c κs within =
    let ended = found_node c.args.graph.now c.args.ended c.requires.there in
    has_next (g.A.App.meaning c.args.app.now) c.args.store.now c.args.graph.now ended.0 c.args.steps.now c.loop-node.node-iterator c.loop-node.changes.items c.loop-node.steps
    (c.loop-node.invariant.2 ended.0 ended.1) c.in-Some.node c.next.new.self c.in-Some.ensures.steps c.node_laws.ensures.have_ids c.later_of-node-items.ensures.graph

pub loop-node-preserved : goal.loop-node-preserved
loop-node-preserved g c = (
  tt,
  tt,
  λ node is.
      one_more (g.A.App.meaning c.args.app.now) c.args.store.now c.args.graph.now node c.args.steps.now c.loop-node.node-iterator c.loop-node.changes.items c.loop-node.steps
      (c.loop-node.invariant.2 node is) c.in-Some.node c.next.new.self c.in-Some.ensures.steps c.node_laws.ensures.have_ids c.later_of-node-items.ensures.graph
      c.in_ok-set.set c.push.new.self.items c.renewed.new.steps
      (λ other found. c.in_ok-set.ensures.set node other is found) c.in_ok-push.ensures.items c.renewed.ensures.step,
)

pub returns-in_err-set-clause-steps : goal.returns-in_err-set-clause-steps
returns-in_err-set-clause-steps g c node is =
    step_within (g.A.App.meaning c.args.app.now) c.args.store.now c.args.graph.now node c.args.steps.now c.loop-node.node-iterator c.loop-node.changes.items c.loop-node.steps
    (c.loop-node.invariant.2 node is) c.in-Some.node c.next.new.self c.in-Some.ensures.steps c.node_laws.ensures.have_ids c.later_of-node-items.ensures.graph c.renewed.new.steps c.renewed.ensures.step

pub returns-in_err-push-clause-steps : goal.returns-in_err-push-clause-steps
returns-in_err-push-clause-steps g c node is =
    step_within (g.A.App.meaning c.args.app.now) c.args.store.now c.args.graph.now node c.args.steps.now c.loop-node.node-iterator c.loop-node.changes.items c.loop-node.steps
    (c.loop-node.invariant.2 node is) c.in-Some.node c.next.new.self c.in-Some.ensures.steps c.node_laws.ensures.have_ids c.later_of-node-items.ensures.graph c.renewed.new.steps c.renewed.ensures.step

pub returns-clause-changes : goal.returns-clause-changes
returns-clause-changes g c node is =
    all_renewed (g.A.App.meaning c.args.app.now) c.args.store.now c.args.graph.now node c.args.steps.now c.loop-node.node-iterator c.loop-node.changes.items c.loop-node.steps
    (c.loop-node.invariant.2 node is) c.in-None.ensures.steps.0

pub returns-clause-steps : goal.returns-clause-steps
returns-clause-steps g c node is =
    steps_within (g.A.App.meaning c.args.app.now) c.args.store.now c.args.graph.now node c.args.steps.now c.loop-node.node-iterator c.loop-node.changes.items c.loop-node.steps
    (c.loop-node.invariant.2 node is)
