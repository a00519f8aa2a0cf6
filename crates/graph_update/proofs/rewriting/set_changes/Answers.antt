use Rattle.std.proofs.Common.{refl, ap}
use Rattle.std.proofs.lemmas.Result.{IfOk-weaker}
use Rattle.kdg_graph.specs.Rewrite.{with_sets, without}
use Rattle.kdg_graph.specs.NodeLaws.{found_node}
use Rattle.graph_update.proofs.FixedSets.{others_same}
use Rattle.graph_update.proofs.Renewing.{are_changes}
use Rattle.graph_update.proofs.rewriting.set_changes.Goals as goal

pub returns-then-sets_are_fixed-clause-same : goal.returns-then-sets_are_fixed-clause-same
returns-then-sets_are_fixed-clause-same g c node is =
    others_same (g.A.App.meaning c.args.app.now) c.node_laws.ensures.have_ids c.args.store.now c.args.graph.now c.requires.graph
    (c.requires.sets (c.if-sets_are_fixed.ensures.known refl) c.args.store.now) node c.args.ended c.new.result.items c.new.ensures.items

pub returns-clause-changes : goal.returns-clause-changes
returns-clause-changes g c =
    let ended = found_node c.args.graph.now c.args.ended c.requires.there in
    IfOk-weaker c.renewals.result _ _
    (λ changes are. are_changes (g.A.App.meaning c.args.app.now) c.args.store.now c.args.graph.now ended.0 c.later_laws.ensures.may_change c.requires.graph c.args.ended ended.1 changes.items (are ended.0 ended.1))
    c.renewals.ensures.changes

pub returns-clause-same : goal.returns-clause-same
returns-clause-same g c =
    IfOk-weaker c.renewals.result _ _
    (λ changes are node is. ap (λ changes. with_sets changes (without c.args.ended c.args.graph.now)) (are node is))
    c.renewals.ensures.changes
