use Rattle.std.proofs.Common.{◌≡◌, ◌∙◌, ◌||◌, ap, get_or, subst, sym}
use Rattle.kdg_graph.proofs.Common.{Absent, AreMarked, MarkedIds, has_number, ids_in, is_recent, is_settled, recent_in, settled_in}
use Rattle.kdg_graph.proofs.Listed.{has_either}
use Rattle.kdg_graph.proofs.source_lane.SourceLane.is_listed.Goals as goal

pub returns-then-is_in_order-clause-listed : goal.returns-then-is_in_order-clause-listed
returns-then-is_in_order-clause-listed c =
    let some : MarkedIds = c.args.self.now in
    let marked = subst (λ (m : MarkedIds). AreMarked (settled_in m) (recent_in m) m.standings) c.self.view_is c.self.invariant.0 in
    let either : has_number c.args.id.at (ids_in some) ≡ (is_settled (get_or some.standings c.args.id.at Absent) || is_recent (get_or some.standings c.args.id.at Absent)) =
    has_either some c.args.id.at ∙ (λ i. sym (marked.are_settled c.args.id.at) i || sym (marked.are_recent c.args.id.at) i) in
    c.if-is_in_order.true ∙ sym (either ∙ ap (λ b. b || is_recent (get_or some.standings c.args.id.at Absent)) (sym c.is_in_order.ensures ∙ c.if-is_in_order.true))

pub returns-else-is_in_order-clause-listed : goal.returns-else-is_in_order-clause-listed
returns-else-is_in_order-clause-listed c =
    let some : MarkedIds = c.args.self.now in
    let marked = subst (λ (m : MarkedIds). AreMarked (settled_in m) (recent_in m) m.standings) c.self.view_is c.self.invariant.0 in
    let either : has_number c.args.id.at (ids_in some) ≡ (is_settled (get_or some.standings c.args.id.at Absent) || is_recent (get_or some.standings c.args.id.at Absent)) =
    has_either some c.args.id.at ∙ (λ i. sym (marked.are_settled c.args.id.at) i || sym (marked.are_recent c.args.id.at) i) in
    c.is_waiting.ensures ∙ sym (either ∙ ap (λ b. b || is_recent (get_or some.standings c.args.id.at Absent)) (sym c.is_in_order.ensures ∙ c.if-is_in_order.false))
