use Rattle.std.proofs.Common.{◌≡◌, ◌∙◌, Some, None, ap, arith, length, slice_get, sym}
use Rattle.kdg_graph.proofs.Common.{MarkedIds, settled_in, slice_get_within}
use Rattle.kdg_graph.proofs.Marks.{next_here, next_nowhere, next_where_all, none_gone, settled_past}
use Rattle.kdg_graph.proofs.source_lane.SourceLane.settled_from.Goals as goal

pub returns-then-self-eq0-clause-next : goal.returns-then-self-eq0-clause-next
returns-then-self-eq0-clause-next c =
    next_where_all c.args.self.now c.args.start (ap settled_in (sym c.self.view_is) ∙ sym (none_gone c.self.inside.standings.items c.self.inside.settled.ids.items c.self.inside.gone c.self.invariant.1 (omega arith)) ∙ ap (λ (m : MarkedIds). m.entries) c.self.view_is)

pub loop-id-preserved : goal.loop-id-preserved
loop-id-preserved c =
    let at : slice_get c.args.self.now.entries c.loop-id.place ≡ Some c.in-Some.id = ap (λ (m : MarkedIds). slice_get m.entries c.loop-id.place) (sym c.self.view_is) ∙ sym c.get.ensures.id ∙ c.in-Some.is in
    settled_past c.args.self.now c.loop-id.place c.in-Some.id at (sym c.is_in_order.ensures ∙ c.if-is_in_order.false) ∙ c.loop-id.invariant

pub returns-then-is_in_order-clause-next : goal.returns-then-is_in_order-clause-next
returns-then-is_in_order-clause-next c =
    let at : slice_get c.args.self.now.entries c.loop-id.place ≡ Some c.in-Some.id = ap (λ (m : MarkedIds). slice_get m.entries c.loop-id.place) (sym c.self.view_is) ∙ sym c.get.ensures.id ∙ c.in-Some.is in
    next_here c.args.self.now c.loop-id.place c.in-Some.id at (sym c.is_in_order.ensures ∙ c.if-is_in_order.true)

pub overflow_add-place : goal.overflow_add-place
overflow_add-place c = omega (arith, c.get.ensures.small, slice_get_within c.self.inside.settled.ids.items c.loop-id.place c.in-Some.id (sym c.get.ensures.id ∙ c.in-Some.is))

pub loop-id-smaller : goal.loop-id-smaller
loop-id-smaller c =
    omega (arith, slice_get_within c.self.inside.settled.ids.items c.loop-id.place c.in-Some.id (sym c.get.ensures.id ∙ c.in-Some.is), ap (λ (m : MarkedIds). length m.entries) c.self.view_is)

pub returns-clause-next : goal.returns-clause-next
returns-clause-next c =
    let at : slice_get c.args.self.now.entries c.loop-id.place ≡ None = ap (λ (m : MarkedIds). slice_get m.entries c.loop-id.place) (sym c.self.view_is) ∙ sym c.get.ensures.id ∙ c.in_default.is in
    next_nowhere c.args.self.now c.loop-id.place at
