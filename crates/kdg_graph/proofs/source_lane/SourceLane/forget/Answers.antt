use Rattle.std.proofs.Common.{◌≡◌, ◌∙◌, ◌∷◌, [], ◌<◌, List, ap, length, set, subst, sym, arith, get_or}
use Rattle.kdg_graph.proofs.Common.{Absent, AreForgotten, AreSome, MarkedIds, Standing, is_settled}
use Rattle.kdg_graph.proofs.Listed.{has_mark}
use Rattle.kdg_graph.proofs.Marks.{forgets, lost_by_mark, marked_forgotten}
use Rattle.kdg_graph.proofs.source_lane.SourceLane.forget.Goals as goal

pub index_mut-requires : goal.index_mut-requires
index_mut-requires c =
    let some = subst (AreSome c.args.nodes.now.nodes) (sym c.self.view_is) c.requires.some in
    omega (arith, c.self.inside.standings.ok.0, has_mark c.args.nodes.now.nodes c.args.id (length c.self.inside.standings.items) c.requires.there some.marks)

pub invariant_of-self : goal.invariant_of-self
invariant_of-self c =
    let standings : List Standing = c.self.inside.standings.items in
    let some = subst (AreSome c.args.nodes.now.nodes) (sym c.self.view_is) c.requires.some in
    let inside : c.args.id.at < length standings = has_mark c.args.nodes.now.nodes c.args.id (length standings) c.requires.there some.marks in
    let was : is_settled (get_or standings c.args.id.at Absent) ≡ c.is_in_order.result = ap (λ (m : MarkedIds). is_settled (get_or m.standings c.args.id.at Absent)) c.self.view_is ∙ sym c.is_in_order.ensures in
    let lost = lost_by_mark c.args.nodes.now.nodes standings c.self.inside.settled.ids.items c.args.id c.is_in_order.result c.requires.graph some.in_order inside was (sym (c.self.invariant.0.are_settled c.args.id.at) ∙ was) in (
      marked_forgotten standings c.self.inside.settled.ids.items c.self.inside.arrivals.items c.args.id c.self.invariant.0 inside,
      omega (arith, c.self.invariant.1, lost),
    )

pub returns : goal.returns
returns c =
    let inside : MarkedIds = record { entries = c.self.inside.settled.ids.items; arrivals = c.self.inside.arrivals.items; standings = c.self.inside.standings.items; room = c.self.inside.settled.ids.capacity } in
    let some = subst (AreSome c.args.nodes.now.nodes) (sym c.self.view_is) c.requires.some in
    subst (λ (before : MarkedIds). AreForgotten c.args.nodes.now.nodes (c.args.id ∷ []) before (record inside { standings = set inside.standings c.args.id.at Absent })) c.self.view_is (forgets c.args.nodes.now.nodes c.args.id inside c.requires.graph c.requires.there some)
