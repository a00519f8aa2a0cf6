use Rattle.std.proofs.Common.{◌≡◌, ◌∙◌, List, ap, arith, subst, sym}
use Rattle.kdg_graph.proofs.Common.{HasGone, MarkedIds, Standing, settled_among, settled_in}
use Rattle.kdg_graph.proofs.Marks.{cleaned, marked_cleaned, none_gone}
use Rattle.kdg_graph.proofs.source_lane.SourceLane.drop_gone.Goals as goal

pub take_gone-requires : goal.take_gone-requires
take_gone-requires c = subst (λ (standings : List Standing). HasGone standings c.self.inside.settled.ids.items c.self.inside.gone) (sym c.deref.ensures.value) c.self.invariant.1

left : (c : goal.After-self-1) → c.take_gone.new.settled.ids.items ≡ settled_among c.self.inside.standings.items c.self.inside.settled.ids.items
left c = c.take_gone.ensures.left ∙ ap (λ (standings : List Standing). settled_among standings c.self.inside.settled.ids.items) c.deref.ensures.value

pub invariant_of-self : goal.invariant_of-self
invariant_of-self c = marked_cleaned c.self.inside.standings.items c.self.inside.settled.ids.items c.take_gone.new.settled.ids.items c.self.inside.arrivals.items c.self.invariant.0 (left c)

pub returns-then-self-gt0-clause-none_gone : goal.returns-then-self-gt0-clause-none_gone
returns-then-self-gt0-clause-none_gone c = cleaned c.self.inside.standings.items c.self.inside.settled.ids.items c.take_gone.new.settled.ids.items (left c) ∙ sym (left c)

pub returns-then-self-gt0-clause-settled : goal.returns-then-self-gt0-clause-settled
returns-then-self-gt0-clause-settled c = cleaned c.self.inside.standings.items c.self.inside.settled.ids.items c.take_gone.new.settled.ids.items (left c) ∙ ap settled_in c.self.view_is

pub returns-else-self-gt0-clause-none_gone : goal.returns-else-self-gt0-clause-none_gone
returns-else-self-gt0-clause-none_gone c =
    sym (ap (λ (m : MarkedIds). m.entries) (sym c.self.view_is) ∙ none_gone c.self.inside.standings.items c.self.inside.settled.ids.items c.self.inside.gone c.self.invariant.1 (omega arith) ∙ ap settled_in c.self.view_is)
