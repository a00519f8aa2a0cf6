use Rattle.std.proofs.Common.{◌≡◌, ◌∙◌, ap, arith, eqb-true, length, sym}
use Rattle.kdg_graph.proofs.Common.{MarkedIds, nil_from_length}
use Rattle.kdg_graph.proofs.Marks.{listed_same, some_same}
use Rattle.kdg_graph.proofs.source_lane.SourceLane.settle.Goals as goal

pub settle_arrivals-requires-clause-some : goal.settle_arrivals-requires-clause-some
settle_arrivals-requires-clause-some c = some_same c.args.nodes.now.nodes c.args.self.now c.drop_gone.new.self c.drop_gone.ensures.settled c.drop_gone.ensures.recent c.drop_gone.ensures.room (omega (arith, c.drop_gone.ensures.marks)) c.requires.some

pub returns-then-not-is_empty-clause-listed : goal.returns-then-not-is_empty-clause-listed
returns-then-not-is_empty-clause-listed c = c.settle_arrivals.ensures.listed ∙ listed_same c.args.nodes.now.nodes c.args.self.now c.drop_gone.new.self c.drop_gone.ensures.settled c.drop_gone.ensures.recent

pub returns-then-not-is_empty-clause-room : goal.returns-then-not-is_empty-clause-room
returns-then-not-is_empty-clause-room c = omega (arith, c.drop_gone.ensures.room, c.settle_arrivals.ensures.room)

pub returns-else-not-is_empty-clause-listed : goal.returns-else-not-is_empty-clause-listed
returns-else-not-is_empty-clause-listed c = listed_same c.args.nodes.now.nodes c.args.self.now c.drop_gone.new.self c.drop_gone.ensures.settled c.drop_gone.ensures.recent

pub returns-else-not-is_empty-clause-none_came : goal.returns-else-not-is_empty-clause-none_came
returns-else-not-is_empty-clause-none_came c =
    let long : length c.self.inside.arrivals.items ≡ 0 = omega (arith, c.self.inside.arrivals.ok.0, eqb-true c.self.inside.arrivals.len 0 (sym c.is_empty.ensures ∙ c.if-not-is_empty.false)) in
    ap (λ (m : MarkedIds). m.arrivals) (sym c.self.view_is) ∙ nil_from_length c.self.inside.arrivals.items long

pub returns-else-not-is_empty-clause-some : goal.returns-else-not-is_empty-clause-some
returns-else-not-is_empty-clause-some c = some_same c.args.nodes.now.nodes c.args.self.now c.drop_gone.new.self c.drop_gone.ensures.settled c.drop_gone.ensures.recent c.drop_gone.ensures.room (omega (arith, c.drop_gone.ensures.marks)) c.requires.some
