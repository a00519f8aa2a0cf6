use Rattle.std.proofs.Common.{◌≡◌, ◌∙◌, [], ◌++◌, List, Option, ap, arith, get_or, length, subst, sym, take_all, true≢false}
use Rattle.std.specs.Option.{option_to_list}
use Rattle.kdg_graph.proofs.Common.{Absent, Arrival, Node, NodeId, Recent, Standing, is_recent, nil_from_length}
use Rattle.kdg_graph.proofs.Listed.{ArePut, has_mark, is_Recent, known_next, popped, put_next, put_rest, room_next, there_next}
use Rattle.kdg_graph.proofs.Marks.{put_all, put_none}
use Rattle.kdg_graph.proofs.source_lane.put_in_order.Goals as goal

pub loop-arrival-init : goal.loop-arrival-init
loop-arrival-init c = record {
  front = sym (take_all (length c.args.arrivals.now.items) c.args.arrivals.now.items (omega arith));
  fits = omega arith;
  put = put_none c.args.nodes.now.nodes c.args.settled.now.ids.items c.args.arrivals.now.items c.args.standings.now c.len-end.result c.len-end.ensures.len c.requires.in_order c.requires.marked;
  room = omega arith;
}

-- ---- the last one that is left

pub put_before-end-requires : goal.put_before-end-requires
put_before-end-requires c =
    let nodes : List Node = c.args.nodes.now.nodes in
    let before : List NodeId = c.args.settled.now.ids.items in
    let was : List Standing = c.args.standings.now in
    let rest : List Arrival = c.pop.new.self.items in
    let ids : List NodeId = c.loop-arrival.settled.ids.items in
    let left = c.pop.ensures.items ∙ ap (λ (o : Option Arrival). rest ++ option_to_list o) c.in-Some.is in
    let last = popped c.args.arrivals.now.items c.loop-arrival.arrivals.items rest c.in-Some.arrival left c.loop-arrival.invariant.front c.loop-arrival.invariant.fits in
    let is : get_or c.loop-arrival.standings c.in-Some.arrival.id.at Absent ≡ Recent = is_Recent _ (sym c.marks_waiting.ensures ∙ c.if-marks_waiting.true) in
    let there = there_next nodes before was c.args.arrivals.now.items c.loop-arrival.arrivals.items c.in-Some.arrival ids c.loop-arrival.standings c.loop-arrival.end c.requires.there (length rest, last.1, last.2) c.loop-arrival.invariant.put is in
    record {
      there = there;
      room = room_next nodes before was c.loop-arrival.arrivals.items c.in-Some.arrival ids c.loop-arrival.standings c.loop-arrival.end c.loop-arrival.settled.ids.capacity c.requires.graph there c.loop-arrival.invariant.put is (omega (arith, c.requires.room, c.loop-arrival.invariant.room));
      known = known_next nodes before was rest c.in-Some.arrival ids c.loop-arrival.standings c.loop-arrival.end (subst (λ (l : List Arrival). ArePut nodes before was l ids c.loop-arrival.standings c.loop-arrival.end) left c.loop-arrival.invariant.put) is;
    }

pub loop-arrival-preserved-then-marks_waiting : goal.loop-arrival-preserved-then-marks_waiting
loop-arrival-preserved-then-marks_waiting c =
    let nodes : List Node = c.args.nodes.now.nodes in
    let was : List Standing = c.args.standings.now in
    let rest : List Arrival = c.pop.new.self.items in
    let arrival : Arrival = c.in-Some.arrival in
    let standings : List Standing = c.loop-arrival.standings in
    let left = c.pop.ensures.items ∙ ap (λ (o : Option Arrival). rest ++ option_to_list o) c.in-Some.is in
    let last = popped c.args.arrivals.now.items c.loop-arrival.arrivals.items rest arrival left c.loop-arrival.invariant.front c.loop-arrival.invariant.fits in
    let is : get_or standings arrival.id.at Absent ≡ Recent = is_Recent _ (sym c.marks_waiting.ensures ∙ c.if-marks_waiting.true) in
    let there = there_next nodes c.args.settled.now.ids.items was c.args.arrivals.now.items c.loop-arrival.arrivals.items arrival c.loop-arrival.settled.ids.items standings c.loop-arrival.end c.requires.there (length rest, last.1, last.2) c.loop-arrival.invariant.put is in
    let put = subst (λ (l : List Arrival). ArePut nodes c.args.settled.now.ids.items was l c.loop-arrival.settled.ids.items standings c.loop-arrival.end) left c.loop-arrival.invariant.put in
    record {
      front = last.0;
      fits = omega (arith, last.1);
      put = put_next c.beginning_laws.ensures nodes c.args.settled.now.ids.items was c.args.arrivals.now.items rest arrival (length rest, last.1, last.2) c.loop-arrival.settled.ids.items c.put_before-end.new.lane.ids.items standings c.loop-arrival.end c.put_before-end.result c.requires.graph c.requires.in_turn c.requires.told last.0 there put is
          (omega (arith, c.loop-arrival.auto.standings, has_mark nodes arrival.id (length was) there c.requires.marks)) c.put_before-end.ensures.place c.put_before-end.ensures.ids;
      room = omega (arith, c.loop-arrival.invariant.room, c.put_before-end.ensures.room);
    }

pub loop-arrival-preserved : goal.loop-arrival-preserved
loop-arrival-preserved c =
    let left = c.pop.ensures.items ∙ ap (λ (o : Option Arrival). c.pop.new.self.items ++ option_to_list o) c.in-Some.is in
    let last = popped c.args.arrivals.now.items c.loop-arrival.arrivals.items c.pop.new.self.items c.in-Some.arrival left c.loop-arrival.invariant.front c.loop-arrival.invariant.fits in
    let put = subst (λ (l : List Arrival). ArePut c.args.nodes.now.nodes c.args.settled.now.ids.items c.args.standings.now l c.loop-arrival.settled.ids.items c.loop-arrival.standings c.loop-arrival.end) left c.loop-arrival.invariant.put in
    record {
      front = last.0;
      fits = omega (arith, last.1);
      put = put_rest c.args.nodes.now.nodes c.args.settled.now.ids.items c.args.standings.now c.pop.new.self.items c.in-Some.arrival c.loop-arrival.settled.ids.items c.loop-arrival.standings c.loop-arrival.end put (λ is. true≢false (sym (ap is_recent is) ∙ sym c.marks_waiting.ensures ∙ c.if-marks_waiting.false));
      room = c.loop-arrival.invariant.room;
    }

-- ---- none is left

done : (c : goal.In_default) → ArePut c.args.nodes.now.nodes c.args.settled.now.ids.items c.args.standings.now [] c.loop-arrival.settled.ids.items c.loop-arrival.standings c.loop-arrival.end
done c =
    let none : c.loop-arrival.arrivals.items ≡ [] = nil_from_length c.loop-arrival.arrivals.items (omega (arith, c.loop-arrival.arrivals.ok.0, c.in_default.ensures.cases.0)) in
    subst (λ (left : List Arrival). ArePut c.args.nodes.now.nodes c.args.settled.now.ids.items c.args.standings.now left c.loop-arrival.settled.ids.items c.loop-arrival.standings c.loop-arrival.end) none c.loop-arrival.invariant.put

pub returns-clause-ids : goal.returns-clause-ids
returns-clause-ids c = (put_all c.args.nodes.now.nodes c.args.settled.now.ids.items c.args.standings.now c.args.arrivals.now.items c.loop-arrival.settled.ids.items c.loop-arrival.standings c.loop-arrival.end (done c) c.requires.marked).1

pub returns-clause-in_order : goal.returns-clause-in_order
returns-clause-in_order c = c.loop-arrival.invariant.put.in_order

pub returns-clause-marked : goal.returns-clause-marked
returns-clause-marked c = (put_all c.args.nodes.now.nodes c.args.settled.now.ids.items c.args.standings.now c.args.arrivals.now.items c.loop-arrival.settled.ids.items c.loop-arrival.standings c.loop-arrival.end (done c) c.requires.marked).0
