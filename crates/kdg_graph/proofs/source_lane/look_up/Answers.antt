use Rattle.std.proofs.Common.{◌∙◌, ◌<◌, List, arith, length, refl}
use Rattle.std.proofs.lemmas.List.Elements.{All-from_all_within, AllWithin-more_set, AllWithin-none, AllWithin-upto, recursion_from_All}
use Rattle.kdg_graph.proofs.Common.{Arrival, TellsItsKey}
use Rattle.kdg_graph.proofs.Marks.{arrived_set}
use Rattle.kdg_graph.proofs.source_lane.look_up.Goals as goal

abbrev blank : Arrival
blank = record { prio = 0; beginning = 0; id = record { at = 0 } }

pub loop-arrival-init : goal.loop-arrival-init
loop-arrival-init c = record { same = refl; told = AllWithin-none (TellsItsKey c.args.nodes.now.nodes) c.args.arrivals.now 0 }

pub loop-arrival-preserved : goal.loop-arrival-preserved
loop-arrival-preserved c =
    let inside : c.loop-arrival.arrival-index < length c.loop-arrival.arrivals = omega (arith, c.loop-arrival-test.true, c.loop-arrival.auto.arrivals) in
    record {
      same = arrived_set c.loop-arrival.arrivals c.loop-arrival.arrival-index c.arrival.result blank inside c.arrival.ensures.id ∙ c.loop-arrival.invariant.same;
      told = AllWithin-more_set c.loop-arrival.arrivals c.loop-arrival.arrival-index c.arrival.result inside (TellsItsKey c.args.nodes.now.nodes) c.loop-arrival.invariant.told c.arrival.ensures.told;
    }

pub returns-clause-told : goal.returns-clause-told
returns-clause-told c =
    let P : Arrival → Type 0 = TellsItsKey c.args.nodes.now.nodes in
    let items : List Arrival = c.loop-arrival.arrivals in
    recursion_from_All P items (All-from_all_within P items (AllWithin-upto P items 0 c.loop-arrival.arrival-index (length items) (omega (arith, c.loop-arrival-test.false, c.loop-arrival.auto.arrivals)) c.loop-arrival.invariant.told))
