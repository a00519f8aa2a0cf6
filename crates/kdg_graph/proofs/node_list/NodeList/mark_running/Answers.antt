use Rattle.std.proofs.Common.{◌≡◌, ◌∙◌, List, ap, length, subst, sym, arith}
use Rattle.kdg_graph.proofs.Common.{Node, ids_of, started, AreFiled, unblocked_of, length-map, ids_in}
use Rattle.kdg_graph.proofs.Listed.{some_started, listed_kept}
use Rattle.kdg_graph.proofs.Ordered.{order_kept, places_kept}
use Rattle.kdg_graph.proofs.Settling.{filed_started, ids-started, unblocked_started}
use Rattle.kdg_graph.proofs.node_list.NodeList.mark_running.Goals as goal
use Rattle.kdg_graph.specs.NodeLaws.{start}

pub invariant_of-self : goal.invariant_of-self
invariant_of-self c =
    let nodes : List Node = c.self.inside.nodes.nodes in
    let is : c.mark_running.new.self.nodes ≡ started c.args.id nodes = c.mark_running.ensures.nodes in
    let long = ap length is ∙ length-map nodes (start c.args.id) in
    let spare = c.self.invariant.2 in (
      record {
        graph = c.mark_running.ensures.graph;
        filed = subst (λ (l : List Node). AreFiled l c.self.inside.locations.locations.items) (sym is) (filed_started c.args.id nodes c.self.inside.locations.locations.items c.self.invariant.0.filed);
        some = some_started c.args.id nodes c.mark_running.new.self.nodes c.self.inside.sources is c.self.invariant.0.some;
        unblocked_are = listed_kept (ids_in c.self.inside.sources) nodes c.mark_running.new.self.nodes (ap ids_of is ∙ ids-started c.args.id nodes) ∙ c.self.invariant.0.unblocked_are ∙ sym (ap unblocked_of is ∙ unblocked_started c.args.id nodes);
      },
      order_kept nodes c.mark_running.new.self.nodes c.self.inside.order (ap ids_of is ∙ ids-started c.args.id nodes) c.self.invariant.1,
      record {
        places = omega (arith, spare.places, places_kept c.self.inside.order c.self.inside.nodes.numbers c.mark_running.new.self.numbers c.mark_running.ensures.numbers);
        numbers = omega (arith, spare.numbers, c.mark_running.ensures.numbers);
        marks = λ some. omega (arith, spare.marks some, c.mark_running.ensures.keys);
        room = omega (arith, spare.room, long);
      },
    )
