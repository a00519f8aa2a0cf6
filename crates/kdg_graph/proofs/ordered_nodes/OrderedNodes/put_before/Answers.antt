use Rattle.std.proofs.Common.{◌≡◌, ◌≤◌, ◌∙◌, ℕ, List, Option, Some, ap, arith, get_or, length, refl, subst, sym, IfSome, insert, Greater}
use Rattle.std.proofs.lemmas.List.Edits.{get_or-insert_at}
use Rattle.plain_laws.specs.Options.{if_some_at}
use Rattle.kdg_graph.proofs.Common.{slice_get_read, NodeId, AreLater, IsLane, IsRank, cmp_at, IsLaneAmong, Node, ids_of, node_at, put_node, NodeShelf}
use Rattle.kdg_graph.proofs.Lanes.{filed, lane_of_among}
use Rattle.kdg_graph.proofs.LookUps.{ids_find_nodes}
use Rattle.kdg_graph.proofs.Searches.{none_earlier, later_stored}
use Rattle.kdg_graph.proofs.ordered_nodes.OrderedNodes.put_before.Goals.{then-end-eq0, else-end-eq0}
use Rattle.kdg_graph.proofs.ordered_nodes.OrderedNodes.put_before.Goals as goal
use Rattle.kdg_graph.specs.NodeLaws.{found_node}

known : (c : goal.After-behind-self) → AreLater c.args.self.now.nodes c.behind-self.inside.task.key c.args.lane.now.ids.items c.args.end
known c =
    let node : Node = record { id = c.behind-self.inside.id; task = c.behind-self.inside.task; set = c.behind-self.inside.set; running = c.behind-self.inside.running } in
    let found : node_at c.args.self.now.nodes c.args.id ≡ Some node = c.entry.ensures ∙ ap (λ (n : Node). Some n) (sym c.behind-self.view_is) in
    if_some_at (λ (n : Node). AreLater c.args.self.now.nodes n.task.key c.args.lane.now.ids.items c.args.end) (node_at c.args.self.now.nodes c.args.id) node found c.requires.known

pub rank_until-place-requires-clause-inside : goal.rank_until-place-requires-clause-inside
rank_until-place-requires-clause-inside c = (known c).inside

pub rank_until-place-requires-clause-later : goal.rank_until-place-requires-clause-later
rank_until-place-requires-clause-later c =
    later_stored c.self.inside.slots c.behind-self.inside.task.key c.args.self.now.nodes c.args.lane.now.ids.items c.args.end c.self.invariant (ap (λ (shelf : NodeShelf). shelf.nodes) c.self.view_is) (known c)

pub returns-clause-ids : goal.returns-clause-ids
returns-clause-ids c some among =
    let nodes : List Node = c.args.self.now.nodes in
    let ids : List NodeId = c.args.lane.now.ids.items in
    let slots = c.self.inside.slots in
    let place : ℕ = c.if-end-eq0.place in
    let held = found_node nodes c.args.id c.requires.there in
    let node : Node = held.0 in
    let lane : IsLane slots some ids = lane_of_among slots ids some c.self.invariant (subst (λ (shelf : NodeShelf). IsLaneAmong shelf.nodes some ids) (sym c.self.view_is) among) in
    let rank : IsRank node.task.key some place = elim c.if-end-eq0.branch [
      | then-end-eq0 w ↦
          let all : AreLater nodes node.task.key ids c.args.end = if_some_at (λ (n : Node). AreLater nodes n.task.key ids c.args.end) (node_at nodes c.args.id) node held.1 c.requires.known in
          let later : cmp_at slots node.task.key ids c.args.end ≡ Greater = later_stored slots node.task.key nodes ids c.args.end c.self.invariant (ap (λ (shelf : NodeShelf). shelf.nodes) c.self.view_is) all in
          subst (λ p. IsRank node.task.key some p) (sym w.place-is) (none_earlier slots node.task.key some ids lane (subst (λ p. cmp_at slots node.task.key ids p ≡ Greater) w.if-end-eq0.true later))
      | else-end-eq0 w ↦
          let entry : Node = record { id = w.behind-self.inside.id; task = w.behind-self.inside.task; set = w.behind-self.inside.set; running = w.behind-self.inside.running } in
          let found : Some entry ≡ Some node = sym (w.entry.ensures ∙ ap (λ (n : Node). Some n) (sym w.behind-self.view_is)) ∙ held.1 in
          let same : entry ≡ node = cc in
          let searched : IsRank entry.task.key some w.rank_until-place.result = w.rank_until-place.ensures.rank some lane in
          subst (λ (n : Node). IsRank n.task.key some place) same (subst (λ p. IsRank entry.task.key some p) (sym w.place-is) searched)
    ] in
    let is : node.id ≡ c.args.id = (ids_find_nodes nodes c.args.id node held.1).1 in
    subst (λ (o : Option Node). IfSome o (λ (n : Node). c.insert.new.self.ids.items ≡ ids_of (put_node n some))) (sym held.1)
    (c.insert.ensures.ids ∙ ap (insert ids place) (sym is) ∙ filed ids some node place among.ids_are rank)

pub returns-clause-place : goal.returns-clause-place
returns-clause-place c =
    let place : ℕ = c.if-end-eq0.place in
    let inside : place ≤ length c.args.lane.now.ids.items = elim c.if-end-eq0.branch [
      | then-end-eq0 w ↦ omega (arith, w.place-is)
      | else-end-eq0 w ↦ omega (arith, w.place-is, w.rank_until-place.ensures.inside)
    ] in
    slice_get_read c.insert.new.self.ids.items (length c.insert.new.self.ids.items) place c.args.id refl (omega (arith, inside, c.insert.ensures.len)) (sym (ap (λ (l : List NodeId). get_or l place c.args.id) c.insert.ensures.ids ∙ get_or-insert_at c.args.lane.now.ids.items place c.args.id c.args.id inside))
