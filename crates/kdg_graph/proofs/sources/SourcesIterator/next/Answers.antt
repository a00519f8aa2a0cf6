use Rattle.std.proofs.Common.{◌≡◌, ◌∙◌, ◌∷◌, ◌+◌, ◌<◌, ◌^◌, true, false, List, Some, ap, arith, length, refl, sym, slice_get}
use Rattle.std.specs.Int.{from_bool}
use Rattle.kdg_graph.proofs.Common.{NodeId, is_id_at, Node, node_at, ids_in, is_left, left_in, not_running}
use Rattle.kdg_graph.proofs.Left.{least_there, left_first, left_next, place_fits, same_at, seen_next, settled_first}
use Rattle.kdg_graph.proofs.sources.SourcesIterator.next.Goals as goal

pub earliest-requires-clause-settled : goal.earliest-requires-clause-settled
earliest-requires-clause-settled c =
    c.get-settled.ensures.id ∙ ap (λ (l : List NodeId). slice_get l c.settled_from-place.result) c.settled.ensures ∙ settled_first c.loop-id.self-inside.nodes.now.nodes c.loop-id.self-inside.unblocked.now c.settled_from-place.result c.loop-id.self-inside.last (c.settled_from-place.ensures.left ∙ c.loop-id.invariant.are_left.place_is) c.settled_from-place.ensures.next

pub overflow_add-self : goal.overflow_add-self
overflow_add-self c =
    let s = c.loop-id.self-inside in
    let test : c.eq.result ≡ is_id_at c.in_ok-id.id s.unblocked.now.entries c.settled_from-place.result = c.eq.ensures ∙ same_at _ (λ a b. refl) c.settled.result.now.ids.items s.unblocked.now.entries c.settled_from-place.result c.get-settled.result c.in_ok-id.id c.get-settled.ensures.id c.settled.ensures in
    let before : c.settled_from-place.result < 2 ^ 64 = omega arith in
    let few : length s.unblocked.now.entries < 2 ^ 63 = omega (arith, c.get-settled.ensures.small, ap length c.settled.ensures) in
    omega (arith, place_fits s.unblocked.now.entries c.settled_from-place.result c.in_ok-id.id few before, c.from.ensures ∙ ap from_bool test)

pub entry-node-requires : goal.entry-node-requires
entry-node-requires c =
    let s = c.loop-id.self-inside in
    least_there s.nodes.now.nodes (is_left s.nodes.now.nodes (ids_in s.unblocked.now) s.last) (Some c.in_ok-id.id) c.loop-id.invariant.are_left.graph (sym c.in_ok-id.was ∙ c.earliest.ensures)

pub invariant_of-self-then-not-node : goal.invariant_of-self-then-not-node
invariant_of-self-then-not-node c =
    let s = c.loop-id.self-inside in
    let test : c.eq.result ≡ is_id_at c.in_ok-id.id s.unblocked.now.entries c.settled_from-place.result = c.eq.ensures ∙ same_at _ (λ a b. refl) c.settled.result.now.ids.items s.unblocked.now.entries c.settled_from-place.result c.get-settled.result c.in_ok-id.id c.get-settled.ensures.id c.settled.ensures in
    left_next s.nodes.now.nodes s.unblocked.now s.place c.settled_from-place.result (c.settled_from-place.result + c.from.result) s.last c.in_ok-id.id c.loop-id.invariant.are_left c.settled_from-place.ensures.left c.settled_from-place.ensures.next (sym c.in_ok-id.was ∙ c.earliest.ensures) (ap (λ n. c.settled_from-place.result + n) (c.from.ensures ∙ ap from_bool test))

pub returns-then-not-node-clause-steps : goal.returns-then-not-node-clause-steps
returns-then-not-node-clause-steps c =
    let node : Node = record { id = c.node.inside.id; task = c.node.inside.task; set = c.node.inside.set; running = c.node.inside.running } in
    let found : node_at c.loop-id.self-inside.nodes.now.nodes c.in_ok-id.id ≡ Some node = c.entry-node.ensures ∙ ap (λ (n : Node). Some n) (sym c.node.view_is) in
    c.loop-id.invariant.left ∙ seen_next c.loop-id.self-inside.nodes.now.nodes (ids_in c.loop-id.self-inside.unblocked.now) c.loop-id.self-inside.last c.in_ok-id.id node false c.loop-id.invariant.are_left.graph (sym c.in_ok-id.was ∙ c.earliest.ensures) found c.if-not-node.true

pub returns-then-not-node-clause-goes : goal.returns-then-not-node-clause-goes
returns-then-not-node-clause-goes c =
    let s = c.loop-id.self-inside in
    let nodes : List Node = s.nodes.now.nodes in
    let node : Node = record { id = c.node.inside.id; task = c.node.inside.task; set = c.node.inside.set; running = c.node.inside.running } in
    let found : node_at nodes c.in_ok-id.id ≡ Some node = c.entry-node.ensures ∙ ap (λ (n : Node). Some n) (sym c.node.view_is) in
    let all : c.args.self.now ≡ c.in_ok-id.id ∷ not_running nodes (left_in nodes (ids_in s.unblocked.now) (Some c.in_ok-id.id)) =
    c.loop-id.invariant.left ∙ seen_next nodes (ids_in s.unblocked.now) s.last c.in_ok-id.id node false c.loop-id.invariant.are_left.graph (sym c.in_ok-id.was ∙ c.earliest.ensures) found c.if-not-node.true in
    record { on = λ _. (tt, tt, omega (arith, ap length all)); keeps = tt; rests = λ _. tt }

pub loop-id-smaller : goal.loop-id-smaller
loop-id-smaller c =
    omega (arith, ap length (left_first c.loop-id.self-inside.nodes.now.nodes (ids_in c.loop-id.self-inside.unblocked.now) c.loop-id.self-inside.last c.in_ok-id.id c.loop-id.invariant.are_left.graph (sym c.in_ok-id.was ∙ c.earliest.ensures)))

pub loop-id-preserved : goal.loop-id-preserved
loop-id-preserved c =
    let s = c.loop-id.self-inside in
    let id : NodeId = c.in_ok-id.id in
    let nodes : List Node = s.nodes.now.nodes in
    let node : Node = record { id = c.node.inside.id; task = c.node.inside.task; set = c.node.inside.set; running = c.node.inside.running } in
    let found : node_at nodes id ≡ Some node = c.entry-node.ensures ∙ ap (λ (n : Node). Some n) (sym c.node.view_is) in
    let test : c.eq.result ≡ is_id_at id s.unblocked.now.entries c.settled_from-place.result = c.eq.ensures ∙ same_at _ (λ a b. refl) c.settled.result.now.ids.items s.unblocked.now.entries c.settled_from-place.result c.get-settled.result id c.get-settled.ensures.id c.settled.ensures in
    record {
      left = c.loop-id.invariant.left ∙ seen_next nodes (ids_in s.unblocked.now) s.last id node true c.loop-id.invariant.are_left.graph (sym c.in_ok-id.was ∙ c.earliest.ensures) found c.if-not-node.false;
      are_left = left_next nodes s.unblocked.now s.place c.settled_from-place.result (c.settled_from-place.result + c.from.result) s.last id c.loop-id.invariant.are_left c.settled_from-place.ensures.left c.settled_from-place.ensures.next (sym c.in_ok-id.was ∙ c.earliest.ensures) (ap (λ n. c.settled_from-place.result + n) (c.from.ensures ∙ ap from_bool test));
    }
