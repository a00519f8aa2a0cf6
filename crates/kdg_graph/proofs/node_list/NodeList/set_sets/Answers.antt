use Rattle.std.proofs.Common.{◌≡◌, ◌+◌, ◌≤◌, ◌∷◌, [], ◌∙◌, ℕ, List, ap, subst, sym, length, arith}
use Rattle.plain_laws.specs.Lists.{empty_from_length}
use Rattle.kdg_graph.proofs.Common.{AllByRecursion, into_iter_items, SetChange, Node, HasNode, AreOfOwnNodes, with_sets, HasRoomFor, changed_sets, times_named, room_at}
use Rattle.kdg_graph.proofs.Rewrites.{all_have_with_sets, with_sets-cons}
use Rattle.kdg_graph.proofs.Rooms.{first_room, room_left, taken_left}
use Rattle.kdg_graph.proofs.node_list.NodeList.set_sets.Goals as goal
use Rattle.kdg_graph.specs.NodeLaws.{with_no_sets}

pub loop-change-preserved : goal.loop-change-preserved
loop-change-preserved c =
    let at = c.loop-change in
    let change : SetChange = c.in-Some.change in
    let rest : List SetChange = into_iter_items c.next.new.self in
    let steps : into_iter_items at.change-iterator ≡ change ∷ rest = c.in-Some.ensures.steps.0 in
    let there : AllByRecursion (λ (other : SetChange). HasNode at.self.nodes other.node) (change ∷ rest) = subst (AllByRecursion (λ (other : SetChange). HasNode at.self.nodes other.node)) steps at.invariant.there in
    let own : AreOfOwnNodes (change ∷ rest) = subst AreOfOwnNodes steps at.invariant.own in
    let room : HasRoomFor (change.set ∷ changed_sets rest) at.self.rooms = subst (λ (l : List SetChange). HasRoomFor (changed_sets l) at.self.rooms) steps at.invariant.rooms in
    let all : List SetChange = into_iter_items c.into_iter-change-iterator.result in
    let first : List ℕ = c.args.self.now.rooms in
    let taken = subst (λ (l : List SetChange). (loc : ℕ) → room_at first loc + times_named (changed_sets l) loc ≤ room_at at.self.rooms loc + times_named (changed_sets all) loc) steps at.invariant.taken in
    let was = at.invariant.len in
    let short = ap length steps in
    record {
      len = omega arith;
      there = subst (λ (l : List Node). AllByRecursion (λ (other : SetChange). HasNode l other.node) rest) (sym c.set_set.ensures.nodes) (all_have_with_sets (change ∷ []) rest at.self.nodes there.1);
      own = own.1;
      nodes = at.invariant.nodes ∙ ap (λ l. with_sets l at.self.nodes) steps ∙ with_sets-cons change rest at.self.nodes own.0 ∙ ap (with_sets rest) (sym c.set_set.ensures.nodes);
      graph = c.set_set.ensures.graph;
      room = omega arith;
      rooms = room_left change.set (changed_sets rest) at.self.rooms c.set_set.new.self.rooms room c.set_set.ensures.rooms;
      taken = taken_left (changed_sets all) change.set (changed_sets rest) first at.self.rooms c.set_set.new.self.rooms taken c.set_set.ensures.rooms;
    }

pub returns-clause-nodes : goal.returns-clause-nodes
returns-clause-nodes c =
    let at = c.loop-change in
    let empty : into_iter_items at.change-iterator ≡ [] = empty_from_length _ (sym at.invariant.len ∙ c.in-None.ensures.steps.0) in
    sym (ap (λ l. with_sets l c.args.self.now.nodes) (sym c.into_iter-change-iterator.ensures.into_iter_gives.0) ∙ at.invariant.nodes ∙ ap (λ l. with_sets l at.self.nodes) empty ∙ with_no_sets at.self.nodes)

pub set_set-requires-clause-rooms : goal.set_set-requires-clause-rooms
set_set-requires-clause-rooms c =
    let at = c.loop-change in
    let rest : List SetChange = into_iter_items c.next.new.self in
    let room : HasRoomFor (c.in-Some.change.set ∷ changed_sets rest) at.self.rooms = subst (λ (l : List SetChange). HasRoomFor (changed_sets l) at.self.rooms) c.in-Some.ensures.steps.0 at.invariant.rooms in
    first_room c.in-Some.change.set (changed_sets rest) at.self.rooms room

pub returns-clause-rooms : goal.returns-clause-rooms
returns-clause-rooms c loc =
    let all = ap (λ l. times_named (changed_sets l) loc) c.into_iter-change-iterator.ensures.into_iter_gives.0 in
    omega (arith, c.loop-change.invariant.taken loc, all)
