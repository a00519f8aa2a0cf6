use Rattle.std.proofs.Common.{◌≡◌, ◌∙◌, ℕ, List, Some, None, ap, arith, length, refl, slice_get, subst, sym, take}
use Rattle.kdg_graph.proofs.Common.{NodeId, Standing, settled_among, slice_get_within}
use Rattle.kdg_graph.proofs.Marks.{all_walked, front_stays, goes_out, none_gone, stays_in}
use Rattle.kdg_graph.proofs.source_lane.take_gone.Goals as goal

pub loop-left-init : goal.loop-left-init
loop-left-init c = record { same = refl; few = c.requires; front = refl; inside = omega arith; room = omega arith }

pub returns-in_default : goal.returns-in_default
returns-in_default c =
    let at : slice_get c.loop-left.settled.ids.items c.loop-left.place ≡ None = sym c.get.ensures.id ∙ c.in_default.is in
    record {
      left = sym (all_walked c.args.standings.now c.loop-left.settled.ids.items c.loop-left.place at c.loop-left.invariant.front) ∙ c.loop-left.invariant.same;
      room = c.loop-left.invariant.room;
    }

pub remove-requires : goal.remove-requires
remove-requires c = slice_get_within c.loop-left.settled.ids.items c.loop-left.place c.in-Some.id (sym c.get.ensures.id ∙ c.in-Some.is)

pub loop-left-preserved-then-marks_in_order : goal.loop-left-preserved-then-marks_in_order
loop-left-preserved-then-marks_in_order c =
    let at : slice_get c.loop-left.settled.ids.items c.loop-left.place ≡ Some c.in-Some.id = sym c.get.ensures.id ∙ c.in-Some.is in
    let was = c.loop-left.invariant in
    record {
      same = was.same;
      few = was.few;
      front = stays_in c.args.standings.now c.loop-left.settled.ids.items c.loop-left.place c.in-Some.id at was.front (sym c.marks_in_order.ensures ∙ c.if-marks_in_order.true);
      inside = omega (arith, slice_get_within c.loop-left.settled.ids.items c.loop-left.place c.in-Some.id at);
      room = was.room;
    }

pub loop-left-preserved : goal.loop-left-preserved
loop-left-preserved c =
    let standings : List Standing = c.args.standings.now in
    let ids : List NodeId = c.loop-left.settled.ids.items in
    let place : ℕ = c.loop-left.place in
    let at : slice_get ids place ≡ Some c.in-Some.id = sym c.get.ensures.id ∙ c.in-Some.is in
    let was = c.loop-left.invariant in
    let same = ap (settled_among standings) c.remove.ensures.ids ∙ goes_out standings ids place c.in-Some.id at (sym c.marks_in_order.ensures ∙ c.if-marks_in_order.false) in
    record {
      same = same ∙ was.same;
      few = omega (arith, was.few, c.remove.ensures.len, ap length same);
      front = subst (λ (l : List NodeId). settled_among standings (take place l) ≡ take place l) (sym c.remove.ensures.ids) (front_stays standings ids place was.front);
      inside = omega (arith, slice_get_within ids place c.in-Some.id at, c.remove.ensures.len);
      room = omega (arith, was.room, c.remove.ensures.room);
    }

pub loop-left-smaller-then-marks_in_order : goal.loop-left-smaller-then-marks_in_order
loop-left-smaller-then-marks_in_order c =
    omega (arith, slice_get_within c.loop-left.settled.ids.items c.loop-left.place c.in-Some.id (sym c.get.ensures.id ∙ c.in-Some.is))

pub loop-left-smaller : goal.loop-left-smaller
loop-left-smaller c =
    omega (arith, c.remove.ensures.len, slice_get_within c.loop-left.settled.ids.items c.loop-left.place c.in-Some.id (sym c.get.ensures.id ∙ c.in-Some.is))

pub overflow_add-place : goal.overflow_add-place
overflow_add-place c =
    omega (arith, c.get.ensures.small, slice_get_within c.loop-left.settled.ids.items c.loop-left.place c.in-Some.id (sym c.get.ensures.id ∙ c.in-Some.is))

pub returns : goal.returns
returns c =
    record {
      left = none_gone c.args.standings.now c.loop-left.settled.ids.items c.loop-left.left c.loop-left.invariant.few (omega arith) ∙ c.loop-left.invariant.same;
      room = c.loop-left.invariant.room;
    }
