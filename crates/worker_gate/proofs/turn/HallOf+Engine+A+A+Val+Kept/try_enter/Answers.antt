use Rattle.std.proofs.Common.{Some, sym, ◌∙◌, arith}
use Rattle.worker_gate.proofs.Entering.{firsts, is_entered, is_refused, refused_is, seconds, taken_is, was_refused}
use Rattle.worker_gate.proofs.Seats.{same_hall, same_view}
use Rattle.worker_gate.proofs.turn.HallOf+Engine+A+A+Val+Kept.try_enter.Goals as goal

pub overflow_cast-result : goal.overflow_cast-result
overflow_cast-result g c =
    let was = was_refused c.seat.inside.chair.me c.take_turn-found.new.chair.me c.take_turn-found.result c.take_turn-found.ensures.tells c.if-found-gt0.true in
    let below = was.1 in
    omega (arith, below)

pub invariant_of-result : goal.invariant_of-result
invariant_of-result g c =
    let is = refused_is c.seat.inside.chair.me c.take_turn-found.new.chair.me c.take_turn-found.result c.take_turn-found.ensures.tells c.if-found-gt0.true in
    let seat = c.seat.invariant in (
      is.4 ∙ seat.0,
      is.0 ∙ seat.1,
      (λ nothing. seat.2 (sym is.1 ∙ nothing)),
      is.2 ∙ seat.3,
      is.3 ∙ seat.4,
    )

pub returns-then-found-gt0 : goal.returns-then-found-gt0
returns-then-found-gt0 g c =
    is_refused c.seat.inside.chair.me c.take_turn-found.new.chair.me c.take_turn-found.result c.take_turn-found.ensures.tells c.if-found-gt0.true c.args.seat c.take_turn-found.new.chair.table_id
    (c.take_turn-found.ensures.here ∙ same_hall c.seat.view_is) (same_view c.seat.view_is)

pub put-slot-requires-clause-has : goal.put-slot-requires-clause-has
put-slot-requires-clause-has g c κs within =
    let taken = taken_is c.seat.inside.chair.me c.take_turn-found.new.chair.me c.take_turn-found.result c.take_turn-found.ensures.tells c.if-found-gt0.false c.seat.invariant.0 in
    (Some taken.0, seconds taken.1)

pub returns : goal.returns
returns g c =
    is_entered c.seat.inside.chair.me c.take_turn-found.new.chair.me c.take_turn-found.result c.take_turn-found.ensures.tells c.if-found-gt0.false c.seat.invariant.0
    c.args.seat c.put-slot.new.chair.table_id c.held.result c.put-slot.result c.put-slot.new.chair.me.0
    (c.put-slot.ensures.here ∙ c.take_turn-found.ensures.here ∙ same_hall c.seat.view_is) (same_view c.seat.view_is) c.put-slot.ensures.had c.held.ensures
    (firsts c.put-slot.ensures.has)
