use Rattle.std.proofs.Common.{arith, ◌++◌, ◌+◌, take, length, length-append, ap, ◌∙◌}
use Rattle.std.proofs.KnownBytes.{Appends-trans}
use Rattle.outer_edge.proofs.Known.{front-longer, take-front}
use Rattle.outer_edge.proofs.whole_piece.write_whole.Goals as goal

pub loop-rest-preserved : goal.loop-rest-preserved
loop-rest-preserved g c =
    let i = c.loop-rest.invariant in
    let took = c.in-Took.ensures.bytes in
    let longer = simp length-append at (ap length i.whole) in record {
      front = i.front ++ take c.in-Took.taken c.loop-rest.rest.now;
      whole = front-longer _ i.front c.loop-rest.rest.now c.in-Took.taken i.whole took.1;
      taken = Appends-trans _ _ _ _ _ i.taken took.2;
      faults = c.in-Took.ensures.counts ∙ i.faults;
      room = c.in-Took.ensures.same_room ∙ i.room;
      untouched = λ none. absurd (omega (arith, ap length none));
    }

pub returns-in-Failed-clause-front : goal.returns-in-Failed-clause-front
returns-in-Failed-clause-front g c =
    let i = c.loop-rest.invariant in
    let took = c.in-Failed.ensures.bytes in
    let front = take-front _ i.front c.loop-rest.rest.now took.0 i.whole took.1 in
    (length i.front + took.0, front.0, rw front.1 (Appends-trans _ _ _ _ _ i.taken took.2))

pub returns-clause-empty : goal.returns-clause-empty
returns-clause-empty g c = c.loop-rest.invariant.untouched
