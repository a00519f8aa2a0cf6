use Rattle.std.proofs.Common.{arith}
use Rattle.tiered_list.proofs.InPlace.{take_from_first}
use Rattle.tiered_list.proofs.in_place.take_from.Goals as goal

pub returns-clause-items : goal.returns-clause-items
returns-clause-items g c =
    let moved = c.loop-at.invariant in
    take_from_first c.args.items.now c.loop-at.items c.args.len c.args.place c.requires.inside (omega arith) (omega arith) moved.before (λ k d from below. moved.moved k d from (omega arith))
