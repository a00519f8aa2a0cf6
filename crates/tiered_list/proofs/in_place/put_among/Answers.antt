use Rattle.std.proofs.Common.{◌≡◌, arith}
use Rattle.tiered_list.proofs.InPlace.{put_among_first}
use Rattle.tiered_list.proofs.in_place.put_among.Goals as goal

pub returns-clause-items : goal.returns-clause-items
returns-clause-items g c =
    let moved = c.loop-next.invariant in
    let here : c.loop-next.next ≡ c.args.place = omega arith in
    put_among_first c.args.items.now c.loop-next.items c.args.len c.args.place c.args.item c.requires.inside (omega arith) (omega arith) (λ k d below. moved.same k d (omega arith)) (λ k d from below. moved.moved k d (omega arith) below)
