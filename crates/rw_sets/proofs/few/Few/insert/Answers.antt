use Rattle.std.proofs.Common.{arith, refl}
use Rattle.rw_sets.proofs.InPlace.{moved_none, moved_up, moved_all}
use Rattle.rw_sets.proofs.few.Few.insert.Goals as goal

pub loop-i-init : goal.loop-i-init
loop-i-init c = rw c.from-i.ensures (record { above = c.requires.in_range; same_len = refl; moved = moved_none _ _ (omega (arith, c.args.self.now.room)) })

pub loop-i-preserved : goal.loop-i-preserved
loop-i-preserved c = record {
  above = omega arith;
  same_len = c.loop-i.invariant.same_len;
  moved = moved_up _ _ _ c.loop-i.i _ (omega (arith, c.args.self.now.room)) (omega arith) c.loop-i.invariant.moved;
}

pub returns : goal.returns
returns c = moved_all _ _ _ _ _ _ _ (omega arith) c.loop-i.invariant.same_len c.loop-i.invariant.moved
