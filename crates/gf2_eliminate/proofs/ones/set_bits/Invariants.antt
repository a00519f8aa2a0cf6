use Rattle.std.specs.Prelude.{bit_or}
use Rattle.gf2_eliminate.proofs.Words.{IsChanged}
use Rattle.gf2_eliminate.proofs.ones.set_bits.Given as goal

abbrev pub invariant-loop-at : goal.invariant-loop-at
invariant-loop-at l = IsChanged bit_or l.fn.words l.others l.words l.at
