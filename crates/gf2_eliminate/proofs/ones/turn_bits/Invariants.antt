use Rattle.std.specs.Prelude.{bit_xor}
use Rattle.gf2_eliminate.proofs.Words.{IsChanged}
use Rattle.gf2_eliminate.proofs.ones.turn_bits.Given as goal

abbrev pub invariant-loop-at : goal.invariant-loop-at
invariant-loop-at l = IsChanged bit_xor l.fn.words l.others l.words l.at
