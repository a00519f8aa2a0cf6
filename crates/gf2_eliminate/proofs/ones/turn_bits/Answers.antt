use Rattle.std.specs.Prelude.{bit_xor}
use Rattle.std.proofs.Common.{arith}
use Rattle.std.proofs.lemmas.List.{get_or_past}
use Rattle.gf2_eliminate.proofs.Words.{changed_none, changed_more, changed_all, bit_xor_none}
use Rattle.gf2_eliminate.proofs.ones.turn_bits.Goals as goal

pub loop-at-init : goal.loop-at-init
loop-at-init c = changed_none bit_xor bit_xor_none c.args.words.now c.args.others.now c.args.first c.requires.nothing

pub loop-at-preserved : goal.loop-at-preserved
loop-at-preserved c = changed_more bit_xor c.args.words.now c.args.others.now c.loop-at.words c.loop-at.at (omega arith) c.loop-at.invariant

pub returns : goal.returns
returns c = changed_all bit_xor bit_xor_none c.args.words.now c.args.others.now c.loop-at.words c.loop-at.at (λ k above. get_or_past c.args.others.now k 0 (omega (arith, above))) c.loop-at.invariant
