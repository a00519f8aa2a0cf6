use Rattle.gf2_eliminate.proofs.FirstBeyond.{IsWithin}
use Rattle.gf2_eliminate.proofs.ones.OneSet.first_beyond.Given as goal

abbrev pub invariant-loop-at : goal.invariant-loop-at
invariant-loop-at l = IsWithin l.self-inside.words.items l.other-inside.words.items l.from l.at l.bit
