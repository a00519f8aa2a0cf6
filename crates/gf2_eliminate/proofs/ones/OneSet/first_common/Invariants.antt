use Rattle.gf2_eliminate.proofs.FirstCommon.{IsPassed}
use Rattle.gf2_eliminate.proofs.ones.OneSet.first_common.Given as goal

abbrev pub invariant-loop-at : goal.invariant-loop-at
invariant-loop-at l = IsPassed l.self-inside.words.items l.other-inside.words.items l.from l.at l.bit
