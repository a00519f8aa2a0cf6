use Rattle.std.proofs.Common.{drop}
use Rattle.mark_rounds.proofs.Noted.{AreNoted}
use Rattle.mark_rounds.proofs.writers.note_writer.Given as goal

abbrev pub invariant-loop-pair : goal.invariant-loop-pair
invariant-loop-pair l = AreNoted l.rank l.set l.fn.writers l.writers (drop l.pair-index l.set)
