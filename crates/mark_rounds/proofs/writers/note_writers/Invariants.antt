use Rattle.std.proofs.Common.{◌≡◌, ◌≤◌, drop, length}
use Rattle.mark_rounds.specs.Writers.{HaveFirstWriters}
use Rattle.mark_rounds.proofs.writers.note_writers.Given as goal

abbrev pub invariant-loop-rank : goal.invariant-loop-rank
invariant-loop-rank l = record {
  count : length l.writers ≡ length l.fn.writers;
  within : l.rank ≤ length l.sets;
  noted : HaveFirstWriters l.writers l.rank (drop l.rank l.sets);
}

abbrev pub decreases-loop-rank : goal.decreases-loop-rank
decreases-loop-rank l = l.rank
