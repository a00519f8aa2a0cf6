use Rattle.std.proofs.Common.{◌≡◌, ◌≤◌}
use Rattle.rw_sets.proofs.InPlace.{HasMoved}
use Rattle.rw_sets.proofs.few.Few.insert.Given as goal

abbrev pub invariant-loop-i : goal.invariant-loop-i
invariant-loop-i l = record {
  above : l.at ≤ l.i;
  same_len : l.self.len ≡ l.fn.self.len;
  moved : HasMoved l.fn.self.pairs l.self.pairs l.fn.self.len l.i;
}

abbrev pub decreases-loop-i : goal.decreases-loop-i
decreases-loop-i l = l.i
