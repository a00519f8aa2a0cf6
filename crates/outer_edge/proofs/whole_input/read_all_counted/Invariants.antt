use Rattle.std.proofs.Common.{◌≡◌, ◌+◌, ◌-◌, ◌≤◌, length}
use Rattle.std.specs.Io.KnownBytes.{Consumes}
use Rattle.outer_edge.proofs.whole_input.read_all_counted.Given as goal

abbrev pub invariant-loop-count : goal.invariant-loop-count
invariant-loop-count g l = record {
  came : Consumes (g.S.Source.remaining l.initial.source) (g.S.Source.remaining l.source) l.text;
  within : length l.text ≤ l.limit;
  faults : g.S.Source.faults l.source ≡ g.S.Source.faults l.initial.source;
  some : length l.buffer ≡ 8192;
  counted : l.initial.steps ≤ l.steps;
  reads : l.steps ≤ l.initial.steps + length l.text;
}

abbrev pub decreases-loop-count : goal.decreases-loop-count
decreases-loop-count g l = l.limit + 1 - length l.text
