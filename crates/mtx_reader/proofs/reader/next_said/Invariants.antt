use Rattle.std.proofs.Common.{◌≡◌, ◌≤◌, length}
use Rattle.mtx_reader.specs.Readings.{end_of, forms_left}
use Rattle.mtx_reader.proofs.reader.next_said.Given as goal

abbrev pub invariant-loop-line : goal.invariant-loop-line
invariant-loop-line l = record {
  said : forms_left l.field l.lines ≡ forms_left l.field l.fn.lines;
  end : end_of l.lines ≡ end_of l.fn.lines;
  shorter : length l.lines.lines ≤ length l.fn.lines.lines;
}

abbrev pub decreases-loop-line : goal.decreases-loop-line
decreases-loop-line l = length l.lines.lines
