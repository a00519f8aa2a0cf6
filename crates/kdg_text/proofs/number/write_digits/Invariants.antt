use Rattle.std.proofs.Common.{◌≡◌, ◌++◌, ◌<◌, ◌≤◌, length, drop}
use Rattle.std.specs.Fmt.{decimal}
use Rattle.kdg_text.proofs.number.write_digits.Given as goal

abbrev pub invariant-loop-rest : goal.invariant-loop-rest
invariant-loop-rest l = record {
  written : decimal l.number ≡ decimal l.rest ++ drop l.start l.buffer;
  room : length (decimal l.rest) < l.start;
  within : l.start ≤ 21;
  whole : length l.buffer ≡ 21;
}

abbrev pub decreases-loop-rest : goal.decreases-loop-rest
decreases-loop-rest l = l.rest
