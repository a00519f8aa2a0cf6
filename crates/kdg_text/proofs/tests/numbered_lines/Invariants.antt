use Rattle.std.proofs.Common.{length}
use Rattle.kdg_text.proofs.tests.numbered_lines.Given as goal

abbrev pub decreases-loop-line : goal.decreases-loop-line
decreases-loop-line l = length l.lines.lines
