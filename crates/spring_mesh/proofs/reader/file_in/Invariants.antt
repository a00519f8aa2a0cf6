use Rattle.std.proofs.Common.{◌+◌, ◌≤◌, length}
use Rattle.kdg_text.specs.Lines.{lines_of}
use Rattle.spring_mesh.proofs.Reading.{HasRead}
use Rattle.spring_mesh.proofs.reader.file_in.Given as goal

abbrev pub invariant-loop-line : goal.invariant-loop-line
invariant-loop-line l = record {
  few : length l.draft.nodes ≤ 4096;
  read : HasRead l.input l.lines.lines l.lines.number (length (lines_of l.input) + 1) l.draft;
}

abbrev pub decreases-loop-line : goal.decreases-loop-line
decreases-loop-line l = length l.lines.lines
