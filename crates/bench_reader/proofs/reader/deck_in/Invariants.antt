use Rattle.std.proofs.Common.{◌≡◌, ◌++◌, length}
use Rattle.kdg_text.specs.Faults.{forms_from, first_fault, first_fault_after}
use Rattle.bench_reader.specs.LineForms.{form_of}
use Rattle.bench_reader.specs.Decks.{early_fault}
use Rattle.bench_reader.specs.Grammar.{said_lines}
use Rattle.bench_reader.proofs.reader.deck_in.Given as goal

abbrev pub invariant-loop-line : goal.invariant-loop-line
invariant-loop-line l =
    let left = forms_from form_of l.lines.number l.lines.lines in
    record {
      whole : l.outline ++ left ≡ said_lines l.input;
      faultless : first_fault_after early_fault l.outline left ≡ first_fault early_fault (said_lines l.input);
    }

abbrev pub decreases-loop-line : goal.decreases-loop-line
decreases-loop-line l = length l.lines.lines
