use Rattle.std.proofs.Common.{◌≡◌, length, map, take, drop}
use Rattle.kdg_text.specs.Faults.{first_fault, first_fault_after}
use Rattle.bench_reader.specs.Decks.{signal_names, deck_among, late_fault}
use Rattle.bench_reader.specs.Outlines.{IsMarked}
use Rattle.bench_reader.specs.Statements.{numbered_form}
use Rattle.bench_reader.proofs.outline.Outline.deck.Given as goal

abbrev pub invariant-loop-line : goal.invariant-loop-line
invariant-loop-line l =
    let lines = l.self in
    let before = map numbered_form (take l.line-index l.line-items) in
    record {
      whole : map numbered_form l.line-items ≡ lines;
      made : l.making.deck ≡ deck_among lines before;
      marked : IsMarked (length (signal_names lines)) l.making;
      faultless : first_fault_after (λ _. late_fault lines) before (map numbered_form (drop l.line-index l.line-items)) ≡ first_fault (λ _. late_fault lines) lines;
    }
