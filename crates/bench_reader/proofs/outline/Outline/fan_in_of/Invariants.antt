use Rattle.std.proofs.Common.{◌≡◌, ◌++◌, length}
use Rattle.std.specs.Option.{option_map}
use Rattle.bench_reader.specs.Decks.{signal_names}
use Rattle.bench_reader.specs.LineForms.{names_among}
use Rattle.bench_reader.specs.Outlines.{numbers_of}
use Rattle.bench_reader.specs.Statements.{fan_in_of}
use Rattle.bench_reader.proofs.outline.Outline.fan_in_of.Given as goal

-- the numbers so far and those to come are all
abbrev pub invariant-loop-name : goal.invariant-loop-name
invariant-loop-name l =
    let all = signal_names l.self in
    option_map (λ more. l.numbers ++ more) (numbers_of all (names_among l.names)) ≡ numbers_of all (fan_in_of l.gate.line.now)

abbrev pub decreases-loop-name : goal.decreases-loop-name
decreases-loop-name l = length l.names
