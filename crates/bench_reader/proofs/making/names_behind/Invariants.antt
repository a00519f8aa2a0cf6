use Rattle.std.proofs.Common.{◌≡◌, drop}
use Rattle.kdg_text.specs.Tokens.{tokens_of}
use Rattle.bench_reader.specs.LineForms.{marks}
use Rattle.bench_reader.proofs.making.names_behind.Given as goal

abbrev pub invariant-loop-skipped : goal.invariant-loop-skipped
invariant-loop-skipped l = l.tokens ≡ drop l.skipped (tokens_of marks l.line)
