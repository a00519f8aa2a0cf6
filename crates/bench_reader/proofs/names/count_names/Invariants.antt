use Rattle.std.proofs.Common.{length}
use Rattle.bench_reader.proofs.Counting.{HasCounted}
use Rattle.bench_reader.proofs.names.count_names.Given as goal

abbrev pub invariant-loop-name : goal.invariant-loop-name
invariant-loop-name l = HasCounted l.fn.tokens l.tokens l.count l.has_long

abbrev pub decreases-loop-name : goal.decreases-loop-name
decreases-loop-name l = length l.tokens
