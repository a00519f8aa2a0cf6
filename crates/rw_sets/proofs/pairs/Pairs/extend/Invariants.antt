use Rattle.std.proofs.Common.{◌≡◌, ◌++◌, take}
use Rattle.rw_sets.specs.Storage.{pairs_of}
use Rattle.rw_sets.proofs.pairs.Pairs.extend.Given as goal

abbrev pub invariant-loop-pair : goal.invariant-loop-pair
invariant-loop-pair l = pairs_of l.self ≡ pairs_of l.fn.self ++ take l.pair-index l.pairs
