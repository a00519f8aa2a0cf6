use Rattle.std.proofs.Common.{◌≡◌, take}
use Rattle.rw_sets.specs.Storage.{items_of}
use Rattle.rw_sets.proofs.few.Few.from_slice.Given as goal

abbrev pub invariant-loop-pair : goal.invariant-loop-pair
invariant-loop-pair l = record { so-far : items_of l.few ≡ take l.pair-index l.pairs; as_many : l.few.len ≡ l.pair-index }
