use Rattle.std.proofs.Common.{◌≡◌, ◌++◌, drop, vec_len}
use Rattle.std.specs.Option.{option_map}
use Rattle.source_pool.specs.Performing.{gathered}
use Rattle.source_pool.proofs.hands.gather.Given as goal

-- what is left goes behind what is gathered
abbrev pub invariant-loop-place : goal.invariant-loop-place
invariant-loop-place g l = record {
  len : vec_len l.hands ≡ l.place-end;
  gathered : gathered l.fn.hands.items ≡ option_map (λ rest. l.dones.items ++ rest) (gathered (drop l.place l.hands.items));
}
