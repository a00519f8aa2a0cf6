use Rattle.std.specs.Prelude.{◌≡◌, ◌++◌, drop}
use Rattle.gf2_eliminate.specs.Start.{spaced}
use Rattle.gf2_eliminate.proofs.finals.push_spaced.Given as goal

abbrev pub invariant-loop-number : goal.invariant-loop-number
invariant-loop-number l = l.text ++ spaced (drop l.number-index l.numbers) ≡ l.fn.text ++ spaced l.numbers
