use Rattle.std.proofs.Common.{arith, ◌≡◌, ℕ, List, ◌++◌, take, drop, length, ◌≤◌, ◌-◌, ◌+◌, length-append}
use Rattle.std.proofs.lemmas.Grind.{common_steps}
use Rattle.std.proofs.Math.Seq.{take-append-add}

-- a longer front of a piece, and what is left of it
pub front-longer : (piece front rest : List ℕ) (n : ℕ) → piece ≡ front ++ rest → n ≤ length rest
    → piece ≡ (front ++ take n rest) ++ take (length rest - n) (drop n rest)
front-longer piece front rest n same within = grind (arith, common_steps)

-- a front that is given by its bytes, by its length
pub take-front : (piece front rest : List ℕ) (n : ℕ) → piece ≡ front ++ rest → n ≤ length rest
    → (length front + n ≤ length piece) × (take (length front + n) piece ≡ front ++ take n rest)
take-front piece front rest n same within =
    rw same (omega (arith, length-append front rest), take-append-add front rest n)
