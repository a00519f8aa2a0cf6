-- Numbers that saturate at 64 bits come to the same places and speeds.
use Rattle.std.proofs.Common.{arith, ◌≡◌, ◌≤◌, ◌<◌, ◌*◌, ◌^◌, ◌-◌, ◌/◌, ◌⊎◌, inl, inr, ◌∙◌, ap, ℕ, ℤ, pos, ◌+ℤ◌, ◌-ℤ◌, ◌≤ℤ◌}
use Rattle.std.specs.Prelude.{min, negsuc, neg_ℤ}
use Rattle.std.specs.Int.{w64, int_max, int_min, saturate_signed}
use Rattle.std.proofs.Math.Nat.{min-eq_left, min-eq_right}
use Rattle.std.proofs.lemmas.Bool.{cases_lt}
use Rattle.std.proofs.lemmas.Int.{ints, clamps}
use Rattle.std.proofs.lemmas.Nat.{le-div}
use Rattle.spring_mesh.specs.LineForms.{reach, most_mass}
use Rattle.spring_mesh.specs.Files.{IsWithin, IsMass}
use Rattle.spring_mesh.specs.Motion.{clamped, change_by}

-- a number that saturates at 64 bits
abbrev pub saturated : ℤ → ℤ
saturated z = saturate_signed w64 z

-- saturating is a clamp
saturated_is : (z : ℤ) → saturated z ≡ int_max (neg_ℤ (pos (2 ^ 63))) (int_min z (pos (2 ^ 63 - 1)))
saturated_is (pos n) = omega (arith, ints, clamps)
saturated_is (negsuc n) = omega (arith, ints, clamps)

pub clamped_saturated : (z : ℤ) → clamped (saturated z) ≡ clamped z
clamped_saturated z = omega (arith, ints, clamps, saturated_is z)

pub moved_saturated : (place travelled : ℤ) → IsWithin reach place → clamped (saturated (place +ℤ saturated travelled)) ≡ clamped (place +ℤ travelled)
moved_saturated place travelled near =
    clamped_saturated (place +ℤ saturated travelled) ∙ omega (arith, ints, clamps, saturated_is travelled, near)

-- the numbers are the same, or both are so far beyond reach, on the same side, that no speed counts beside them
abbrev AreSameOrFar : ℤ → ℤ → Type 0
AreSameOrFar m n = (m ≡ n) ⊎ (((pos (2 * reach) ≤ℤ m) × (pos (2 * reach) ≤ℤ n)) ⊎ ((m ≤ℤ neg_ℤ (pos (2 * reach))) × (n ≤ℤ neg_ℤ (pos (2 * reach)))))

far_quotient : (n m : ℕ) → 0 < m → m ≤ most_mass → 2 ^ 63 - 1 ≤ n → 2 * reach ≤ n / m
far_quotient n m some most far = le-div (2 * reach) n m some (omega (arith, most, far))

changes_alike : (given mass : ℤ) → IsMass mass → AreSameOrFar (change_by (saturated given) mass) (change_by given mass)
changes_alike (pos n) (pos m) is = elim (cases_lt n (2 ^ 63 - 1)) [
  | inl near ↦ inl (ap (λ (k : ℕ). pos (k / m)) (min-eq_left (omega (arith, near))))
  | inr far ↦
      let some : 0 < m = omega (arith, ints, is.some) in
      let most : m ≤ most_mass = omega (arith, ints, is.most) in
      let here = far_quotient n m some most far in
      let there : 2 * reach ≤ min n (2 ^ 63 - 1) / m = rw (min-eq_right far) (far_quotient (2 ^ 63 - 1) m some most (omega arith)) in
      inr (inl (omega (arith, ints, there), omega (arith, ints, here)))
]
changes_alike (negsuc n) (pos m) is = elim (cases_lt n (2 ^ 63 - 1)) [
  | inl near ↦ inl (ap (λ (k : ℕ). negsuc (k / m)) (min-eq_left (omega (arith, near))))
  | inr far ↦
      let some : 0 < m = omega (arith, ints, is.some) in
      let most : m ≤ most_mass = omega (arith, ints, is.most) in
      let here = far_quotient n m some most far in
      let there : 2 * reach ≤ min n (2 ^ 63 - 1) / m = rw (min-eq_right far) (far_quotient (2 ^ 63 - 1) m some most (omega arith)) in
      inr (inr (omega (arith, ints, there), omega (arith, ints, here)))
]
changes_alike given (negsuc m) is = absurd (omega (arith, ints, is.some))

pub faster_saturated : (speed given mass : ℤ) → IsWithin reach speed → IsMass mass → clamped (speed +ℤ change_by (saturated given) mass) ≡ clamped (speed +ℤ change_by given mass)
faster_saturated speed given mass near is = elim (changes_alike given mass is) [
  | inl same ↦ ap (λ n. clamped (speed +ℤ n)) same
  | inr (inl above) ↦ omega (arith, ints, clamps, near, above.0, above.1)
  | inr (inr below) ↦ omega (arith, ints, clamps, near, below.0, below.1)
]

pub slower_saturated : (speed given mass : ℤ) → IsWithin reach speed → IsMass mass → clamped (speed -ℤ change_by (saturated given) mass) ≡ clamped (speed -ℤ change_by given mass)
slower_saturated speed given mass near is = elim (changes_alike given mass is) [
  | inl same ↦ ap (λ n. clamped (speed -ℤ n)) same
  | inr (inl above) ↦ omega (arith, ints, clamps, near, above.0, above.1)
  | inr (inr below) ↦ omega (arith, ints, clamps, near, below.0, below.1)
]
