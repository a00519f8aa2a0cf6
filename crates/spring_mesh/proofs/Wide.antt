-- Numbers that come back from their bits as they were.
use Rattle.std.proofs.Common.{arith, ◌≡◌, ◌≤◌, ◌^◌, ◌∙◌, ap, ℕ, ℤ, pos, ◌+ℤ◌, ◌-ℤ◌, ◌*ℤ◌, ◌≤ℤ◌, FitsSigned, to_z, of_z}
use Rattle.std.specs.Int.{w64}
use Rattle.std.proofs.lemmas.Int.{ints, to_z-of_z, fits_signed_from_abs, fits_signed_mul}
use Rattle.spring_mesh.specs.declared.file.MeshNode.{MeshNode}
use Rattle.spring_mesh.specs.declared.file.Spring.{Spring}
use Rattle.spring_mesh.specs.LineForms.{reach, latest, most_stiffness}
use Rattle.spring_mesh.specs.Files.{IsWithin, IsMass, IsSpring}
use Rattle.spring_mesh.specs.Motion.{clamped, moved, impulse, change_by}
use Rattle.spring_mesh.specs.Bounds.{stiffness-within}
use Rattle.spring_mesh.proofs.Saturated.{saturated, moved_saturated}

-- a number as it comes back from 64 bits
abbrev pub narrow : ℤ → ℤ
narrow z = to_z w64 (of_z w64 z)

pub fits_in_reach : (z : ℤ) → IsWithin reach z → FitsSigned w64 z
fits_in_reach z small = fits_signed_from_abs w64 z (omega (arith, small))

pub narrow_in_reach : (z : ℤ) → IsWithin reach z → narrow z ≡ z
narrow_in_reach z small = to_z-of_z w64 z (fits_in_reach z small)

pub narrow_mass : (z : ℤ) → IsMass z → narrow z ≡ z
narrow_mass z is = omega (arith, ints, is.some, is.most)

pub narrow_stiffness : (z : ℤ) → pos 0 ≤ℤ z → z ≤ℤ pos most_stiffness → narrow z ≡ z
narrow_stiffness z low high = omega (arith, ints, low, high)

-- where a thing is that moved, as it is found
pub moved_found : (place speed time travelled there found : ℤ) → IsWithin reach place
    → FitsSigned w64 speed → FitsSigned w64 time → FitsSigned w64 travelled → FitsSigned w64 there → FitsSigned w64 found
    → travelled ≡ saturated (narrow speed *ℤ narrow time) → there ≡ saturated (narrow place +ℤ narrow travelled) → found ≡ clamped (narrow there)
    → narrow found ≡ moved place speed time
moved_found place speed time travelled there found near speed-fits time-fits travelled-fits there-fits found-fits travelled-is there-is found-is =
    let travelled-so : narrow travelled ≡ saturated (speed *ℤ time) =
    to_z-of_z w64 travelled travelled-fits ∙ travelled-is ∙ ap (λ s. saturated (s *ℤ narrow time)) (to_z-of_z w64 speed speed-fits) ∙ ap (λ t. saturated (speed *ℤ t)) (to_z-of_z w64 time time-fits) in
    let there-so : narrow there ≡ saturated (place +ℤ saturated (speed *ℤ time)) =
    to_z-of_z w64 there there-fits ∙ there-is ∙ ap (λ p. saturated (p +ℤ narrow travelled)) (narrow_in_reach place near) ∙ ap (λ d. saturated (place +ℤ d)) travelled-so in
    to_z-of_z w64 found found-fits ∙ found-is ∙ ap clamped there-so ∙ moved_saturated place (speed *ℤ time) near

passed_found : (time since : ℕ) → time ≤ latest → since ≤ latest → narrow (to_z w64 time -ℤ to_z w64 since) ≡ pos time -ℤ pos since
passed_found time since late past = omega (arith, ints, late, past)

-- a place of a node, as it is found
pub place_found : (place speed : ℤ) (time since : ℕ) (found : ℤ) → IsWithin reach place → IsWithin reach speed → time ≤ latest → since ≤ latest → FitsSigned w64 found
    → found ≡ moved (narrow place) (narrow speed) (narrow (to_z w64 time -ℤ to_z w64 since)) → narrow found ≡ moved place speed (pos time -ℤ pos since)
place_found place speed time since found near fast late past found-fits is =
    to_z-of_z w64 found found-fits ∙ is
    ∙ ap (λ p. moved p (narrow speed) (narrow (to_z w64 time -ℤ to_z w64 since))) (narrow_in_reach place near)
    ∙ ap (λ s. moved place s (narrow (to_z w64 time -ℤ to_z w64 since))) (narrow_in_reach speed fast)
    ∙ ap (moved place speed) (passed_found time since late past)

-- how far two places are off their rest, as it is found
abbrev apart : ℤ → ℤ → ℤ → ℤ
apart rest from to = narrow (narrow to -ℤ narrow from) -ℤ narrow rest

apart_found : (rest from to : ℤ) → IsWithin reach rest → IsWithin reach from → IsWithin reach to → narrow (apart rest from to) ≡ to -ℤ from -ℤ rest
apart_found rest from to rest-in from-in to-in = omega (arith, ints, rest-in, from-in, to-in)

apart-within : (rest from to : ℤ) → IsWithin reach rest → IsWithin reach from → IsWithin reach to → IsWithin (2 ^ 42) (to -ℤ from -ℤ rest)
apart-within rest from to rest-in from-in to-in = omega (arith, ints, rest-in, from-in, to-in)

-- how hard a spring pulls, as it is found
pub pull-fits : (nodes : ℕ) (spring : Spring) (rest from to : ℤ) → IsSpring nodes spring → IsWithin reach rest → IsWithin reach from → IsWithin reach to
    → FitsSigned w64 (narrow spring.k *ℤ narrow (apart rest from to))
pull-fits nodes spring rest from to is rest-in from-in to-in =
    rw (narrow_stiffness spring.k is.not_negative is.stiffness, apart_found rest from to rest-in from-in to-in)
    (fits_signed_mul w64 spring.k (to -ℤ from -ℤ rest) most_stiffness (2 ^ 42) (stiffness-within spring.k is.not_negative is.stiffness) (apart-within rest from to rest-in from-in to-in) (omega arith))

period_found : (h : ℕ) → h ≤ latest → to_z w64 h ≡ pos h
period_found h short = omega (arith, ints, short)

-- what a spring gives, as it is found
pub impulse_found : (nodes : ℕ) (spring : Spring) (rest from to found : ℤ) → IsSpring nodes spring → IsWithin reach rest → IsWithin reach from → IsWithin reach to → FitsSigned w64 found
    → found ≡ saturated (narrow (narrow spring.k *ℤ narrow (apart rest from to)) *ℤ to_z w64 spring.h) → narrow found ≡ saturated (impulse spring rest from to)
impulse_found nodes spring rest from to found is rest-in from-in to-in found-fits found-is =
    let pull : narrow (narrow spring.k *ℤ narrow (apart rest from to)) ≡ spring.k *ℤ (to -ℤ from -ℤ rest) =
    to_z-of_z w64 (narrow spring.k *ℤ narrow (apart rest from to)) (pull-fits nodes spring rest from to is rest-in from-in to-in)
    ∙ ap (λ k. k *ℤ narrow (apart rest from to)) (narrow_stiffness spring.k is.not_negative is.stiffness)
    ∙ ap (λ off. spring.k *ℤ off) (apart_found rest from to rest-in from-in to-in) in
    to_z-of_z w64 found found-fits ∙ found-is
    ∙ ap (λ n. saturated (n *ℤ to_z w64 spring.h)) pull
    ∙ ap (λ h. saturated (spring.k *ℤ (to -ℤ from -ℤ rest) *ℤ h)) (period_found spring.h is.period)

-- the speed of an end after a step, as it is found, where what saturates comes to the same
pub speed_found : (op : ℤ → ℤ → ℤ) (spring : Spring) (rest from to mass speed given changed found : ℤ)
    → ((n : ℤ) → clamped (op speed (change_by (saturated n) mass)) ≡ clamped (op speed (change_by n mass)))
    → IsWithin reach rest → IsWithin reach from → IsWithin reach to → IsWithin reach speed
    → FitsSigned w64 given → FitsSigned w64 changed → FitsSigned w64 found
    → given ≡ saturated (impulse spring (narrow rest) (narrow from) (narrow to)) → changed ≡ change_by (narrow given) mass → found ≡ clamped (op (narrow speed) (narrow changed))
    → narrow found ≡ clamped (op speed (change_by (impulse spring rest from to) mass))
speed_found op spring rest from to mass speed given changed found alike rest-in from-in to-in speed-in given-fits changed-fits found-fits given-is changed-is found-is =
    let given-so : narrow given ≡ saturated (impulse spring rest from to) =
    to_z-of_z w64 given given-fits ∙ given-is
    ∙ ap (λ n. saturated (impulse spring n (narrow from) (narrow to))) (narrow_in_reach rest rest-in)
    ∙ ap (λ n. saturated (impulse spring rest n (narrow to))) (narrow_in_reach from from-in)
    ∙ ap (λ n. saturated (impulse spring rest from n)) (narrow_in_reach to to-in) in
    let changed-so : narrow changed ≡ change_by (saturated (impulse spring rest from to)) mass =
    to_z-of_z w64 changed changed-fits ∙ changed-is ∙ ap (λ n. change_by n mass) given-so in
    to_z-of_z w64 found found-fits ∙ found-is ∙ ap (λ n. clamped (op n (narrow changed))) (narrow_in_reach speed speed-in) ∙ ap (λ n. clamped (op speed n)) changed-so ∙ alike (impulse spring rest from to)

-- nodes are the same where their parts are
pub same_parts : (x y vx vy x' y' vx' vy' : ℤ) (time : ℕ) → x ≡ x' → y ≡ y' → vx ≡ vx' → vy ≡ vy'
    → ◌≡◌ {A = MeshNode} (record { x = x; y = y; vx = vx; vy = vy; time = time }) (record { x = x'; y = y'; vx = vx'; vy = vy'; time = time })
same_parts x y vx vy x' y' vx' vy' time e f g h = cc
