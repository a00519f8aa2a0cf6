use Rattle.std.proofs.Common.{◌≡◌, ℕ, ◌+◌, ◌/◌, ◌%◌, ◌^◌, ◌<◌, ◌≤◌, List, [], ◌∷◌, ◌++◌, length, take, drop, set, refl, ap, ◌∙◌, add-one, append_assoc, arith, drop-cons, length-append, length-take}
use Rattle.std.proofs.lemmas.List.{set_at, set_split, drop-drop}
use Rattle.std.proofs.lemmas.Fmt.{decimal_digit, decimal_step, length-decimal-le}
use Rattle.std.proofs.Math.Seq.{take-append_seam, drop-append-add}
use Rattle.std.specs.Fmt.{decimal}

pub length-decimal_step : (n : ℕ) → 10 ≤ n → n < 2 ^ 64 → length (decimal n) ≡ length (decimal (n / 10)) + 1
length-decimal_step n ten fits = ap length (decimal_step n ten fits) ∙ length-append (decimal (n / 10)) ((48 + n % 10) ∷ [])

pub length-decimal_digit : (n : ℕ) → n < 10 → length (decimal n) ≡ 1
length-decimal_digit n small = ap length (decimal_digit n small)

pub set-append_drop : (front line : List ℕ) (last d : ℕ) → length front ≡ last → last < length line → set (front ++ drop last line) last d ≡ front ++ d ∷ drop (last + 1) line
set-append_drop front line last d e within =
    rw (add-one, drop-cons line last 0 within) (set_at front _ _ d last e)

-- one digit in place of one byte
pub set_digit : (line : List ℕ) (at n : ℕ) → n < 10 → at < length line → set line at (48 + n % 10) ≡ take at line ++ decimal n ++ drop (at + 1) line
set_digit line at n small within =
    let same : n % 10 ≡ n = omega arith in
    rw (same, decimal_digit n small, add-one, append_assoc) (set_split line at (48 + n) within)

-- the last digit behind the others
pub set_last_digit : (line : List ℕ) (at last n : ℕ) → 10 ≤ n → n < 2 ^ 64 → last ≡ at + length (decimal (n / 10)) → last < length line → set (take at line ++ decimal (n / 10) ++ drop last line) last (48 + n % 10) ≡ take at line ++ decimal n ++ drop (last + 1) line
set_last_digit line at last n ten fits end within =
    let e : length (take at line ++ decimal (n / 10)) ≡ last = omega (arith, length-append (take at line) (decimal (n / 10)), length-take at line) in
    rw (decimal_step n ten fits)
    (set-append_drop (take at line ++ decimal (n / 10)) line last (48 + n % 10) e within ∙ simp append_assoc)

-- each number of 64 bits has at most 20 digits
pub length_decimal : (n : ℕ) → n < 2 ^ 64 → length (decimal n) ≤ 20
length_decimal n fits = length-decimal-le 20 n (omega arith) (omega arith) fits

-- a second piece behind a first one
pub put_more : (base front piece line next : List ℕ) (at end : ℕ) → at ≡ length front → line ≡ front ++ drop at base → end ≡ at + length piece → next ≡ take at line ++ piece ++ drop end line → next ≡ (front ++ piece) ++ drop end base
put_more base front piece line next at end here was there is =
    let before : take at line ≡ front = rw (was, here) (take-append_seam front (drop (length front) base)) in
    let behind : drop end line ≡ drop end base =
    rw (was, there, here) (drop-append-add front (drop (length front) base) (length piece) ∙ drop-drop (length piece) (length front) base) in
    is ∙ rw (before, behind) refl
