use Rattle.std.specs.Prelude.{◌==◌, ℕ, ◌+◌, ◌-◌, ◌*◌, ◌^◌, List, [], ◌∷◌, length, Result, Ok, Err, ℤ, pos, neg_ℤ, nat_lt, if◌then◌else◌}
use Rattle.std.specs.Char.{is_ascii_digit}
use Rattle.std.specs.List.{list_all}
use Rattle.kdg_text.specs.declared.number.NumFault.{NumFault}
use Rattle.kdg_text.specs.declared.number.NumFault.TheVariants.{Empty, NotDigit, TooGreat}

-- what digits stand for, each with the weight of its place
abbrev pub value_of_digits : List ℕ → ℕ
value_of_digits [] = 0
value_of_digits (digit ∷ digits) = (digit - 48) * 10 ^ length digits + value_of_digits digits

-- the number, however great, that a word of digits stands for
abbrev pub natural_of : List ℕ → Result ℕ NumFault
natural_of [] = Err Empty
natural_of (byte ∷ bytes) = if list_all is_ascii_digit (byte ∷ bytes) then Ok (value_of_digits (byte ∷ bytes)) else Err NotDigit

-- a number below a limit, made into something else
abbrev pub below : {X : Type 0} → ℕ → (ℕ → X) → Result ℕ NumFault → Result X NumFault
below limit made (Err fault) = Err fault
below limit made (Ok n) = if nat_lt n limit then Ok (made n) else Err TooGreat

-- what a word says as an unsigned number of 64 bits
abbrev pub u64_of : List ℕ → Result ℕ NumFault
u64_of word = below (2 ^ 64) (λ n. n) (natural_of word)

-- what a word says as a signed number of 64 bits: digits, after one minus where the number is negative
abbrev pub i64_of : List ℕ → Result ℤ NumFault
i64_of [] = Err Empty
i64_of (byte ∷ bytes) = if byte == 45 then below (2 ^ 63 + 1) (λ n. neg_ℤ (pos n)) (natural_of bytes) else below (2 ^ 63) pos (natural_of (byte ∷ bytes))
