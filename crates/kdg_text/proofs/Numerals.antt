use Rattle.std.proofs.Common.{rules, arith, refl, ◌≡◌, ◌+◌, ◌-◌, ◌*◌, ◌^◌, ◌<◌, ◌≤◌, ℕ, List, [], ◌∷◌, ◌++◌, length, get_or, take, drop, set, true, ◌∙◌, append_assoc, nat_lt, suc, Ok, ◌==◌, ℤ, pos, negsuc, neg_ℤ, false, FitsSigned, w64}
use Rattle.std.specs.Char.{is_ascii_digit}
use Rattle.std.specs.List.{list_all}
use Rattle.std.specs.Str.Parse.{digits_value}
use Rattle.std.specs.Fmt.{decimal, signed_decimal}
use Rattle.std.proofs.lemmas.Grind.{drop-set_at}
use Rattle.std.proofs.lemmas.Int.Digits.{digits_value_more}
use Rattle.std.proofs.lemmas.Bool.Decides.{nat_tests}
use Rattle.std.proofs.lemmas.Int.{ints}
use Rattle.std.proofs.lemmas.Str.{digit_value_digit}
use Rattle.std.proofs.lemmas.Str.Parse.{IsNumeralModel, numerals_by_weight, digits_value-take-le, digit_at}
use Rattle.std.proofs.lemmas.Fmt.{digits_decimal, digits_value-decimal, decimal_nonempty}
use Rattle.kdg_text.specs.Numbers.{value_of_digits, natural_of, u64_of, i64_of, below}

abbrev IsDigits : List ℕ → Type 0
IsDigits word = list_all is_ascii_digit word ≡ true

-- std's lemmas on numerals hold of these digits and this value
pub own : IsNumeralModel IsDigits value_of_digits
own = numerals_by_weight _ (search rules) value_of_digits (search rules)

-- the value so far, and the next digit
pub value_more : (digits : List ℕ) (i : ℕ) → IsDigits digits → i < length digits
    → digits_value 10 (take (i + 1) digits) ≡ digits_value 10 (take i digits) * 10 + (get_or digits i 0 - 48)
value_more digits i all inside =
    let digit = digit_value_digit _ (digit_at digits i (own.to digits all) inside) in
    let more = digits_value_more 10 digits i inside in
    omega arith

pub value_so_far : (digits : List ℕ) (i : ℕ) → IsDigits digits → digits_value 10 (take i digits) ≤ value_of_digits digits
value_so_far digits i all = rw (own.same digits (own.to digits all)) (digits_value-take-le 10 digits i (omega arith))

-- a digit put right before the ones that are there
pub drop-set_before : (whole front bytes : List ℕ) (start digit : ℕ) → 0 < start → start ≤ length bytes
    → whole ≡ (front ++ digit ∷ []) ++ drop start bytes → whole ≡ front ++ drop (start - 1) (set bytes (start - 1) digit)
drop-set_before whole front bytes start digit some room same =
    let put = drop-set_at bytes (start - 1) (start - 1) digit refl (omega arith) in
    let next : start - 1 + 1 ≡ start = omega arith in
    rw (put, next) (same ∙ append_assoc front (digit ∷ []) (drop start bytes))

natural_of-digits : (word : List ℕ) → 0 < length word → IsDigits word → natural_of word ≡ Ok (value_of_digits word)
natural_of-digits [] some all = absurd (omega arith)
natural_of-digits (byte ∷ bytes) some all = rw all refl

natural_of-decimal : (n : ℕ) → n < 2 ^ 64 → natural_of (decimal n) ≡ Ok n
natural_of-decimal n small =
    rw (natural_of-digits (decimal n) (decimal_nonempty n small) (digits_decimal own n small), digits_value-decimal own n small) refl

-- a word of digits has no minus
i64_of-digits : (word : List ℕ) → 0 < length word → IsDigits word → i64_of word ≡ below (2 ^ 63) pos (natural_of word)
i64_of-digits [] some all = absurd (omega arith)
i64_of-digits (byte ∷ bytes) some all =
    let digit = digit_at (byte ∷ bytes) 0 (own.to (byte ∷ bytes) all) some in
    let no_minus : (byte == 45) ≡ false = grind (arith, nat_tests) in
    rw no_minus refl

below_limit : {X : Type 0} (limit : ℕ) (made : ℕ → X) (n : ℕ) → n < limit → below limit made (Ok n) ≡ Ok (made n)
below_limit limit made n inside = let test : nat_lt n limit ≡ true = grind (arith, nat_tests) in
    rw test refl

pub u64_of-decimal : (n : ℕ) → n < 2 ^ 64 → u64_of (decimal n) ≡ Ok n
u64_of-decimal n small = rw (natural_of-decimal n small) (below_limit (2 ^ 64) (λ m. m) n small)

pub i64_of-signed_decimal : (n : ℤ) → FitsSigned w64 n → i64_of (signed_decimal n) ≡ Ok n
i64_of-signed_decimal (pos n) fits =
    let small : n < 2 ^ 63 = omega (arith, ints) in
    let same = i64_of-digits (decimal n) (decimal_nonempty n (omega arith)) (digits_decimal own n (omega arith)) in
    rw (same, natural_of-decimal n (omega arith)) (below_limit (2 ^ 63) pos n small)
i64_of-signed_decimal (negsuc n) fits =
    let small : suc n < 2 ^ 63 + 1 = omega (arith, ints) in
    rw (natural_of-decimal (suc n) (omega arith)) (below_limit (2 ^ 63 + 1) (λ m. neg_ℤ (pos m)) (suc n) small)
