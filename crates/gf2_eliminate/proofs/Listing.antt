-- The places of a set, as they are listed word by word and bit by bit.
use Rattle.std.specs.Prelude.{◌≡◌, ℕ, zero, suc, ◌+◌, ◌*◌, ◌/◌, ◌%◌, ◌^◌, ◌<◌, ◌≤◌, ◌-◌, Bool, true, false, ◌==◌, List, [], ◌∷◌, ◌++◌, if◌then◌else◌, length, map, filter, bit_and, refl}
use Rattle.std.specs.Int.{bit_at, bit_not, trailing_zeros}
use Rattle.std.specs.Ordering.{nat_cmp}
use Rattle.std.specs.declared.cmp.Ordering.TheVariants.{Less}
use Rattle.std.proofs.Common.{◌⊎◌, inl, inr, arith, sym, ap, ◌∙◌, subst, get_or, w64}
use Rattle.std.proofs.lemmas.Bool.{cases_eq, cases_lt, eqb-true, eq-eqb}
use Rattle.std.proofs.lemmas.List.{get_or_past}
use Rattle.std.proofs.lemmas.List.Elements.{filter-append}
use Rattle.std.proofs.lemmas.Nat.{and_le_l}
use Rattle.std.proofs.lemmas.Nat.Bits.{bit_at-trailing_zeros, bit_at_clear_other, bit_at_clear_same}
use Rattle.plain_laws.specs.Orderings.{nat_cmp-below}
use Rattle.mtx_reader.specs.Ascending.{IsAscendingBy, IsIn, numbers_from, all_from_in, in_filter, from_filter, from_numbers, in_numbers, ascending_filter, ascending_numbers, same_numbers}
use Rattle.gf2_eliminate.specs.Ones.{has_bit, bits_of, places_from, places_left, places_of}
use Rattle.gf2_eliminate.specs.Membership.{filter_same}

numbers_cut : (first a b : ℕ) → numbers_from first (a + b) ≡ numbers_from first a ++ numbers_from (first + a) b
numbers_cut first zero b =
    let none : zero + b ≡ b = omega arith in
    let same : first ≡ first + 0 = omega arith in
    ap (numbers_from first) none ∙ ap (λ n. numbers_from n b) same
numbers_cut first (suc a) b =
    let more : suc a + b ≡ suc (a + b) = omega arith in
    let same : suc first + a ≡ first + suc a = omega arith in
    ap (numbers_from first) more ∙ ap (λ ns. first ∷ ns) (numbers_cut (suc first) a b ∙ ap (λ n. numbers_from (suc first) a ++ numbers_from n b) same)

-- numbers from a base on that pass a test
shifted : (test : ℕ → Bool) (base first count : ℕ) → filter test (numbers_from (base + first) count) ≡ map (λ n. base + n) (filter (λ n. test (base + n)) (numbers_from first count))
shifted test base first zero = refl
shifted test base first (suc count) =
    let same : suc (base + first) ≡ base + suc first = omega arith in
    by_test (ap (λ n. filter test (numbers_from n count)) same ∙ shifted test base (suc first) count) (test (base + first))
  where
    by_test : filter test (numbers_from (suc (base + first)) count) ≡ map (λ n. base + n) (filter (λ n. test (base + n)) (numbers_from (suc first) count)) → (b : Bool)
        → (if b then (base + first) ∷ filter test (numbers_from (suc (base + first)) count) else filter test (numbers_from (suc (base + first)) count))
        ≡ map (λ n. base + n) (if b then first ∷ filter (λ n. test (base + n)) (numbers_from (suc first) count) else filter (λ n. test (base + n)) (numbers_from (suc first) count))
    by_test rest true = ap (λ ns. (base + first) ∷ ns) rest
    by_test rest false = rest

-- the places of one word
pub word_places : (words : List ℕ) (at : ℕ) → filter (has_bit words) (numbers_from (64 * at) 64) ≡ map (λ bit. at * 64 + bit) (bits_of (get_or words at 0))
word_places words at =
    let base : 64 * at ≡ at * 64 + 0 = omega arith in
    ap (λ n. filter (has_bit words) (numbers_from n 64)) base ∙ shifted (has_bit words) (at * 64) 0 64
    ∙ ap (map (λ bit. at * 64 + bit)) (filter_same (λ bit. has_bit words (at * 64 + bit)) (λ bit. bit_at (get_or words at 0) bit == 1) (numbers_from 0 64) (λ bit there. here bit (from_numbers 0 64 bit there).1))
  where
    here : (bit : ℕ) → bit < 0 + 64 → has_bit words (at * 64 + bit) ≡ (bit_at (get_or words at 0) bit == 1)
    here bit below =
        let word : (at * 64 + bit) / 64 ≡ at = omega (arith, below) in
        let place : (at * 64 + bit) % 64 ≡ bit = omega (arith, below) in
        ap (λ k. bit_at (get_or words k 0) ((at * 64 + bit) % 64) == 1) word ∙ ap (λ i. bit_at (get_or words at 0) i == 1) place

-- from the end on there are none
pub none_from : (words : List ℕ) (at : ℕ) → length words ≤ at → places_from words at ≡ []
none_from words at past = let none : 64 * (length words - at) ≡ 0 = omega (arith, past) in ap (λ n. filter (has_bit words) (numbers_from (64 * at) n)) none

-- the places from a word on are those of its bits, and those from the next one on
pub whole_word : (words : List ℕ) (at : ℕ) → places_left words at (get_or words at 0) ≡ places_from words at
whole_word words at = elim (cases_lt at (length words)) [
  | inl below ↦
      let more : 64 * (length words - at) ≡ 64 + 64 * (length words - (at + 1)) = omega (arith, below) in
      let next : 64 * at + 64 ≡ 64 * (at + 1) = omega arith in
      sym (
      ap (λ n. filter (has_bit words) (numbers_from (64 * at) n)) more ∙ ap (filter (has_bit words)) (numbers_cut (64 * at) 64 (64 * (length words - (at + 1))))
      ∙ filter-append (has_bit words) (numbers_from (64 * at) 64) (numbers_from (64 * at + 64) (64 * (length words - (at + 1))))
      ∙ ap (λ ns. ns ++ filter (has_bit words) (numbers_from (64 * at + 64) (64 * (length words - (at + 1))))) (word_places words at)
      ∙ ap (λ n. map (λ bit. at * 64 + bit) (bits_of (get_or words at 0)) ++ filter (has_bit words) (numbers_from n (64 * (length words - (at + 1))))) next
      )
  | inr past ↦ ap (λ word. places_left words at word) (get_or_past words at 0 past) ∙ none_from words (at + 1) (omega (arith, past)) ∙ sym (none_from words at past)
]

-- a word without a bit is passed
pub next_word : (words : List ℕ) (at left : ℕ) → left ≡ 0 → places_left words at left ≡ places_from words (at + 1)
next_word words at left none = ap (places_left words at) none

-- where the first words have no bit, all places are in those behind them
pub skipped : (words : List ℕ) (first : ℕ) → ((k : ℕ) → k < first → get_or words k 0 ≡ 0) → places_from words first ≡ filter (has_bit words) (numbers_from 0 (64 * length words))
skipped words zero nothing = let all : 64 * (length words - 0) ≡ 64 * length words = omega arith in ap (λ n. filter (has_bit words) (numbers_from 0 n)) all
skipped words (suc first) nothing =
    let next : suc first ≡ first + 1 = omega arith in
    ap (places_from words) next ∙ ap (λ word. places_left words first word) (sym (nothing first (omega arith))) ∙ whole_word words first ∙ skipped words first (λ k below. nothing k (omega (arith, below)))

pub all_left : (words : List ℕ) (first : ℕ) → ((k : ℕ) → k < first → get_or words k 0 ≡ 0) → places_left words first (get_or words first 0) ≡ places_of words
all_left words first nothing = whole_word words first ∙ skipped words first nothing

-- the lowest bit of a word is cleared
module _ (word : ℕ) (some : 0 < word) (fits : word < 2 ^ 64) where
  lowest-is : (trailing_zeros w64 word < 64) × (bit_at word (trailing_zeros w64 word) ≡ 1) × ((i : ℕ) → i < trailing_zeros w64 word → bit_at word i ≡ 0)
  lowest-is = bit_at-trailing_zeros w64 word some fits

  pub lowest_below : trailing_zeros w64 word < 64
  lowest_below = lowest-is.0

  cleared : bit_at (bit_and word (bit_not w64 (1 * 2 ^ trailing_zeros w64 word % 2 ^ 64))) (trailing_zeros w64 word) ≡ 0
  cleared = bit_at_clear_same w64 word (trailing_zeros w64 word) lowest-is.0

  kept : (i : ℕ) → i < 64 → (i ≡ trailing_zeros w64 word → ⊥) → bit_at (bit_and word (bit_not w64 (1 * 2 ^ trailing_zeros w64 word % 2 ^ 64))) i ≡ bit_at word i
  kept i below other = bit_at_clear_other w64 word (trailing_zeros w64 word) lowest-is.0 i below other

  pub smaller : bit_and word (bit_not w64 (1 * 2 ^ trailing_zeros w64 word % 2 ^ 64)) < word
  smaller = elim (cases_eq (bit_and word (bit_not w64 (1 * 2 ^ trailing_zeros w64 word % 2 ^ 64))) word) [
    | inl same ↦ absurd (let both = ap (λ w. bit_at w (trailing_zeros w64 word)) same in omega (arith, both, cleared, lowest-is.1))
    | inr other ↦ omega (arith, other, and_le_l word (bit_not w64 (1 * 2 ^ trailing_zeros w64 word % 2 ^ 64)))
  ]

  -- a bit that is set is one of 64
  bit_in : (w n : ℕ) → IsIn (bits_of w) n → (n < 64) × (bit_at w n ≡ 1)
  bit_in w n there =
      let is = from_filter (λ bit. bit_at w bit == 1) (numbers_from 0 64) n there in
      let below = (from_numbers 0 64 n is.0).1 in
      (omega (arith, below), eqb-true (bit_at w n) 1 is.1)

  in_bits : (w n : ℕ) → n < 64 → bit_at w n ≡ 1 → IsIn (bits_of w) n
  in_bits w n below is-set = in_filter (λ bit. bit_at w bit == 1) (numbers_from 0 64) n (in_numbers 0 64 n (omega arith) (omega (arith, below))) (eq-eqb (bit_at w n) 1 is-set)

  ascending_bits : (w : ℕ) → IsAscendingBy nat_cmp (bits_of w)
  ascending_bits w = ascending_filter nat_cmp (λ bit. bit_at w bit == 1) (numbers_from 0 64) (ascending_numbers 0 64)

  not_lowest : (n : ℕ) → bit_at (bit_and word (bit_not w64 (1 * 2 ^ trailing_zeros w64 word % 2 ^ 64))) n ≡ 1 → n ≡ trailing_zeros w64 word → ⊥
  not_lowest n is-set at =
      let gone : bit_at (bit_and word (bit_not w64 (1 * 2 ^ trailing_zeros w64 word % 2 ^ 64))) n ≡ 0 =
      subst (λ i. bit_at (bit_and word (bit_not w64 (1 * 2 ^ trailing_zeros w64 word % 2 ^ 64))) i ≡ 0) (sym at) cleared in
      omega (arith, sym is-set ∙ gone)

  behind_lowest : (n : ℕ) → IsIn (bits_of (bit_and word (bit_not w64 (1 * 2 ^ trailing_zeros w64 word % 2 ^ 64)))) n → (n < 64) × (bit_at word n ≡ 1) × (trailing_zeros w64 word < n)
  behind_lowest n there =
      let is = bit_in (bit_and word (bit_not w64 (1 * 2 ^ trailing_zeros w64 word % 2 ^ 64))) n there in
      let other = not_lowest n is.1 in
      let was : bit_at word n ≡ 1 = sym (kept n is.0 other) ∙ is.1 in (
        is.0,
        was,
        elim (cases_lt n (trailing_zeros w64 word)) [
          | inl before ↦ absurd (omega (arith, sym was ∙ lowest-is.2 n before))
          | inr above ↦ omega (arith, above, other)
        ],
      )

  pub lowest_first : bits_of word ≡ trailing_zeros w64 word ∷ bits_of (bit_and word (bit_not w64 (1 * 2 ^ trailing_zeros w64 word % 2 ^ 64)))
  lowest_first = same_numbers (bits_of word) (trailing_zeros w64 word ∷ bits_of (bit_and word (bit_not w64 (1 * 2 ^ trailing_zeros w64 word % 2 ^ 64)))) (ascending_bits word) (
    all_from_in (λ n. nat_cmp (trailing_zeros w64 word) n ≡ Less) (bits_of (bit_and word (bit_not w64 (1 * 2 ^ trailing_zeros w64 word % 2 ^ 64))))
        (λ n there. nat_cmp-below (trailing_zeros w64 word) n (behind_lowest n there).2),
    ascending_bits (bit_and word (bit_not w64 (1 * 2 ^ trailing_zeros w64 word % 2 ^ 64))),
  )
      (λ n there. let is = bit_in word n there in elim (cases_eq n (trailing_zeros w64 word)) [
        | inl at ↦ inl (sym at)
        | inr other ↦ inr (in_bits (bit_and word (bit_not w64 (1 * 2 ^ trailing_zeros w64 word % 2 ^ 64))) n is.0 (kept n is.0 other ∙ is.1))
      ])
      (λ n there. back n there)
    where
      back : (n : ℕ) → (trailing_zeros w64 word ≡ n) ⊎ IsIn (bits_of (bit_and word (bit_not w64 (1 * 2 ^ trailing_zeros w64 word % 2 ^ 64)))) n → IsIn (bits_of word) n
      back n (inl at) = subst (IsIn (bits_of word)) at (in_bits word (trailing_zeros w64 word) lowest-is.0 lowest-is.1)
      back n (inr there) = let is = behind_lowest n there in in_bits word n is.0 is.1

  -- and its place comes first among those that are left
  pub lowest_left : (words : List ℕ) (at : ℕ)
      → places_left words at word ≡ (at * 64 + trailing_zeros w64 word) ∷ places_left words at (bit_and word (bit_not w64 (1 * 2 ^ trailing_zeros w64 word % 2 ^ 64)))
  lowest_left words at = ap (λ bits. map (λ bit. at * 64 + bit) bits ++ places_from words (at + 1)) lowest_first
