-- The least place that two sets have, as it is found word by word.
use Rattle.std.specs.Prelude.{◌≡◌, ℕ, ◌+◌, ◌-◌, ◌*◌, ◌/◌, ◌%◌, ◌^◌, ◌<◌, ◌≤◌, true, false, ◌==◌, List, length, min, bit_and}
use Rattle.std.specs.Int.{bit_at, trailing_zeros}
use Rattle.std.proofs.Common.{inl, inr, arith, sym, ap, ◌∙◌, get_or, w64}
use Rattle.std.proofs.lemmas.Bool.{cases_lt, eqb-true, eq-eqb, ne_eqb, true≢false}
use Rattle.std.proofs.lemmas.List.{get_or_past}
use Rattle.std.proofs.lemmas.Nat.{shr-shr}
use Rattle.std.proofs.Math.Nat.{div-le_self}
use Rattle.std.proofs.lemmas.Nat.Bits.{bit_at-lt, bit_at-zero, bit_at_above, bit_at_and, bit_at-trailing_zeros}
use Rattle.gf2_eliminate.specs.Covers.{IsLeastCommon}
use Rattle.gf2_eliminate.specs.Lines.{has}
use Rattle.gf2_eliminate.specs.Ones.{has_bit, places_of, IsLeastBit}
use Rattle.gf2_eliminate.proofs.Words.{has_places}

-- a word without its lowest bits
bit_behind : (word from k : ℕ) → bit_at (word / 2 ^ from) k ≡ bit_at word (from + k)
bit_behind word from k = ap (λ q. q % 2) (shr-shr word from k)

bit_from : (word from k : ℕ) → from ≤ k → (i : ℕ) × (from + i ≡ k) × (bit_at word k ≡ bit_at (word / 2 ^ from) i)
bit_from word from k beyond =
    let same : from + (k - from) ≡ k = omega arith in
    (k - from, same, sym (bit_behind word from (k - from) ∙ ap (bit_at word) same))

pub none_behind : (word from : ℕ) → word / 2 ^ from ≡ 0 → (k : ℕ) → from ≤ k → bit_at word k ≡ 0
none_behind word from none k beyond = let is = bit_from word from k beyond in is.2 ∙ ap (λ w. bit_at w is.0) none ∙ bit_at-zero is.0

pub least_behind : (word from : ℕ) → word < 2 ^ 64 → 0 < word / 2 ^ from → IsLeastBit word from (from + trailing_zeros w64 (word / 2 ^ from))
least_behind word from fits some = record {
  beyond = omega arith;
  below = elim (cases_lt (from + trailing_zeros w64 (word / 2 ^ from)) 64) [
    | inl below ↦ below
    | inr above ↦ absurd (omega (arith, is-set, bit_at_above word 64 (from + trailing_zeros w64 (word / 2 ^ from)) fits above))
  ];
  is_set = is-set;
  least = λ k beyond before. let is = bit_from word from k beyond in is.2 ∙ lowest.2 is.0 (omega (arith, is.1, before));
}
  where
    lowest : (trailing_zeros w64 (word / 2 ^ from) < 64) × (bit_at (word / 2 ^ from) (trailing_zeros w64 (word / 2 ^ from)) ≡ 1) × ((i : ℕ) → i < trailing_zeros w64 (word / 2 ^ from) → bit_at (word / 2 ^ from) i ≡ 0)
    lowest = bit_at-trailing_zeros w64 (word / 2 ^ from) some (omega (arith, div-le_self word (2 ^ from), fits))

    is-set : bit_at word (from + trailing_zeros w64 (word / 2 ^ from)) ≡ 1
    is-set = sym (bit_behind word from (trailing_zeros w64 (word / 2 ^ from))) ∙ lowest.1

-- two sets have no place in common from one on and before a bit of a word
pub record IsPassed (words others : List ℕ) (from at bit : ℕ) : Type 0 where
  pub low : bit < 64
  pub ahead : from ≤ 64 * at + bit
  pub none : (n : ℕ) → from ≤ n → n < 64 * at + bit → has_bit words n ≡ true → has_bit others n ≡ false

pub no_bit_past : (words : List ℕ) (n : ℕ) → length words ≤ n / 64 → has_bit words n ≡ false
no_bit_past words n past = ap (λ word. bit_at word (n % 64) == 1) (get_or_past words (n / 64) 0 past) ∙ ap (λ b. b == 1) (bit_at-zero (n % 64))

pub bit_here : (words : List ℕ) (at bit n : ℕ) → bit < 64 → n ≡ 64 * at + bit → has_bit words n ≡ (bit_at (get_or words at 0) bit == 1)
bit_here words at bit n low is =
    let word : n / 64 ≡ at = omega (arith, low, is) in
    let place : n % 64 ≡ bit = omega (arith, low, is) in
    ap (λ k. bit_at (get_or words k 0) (n % 64) == 1) word ∙ ap (λ i. bit_at (get_or words at 0) i == 1) place

module _ (words others : List ℕ) (at : ℕ) where
  -- a bit that both words have not
  not_both : (bit n : ℕ) → bit < 64 → n ≡ 64 * at + bit → bit_at (bit_and (get_or words at 0) (get_or others at 0)) bit ≡ 0 → has_bit words n ≡ true → has_bit others n ≡ false
  not_both bit n low is none is-set =
      let one : bit_at (get_or words at 0) bit ≡ 1 = eqb-true (bit_at (get_or words at 0) bit) 1 (sym (bit_here words at bit n low is) ∙ is-set) in
      let least : min (bit_at (get_or words at 0) bit) (bit_at (get_or others at 0) bit) ≡ 0 = sym (bit_at_and (get_or words at 0) (get_or others at 0) bit) ∙ none in
      bit_here others at bit n low is ∙ ne_eqb (bit_at (get_or others at 0) bit) 1 (λ set. omega (arith, one, least, set))

  not_here : (from bit end n : ℕ) → IsPassed words others from at bit → end ≤ 64 → from ≤ n → n < 64 * at + end
      → ((k : ℕ) → bit ≤ k → k < end → bit_at (bit_and (get_or words at 0) (get_or others at 0)) k ≡ 0) → has_bit words n ≡ true → has_bit others n ≡ false
  not_here from bit end n passed few beyond before none is-set = elim (cases_lt n (64 * at + bit)) [
    | inl earlier ↦ passed.none n beyond earlier is-set
    | inr here ↦
        let place : n ≡ 64 * at + (n - 64 * at) = omega (arith, here) in
        not_both (n - 64 * at) n (omega (arith, here, before, few)) place (none (n - 64 * at) (omega (arith, here)) (omega (arith, here, before))) is-set
  ]

  pub passed_word : (from bit : ℕ) → IsPassed words others from at bit → ((k : ℕ) → bit ≤ k → bit_at (bit_and (get_or words at 0) (get_or others at 0)) k ≡ 0) → IsPassed words others from (at + 1) 0
  passed_word from bit passed none = record {
    low = omega arith;
    ahead = omega (arith, passed.ahead, passed.low);
    none = λ n beyond before is-set. not_here from bit 64 n passed (omega arith) beyond (omega (arith, before)) (λ k above below. none k above) is-set;
  }

  pub found_here : (from bit found : ℕ) → IsPassed words others from at bit → IsLeastBit (bit_and (get_or words at 0) (get_or others at 0)) bit found
      → IsLeastCommon (places_of words) (places_of others) from (at * 64 + found)
  found_here from bit found passed least = record {
    beyond = omega (arith, passed.ahead, least.beyond);
    in_set = has_places words (at * 64 + found) ∙ bit_here words at found (at * 64 + found) least.below (omega arith)
        ∙ eq-eqb (bit_at (get_or words at 0) found) 1 (omega (arith, both, bit_at-lt (get_or words at 0) found));
    in_other = has_places others (at * 64 + found) ∙ bit_here others at found (at * 64 + found) least.below (omega arith)
        ∙ eq-eqb (bit_at (get_or others at 0) found) 1 (omega (arith, both, bit_at-lt (get_or others at 0) found));
    least = λ n beyond before there.
        has_places others n
        ∙ not_here from bit found n passed (omega (arith, least.below)) beyond (omega (arith, before)) least.least (sym (has_places words n) ∙ there);
  }
    where
      both : min (bit_at (get_or words at 0) found) (bit_at (get_or others at 0) found) ≡ 1
      both = sym (bit_at_and (get_or words at 0) (get_or others at 0) found) ∙ least.is_set

-- behind the last word of one of them
pub none_left : (words others : List ℕ) (from at bit : ℕ) → IsPassed words others from at bit → min (length words) (length others) ≤ at
    → (n : ℕ) → from ≤ n → has (places_of words) n ≡ true → has (places_of others) n ≡ false
none_left words others from at bit passed past n beyond there = has_places others n ∙ elim (cases_lt n (64 * at + bit)) [
  | inl earlier ↦ passed.none n beyond earlier (sym (has_places words n) ∙ there)
  | inr later ↦ elim (cases_lt (n / 64) (length words)) [
    | inl within ↦ no_bit_past others n (omega (arith, past, within, later))
    | inr behind ↦ absurd (true≢false (sym there ∙ has_places words n ∙ no_bit_past words n behind))
  ]
]
