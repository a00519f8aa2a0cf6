-- The least place that a set has and another lacks, as it is found word by word.
use Rattle.std.specs.Prelude.{◌≡◌, ℕ, ◌+◌, ◌-◌, ◌*◌, ◌^◌, ◌<◌, ◌≤◌, true, List, length, min, bit_and}
use Rattle.std.specs.Int.{bit_at, bit_not}
use Rattle.std.proofs.Common.{inl, inr, arith, sym, ap, ◌∙◌, get_or, w64}
use Rattle.std.proofs.lemmas.Bool.{cases_lt, eqb-true, eq-eqb, ne_eqb, true≢false}
use Rattle.std.proofs.lemmas.Nat.Bits.{bit_at-lt, bit_at_and, bit_at_not}
use Rattle.gf2_eliminate.specs.Covers.{IsLeastBeyond}
use Rattle.gf2_eliminate.specs.Lines.{has}
use Rattle.gf2_eliminate.specs.Ones.{has_bit, places_of, IsLeastBit}
use Rattle.gf2_eliminate.proofs.FirstCommon.{bit_here, no_bit_past}
use Rattle.gf2_eliminate.proofs.Words.{has_places}

-- the others have each place of a set from one on and before a bit of a word
pub record IsWithin (words others : List ℕ) (from at bit : ℕ) : Type 0 where
  pub low : bit < 64
  pub ahead : from ≤ 64 * at + bit
  pub all : (n : ℕ) → from ≤ n → n < 64 * at + bit → has_bit words n ≡ true → has_bit others n ≡ true

module _ (words others : List ℕ) (at : ℕ) (fits : get_or others at 0 < 2 ^ 64) where
  abbrev pub beyond_word : ℕ
  beyond_word = bit_and (get_or words at 0) (bit_not w64 (get_or others at 0))

  bits : (bit : ℕ) → bit < 64 → bit_at beyond_word bit ≡ min (bit_at (get_or words at 0) bit) (1 - bit_at (get_or others at 0) bit)
  bits bit low =
      bit_at_and (get_or words at 0) (bit_not w64 (get_or others at 0)) bit ∙ ap (λ b. min (bit_at (get_or words at 0) bit) b) (bit_at_not w64 (get_or others at 0) bit fits low)

  -- a bit that isn't in the one word alone
  in_both : (bit n : ℕ) → bit < 64 → n ≡ 64 * at + bit → bit_at beyond_word bit ≡ 0 → has_bit words n ≡ true → has_bit others n ≡ true
  in_both bit n low is none is-set =
      let one : bit_at (get_or words at 0) bit ≡ 1 = eqb-true (bit_at (get_or words at 0) bit) 1 (sym (bit_here words at bit n low is) ∙ is-set) in
      let least : min (bit_at (get_or words at 0) bit) (1 - bit_at (get_or others at 0) bit) ≡ 0 = sym (bits bit low) ∙ none in
      bit_here others at bit n low is ∙ eq-eqb (bit_at (get_or others at 0) bit) 1 (omega (arith, one, least, bit_at-lt (get_or others at 0) bit))

  both_here : (from bit end n : ℕ) → IsWithin words others from at bit → end ≤ 64 → from ≤ n → n < 64 * at + end
      → ((k : ℕ) → bit ≤ k → k < end → bit_at beyond_word k ≡ 0) → has_bit words n ≡ true → has_bit others n ≡ true
  both_here from bit end n within few beyond before none is-set = elim (cases_lt n (64 * at + bit)) [
    | inl earlier ↦ within.all n beyond earlier is-set
    | inr here ↦
        let place : n ≡ 64 * at + (n - 64 * at) = omega (arith, here) in
        in_both (n - 64 * at) n (omega (arith, here, before, few)) place (none (n - 64 * at) (omega (arith, here)) (omega (arith, here, before))) is-set
  ]

  pub word_within : (from bit : ℕ) → IsWithin words others from at bit → ((k : ℕ) → bit ≤ k → bit_at beyond_word k ≡ 0) → IsWithin words others from (at + 1) 0
  word_within from bit within none = record {
    low = omega arith;
    ahead = omega (arith, within.ahead, within.low);
    all = λ n beyond before is-set. both_here from bit 64 n within (omega arith) beyond (omega (arith, before)) (λ k above below. none k above) is-set;
  }

  pub found_beyond : (from bit found : ℕ) → IsWithin words others from at bit → IsLeastBit beyond_word bit found → IsLeastBeyond (places_of words) (places_of others) from (at * 64 + found)
  found_beyond from bit found within least = record {
    beyond = omega (arith, within.ahead, least.beyond);
    in_set = has_places words (at * 64 + found) ∙ bit_here words at found (at * 64 + found) least.below (omega arith)
        ∙ eq-eqb (bit_at (get_or words at 0) found) 1 (omega (arith, one, bit_at-lt (get_or words at 0) found));
    not_in_other = has_places others (at * 64 + found) ∙ bit_here others at found (at * 64 + found) least.below (omega arith)
        ∙ ne_eqb (bit_at (get_or others at 0) found) 1 (λ set. omega (arith, one, set));
    least = λ n beyond before there.
        has_places others n
        ∙ both_here from bit found n within (omega (arith, least.below)) beyond (omega (arith, before)) least.least (sym (has_places words n) ∙ there);
  }
    where
      one : min (bit_at (get_or words at 0) found) (1 - bit_at (get_or others at 0) found) ≡ 1
      one = sym (bits found least.below) ∙ least.is_set

-- behind the last word
pub all_within : (words others : List ℕ) (from at bit : ℕ) → IsWithin words others from at bit → length words ≤ at
    → (n : ℕ) → from ≤ n → has (places_of words) n ≡ true → has (places_of others) n ≡ true
all_within words others from at bit within past n beyond there = has_places others n ∙ elim (cases_lt n (64 * at + bit)) [
  | inl earlier ↦ within.all n beyond earlier (sym (has_places words n) ∙ there)
  | inr later ↦ absurd (true≢false (sym there ∙ has_places words n ∙ no_bit_past words n (omega (arith, past, later))))
]
