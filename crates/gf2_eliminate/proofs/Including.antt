-- What goes into a set of places: one place, or those in the first words of another set.
use Rattle.std.specs.Prelude.{◌≡◌, ℕ, ◌*◌, ◌/◌, ◌%◌, ◌^◌, ◌<◌, ◌&&◌, ◌||◌, ◌==◌, nat_lt, List, length, take, slice_set, min, bit_or}
use Rattle.std.specs.Int.{bit_at}
use Rattle.std.proofs.Common.{inl, inr, arith, sym, ap, ◌∙◌, get_or}
use Rattle.std.proofs.lemmas.Bool.{cases_lt, lt-ltb, le-ltb}
use Rattle.std.proofs.lemmas.List.{get_or-take, length-take}
use Rattle.gf2_eliminate.specs.Lines.{has}
use Rattle.gf2_eliminate.specs.Ones.{has_bit, places_of}
use Rattle.gf2_eliminate.proofs.FirstCommon.{no_bit_past}
use Rattle.gf2_eliminate.proofs.Words.{bit_set, has_places, joined, same_bits}

pub inserted : (before words : List ℕ) (place : ℕ) → ((k : ℕ) → get_or words k 0 ≡ get_or before k 0) → place / 64 < length words
    → (n : ℕ) → has (places_of (slice_set words (place / 64) (bit_or (get_or words (place / 64) 0) (1 * 2 ^ (place % 64) % 2 ^ 64)))) n ≡ (has (places_of before) n || place == n)
inserted before words place same within n =
    has_places (slice_set words (place / 64) (bit_or (get_or words (place / 64) 0) (1 * 2 ^ (place % 64) % 2 ^ 64))) n ∙ bit_set words place within n
    ∙ ap (λ b. b || place == n) (same_bits words before same n ∙ sym (has_places before n))

-- the first words have the places below their end
first_words : (words : List ℕ) (count n : ℕ) → has_bit (take (min (length words) count) words) n ≡ (nat_lt n (64 * count) && has_bit words n)
first_words words count n = elim (cases_lt n (64 * count)) [
  | inl below ↦ elim (cases_lt (n / 64) (length words)) [
    | inl within ↦
        ap (λ word. bit_at word (n % 64) == 1) (get_or-take (min (length words) count) words (n / 64) 0 (omega (arith, below, within))) ∙ ap (λ b. b && has_bit words n) (sym (lt-ltb n (64 * count) below))
    | inr past ↦
        no_bit_past (take (min (length words) count) words) n (omega (arith, length-take (min (length words) count) words, past)) ∙ sym (no_bit_past words n past)
        ∙ ap (λ b. b && has_bit words n) (sym (lt-ltb n (64 * count) below))
  ]
  | inr beyond ↦
      no_bit_past (take (min (length words) count) words) n (omega (arith, length-take (min (length words) count) words, beyond)) ∙ ap (λ b. b && has_bit words n) (sym (le-ltb n (64 * count) beyond))
]

pub included_first : (before longer others words : List ℕ) (count : ℕ) → ((k : ℕ) → get_or longer k 0 ≡ get_or before k 0)
    → ((k : ℕ) → get_or words k 0 ≡ bit_or (get_or longer k 0) (get_or (take (min (length others) count) others) k 0))
    → (n : ℕ) → has (places_of words) n ≡ (has (places_of before) n || (nat_lt n (64 * count) && has (places_of others) n))
included_first before longer others words count same each n =
    has_places words n ∙ joined longer (take (min (length others) count) others) words each n
    ∙ ap (λ b. b || has_bit (take (min (length others) count) others) n) (same_bits longer before same n ∙ sym (has_places before n))
    ∙ ap (λ b. has (places_of before) n || b) (first_words others count n ∙ ap (λ b. nat_lt n (64 * count) && b) (sym (has_places others n)))
