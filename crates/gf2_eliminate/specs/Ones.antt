-- Sets of places as words of 64 bits, of which each place has one.
use Rattle.std.specs.Prelude.{◌≡◌, ℕ, ◌+◌, ◌-◌, ◌*◌, ◌/◌, ◌%◌, ◌^◌, ◌<◌, ◌≤◌, Bool, ◌==◌, List, ◌++◌, length, map, filter, slice_index, Option, Some, None}
use Rattle.std.specs.Int.{bit_at}
use Rattle.mtx_reader.specs.Ascending.{numbers_from}

-- whether the bit of a place is set
abbrev pub has_bit : List ℕ → ℕ → Bool
has_bit words place = bit_at (slice_index words (place / 64)) (place % 64) == 1

-- the places whose bits are set, in ascending order
abbrev pub places_of : List ℕ → List ℕ
places_of words = filter (has_bit words) (numbers_from 0 (64 * length words))

-- the bits of a word that are set
abbrev pub bits_of : ℕ → List ℕ
bits_of word = filter (λ bit. bit_at word bit == 1) (numbers_from 0 64)

-- enough words for the places of the longest line
abbrev pub least_words : ℕ
least_words = 65

-- the words of a set: so few that each place is less than 2^32, and enough for every line where there are any
pub record AreWords (words : List ℕ) : Type 0 where
  pub few : length words ≤ 2 ^ 26
  pub roomy : 0 < length words → least_words ≤ length words

-- words that every set with a place has too, of which none before the first has a bit
pub record IsSpan (words : List ℕ) (first : ℕ) : Type 0 where
  pub short : length words ≤ least_words
  pub within : first ≤ least_words
  pub nothing : (k : ℕ) → k < first → slice_index words k ≡ 0

-- the places of the words from one on whose bits are set
abbrev pub places_from : List ℕ → ℕ → List ℕ
places_from words at = filter (has_bit words) (numbers_from (64 * at) (64 * (length words - at)))

-- the places of the bits that are left of the word at a place, and those of the words behind it
abbrev pub places_left : List ℕ → ℕ → ℕ → List ℕ
places_left words at left = map (λ bit. at * 64 + bit) (bits_of left) ++ places_from words (at + 1)

-- a place among so few words that each place is less than 2^32
pub record IsAmong (words : List ℕ) (at : ℕ) : Type 0 where
  pub few : length words ≤ 2 ^ 26
  pub before : at < 2 ^ 26

-- the least bit from one on that is set in a word
pub record IsLeastBit (word from bit : ℕ) : Type 0 where
  pub beyond : from ≤ bit
  pub below : bit < 64
  pub is_set : bit_at word bit ≡ 1
  pub least : (k : ℕ) → from ≤ k → k < bit → bit_at word k ≡ 0

-- that bit, or none where there is none
abbrev pub IsFirstBit : ℕ → ℕ → Option ℕ → Type 0
IsFirstBit word from None = (k : ℕ) → from ≤ k → bit_at word k ≡ 0
IsFirstBit word from (Some bit) = IsLeastBit word from bit
