-- How a line is cut into tokens.
use Rattle.std.specs.Prelude.{ℕ, Bool, false, ◌||◌, not, ◌==◌, if◌then◌else◌, List, [], ◌∷◌, bytes_eq, map}
use Rattle.std.specs.List.{list_any, onto_first}
use Rattle.std.specs.Char.{to_ascii_lowercase}

-- one of the bytes that are tokens of their own
abbrev pub is_mark : List ℕ → ℕ → Bool
is_mark marks byte = list_any (λ mark. mark == byte) marks

-- a space or a tab
abbrev pub is_blank : ℕ → Bool
is_blank byte = byte == 32 || byte == 9

-- a byte of no word
abbrev pub ends_word : List ℕ → ℕ → Bool
ends_word marks byte = is_blank byte || is_mark marks byte

-- whether the bytes go on with a byte of a word
abbrev pub begins_with_word : List ℕ → List ℕ → Bool
begins_with_word marks [] = false
begins_with_word marks (byte ∷ bytes) = not (ends_word marks byte)

-- the tokens with a byte more in front, where the rest goes on with a byte of a word or not
abbrev pub with_byte : List ℕ → ℕ → Bool → List (List ℕ) → List (List ℕ)
with_byte marks byte word_follows tokens =
    if is_blank byte then tokens
    else if is_mark marks byte || not word_follows then (byte ∷ []) ∷ tokens
    else onto_first byte tokens

-- The tokens of a line: each mark is one, and so is each longest run of other bytes than spaces, tabs and marks.
abbrev pub tokens_of : List ℕ → List ℕ → List (List ℕ)
tokens_of marks [] = []
tokens_of marks (byte ∷ bytes) = with_byte marks byte (begins_with_word marks bytes) (tokens_of marks bytes)

-- whether the bytes begin with a space or a tab
abbrev pub begins_blank : List ℕ → Bool
begins_blank [] = false
begins_blank (byte ∷ bytes) = is_blank byte

-- whether a word is this one, which is in small letters, where the case of letters is one's own
abbrev pub spells : List ℕ → List ℕ → Bool
spells word small = bytes_eq (map to_ascii_lowercase word) small
