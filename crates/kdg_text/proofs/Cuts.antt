-- Where the tokens of a line are cut.
use Rattle.std.proofs.Common.{arith, refl, sym, ap, ◌∙◌, ◌≡◌, ◌<◌, ◌≤◌, ◌||◌, not, true, false, [], ◌∷◌, length, ℕ, List, take, drop, get_or, suc, zero, Bool, Some, None, position, cond}
use Rattle.std.proofs.lemmas.List.Quantifiers.{position-Some}
use Rattle.std.specs.List.{onto_first}
use Rattle.kdg_text.proofs.Parts.{fails-position-None}
use Rattle.kdg_text.specs.Tokens.{is_mark, is_blank, ends_word, with_byte, begins_blank, tokens_of}

pub tokens_of-drop : (marks xs : List ℕ) (n : ℕ) → n ≤ length xs → ((k : ℕ) → k < n → not (is_blank (get_or xs k 0)) ≡ false) → tokens_of marks (drop n xs) ≡ tokens_of marks xs
tokens_of-drop marks xs zero below blanks = refl
tokens_of-drop marks [] (suc n) below blanks = absurd (omega arith)
tokens_of-drop marks (x ∷ xs) (suc n) below blanks =
    let rest = tokens_of-drop marks xs n (omega arith) (λ k under. blanks (suc k) (omega arith)) in
    let blank : is_blank x ≡ true = not_false (is_blank x) (blanks 0 (omega arith)) in
    rest ∙ sym (rw blank refl)
  where
    not_false : (b : Bool) → not b ≡ false → b ≡ true
    not_false true e = refl
    not_false false e = cc

-- a byte of a word stands in front of the tokens
with_byte-word : (marks : List ℕ) (x : ℕ) (word_follows : Bool) (ts : List (List ℕ)) → ends_word marks x ≡ false → with_byte marks x word_follows ts ≡ cond word_follows (onto_first x ts) ((x ∷ []) ∷ ts)
with_byte-word marks x word_follows ts word = with_tests (is_blank x) (is_mark marks x) word_follows word
  where
    with_tests : (blank mark follows : Bool) → (blank || mark) ≡ false → cond blank ts (cond (mark || not follows) ((x ∷ []) ∷ ts) (onto_first x ts)) ≡ cond follows (onto_first x ts) ((x ∷ []) ∷ ts)
    with_tests true mark follows e = cc
    with_tests false true follows e = cc
    with_tests false false true e = refl
    with_tests false false false e = refl

pub tokens_of-word : (marks xs : List ℕ) (n : ℕ) → n < length xs → ((k : ℕ) → k ≤ n → ends_word marks (get_or xs k 0) ≡ false) → (suc n < length xs → ends_word marks (get_or xs (suc n) 0) ≡ true) → tokens_of marks xs ≡ take (suc n) xs ∷ tokens_of marks (drop (suc n) xs)
tokens_of-word marks [] n below word end = absurd (omega arith)
tokens_of-word marks (x ∷ []) zero below word end = with_byte-word marks x false [] (word 0 (omega arith))
tokens_of-word marks (x ∷ []) (suc n) below word end = absurd (omega arith)
tokens_of-word marks (x ∷ y ∷ ys) zero below word end =
    with_byte-word marks x (not (ends_word marks y)) (tokens_of marks (y ∷ ys)) (word 0 (omega arith)) ∙ rw (end (omega arith)) refl
tokens_of-word marks (x ∷ y ∷ ys) (suc n) below word end =
    let rest = tokens_of-word marks (y ∷ ys) n (omega arith) (λ k under. word (suc k) (omega arith)) (λ more. end (omega arith)) in
    with_byte-word marks x (not (ends_word marks y)) (tokens_of marks (y ∷ ys)) (word 0 (omega arith))
    ∙ ap (λ b. cond (not b) (onto_first x (tokens_of marks (y ∷ ys))) ((x ∷ []) ∷ tokens_of marks (y ∷ ys))) (word 1 (omega arith))
    ∙ ap (onto_first x) rest

pub tokens_of-mark : (marks : List ℕ) (x : ℕ) (xs : List ℕ) → is_blank x ≡ false → is_mark marks x ≡ true → tokens_of marks (x ∷ xs) ≡ (x ∷ []) ∷ tokens_of marks xs
tokens_of-mark marks x xs visible mark = rw (visible, mark) refl

pub begins_blank-drop : (xs : List ℕ) (n : ℕ) → n < length xs → not (is_blank (get_or xs n 0)) ≡ true → begins_blank (drop n xs) ≡ false
begins_blank-drop [] n below visible = absurd (omega arith)
begins_blank-drop (x ∷ xs) zero below visible = not_true (is_blank x) visible
  where
    not_true : (b : Bool) → not b ≡ true → b ≡ false
    not_true true e = cc
    not_true false e = refl
begins_blank-drop (x ∷ xs) (suc n) below visible = begins_blank-drop xs n (omega arith) visible

-- the byte at the front is of a word
starts_word : (marks xs : List ℕ) → 0 < length xs → begins_blank xs ≡ false → is_mark marks (get_or xs 0 0) ≡ false → ends_word marks (get_or xs 0 0) ≡ false
starts_word marks [] some visible unmarked = absurd (omega arith)
starts_word marks (x ∷ xs) some visible unmarked = rw (visible, unmarked) refl

pub tokens_of-word_end : (marks xs : List ℕ) (n : ℕ) → 0 < length xs → begins_blank xs ≡ false → is_mark marks (get_or xs 0 0) ≡ false → position (ends_word marks) xs ≡ Some n
    → tokens_of marks xs ≡ take n xs ∷ tokens_of marks (drop n xs)
tokens_of-word_end marks xs zero some visible unmarked found =
    let ended = position-Some (ends_word marks) xs 0 0 found in
    let word = starts_word marks xs some visible unmarked in
    let clash : true ≡ false = sym ended.1 ∙ word in absurd (cc)
tokens_of-word_end marks xs (suc n) some visible unmarked found =
    let ended = position-Some (ends_word marks) xs (suc n) 0 found in
    tokens_of-word marks xs n (omega arith) (λ k under. ended.2 k (omega arith)) (λ more. ended.1)

pub tokens_of-one_word : (marks xs : List ℕ) → 0 < length xs → position (ends_word marks) xs ≡ None
    → tokens_of marks xs ≡ take (length xs) xs ∷ tokens_of marks (drop (length xs) xs)
tokens_of-one_word marks [] some none = absurd (omega arith)
tokens_of-one_word marks (x ∷ xs) some none =
    tokens_of-word marks (x ∷ xs) (length xs) (omega arith) (λ k under. fails-position-None (ends_word marks) (x ∷ xs) none k (omega arith)) (λ more. absurd (omega arith))
