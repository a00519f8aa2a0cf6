use Rattle.std.proofs.Common.{arith, refl, ◌≡◌, ◌+◌, ◌<◌, ◌≤◌, [], ◌∷◌, length, ◌==◌, ℕ, true, false, List, take, drop, get_or, suc, zero, Bool, Some, None, position, cond, nat_lt, add-one}
use Rattle.std.proofs.lemmas.Bool.Decides.{nat_tests}
use Rattle.std.proofs.lemmas.List.Sums.{fails_before_first}
use Rattle.std.specs.List.{position_or_len}
use Rattle.kdg_text.specs.Lines.{parts_of}
use Rattle.kdg_text.specs.Faults.{before_comment}

pub parts_of-at : (xs : List ℕ) (n : ℕ) → n < length xs → (get_or xs n 0 == 10) ≡ true → ((k : ℕ) → k < n → (get_or xs k 0 == 10) ≡ false)
    → parts_of xs ≡ take n xs ∷ parts_of (drop (n + 1) xs)
parts_of-at [] n below here before = absurd (omega arith)
parts_of-at (x ∷ xs) zero below here before = rw here refl
parts_of-at (x ∷ xs) (suc n) below here before =
    let rest = parts_of-at xs n (omega arith) here (λ k under. before (suc k) (omega arith)) in
    rw (before 0 (omega arith), rest) (simp add-one refl)

pub parts_of-none : (xs : List ℕ) → 0 < length xs → ((k : ℕ) → k < length xs → (get_or xs k 0 == 10) ≡ false) → parts_of xs ≡ xs ∷ []
parts_of-none [] below none = absurd (omega arith)
parts_of-none (x ∷ []) below none = rw (none 0 (omega arith)) refl
parts_of-none (x ∷ y ∷ ys) below none =
    let rest = parts_of-none (y ∷ ys) (omega arith) (λ k under. none (suc k) (omega arith)) in
    rw (none 0 (omega arith), rest) refl

past_first : (n len : ℕ) → cond (nat_lt n len) (Some n) None ≡ None → len ≤ n
past_first n len none = grind (arith, nat_tests)

-- where no element passes, each one fails
pub fails-position-None : (p : ℕ → Bool) (xs : List ℕ) → position p xs ≡ None → (k : ℕ) → k < length xs → p (get_or xs k 0) ≡ false
fails-position-None p xs none k below =
    let past = past_first (position_or_len p xs) (length xs) none in
    fails_before_first p xs k 0 (omega arith)

pub before_comment-at : (mark : ℕ) (xs : List ℕ) (n : ℕ) → n < length xs → (get_or xs n 0 == mark) ≡ true → ((k : ℕ) → k < n → (get_or xs k 0 == mark) ≡ false)
    → before_comment mark xs ≡ take n xs
before_comment-at mark [] n below here before = absurd (omega arith)
before_comment-at mark (x ∷ xs) zero below here before = rw here refl
before_comment-at mark (x ∷ xs) (suc n) below here before =
    let rest = before_comment-at mark xs n (omega arith) here (λ k under. before (suc k) (omega arith)) in
    rw (before 0 (omega arith), rest) refl

pub before_comment-none : (mark : ℕ) (xs : List ℕ) → ((k : ℕ) → k < length xs → (get_or xs k 0 == mark) ≡ false) → before_comment mark xs ≡ xs
before_comment-none mark [] none = refl
before_comment-none mark (x ∷ xs) none =
    let rest = before_comment-none mark xs (λ k under. none (suc k) (omega arith)) in
    rw (none 0 (omega arith), rest) refl
