-- The least number at a word, where marks come and views change.
use Rattle.std.proofs.Common.{◌≡◌, ◌≢◌, ℕ, zero, suc, ◌<◌, ◌≤◌, ◌==◌, min, List, [], ◌∷◌, ◌++◌, set, refl, sym, ap, true, false, cond, arith}
use Rattle.std.proofs.lemmas.Bool.Decides.{nat_tests}
use mathlib.Core.Option.{some-injective, some-ne-none}
use Rattle.mark_board.specs.declared.view.Mark.{Mark}
use Rattle.mark_board.specs.declared.view.View.{View}
use Rattle.mark_board.specs.Board.{IsAt}
use Rattle.mark_board.specs.Words.{least_at, least_of, no_rank, word_of}

-- ---- marks

pub least_below : (word : ℕ) (marks : List Mark) → least_at word marks ≤ no_rank
least_below word [] = omega arith
least_below word (mark ∷ marks) =
    let rest = least_below word marks in
    elim (word_of mark.loc mark.access == word) as (λ b. cond b (min mark.rank (least_at word marks)) (least_at word marks) ≤ no_rank) [
      | true ↦ omega (arith, rest)
      | false ↦ rest
    ]

pub least_append : (word : ℕ) (marks more : List Mark) → least_at word (marks ++ more) ≡ min (least_at word marks) (least_at word more)
least_append word [] more = let bound = least_below word more in omega (arith, bound)
least_append word (mark ∷ marks) more =
    let rest = least_append word marks more in
    elim (word_of mark.loc mark.access == word)
    as (λ b. cond b (min mark.rank (least_at word (marks ++ more))) (least_at word (marks ++ more)) ≡ min (cond b (min mark.rank (least_at word marks)) (least_at word marks)) (least_at word more)) [
      | true ↦ omega (arith, rest)
      | false ↦ rest
    ]

-- one mark alone
pub least_here : (word : ℕ) (mark : Mark) → word_of mark.loc mark.access ≡ word → mark.rank < no_rank → least_at word (mark ∷ []) ≡ mark.rank
least_here word mark is below = let test : (word_of mark.loc mark.access == word) ≡ true = grind (arith, nat_tests, is) in rw test (omega (arith, below))

pub least_elsewhere : (word : ℕ) (mark : Mark) → word_of mark.loc mark.access ≢ word → least_at word (mark ∷ []) ≡ no_rank
least_elsewhere word mark other = let test : (word_of mark.loc mark.access == word) ≡ false = grind (arith, nat_tests, other) in rw test refl

pub least_head : (word : ℕ) (mark : Mark) → word_of mark.loc mark.access ≡ word → least_at word (mark ∷ []) ≡ min mark.rank no_rank
least_head word mark is = let test : (word_of mark.loc mark.access == word) ≡ true = grind (arith, nat_tests, is) in rw test refl

-- ---- views

pub least_of_below : (word : ℕ) (views : List View) → least_of word views ≤ no_rank
least_of_below word [] = omega arith
least_of_below word (v ∷ views) = let rest = least_of_below word views in omega (arith, rest)

-- one view's least number sinks to k, and with it that of all
pub least_sinks : (word k : ℕ) (views : List View) (place : ℕ) (v w : View) → IsAt views place v → least_at word w.marks ≡ min (least_at word v.marks) k
    → least_of word (set views place w) ≡ min (least_of word views) k
least_sinks word k [] place v w at lower = absurd (some-ne-none v (sym at))
least_sinks word k (u ∷ views) zero v w at lower =
    let same : least_at word u.marks ≡ least_at word v.marks = ap (λ (x : View). least_at word x.marks) (some-injective u v at) in
    omega (arith, lower, same)
least_sinks word k (u ∷ views) (suc place) v w at lower =
    let rest = least_sinks word k views place v w at lower in omega (arith, rest)

pub least_same : (word : ℕ) (views : List View) (place : ℕ) (v w : View) → IsAt views place v → least_at word w.marks ≡ least_at word v.marks
    → least_of word (set views place w) ≡ least_of word views
least_same word views place v w at same =
    let below = least_below word v.marks in
    let bound = least_of_below word views in
    let lower : least_at word w.marks ≡ min (least_at word v.marks) no_rank = omega (arith, same, below) in
    let sinks = least_sinks word no_rank views place v w at lower in
    omega (arith, sinks, bound)

-- who has no marks may stand at the end
pub least_end : (word : ℕ) (views : List View) (v : View) → v.marks ≡ [] → least_of word (views ++ v ∷ []) ≡ least_of word views
least_end word [] v none = let least : least_at word v.marks ≡ no_rank = ap (least_at word) none in omega (arith, least)
least_end word (u ∷ views) v none = let rest = least_end word views v none in omega (arith, rest)

-- the least number of all is that of one and that of the others
pub least_apart : (word : ℕ) (views : List View) (place : ℕ) (v none : View) → IsAt views place v → none.marks ≡ []
    → least_of word views ≡ min (least_at word v.marks) (least_of word (set views place none))
least_apart word [] place v none at empty = absurd (some-ne-none v (sym at))
least_apart word (u ∷ views) zero v none at empty =
    let same : least_at word u.marks ≡ least_at word v.marks = ap (λ (x : View). least_at word x.marks) (some-injective u v at) in
    let least : least_at word none.marks ≡ no_rank = ap (least_at word) empty in
    let bound = least_of_below word views in
    omega (arith, same, least, bound)
least_apart word (u ∷ views) (suc place) v none at empty =
    let rest = least_apart word views place v none at empty in omega (arith, rest)

-- where nobody has marks, there is no least number
pub least_none : (word : ℕ) (views : List View) → ((place : ℕ) (v : View) → IsAt views place v → v.marks ≡ []) → least_of word views ≡ no_rank
least_none word [] none = refl
least_none word (v ∷ views) none =
    let here : least_at word v.marks ≡ no_rank = ap (least_at word) (none 0 v refl) in
    let rest = least_none word views (λ place u at. none (suc place) u at) in
    omega (arith, here, rest)
