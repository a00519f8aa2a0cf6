-- How lists compare that begin alike or are joined of parts: laws with their proofs.
use Rattle.std.specs.Cmp.{tied_itself}
use Rattle.std.specs.Cmp.Lexicographic.{slice_cmp, nat_list_cmp_total}
use Rattle.std.specs.declared.cmp.Ordering.{Ordering}
use Rattle.std.specs.declared.cmp.Ordering.TheVariants.{Less, Equal, Greater}
use Rattle.std.specs.Ordering.{nat_cmp, ordering_then, ordering_reverse}
use Rattle.std.proofs.Common.{◌≡◌, ◌≢◌, ℕ, ◌<◌, ◌≤◌, List, [], ◌∷◌, ◌++◌, length, take, drop, take-append-drop, refl, sym, ◌∙◌, ap, append_assoc, arith}
use Rattle.plain_laws.specs.Orderings.{nat_cmp-below}

pub then-Equal : (o : Ordering) → ordering_then o Equal ≡ o
then-Equal Less = refl
then-Equal Equal = refl
then-Equal Greater = refl

pub then_assoc : (o p q : Ordering) → ordering_then (ordering_then o p) q ≡ ordering_then o (ordering_then p q)
then_assoc Less p q = refl
then_assoc Equal p q = refl
then_assoc Greater p q = refl

pub reverse-then : (o p : Ordering) → ordering_reverse (ordering_then o p) ≡ ordering_then (ordering_reverse o) (ordering_reverse p)
reverse-then Less p = refl
reverse-then Equal p = refl
reverse-then Greater p = refl

pub slice_cmp-same : (xs : List ℕ) → slice_cmp nat_cmp xs xs ≡ Equal
slice_cmp-same = tied_itself nat_list_cmp_total

-- parts of one length decide one after another
pub slice_cmp-append : (xs ys us vs : List ℕ) → length xs ≡ length ys
    → slice_cmp nat_cmp (xs ++ us) (ys ++ vs) ≡ ordering_then (slice_cmp nat_cmp xs ys) (slice_cmp nat_cmp us vs)
slice_cmp-append [] [] us vs same = refl
slice_cmp-append [] (y ∷ ys) us vs same = absurd (omega arith)
slice_cmp-append (x ∷ xs) [] us vs same = absurd (omega arith)
slice_cmp-append (x ∷ xs) (y ∷ ys) us vs same =
    ap (ordering_then (nat_cmp x y)) (slice_cmp-append xs ys us vs (omega arith)) ∙ sym (then_assoc (nat_cmp x y) _ _)

pub slice_cmp-behind : (xs us vs : List ℕ) → slice_cmp nat_cmp (xs ++ us) (xs ++ vs) ≡ slice_cmp nat_cmp us vs
slice_cmp-behind xs us vs = slice_cmp-append xs xs us vs refl ∙ ap (λ o. ordering_then o (slice_cmp nat_cmp us vs)) (slice_cmp-same xs)

-- a list that is shorter than another is decided by it, whatever follows the other
pub slice_cmp-shorter : (xs ys more : List ℕ) → length xs < length ys → slice_cmp nat_cmp xs (ys ++ more) ≡ slice_cmp nat_cmp xs ys
slice_cmp-shorter xs [] more shorter = absurd (omega arith)
slice_cmp-shorter [] (y ∷ ys) more shorter = refl
slice_cmp-shorter (x ∷ xs) (y ∷ ys) more shorter = ap (ordering_then (nat_cmp x y)) (slice_cmp-shorter xs ys more (omega arith))

-- a list that is no longer than another comes first where both are equal so far, and more follows the other
pub slice_cmp-ends : (xs ys more : List ℕ) → length xs ≤ length ys → 0 < length more → slice_cmp nat_cmp xs (ys ++ more) ≡ ordering_then (slice_cmp nat_cmp xs ys) Less
slice_cmp-ends xs ys [] upto goes_on = absurd (omega arith)
slice_cmp-ends [] [] (m ∷ more) upto goes_on = refl
slice_cmp-ends [] (y ∷ ys) (m ∷ more) upto goes_on = refl
slice_cmp-ends (x ∷ xs) [] (m ∷ more) upto goes_on = absurd (omega arith)
slice_cmp-ends (x ∷ xs) (y ∷ ys) (m ∷ more) upto goes_on =
    ap (ordering_then (nat_cmp x y)) (slice_cmp-ends xs ys (m ∷ more) (omega arith) goes_on) ∙ sym (then_assoc (nat_cmp x y) _ _)

-- what more follows doesn't matter where a tie is taken for `Less`
pub slice_cmp-upto : (xs ys more : List ℕ) → length xs ≤ length ys → ordering_then (slice_cmp nat_cmp xs (ys ++ more)) Less ≡ ordering_then (slice_cmp nat_cmp xs ys) Less
slice_cmp-upto [] [] [] upto = refl
slice_cmp-upto [] [] (m ∷ more) upto = refl
slice_cmp-upto [] (y ∷ ys) more upto = refl
slice_cmp-upto (x ∷ xs) [] more upto = absurd (omega arith)
slice_cmp-upto (x ∷ xs) (y ∷ ys) more upto =
    then_assoc (nat_cmp x y) _ _ ∙ ap (ordering_then (nat_cmp x y)) (slice_cmp-upto xs ys more (omega arith)) ∙ sym (then_assoc (nat_cmp x y) _ _)

-- an answer other than `Equal` stands
pub then-decided : (o p : Ordering) → o ≢ Equal → ordering_then o p ≡ o
then-decided Less p decided = refl
then-decided Equal p decided = absurd (decided refl)
then-decided Greater p decided = refl

pub append-tied : (xs ys us vs : List ℕ) (o : Ordering) → length xs ≡ length ys → o ≡ slice_cmp nat_cmp xs ys → o ≡ Equal → slice_cmp nat_cmp (xs ++ us) (ys ++ vs) ≡ slice_cmp nat_cmp us vs
append-tied xs ys us vs o same is tied =
    slice_cmp-append xs ys us vs same ∙ ap (λ (p : Ordering). ordering_then p (slice_cmp nat_cmp us vs)) (sym is ∙ tied)

pub append-decided : (xs ys us vs : List ℕ) (o : Ordering) → length xs ≡ length ys → o ≡ slice_cmp nat_cmp xs ys → o ≢ Equal → o ≡ slice_cmp nat_cmp (xs ++ us) (ys ++ vs)
append-decided xs ys us vs o same is decided =
    sym (slice_cmp-append xs ys us vs same ∙ ap (λ (p : Ordering). ordering_then p (slice_cmp nat_cmp us vs)) (sym is) ∙ then-decided o _ decided)

pub split-joined : (n : ℕ) (xs first last : List ℕ) → first ≡ take n xs → last ≡ drop n xs → first ++ last ≡ xs
split-joined n xs first last is_first is_last = rw (is_first, is_last) (take-append-drop n xs)

-- the first list comes before the second, whatever follows them
pub record IsBelow (xs ys : List ℕ) : Type 0 where
  pub before : (us vs : List ℕ) → slice_cmp nat_cmp (xs ++ us) (ys ++ vs) ≡ Less

pub IsBelow-first : (x y : ℕ) (xs ys : List ℕ) → x < y → IsBelow (x ∷ xs) (y ∷ ys)
IsBelow-first x y xs ys below = record { before = λ us vs. ap (λ o. ordering_then o (slice_cmp nat_cmp (xs ++ us) (ys ++ vs))) (nat_cmp-below x y below) }

pub IsBelow-append : (xs ys us vs : List ℕ) → IsBelow xs ys → IsBelow (xs ++ us) (ys ++ vs)
IsBelow-append xs ys us vs below = record { before = λ ss ts. rw (append_assoc xs us ss, append_assoc ys vs ts) (below.before (us ++ ss) (vs ++ ts)) }

pub IsBelow-behind : (xs us vs : List ℕ) → IsBelow us vs → IsBelow (xs ++ us) (xs ++ vs)
IsBelow-behind xs us vs below =
    record { before = λ ss ts. rw (append_assoc xs us ss, append_assoc xs vs ts) (slice_cmp-behind xs (us ++ ss) (vs ++ ts) ∙ below.before ss ts) }
