-- The first eight bytes of a path, as a number.
use Rattle.std.specs.Cmp.Lexicographic.{slice_cmp}
use Rattle.std.specs.declared.cmp.Ordering.{Ordering}
use Rattle.std.specs.declared.cmp.Ordering.TheVariants.{Less, Equal, Greater}
use Rattle.std.specs.Ordering.{nat_cmp, ordering_then}
use Rattle.std.proofs.Common.{◌≡◌, ℕ, zero, suc, ◌+◌, ◌-◌, ◌/◌, ◌%◌, ◌<◌, ◌≤◌, ⊎_elim, List, [], ◌∷◌, ◌++◌, length, take, replicate, refl, sym, ◌∙◌, ap, append_assoc, length-append, length-take, arith}
use Rattle.std.proofs.lemmas.Bool.{cases_lt}
use Rattle.std.proofs.lemmas.List.{take-append-le}
use Rattle.plain_laws.specs.Orderings.{nat_cmp-below, nat_cmp-above}
use Rattle.task_order.specs.PathCode.{digits, head_byte, item_rest, item, code_bytes, end_zeros, number_of, first_word}
use Rattle.task_order.specs.Laws.{LowerBeginningsComeFirst}
use Rattle.task_order.specs.SharedBytes.{IsPadded}
use Rattle.task_order.proofs.PathCode.{slice_cmp-code, head-few, head-many, rest-small, rest-few, rest-many}
use Rattle.task_order.proofs.Words.{AreBytes, AreBytes-take, AreBytes-push, slice_cmp-words}

-- ---- what is kept of them

-- what follows eight bytes doesn't matter
pub first_word-longer : (xs ys : List ℕ) → 8 ≤ length xs → first_word (xs ++ ys) ≡ first_word xs
first_word-longer xs ys long =
    ap (λ (bytes : List ℕ). number_of 0 (take 8 bytes)) (append_assoc xs ys (replicate 8 0))
    ∙ ap (number_of 0) (take-append-le 8 xs (ys ++ replicate 8 0) long ∙ sym (take-append-le 8 xs (replicate 8 0) long))

take-padded : (n pad : ℕ) (xs : List ℕ) (len : ℕ) → n ≤ pad → n ≤ length xs → IsPadded xs len → take n xs ≡ take n (take len xs ++ replicate pad 0)
take-padded zero pad xs len few within padded = refl
take-padded (suc n) zero xs len few within padded = absurd (omega arith)
take-padded (suc n) (suc pad) [] len few within padded = absurd (omega arith)
take-padded (suc n) (suc pad) (x ∷ xs) zero few within padded =
    ap (λ (first : ℕ). first ∷ take n xs) (padded 0 (omega arith))
    ∙ ap (λ (rest : List ℕ). 0 ∷ rest) (take-padded n pad xs 0 (omega arith) (omega arith) (λ k upto. padded (suc k) (omega arith)))
take-padded (suc n) (suc pad) (x ∷ xs) (suc len) few within padded =
    ap (λ (rest : List ℕ). x ∷ rest) (take-padded n (suc pad) xs len (omega arith) (omega arith) (λ k upto. padded (suc k) (omega arith)))

-- the first word of a place with zeros behind its bytes
pub first_word-padded : (rest : List ℕ) (len : ℕ) → 8 ≤ length rest → IsPadded rest len → number_of 0 (take 8 rest) ≡ first_word (take len rest)
first_word-padded rest len long padded = ap (number_of 0) (take-padded 8 8 rest len (omega arith) long padded)

-- ---- their order

then-Less : (o p q : Ordering) → (p ≡ Less → q ≡ Less) → ordering_then o p ≡ Less → ordering_then o q ≡ Less
then-Less Less p q tied is = refl
then-Less Equal p q tied is = tied is
then-Less Greater p q tied is = is

never_below_none : (x : ℕ) (xs : List ℕ) → slice_cmp nat_cmp xs [] ≡ Less → slice_cmp nat_cmp (x ∷ xs) [] ≡ Less
never_below_none x [] is = ap (λ (o : Ordering). ordering_then o Greater) is
never_below_none x (y ∷ xs) is = is

-- lists whose first places compare as `Less`, with zeros behind their ends, do so themselves
below-padded : (n x_pad y_pad : ℕ) (xs ys : List ℕ) → n ≤ x_pad → n ≤ y_pad
    → slice_cmp nat_cmp (take n (xs ++ replicate x_pad 0)) (take n (ys ++ replicate y_pad 0)) ≡ Less → slice_cmp nat_cmp xs ys ≡ Less
below-padded zero x_pad y_pad xs ys x_few y_few is = ap (λ (o : Ordering). ordering_then o (slice_cmp nat_cmp xs ys)) is
below-padded (suc n) zero y_pad xs ys x_few y_few is = absurd (omega arith)
below-padded (suc n) (suc x_pad) zero xs ys x_few y_few is = absurd (omega arith)
below-padded (suc n) (suc x_pad) (suc y_pad) [] [] x_few y_few is = below-padded n x_pad y_pad [] [] (omega arith) (omega arith) is
below-padded (suc n) (suc x_pad) (suc y_pad) [] (y ∷ ys) x_few y_few is = refl
below-padded (suc n) (suc x_pad) (suc y_pad) (zero ∷ xs) [] x_few y_few is =
    never_below_none 0 xs (below-padded n (suc x_pad) y_pad xs [] (omega arith) (omega arith) is)
below-padded (suc n) (suc x_pad) (suc y_pad) (suc x ∷ xs) [] x_few y_few is =
    sym (ap (λ (o : Ordering). ordering_then o (slice_cmp nat_cmp (take n (xs ++ replicate (suc x_pad) 0)) (take n (replicate y_pad 0)))) (nat_cmp-above (suc x) 0 (omega arith))) ∙ is
below-padded (suc n) (suc x_pad) (suc y_pad) (x ∷ xs) (y ∷ ys) x_few y_few is =
    then-Less (nat_cmp x y) _ _ (below-padded n (suc x_pad) (suc y_pad) xs ys (omega arith) (omega arith)) is

AreBytes-append : (xs ys : List ℕ) → AreBytes xs → AreBytes ys → AreBytes (xs ++ ys)
AreBytes-append [] ys x_bytes y_bytes k = y_bytes k
AreBytes-append (x ∷ xs) ys x_bytes y_bytes zero = x_bytes 0
AreBytes-append (x ∷ xs) ys x_bytes y_bytes (suc k) = AreBytes-append xs ys (λ j. x_bytes (suc j)) y_bytes k

AreBytes-none : AreBytes []
AreBytes-none k = omega arith

AreBytes-zeros : (count : ℕ) → AreBytes (replicate count 0)
AreBytes-zeros zero k = omega arith
AreBytes-zeros (suc count) zero = omega arith
AreBytes-zeros (suc count) (suc k) = AreBytes-zeros count k

AreBytes-digits : (count number : ℕ) → AreBytes (digits count number)
unfolding digits
AreBytes-digits zero number = AreBytes-none
AreBytes-digits (suc count) number = AreBytes-push (digits count (number / 256)) (number % 256) (AreBytes-digits count (number / 256)) (omega arith)

AreBytes-item : (run number : ℕ) → AreBytes (item run number)
AreBytes-item run number = ⊎_elim
    (λ (few : run < 15).
    let small_head : head_byte run number < 256 = rw (head-few run number few) (omega arith) in ⊎_elim
    (λ (small : number < 16).
    AreBytes-append (head_byte run number ∷ []) (item_rest run number) (AreBytes-push [] (head_byte run number) AreBytes-none small_head) (rw (rest-small run number few small) AreBytes-none))
    (λ (large : 16 ≤ number).
    AreBytes-append (head_byte run number ∷ []) (item_rest run number) (AreBytes-push [] (head_byte run number) AreBytes-none small_head) (rw (rest-few run number few large) (AreBytes-digits 4 number)))
    (cases_lt number 16))
    (λ (many : 15 ≤ run).
    let small_head : head_byte run number < 256 = rw (head-many run number many) (omega arith) in
    AreBytes-append (head_byte run number ∷ []) (item_rest run number) (AreBytes-push [] (head_byte run number) AreBytes-none small_head)
    (rw (rest-many run number many) (AreBytes-append (digits 8 (18446744073709551615 - run)) (digits 4 number) (AreBytes-digits 8 (18446744073709551615 - run)) (AreBytes-digits 4 number))))
    (cases_lt run 15)

AreBytes-code : (run : ℕ) (path : List ℕ) → AreBytes (code_bytes run path)
AreBytes-code run [] = AreBytes-none
AreBytes-code run (zero ∷ path) = AreBytes-code (run + 1) path
AreBytes-code run (suc n ∷ path) = AreBytes-append (item run (suc n)) (code_bytes 0 path) (AreBytes-item run (suc n)) (AreBytes-code 0 path)

length-first : (xs : List ℕ) → length (take 8 (xs ++ replicate 8 0)) ≡ 8
length-first xs = length-take 8 (xs ++ replicate 8 0) ∙ omega (arith, length-append xs (replicate 8 0))

pub below-first_word : (xs ys : List ℕ) → AreBytes xs → AreBytes ys → first_word xs < first_word ys → slice_cmp nat_cmp xs ys ≡ Less
below-first_word xs ys x_bytes y_bytes below =
    below-padded 8 8 8 xs ys (omega arith) (omega arith)
    (slice_cmp-words (take 8 (xs ++ replicate 8 0)) (take 8 (ys ++ replicate 8 0)) (length-first xs ∙ sym (length-first ys))
    (AreBytes-take 8 (xs ++ replicate 8 0) (AreBytes-append xs (replicate 8 0) x_bytes (AreBytes-zeros 8)))
    (AreBytes-take 8 (ys ++ replicate 8 0) (AreBytes-append ys (replicate 8 0) y_bytes (AreBytes-zeros 8)))
    ∙ nat_cmp-below (first_word xs) (first_word ys) below)

pub lower_beginnings_come_first : LowerBeginningsComeFirst
lower_beginnings_come_first a b a_fits b_fits below =
    slice_cmp-code 0 a b a_fits b_fits
    ∙ ap (λ (o : Ordering). ordering_then o (nat_cmp (end_zeros 0 a) (end_zeros 0 b))) (below-first_word (code_bytes 0 a) (code_bytes 0 b) (AreBytes-code 0 a) (AreBytes-code 0 b) below)
