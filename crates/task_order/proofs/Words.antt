-- How bytes compare that are read as numbers, and with zeros behind their end.
use Rattle.std.specs.Cmp.Lexicographic.{slice_cmp, nat_list_cmp_total}
use Rattle.std.specs.declared.cmp.Ordering.{Ordering}
use Rattle.std.specs.declared.cmp.Ordering.TheVariants.{Less, Equal}
use Rattle.std.specs.Ordering.{nat_cmp, ordering_then, ordering_reverse}
use Rattle.std.proofs.Common.{◌≡◌, ℕ, zero, suc, ◌+◌, ◌*◌, ◌<◌, ◌≤◌, List, [], ◌∷◌, ◌++◌, length, take, drop, get_or, refl, sym, ◌∙◌, ap, ◌≢◌, add-one, length-take, length-drop, arith}
use Rattle.std.specs.Int.{from_be_bytes, w64}
use Rattle.std.proofs.Math.Seq.{drop-cons}
use Rattle.std.proofs.lemmas.List.{drop_all}
use Rattle.std.proofs.lemmas.Bool.Decides.{nat_tests}
use Rattle.plain_laws.specs.Orderings.{nat_cmp-same, nat_cmp-below}
use Rattle.task_order.specs.PathCode.{number_of}
use Rattle.task_order.specs.SharedBytes.{IsPadded}
use Rattle.task_order.specs.Comparing.{then_assoc, then-Equal, then-decided}

-- each is below 256
abbrev pub AreBytes : List ℕ → Type 0
AreBytes xs = (k : ℕ) → get_or xs k 0 < 256

pub AreBytes-drop : (n : ℕ) (xs : List ℕ) → AreBytes xs → AreBytes (drop n xs)
AreBytes-drop zero xs bytes = bytes
AreBytes-drop (suc n) [] bytes = bytes
AreBytes-drop (suc n) (x ∷ xs) bytes = AreBytes-drop n xs (λ k. bytes (suc k))

pub AreBytes-take : (n : ℕ) (xs : List ℕ) → AreBytes xs → AreBytes (take n xs)
AreBytes-take zero xs bytes k = omega arith
AreBytes-take (suc n) [] bytes k = bytes k
AreBytes-take (suc n) (x ∷ xs) bytes zero = bytes 0
AreBytes-take (suc n) (x ∷ xs) bytes (suc k) = AreBytes-take n xs (λ j. bytes (suc j)) k

pub AreBytes-push : (xs : List ℕ) (y : ℕ) → AreBytes xs → y < 256 → AreBytes (xs ++ y ∷ [])
AreBytes-push [] y bytes small zero = small
AreBytes-push [] y bytes small (suc k) = omega arith
AreBytes-push (x ∷ xs) y bytes small zero = bytes 0
AreBytes-push (x ∷ xs) y bytes small (suc k) = AreBytes-push xs y (λ j. bytes (suc j)) small k

-- a digit decides where those before it are equal
pub nat_cmp-digit : (m n x y : ℕ) → x < 256 → y < 256 → nat_cmp (m * 256 + x) (n * 256 + y) ≡ ordering_then (nat_cmp m n) (nat_cmp x y)
nat_cmp-digit m n x y x_small y_small = grind (arith, nat_tests)

pub nat_cmp-number_of : (m n : ℕ) (xs ys : List ℕ) → length xs ≡ length ys → AreBytes xs → AreBytes ys
    → nat_cmp (number_of m xs) (number_of n ys) ≡ ordering_then (nat_cmp m n) (slice_cmp nat_cmp xs ys)
unfolding number_of
nat_cmp-number_of m n [] [] same x_bytes y_bytes = sym (then-Equal (nat_cmp m n))
nat_cmp-number_of m n [] (y ∷ ys) same x_bytes y_bytes = absurd (omega arith)
nat_cmp-number_of m n (x ∷ xs) [] same x_bytes y_bytes = absurd (omega arith)
nat_cmp-number_of m n (x ∷ xs) (y ∷ ys) same x_bytes y_bytes =
    nat_cmp-number_of (m * 256 + x) (n * 256 + y) xs ys (omega arith) (λ k. x_bytes (suc k)) (λ k. y_bytes (suc k))
    ∙ ap (λ (o : Ordering). ordering_then o (slice_cmp nat_cmp xs ys)) (nat_cmp-digit m n x y (x_bytes 0) (y_bytes 0))
    ∙ then_assoc (nat_cmp m n) (nat_cmp x y) _

-- bytes of one length compare as the numbers whose digits they are
pub slice_cmp-words : (xs ys : List ℕ) → length xs ≡ length ys → AreBytes xs → AreBytes ys → slice_cmp nat_cmp xs ys ≡ nat_cmp (number_of 0 xs) (number_of 0 ys)
slice_cmp-words xs ys same x_bytes y_bytes = sym (nat_cmp-number_of 0 0 xs ys same x_bytes y_bytes)

-- zeros are no later than other bytes, so that a lower number behind them decides
pub zeros-first : (xs ys : List ℕ) (m n : ℕ) → length xs ≡ length ys → IsPadded xs 0 → m < n → slice_cmp nat_cmp (xs ++ m ∷ []) (ys ++ n ∷ []) ≡ Less
zeros-first [] [] m n same zeros below = ap (λ (o : Ordering). ordering_then o Equal) (nat_cmp-below m n below)
zeros-first [] (y ∷ ys) m n same zeros below = absurd (omega arith)
zeros-first (x ∷ xs) [] m n same zeros below = absurd (omega arith)
zeros-first (x ∷ xs) (zero ∷ ys) m n same zeros below =
    let none : x ≡ 0 = zeros 0 (omega arith) in
    ap (λ (o : Ordering). ordering_then o (slice_cmp nat_cmp (xs ++ m ∷ []) (ys ++ n ∷ []))) (ap (λ (z : ℕ). nat_cmp z 0) none)
    ∙ zeros-first xs ys m n (omega arith) (λ k upto. zeros (suc k) (omega arith)) below
zeros-first (x ∷ xs) (suc y ∷ ys) m n same zeros below =
    let none : x ≡ 0 = zeros 0 (omega arith) in
    ap (λ (o : Ordering). ordering_then o (slice_cmp nat_cmp (xs ++ m ∷ []) (ys ++ n ∷ []))) (nat_cmp-below x (suc y) (omega arith))

-- bytes compare as they do with zeros behind their ends, and then their lengths
pub slice_cmp-padded : (xs ys : List ℕ) (m n m_len n_len : ℕ) → length xs ≡ length ys → m ≤ length xs → n ≤ length ys → IsPadded xs m → IsPadded ys n → m_len + n ≡ n_len + m
    → slice_cmp nat_cmp (xs ++ m_len ∷ []) (ys ++ n_len ∷ []) ≡ slice_cmp nat_cmp (take m xs) (take n ys)
slice_cmp-padded [] [] zero zero m_len n_len same m_in n_in x_zeros y_zeros lens =
    let equal : m_len ≡ n_len = omega arith in
    ap (λ (o : Ordering). ordering_then o Equal) (ap (nat_cmp m_len) (sym equal) ∙ nat_cmp-same m_len)
slice_cmp-padded [] [] (suc m) n m_len n_len same m_in n_in x_zeros y_zeros lens = absurd (omega arith)
slice_cmp-padded [] [] m (suc n) m_len n_len same m_in n_in x_zeros y_zeros lens = absurd (omega arith)
slice_cmp-padded [] (y ∷ ys) m n m_len n_len same m_in n_in x_zeros y_zeros lens = absurd (omega arith)
slice_cmp-padded (x ∷ xs) [] m n m_len n_len same m_in n_in x_zeros y_zeros lens = absurd (omega arith)
slice_cmp-padded (x ∷ xs) (y ∷ ys) zero zero m_len n_len same m_in n_in x_zeros y_zeros lens =
    let none : x ≡ 0 = x_zeros 0 (omega arith) in
    let other : y ≡ 0 = y_zeros 0 (omega arith) in
    let equal : x ≡ y = omega arith in
    ap (λ (o : Ordering). ordering_then o (slice_cmp nat_cmp (xs ++ m_len ∷ []) (ys ++ n_len ∷ []))) (ap (nat_cmp x) (sym equal) ∙ nat_cmp-same x)
    ∙ slice_cmp-padded xs ys 0 0 m_len n_len (omega arith) (omega arith) (omega arith) (λ k upto. x_zeros (suc k) (omega arith)) (λ k upto. y_zeros (suc k) (omega arith)) lens
slice_cmp-padded (x ∷ xs) (y ∷ ys) zero (suc n) m_len n_len same m_in n_in x_zeros y_zeros lens = zeros-first (x ∷ xs) (y ∷ ys) m_len n_len same x_zeros (omega arith)
slice_cmp-padded (x ∷ xs) (y ∷ ys) (suc m) zero m_len n_len same m_in n_in x_zeros y_zeros lens =
    nat_list_cmp_total.antisymm (x ∷ xs ++ m_len ∷ []) (y ∷ ys ++ n_len ∷ []) ∙ ap ordering_reverse (zeros-first (y ∷ ys) (x ∷ xs) n_len m_len (sym same) y_zeros (omega arith))
slice_cmp-padded (x ∷ xs) (y ∷ ys) (suc m) (suc n) m_len n_len same m_in n_in x_zeros y_zeros lens =
    ap (ordering_then (nat_cmp x y))
    (slice_cmp-padded xs ys m n (m_len) (n_len) (omega arith) (omega arith) (omega arith) (λ k upto. x_zeros (suc k) (omega arith)) (λ k upto. y_zeros (suc k) (omega arith)) (omega arith))

-- the first word decides, and else what is behind it
pub slice_cmp-split : (n : ℕ) (xs ys us vs : List ℕ) → length xs ≡ length ys
    → slice_cmp nat_cmp (xs ++ us) (ys ++ vs) ≡ ordering_then (slice_cmp nat_cmp (take n xs) (take n ys)) (slice_cmp nat_cmp (drop n xs ++ us) (drop n ys ++ vs))
slice_cmp-split zero xs ys us vs same = refl
slice_cmp-split (suc n) [] [] us vs same = refl
slice_cmp-split (suc n) [] (y ∷ ys) us vs same = absurd (omega arith)
slice_cmp-split (suc n) (x ∷ xs) [] us vs same = absurd (omega arith)
slice_cmp-split (suc n) (x ∷ xs) (y ∷ ys) us vs same =
    ap (ordering_then (nat_cmp x y)) (slice_cmp-split n xs ys us vs (omega arith)) ∙ sym (then_assoc (nat_cmp x y) _ _)

-- ---- words of eight

pub take-step : (n i next : ℕ) (s : List ℕ) → next ≡ i + 1 → i < length s → take (suc n) (drop i s) ≡ get_or s i 0 ∷ take n (drop next s)
take-step n i next s is inside = rw (is, add-one) (ap (take (suc n)) (drop-cons s i 0 inside))

pub number_of-eight : (p q r s t u v w : ℕ) → from_be_bytes w64 (p ∷ q ∷ r ∷ s ∷ t ∷ u ∷ v ∷ w ∷ []) ≡ number_of 0 (p ∷ q ∷ r ∷ s ∷ t ∷ u ∷ v ∷ w ∷ [])
unfolding number_of
number_of-eight p q r s t u v w = omega arith

pub take-eight : (s : List ℕ) (i : ℕ) → i + 8 ≤ length s
    → take 8 (drop i s) ≡ get_or s i 0 ∷ get_or s (i + 1) 0 ∷ get_or s (i + 2) 0 ∷ get_or s (i + 3) 0 ∷ get_or s (i + 4) 0 ∷ get_or s (i + 5) 0 ∷ get_or s (i + 6) 0 ∷ get_or s (i + 7) 0 ∷ []
take-eight s i inside =
    take-step 7 i (i + 1) s (omega arith) (omega arith)
    ∙ ap (λ (t : List ℕ). get_or s i 0 ∷ t) (take-step 6 (i + 1) (i + 2) s (omega arith) (omega arith)
    ∙ ap (λ (t : List ℕ). get_or s (i + 1) 0 ∷ t) (take-step 5 (i + 2) (i + 3) s (omega arith) (omega arith)
    ∙ ap (λ (t : List ℕ). get_or s (i + 2) 0 ∷ t) (take-step 4 (i + 3) (i + 4) s (omega arith) (omega arith)
    ∙ ap (λ (t : List ℕ). get_or s (i + 3) 0 ∷ t) (take-step 3 (i + 4) (i + 5) s (omega arith) (omega arith)
    ∙ ap (λ (t : List ℕ). get_or s (i + 4) 0 ∷ t) (take-step 2 (i + 5) (i + 6) s (omega arith) (omega arith)
    ∙ ap (λ (t : List ℕ). get_or s (i + 5) 0 ∷ t) (take-step 1 (i + 6) (i + 7) s (omega arith) (omega arith)
    ∙ ap (λ (t : List ℕ). get_or s (i + 6) 0 ∷ t) (take-step 0 (i + 7) (i + 8) s (omega arith) (omega arith))))))))

-- what is behind the first word, by the second word and then the lengths
slice_cmp-behind_first : (a b : List ℕ) (m n : ℕ) → length a ≡ 16 → length b ≡ 16 → AreBytes a → AreBytes b
    → slice_cmp nat_cmp (drop 8 a ++ m ∷ []) (drop 8 b ++ n ∷ []) ≡ ordering_then (nat_cmp (number_of 0 (take 8 (drop 8 a))) (number_of 0 (take 8 (drop 8 b)))) (nat_cmp m n)
slice_cmp-behind_first a b m n a_places b_places a_bytes b_bytes =
    let same : length (drop 8 a) ≡ length (drop 8 b) = simp length-drop (omega arith) in
    slice_cmp-split 8 (drop 8 a) (drop 8 b) (m ∷ []) (n ∷ []) same
    ∙ rw (drop_all 8 (drop 8 a) (simp length-drop (omega arith)), drop_all 8 (drop 8 b) (simp length-drop (omega arith)), then-Equal (nat_cmp m n)) (
    ap (λ (o : Ordering). ordering_then o (nat_cmp m n))
    (slice_cmp-words (take 8 (drop 8 a)) (take 8 (drop 8 b)) (simp (length-take, length-drop) (omega arith)) (AreBytes-take 8 (drop 8 a) (AreBytes-drop 8 a a_bytes)) (AreBytes-take 8 (drop 8 b) (AreBytes-drop 8 b b_bytes))))

-- bytes in place, by the first word, then the second and then the lengths
pub slice_cmp-in_place : (a b : List ℕ) (m n : ℕ) → length a ≡ 16 → length b ≡ 16 → AreBytes a → AreBytes b → m ≤ 16 → n ≤ 16 → IsPadded a m → IsPadded b n
    → slice_cmp nat_cmp (take m a) (take n b)
    ≡ ordering_then (nat_cmp (number_of 0 (take 8 a)) (number_of 0 (take 8 b))) (ordering_then (nat_cmp (number_of 0 (take 8 (drop 8 a))) (number_of 0 (take 8 (drop 8 b)))) (nat_cmp m n))
slice_cmp-in_place a b m n a_places b_places a_bytes b_bytes m_within n_within a_padded b_padded =
    sym (slice_cmp-padded a b m n m n (omega arith) (omega arith) (omega arith) a_padded b_padded (omega arith))
    ∙ slice_cmp-split 8 a b (m ∷ []) (n ∷ []) (omega arith)
    ∙ ap (λ (o : Ordering). ordering_then o (slice_cmp nat_cmp (drop 8 a ++ m ∷ []) (drop 8 b ++ n ∷ [])))
    (slice_cmp-words (take 8 a) (take 8 b) (simp length-take (omega arith)) (AreBytes-take 8 a a_bytes) (AreBytes-take 8 b b_bytes))
    ∙ ap (ordering_then (nat_cmp (number_of 0 (take 8 a)) (number_of 0 (take 8 b)))) (slice_cmp-behind_first a b m n a_places b_places a_bytes b_bytes)

-- ---- an order that is found in two steps

pub tied-then : (whole first behind o p : Ordering) → whole ≡ ordering_then first behind → o ≡ first → o ≡ Equal → p ≡ behind → p ≡ whole
tied-then whole first behind o p steps is tied behind_is = behind_is ∙ ap (λ (q : Ordering). ordering_then q behind) (sym tied ∙ is) ∙ sym steps

pub decided-then : (whole first behind o : Ordering) → whole ≡ ordering_then first behind → o ≡ first → o ≢ Equal → o ≡ whole
decided-then whole first behind o steps is decided = sym (then-decided o behind decided) ∙ ap (λ (q : Ordering). ordering_then q behind) is ∙ sym steps
