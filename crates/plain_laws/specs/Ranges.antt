-- Ranges of numbers.
use Rattle.std.proofs.Common.{◌≡◌, ◌∙◌, ℕ, zero, suc, ◌+◌, ◌<◌, Bool, List, [], ◌∷◌, ◌++◌, ap, sym, zero-add, arith, not, refl, false, ne_eqb, cond, ◌≢◌, ◌==◌, eq-eqb}
use Rattle.std.specs.Prelude.{filter, map, if◌then◌else◌}
use Rattle.std.specs.List.{All, AllByRecursion, range_with_len}
use Rattle.std.proofs.lemmas.List.{map-id}
use Rattle.std.proofs.lemmas.List.Elements.{All-from_get_or, filter-append}
use Rattle.std.proofs.lemmas.List.FromFn.{get_or-range_with_len, length-range_with_len, map-range_with_len_more}

pub range_more : (n : ℕ) → range_with_len 0 (n + 1) ≡ range_with_len 0 n ++ n ∷ []
range_more n =
    sym (map-id (range_with_len 0 (n + 1)))
    ∙ map-range_with_len_more (λ (z : ℕ). z) 0 n n (zero-add n)
    ∙ ap (λ (zs : List ℕ). zs ++ n ∷ []) (map-id (range_with_len 0 n))

pub filter-range_more : (p : ℕ → Bool) (n : ℕ) (b : Bool) → p n ≡ b → filter p (range_with_len 0 (n + 1)) ≡ filter p (range_with_len 0 n) ++ (if b then n ∷ [] else [])
filter-range_more p n b e =
    ap (filter p) (range_more n)
    ∙ filter-append p (range_with_len 0 n) (n ∷ [])
    ∙ ap (λ (t : Bool). filter p (range_with_len 0 n) ++ (if t then n ∷ [] else [])) e

pub range-below : (n : ℕ) → All (λ i. i < n) (range_with_len 0 n)
range-below n = All-from_get_or (λ i. i < n) (range_with_len 0 n) 0 (λ k below.
    let in_range : k < n = omega (arith, below, length-range_with_len 0 n) in
    omega (arith, get_or-range_with_len 0 n k 0 in_range, in_range))

-- what is so of each number of a range is so of what they are mapped to
pub All-map-range : {X : Type 0} (P : X → Type 0) (f : ℕ → X) (first count : ℕ) → ((n : ℕ) → n < first + count → P (f n)) → AllByRecursion P (map f (range_with_len first count))
All-map-range P f first zero each = tt
All-map-range P f first (suc count) each = (each first (omega arith), All-map-range P f (first + 1) count (λ n below. each n (omega arith)))

-- the numbers from one down to 1
abbrev pub down_from : ℕ → List ℕ
down_from zero = []
down_from (suc n) = suc n ∷ down_from n

-- a greater one is none of them
pub down_from-others_stay : (m gone : ℕ) → m < gone → filter (λ number. not (number == gone)) (down_from m) ≡ down_from m
down_from-others_stay zero gone below = refl
down_from-others_stay (suc m) gone below =
    let differs : suc m ≢ gone = λ same. absurd (omega (arith, same, below)) in
    let test : (suc m == gone) ≡ false = ne_eqb (suc m) gone differs in
    ap (λ (b : Bool). cond (not b) (suc m ∷ filter (λ number. not (number == gone)) (down_from m)) (filter (λ number. not (number == gone)) (down_from m))) test
    ∙ ap (λ (rest : List ℕ). suc m ∷ rest) (down_from-others_stay m gone (omega (arith, below)))

-- without the first
pub down_from-without_first : (m : ℕ) → filter (λ number. not (number == suc m)) (down_from (suc m)) ≡ down_from m
down_from-without_first m =
    ap (λ (b : Bool). cond (not b) (suc m ∷ filter (λ number. not (number == suc m)) (down_from m)) (filter (λ number. not (number == suc m)) (down_from m))) (eq-eqb (suc m) (suc m) refl)
    ∙ down_from-others_stay m (suc m) (omega arith)
