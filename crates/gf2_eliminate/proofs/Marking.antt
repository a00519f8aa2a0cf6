-- Numbers in turn, and what one of so many has, one more at a time.
use Rattle.std.specs.Prelude.{◌≡◌, ℕ, zero, suc, ◌+◌, ◌<◌, Bool, true, false, ◌||◌, List, [], ◌∷◌, ◌++◌, length, take, refl}
use Rattle.std.specs.List.{list_any}
use Rattle.std.proofs.Common.{arith, sym, ap, ◌∙◌, add-one, get_or}
use Rattle.std.proofs.lemmas.List.{take_more}
use Rattle.plain_laws.specs.Bools.{or_false}
use Rattle.mtx_reader.specs.Ascending.{numbers_from}

numbers_more : (first count : ℕ) → numbers_from first (suc count) ≡ numbers_from first count ++ (first + count) ∷ []
numbers_more first zero = let same : first ≡ first + 0 = omega arith in ap (λ n. n ∷ []) same
numbers_more first (suc count) =
    let same : suc first + count ≡ first + suc count = omega arith in
    ap (λ ns. first ∷ ns) (numbers_more (suc first) count ∙ ap (λ n. numbers_from (suc first) count ++ n ∷ []) same)

pub numbers_to : (count : ℕ) → numbers_from 0 (count + 1) ≡ numbers_from 0 count ++ count ∷ []
numbers_to count = let same : 0 + count ≡ count = omega arith in rw add-one (numbers_more 0 count ∙ ap (λ n. numbers_from 0 count ++ n ∷ []) same)

pub or_assoc : (a b c : Bool) → ((a || b) || c) ≡ (a || (b || c))
or_assoc true b c = refl
or_assoc false b c = refl

pub any_append : (test : ℕ → Bool) (ns : List ℕ) (n : ℕ) → list_any test (ns ++ n ∷ []) ≡ (list_any test ns || test n)
any_append test [] n = or_false (test n)
any_append test (m ∷ ns) n = ap (λ b. test m || b) (any_append test ns n) ∙ sym (or_assoc (test m) (list_any test ns) (test n))

-- one row more
pub any_more : (test : ℕ → Bool) (numbers : List ℕ) (i : ℕ) → i < length numbers → list_any test (take (i + 1) numbers) ≡ (list_any test (take i numbers) || test (get_or numbers i 0))
any_more test numbers i below = ap (list_any test) (take_more numbers i 0 below) ∙ any_append test (take i numbers) (get_or numbers i 0)
