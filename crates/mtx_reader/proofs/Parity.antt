-- The places that are named an odd number of times by entries of odd values are those where the sum of all values is odd.
use Rattle.std.specs.Prelude.{◌≡◌, ℕ, suc, ◌+◌, ◌-◌, ◌%◌, ◌==◌, ltb, ℤ, pos, negsuc, ◌+ℤ◌, unsigned_abs, Bool, true, false, cond, List, [], ◌∷◌, ◌++◌, map, refl}
use Rattle.std.proofs.Common.{arith, ap, ◌∙◌, zero-add}
use Rattle.std.proofs.lemmas.Bool.{eqb-true, eqb-false, ltb-true, ltb-false}
use Rattle.std.proofs.lemmas.List.Elements.{filter_agree}
use Rattle.mtx_reader.specs.declared.banner.Field.{Field}
use Rattle.mtx_reader.specs.declared.banner.Field.TheVariants.{Pattern, Integer}
use Rattle.mtx_reader.specs.Addends.{Addend, sum_at, is_odd, ones_among}
use Rattle.mtx_reader.specs.Places.{Place, is_same, places_from, places_among}
use Rattle.mtx_reader.specs.Readings.{is_kept, kept_places, ones_by}
use Rattle.mtx_reader.proofs.Times.{times, times-cons, once-at_same, once-at_other}

pub kept-append : (field : Field) (addends more : List Addend) → kept_places field (addends ++ more) ≡ kept_places field addends ++ kept_places field more
kept-append field [] more = refl
kept-append field (addend ∷ addends) more = by_test (kept-append field addends more) (is_kept field addend.1)
  where
    by_test : kept_places field (addends ++ more) ≡ kept_places field addends ++ kept_places field more → (b : Bool)
        → cond b (addend.0 ∷ kept_places field (addends ++ more)) (kept_places field (addends ++ more)) ≡ cond b (addend.0 ∷ kept_places field addends) (kept_places field addends) ++ kept_places field more
    by_test rest true = ap (λ places. addend.0 ∷ places) rest
    by_test rest false = rest

-- the sum of two numbers is odd where just one of them is
sub-parity : (a b : ℕ) → unsigned_abs (pos a +ℤ negsuc b) % 2 ≡ (a + suc b) % 2
sub-parity a b = by_test (ltb a (suc b)) refl
  where
    by_test : (less : Bool) → ltb a (suc b) ≡ less → unsigned_abs (cond less (negsuc (suc b - suc a)) (pos (a - suc b))) % 2 ≡ (a + suc b) % 2
    by_test true is = let below = ltb-true a (suc b) is in omega arith
    by_test false is = let above = ltb-false a (suc b) is in omega arith

sum-parity : (a b : ℤ) → unsigned_abs (a +ℤ b) % 2 ≡ (unsigned_abs a + unsigned_abs b) % 2
sum-parity (pos a) (pos b) = refl
sum-parity (pos a) (negsuc b) = sub-parity a b
sum-parity (negsuc a) (pos b) = sub-parity b a ∙ (let e : b + suc a ≡ suc a + b = omega arith in ap (λ n. n % 2) e)
sum-parity (negsuc a) (negsuc b) = let e : suc (suc (a + b)) ≡ suc a + suc b = omega arith in ap (λ n. n % 2) e

one_more : (count total value sum : ℕ) → value % 2 ≡ 1 → count % 2 ≡ total % 2 → sum % 2 ≡ (value + total) % 2 → (1 + count) % 2 ≡ sum % 2
one_more count total value sum odd same both = omega arith

none_more : (count total value sum : ℕ) → (value % 2 ≡ 1 → ⊥) → count % 2 ≡ total % 2 → sum % 2 ≡ (value + total) % 2 → count % 2 ≡ sum % 2
none_more count total value sum even same both = omega (arith, even)

-- one entry more
kept-step : (kept same : Bool) (value total : ℤ) (place at : Place) (places : List Place) → is_odd value ≡ kept → is_same place at ≡ same → times place places % 2 ≡ unsigned_abs total % 2
    → times place (cond kept (at ∷ places) places) % 2 ≡ unsigned_abs (cond same (value +ℤ total) total) % 2
kept-step true true value total place at places odd same rest =
    ap (λ n. n % 2) (times-cons place at places ∙ ap (λ n. n + times place places) (once-at_same place at same))
    ∙ one_more (times place places) (unsigned_abs total) (unsigned_abs value) (unsigned_abs (value +ℤ total)) (eqb-true (unsigned_abs value % 2) 1 odd) rest (sum-parity value total)
kept-step true false value total place at places odd same rest =
    ap (λ n. n % 2) (times-cons place at places ∙ ap (λ n. n + times place places) (once-at_other place at same) ∙ zero-add (times place places)) ∙ rest
kept-step false true value total place at places odd same rest =
    none_more (times place places) (unsigned_abs total) (unsigned_abs value) (unsigned_abs (value +ℤ total)) (eqb-false (unsigned_abs value % 2) 1 odd) rest (sum-parity value total)
kept-step false false value total place at places odd same rest = rest

kept-parity : (addends : List Addend) (place : Place) → times place (kept_places Integer addends) % 2 ≡ unsigned_abs (sum_at addends place) % 2
kept-parity [] place = refl
kept-parity (addend ∷ addends) place =
    kept-step (is_odd addend.1) (is_same place addend.0) addend.1 (sum_at addends place) place addend.0 (kept_places Integer addends) refl refl (kept-parity addends place)

kept-all : (addends : List Addend) → kept_places Pattern addends ≡ map (λ (addend : Addend). addend.0) addends
kept-all [] = refl
kept-all (addend ∷ addends) = ap (λ places. addend.0 ∷ places) (kept-all addends)

-- the places that the reader finds by those that it keeps
pub ones-kept : (field : Field) (rows columns : ℕ) (addends : List Addend) → ones_by field rows columns (kept_places field addends) ≡ ones_among field rows columns addends
ones-kept Pattern rows columns addends = ap (places_among rows columns) (kept-all addends)
ones-kept Integer rows columns addends =
    filter_agree (λ place. times place (kept_places Integer addends) % 2 == 1) (λ place. is_odd (sum_at addends place)) (λ place. ap (λ n. n == 1) (kept-parity addends place)) (places_from 1 rows columns)
