-- Sets of places as words, and what changes of bits make of them.
use Rattle.std.specs.Prelude.{◌≡◌, ℕ, zero, suc, ◌+◌, ◌*◌, ◌/◌, ◌%◌, ◌^◌, ◌<◌, ◌≤◌, Bool, true, false, not, ◌&&◌, ◌||◌, ◌==◌, List, [], ◌∷◌, ◌++◌, length, filter, take, slice_set, max, bit_and, bit_or, bit_xor, refl}
use Rattle.std.specs.Int.{bit_at, bit_not}
use Rattle.std.specs.List.{AllByRecursion}
use Rattle.std.specs.Ordering.{nat_cmp}
use Rattle.std.specs.declared.cmp.Ordering.TheVariants.{Less}
use Rattle.std.proofs.Common.{◌⊎◌, inl, inr, arith, sym, ap, ◌∙◌, get_or, w64}
use Rattle.std.proofs.lemmas.Bool.{and_parts, and_from, and_right, cases_eq, cases_lt, eq-eqb, ne_eqb, or_right, true≢false, false_from_ne_true}
use Rattle.std.proofs.lemmas.List.{get_or-set_other, get_or-set_same, get_or-take, get_or_past, length-take}
use Rattle.std.proofs.lemmas.Nat.Bits.{bit_at-lt, bit_at-zero, bit_at_clear_other, bit_at_clear_same, bit_at_or, bit_at_set_other, bit_at_set_same, bit_at_xor, same_from_bits}
use Rattle.plain_laws.specs.Bools.{same_tests, and_true, or_false}
use Rattle.plain_laws.specs.Orderings.{nat_cmp-below}
use Rattle.mtx_reader.specs.Ascending.{IsAscendingBy, numbers_from, all_in, all_from_in, in_filter, from_filter, in_numbers, ascending_filter, ascending_numbers, ascending_push, same_numbers}
use Rattle.gf2_eliminate.specs.Ones.{has_bit, places_of}
use Rattle.gf2_eliminate.specs.Lines.{has, IsListTo}
use Rattle.gf2_eliminate.specs.Elimination.{exactly_one}
use Rattle.gf2_eliminate.specs.Plans.{sum_to}
use Rattle.gf2_eliminate.specs.Membership.{in_has, has_in, list_is_listed}
use Rattle.gf2_eliminate.proofs.Marking.{any_append}

-- a bit that is set is one of the words
bit_within : (words : List ℕ) (n : ℕ) → has_bit words n ≡ true → n < 64 * length words
bit_within words n is-set = elim (cases_lt n (64 * length words)) [
  | inl below ↦ below
  | inr past ↦
      absurd (true≢false (sym is-set ∙ ap (λ word. bit_at word (n % 64) == 1) (get_or_past words (n / 64) 0 (omega (arith, past))) ∙ ap (λ b. b == 1) (bit_at-zero (n % 64))))
]

pub ascending_places : (words : List ℕ) → IsAscendingBy nat_cmp (places_of words)
ascending_places words = ascending_filter nat_cmp (has_bit words) (numbers_from 0 (64 * length words)) (ascending_numbers 0 (64 * length words))

-- a set has the places whose bits are set
pub has_places : (words : List ℕ) (n : ℕ) → has (places_of words) n ≡ has_bit words n
has_places words n = same_tests (has (places_of words) n) (has_bit words n)
    (λ there. (from_filter (has_bit words) (numbers_from 0 (64 * length words)) n (in_has (places_of words) n there)).1)
    (λ is-set.
    let below = bit_within words n is-set in
    has_in (places_of words) n (in_filter (has_bit words) (numbers_from 0 (64 * length words)) n (in_numbers 0 (64 * length words) n (omega arith) (omega (arith, below))) is-set))

-- and these alone
places_are : (words numbers : List ℕ) → IsAscendingBy nat_cmp numbers → ((n : ℕ) → has_bit words n ≡ has numbers n) → places_of words ≡ numbers
places_are words numbers up each = same_numbers (places_of words) numbers (ascending_places words) up
    (λ n there. in_has numbers n (sym (each n) ∙ sym (has_places words n) ∙ has_in (places_of words) n there))
    (λ n there. in_has (places_of words) n (has_places words n ∙ each n ∙ has_in numbers n there))

-- the same words, or words without a bit behind them
pub same_bits : (words others : List ℕ) → ((k : ℕ) → get_or words k 0 ≡ get_or others k 0) → (n : ℕ) → has_bit words n ≡ has_bit others n
same_bits words others same n = ap (λ word. bit_at word (n % 64) == 1) (same (n / 64))

-- a word that is put in the place of another
module _ (words : List ℕ) (place word : ℕ) (within : place / 64 < length words) where
  bit_here : (n : ℕ) → n / 64 ≡ place / 64 → has_bit (slice_set words (place / 64) word) n ≡ (bit_at word (n % 64) == 1)
  bit_here n at = ap (λ w. bit_at w (n % 64) == 1) (ap (λ k. get_or (slice_set words (place / 64) word) k 0) at ∙ get_or-set_same words (place / 64) word 0 within)

  bit_elsewhere : (n : ℕ) → (n / 64 ≡ place / 64 → ⊥) → has_bit (slice_set words (place / 64) word) n ≡ has_bit words n
  bit_elsewhere n other = ap (λ w. bit_at w (n % 64) == 1) (get_or-set_other words (place / 64) (n / 64) word 0 other)

  -- where it differs in the bit of the place alone
  bit_kept : ((i : ℕ) → i < 64 → (i ≡ place % 64 → ⊥) → bit_at word i ≡ bit_at (get_or words (place / 64) 0) i) → (n : ℕ) → (n ≡ place → ⊥) → has_bit (slice_set words (place / 64) word) n ≡ has_bit words n
  bit_kept kept n other = elim (cases_eq (n / 64) (place / 64)) [
    | inl at ↦
        let apart : n % 64 ≡ place % 64 → ⊥ = λ same. other (omega (arith, at, same)) in
        bit_here n at ∙ ap (λ b. b == 1) (kept (n % 64) (omega arith) apart) ∙ ap (λ k. bit_at (get_or words k 0) (n % 64) == 1) (sym at)
    | inr elsewhere ↦ bit_elsewhere n elsewhere
  ]

  bit_now : (n : ℕ) → n ≡ place → has_bit (slice_set words (place / 64) word) n ≡ (bit_at word (place % 64) == 1)
  bit_now n at = bit_here n (ap (λ k. k / 64) at) ∙ ap (λ k. bit_at word (k % 64) == 1) at

module _ (words : List ℕ) (place : ℕ) (within : place / 64 < length words) where
  pub bit_set : (n : ℕ) → has_bit (slice_set words (place / 64) (bit_or (get_or words (place / 64) 0) (1 * 2 ^ (place % 64) % 2 ^ 64))) n ≡ (has_bit words n || place == n)
  bit_set n = elim (cases_eq n place) [
    | inl at ↦
        bit_now words place (bit_or (get_or words (place / 64) 0) (1 * 2 ^ (place % 64) % 2 ^ 64)) within n at
        ∙ ap (λ b. b == 1) (bit_at_set_same w64 (get_or words (place / 64) 0) (place % 64) (omega arith)) ∙ sym (or_right (has_bit words n) true refl) ∙ ap (λ b. has_bit words n || b) (sym (eq-eqb place n (sym at)))
    | inr other ↦
        bit_kept words place (bit_or (get_or words (place / 64) 0) (1 * 2 ^ (place % 64) % 2 ^ 64)) within
        (λ i below differs. bit_at_set_other w64 (get_or words (place / 64) 0) (place % 64) (omega arith) i differs) n other
        ∙ sym (or_false (has_bit words n)) ∙ ap (λ b. has_bit words n || b) (sym (ne_eqb place n (λ same. other (sym same))))
  ]

  bit_cleared : (n : ℕ) → has_bit (slice_set words (place / 64) (bit_and (get_or words (place / 64) 0) (bit_not w64 (1 * 2 ^ (place % 64) % 2 ^ 64)))) n ≡ (has_bit words n && not (n == place))
  bit_cleared n = elim (cases_eq n place) [
    | inl at ↦
        bit_now words place (bit_and (get_or words (place / 64) 0) (bit_not w64 (1 * 2 ^ (place % 64) % 2 ^ 64))) within n at
        ∙ ap (λ b. b == 1) (bit_at_clear_same w64 (get_or words (place / 64) 0) (place % 64) (omega arith)) ∙ sym (and_right (has_bit words n) false refl)
        ∙ ap (λ b. has_bit words n && not b) (sym (eq-eqb n place at))
    | inr other ↦
        bit_kept words place (bit_and (get_or words (place / 64) 0) (bit_not w64 (1 * 2 ^ (place % 64) % 2 ^ 64))) within
        (λ i below differs. bit_at_clear_other w64 (get_or words (place / 64) 0) (place % 64) (omega arith) i below differs) n other
        ∙ sym (and_true (has_bit words n)) ∙ ap (λ b. has_bit words n && not b) (sym (ne_eqb n place other))
  ]

-- a place behind all others
pub pushed : (before words : List ℕ) (place : ℕ) → ((k : ℕ) → get_or words k 0 ≡ get_or before k 0) → place / 64 < length words → AllByRecursion (λ other. other < place) (places_of before)
    → places_of (slice_set words (place / 64) (bit_or (get_or words (place / 64) 0) (1 * 2 ^ (place % 64) % 2 ^ 64))) ≡ places_of before ++ place ∷ []
pushed before words place same within behind =
    places_are (slice_set words (place / 64) (bit_or (get_or words (place / 64) 0) (1 * 2 ^ (place % 64) % 2 ^ 64))) (places_of before ++ place ∷ [])
    (ascending_push nat_cmp (places_of before) place (ascending_places before)
    (all_from_in (λ n. nat_cmp n place ≡ Less) (places_of before) (λ n there. nat_cmp-below n place (all_in (λ m. m < place) (places_of before) n behind there))))
    (λ n. bit_set words place within n ∙ ap (λ b. b || place == n) (same_bits words before same n ∙ sym (has_places before n)) ∙ sym (any_append (λ m. m == n) (places_of before) place))

has_filter : (test : ℕ → Bool) (numbers : List ℕ) (n : ℕ) → has (filter test numbers) n ≡ (has numbers n && test n)
has_filter test numbers n = same_tests (has (filter test numbers) n) (has numbers n && test n)
    (λ there. let is = from_filter test numbers n (in_has (filter test numbers) n there) in and_from (has numbers n) (test n) (has_in numbers n is.0) is.1)
    (λ both. let is = and_parts (has numbers n) (test n) both in has_in (filter test numbers) n (in_filter test numbers n (in_has numbers n is.0) is.1))

-- the places but for one
kept_places : (before words : List ℕ) (place : ℕ) → ((n : ℕ) → has_bit words n ≡ (has_bit before n && not (n == place))) → places_of words ≡ filter (λ other. not (other == place)) (places_of before)
kept_places before words place each =
    places_are words (filter (λ other. not (other == place)) (places_of before)) (ascending_filter nat_cmp (λ other. not (other == place)) (places_of before) (ascending_places before))
    (λ n. each n ∙ ap (λ b. b && not (n == place)) (sym (has_places before n)) ∙ sym (has_filter (λ other. not (other == place)) (places_of before) n))

pub left_out : (words : List ℕ) (place : ℕ) → place / 64 < length words
    → places_of (slice_set words (place / 64) (bit_and (get_or words (place / 64) 0) (bit_not w64 (1 * 2 ^ (place % 64) % 2 ^ 64)))) ≡ filter (λ other. not (other == place)) (places_of words)
left_out words place within =
    kept_places words (slice_set words (place / 64) (bit_and (get_or words (place / 64) 0) (bit_not w64 (1 * 2 ^ (place % 64) % 2 ^ 64)))) place (bit_cleared words place within)

pub not_there : (words : List ℕ) (place : ℕ) → length words ≤ place / 64 → places_of words ≡ filter (λ other. not (other == place)) (places_of words)
not_there words place past = kept_places words words place (λ n. elim (cases_eq n place) [
  | inl at ↦
      let none : has_bit words n ≡ false = ap (λ word. bit_at word (n % 64) == 1) (get_or_past words (n / 64) 0 (omega (arith, past, at))) ∙ ap (λ b. b == 1) (bit_at-zero (n % 64)) in
      none ∙ sym (ap (λ b. b && not (n == place)) none)
  | inr other ↦ sym (and_true (has_bit words n)) ∙ ap (λ b. has_bit words n && not b) (sym (ne_eqb n place other))
])

-- bits of two words
by_xor : (a b : ℕ) → a < 2 → b < 2 → ((a + b) % 2 == 1) ≡ exactly_one (a == 1) (b == 1)
by_xor zero zero a-below b-below = refl
by_xor zero (suc zero) a-below b-below = refl
by_xor (suc zero) zero a-below b-below = refl
by_xor (suc zero) (suc zero) a-below b-below = refl
by_xor (suc (suc a)) b a-below b-below = absurd (omega (arith, a-below))
by_xor zero (suc (suc b)) a-below b-below = absurd (omega (arith, b-below))
by_xor (suc zero) (suc (suc b)) a-below b-below = absurd (omega (arith, b-below))

by_or : (a b : ℕ) → a < 2 → b < 2 → (max a b == 1) ≡ (a == 1 || b == 1)
by_or zero zero a-below b-below = refl
by_or zero (suc zero) a-below b-below = refl
by_or (suc zero) zero a-below b-below = refl
by_or (suc zero) (suc zero) a-below b-below = refl
by_or (suc (suc a)) b a-below b-below = absurd (omega (arith, a-below))
by_or zero (suc (suc b)) a-below b-below = absurd (omega (arith, b-below))
by_or (suc zero) (suc (suc b)) a-below b-below = absurd (omega (arith, b-below))

module _ (left right words : List ℕ) where
  turned : ((k : ℕ) → get_or words k 0 ≡ bit_xor (get_or left k 0) (get_or right k 0)) → (n : ℕ) → has_bit words n ≡ exactly_one (has_bit left n) (has_bit right n)
  turned each n =
      ap (λ word. bit_at word (n % 64) == 1) (each (n / 64)) ∙ ap (λ b. b == 1) (bit_at_xor (get_or left (n / 64) 0) (get_or right (n / 64) 0) (n % 64))
      ∙ by_xor (bit_at (get_or left (n / 64) 0) (n % 64)) (bit_at (get_or right (n / 64) 0) (n % 64)) (bit_at-lt (get_or left (n / 64) 0) (n % 64)) (bit_at-lt (get_or right (n / 64) 0) (n % 64))

  pub joined : ((k : ℕ) → get_or words k 0 ≡ bit_or (get_or left k 0) (get_or right k 0)) → (n : ℕ) → has_bit words n ≡ (has_bit left n || has_bit right n)
  joined each n =
      ap (λ word. bit_at word (n % 64) == 1) (each (n / 64)) ∙ ap (λ b. b == 1) (bit_at_or (get_or left (n / 64) 0) (get_or right (n / 64) 0) (n % 64))
      ∙ by_or (bit_at (get_or left (n / 64) 0) (n % 64)) (bit_at (get_or right (n / 64) 0) (n % 64)) (bit_at-lt (get_or left (n / 64) 0) (n % 64)) (bit_at-lt (get_or right (n / 64) 0) (n % 64))

-- the union
pub included : (before longer others words : List ℕ) → ((k : ℕ) → get_or longer k 0 ≡ get_or before k 0) → ((k : ℕ) → get_or words k 0 ≡ bit_or (get_or longer k 0) (get_or others k 0))
    → (n : ℕ) → has (places_of words) n ≡ (has (places_of before) n || has (places_of others) n)
included before longer others words same each n =
    has_places words n ∙ joined longer others words each n ∙ ap (λ b. b || has_bit others n) (same_bits longer before same n ∙ sym (has_places before n)) ∙ ap (λ b. has (places_of before) n || b) (sym (has_places others n))

-- the sum
module _ (left right words : List ℕ) (bound : ℕ) (in-left : IsListTo bound (places_of left)) (in-right : IsListTo bound (places_of right))
    (each : (n : ℕ) → has_bit words n ≡ exactly_one (has_bit left n) (has_bit right n)) where
  has_sum : (n : ℕ) → has (places_of words) n ≡ exactly_one (has (places_of left) n) (has (places_of right) n)
  has_sum n = has_places words n ∙ each n ∙ ap (λ b. exactly_one b (has_bit right n)) (sym (has_places left n)) ∙ ap (exactly_one (has (places_of left) n)) (sym (has_places right n))

  one_has : (a b : Bool) → exactly_one a b ≡ true → (a ≡ true) ⊎ (b ≡ true)
  one_has true b one = inl refl
  one_has false b one = inr one

  within : (n : ℕ) → (has (places_of left) n ≡ true) ⊎ (has (places_of right) n ≡ true) → (1 ≤ n) × (n ≤ bound)
  within n (inl there) = all_in (λ m. (1 ≤ m) × (m ≤ bound)) (places_of left) n in-left.within (in_has (places_of left) n there)
  within n (inr there) = all_in (λ m. (1 ≤ m) × (m ≤ bound)) (places_of right) n in-right.within (in_has (places_of right) n there)

  summed : places_of words ≡ sum_to bound (places_of left) (places_of right)
  summed = list_is_listed bound (λ n. exactly_one (has (places_of left) (suc n)) (has (places_of right) (suc n))) (places_of words)
      (record {
        ascending = ascending_places words;
        within = all_from_in (λ n. (1 ≤ n) × (n ≤ bound)) (places_of words)
            (λ n there. within n (one_has (has (places_of left) n) (has (places_of right) n) (sym (has_sum n) ∙ has_in (places_of words) n there)));
      })
      (λ n below. has_sum (suc n))

-- the words below a place are changed by those of others
pub record IsChanged (f : ℕ → ℕ → ℕ) (start others words : List ℕ) (at : ℕ) : Type 0 where
  pub done : (k : ℕ) → k < at → get_or words k 0 ≡ f (get_or start k 0) (get_or others k 0)
  pub rest : (k : ℕ) → at ≤ k → get_or words k 0 ≡ get_or start k 0

module _ (f : ℕ → ℕ → ℕ) where
  pub changed_none : ((x : ℕ) → f x 0 ≡ x) → (start others : List ℕ) (first : ℕ) → ((k : ℕ) → k < first → get_or others k 0 ≡ 0) → IsChanged f start others start first
  changed_none none start others first before = record { done = λ k below. sym (ap (f (get_or start k 0)) (before k below) ∙ none (get_or start k 0)); rest = λ k above. refl }

  pub changed_more : (start others words : List ℕ) (at : ℕ) → at < length words → IsChanged f start others words at
      → IsChanged f start others (slice_set words at (f (get_or words at 0) (get_or others at 0))) (at + 1)
  changed_more start others words at within before = record {
    done = λ k below. elim (cases_eq k at) [
      | inl here ↦
          ap (λ i. get_or (slice_set words at (f (get_or words at 0) (get_or others at 0))) i 0) here ∙ get_or-set_same words at (f (get_or words at 0) (get_or others at 0)) 0 within
          ∙ ap (λ word. f word (get_or others at 0)) (before.rest at (omega arith)) ∙ ap (λ i. f (get_or start i 0) (get_or others i 0)) (sym here)
      | inr other ↦ get_or-set_other words at k (f (get_or words at 0) (get_or others at 0)) 0 other ∙ before.done k (omega (arith, below, other))
    ];
    rest = λ k above. get_or-set_other words at k (f (get_or words at 0) (get_or others at 0)) 0 (λ here. omega (arith, here, above)) ∙ before.rest k (omega (arith, above));
  }

  pub changed_all : ((x : ℕ) → f x 0 ≡ x) → (start others words : List ℕ) (at : ℕ) → ((k : ℕ) → at ≤ k → get_or others k 0 ≡ 0) → IsChanged f start others words at
      → (k : ℕ) → get_or words k 0 ≡ f (get_or start k 0) (get_or others k 0)
  changed_all none start others words at behind changed k = elim (cases_lt k at) [
    | inl below ↦ changed.done k below
    | inr above ↦ changed.rest k above ∙ sym (none (get_or start k 0)) ∙ ap (f (get_or start k 0)) (sym (behind k above))
  ]

pub bit_or_none : (x : ℕ) → bit_or x 0 ≡ x
bit_or_none x = same_from_bits (bit_or x 0) x (λ i. omega (arith, bit_at_or x 0 i, bit_at-zero i))

pub bit_xor_none : (x : ℕ) → bit_xor x 0 ≡ x
bit_xor_none x = same_from_bits (bit_xor x 0) x (λ i. omega (arith, bit_at_xor x 0 i, bit_at-zero i, bit_at-lt x i))

pub sum_is : (left right words : List ℕ) (bound : ℕ) → IsListTo bound (places_of left) → IsListTo bound (places_of right) → ((k : ℕ) → get_or words k 0 ≡ bit_xor (get_or left k 0) (get_or right k 0))
    → places_of words ≡ sum_to bound (places_of left) (places_of right)
sum_is left right words bound in-left in-right each = summed left right words bound in-left in-right (turned left right words each)

-- a set with a place has words
pub some_words : (words : List ℕ) → 0 < length (places_of words) → 0 < length words
some_words [] some = some
some_words (word ∷ words) some = omega arith

-- the first words have the places below their end
pub places_within : (words : List ℕ) (count : ℕ) → AllByRecursion (λ place. place < 64 * count) (places_of words) → places_of (take count words) ≡ places_of words
places_within words count within = places_are (take count words) (places_of words) (ascending_places words) (λ n. elim (cases_lt (n / 64) count) [
  | inl below ↦ ap (λ word. bit_at word (n % 64) == 1) (get_or-take count words (n / 64) 0 below) ∙ sym (has_places words n)
  | inr past ↦
      let few : length (take count words) ≤ n / 64 = omega (arith, length-take count words, past) in
      let none : has (places_of words) n ≡ false = false_from_ne_true (has (places_of words) n) (λ there.
      let below = all_in (λ place. place < 64 * count) (places_of words) n within (in_has (places_of words) n there) in omega (arith, below, past)) in
      ap (λ word. bit_at word (n % 64) == 1) (get_or_past (take count words) (n / 64) 0 few) ∙ ap (λ b. b == 1) (bit_at-zero (n % 64)) ∙ sym none
])

-- words without a bit at the end aren't missed
pub without_end : (words : List ℕ) (count : ℕ) → ((k : ℕ) → count ≤ k → get_or words k 0 ≡ 0) → places_of (take count words) ≡ places_of words
without_end words count nothing = places_are (take count words) (places_of words) (ascending_places words) (λ n. same_bits (take count words) words each n ∙ sym (has_places words n))
  where
    each : (k : ℕ) → get_or (take count words) k 0 ≡ get_or words k 0
    each k = elim (cases_lt k count) [
      | inl below ↦ get_or-take count words k 0 below
      | inr past ↦ get_or_past (take count words) k 0 (omega (arith, length-take count words, past)) ∙ sym (nothing k past)
    ]
