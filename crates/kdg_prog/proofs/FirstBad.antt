use Rattle.std.proofs.Common.{◌≡◌, ℕ, ◌+◌, ◌*◌, ◌%◌, ◌<◌, ◌≤◌, List, Bool, true, false, nat_eq, Some, None, Ok, Err, length, refl, ap, suc, zero, inl, inr, ◌⊎◌, cond, ◌∙◌, arith}
use Rattle.std.specs.Prelude.{nat_lt}
use Rattle.std.proofs.lemmas.Bool.{cases_order, cond-true, cond-false, le-ltb, ne_eqb, eq-eqb}
use Rattle.std.specs.List.{find, range_with_len}
use Rattle.kdg_prog.specs.Words.{Word, is_bad, is_bad_option, is_bad_value, options_of, options_given, options_unless, settings_of, command_in, big_of, heading_len, is_big}

-- the least number of a range that passes
find_first : (test : ℕ → Bool) (n a i : ℕ) → a ≤ i → i < a + n → test i ≡ true → ((k : ℕ) → a ≤ k → k < i → test k ≡ false) → find test (range_with_len a n) ≡ Some i
find_first test zero a i low high passes least = absurd (omega arith)
find_first test (suc n) a i low high passes least =
    elim (cases_order a i) as (λ _. find test (range_with_len a (suc n)) ≡ Some i) [
      | inl here ↦ cond-true (test a) _ _ (ap test here ∙ passes) ∙ ap (λ k. Some k) here
      | inr other ↦ elim other as (λ _. find test (range_with_len a (suc n)) ≡ Some i) [
        | inl later ↦ cond-false (test a) _ _ (least a (omega arith) later) ∙ find_first test n (a + 1) i (omega arith) (omega arith) passes (λ k above below. least k (omega arith) below)
        | inr earlier ↦ absurd (omega arith)
      ]
    ]

-- no number of a range passes
find_none : (test : ℕ → Bool) (n a : ℕ) → ((k : ℕ) → a ≤ k → k < a + n → test k ≡ false) → find test (range_with_len a n) ≡ None
find_none test zero a fails = refl
find_none test (suc n) a fails =
    cond-false (test a) _ _ (fails a (omega arith) (omega arith)) ∙ find_none test n (a + 1) (λ k above below. fails k (omega arith) (omega arith))

-- the words are refused at the first bad one
pub refused_at : (words : List Word) (index : ℕ) → index ≤ length words → is_bad words index ≡ true → ((k : ℕ) → k < index → is_bad words k ≡ false) → options_of words ≡ Err (index + 1)
refused_at words index within bad fine =
    ap (λ found. options_unless found (options_given (command_in words) (big_of words) (settings_of words)))
    (find_first (is_bad words) (length words + 1) 0 index (omega arith) (omega arith) bad (λ k _ below. fine k below))

-- the words are read where none is bad
pub read_whole : (words : List Word) → ((k : ℕ) → k ≤ length words → is_bad words k ≡ false) → options_of words ≡ Ok (options_given (command_in words) (big_of words) (settings_of words))
read_whole words fine =
    ap (λ found. options_unless found (options_given (command_in words) (big_of words) (settings_of words)))
    (find_none (is_bad words) (length words + 1) 0 (λ k _ below. fine k (omega arith)))

pub heading_odd : (words : List Word) → (heading_len words ≡ 1) ⊎ (heading_len words ≡ 3)
heading_odd words =
    let len : Bool → ℕ = λ big. cond big 3 1 in
    elim (is_big words) as (λ big. (len big ≡ 1) ⊎ (len big ≡ 3)) [ true ↦ inr refl | false ↦ inl refl ]

-- behind the heading, options and values take turns
pub is_bad-behind : (words : List Word) (index : ℕ) → heading_len words ≤ index → is_bad words index ≡ cond (nat_eq (index % 2) 1) (is_bad_option words index) (is_bad_value words index)
is_bad-behind words index behind = cond-false (nat_lt index (heading_len words)) _ _ (le-ltb _ _ behind)

pub is_bad-odd : (words : List Word) (index k : ℕ) → index ≡ heading_len words + 2 * k → is_bad words index ≡ is_bad_option words index
is_bad-odd words index k turn =
    let odd : nat_eq (index % 2) 1 ≡ true = elim (heading_odd words) [
      | inl one ↦ eq-eqb (index % 2) 1 (omega (arith, turn, one))
      | inr three ↦ eq-eqb (index % 2) 1 (omega (arith, turn, three))
    ] in
    is_bad-behind words index (omega (arith, turn)) ∙ cond-true _ _ _ odd

pub is_bad-even : (words : List Word) (index k : ℕ) → index ≡ heading_len words + 2 * k + 1 → is_bad words index ≡ is_bad_value words index
is_bad-even words index k turn =
    let even : nat_eq (index % 2) 1 ≡ false = elim (heading_odd words) [
      | inl one ↦ ne_eqb (index % 2) 1 (λ e. omega (arith, turn, one, e))
      | inr three ↦ ne_eqb (index % 2) 1 (λ e. omega (arith, turn, three, e))
    ] in
    is_bad-behind words index (omega (arith, turn)) ∙ cond-false _ _ _ even
