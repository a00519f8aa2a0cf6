-- What lists have, and which lists of numbers and which lines are known by what they have.
use Rattle.std.specs.Prelude.{◌≡◌, ℕ, zero, suc, ◌+◌, ◌-◌, ◌<◌, ◌≤◌, Bool, true, false, ◌==◌, List, [], ◌∷◌, length, map, filter, Some, None, IsSome, slice_get, unwrap_or, refl}
use Rattle.std.specs.List.{AllByRecursion, list_any}
use Rattle.std.specs.Ordering.{nat_cmp}
use Rattle.std.specs.declared.cmp.Ordering.TheVariants.{Less}
use Rattle.std.proofs.Common.{inl, inr, arith, sym, ap, ◌∙◌, subst, add-zero}
use Rattle.std.proofs.lemmas.Bool.{or_cases, or_left, or_right, eqb-true, eq-eqb, cases_Bool, true≢false, false_from_ne_true}
use Rattle.std.proofs.lemmas.Option.{same_Some, unwrap_or-slice_get}
use Rattle.plain_laws.specs.Bools.{same_tests}
use Rattle.plain_laws.specs.Orderings.{nat_cmp-below, below_from_cmp}
use Rattle.rw_sets.specs.Accesses.{IsAscending, AllBeyond, access_at}
use Rattle.rw_sets.specs.AccessLaws.{ascending_none, ascending_cons}
use Rattle.rw_sets.specs.declared.access.Access.TheVariants.{Write}
use Rattle.mtx_reader.specs.Ascending.{IsAscendingBy, IsIn, numbers_from, all_in, all_from_in, in_map, from_map, in_filter, from_filter, ascending_filter, ascending_map, same_numbers, in_numbers, from_numbers, ascending_numbers}
use Rattle.gf2_eliminate.specs.declared.line.Line2.{Line2}
use Rattle.gf2_eliminate.specs.declared.line.Line2.TheVariants.{Row, Col}
use Rattle.gf2_eliminate.specs.Lines.{no_line, numbers_in, is_used, has, line_at, listed, IsListTo, IsRow, IsColumn}
use Rattle.gf2_eliminate.specs.Elimination.{first_of, writing}

pub any_found : {X : Type 0} (test : X → Bool) (xs : List X) → list_any test xs ≡ true → (x : X) × IsIn xs x × (test x ≡ true)
any_found test [] some = absurd (true≢false (sym some))
any_found test (x ∷ xs) some = elim (or_cases (test x) (list_any test xs) some) [
  | inl here ↦ (x, inl refl, here)
  | inr later ↦ let found = any_found test xs later in (found.0, inr found.1, found.2)
]

pub any_from : {X : Type 0} (test : X → Bool) (xs : List X) (x : X) → IsIn xs x → test x ≡ true → list_any test xs ≡ true
any_from test [] x there passes = absurd there
any_from test (y ∷ ys) x (inl at) passes = or_left (test y) (list_any test ys) (ap test at ∙ passes)
any_from test (y ∷ ys) x (inr there) passes = or_right (test y) (list_any test ys) (any_from test ys x there passes)

pub any_same : {X : Type 0} (p q : X → Bool) (xs : List X) → ((x : X) → IsIn xs x → p x ≡ q x) → list_any p xs ≡ list_any q xs
any_same p q [] same = refl
any_same p q (x ∷ xs) same = rw (same x (inl refl), any_same p q xs (λ y there. same y (inr there))) refl

pub filter_same : {X : Type 0} (p q : X → Bool) (xs : List X) → ((x : X) → IsIn xs x → p x ≡ q x) → filter p xs ≡ filter q xs
filter_same p q [] same = refl
filter_same p q (x ∷ xs) same = rw (same x (inl refl), filter_same p q xs (λ y there. same y (inr there))) refl

pub first_found : (test : ℕ → Bool) (ns : List ℕ) (n : ℕ) → first_of (filter test ns) ≡ Some n → IsIn ns n × (test n ≡ true)
first_found test ns n first = from_filter test ns n (first_in (filter test ns) first)
  where
    first_in : (ms : List ℕ) → first_of ms ≡ Some n → IsIn ms n
    first_in [] none = cc
    first_in (m ∷ ms) some = inl (same_Some m n some)

-- where no number passes the test, none of the list does
pub none_found : (test : ℕ → Bool) (ns : List ℕ) (n : ℕ) → first_of (filter test ns) ≡ None → IsIn ns n → test n ≡ false
none_found test ns n none there = false_from_ne_true (test n) (λ passes. nothing_in (filter test ns) none (in_filter test ns n there passes))
  where
    nothing_in : (ms : List ℕ) → first_of ms ≡ None → IsIn ms n → ⊥
    nothing_in [] first there = there
    nothing_in (m ∷ ms) first there = cc

pub in_has : (numbers : List ℕ) (number : ℕ) → has numbers number ≡ true → IsIn numbers number
in_has numbers number there =
    let found = any_found (λ n. n == number) numbers there in
    subst (IsIn numbers) (eqb-true found.0 number found.2) found.1

pub has_in : (numbers : List ℕ) (number : ℕ) → IsIn numbers number → has numbers number ≡ true
has_in numbers number there = any_from (λ n. n == number) numbers number there (eq-eqb number number refl)

pub from_listed : (bound : ℕ) (test : ℕ → Bool) (number : ℕ) → IsIn (listed bound test) number → (n : ℕ) × (n < bound) × (test n ≡ true) × (suc n ≡ number)
from_listed bound test number there =
    let found = from_map suc (filter test (numbers_from 0 bound)) number there in
    let passes = from_filter test (numbers_from 0 bound) found.0 found.1 in
    let below = (from_numbers 0 bound found.0 passes.0).1 in
    (found.0, omega (arith, below), passes.1, found.2)

pub in_listed : (bound : ℕ) (test : ℕ → Bool) (n : ℕ) → n < bound → test n ≡ true → IsIn (listed bound test) (suc n)
in_listed bound test n below passes =
    in_map suc (filter test (numbers_from 0 bound)) n (in_filter test (numbers_from 0 bound) n (in_numbers 0 bound n (omega arith) (omega arith)) passes)

pub has_listed : (bound : ℕ) (test : ℕ → Bool) (n : ℕ) → n < bound → has (listed bound test) (suc n) ≡ test n
has_listed bound test n below = same_tests (has (listed bound test) (suc n)) (test n)
    (λ there. let found = from_listed bound test (suc n) (in_has (listed bound test) (suc n) there) in
    let same : found.0 ≡ n = omega (arith, found.3) in subst (λ m. test m ≡ true) same found.2)
    (λ passes. has_in (listed bound test) (suc n) (in_listed bound test n below passes))

pub listed_list : (bound : ℕ) (test : ℕ → Bool) → IsListTo bound (listed bound test)
listed_list bound test = record {
  ascending = ascending_map nat_cmp nat_cmp suc (λ x y less. nat_cmp-below (suc x) (suc y) (omega (arith, below_from_cmp x y less))) (filter test (numbers_from 0 bound))
      (ascending_filter nat_cmp test (numbers_from 0 bound) (ascending_numbers 0 bound));
  within = all_from_in (λ number. (1 ≤ number) × (number ≤ bound)) (listed bound test)
      (λ number there. let found = from_listed bound test number there in (omega (arith, found.3), omega (arith, found.1, found.3)));
}

pub listed_same : (bound : ℕ) (p q : ℕ → Bool) → ((n : ℕ) → n < bound → p n ≡ q n) → listed bound p ≡ listed bound q
listed_same bound p q same = ap (map suc) (filter_same p q (numbers_from 0 bound) (λ n there. same n (omega (arith, (from_numbers 0 bound n there).1))))

-- a list is the one of the numbers that it has
pub list_is_listed : (bound : ℕ) (test : ℕ → Bool) (numbers : List ℕ) → IsListTo bound numbers → ((n : ℕ) → n < bound → has numbers (suc n) ≡ test n) → numbers ≡ listed bound test
list_is_listed bound test numbers list each =
    same_numbers numbers (listed bound test) list.ascending (listed_list bound test).ascending
    (λ number there.
    let within = all_in (λ m. (1 ≤ m) × (m ≤ bound)) numbers number list.within there in
    let same : suc (number - 1) ≡ number = omega (arith, within.0) in
    let passes : test (number - 1) ≡ true = sym (each (number - 1) (omega (arith, within.0, within.1))) ∙ ap (has numbers) same ∙ has_in numbers number there in
    subst (IsIn (listed bound test)) same (in_listed bound test (number - 1) (omega (arith, within.0, within.1)) passes))
    (λ number there.
    let found = from_listed bound test number there in
    subst (IsIn numbers) found.3 (in_has numbers (suc found.0) (each found.0 found.1 ∙ found.2)))

pub row_is : (columns : ℕ) (test : ℕ → Bool) (line : Line2) → IsRow columns line → ((n : ℕ) → n < columns → has (numbers_in line) (suc n) ≡ test n) → line ≡ Row (listed columns test) (is_used line)
row_is columns test (Row numbers used) row each = ap (λ ns. Row ns used) (list_is_listed columns test numbers row each)
row_is columns test (Col numbers) row each = absurd row

pub column_is : (rows : ℕ) (test : ℕ → Bool) (line : Line2) → IsColumn rows line → ((n : ℕ) → n < rows → has (numbers_in line) (suc n) ≡ test n) → line ≡ Col (listed rows test)
column_is rows test (Row numbers used) column each = absurd column
column_is rows test (Col numbers) column each = ap Col (list_is_listed rows test numbers column each)

-- lists that have an item for each number
pub length_numbers : {X : Type 0} (f : ℕ → X) (first count : ℕ) → length (map f (numbers_from first count)) ≡ count
length_numbers f first zero = refl
length_numbers f first (suc count) = ap suc (length_numbers f (suc first) count)

pub get_numbers : {X : Type 0} (f : ℕ → X) (first count n : ℕ) → n < count → slice_get (map f (numbers_from first count)) n ≡ Some (f (first + n))
get_numbers f first zero n below = absurd (omega arith)
get_numbers f first (suc count) zero below = ap (λ m. Some (f m)) (sym (add-zero first))
get_numbers f first (suc count) (suc n) below =
    let same : suc first + n ≡ first + suc n = omega arith in
    get_numbers f (suc first) count n (omega arith) ∙ ap (λ m. Some (f m)) same

pub line_same : (cells others : List Line2) (loc : ℕ) → slice_get cells loc ≡ slice_get others loc → line_at cells loc ≡ line_at others loc
line_same cells others loc same = sym (unwrap_or-slice_get cells loc no_line) ∙ ap (λ o. unwrap_or o no_line) same ∙ unwrap_or-slice_get others loc no_line

pub line_numbers : (f : ℕ → Line2) (count loc : ℕ) → loc < count → line_at (map f (numbers_from 0 count)) loc ≡ f loc
line_numbers f count loc below =
    let same : 0 + loc ≡ loc = omega arith in
    sym (unwrap_or-slice_get (map f (numbers_from 0 count)) loc no_line) ∙ ap (λ o. unwrap_or o no_line) (get_numbers f 0 count loc below) ∙ ap f same

-- sets of locations that are written
pub written_in : (locs : List ℕ) (loc : ℕ) → IsIn locs loc → access_at (writing locs) loc ≡ Some Write
written_in [] loc there = absurd there
written_in (first ∷ locs) loc (inl at) = rw (eq-eqb first loc at) refl
written_in (first ∷ locs) loc (inr there) = elim (cases_Bool (first == loc)) [
  | inl here ↦ rw here refl
  | inr elsewhere ↦ rw elsewhere (written_in locs loc there)
]

pub in_written : (locs : List ℕ) (loc : ℕ) → IsSome (access_at (writing locs) loc) → IsIn locs loc
in_written [] loc named = absurd (true≢false (sym named))
in_written (first ∷ locs) loc named = elim (cases_Bool (first == loc)) [
  | inl here ↦ inl (eqb-true first loc here)
  | inr elsewhere ↦ inr (in_written locs loc (rw elsewhere at named))
]

pub beyond_writing : (loc : ℕ) (locs : List ℕ) → AllByRecursion (λ other. nat_cmp loc other ≡ Less) locs → AllBeyond loc (writing locs)
beyond_writing loc [] before = tt
beyond_writing loc (other ∷ locs) before = (below_from_cmp loc other before.0, beyond_writing loc locs before.1)

pub ascending_writing : (locs : List ℕ) → IsAscendingBy nat_cmp locs → IsAscending (writing locs)
ascending_writing [] up = ascending_none
ascending_writing (loc ∷ locs) up = ascending_cons (loc, Write) (writing locs) (beyond_writing loc locs up.0) (ascending_writing locs up.1)
