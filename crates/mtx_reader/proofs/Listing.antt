-- Places in order, and what sorting and leaving out what is there twice makes of a list of them.
use Rattle.std.specs.Prelude.{◌≡◌, ℕ, zero, suc, ◌+◌, ◌<◌, ◌≤◌, ◌==◌, Bool, true, List, [], ◌∷◌, length, map, filter, refl, slice_index_or}
use Rattle.std.specs.Cmp.{IsEquivalence}
use Rattle.std.specs.List.{AllByRecursion, Contains, dedup}
use Rattle.std.specs.List.Retain.{IsFiltered, DiffersFromLast}
use Rattle.std.specs.List.Sorted.{IsPermutation, IsSorted, IsStrictlySortedBy}
use Rattle.std.specs.Ordering.{nat_cmp, ordering_then, eq_by_cmp}
use Rattle.std.specs.declared.cmp.Ordering.{Ordering}
use Rattle.std.specs.declared.cmp.Ordering.TheVariants.{Less, Equal, Greater}
use Rattle.std.proofs.Common.{inl, inr, arith, sym, ap, ◌∙◌, subst}
use Rattle.std.proofs.lemmas.Bool.{and_parts, and_from, or_cases, or_left, or_right, eqb-true, eq-eqb, cases_eq}
use Rattle.std.proofs.lemmas.Bool.Decides.{nat_tests}
use Rattle.std.proofs.lemmas.Cmp.{nat_eq_equiv, on_equiv, and_equiv}
use Rattle.std.proofs.lemmas.List.Filters.{dedup_is}
use Rattle.std.proofs.lemmas.List.Kept.{Contains-dedup, Contains-from_dedup, IsStrictlySortedBy-dedup}
use Rattle.std.proofs.lemmas.List.Sorted.{Contains-permutation, IsPermutation-sym}
use Rattle.plain_laws.specs.Orderings.{same_from_cmp}
use Rattle.mtx_reader.specs.Ascending.{IsAscendingBy, IsIn, numbers_from, all_in, all_from_in, in_left, in_right, in_either, in_map, from_map, in_filter, from_filter, ascending_append, ascending_filter, ascending_map, same_members, in_numbers, from_numbers, ascending_numbers}
use Rattle.mtx_reader.specs.Places.{Place, is_same, place_cmp, is_among, places_from, places_among, IsWithin, ArePlaces}
use Rattle.mtx_reader.specs.PlaceLaws.{lower_row_first, place_total}

then_equal : (o p : Ordering) → ordering_then o p ≡ Equal → (o ≡ Equal) × (p ≡ Equal)
then_equal Less p tied = cc
then_equal Equal p tied = (refl, tied)
then_equal Greater p tied = cc

pub place_alike : (place other : Place) → place_cmp place other ≡ Equal → place ≡ other
place_alike place other tied =
    let both = then_equal (nat_cmp place.0 other.0) (nat_cmp place.1 other.1) tied in
    let rows : place.0 ≡ other.0 = same_from_cmp place.0 other.0 both.0 in
    let columns : place.1 ≡ other.1 = same_from_cmp place.1 other.1 both.1 in
    ap (λ row. (row, place.1)) rows ∙ ap (λ column. (other.0, column)) columns

same_row : (row column other : ℕ) → nat_cmp column other ≡ Less → place_cmp (row, column) (row, other) ≡ Less
same_row row column other less = let tied : nat_cmp row row ≡ Equal = grind (arith, nat_tests) in rw tied less

-- where the places of so many rows from a first one on are
pub record IsFrom (first rows columns : ℕ) (place : Place) : Type 0 where
  pub row : (first ≤ place.0) × (place.0 < first + rows)
  pub column : (1 ≤ place.1) × (place.1 < 1 + columns)

pub from_places : (first rows columns : ℕ) (place : Place) → IsIn (places_from first rows columns) place → IsFrom first rows columns place
from_places first zero columns place there = absurd there
from_places first (suc rows) columns place there =
    elim (in_either (map (λ column. (first, column)) (numbers_from 1 columns)) (places_from (suc first) rows columns) place there) [
      | inl here ↦
          let found = from_map (λ column. (first, column)) (numbers_from 1 columns) place here in
          let at = ap (λ (p : Place). p.0) found.2 in
          let column = ap (λ (p : Place). p.1) found.2 in
          let among = from_numbers 1 columns found.0 found.1 in
          record { row = (omega (arith, at), omega (arith, at)); column = (omega (arith, among.0, column), omega (arith, among.1, column)) }
      | inr later ↦
          let found = from_places (suc first) rows columns place later in
          record { row = (omega (arith, found.row.0), omega (arith, found.row.1)); column = found.column }
    ]

pub in_places : (first rows columns : ℕ) (place : Place) → IsFrom first rows columns place → IsIn (places_from first rows columns) place
in_places first zero columns place from = absurd (omega (arith, from.row.0, from.row.1))
in_places first (suc rows) columns place from = elim (cases_eq first place.0) [
  | inl same ↦
      let here = in_map (λ column. (first, column)) (numbers_from 1 columns) place.1 (in_numbers 1 columns place.1 from.column.0 from.column.1) in
      in_left (map (λ column. (first, column)) (numbers_from 1 columns)) (places_from (suc first) rows columns) place
      (subst (λ row. IsIn {X = Place} (map (λ column. (first, column)) (numbers_from 1 columns)) (row, place.1)) same here)
  | inr differs ↦
      in_right (map (λ column. (first, column)) (numbers_from 1 columns)) (places_from (suc first) rows columns) place
      (in_places (suc first) rows columns place (record { row = (omega (arith, differs, from.row.0), omega (arith, from.row.1)); column = from.column }))
]

pub ascending_places : (first rows columns : ℕ) → IsAscendingBy place_cmp (places_from first rows columns)
ascending_places first zero columns = tt
ascending_places first (suc rows) columns =
    ascending_append place_cmp (map (λ column. (first, column)) (numbers_from 1 columns)) (places_from (suc first) rows columns)
    (ascending_map nat_cmp place_cmp (λ column. (first, column)) (same_row first) (numbers_from 1 columns) (ascending_numbers 1 columns))
    (ascending_places (suc first) rows columns)
    (λ place other here there.
    let found = from_map (λ column. (first, column)) (numbers_from 1 columns) place here in
    let at = ap (λ (p : Place). p.0) found.2 in
    let later = from_places (suc first) rows columns other there in
    lower_row_first place other (omega (arith, at, later.row.0)))

-- what the test of places says
pub same_place : (place other : Place) → is_same place other ≡ true → place ≡ other
same_place place other same =
    let both = and_parts (place.0 == other.0) (place.1 == other.1) same in
    ap (λ row. (row, place.1)) (eqb-true place.0 other.0 both.0) ∙ ap (λ column. (other.0, column)) (eqb-true place.1 other.1 both.1)

pub place_itself : (place : Place) → is_same place place ≡ true
place_itself place = and_from (place.0 == place.0) (place.1 == place.1) (eq-eqb place.0 place.0 refl) (eq-eqb place.1 place.1 refl)

pub among_in : (places : List Place) (place : Place) → is_among places place ≡ true → IsIn places place
among_in [] place among = cc
among_in (other ∷ places) place among = elim (or_cases (is_same place other) (is_among places place) among) [
  | inl same ↦ inl (sym (same_place place other same))
  | inr later ↦ inr (among_in places place later)
]

pub in_among : (places : List Place) (place : Place) → IsIn places place → is_among places place ≡ true
in_among [] place there = absurd there
in_among (other ∷ places) place (inl at) = or_left (is_same place other) (is_among places place) (subst (λ p. is_same place p ≡ true) (sym at) (place_itself place))
in_among (other ∷ places) place (inr there) = or_right (is_same place other) (is_among places place) (in_among places place there)

-- the places of a matrix that pass a test
module _ (rows columns : ℕ) (test : Place → Bool) where
  pub from_grid : (place : Place) → IsIn (filter test (places_from 1 rows columns)) place → (test place ≡ true) × IsWithin rows columns place
  from_grid place there =
      let found = from_filter test (places_from 1 rows columns) place there in
      let from = from_places 1 rows columns place found.0 in
      (found.1, record { row = (from.row.0, omega (arith, from.row.1)); column = (from.column.0, omega (arith, from.column.1)) })

  pub in_grid : (place : Place) → test place ≡ true → IsWithin rows columns place → IsIn (filter test (places_from 1 rows columns)) place
  in_grid place passes within =
      in_filter test (places_from 1 rows columns) place
      (in_places 1 rows columns place (record { row = (within.row.0, omega (arith, within.row.1)); column = (within.column.0, omega (arith, within.column.1)) }))
      passes

  pub grid-within : AllByRecursion (IsWithin rows columns) (filter test (places_from 1 rows columns))
  grid-within = all_from_in (IsWithin rows columns) (filter test (places_from 1 rows columns)) (λ place there. (from_grid place there).1)

  pub grid-ascending : IsAscendingBy place_cmp (filter test (places_from 1 rows columns))
  grid-ascending = ascending_filter place_cmp test (places_from 1 rows columns) (ascending_places 1 rows columns)

  -- an ascending list of just those places
  pub is_grid : (left : List Place) → IsAscendingBy place_cmp left → ((place : Place) → IsIn left place → (test place ≡ true) × IsWithin rows columns place)
      → ((place : Place) → test place ≡ true → IsIn left place) → left ≡ filter test (places_from 1 rows columns)
  is_grid left up passing all =
      same_members place_total place_alike left (filter test (places_from 1 rows columns)) up grid-ascending
      (λ place there. let found = passing place there in in_grid place found.0 found.1) (λ place there. all place (from_grid place there).0)

-- std's two words for what a list has
in_from_contains : {X : Type 0} (xs : List X) (k : ℕ) (x : X) → k < length xs → slice_index_or xs k x ≡ x → IsIn xs x
in_from_contains [] k x below at = absurd (omega arith)
in_from_contains (y ∷ ys) zero x below at = inl at
in_from_contains (y ∷ ys) (suc k) x below at = inr (in_from_contains ys k x (omega arith) at)

pub contains_from_in : {X : Type 0} (xs : List X) (x : X) → IsIn xs x → Contains xs x
contains_from_in [] x there = absurd there
contains_from_in (y ∷ ys) x (inl at) = (0, omega arith, at)
contains_from_in (y ∷ ys) x (inr there) = let found = contains_from_in ys x there in (suc found.0, omega (arith, found.1), found.2)

ascending_from_sorted : (places : List Place) → IsStrictlySortedBy place_cmp places → IsAscendingBy place_cmp places
unfolding IsStrictlySortedBy
ascending_from_sorted [] up = tt
ascending_from_sorted (place ∷ places) up = (up.0, ascending_from_sorted places up.1)

ties : (place other : Place) → is_same place other ≡ eq_by_cmp place_cmp place other
ties place other = grind (arith, nat_tests)

same_equivalence : IsEquivalence is_same
same_equivalence = and_equiv (on_equiv (λ (place : Place). place.0) nat_eq_equiv) (on_equiv (λ (place : Place). place.1) nat_eq_equiv)

-- what is left of a list that was sorted, and of which nothing was kept twice
module _ (named sorted left : List Place) (moved : IsPermutation named sorted) (up : IsSorted place_cmp sorted) (kept : IsFiltered (DiffersFromLast is_same) [] sorted left) where
  left-is : left ≡ dedup is_same sorted
  left-is = dedup_is is_same sorted left kept

  pub left-ascending : IsAscendingBy place_cmp left
  left-ascending = subst (IsAscendingBy place_cmp) (sym left-is) (ascending_from_sorted (dedup is_same sorted) (IsStrictlySortedBy-dedup place_total ties sorted up))

  pub named-from_left : (place : Place) → IsIn left place → IsIn named place
  named-from_left place there =
      let found = contains_from_in (dedup is_same sorted) place (subst (λ places. IsIn places place) left-is there) in
      let before = Contains-permutation sorted named place (IsPermutation-sym named sorted moved) (Contains-from_dedup is_same sorted place found) in
      in_from_contains named before.0 place before.1 before.2

  pub left-from_named : (place : Place) → IsIn named place → IsIn left place
  left-from_named place there =
      let found = Contains-dedup same_equivalence same_place sorted place (Contains-permutation named sorted place moved (contains_from_in named place there)) in
      subst (λ places. IsIn places place) (sym left-is) (in_from_contains (dedup is_same sorted) found.0 place found.1 found.2)

  pub left-are_places : (rows columns : ℕ) → AllByRecursion (IsWithin rows columns) named → ArePlaces left
  left-are_places rows columns within = record {
    from_one = all_from_in (λ place. (1 ≤ place.0) × (1 ≤ place.1)) left (λ place there.
        let inside = all_in (IsWithin rows columns) named place within (named-from_left place there) in (inside.row.0, inside.column.0));
    ascending = left-ascending;
  }

  pub left-is_grid : (rows columns : ℕ) → AllByRecursion (IsWithin rows columns) named → left ≡ places_among rows columns named
  left-is_grid rows columns within =
      is_grid rows columns (is_among named) left left-ascending
      (λ place there. let was = named-from_left place there in (in_among named place was, all_in (IsWithin rows columns) named place within was))
      (λ place among. left-from_named place (among_in named place among))
