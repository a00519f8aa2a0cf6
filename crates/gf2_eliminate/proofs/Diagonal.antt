-- Blocks along the diagonal make a pattern: their places come in order.
use Rattle.std.specs.Prelude.{◌≡◌, ℕ, zero, suc, ◌+◌, ◌*◌, ◌<◌, ◌≤◌, List, [], ◌∷◌, ◌++◌}
use Rattle.std.specs.List.{AllByRecursion}
use Rattle.std.specs.Ordering.{nat_cmp}
use Rattle.std.specs.declared.cmp.Ordering.TheVariants.{Less, Equal}
use Rattle.std.proofs.Common.{arith, sym, ap, ◌∙◌, subst, append_assoc}
use Rattle.std.proofs.lemmas.Bool.Decides.{nat_tests}
use Rattle.std.proofs.lemmas.List.Concat.{flat_map-append}
use Rattle.plain_laws.specs.Lists.{All-append, All-push}
use Rattle.plain_laws.specs.Orderings.{nat_cmp-below}
use Rattle.mtx_reader.specs.Ascending.{IsAscendingBy, all_in, all_from_in, ascending_push, numbers_from}
use Rattle.mtx_reader.specs.Patterns.{IsPattern}
use Rattle.mtx_reader.specs.Places.{IsWithin, Place, place_cmp}
use Rattle.mtx_reader.specs.PlaceLaws.{lower_row_first, place_total}
use Rattle.gf2_eliminate.specs.Blocks.{block_places, blocks_places, most_blocks, places_behind}
use Rattle.gf2_eliminate.proofs.Marking.{numbers_to}

-- each of the places comes before this one
abbrev pub ComeBefore : List Place → Place → Type 0
ComeBefore places next = AllByRecursion (λ place. place_cmp place next ≡ Less) places

abbrev pub EndAbove : List Place → ℕ → Type 0
EndAbove places row = AllByRecursion (λ place. place.0 ≤ row) places

same_row : (row column other : ℕ) → column < other → place_cmp (row, column) (row, other) ≡ Less
same_row row column other less =
    let tied : nat_cmp row row ≡ Equal = grind (arith, nat_tests) in
    rw tied (nat_cmp-below column other less)

behind_rows : (places : List Place) (row : ℕ) (next : Place) → EndAbove places row → row < next.0 → ComeBefore places next
behind_rows places row next above less =
    all_from_in (λ place. place_cmp place next ≡ Less) places (λ place there. lower_row_first place next (omega (arith, less, all_in (λ other. other.0 ≤ row) places place above there)))

behind_last : (places : List Place) (last next : Place) → ComeBefore places last → place_cmp last next ≡ Less → ComeBefore (places ++ last ∷ []) next
behind_last places last next before less =
    All-push (λ place. place_cmp place next ≡ Less) places last
    (all_from_in (λ place. place_cmp place next ≡ Less) places (λ place there. place_total.trans place last next (all_in (λ other. place_cmp other last ≡ Less) places place before there) less))
    less

-- the places of a block come one behind another, and behind places in rows above it
module _ (before : ℕ) (places : List Place) (above : EndAbove places before) where
  pub first_place : ComeBefore places (before + 1, before + 1)
  first_place = behind_rows places before (before + 1, before + 1) above (omega arith)

  pub second_place : ComeBefore (places ++ (before + 1, before + 1) ∷ []) (before + 1, before + 2)
  second_place = behind_last places (before + 1, before + 1) (before + 1, before + 2) first_place (same_row (before + 1) (before + 1) (before + 2) (omega arith))

  pub third_place : ComeBefore ((places ++ (before + 1, before + 1) ∷ []) ++ (before + 1, before + 2) ∷ []) (before + 2, before + 1)
  third_place =
      behind_last (places ++ (before + 1, before + 1) ∷ []) (before + 1, before + 2) (before + 2, before + 1) second_place
      (lower_row_first (before + 1, before + 2) (before + 2, before + 1) (omega arith))

  pub fourth_place : ComeBefore (((places ++ (before + 1, before + 1) ∷ []) ++ (before + 1, before + 2) ∷ []) ++ (before + 2, before + 1) ∷ []) (before + 2, before + 3)
  fourth_place =
      behind_last ((places ++ (before + 1, before + 1) ∷ []) ++ (before + 1, before + 2) ∷ []) (before + 2, before + 1) (before + 2, before + 3) third_place
      (same_row (before + 2) (before + 1) (before + 3) (omega arith))

  pub fifth_place : ComeBefore ((((places ++ (before + 1, before + 1) ∷ []) ++ (before + 1, before + 2) ∷ []) ++ (before + 2, before + 1) ∷ []) ++ (before + 2, before + 3) ∷ []) (before + 3, before + 3)
  fifth_place =
      behind_last (((places ++ (before + 1, before + 1) ∷ []) ++ (before + 1, before + 2) ∷ []) ++ (before + 2, before + 1) ∷ []) (before + 2, before + 3) (before + 3, before + 3) fourth_place
      (lower_row_first (before + 2, before + 3) (before + 3, before + 3) (omega arith))

  block_ascending : IsAscendingBy place_cmp places → IsAscendingBy place_cmp (places ++ places_behind before)
  block_ascending up =
      let one = ascending_push place_cmp places (before + 1, before + 1) up first_place in
      let two = ascending_push place_cmp (places ++ (before + 1, before + 1) ∷ []) (before + 1, before + 2) one second_place in
      let three = ascending_push place_cmp ((places ++ (before + 1, before + 1) ∷ []) ++ (before + 1, before + 2) ∷ []) (before + 2, before + 1) two third_place in
      let four =
      ascending_push place_cmp (((places ++ (before + 1, before + 1) ∷ []) ++ (before + 1, before + 2) ∷ []) ++ (before + 2, before + 1) ∷ []) (before + 2, before + 3) three fourth_place in
      simp append_assoc at (ascending_push place_cmp _ _ four fifth_place)

blocks-more : (n : ℕ) → blocks_places (numbers_from 0 (n + 1)) ≡ blocks_places (numbers_from 0 n) ++ block_places n
blocks-more n = ap blocks_places (numbers_to n) ∙ flat_map-append block_places (numbers_from 0 n) (n ∷ [])

blocks-next : (n : ℕ) → blocks_places (numbers_from 0 n) ++ block_places n ≡ blocks_places (numbers_from 0 (suc n))
blocks-next n = let next : n + 1 ≡ suc n = omega arith in sym (blocks-more n) ∙ ap (λ (m : ℕ). blocks_places (numbers_from 0 m)) next

pub block_added : (n : ℕ) (before after : List Place) → before ≡ blocks_places (numbers_from 0 n) → after ≡ before ++ block_places n → after ≡ blocks_places (numbers_from 0 (n + 1))
block_added n before after so_far more = more ∙ ap (λ (places : List Place). places ++ block_places n) so_far ∙ sym (blocks-more n)

within_more : (size more : ℕ) (places : List Place) → size ≤ more → AllByRecursion (IsWithin size size) places → AllByRecursion (IsWithin more more) places
within_more size more places grows within = all_from_in (IsWithin more more) places (λ place there.
    let here = all_in (IsWithin size size) places place within there in
    record { row = (here.row.0, omega (arith, grows, here.row.1)); column = (here.column.0, omega (arith, grows, here.column.1)) })

abbrev IsOfThree : ℕ → Type 0
IsOfThree number = (1 ≤ number) × (number ≤ 3)

block_within : (before size : ℕ) → before + 3 ≤ size → AllByRecursion (IsWithin size size) (places_behind before)
block_within before size room =
    let one : IsOfThree 1 = (omega arith, omega arith) in
    let two : IsOfThree 2 = (omega arith, omega arith) in
    let three : IsOfThree 3 = (omega arith, omega arith) in
    (at 1 1 one one, (at 1 2 one two, (at 2 1 two one, (at 2 3 two three, (at 3 3 three three, tt)))))
  where
    at : (row column : ℕ) → IsOfThree row → IsOfThree column → IsWithin size size (before + row, before + column)
    at row column is also = record { row = (omega (arith, is.0), omega (arith, is.1, room)); column = (omega (arith, also.0), omega (arith, also.1, room)) }

pub blocks_within : (n : ℕ) → AllByRecursion (IsWithin (3 * n) (3 * n)) (blocks_places (numbers_from 0 n))
blocks_within zero = tt
blocks_within (suc n) =
    let grows : 3 * n ≤ 3 * suc n = omega arith in
    subst (AllByRecursion (IsWithin (3 * suc n) (3 * suc n))) (blocks-next n)
    (All-append (IsWithin (3 * suc n) (3 * suc n)) (blocks_places (numbers_from 0 n)) (block_places n)
    (within_more (3 * n) (3 * suc n) (blocks_places (numbers_from 0 n)) grows (blocks_within n))
    (block_within (3 * n) (3 * suc n) (omega arith)))

pub blocks_above : (n : ℕ) → EndAbove (blocks_places (numbers_from 0 n)) (3 * n)
blocks_above n = all_from_in (λ place. place.0 ≤ 3 * n) (blocks_places (numbers_from 0 n)) (λ place there.
    (all_in (IsWithin (3 * n) (3 * n)) (blocks_places (numbers_from 0 n)) place (blocks_within n) there).row.1)

blocks_ascending : (n : ℕ) → IsAscendingBy place_cmp (blocks_places (numbers_from 0 n))
blocks_ascending zero = tt
blocks_ascending (suc n) =
    subst (IsAscendingBy place_cmp) (blocks-next n) (block_ascending (3 * n) (blocks_places (numbers_from 0 n)) (blocks_above n) (blocks_ascending n))

pub blocks-sound : (n : ℕ) (places : List Place) → n ≤ most_blocks → places ≡ blocks_places (numbers_from 0 n) → IsPattern (record { rows = 3 * n; cols = 3 * n; places = places })
blocks-sound n places few made = record {
  rows = omega (arith, few);
  columns = omega (arith, few);
  within = subst (AllByRecursion (IsWithin (3 * n) (3 * n))) (sym made) (blocks_within n);
  ascending = subst (IsAscendingBy place_cmp) (sym made) (blocks_ascending n);
}
