-- Where a marker is split from the first one, the rule is kept: the new one has the next number.
use Rattle.std.proofs.Common.{◌≡◌, ◌≢◌, ◌⊎◌, inr, ⊎_elim, ℕ, suc, ◌<◌, List, [], ◌∷◌, ◌++◌, length, refl, sym, ap, subst, ◌∙◌, arith, length-set, false}
use Rattle.std.specs.Prelude.{◌↔◌, Contains, slice_set}
use Rattle.plain_laws.specs.Without.{all_apart}
use Rattle.plain_laws.specs.Members.{cases, here, there}
use Rattle.plain_laws.specs.Places.{at_end, at_inside}
use Rattle.atomic_table.specs.Table.{Splits, State}
use Rattle.atomic_table.proofs.Lists.{at_last, at_longer}
use Rattle.mark_board.specs.declared.view.View.{View}
use Rattle.mark_board.specs.Board.{AreNumbered, BoardRule, EachOnce, IsAt, IsMarker, IsUnjoined, first_half, second_half, spent_view}
use Rattle.mark_board.specs.Words.{least_of}
use Rattle.mark_board.proofs.LeastMarks.{least_end, least_same}
use Rattle.mark_board.proofs.Numbers.{at_other, first_place, is_first, is_marker, marker_moves, now_at, other_at}
use Rattle.mark_board.proofs.Places.{length_more}

module _ {S : Type 0} {cells : ℕ} {s : State S View} (rule : BoardRule cells s) (v : View) (at : IsAt s.views 0 v) (is : IsMarker 0 v) where
  -- the views after the split
  abbrev halves : List View
  halves = slice_set s.views 0 (first_half v) ++ second_half v ∷ []

  first_is : rule.numbered.first ≡ v
  first_is = is_first rule.numbered 0 v at refl

  count : length s.views ≡ suc v.splits
  count = rule.numbered.count ∙ ap (λ (u : View). suc u.splits) first_is

  count_set : length (slice_set s.views 0 (first_half v)) ≡ suc v.splits
  count_set = length-set s.views 0 (first_half v) ∙ count

  first_at : IsAt halves 0 (first_half v)
  first_at = at_longer (slice_set s.views 0 (first_half v)) (second_half v ∷ []) 0 (first_half v) (now_at s.views 0 v (first_half v) at)

  last_at : IsAt halves (suc v.splits) (second_half v)
  last_at = at_last (slice_set s.views 0 (first_half v)) (second_half v) (suc v.splits) count_set

  last_is : IsMarker (suc v.splits) (second_half v)
  last_is = record { unspent = refl; number_is = refl }

  first_marks : IsMarker 0 (first_half v)
  first_marks = record { unspent = is.unspent; number_is = is.number_is }

  -- who stands in the new list: the first one, the new one, or another as it was
  data Stands : ℕ → View → Type 0 where
    is_first_one : {other : ℕ} {u : View} → other ≡ 0 → first_half v ≡ u → Stands other u
    is_last_one : {other : ℕ} {u : View} → other ≡ suc v.splits → second_half v ≡ u → Stands other u
    is_else : {other : ℕ} {u : View} → other ≢ 0 → IsAt s.views other u → Stands other u

  stands : (other : ℕ) (u : View) → IsAt halves other u → Stands other u
  stands other u here = ⊎_elim
      (λ (was : IsAt (slice_set s.views 0 (first_half v)) other u). ⊎_elim (λ one. is_first_one one.0 one.1) (λ else. is_else else.0 else.1) (other_at s.views 0 v (first_half v) at other u was))
      (λ (last : (other ≡ length (slice_set s.views 0 (first_half v))) × (second_half v ≡ u)). is_last_one (last.0 ∙ count_set) last.1)
      (at_end (slice_set s.views 0 (first_half v)) (second_half v) u other here)

  else_at : (other : ℕ) (u : View) → other ≢ 0 → IsAt s.views other u → IsAt halves other u
  else_at other u apart was =
      at_longer (slice_set s.views 0 (first_half v)) (second_half v ∷ []) other u (at_other s.views 0 v (first_half v) at other u was apart)

  its_marker : (other : ℕ) (u : View) → Stands other u → (u ≡ spent_view) ⊎ IsMarker other u
  its_marker other u (is_first_one same one) = inr (subst (λ (x : View). IsMarker other x) one (marker_moves 0 other (first_half v) (sym same) first_marks))
  its_marker other u (is_last_one same one) = inr (subst (λ (x : View). IsMarker other x) one (marker_moves (suc v.splits) other (second_half v) (sym same) last_is))
  its_marker other u (is_else apart was) = rule.numbered.markers other u was

  no_others : (other : ℕ) (u : View) → Stands (suc other) u → u.unjoined ≡ []
  no_others other u (is_first_one same one) = absurd (omega (arith, same))
  no_others other u (is_last_one same one) = sym (ap (λ (x : View). x.unjoined) one)
  no_others other u (is_else apart was) = rule.numbered.no_others other u was

  was_unjoined : (other : ℕ) → Contains v.unjoined other ↔ IsUnjoined s.views other
  was_unjoined other = subst (λ (u : View). Contains u.unjoined other ↔ IsUnjoined s.views other) first_is (rule.numbered.unjoined other)

  now_unjoined : (other : ℕ) → Contains (suc v.splits ∷ v.unjoined) other → IsUnjoined halves other
  now_unjoined other has = ⊎_elim
      (λ (same : suc v.splits ≡ other). (
        (omega (arith, same)),
        (second_half v, subst (λ n. IsAt halves n (second_half v)) same last_at, marker_moves (suc v.splits) other (second_half v) same last_is),
      ))
      (λ (old : Contains v.unjoined other).
      let one = (was_unjoined other).0 old in
      (one.0, (one.1.0, else_at other one.1.0 (λ zero. let above = one.0 in absurd (omega (arith, above, zero))) one.1.1, one.1.2)))
      (cases (suc v.splits) other v.unjoined has)

  by_stand : (other : ℕ) (u : View) → 0 < other → IsMarker other u → Stands other u → Contains (suc v.splits ∷ v.unjoined) other
  by_stand other u above one (is_first_one same there) = absurd (omega (arith, above, same))
  by_stand other u above one (is_last_one same there) = subst (λ n. Contains (suc v.splits ∷ v.unjoined) n) (sym same) (here (suc v.splits) v.unjoined)
  by_stand other u above one (is_else apart was) = there (suc v.splits) other v.unjoined ((was_unjoined other).1 (above, (u, was, one)))

  below_new : (other : ℕ) → Contains v.unjoined other → other < suc v.splits
  below_new other has =
      let one = (was_unjoined other).0 has in
      subst (λ n. other < n) count (at_inside s.views other one.1.0 one.1.1)

  numbered : AreNumbered halves
  numbered = record {
    first = first_half v;
    first_is = first_at;
    first_lives = first_marks;
    count = length_more (slice_set s.views 0 (first_half v)) (second_half v) ∙ ap suc count_set;
    markers = λ other u here. its_marker other u (stands other u here);
    unjoined = λ other. (now_unjoined other, (λ one. by_stand other one.1.0 one.0 one.1.2 (stands other one.1.0 one.1.1)));
    once = (all_apart (suc v.splits) v.unjoined below_new, subst (λ (u : View). EachOnce u.unjoined) first_is rule.numbered.once);
    no_others = λ other u here. no_others other u (stands (suc other) u here);
  }

  same_least : (word : ℕ) → least_of word halves ≡ least_of word s.views
  same_least word = least_end word (slice_set s.views 0 (first_half v)) (second_half v) refl ∙ least_same word s.views 0 v (first_half v) at refl

  pub split : BoardRule cells (record { words = s.words; homes = s.homes; views = slice_set s.views 0 (first_half v) ++ second_half v ∷ [] })
  split = record {
    numbered = numbered;
    count = rule.count;
    origin = rule.origin;
    least = λ word above inside. rule.least word above inside ∙ sym (same_least word);
  }

pub splits : {S : Type 0} (cells id : ℕ) (v : View) → v.spent ≡ false → v.number ≡ 0 → Splits {S = S} (BoardRule cells) id v (first_half v) (second_half v)
splits cells id v unspent first s rule at =
    let place = first_place rule.numbered id v at unspent first in
    let at_zero : IsAt s.views 0 v = subst (λ n. IsAt s.views n v) place at in
    subst (λ n. BoardRule cells (record { words = s.words; homes = s.homes; views = slice_set s.views n (first_half v) ++ second_half v ∷ [] })) (sym place)
    (split rule v at_zero (is_marker rule.numbered 0 v at_zero unspent))
