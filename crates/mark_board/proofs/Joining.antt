-- Where the first marker takes over what another one has, the rule is kept.
use Rattle.std.proofs.Common.{◌≡◌, ◌≢◌, ◌⊎◌, inl, inr, ⊎_elim, ◌==◌, not, cond, true, false, ℕ, zero, suc, ◌<◌, List, [], ◌∷◌, refl, sym, ap, subst, ◌∙◌, arith, length-set}
use Rattle.std.specs.Prelude.{◌↔◌, Contains, slice_set}
use mathlib.Core.Option.{some-injective}
use Rattle.plain_laws.specs.Lists.{All-filter}
use Rattle.plain_laws.specs.Without.{kept_from, kept_in}
use Rattle.atomic_table.specs.Table.{Joins, State}
use Rattle.atomic_table.proofs.Lists.{at_set, set_else}
use Rattle.mark_board.specs.declared.view.View.{View}
use Rattle.mark_board.specs.Board.{AreNumbered, BoardRule, EachOnce, IsAt, IsMarker, IsUnjoined, both_views, spent_view}
use Rattle.mark_board.specs.Markers.{without}
use Rattle.mark_board.specs.Words.{least_at, least_of}
use Rattle.mark_board.proofs.LeastMarks.{least_append, least_apart}
use Rattle.mark_board.proofs.Numbers.{at_other, is_first, is_marker, marker_moves, not_spent, now_at, other_at}

-- ---- numbers without one of them

kept_apart : (gone : ℕ) (xs : List ℕ) → EachOnce xs → EachOnce (without gone xs)
kept_apart gone [] once = tt
kept_apart gone (x ∷ xs) once = elim (not (x == gone)) as (λ b. EachOnce (cond b (x ∷ without gone xs) (without gone xs))) [
  | true ↦ (All-filter (λ other. x ≢ other) (λ y. not (y == gone)) xs once.0, kept_apart gone xs once.1)
  | false ↦ kept_apart gone xs once.1
]

-- ---- marks

-- what two had, one has now
least_joined : (word : ℕ) (views : List View) (other : ℕ) (v w : View) → IsAt views 0 v → other ≢ 0 → IsAt views other w
    → least_of word views ≡ least_of word (slice_set (slice_set views 0 (both_views v w)) other spent_view)
least_joined word views zero v w at apart at_w = absurd (apart refl)
least_joined word [] (suc other) v w at apart at_w = refl
least_joined word (u ∷ views) (suc other) v w at apart at_w =
    let same : least_at word u.marks ≡ least_at word v.marks = ap (λ (x : View). least_at word x.marks) (some-injective u v at) in
    let others = least_apart word views other w spent_view at_w refl in
    let both = least_append word v.marks w.marks in
    omega (arith, same, others, both)

-- ---- the rule

module _ {S : Type 0} {cells : ℕ} {s : State S View} (rule : BoardRule cells s) (v w : View) (other : ℕ) (at : IsAt s.views 0 v) (apart : other ≢ 0) (at_w : IsAt s.views other w)
    (is : IsMarker 0 v) (is_w : IsMarker other w) where
  abbrev joined : List View
  joined = slice_set (slice_set s.views 0 (both_views v w)) other spent_view

  first_at : IsAt joined 0 (both_views v w)
  first_at = set_else (slice_set s.views 0 (both_views v w)) other 0 spent_view (λ same. apart (sym same)) ∙ now_at s.views 0 v (both_views v w) at

  first_marks : IsMarker 0 (both_views v w)
  first_marks = record { unspent = is.unspent; number_is = is.number_is }

  first_is : rule.numbered.first ≡ v
  first_is = is_first rule.numbered 0 v at refl

  -- who stands in the new list: the first one, who was joined away, or another as it was
  data Stands : ℕ → View → Type 0 where
    is_first_one : {place : ℕ} {u : View} → place ≡ 0 → both_views v w ≡ u → Stands place u
    is_gone : {place : ℕ} {u : View} → place ≡ other → spent_view ≡ u → Stands place u
    is_else : {place : ℕ} {u : View} → place ≢ 0 → place ≢ other → IsAt s.views place u → Stands place u

  stands : (place : ℕ) (u : View) → IsAt joined place u → Stands place u
  stands place u here = ⊎_elim
      (λ (gone : (place ≡ other) × (spent_view ≡ u)). is_gone gone.0 gone.1)
      (λ (else : (place ≢ other) × IsAt (slice_set s.views 0 (both_views v w)) place u). ⊎_elim
      (λ (one : (place ≡ 0) × (both_views v w ≡ u)). is_first_one one.0 one.1)
      (λ (was : (place ≢ 0) × IsAt s.views place u). is_else was.0 else.0 was.1)
      (other_at s.views 0 v (both_views v w) at place u else.1))
      (at_set (slice_set s.views 0 (both_views v w)) other place spent_view u here)

  else_at : (place : ℕ) (u : View) → place ≢ 0 → place ≢ other → IsAt s.views place u → IsAt joined place u
  else_at place u from_first from_other was =
      set_else (slice_set s.views 0 (both_views v w)) other place spent_view from_other ∙ at_other s.views 0 v (both_views v w) at place u was from_first

  its_marker : (place : ℕ) (u : View) → Stands place u → (u ≡ spent_view) ⊎ IsMarker place u
  its_marker place u (is_first_one same one) = inr (subst (λ (x : View). IsMarker place x) one (marker_moves 0 place (both_views v w) (sym same) first_marks))
  its_marker place u (is_gone same one) = inl (sym one)
  its_marker place u (is_else from_first from_other was) = rule.numbered.markers place u was

  no_others : (place : ℕ) (u : View) → Stands (suc place) u → u.unjoined ≡ []
  no_others place u (is_first_one same one) = absurd (omega (arith, same))
  no_others place u (is_gone same one) = sym (ap (λ (x : View). x.unjoined) one)
  no_others place u (is_else from_first from_other was) = rule.numbered.no_others place u was

  was_unjoined : (place : ℕ) → Contains v.unjoined place ↔ IsUnjoined s.views place
  was_unjoined place = subst (λ (u : View). Contains u.unjoined place ↔ IsUnjoined s.views place) first_is (rule.numbered.unjoined place)

  now_unjoined : (place : ℕ) → Contains (without w.number v.unjoined) place → IsUnjoined joined place
  now_unjoined place has =
      let kept = kept_from w.number place v.unjoined has in
      let one = (was_unjoined place).0 kept.0 in
      (one.0, (one.1.0, else_at place one.1.0 (λ zero. let above = one.0 in absurd (omega (arith, above, zero))) (λ same. kept.1 (same ∙ sym is_w.number_is)) one.1.1, one.1.2))

  by_stand : (place : ℕ) (u : View) → 0 < place → IsMarker place u → Stands place u → Contains (without w.number v.unjoined) place
  by_stand place u above one (is_first_one same there) = absurd (omega (arith, above, same))
  by_stand place u above one (is_gone same there) = absurd (not_spent place (subst (λ (x : View). IsMarker place x) (sym there) one))
  by_stand place u above one (is_else from_first from_other was) =
      kept_in w.number place v.unjoined ((was_unjoined place).1 (above, (u, was, one))) (λ same. from_other (same ∙ is_w.number_is))

  numbered : AreNumbered joined
  numbered = record {
    first = both_views v w;
    first_is = first_at;
    first_lives = first_marks;
    count = length-set (slice_set s.views 0 (both_views v w)) other spent_view ∙ length-set s.views 0 (both_views v w) ∙ rule.numbered.count ∙ ap (λ (u : View). suc u.splits) first_is;
    markers = λ place u here. its_marker place u (stands place u here);
    unjoined = λ place. (now_unjoined place, (λ one. by_stand place one.1.0 one.0 one.1.2 (stands place one.1.0 one.1.1)));
    once = kept_apart w.number v.unjoined (subst (λ (u : View). EachOnce u.unjoined) first_is rule.numbered.once);
    no_others = λ place u here. no_others place u (stands (suc place) u here);
  }

  pub join : BoardRule cells (record { words = s.words; homes = s.homes; views = slice_set (slice_set s.views 0 (both_views v w)) other spent_view })
  join = record {
    numbered = numbered;
    count = rule.count;
    origin = rule.origin;
    least = λ word above inside. rule.least word above inside ∙ least_joined word s.views other v w at apart at_w;
  }

module _ {S : Type 0} (cells id other : ℕ) (v w : View) (unspent : v.spent ≡ false) (unspent_w : w.spent ≡ false) (unjoined : Contains v.unjoined w.number) where
  -- only the first marker has others split from it
  is_zero : {s : State S View} (rule : BoardRule cells s) (place : ℕ) → IsAt s.views place v → place ≡ 0
  is_zero rule zero at = refl
  is_zero rule (suc place) at =
      let none = rule.numbered.no_others place v at in
      let has = subst (λ (xs : List ℕ). Contains xs w.number) none unjoined in
      let inside = has.1 in absurd (omega (arith, inside))

  pub joins : Joins {S = S} (BoardRule cells) id v other w (both_views v w) spent_view
  joins s rule at apart at_other_one =
      let place = is_zero rule id at in
      let at_zero : IsAt s.views 0 v = subst (λ n. IsAt s.views n v) place at in
      let from_first : other ≢ 0 = λ zero. apart (zero ∙ sym place) in
      let at_w : IsAt s.views other w = ⊎_elim (λ (same : (other ≡ id) × (both_views v w ≡ w)). absurd (apart same.0)) (λ (else : (other ≢ id) × IsAt s.views other w). else.1)
      (other_at s.views id v (both_views v w) at other w at_other_one) in
      subst (λ n. BoardRule cells (record { words = s.words; homes = s.homes; views = slice_set (slice_set s.views n (both_views v w)) other spent_view })) (sym place)
      (join rule v w other at_zero from_first at_w (is_marker rule.numbered 0 v at_zero unspent) (is_marker rule.numbered other w at_w unspent_w))
