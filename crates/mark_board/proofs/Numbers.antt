-- Markers stay numbered by their places.
use Rattle.std.proofs.Common.{◌≡◌, ◌≢◌, ◌⊎◌, inr, ⊎_elim, ℕ, suc, List, [], set, refl, sym, ap, subst, ◌∙◌, length-set, false}
use Rattle.std.specs.Prelude.{◌↔◌, Contains}
use Rattle.std.proofs.lemmas.Bool.{true≢false}
use mathlib.Core.Logic.{dite}
use native.Mathlib.Decide.{ℕ_discrete}
use Rattle.plain_laws.specs.Places.{at_inside, at_one}
use Rattle.atomic_table.proofs.Lists.{at_set, set_else, set_here}
use Rattle.mark_board.specs.declared.view.View.{View}
use Rattle.mark_board.specs.Board.{AreNumbered, EachOnce, IsAt, IsMarker, IsUnjoined, spent_view}

pub not_spent : (place : ℕ) → IsMarker place spent_view → ⊥
not_spent place is = true≢false is.unspent

-- the marker changes, but not what it knows of numbers
pub record HasSameNumbers (v w : View) : Type 0 where
  pub unspent : w.spent ≡ v.spent
  pub number : w.number ≡ v.number
  pub splits : w.splits ≡ v.splits
  pub unjoined : w.unjoined ≡ v.unjoined

module _ (views : List View) (place : ℕ) (v w : View) (at : IsAt views place v) where
  pub now_at : IsAt (set views place w) place w
  now_at = set_here views place w (at_inside views place v at)

  -- the others are where they were
  pub at_other : (other : ℕ) (u : View) → IsAt views other u → other ≢ place → IsAt (set views place w) other u
  at_other other u was apart = set_else views place other w apart ∙ was

  pub other_at : (other : ℕ) (u : View) → IsAt (set views place w) other u → ((other ≡ place) × (w ≡ u)) ⊎ ((other ≢ place) × IsAt views other u)
  other_at other u now = at_set views place other w u now

-- a marker that wasn't joined away is at its own place
pub is_marker : {views : List View} → AreNumbered views → (place : ℕ) (v : View) → IsAt views place v → v.spent ≡ false → IsMarker place v
is_marker numbered place v at unspent =
    ⊎_elim (λ gone. absurd (true≢false (sym (ap (λ (u : View). u.spent) gone) ∙ unspent))) (λ is. is) (numbered.markers place v at)

-- the same marker at the same place
pub marker_moves : (place other : ℕ) (v : View) → place ≡ other → IsMarker place v → IsMarker other v
marker_moves place other v same is = record { unspent = is.unspent; number_is = is.number_is ∙ same }

-- the place of the first marker is 0
pub first_place : {views : List View} → AreNumbered views → (place : ℕ) (v : View) → IsAt views place v → v.spent ≡ false → v.number ≡ 0 → place ≡ 0
first_place numbered place v at unspent first = sym (is_marker numbered place v at unspent).number_is ∙ first

pub is_first : {views : List View} → (numbered : AreNumbered views) (place : ℕ) (v : View) → IsAt views place v → place ≡ 0 → numbered.first ≡ v
is_first {views} numbered place v at same = at_one views 0 numbered.first v numbered.first_is (subst (λ n. IsAt views n v) same at)

module _ (views : List View) (place : ℕ) (v w : View) (at : IsAt views place v) (same : HasSameNumbers v w) (is : IsMarker place v) where
  now_marker : IsMarker place w
  now_marker = record { unspent = same.unspent ∙ is.unspent; number_is = same.number ∙ is.number_is }

  unjoined_kept : (other : ℕ) → IsUnjoined views other ↔ IsUnjoined (set views place w) other
  unjoined_kept other = (there, back)
    where
      there : IsUnjoined views other → IsUnjoined (set views place w) other
      there (above, (u, was, one)) =
          dite (ℕ_discrete other place)
          (λ (here : other ≡ place). (above, (w, subst (λ n. IsAt (set views place w) n w) (sym here) (now_at views place v w at), marker_moves place other w (sym here) now_marker)))
          (λ (apart : other ≢ place). (above, (u, at_other views place v w at other u was apart, one)))

      back : IsUnjoined (set views place w) other → IsUnjoined views other
      back (above, (u, now, one)) =
          ⊎_elim (λ here. (above, (v, subst (λ n. IsAt views n v) (sym here.0) at, marker_moves place other v (sym here.0) is))) (λ apart. (above, (u, apart.1, one)))
          (other_at views place v w at other u now)

  now_markers : AreNumbered views → (other : ℕ) (u : View) → IsAt (set views place w) other u → (u ≡ spent_view) ⊎ IsMarker other u
  now_markers numbered other u now =
      ⊎_elim (λ here. inr (subst (λ (x : View). IsMarker other x) here.1 (marker_moves place other w (sym here.0) now_marker))) (λ apart. numbered.markers other u apart.1)
      (other_at views place v w at other u now)

  now_no_others : AreNumbered views → (other : ℕ) (u : View) → IsAt (set views place w) (suc other) u → u.unjoined ≡ []
  now_no_others numbered other u now =
      ⊎_elim
      (λ here. sym (ap (λ (x : View). x.unjoined) here.1) ∙ same.unjoined ∙ numbered.no_others other v (subst (λ n. IsAt views n v) (sym here.0) at))
      (λ apart. numbered.no_others other u apart.1)
      (other_at views place v w at (suc other) u now)

  numbered_by : (numbered : AreNumbered views) (first : View) → IsAt (set views place w) 0 first → IsMarker 0 first
      → first.splits ≡ numbered.first.splits → first.unjoined ≡ numbered.first.unjoined → AreNumbered (set views place w)
  numbered_by numbered first at_first lives splits unjoined = record {
    first = first;
    first_is = at_first;
    first_lives = lives;
    count = length-set views place w ∙ numbered.count ∙ ap suc (sym splits);
    markers = now_markers numbered;
    unjoined = λ other. subst (λ (noted : List ℕ). Contains noted other ↔ IsUnjoined (set views place w) other) (sym unjoined)
        ((λ has. (unjoined_kept other).0 ((numbered.unjoined other).0 has)), (λ one. (numbered.unjoined other).1 ((unjoined_kept other).1 one)));
    once = subst EachOnce (sym unjoined) numbered.once;
    no_others = now_no_others numbered;
  }

  pub numbered_kept : AreNumbered views → AreNumbered (set views place w)
  numbered_kept numbered =
      dite (ℕ_discrete 0 place)
      (λ (here : 0 ≡ place).
      let first : numbered.first ≡ v = is_first numbered place v at (sym here) in
      numbered_by numbered w (subst (λ n. IsAt (set views place w) n w) (sym here) (now_at views place v w at)) (marker_moves place 0 w (sym here) now_marker)
      (same.splits ∙ sym (ap (λ (x : View). x.splits) first)) (same.unjoined ∙ sym (ap (λ (x : View). x.unjoined) first)))
      (λ (apart : 0 ≢ place). numbered_by numbered numbered.first (at_other views place v w at 0 numbered.first numbered.first_is apart) numbered.first_lives refl refl)
