-- Seats stay numbered by their places, and one mark stays one.
use Rattle.std.proofs.Common.{◌≡◌, ◌≢◌, ◌⊎◌, inr, ⊎_elim, ℕ, suc, ◌<◌, ◌^◌, List, [], Some, None, set, refl, sym, ap, subst, ◌∙◌, length-set}
use Rattle.std.specs.Prelude.{◌↔◌, Contains}
use mathlib.Core.Logic.{dite}
use native.Mathlib.Decide.{ℕ_discrete}
use Rattle.plain_laws.specs.Places.{at_inside, at_one}
use Rattle.atomic_table.proofs.Lists.{at_set, set_else, set_here}
use Rattle.app_laws.specs.Order.{Pairwise}
use Rattle.worker_gate.specs.declared.view.View.{View}
use Rattle.worker_gate.specs.Hall.{AreNumbered, IsAt, IsSeat, IsUnjoined, NoteOneMark}
use Rattle.worker_gate.specs.Steps.{spent}

pub no_origin : {S V : Type 0} (origin : S) (place : ℕ) → IsSeat {V = V} origin place spent → ⊥
no_origin origin place seat = let is : None ≡ Some origin = seat.origin_is in cc

module _ {S V : Type 0} where
  -- the seat changes, but not what it knows of numbers
  pub record HasSameNumbers (v w : View S V) : Type 0 where
    pub origin : w.origin ≡ v.origin
    pub number : w.number ≡ v.number
    pub splits : w.splits ≡ v.splits
    pub unjoined : w.unjoined ≡ v.unjoined

  module _ (views : List (View S V)) (place : ℕ) (v w : View S V) (at : IsAt views place v) where
    pub now_at : IsAt (set views place w) place w
    now_at = set_here views place w (at_inside views place v at)

    -- the others are where they were
    pub at_other : (other : ℕ) (u : View S V) → IsAt views other u → other ≢ place → IsAt (set views place w) other u
    at_other other u was apart = set_else views place other w apart ∙ was

    pub other_at : (other : ℕ) (u : View S V) → IsAt (set views place w) other u → ((other ≡ place) × (w ≡ u)) ⊎ ((other ≢ place) × IsAt views other u)
    other_at other u now = at_set views place other w u now

    -- at each place somebody still is
    pub someone_at : (other : ℕ) (u : View S V) → IsAt views other u → (x : View S V) × IsAt (set views place w) other x
    someone_at other u was =
        dite (ℕ_discrete other place)
        (λ (here : other ≡ place). (w, subst (λ n. IsAt (set views place w) n w) (sym here) now_at))
        (λ (apart : other ≢ place). (u, at_other other u was apart))

  -- at most one still notes a mark, where the one that changed notes none, or nobody else does
  pub one_mark_kept : (views : List (View S V)) (place : ℕ) (v w : View S V) → IsAt views place v
      → ((other : ℕ) (u : View S V) → other ≢ place → IsAt views other u → w.over ≢ None → u.over ≢ None → ⊥) → NoteOneMark views → NoteOneMark (set views place w)
  one_mark_kept views place v w at alone one p q u x at_u at_x marked also =
      ⊎_elim
      (λ (here : (p ≡ place) × (w ≡ u)). ⊎_elim
      (λ (too : (q ≡ place) × (w ≡ x)). here.0 ∙ sym too.0)
      (λ (else : (q ≢ place) × IsAt views q x). absurd (alone q x else.0 else.1 (subst (λ (y : View S V). y.over ≢ None) (sym here.1) marked) also))
      (other_at views place v w at q x at_x))
      (λ (apart : (p ≢ place) × IsAt views p u). ⊎_elim
      (λ (here : (q ≡ place) × (w ≡ x)). absurd (alone p u apart.0 apart.1 (subst (λ (y : View S V). y.over ≢ None) (sym here.1) also) marked))
      (λ (else : (q ≢ place) × IsAt views q x). one p q u x apart.1 else.1 marked also)
      (other_at views place v w at q x at_x))
      (other_at views place v w at p u at_u)

  -- the seat that changed notes what it noted
  pub same_mark_kept : (views : List (View S V)) (place : ℕ) (v w : View S V) → IsAt views place v → w.over ≡ v.over → NoteOneMark views → NoteOneMark (set views place w)
  same_mark_kept views place v w at same one =
      one_mark_kept views place v w at
      (λ other u apart was marked also. apart (sym (one place other v u at was (subst (λ over. over ≢ None) same marked) also))) one

module _ {S V : Type 0} {origin : S} where
  -- a seat that wasn't joined away is at its own place
  pub is_seat : {views : List (View S V)} → AreNumbered origin views → (place : ℕ) (v : View S V) → IsAt views place v → v.origin ≢ None → IsSeat origin place v
  is_seat numbered place v at lives = ⊎_elim (λ gone. absurd (lives (ap (λ (u : View S V). u.origin) gone))) (λ seat. seat) (numbered.seats place v at)

  -- the same seat at the same place
  pub seat_moves : (place other : ℕ) (v : View S V) → place ≡ other → IsSeat origin place v → IsSeat origin other v
  seat_moves place other v same seat = record { origin_is = seat.origin_is; number_is = seat.number_is ∙ same }

  -- the place of the first seat is 0
  pub first_place : {views : List (View S V)} → AreNumbered origin views → (place : ℕ) (v : View S V) → IsAt views place v → v.origin ≢ None → v.number ≡ 0 → place ≡ 0
  first_place numbered place v at lives first = sym (is_seat numbered place v at lives).number_is ∙ first

  pub is_first : {views : List (View S V)} → (numbered : AreNumbered origin views) (place : ℕ) (v : View S V) → IsAt views place v → place ≡ 0 → numbered.first ≡ v
  is_first {views} numbered place v at same = at_one views 0 numbered.first v numbered.first_is (subst (λ n. IsAt views n v) same at)

  module _ (views : List (View S V)) (place : ℕ) (v w : View S V) (at : IsAt views place v) (same : HasSameNumbers v w) (seat : IsSeat origin place v) where
    now_seat : IsSeat origin place w
    now_seat = record { origin_is = same.origin ∙ seat.origin_is; number_is = same.number ∙ seat.number_is }

    unjoined_kept : (other : ℕ) → IsUnjoined origin views other ↔ IsUnjoined origin (set views place w) other
    unjoined_kept other = (there, back)
      where
        there : IsUnjoined origin views other → IsUnjoined origin (set views place w) other
        there (above, (u, was, is)) =
            dite (ℕ_discrete other place)
            (λ (here : other ≡ place). (above, (w, subst (λ n. IsAt (set views place w) n w) (sym here) (now_at views place v w at), seat_moves place other w (sym here) now_seat)))
            (λ (apart : other ≢ place). (above, (u, at_other views place v w at other u was apart, is)))

        back : IsUnjoined origin (set views place w) other → IsUnjoined origin views other
        back (above, (u, now, is)) =
            ⊎_elim (λ here. (above, (v, subst (λ n. IsAt views n v) (sym here.0) at, seat_moves place other v (sym here.0) seat))) (λ apart. (above, (u, apart.1, is))) (other_at views place v w at other u now)

    now_seats : AreNumbered origin views → (other : ℕ) (u : View S V) → IsAt (set views place w) other u → (u ≡ spent) ⊎ IsSeat origin other u
    now_seats numbered other u now =
        ⊎_elim (λ here. inr (subst (λ (x : View S V). IsSeat origin other x) here.1 (seat_moves place other w (sym here.0) now_seat))) (λ apart. numbered.seats other u apart.1) (other_at views place v w at other u now)

    now_no_others : AreNumbered origin views → (other : ℕ) (u : View S V) → IsAt (set views place w) (suc other) u → u.unjoined ≡ []
    now_no_others numbered other u now =
        ⊎_elim
        (λ here. sym (ap (λ (x : View S V). x.unjoined) here.1) ∙ same.unjoined ∙ numbered.no_others other v (subst (λ n. IsAt views n v) (sym here.0) at))
        (λ apart. numbered.no_others other u apart.1)
        (other_at views place v w at (suc other) u now)

    numbered_by : (numbered : AreNumbered origin views) (first : View S V) → IsAt (set views place w) 0 first → IsSeat origin 0 first
        → first.splits ≡ numbered.first.splits → first.unjoined ≡ numbered.first.unjoined → AreNumbered origin (set views place w)
    numbered_by numbered first is lives splits unjoined = record {
      first = first;
      first_is = is;
      first_lives = lives;
      count = length-set views place w ∙ numbered.count ∙ ap suc (sym splits);
      few = subst (λ n. suc n < 2 ^ 32) (sym splits) numbered.few;
      seats = now_seats numbered;
      unjoined = λ other. subst (λ (noted : List ℕ). Contains noted other ↔ IsUnjoined origin (set views place w) other) (sym unjoined)
          ((λ has. (unjoined_kept other).0 ((numbered.unjoined other).0 has)), (λ is. (numbered.unjoined other).1 ((unjoined_kept other).1 is)));
      once = subst (Pairwise (λ one other. one ≢ other)) (sym unjoined) numbered.once;
      no_others = now_no_others numbered;
    }

    pub numbered_kept : AreNumbered origin views → AreNumbered origin (set views place w)
    numbered_kept numbered =
        dite (ℕ_discrete 0 place)
        (λ (here : 0 ≡ place).
        let first : numbered.first ≡ v = is_first numbered place v at (sym here) in
        numbered_by numbered w (subst (λ n. IsAt (set views place w) n w) (sym here) (now_at views place v w at)) (seat_moves place 0 w (sym here) now_seat)
        (same.splits ∙ sym (ap (λ (x : View S V). x.splits) first)) (same.unjoined ∙ sym (ap (λ (x : View S V). x.unjoined) first)))
        (λ (apart : 0 ≢ place). numbered_by numbered numbered.first (at_other views place v w at 0 numbered.first numbered.first_is apart) numbered.first_lives refl refl)
