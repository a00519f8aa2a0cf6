-- Steps of a seat that is known by an equation, at a desk whose state is.
use Rattle.std.proofs.Common.{◌≡◌, ℕ, List, [], ◌∷◌, Option, Some, None, sym, ap, subst, ◌∙◌}
use Rattle.std.specs.Prelude.{◌==◌}
use mathlib.Core.Option.{none}
use prog.Atomic.{either}
use Rattle.atomic_table.specs.Table.{Allows, Splits, rest, step}
use Rattle.work_desk.specs.declared.view.View.{View}
use Rattle.work_desk.specs.declared.view.Part.TheVariants.{Shut, Open}
use Rattle.work_desk.specs.Desk.{Seat, seen, givers, workers, giving, waiting, resting, working, Opens, Lays, Collects, Revokes, Closes, Takes, Finishes}
use Rattle.work_desk.specs.Seats.{BusyState, SeatState}
use Rattle.work_desk.proofs.Places.{first_held}
use Rattle.work_desk.proofs.Keeping.{Rule, opens, splits, lays, collects, revokes, closes, takes, finishes}

module _ {K : Type 0} where
  pub same_desk : {one other : SeatState K} → one ≡ other → one.desk ≡ other.desk
  same_desk same = ap (λ (s : SeatState K). s.desk) same

  pub same_key : {one other : SeatState K} → one ≡ other → one.key ≡ other.key
  same_key same = ap (λ (s : SeatState K). s.key) same

module _ {T K : Type 0} where
  pub same_place : {one other : BusyState T K} → one ≡ other → one.desk ≡ other.desk
  same_place same = ap (λ (s : BusyState T K). s.desk) same

  pub same_own : {one other : BusyState T K} → one ≡ other → one.key ≡ other.key
  same_own same = ap (λ (s : BusyState T K). s.key) same

  pub same_given : {one other : BusyState T K} → one ≡ other → one.given ≡ other.given
  same_given same = ap (λ (s : BusyState T K). s.given) same

module _ {T K : Type 0} (may : K → T → Type 0) (done : K → T → T → Type 0) (key : K) (slots id : ℕ) (me : Seat T K) (own : K) where
  pub opens_here : me ≡ (seen own Shut, []) → Allows (Rule may done key) slots id me 0 (λ n. n) (Opens (step slots 0 0 0 none) me)
  opens_here is = subst (λ (me : Seat T K). Allows (Rule may done key) slots id me 0 (λ n. n) (Opens (step slots 0 0 0 none) me)) (sym is) (opens may done key slots id own)

  pub splits_here : me.0 ≡ seen own Open → Splits (Rule may done key) id me.0 (givers me.0) (workers me.0)
  splits_here is = subst (λ (v : View T K). Splits (Rule may done key) id v (givers v) (workers v)) (sym is) (splits may done key id own)

  pub lays_here : (x : T) → me ≡ giving own (Some x) → may own x → Allows (Rule may done key) slots id me 0 (λ _. 1) (λ _. Lays (step slots 0 1 0 none) me 1)
  lays_here x is ok = subst (λ (me : Seat T K). Allows (Rule may done key) slots id me 0 (λ _. 1) (λ _. Lays (step slots 0 1 0 none) me 1)) (sym is) (lays may done key slots id own x ok)

  pub collects_here : (x : T) → me ≡ waiting own x → Allows (Rule may done key) slots id me 0 (λ n. either (n == 3) 0 n) (Collects done (step slots 0 3 0 none) me)
  collects_here x is = subst (λ (me : Seat T K). Allows (Rule may done key) slots id me 0 (λ n. either (n == 3) 0 n) (Collects done (step slots 0 3 0 none) me)) (sym is) (collects may done key slots id own x)

  pub revokes_here : (x : T) → me ≡ waiting own x → Allows (Rule may done key) slots id me 0 (λ n. either (n == 1) 0 n) (Revokes (step slots 0 1 0 none) me)
  revokes_here x is = subst (λ (me : Seat T K). Allows (Rule may done key) slots id me 0 (λ n. either (n == 1) 0 n) (Revokes (step slots 0 1 0 none) me)) (sym is) (revokes may done key slots id own x)

  pub closes_here : me ≡ giving own None → Allows (Rule may done key) slots id me 0 (λ _. 4) (λ _. Closes (step slots 0 4 0 none) me 4)
  closes_here is = subst (λ (me : Seat T K). Allows (Rule may done key) slots id me 0 (λ _. 4) (λ _. Closes (step slots 0 4 0 none) me 4)) (sym is) (closes may done key slots id own)

  pub takes_here : me ≡ resting own → Allows (Rule may done key) slots id me 0 (λ n. either (n == 1) 2 n) (Takes may (step slots 0 1 2 none) me)
  takes_here is = subst (λ (me : Seat T K). Allows (Rule may done key) slots id me 0 (λ n. either (n == 1) 2 n) (Takes may (step slots 0 1 2 none) me)) (sym is) (takes may done key slots id own)

  pub finishes_here : (x y : T) → me ≡ working own x (Some y) → done own x y → Allows (Rule may done key) slots id me 0 (λ _. 3) (λ _. Finishes (step slots 0 3 0 none) me 3)
  finishes_here x y is ok = subst (λ (me : Seat T K). Allows (Rule may done key) slots id me 0 (λ _. 3) (λ _. Finishes (step slots 0 3 0 none) me 3)) (sym is) (finishes may done key slots id own x y ok)

-- ---- the slot that a seat has

module _ {T K : Type 0} {v : View T K} {slot : Option T} {me : Seat T K} (is : me ≡ (v, (0, slot) ∷ [])) where
  pub lent : me.1 ≡ (0, slot) ∷ rest me.1
  lent = ap (λ (m : Seat T K). m.1) is ∙ ap (λ (m : Seat T K). (0, slot) ∷ rest m.1) (sym is)

  pub put_in : (new : Option T) (after : Seat T K) → after ≡ (me.0, (0, new) ∷ rest me.1) → after ≡ (v, (0, new) ∷ [])
  put_in new after put = put ∙ ap (λ (m : Seat T K). (m.0, (0, new) ∷ rest m.1)) is

  pub taken_out : (out : Option T) → me.1 ≡ (0, out) ∷ rest me.1 → out ≡ slot
  taken_out out had = ap (λ (held : List (ℕ × Option T)). first_held held) (sym had ∙ ap (λ (m : Seat T K). m.1) is)
