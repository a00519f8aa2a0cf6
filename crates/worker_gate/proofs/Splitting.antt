-- Where a seat is split from the first one, the rule is kept: the new seat has the next number.
use Rattle.std.proofs.Common.{◌≡◌, ◌≢◌, ◌⊎◌, inr, ⊎_elim, ℕ, suc, ◌+◌, ◌<◌, ◌^◌, List, [], ◌∷◌, ◌++◌, Some, None, length, refl, sym, ap, subst, ◌∙◌, arith, length-set}
use Rattle.std.specs.Prelude.{◌↔◌, Contains, slice_set}
use Rattle.plain_laws.specs.Without.{all_apart}
use Rattle.plain_laws.specs.Members.{cases, here, there}
use Rattle.plain_laws.specs.Places.{at_end, at_inside}
use Rattle.atomic_table.specs.Table.{Splits, State}
use Rattle.atomic_table.proofs.Lists.{at_last, at_longer}
use Rattle.app_laws.specs.Applications.{Application}
use Rattle.app_laws.specs.Order.{Pairwise}
use Rattle.graph_update.specs.Engine.{EngineState}
use Rattle.worker_gate.specs.Fits.{Fits}
use Rattle.worker_gate.specs.Hall.{AreNumbered, HallRule, IsAt, IsNamed, IsSeat, IsUnjoined, NoteOneMark, sum_of}
use Rattle.worker_gate.specs.Steps.{Seen, Slot, first_half, second_half, spent}
use Rattle.worker_gate.proofs.Numbers.{first_place, is_first, is_seat, now_at, other_at, at_other, seat_moves, someone_at}
use Rattle.worker_gate.proofs.Places.{some_is_not_none}
use Rattle.worker_gate.proofs.Sums.{drained_end, noted_end, sum_same, told_end}

length-more : {X : Type 0} (xs : List X) (x : X) → length (xs ++ x ∷ []) ≡ suc (length xs)
length-more [] x = refl
length-more (y ∷ xs) x = ap suc (length-more xs x)

module _ {A V : Type 0} {meaning : A → Application V} {origin : EngineState A V} {s : State (Slot A V) (Seen A V)} (rule : HallRule meaning origin s)
    (v : Seen A V) (at : IsAt s.views 0 v) (seat : IsSeat origin 0 v) (room : v.splits + 2 < 2 ^ 32) where
  -- the views after the split
  abbrev halves : List (Seen A V)
  halves = slice_set s.views 0 (first_half v) ++ second_half v ∷ []

  first_is : rule.numbered.first ≡ v
  first_is = is_first rule.numbered 0 v at refl

  count : length s.views ≡ suc v.splits
  count = rule.numbered.count ∙ ap (λ (u : Seen A V). suc u.splits) first_is

  count_set : length (slice_set s.views 0 (first_half v)) ≡ suc v.splits
  count_set = length-set s.views 0 (first_half v) ∙ count

  first_at : IsAt halves 0 (first_half v)
  first_at = at_longer (slice_set s.views 0 (first_half v)) (second_half v ∷ []) 0 (first_half v) (now_at s.views 0 v (first_half v) at)

  last_at : IsAt halves (suc v.splits) (second_half v)
  last_at = at_last (slice_set s.views 0 (first_half v)) (second_half v) (suc v.splits) count_set

  last_seat : IsSeat origin (suc v.splits) (second_half v)
  last_seat = record { origin_is = seat.origin_is; number_is = refl }

  first_seat : IsSeat origin 0 (first_half v)
  first_seat = record { origin_is = seat.origin_is; number_is = seat.number_is }

  -- who stands in the new list: the first one, the new one, or another as it was
  data Stands : ℕ → Seen A V → Type 0 where
    is_first_one : {other : ℕ} {u : Seen A V} → other ≡ 0 → first_half v ≡ u → Stands other u
    is_last_one : {other : ℕ} {u : Seen A V} → other ≡ suc v.splits → second_half v ≡ u → Stands other u
    is_else : {other : ℕ} {u : Seen A V} → other ≢ 0 → IsAt s.views other u → Stands other u

  stands : (other : ℕ) (u : Seen A V) → IsAt halves other u → Stands other u
  stands other u here = ⊎_elim
      (λ (was : IsAt (slice_set s.views 0 (first_half v)) other u). ⊎_elim (λ one. is_first_one one.0 one.1) (λ else. is_else else.0 else.1) (other_at s.views 0 v (first_half v) at other u was))
      (λ (last : (other ≡ length (slice_set s.views 0 (first_half v))) × (second_half v ≡ u)). is_last_one (last.0 ∙ count_set) last.1)
      (at_end (slice_set s.views 0 (first_half v)) (second_half v) u other here)

  else_at : (other : ℕ) (u : Seen A V) → other ≢ 0 → IsAt s.views other u → IsAt halves other u
  else_at other u apart was =
      at_longer (slice_set s.views 0 (first_half v)) (second_half v ∷ []) other u (at_other s.views 0 v (first_half v) at other u was apart)

  -- ---- numbers

  its_seat : (other : ℕ) (u : Seen A V) → Stands other u → (u ≡ spent) ⊎ IsSeat origin other u
  its_seat other u (is_first_one same is) = inr (subst (λ (x : Seen A V). IsSeat origin other x) is (seat_moves 0 other (first_half v) (sym same) first_seat))
  its_seat other u (is_last_one same is) = inr (subst (λ (x : Seen A V). IsSeat origin other x) is (seat_moves (suc v.splits) other (second_half v) (sym same) last_seat))
  its_seat other u (is_else apart was) = rule.numbered.seats other u was

  no_others : (other : ℕ) (u : Seen A V) → Stands (suc other) u → u.unjoined ≡ []
  no_others other u (is_first_one same is) = absurd (omega (arith, same))
  no_others other u (is_last_one same is) = sym (ap (λ (x : Seen A V). x.unjoined) is)
  no_others other u (is_else apart was) = rule.numbered.no_others other u was

  was_unjoined : (other : ℕ) → Contains v.unjoined other ↔ IsUnjoined origin s.views other
  was_unjoined other = subst (λ (u : Seen A V). Contains u.unjoined other ↔ IsUnjoined origin s.views other) first_is (rule.numbered.unjoined other)

  now_unjoined : (other : ℕ) → Contains (suc v.splits ∷ v.unjoined) other → IsUnjoined origin halves other
  now_unjoined other has = ⊎_elim
      (λ (same : suc v.splits ≡ other). (
        (omega (arith, same)),
        (second_half v, subst (λ n. IsAt halves n (second_half v)) same last_at, seat_moves (suc v.splits) other (second_half v) same last_seat),
      ))
      (λ (old : Contains v.unjoined other).
      let is = (was_unjoined other).0 old in
      (is.0, (is.1.0, else_at other is.1.0 (λ zero. let above = is.0 in absurd (omega (arith, above, zero))) is.1.1, is.1.2)))
      (cases (suc v.splits) other v.unjoined has)

  by_stand : (other : ℕ) (u : Seen A V) → 0 < other → IsSeat origin other u → Stands other u → Contains (suc v.splits ∷ v.unjoined) other
  by_stand other u above is (is_first_one same one) = absurd (omega (arith, above, same))
  by_stand other u above is (is_last_one same one) = subst (λ n. Contains (suc v.splits ∷ v.unjoined) n) (sym same) (here (suc v.splits) v.unjoined)
  by_stand other u above is (is_else apart was) = there (suc v.splits) other v.unjoined ((was_unjoined other).1 (above, (u, was, is)))

  below_new : (other : ℕ) → Contains v.unjoined other → other < suc v.splits
  below_new other has =
      let is = (was_unjoined other).0 has in
      subst (λ n. other < n) count (at_inside s.views other is.1.0 is.1.1)

  numbered : AreNumbered origin halves
  numbered = record {
    first = first_half v;
    first_is = first_at;
    first_lives = first_seat;
    count = length-more (slice_set s.views 0 (first_half v)) (second_half v) ∙ ap suc count_set;
    few = omega (arith, room);
    seats = λ other u here. its_seat other u (stands other u here);
    unjoined = λ other. (now_unjoined other, (λ is. by_stand other is.1.0 is.0 is.1.2 (stands other is.1.0 is.1.1)));
    once = (all_apart (suc v.splits) v.unjoined below_new, subst (λ (u : Seen A V). Pairwise (λ one other. one ≢ other) u.unjoined) first_is rule.numbered.once);
    no_others = λ other u here. no_others other u (stands (suc other) u here);
  }

  -- ---- marks, the turn and the sum

  its_mark : (other : ℕ) (u : Seen A V) → Stands other u → u.over ≢ None → (x : Seen A V) × IsAt s.views other x × (x.over ≢ None)
  its_mark other u (is_first_one same is) marked =
      (v, subst (λ n. IsAt s.views n v) (sym same) at, subst (λ (x : Seen A V). x.over ≢ None) (sym is) marked)
  its_mark other u (is_last_one same is) marked = absurd (marked (sym (ap (λ (x : Seen A V). x.over) is)))
  its_mark other u (is_else apart was) marked = (u, was, marked)

  one_mark : NoteOneMark halves
  one_mark p q u x here too marked also =
      let one = its_mark p u (stands p u here) marked in
      let two = its_mark q x (stands q x too) also in
      rule.one_mark p q one.0 two.0 one.1 two.1 one.2 two.2

  its_name : (other : ℕ) (u : Seen A V) → Stands other u → IsNamed rule.word other u
  its_name other u (is_first_one same is) =
      subst (λ n. IsNamed rule.word n u) (sym same) (subst (λ (x : Seen A V). IsNamed rule.word 0 x) is (rule.named 0 v at))
  its_name other u (is_last_one same is) = (
    (λ has. absurd (has (sym (ap (λ (x : Seen A V). x.found) is)))),
    (λ named. let place : rule.word ≡ suc (suc v.splits) = named ∙ ap suc same in
        let somebody = rule.somebody (suc v.splits) place in
        let inside = at_inside s.views (suc v.splits) somebody.0 somebody.1 in
        let all = count in
        absurd (omega (arith, inside, all))),
  )
  its_name other u (is_else apart was) = rule.named other u was

  still : (other : ℕ) → (u : Seen A V) × IsAt s.views other u → (u : Seen A V) × IsAt halves other u
  still other (u, was) =
      let here = someone_at s.views 0 v (first_half v) at other u was in
      (here.0, at_longer (slice_set s.views 0 (first_half v)) (second_half v ∷ []) other here.0 here.1)

  same_sum : sum_of halves ≡ sum_of s.views
  same_sum =
      let views = slice_set s.views 0 (first_half v) in
      let jobs = told_end (λ (u : Seen A V). u.jobs) views (second_half v) refl in
      let finished = told_end (λ (u : Seen A V). u.finished) views (second_half v) refl in
      let over = noted_end views (second_half v) refl in
      let drained = drained_end views (second_half v) (first_half v) (now_at s.views 0 v (first_half v) at) in
      let ended : sum_of halves ≡ sum_of views = λ i. record { jobs = jobs i; finished = finished i; over = over i; drained = drained i } in
      ended ∙ sum_same s.views 0 v (first_half v) at (record { jobs = refl; finished = refl; over = refl; drained = refl })

  its_engine : (other : ℕ) (u : Seen A V) (engine : EngineState A V) → Stands other u → u.found ≡ Some engine → Fits meaning origin engine (sum_of s.views)
  its_engine other u engine (is_first_one same is) has = rule.held 0 v engine at (ap (λ (x : Seen A V). x.found) is ∙ has)
  its_engine other u engine (is_last_one same is) has = absurd (some_is_not_none engine (sym has ∙ sym (ap (λ (x : Seen A V). x.found) is)))
  its_engine other u engine (is_else apart was) has = rule.held other u engine was has

  pub split : HallRule meaning origin (record { words = s.words; homes = s.homes; views = slice_set s.views 0 (first_half v) ++ second_half v ∷ [] })
  split = record {
    word = rule.word;
    words = rule.words;
    numbered = numbered;
    one_mark = one_mark;
    named = λ other u here. its_name other u (stands other u here);
    somebody = λ holder named. still holder (rule.somebody holder named);
    home = λ free. let home = rule.home free in (home.0, home.1, subst (λ sum. Fits meaning origin home.0.value sum) (sym same_sum) home.2);
    held = λ other u engine here has. subst (λ sum. Fits meaning origin engine sum) (sym same_sum) (its_engine other u engine (stands other u here) has);
  }

module _ {A V : Type 0} {meaning : A → Application V} (origin : EngineState A V) (id : ℕ) (v : Seen A V) (lives : v.origin ≢ None) (first : v.number ≡ 0) (room : v.splits + 2 < 2 ^ 32) where
  pub splits : Splits (HallRule meaning origin) id v (first_half v) (second_half v)
  splits s rule at =
      let place = first_place rule.numbered id v at lives first in
      let at_zero : IsAt s.views 0 v = subst (λ n. IsAt s.views n v) place at in
      subst (λ n. HallRule meaning origin (record { words = s.words; homes = s.homes; views = slice_set s.views n (first_half v) ++ second_half v ∷ [] })) (sym place)
      (split rule v at_zero (is_seat rule.numbered 0 v at_zero lives) room)
