-- Where the first seat takes over what another one has, the rule is kept.
use Rattle.std.proofs.Common.{◌≡◌, ◌≢◌, ◌⊎◌, inl, inr, ⊎_elim, ◌==◌, not, ℕ, zero, suc, ◌<◌, ◌^◌, List, [], ◌∷◌, ◌++◌, Option, Some, None, refl, sym, ap, subst, ◌∙◌, arith, length-set, append_assoc}
use Rattle.std.specs.Prelude.{◌↔◌, Contains, IsPermutation, filter, slice_set}
use Rattle.std.specs.List.{flat_map}
use Rattle.std.specs.Option.{option_or}
use mathlib.Core.Option.{some, some-injective}
use lib.ListN.{get_elem?}
use Rattle.plain_laws.specs.Without.{kept_from, kept_in}
use Rattle.atomic_table.specs.Table.{Joins, State}
use Rattle.atomic_table.proofs.Lists.{at_set, set_else}
use Rattle.std.proofs.lemmas.List.Sorted.{IsPermutation-append_right, IsPermutation-trans}
use Rattle.app_laws.specs.Applications.{Application}
use Rattle.app_laws.specs.Order.{Pairwise}
use Rattle.app_laws.specs.PairLaws.{Pairwise-filter}
use Rattle.crew.specs.declared.answers.OverCause.{OverCause}
use Rattle.graph_update.specs.Engine.{EngineState}
use Rattle.worker_gate.specs.declared.view.View.{View}
use Rattle.worker_gate.specs.Fits.{Fits}
use Rattle.worker_gate.specs.Hall.{AreNumbered, HallRule, IsAt, IsNamed, IsSeat, IsUnjoined, NoteOneMark, drained_by, noted, sum_of}
use Rattle.worker_gate.specs.Laws.{IsSameSum, SameSumsContinue}
use Rattle.worker_gate.specs.Steps.{Seen, Slot, both_views, spent}
use Rattle.worker_gate.proofs.Numbers.{at_other, is_first, is_seat, no_origin, now_at, other_at, seat_moves, someone_at}
use Rattle.worker_gate.proofs.Places.{some_is_not_none}
use Rattle.worker_gate.proofs.Sums.{drained_else, drained_same, later_marks, noted_apart, same_permutes, told_apart}

-- ---- numbers without one of them

abbrev without : ℕ → List ℕ → List ℕ
without gone xs = filter (λ x. not (x == gone)) xs

or_both : (a b c : Option OverCause) → option_or a (option_or b c) ≡ option_or (option_or a b) c
or_both None b c = refl
or_both (Some x) b c = refl

-- ---- sums

module _ {A X : Type 0} (f : A → List X) where
  -- what two told, one tells now
  told_joined : (none a b both : A) → f none ≡ [] → f both ≡ f a ++ f b → (l : List A) (other : ℕ) → get_elem? l 0 ≡ some a → other ≢ 0 → get_elem? l other ≡ some b
      → IsPermutation (flat_map f l) (flat_map f (slice_set (slice_set l 0 both) other none))
  told_joined none a b both empty joined l zero at apart at_other = absurd (apart refl)
  told_joined none a b both empty joined [] (suc other) at apart at_other = same_permutes [] [] refl
  told_joined none a b both empty joined (x ∷ l) (suc other) at apart at_other =
      let rest = flat_map f (slice_set l other none) in
      IsPermutation-trans (f x ++ flat_map f l) (f x ++ (f b ++ rest)) (f both ++ rest)
      (IsPermutation-append_right (f x) (flat_map f l) (f b ++ rest) (told_apart f none empty l other b at_other))
      (same_permutes (f x ++ (f b ++ rest)) (f both ++ rest)
      (ap (λ (y : A). f y ++ (f b ++ rest)) (some-injective x a at) ∙ sym (append_assoc (f a) (f b) rest) ∙ sym (ap (λ (told : List X). told ++ rest) joined)))

module _ {S V : Type 0} where
  noted_joined : (v w : View S V) (views : List (View S V)) (other : ℕ) → IsAt views 0 v → other ≢ 0 → IsAt views other w → NoteOneMark views
      → noted views ≡ noted (slice_set (slice_set views 0 (both_views v w)) other spent)
  noted_joined v w views zero at apart at_other one = absurd (apart refl)
  noted_joined v w [] (suc other) at apart at_other one = refl
  noted_joined v w (x ∷ views) (suc other) at apart at_other one =
      ap (λ (over : Option OverCause). option_or x.over over) (noted_apart views other w (later_marks x views one) at_other)
      ∙ ap (λ (u : View S V). option_or u.over (option_or w.over (noted (slice_set views other spent)))) (some-injective x v at)
      ∙ or_both v.over w.over (noted (slice_set views other spent))

  drained_joined : (v w : View S V) (views : List (View S V)) (other : ℕ) → IsAt views 0 v → other ≢ 0 → drained_by views ≡ drained_by (slice_set (slice_set views 0 (both_views v w)) other spent)
  drained_joined v w views other at apart =
      sym (drained_else (slice_set views 0 (both_views v w)) other spent apart ∙ drained_same views 0 v (both_views v w) at refl)

  sum_joined : (v w : View S V) (views : List (View S V)) (other : ℕ) → IsAt views 0 v → other ≢ 0 → IsAt views other w → NoteOneMark views
      → IsSameSum (sum_of views) (sum_of (slice_set (slice_set views 0 (both_views v w)) other spent))
  sum_joined v w views other at apart at_other one = record {
    jobs = told_joined (λ (u : View S V). u.jobs) spent v w (both_views v w) refl refl views other at apart at_other;
    finished = told_joined (λ (u : View S V). u.finished) spent v w (both_views v w) refl refl views other at apart at_other;
    over = noted_joined v w views other at apart at_other one;
    drained = drained_joined v w views other at apart;
  }

-- ---- the rule

module _ {A V : Type 0} {meaning : A → Application V} {origin : EngineState A V} {s : State (Slot A V) (Seen A V)} (rule : HallRule meaning origin s)
    (v w : Seen A V) (other : ℕ) (at : IsAt s.views 0 v) (apart : other ≢ 0) (at_w : IsAt s.views other w) (seat : IsSeat origin 0 v) (seat_w : IsSeat origin other w)
    (waits : v.found ≡ None) (waits_w : w.found ≡ None) where
  abbrev joined : List (Seen A V)
  joined = slice_set (slice_set s.views 0 (both_views v w)) other spent

  first_at : IsAt joined 0 (both_views v w)
  first_at = set_else (slice_set s.views 0 (both_views v w)) other 0 spent (λ same. apart (sym same)) ∙ now_at s.views 0 v (both_views v w) at

  first_seat : IsSeat origin 0 (both_views v w)
  first_seat = record { origin_is = seat.origin_is; number_is = seat.number_is }

  first_is : rule.numbered.first ≡ v
  first_is = is_first rule.numbered 0 v at refl

  -- who stands in the new list: the first one, who was joined away, or another as it was
  data Stands : ℕ → Seen A V → Type 0 where
    is_first_one : {place : ℕ} {u : Seen A V} → place ≡ 0 → both_views v w ≡ u → Stands place u
    is_gone : {place : ℕ} {u : Seen A V} → place ≡ other → spent ≡ u → Stands place u
    is_else : {place : ℕ} {u : Seen A V} → place ≢ 0 → place ≢ other → IsAt s.views place u → Stands place u

  stands : (place : ℕ) (u : Seen A V) → IsAt joined place u → Stands place u
  stands place u here = ⊎_elim
      (λ (gone : (place ≡ other) × (spent ≡ u)). is_gone gone.0 gone.1)
      (λ (else : (place ≢ other) × IsAt (slice_set s.views 0 (both_views v w)) place u). ⊎_elim
      (λ (one : (place ≡ 0) × (both_views v w ≡ u)). is_first_one one.0 one.1)
      (λ (was : (place ≢ 0) × IsAt s.views place u). is_else was.0 else.0 was.1)
      (other_at s.views 0 v (both_views v w) at place u else.1))
      (at_set (slice_set s.views 0 (both_views v w)) other place spent u here)

  else_at : (place : ℕ) (u : Seen A V) → place ≢ 0 → place ≢ other → IsAt s.views place u → IsAt joined place u
  else_at place u from_first from_other was =
      set_else (slice_set s.views 0 (both_views v w)) other place spent from_other ∙ at_other s.views 0 v (both_views v w) at place u was from_first

  its_seat : (place : ℕ) (u : Seen A V) → Stands place u → (u ≡ spent) ⊎ IsSeat origin place u
  its_seat place u (is_first_one same is) = inr (subst (λ (x : Seen A V). IsSeat origin place x) is (seat_moves 0 place (both_views v w) (sym same) first_seat))
  its_seat place u (is_gone same is) = inl (sym is)
  its_seat place u (is_else from_first from_other was) = rule.numbered.seats place u was

  no_others : (place : ℕ) (u : Seen A V) → Stands (suc place) u → u.unjoined ≡ []
  no_others place u (is_first_one same is) = absurd (omega (arith, same))
  no_others place u (is_gone same is) = sym (ap (λ (x : Seen A V). x.unjoined) is)
  no_others place u (is_else from_first from_other was) = rule.numbered.no_others place u was

  was_unjoined : (place : ℕ) → Contains v.unjoined place ↔ IsUnjoined origin s.views place
  was_unjoined place = subst (λ (u : Seen A V). Contains u.unjoined place ↔ IsUnjoined origin s.views place) first_is (rule.numbered.unjoined place)

  now_unjoined : (place : ℕ) → Contains (without w.number v.unjoined) place → IsUnjoined origin joined place
  now_unjoined place has =
      let kept = kept_from w.number place v.unjoined has in
      let is = (was_unjoined place).0 kept.0 in
      (is.0, (is.1.0, else_at place is.1.0 (λ zero. let above = is.0 in absurd (omega (arith, above, zero))) (λ same. kept.1 (same ∙ sym seat_w.number_is)) is.1.1, is.1.2))

  by_stand : (place : ℕ) (u : Seen A V) → 0 < place → IsSeat origin place u → Stands place u → Contains (without w.number v.unjoined) place
  by_stand place u above is (is_first_one same one) = absurd (omega (arith, above, same))
  by_stand place u above is (is_gone same one) = absurd (no_origin origin place (subst (λ (x : Seen A V). IsSeat origin place x) (sym one) is))
  by_stand place u above is (is_else from_first from_other was) =
      kept_in w.number place v.unjoined ((was_unjoined place).1 (above, (u, was, is))) (λ same. from_other (same ∙ seat_w.number_is))

  numbered : AreNumbered origin joined
  numbered = record {
    first = both_views v w;
    first_is = first_at;
    first_lives = first_seat;
    count = length-set (slice_set s.views 0 (both_views v w)) other spent ∙ length-set s.views 0 (both_views v w) ∙ rule.numbered.count ∙ ap (λ (u : Seen A V). suc u.splits) first_is;
    few = subst (λ (u : Seen A V). suc u.splits < 2 ^ 32) first_is rule.numbered.few;
    seats = λ place u here. its_seat place u (stands place u here);
    unjoined = λ place. (now_unjoined place, (λ is. by_stand place is.1.0 is.0 is.1.2 (stands place is.1.0 is.1.1)));
    once = Pairwise-filter (λ one other. one ≢ other) (λ x. not (x == w.number)) v.unjoined (subst (λ (u : Seen A V). Pairwise (λ one other. one ≢ other) u.unjoined) first_is rule.numbered.once);
    no_others = λ place u here. no_others place u (stands (suc place) u here);
  }

  -- a mark that is noted now was noted by somebody who stood there, or was joined to the first
  marked_by : (own : Option OverCause) → v.over ≡ own → option_or own w.over ≢ None → (v.over ≢ None) ⊎ (w.over ≢ None)
  marked_by None is marked = inr marked
  marked_by (Some cause) is marked = inl (λ nothing. some_is_not_none cause (sym is ∙ nothing))

  its_mark : (place : ℕ) (u : Seen A V) → Stands place u → u.over ≢ None → (was : ℕ) × ((x : Seen A V) × IsAt s.views was x × (x.over ≢ None)) × ((was ≡ place) ⊎ ((was ≡ other) × (place ≡ 0)))
  its_mark place u (is_first_one same is) marked = ⊎_elim
      (λ (own : v.over ≢ None). (0, (v, at, own), inl (sym same)))
      (λ (its : w.over ≢ None). (other, (w, at_w, its), inr (refl, same)))
      (marked_by v.over refl (subst (λ (x : Seen A V). x.over ≢ None) (sym is) marked))
  its_mark place u (is_gone same is) marked = absurd (marked (sym (ap (λ (x : Seen A V). x.over) is)))
  its_mark place u (is_else from_first from_other was) marked = (place, (u, was, marked), inl refl)

  -- nobody who notes a mark stands where the other one stood
  not_gone : (place : ℕ) (u : Seen A V) → Stands place u → u.over ≢ None → place ≢ other
  not_gone place u (is_first_one same is) marked here = apart (sym here ∙ same)
  not_gone place u (is_gone same is) marked here = marked (sym (ap (λ (x : Seen A V). x.over) is))
  not_gone place u (is_else from_first from_other was) marked here = from_other here

  same_place : (p q was too : ℕ) → was ≡ too → p ≢ other → q ≢ other → (was ≡ p) ⊎ ((was ≡ other) × (p ≡ 0)) → (too ≡ q) ⊎ ((too ≡ other) × (q ≡ 0)) → p ≡ q
  same_place p q was too same p_other q_other (inl one) (inl two) = sym one ∙ same ∙ two
  same_place p q was too same p_other q_other (inl one) (inr two) = absurd (p_other (sym one ∙ same ∙ two.0))
  same_place p q was too same p_other q_other (inr one) (inl two) = absurd (q_other (sym two ∙ sym same ∙ one.0))
  same_place p q was too same p_other q_other (inr one) (inr two) = one.1 ∙ sym two.1

  one_mark : NoteOneMark joined
  one_mark p q u x here too marked also =
      let one = its_mark p u (stands p u here) marked in
      let two = its_mark q x (stands q x too) also in
      same_place p q one.0 two.0 (rule.one_mark one.0 two.0 one.1.0 two.1.0 one.1.1 two.1.1 one.1.2 two.1.2)
      (not_gone p u (stands p u here) marked) (not_gone q x (stands q x too) also) one.2 two.2

  its_name : (place : ℕ) (u : Seen A V) → Stands place u → IsNamed rule.word place u
  its_name place u (is_first_one same is) =
      subst (λ n. IsNamed rule.word n u) (sym same) (subst (λ (x : Seen A V). IsNamed rule.word 0 x) is (rule.named 0 v at))
  its_name place u (is_gone same is) = (
    (λ has. absurd (has (sym (ap (λ (x : Seen A V). x.found) is)))),
    (λ named. absurd ((rule.named other w at_w).1 (named ∙ ap suc same) waits_w)),
  )
  its_name place u (is_else from_first from_other was) = rule.named place u was

  still : (place : ℕ) → (u : Seen A V) × IsAt s.views place u → (u : Seen A V) × IsAt joined place u
  still place (u, was) =
      let here = someone_at s.views 0 v (both_views v w) at place u was in
      someone_at (slice_set s.views 0 (both_views v w)) other w spent (at_other s.views 0 v (both_views v w) at other w at_w apart) place here.0 here.1

  its_engine : (place : ℕ) (u : Seen A V) (engine : EngineState A V) → Stands place u → u.found ≡ Some engine → Fits meaning origin engine (sum_of s.views)
  its_engine place u engine (is_first_one same is) has = rule.held 0 v engine at (ap (λ (x : Seen A V). x.found) is ∙ has)
  its_engine place u engine (is_gone same is) has = absurd (some_is_not_none engine (sym has ∙ sym (ap (λ (x : Seen A V). x.found) is)))
  its_engine place u engine (is_else from_first from_other was) has = rule.held place u engine was has

  module _ (same_sums : SameSumsContinue (meaning origin.app)) where
    fits_joined : (engine : EngineState A V) → Fits meaning origin engine (sum_of s.views) → Fits meaning origin engine (sum_of joined)
    fits_joined engine fits = record {
      app = fits.app;
      progress = same_sums origin.progress engine.progress (sum_of s.views) (sum_of joined) (sum_joined v w s.views other at apart at_w rule.one_mark) fits.progress;
    }

    pub join : HallRule meaning origin (record { words = s.words; homes = s.homes; views = slice_set (slice_set s.views 0 (both_views v w)) other spent })
    join = record {
      word = rule.word;
      words = rule.words;
      numbered = numbered;
      one_mark = one_mark;
      named = λ place u here. its_name place u (stands place u here);
      somebody = λ holder named. still holder (rule.somebody holder named);
      home = λ free. let home = rule.home free in (home.0, home.1, fits_joined home.0.value home.2);
      held = λ place u engine here has. fits_joined engine (its_engine place u engine (stands place u here) has);
    }

module _ {A V : Type 0} {meaning : A → Application V} (same_sums : (app : A) → SameSumsContinue (meaning app)) (origin : EngineState A V) (id other : ℕ) (v w : Seen A V)
    (lives : v.origin ≢ None) (lives_w : w.origin ≢ None) (waits : v.found ≡ None) (waits_w : w.found ≡ None) (unjoined : Contains v.unjoined w.number) where
  -- only the first seat has others split from it
  is_zero : {s : State (Slot A V) (Seen A V)} (rule : HallRule meaning origin s) (place : ℕ) → IsAt s.views place v → place ≡ 0
  is_zero rule zero at = refl
  is_zero rule (suc place) at =
      let none = rule.numbered.no_others place v at in
      let has = subst (λ (xs : List ℕ). Contains xs w.number) none unjoined in
      let inside = has.1 in absurd (omega (arith, inside))

  pub joins : Joins (HallRule meaning origin) id v other w (both_views v w) spent
  joins s rule at apart at_other_one =
      let place = is_zero rule id at in
      let at_zero : IsAt s.views 0 v = subst (λ n. IsAt s.views n v) place at in
      let from_first : other ≢ 0 = λ zero. apart (zero ∙ sym place) in
      let at_w : IsAt s.views other w = ⊎_elim (λ (same : (other ≡ id) × (both_views v w ≡ w)). absurd (apart same.0)) (λ (else : (other ≢ id) × IsAt s.views other w). else.1)
      (other_at s.views id v (both_views v w) at other w at_other_one) in
      subst (λ n. HallRule meaning origin (record { words = s.words; homes = s.homes; views = slice_set (slice_set s.views n (both_views v w)) other spent })) (sym place)
      (join rule v w other at_zero from_first at_w (is_seat rule.numbered 0 v at_zero lives) (is_seat rule.numbered other w at_w lives_w) waits waits_w (same_sums origin.app))
