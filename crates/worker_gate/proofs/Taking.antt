-- The step that takes the turn keeps the rule, whether it finds the turn free or not.
use Rattle.std.proofs.Common.{◌≡◌, ◌≢◌, ⊎_elim, ℕ, zero, suc, ◌<◌, ◌^◌, List, [], ◌∷◌, Some, None, set, refl, sym, ap, subst, ◌∙◌, arith}
use Rattle.std.specs.Prelude.{◌==◌, Contains, slice_index, slice_set}
use Rattle.std.specs.declared.alloc.Global.{Global}
use Rattle.std.specs.declared.boxed.Box.{Box}
use mathlib.Core.Option.{none, some}
use mathlib.Core.Option as optional
use prog.Atomic.{either}
use Rattle.plain_laws.specs.Places.{at_inside}
use Rattle.atomic_table.proofs.Lists.{exchanged}
use lib.ListN.{get_elem?}
use Rattle.atomic_table.specs.Table.{Act, Allows, Me, State, Valid, carried_after, homes_after, step}
use Rattle.app_laws.specs.Applications.{Application}
use Rattle.graph_update.specs.Engine.{EngineState}
use Rattle.worker_gate.specs.Fits.{Fits}
use Rattle.worker_gate.specs.Hall.{HallRule, IsAt, IsNamed, IsSeat, sum_of}
use Rattle.worker_gate.specs.Laws.{SameSumsContinue}
use Rattle.worker_gate.specs.Steps.{IsFound, Seen, Slot, TakesTurn, refused_by, with_others}
use Rattle.worker_gate.proofs.Numbers.{first_place, is_first, is_seat, now_at, numbered_kept, other_at, same_mark_kept, someone_at}
use Rattle.worker_gate.proofs.Places.{some_is_not_none}
use Rattle.worker_gate.proofs.Sums.{drained_first, others_of, sum_apart, sum_same}

some_injective : {X : Type 0} {x y : X} → Some x ≡ Some y → x ≡ y
some_injective same = cc

module _ {A V : Type 0} {meaning : A → Application V} {origin : EngineState A V} where
  -- who has no turn isn't named
  not_named : {s : State (Slot A V) (Seen A V)} (rule : HallRule meaning origin s) (place : ℕ) (v : Seen A V) → IsAt s.views place v → v.found ≡ None → rule.word ≢ suc place
  not_named rule place v at waits named = (rule.named place v at).1 named waits

  module _ {s : State (Slot A V) (Seen A V)} (rule : HallRule meaning origin s) (place : ℕ) (v : Seen A V) (at : IsAt s.views place v)
      (waits : v.found ≡ None) (lives : v.origin ≢ None) where
    seat : IsSeat origin place v
    seat = is_seat rule.numbered place v at lives

    -- ---- the turn is free

    is_found : SameSumsContinue (meaning origin.app) → (b : Box (EngineState A V) Global) → Fits meaning origin b.value (sum_of s.views) → IsFound meaning v b.value
    is_found same_sums b fits = record {
      origin = origin;
      is_origin = seat.origin_is;
      others = others_of s.views place;
      fits = record {
        app = fits.app;
        progress = same_sums origin.progress b.value.progress (sum_of s.views) (with_others v (others_of s.views place)) (sum_apart s.views place v rule.one_mark at) fits.progress;
      };
      drained = λ first. drained_first s.views v (subst (λ n. IsAt s.views n v) (first_place rule.numbered place v at lives first) at);
    }

    taken : (b : Box (EngineState A V) Global) → rule.word ≡ 0 → Fits meaning origin b.value (sum_of s.views)
        → HallRule meaning origin (record { words = suc place ∷ []; homes = none ∷ []; views = set s.views place (record v { found = Some b.value }) })
    taken b free fits =
        let w : Seen A V = record v { found = Some b.value } in
        let sum = sum_same s.views place v w at (record { jobs = refl; finished = refl; over = refl; drained = refl }) in
        record {
          word = suc place;
          words = refl;
          numbered = numbered_kept s.views place v w at (record { origin = refl; number = refl; splits = refl; unjoined = refl }) seat rule.numbered;
          one_mark = same_mark_kept s.views place v w at refl rule.one_mark;
          named = λ other u now. ⊎_elim
              (λ (here : (other ≡ place) × (w ≡ u)). (
                (λ _. ap suc (sym here.0)),
                (λ _. subst (λ (x : Seen A V). x.found ≢ None) here.1 (some_is_not_none b.value)),
              ))
              (λ (apart : (other ≢ place) × IsAt s.views other u). (
                (λ has. let named : 0 ≡ suc other = sym free ∙ (rule.named other u apart.1).0 has in absurd (omega (arith, named))),
                (λ (same : suc place ≡ suc other). absurd (apart.0 (omega (arith, same)))),
              ))
              (other_at s.views place v w at other u now);
          somebody = λ holder same. (w, subst (λ n. IsAt (set s.views place w) n w) (let back : place ≡ holder = omega (arith, same) in back) (now_at s.views place v w at));
          home = λ (same : suc place ≡ 0). absurd (omega (arith, same));
          held = λ other u engine now has. ⊎_elim
              (λ (here : (other ≡ place) × (w ≡ u)).
              let same : b.value ≡ engine = some_injective (ap (λ (x : Seen A V). x.found) here.1 ∙ has) in
              subst (λ (e : EngineState A V). Fits meaning origin e (sum_of (set s.views place w))) same (subst (λ sum. Fits meaning origin b.value sum) (sym sum) fits))
              (λ (apart : (other ≢ place) × IsAt s.views other u).
              let named : 0 ≡ suc other = sym free ∙ (rule.named other u apart.1).0 (λ nothing. some_is_not_none engine (sym has ∙ nothing)) in absurd (omega (arith, named)))
              (other_at s.views place v w at other u now);
        }

    -- ---- another seat has it

    -- the seat that has the turn isn't this one, and where this is the first one, it was split from it
    is_other : (holder : ℕ) → rule.word ≡ suc holder → (holder < 2 ^ 32) × (holder ≢ v.number) × (v.number ≡ 0 → Contains v.unjoined holder)
    is_other holder named = (below, other, unjoined)
      where
        below : holder < 2 ^ 32
        below =
            let somebody = rule.somebody holder named in
            let inside = at_inside s.views holder somebody.0 somebody.1 in
            let all = rule.numbered.count in
            let few = rule.numbered.few in
            omega (arith, inside, all, few)

        other : holder ≢ v.number
        other same = not_named rule place v at waits (named ∙ ap suc (same ∙ seat.number_is))

        unjoined : v.number ≡ 0 → Contains v.unjoined holder
        unjoined first =
            let somebody = rule.somebody holder named in
            let has : somebody.0.found ≢ None = (rule.named holder somebody.0 somebody.1).1 named in
            let is = ⊎_elim (λ gone. absurd (has (ap (λ (x : Seen A V). x.found) gone))) (λ (it : IsSeat origin holder somebody.0). it) (rule.numbered.seats holder somebody.0 somebody.1) in
            let above : 0 < holder = let apart = other in let zero : v.number ≡ 0 = first in omega (arith, apart, zero) in
            subst (λ (x : Seen A V). Contains x.unjoined holder)
            (is_first rule.numbered place v at (first_place rule.numbered place v at lives first))
            ((rule.numbered.unjoined holder).1 (above, (somebody.0, somebody.1, is)))

    refused : (holder : ℕ) → HallRule meaning origin (record { words = rule.word ∷ []; homes = s.homes; views = set s.views place (refused_by v holder) })
    refused holder =
        let w : Seen A V = refused_by v holder in
        let sum = sum_same s.views place v w at (record { jobs = refl; finished = refl; over = refl; drained = refl }) in
        record {
          word = rule.word;
          words = refl;
          numbered = numbered_kept s.views place v w at (record { origin = refl; number = refl; splits = refl; unjoined = refl }) seat rule.numbered;
          one_mark = same_mark_kept s.views place v w at refl rule.one_mark;
          named = λ other u now. ⊎_elim
              (λ (here : (other ≡ place) × (w ≡ u)). subst (λ n. IsNamed rule.word n u) (sym here.0) (subst (λ (x : Seen A V). IsNamed rule.word place x) here.1 (rule.named place v at)))
              (λ (apart : (other ≢ place) × IsAt s.views other u). rule.named other u apart.1)
              (other_at s.views place v w at other u now);
          somebody = λ other named. still other (rule.somebody other named);
          home = λ free. let home = rule.home free in (home.0, home.1, subst (λ sum. Fits meaning origin home.0.value sum) (sym sum) home.2);
          held = λ other u engine now has. subst (λ sum. Fits meaning origin engine sum) (sym sum) (⊎_elim
              (λ (here : (other ≡ place) × (w ≡ u)). rule.held place v engine at (ap (λ (x : Seen A V). x.found) here.1 ∙ has))
              (λ (apart : (other ≢ place) × IsAt s.views other u). rule.held other u engine apart.1 has)
              (other_at s.views place v w at other u now));
        }
      where
        still : (other : ℕ) → (u : Seen A V) × IsAt s.views other u → (u : Seen A V) × IsAt (set s.views place (refused_by v holder)) other u
        still other (u, was) = someone_at s.views place v (refused_by v holder) at other u was

-- a number that isn't 0 comes after another
before : (n : ℕ) → n ≢ 0 → (m : ℕ) × (n ≡ suc m)
before zero other = absurd (other refl)
before (suc m) other = (m, refl)

module _ {A V : Type 0} {meaning : A → Application V} (same_sums : (app : A) → SameSumsContinue (meaning app)) (origin : EngineState A V)
    (id mine : ℕ) (v : Seen A V) (waits : v.found ≡ None) (lives : v.origin ≢ None) (own : mine ≡ suc v.number) where
  -- what the step comes to, where the word becomes a number
  abbrev Comes : State (Slot A V) (Seen A V) → ℕ → ℕ → Type 0
  Comes s word n = (w : Seen A V) × (a : Act (Slot A V)) × Valid s.homes [] a
      × HallRule meaning origin (record { words = n ∷ []; homes = homes_after s.homes [] a; views = slice_set s.views id w })
      × TakesTurn meaning (step 1 0 0 mine none) (v, []) word (w, carried_after [] a)

  where_free : (s : State (Slot A V) (Seen A V)) (rule : HallRule meaning origin s) → IsAt s.views id v → rule.word ≡ 0 → Comes s rule.word mine
  where_free s rule at free =
      let home = rule.home free in
      let b = home.0 in
      let w : Seen A V = record v { found = Some b.value } in
      let number : suc id ≡ mine = ap suc (sym (seat rule id v at waits lives).number_is) ∙ sym own in (
        w,
        Act.takes 0 (Some b),
        ap (λ (homes : List (optional.Option (Slot A V))). get_elem? homes 0) home.1,
        subst (λ (homes : List (optional.Option (Slot A V))). HallRule meaning origin (record { words = mine ∷ []; homes = slice_set homes 0 none; views = slice_set s.views id w })) (sym home.1)
            (subst (λ n. HallRule meaning origin (record { words = n ∷ []; homes = none ∷ []; views = slice_set s.views id w })) number (taken rule id v at waits lives b free home.2)),
        (
          (λ _. (b, refl, is_found rule id v at waits lives (same_sums origin.app) b home.2)),
          (λ holder named. let zero : rule.word ≡ 0 = free in absurd (omega (arith, zero, named))),
        ),
      )

  where_taken : (s : State (Slot A V) (Seen A V)) (rule : HallRule meaning origin s) → IsAt s.views id v → rule.word ≢ 0 → Comes s rule.word rule.word
  where_taken s rule at other =
      let by = before rule.word other in
      let holder = by.0 in (
        refused_by v holder,
        Act.keeps,
        tt,
        refused rule id v at waits lives holder,
        (
          (λ free. absurd (other free)),
          (λ found named.
              let same : holder ≡ found = let one = by.1 in omega (arith, one, named) in
              let is = is_other rule id v at waits lives found named in
              (ap (λ (n : ℕ). (refused_by v n, [])) same, is.0, is.1, is.2)),
        ),
      )

  pub takes_turn : Allows (HallRule meaning origin) 1 id (v, []) 0 (λ n. either (n == 0) mine n) (TakesTurn meaning (step 1 0 0 mine none) (v, []))
  takes_turn s rule slots at below =
      subst (λ (words : List ℕ). (w : Seen A V) × (a : Act (Slot A V)) × Valid s.homes [] a
      × HallRule meaning origin (record { words = slice_set words 0 (either (slice_index words 0 == 0) mine (slice_index words 0)); homes = homes_after s.homes [] a; views = slice_set s.views id w })
      × TakesTurn meaning (step 1 0 0 mine none) (v, []) (slice_index words 0) (w, carried_after [] a))
      (sym rule.words)
      (exchanged rule.word 0 mine (Comes s rule.word) (where_free s rule at) (where_taken s rule at))

-- the same of a table with one slot and of a seat that holds none
module _ {A V : Type 0} {meaning : A → Application V} (same_sums : (app : A) → SameSumsContinue (meaning app)) (origin : EngineState A V)
    (id mine slots : ℕ) (one : slots ≡ 1) (me : Me (Slot A V) (Seen A V)) (holds_none : me.1 ≡ []) (waits : me.0.found ≡ None) (lives : me.0.origin ≢ None) (own : mine ≡ suc me.0.number) where
  pub may_take : Allows (HallRule meaning origin) slots id me 0 (λ n. either (n == 0) mine n) (TakesTurn meaning (step slots 0 0 mine none) me)
  may_take =
      subst (λ (carried : List (ℕ × Slot A V)). Allows (HallRule meaning origin) slots id (me.0, carried) 0 (λ n. either (n == 0) mine n) (TakesTurn meaning (step slots 0 0 mine none) (me.0, carried)))
      (sym holds_none) (λ s rule many at below. takes_turn same_sums origin id mine me.0 waits lives own s rule (many ∙ one) at below)
