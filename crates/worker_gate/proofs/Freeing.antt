-- The step that frees the turn keeps the rule: the engine goes home as the seat's turn has left it.
use Rattle.std.proofs.Common.{◌≡◌, ◌≢◌, ⊎_elim, ◌==◌, ne_eqb, Bool, ℕ, suc, List, [], ◌∷◌, Option, Some, None, refl, sym, ap, subst, ◌∙◌, arith}
use Rattle.std.specs.Prelude.{if◌then◌else◌, slice_set}
use Rattle.std.specs.Option.{option_or}
use Rattle.std.specs.declared.alloc.Global.{Global}
use Rattle.std.specs.declared.boxed.Box.{Box}
use mathlib.Core.Option as optional
use mathlib.Core.Option.{none, some}
use mathlib.Core.Logic.{dite}
use native.Mathlib.Decide.{ℕ_discrete}
use Rattle.atomic_table.specs.Seated.{TableId}
use Rattle.atomic_table.specs.Table.{Act, Allows, Me, State, step}
use Rattle.task_order.specs.declared.key.Key.{Key}
use Rattle.app_laws.specs.Applications.{Application}
use Rattle.crew.specs.declared.answers.OverCause.{OverCause}
use Rattle.run_laws.specs.Jobs.{Job}
use Rattle.run_laws.specs.Moves.{Moved}
use Rattle.graph_update.specs.Engine.{EngineState}
use Rattle.worker_gate.specs.Fits.{Fits, drained_count}
use Rattle.worker_gate.specs.Hall.{HallRule, IsAt, NoteOneMark, drained_by, sum_of}
use Rattle.worker_gate.specs.Laws.{IsSameSum, MovesContinue, SameSumsContinue, new_mark}
use Rattle.worker_gate.specs.Steps.{FreesTurn, Seen, Slot, left_by, with_others}
use Rattle.worker_gate.specs.Turns.{HasMoved, MayLeave}
use Rattle.worker_gate.proofs.Numbers.{first_place, is_seat, now_at, numbered_kept, one_mark_kept, other_at}
use Rattle.worker_gate.proofs.Places.{set_only, some_is_not_none}
use Rattle.worker_gate.proofs.Sums.{drained_else, drained_first, noted_by_none, others_of, sum_apart, sum_changed}

-- a mark that is new in a turn was there neither at the seat nor anywhere else
new_where_none : (own found now : Option OverCause) → option_or own (new_mark found now) ≢ None → own ≡ None → found ≡ None
new_where_none None None now has alone = refl
new_where_none None (Some cause) now has alone = absurd (has refl)
new_where_none (Some mark) found now has alone = absurd (some_is_not_none mark alone)

-- what is chosen by a number that is 0, and by another
by_zero : (n : ℕ) (x y : ℕ) → n ≡ 0 → (if n == 0 then x else y) ≡ x
by_zero n x y same = ap (λ (k : ℕ). if k == 0 then x else y) same

by_other : (n : ℕ) (x y : ℕ) → n ≢ 0 → (if n == 0 then x else y) ≡ y
by_other n x y other = ap (λ (b : Bool). if b then x else y) (ne_eqb n 0 other)

module _ {A V : Type 0} {meaning : A → Application V} {origin : EngineState A V} (jobs : List (Job V)) (ended : List Key)
    {s : State (Slot A V) (Seen A V)} (rule : HallRule meaning origin s) (id : ℕ) (v : Seen A V) (at : IsAt s.views id v) (lives : v.origin ≢ None)
    (found : EngineState A V) (has : v.found ≡ Some found) (now : EngineState A V) where
  is_named : rule.word ≡ suc id
  is_named = (rule.named id v at).0 (λ nothing. some_is_not_none found (sym has ∙ nothing))

  -- nobody else has the turn
  no_other : (other : ℕ) (u : Seen A V) → other ≢ id → IsAt s.views other u → u.found ≢ None → ⊥
  no_other other u apart was too =
      let one = is_named in
      let two : rule.word ≡ suc other = (rule.named other u was).0 too in
      apart (omega (arith, one, two))

  fitted : Fits meaning origin found (sum_of s.views)
  fitted = rule.held id v found at has

  one_mark_after : NoteOneMark (slice_set s.views id (left_by jobs ended v found now))
  one_mark_after =
      one_mark_kept s.views id v (left_by jobs ended v found now) at
      (λ other u apart was marked also. by_mark v.over refl other u apart was marked also) rule.one_mark
    where
      by_mark : (own : Option OverCause) → v.over ≡ own → (other : ℕ) (u : Seen A V) → other ≢ id → IsAt s.views other u
          → option_or v.over (new_mark found.progress.over now.progress.over) ≢ None → u.over ≢ None → ⊥
      by_mark (Some cause) own other u apart was marked also =
          apart (sym (rule.one_mark id other v u at was (λ nothing. some_is_not_none cause (sym own ∙ nothing)) also))
      by_mark None own other u apart was marked also =
          also (noted_by_none s.views other u (sym fitted.progress.over ∙ new_where_none v.over found.progress.over now.progress.over marked own) was)

  module _ (hall : TableId) (moved : HasMoved meaning (record { hall = hall; view = v; engine = now }) jobs ended found) where
    drained_after : drained_count now.progress ≡ drained_by (slice_set s.views id (left_by jobs ended v found now))
    drained_after =
        let w = left_by jobs ended v found now in
        dite (ℕ_discrete v.number 0)
        (λ (first : v.number ≡ 0). sym (
        drained_first (slice_set s.views id w) w (subst (λ n. IsAt (slice_set s.views id w) n w) (first_place rule.numbered id v at lives first) (now_at s.views id v w at))
        ∙ by_zero v.number (drained_count now.progress) v.drained first))
        (λ (other : v.number ≢ 0).
        moved.drained other ∙ fitted.progress.count
        ∙ sym (drained_else s.views id w (λ same. other ((is_seat rule.numbered id v at lives).number_is ∙ same))))

    fits_after : SameSumsContinue (meaning origin.app) → MovesContinue (meaning origin.app) → Fits meaning origin now (sum_of (slice_set s.views id (left_by jobs ended v found now)))
    fits_after same_sums moves =
        let w = left_by jobs ended v found now in
        let app = meaning origin.app in
        let others = others_of s.views id in
        let drained = drained_count now.progress in
        let come : Moved app found.progress v.jobs now.progress jobs ended =
        subst (λ (a : A). Moved (meaning a) found.progress v.jobs now.progress jobs ended) fitted.app moved.moved in
        let apart = same_sums origin.progress found.progress (sum_of s.views) (with_others v others) (sum_apart s.views id v rule.one_mark at) fitted.progress in
        let gone = moves origin.progress found.progress now.progress v.jobs jobs v.finished ended v.over others apart come in
        record {
          app = moved.app ∙ fitted.app;
          progress = same_sums origin.progress now.progress (with_others w (record others { drained = drained })) (sum_of (slice_set s.views id w))
              (subst (λ n. IsSameSum (with_others w (record others { drained = n })) (sum_of (slice_set s.views id w))) (sym drained_after) (sum_changed s.views id v w at one_mark_after))
              gone;
        }

    freed : (b : Box (EngineState A V) Global) → b.value ≡ now → SameSumsContinue (meaning origin.app) → MovesContinue (meaning origin.app)
        → HallRule meaning origin (record { words = 0 ∷ []; homes = some (Some b) ∷ []; views = slice_set s.views id (left_by jobs ended v found now) })
    freed b is same_sums moves =
        let w = left_by jobs ended v found now in
        record {
          word = 0;
          words = refl;
          numbered = numbered_kept s.views id v w at (record { origin = refl; number = refl; splits = refl; unjoined = refl }) (is_seat rule.numbered id v at lives) rule.numbered;
          one_mark = one_mark_after;
          named = λ other u here. ((λ has_one. absurd (nobody other u here has_one)), (λ (same : 0 ≡ suc other). absurd (omega (arith, same))));
          somebody = λ holder (same : 0 ≡ suc holder). absurd (omega (arith, same));
          home = λ free. (b, refl, subst (λ (e : EngineState A V). Fits meaning origin e (sum_of (slice_set s.views id w))) (sym is) (fits_after same_sums moves));
          held = λ other u engine here is_one. absurd (nobody other u here (λ nothing. some_is_not_none engine (sym is_one ∙ nothing)));
        }
      where
        nobody : (other : ℕ) (u : Seen A V) → IsAt (slice_set s.views id (left_by jobs ended v found now)) other u → u.found ≢ None → ⊥
        nobody other u here has_one = ⊎_elim
            (λ (own : (other ≡ id) × (left_by jobs ended v found now ≡ u)). has_one (sym (ap (λ (x : Seen A V). x.found) own.1)))
            (λ (apart : (other ≢ id) × IsAt s.views other u). no_other other u apart.0 apart.1 has_one)
            (other_at s.views id v (left_by jobs ended v found now) at other u here)

abbrev first_held : {X : Type 0} → List (ℕ × Option X) → Option X
first_held [] = None
first_held (x ∷ xs) = x.1

abbrev pub holding : {X : Type 0} → X → List (ℕ × Option X)
holding x = (0, Some x) ∷ []

pub same_held : {X : Type 0} (x y : X) → holding x ≡ holding y → x ≡ y
same_held {X} x y same = let one : Some x ≡ Some y = ap (λ (held : List (ℕ × Option X)). first_held held) same in cc

some_found : {X : Type 0} (option : Option X) → option ≢ None → (x : X) × (option ≡ Some x)
some_found None has = absurd (has refl)
some_found (Some x) has = (x, refl)

module _ {A V : Type 0} {meaning : A → Application V} (same_sums : (app : A) → SameSumsContinue (meaning app)) (moves : (app : A) → MovesContinue (meaning app))
    (origin : EngineState A V) (hall : TableId) (id : ℕ) (v : Seen A V) (lives : v.origin ≢ None) (has : v.found ≢ None)
    (jobs : List (Job V)) (ended : List Key) (b : Box (EngineState A V) Global)
    (may : MayLeave meaning (record { hall = hall; view = v; engine = b.value }) jobs ended) where
  pub frees_turn : Allows (HallRule meaning origin) 1 id (v, (0, Some b) ∷ []) 0 (λ _. 0) (λ _. FreesTurn jobs ended (step 1 0 0 0 none) (v, (0, Some b) ∷ []) 0)
  frees_turn s rule slots at below =
      let some_one = some_found v.found has in
      let found = some_one.0 in
      let w = left_by jobs ended v found b.value in
      let done = freed jobs ended rule id v at lives found some_one.1 b.value hall (may found some_one.1) b refl (same_sums origin.app) (moves origin.app) in (
        w,
        Act.gives,
        tt,
        subst (λ (words : List ℕ). HallRule meaning origin (record { words = slice_set words 0 0; homes = slice_set s.homes 0 (some (Some b)); views = slice_set s.views id w })) (sym rule.words)
            (subst (λ (homes : List (optional.Option (Slot A V))). HallRule meaning origin (record { words = 0 ∷ []; homes = homes; views = slice_set s.views id w })) (sym (set_only s.homes (optional.some (Some b)) slots)) done),
        (λ one now is holds.
            let same : found ≡ one = let two : Some found ≡ Some one = sym some_one.1 ∙ is in cc in
            let box : b ≡ now = same_held b now holds in
            λ i. (left_by jobs ended v (same i) (box i).value, [])),
      )

-- the same of a table with one slot, and of a seat that holds it with the engine
module _ {A V : Type 0} {meaning : A → Application V} (same_sums : (app : A) → SameSumsContinue (meaning app)) (moves : (app : A) → MovesContinue (meaning app))
    (origin : EngineState A V) (hall : TableId) (id slots : ℕ) (one : slots ≡ 1) (v : Seen A V) (b : Box (EngineState A V) Global) (me : Me (Slot A V) (Seen A V)) (is : me ≡ (v, (0, Some b) ∷ []))
    (lives : v.origin ≢ None) (has : v.found ≢ None) (jobs : List (Job V)) (ended : List Key)
    (may : MayLeave meaning (record { hall = hall; view = v; engine = b.value }) jobs ended) where
  pub may_free : Allows (HallRule meaning origin) slots id me 0 (λ _. 0) (λ _. FreesTurn jobs ended (step slots 0 0 0 none) me 0)
  may_free =
      subst (λ (it : Me (Slot A V) (Seen A V)). Allows (HallRule meaning origin) slots id it 0 (λ _. 0) (λ _. FreesTurn jobs ended (step slots 0 0 0 none) it 0))
      (sym is) (λ s rule many at below. frees_turn same_sums moves origin hall id v lives has jobs ended b may s rule (many ∙ one) at below)

-- a seat that has left its turn holds no slot, and knows what it knew of numbers
pub record HasLeft {A V : Type 0} (jobs : List (Job V)) (ended : List Key) (v : Seen A V) (now : EngineState A V) (after : Me (Slot A V) (Seen A V)) : Type 0 where
  pub found : EngineState A V
  pub was : v.found ≡ Some found
  pub is : after ≡ (left_by jobs ended v found now, [])

module _ {A V : Type 0} where
  pub has_left : (jobs : List (Job V)) (ended : List Key) (v : Seen A V) (b : Box (EngineState A V) Global) (me after : Me (Slot A V) (Seen A V)) → me ≡ (v, (0, Some b) ∷ []) → v.found ≢ None
      → FreesTurn jobs ended (step 1 0 0 0 none) me 0 after → HasLeft jobs ended v b.value after
  has_left jobs ended v b me after is has frees =
      let some_one = some_found v.found has in
      record {
        found = some_one.0;
        was = some_one.1;
        is = frees some_one.0 b (ap (λ (it : Me (Slot A V) (Seen A V)). it.0.found) is ∙ some_one.1) (ap (λ (it : Me (Slot A V) (Seen A V)). it.1) is)
            ∙ ap (λ (it : Me (Slot A V) (Seen A V)). (left_by jobs ended it.0 some_one.0 b.value, [])) is;
      }

  pub left_is : {jobs : List (Job V)} {ended : List Key} {v : Seen A V} {now : EngineState A V} {after : Me (Slot A V) (Seen A V)} → (left : HasLeft jobs ended v now after)
      → (after.1 ≡ []) × (after.0.found ≡ None) × (after.0.origin ≡ v.origin) × (after.0.number ≡ v.number) × (after.0.splits ≡ v.splits)
  left_is left = (
    ap (λ (it : Me (Slot A V) (Seen A V)). it.1) left.is,
    ap (λ (it : Me (Slot A V) (Seen A V)). it.0.found) left.is,
    ap (λ (it : Me (Slot A V) (Seen A V)). it.0.origin) left.is,
    ap (λ (it : Me (Slot A V) (Seen A V)). it.0.number) left.is,
    ap (λ (it : Me (Slot A V) (Seen A V)). it.0.splits) left.is,
  )
