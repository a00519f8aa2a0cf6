-- Where all seats are joined, the first one has what all had, and the engine is home.
use Rattle.std.proofs.Common.{◌≡◌, ◌≢◌, ⊎_elim, ℕ, zero, suc, List, [], ◌∷◌, ◌++◌, Option, Some, None, refl, sym, ap, subst, ◌∙◌, arith}
use Rattle.std.specs.Prelude.{Contains}
use Rattle.std.specs.List.{flat_map}
use Rattle.std.specs.Option.{option_or}
use Rattle.std.specs.declared.alloc.Global.{Global}
use Rattle.std.specs.declared.boxed.Box.{Box}
use mathlib.Core.Option as optional
use mathlib.Core.Option.{some, some-injective, some-ne-none}
use lib.ListN.{get_elem?}
use Rattle.plain_laws.specs.Members.{none}
use Rattle.plain_laws.specs.Places.{at_one}
use Rattle.atomic_table.specs.Table.{Final, Seen as SeesView, State}
use Rattle.app_laws.specs.Applications.{Application}
use Rattle.crew.specs.declared.answers.OverCause.{OverCause}
use Rattle.graph_update.specs.Engine.{EngineState}
use Rattle.worker_gate.specs.declared.view.View.{View}
use Rattle.worker_gate.specs.Fits.{Fits}
use Rattle.worker_gate.specs.Hall.{HallRule, IsAt, IsSeat, noted, sum_of}
use Rattle.worker_gate.specs.Steps.{Seen, Slot, spent}
use Rattle.worker_gate.proofs.Numbers.{first_place, is_first}

told_none : {A X : Type 0} (f : A → List X) (l : List A) → ((place : ℕ) (a : A) → get_elem? l place ≡ some a → f a ≡ []) → flat_map f l ≡ []
told_none f [] none = refl
told_none {A} {X} f (x ∷ l) none =
    ap (λ (told : List X). told ++ flat_map f l) (none 0 x refl) ∙ told_none f l (λ place a at. none (suc place) a at)

module _ {S V : Type 0} where
  noted_none : (views : List (View S V)) → ((place : ℕ) (v : View S V) → IsAt views place v → v.over ≡ None) → noted views ≡ None
  noted_none [] none = refl
  noted_none (v ∷ views) none =
      ap (λ (over : Option OverCause). option_or over (noted views)) (none 0 v refl) ∙ noted_none views (λ place u at. none (suc place) u at)

  -- who is alone has all
  sum_alone : (views : List (View S V)) (v : View S V) → IsAt views 0 v → ((place : ℕ) (u : View S V) → IsAt views (suc place) u → u ≡ spent) → sum_of views ≡ sum_of (v ∷ [])
  sum_alone [] v at gone = absurd (some-ne-none v (sym at))
  sum_alone (x ∷ views) v at gone =
      let jobs = told_none (λ (u : View S V). u.jobs) views (λ place u here. ap (λ (w : View S V). w.jobs) (gone place u here)) in
      let finished = told_none (λ (u : View S V). u.finished) views (λ place u here. ap (λ (w : View S V). w.finished) (gone place u here)) in
      let over = noted_none views (λ place u here. ap (λ (w : View S V). w.over) (gone place u here)) in
      let same : x ≡ v = some-injective x v at in
      λ i. record { jobs = (same i).jobs ++ jobs i; finished = (same i).finished ++ finished i; over = option_or (same i).over (over i); drained = (same i).drained }

module _ {A V : Type 0} {meaning : A → Application V} (origin : EngineState A V) (id : ℕ) (v : Seen A V) (lives : v.origin ≢ None) (waits : v.found ≡ None)
    (first : v.number ≡ 0) (alone : v.unjoined ≡ []) where
  module _ {s : State (Slot A V) (Seen A V)} (rule : HallRule meaning origin s) (at : IsAt s.views id v) where
    at_zero : IsAt s.views 0 v
    at_zero = subst (λ n. IsAt s.views n v) (first_place rule.numbered id v at lives first) at

    others_gone : (place : ℕ) (u : Seen A V) → IsAt s.views (suc place) u → u ≡ spent
    others_gone place u here = ⊎_elim
        (λ gone. gone)
        (λ (is : IsSeat origin (suc place) u).
        let has = (rule.numbered.unjoined (suc place)).1 (omega arith, (u, here, is)) in
        let same : rule.numbered.first.unjoined ≡ [] = ap (λ (x : Seen A V). x.unjoined) (is_first rule.numbered 0 v at_zero refl) ∙ alone in
        absurd (none (suc place) (subst (λ (xs : List ℕ). Contains xs (suc place)) same has)))
        (rule.numbered.seats (suc place) u here)

    is_free : (word : ℕ) → rule.word ≡ word → word ≡ 0
    is_free zero is = refl
    is_free (suc holder) is =
        let somebody = rule.somebody holder is in
        let has = (rule.named holder somebody.0 somebody.1).1 is in
        absurd (has (nobody holder somebody.0 somebody.1))
      where
        nobody : (place : ℕ) (u : Seen A V) → IsAt s.views place u → u.found ≡ None
        nobody zero u here = ap (λ (x : Seen A V). x.found) (at_one s.views 0 u v here at_zero) ∙ waits
        nobody (suc place) u here = ap (λ (x : Seen A V). x.found) (others_gone place u here)

  pub closes : (words : List ℕ) (slots : List (Slot A V)) → Final (SeesView (HallRule meaning origin) id v) words slots
      → (b : Box (EngineState A V) Global) × (get_elem? slots 0 ≡ some (Some b)) × Fits meaning origin b.value (sum_of (v ∷ []))
  closes words slots (s, seen, words_are, as_many, lie) =
      let rule = seen.0 in
      let home = rule.home (is_free rule seen.1 rule.word refl) in (
        home.0,
        lie 0 (Some home.0) (ap (λ (homes : List (optional.Option (Slot A V))). get_elem? homes 0) home.1),
        subst (λ sum. Fits meaning origin home.0.value sum) (sum_alone s.views v (at_zero rule seen.1) (others_gone rule seen.1)) home.2,
      )

  -- the engine lies in the slot
  pub taken_out : (words : List ℕ) (slots : List (Slot A V)) (slot : Slot A V) → Final (SeesView (HallRule meaning origin) id v) words slots → get_elem? slots 0 ≡ some slot
      → (b : Box (EngineState A V) Global) × (slot ≡ Some b) × Fits meaning origin b.value (sum_of (v ∷ []))
  taken_out words slots slot final taken =
      let lies = closes words slots final in
      (lies.0, some-injective slot (Some lies.0) (sym taken ∙ lies.1), lies.2)

  pub engine_fits : (words : List ℕ) (slots : List (Slot A V)) (slot : Slot A V) (held : Box (EngineState A V) Global) (engine started : EngineState A V) (view : Seen A V)
      → Final (SeesView (HallRule meaning origin) id v) words slots → get_elem? slots 0 ≡ some slot → slot ≡ Some held → engine ≡ held.value → origin ≡ started → v ≡ view
      → Fits meaning started engine (sum_of (view ∷ []))
  engine_fits words slots slot held engine started view final taken full is began knew =
      let out = taken_out words slots slot final taken in
      let same : out.0 ≡ held = let one : Some out.0 ≡ Some held = sym out.1 ∙ full in cc in
      subst (λ (u : Seen A V). Fits meaning started engine (sum_of (u ∷ []))) knew
      (subst (λ (e : EngineState A V). Fits meaning e engine (sum_of (v ∷ []))) began
      (subst (λ (e : EngineState A V). Fits meaning origin e (sum_of (v ∷ []))) (sym is)
      (subst (λ (b : Box (EngineState A V) Global). Fits meaning origin b.value (sum_of (v ∷ []))) same out.2)))
