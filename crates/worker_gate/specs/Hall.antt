-- What a hall keeps between any two steps.
use Rattle.std.specs.Prelude.{◌≡◌, ◌≢◌, ◌↔◌, ◌⊎◌, ℕ, suc, ◌<◌, ◌^◌, List, Contains, [], ◌∷◌, length, Option, Some, None}
use Rattle.std.specs.List.{flat_map}
use Rattle.std.specs.Option.{option_or}
use Rattle.std.specs.declared.alloc.Global.{Global}
use Rattle.std.specs.declared.boxed.Box.{Box}
use mathlib.Core.Option.{some}
use lib.ListN.{get_elem?}
use Rattle.atomic_table.specs.Table.{State}
use Rattle.app_laws.specs.Applications.{Application}
use Rattle.app_laws.specs.Order.{Pairwise}
use Rattle.crew.specs.declared.answers.OverCause.{OverCause}
use Rattle.graph_update.specs.Engine.{EngineState}
use Rattle.worker_gate.specs.declared.view.View.{View}
use Rattle.worker_gate.specs.Fits.{Fits, Sum, drained_count}
use Rattle.worker_gate.specs.Steps.{Seen, Slot, spent}

module _ {S V : Type 0} where
  -- the first mark that one of the views notes
  abbrev pub noted : List (View S V) → Option OverCause
  noted [] = None
  noted (v ∷ views) = option_or v.over (noted views)

  -- how many entries have been drained, which the first seat knows
  abbrev pub drained_by : List (View S V) → ℕ
  drained_by [] = 0
  drained_by (v ∷ views) = v.drained

  -- all seats together
  abbrev pub sum_of : List (View S V) → Sum V
  sum_of views = record { jobs = flat_map (λ v. v.jobs) views; finished = flat_map (λ v. v.finished) views; over = noted views; drained = drained_by views }

  -- the view at a place is this one
  abbrev pub IsAt : List (View S V) → ℕ → View S V → Type 0
  IsAt views place v = get_elem? views place ≡ some v

  -- at most one view notes a mark
  abbrev pub NoteOneMark : List (View S V) → Type 0
  NoteOneMark views = (place other : ℕ) (v w : View S V) → IsAt views place v → IsAt views other w → v.over ≢ None → w.over ≢ None → place ≡ other

  -- the word is the number of the seat that has the turn, plus 1, and 0 where none has it
  abbrev pub IsNamed : ℕ → ℕ → View S V → Type 0
  IsNamed word place v = (v.found ≢ None) ↔ (word ≡ suc place)

module _ {S V : Type 0} (origin : S) where
  -- the seat at this place, which is its number, wasn't joined away
  pub record IsSeat (place : ℕ) (v : View S V) : Type 0 where
    pub origin_is : v.origin ≡ Some origin
    pub number_is : v.number ≡ place

  -- the seats that were split from the first one and aren't joined are just the others that there are
  abbrev pub IsUnjoined : List (View S V) → ℕ → Type 0
  IsUnjoined views place = (0 < place) × ((v : View S V) × IsAt views place v × IsSeat place v)

  -- Seats are numbered by their places. The first is there, and those that were split from it and aren't joined are noted in its
  -- view, each once.
  pub record AreNumbered (views : List (View S V)) : Type 0 where
    pub first : View S V
    pub first_is : IsAt views 0 first
    pub first_lives : IsSeat 0 first
    pub count : length views ≡ suc first.splits
    pub few : suc first.splits < 2 ^ 32
    pub seats : (place : ℕ) (v : View S V) → IsAt views place v → (v ≡ spent) ⊎ IsSeat place v
    pub unjoined : (place : ℕ) → Contains first.unjoined place ↔ IsUnjoined views place
    pub once : Pairwise (λ one other. one ≢ other) first.unjoined
    pub no_others : (place : ℕ) (v : View S V) → IsAt views (suc place) v → v.unjoined ≡ []

module _ {A V : Type 0} (meaning : A → Application V) (origin : EngineState A V) where
  -- Word 0 names the seat that has the turn. Seats are numbered, and at most one notes a mark. While the turn is free the slot is
  -- home, and its engine has come from the origin with the jobs of all seats; while a seat has the turn, the engine that it found has.
  pub record HallRule (s : State (Slot A V) (Seen A V)) : Type 0 where
    pub word : ℕ
    pub words : s.words ≡ word ∷ []
    pub numbered : AreNumbered origin s.views
    pub one_mark : NoteOneMark s.views
    pub named : (place : ℕ) (v : Seen A V) → IsAt s.views place v → IsNamed word place v
    pub somebody : (holder : ℕ) → word ≡ suc holder → (v : Seen A V) × IsAt s.views holder v
    pub home : word ≡ 0 → (b : Box (EngineState A V) Global) × (s.homes ≡ some (Some b) ∷ []) × Fits meaning origin b.value (sum_of s.views)
    pub held : (place : ℕ) (v : Seen A V) (engine : EngineState A V) → IsAt s.views place v → v.found ≡ Some engine → Fits meaning origin engine (sum_of s.views)

-- what a hall begins with
abbrev pub first_view : {A V : Type 0} → EngineState A V → Seen A V
first_view origin = record spent { origin = Some origin; drained = drained_count origin.progress }
