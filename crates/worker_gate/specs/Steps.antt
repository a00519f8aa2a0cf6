-- What each kind of step makes of a seat's view.
use Rattle.std.specs.Prelude.{◌≡◌, ◌≢◌, ℕ, suc, ◌<◌, ◌^◌, ◌==◌, not, List, Contains, [], ◌∷◌, ◌++◌, filter, if◌then◌else◌, Option, Some, None}
use Rattle.std.specs.Option.{option_or}
use Rattle.std.specs.declared.alloc.Global.{Global}
use Rattle.std.specs.declared.boxed.Box.{Box}
use Rattle.atomic_table.specs.Table.{Me, Step}
use Rattle.task_order.specs.declared.key.Key.{Key}
use Rattle.app_laws.specs.Applications.{Application}
use Rattle.run_laws.specs.Jobs.{Job}
use Rattle.graph_update.specs.Engine.{EngineState}
use Rattle.worker_gate.specs.declared.view.View.{View}
use Rattle.worker_gate.specs.Fits.{Fits, Sum, beside, drained_count}
use Rattle.worker_gate.specs.Laws.{new_mark}

module _ {S V : Type 0} where
  -- the view of a seat that was joined away
  abbrev pub spent : View S V
  spent = record { number = 0; splits = 0; unjoined = []; jobs = []; finished = []; over = None; tries = 0; holder = 0; found = None; origin = None; drained = 0 }

  -- one more seat is split from it
  abbrev pub first_half : View S V → View S V
  first_half v = record v { splits = suc v.splits; unjoined = suc v.splits ∷ v.unjoined }

  abbrev pub second_half : View S V → View S V
  second_half v = record spent { number = suc v.splits; origin = v.origin }

  -- it takes over what the other has
  abbrev pub both_views : View S V → View S V → View S V
  both_views v w = record v {
    unjoined = filter (λ number. not (number == w.number)) v.unjoined;
    jobs = v.jobs ++ w.jobs;
    finished = v.finished ++ w.finished;
    over = option_or v.over w.over;
  }

  -- it was refused once more, by this holder
  abbrev pub refused_by : View S V → ℕ → View S V
  refused_by v holder = record v { tries = suc v.tries; holder = holder }

-- what the slot holds, and what a seat of an engine's hall knows
abbrev pub Slot : Type 0 → Type 0 → Type 0
Slot A V = Option (Box (EngineState A V) Global)

abbrev pub Seen : Type 0 → Type 0 → Type 0
Seen A V = View (EngineState A V) V

-- what a seat has, beside what others have
abbrev pub with_others : {S V : Type 0} → View S V → Sum V → Sum V
with_others v others = beside v.jobs v.finished v.over others

module _ {A V : Type 0} (meaning : A → Application V) where
  -- the engine fits what the seat has, together with what other seats have
  pub record IsFound (v : Seen A V) (engine : EngineState A V) : Type 0 where
    pub origin : EngineState A V
    pub is_origin : v.origin ≡ Some origin
    pub others : Sum V
    pub fits : Fits meaning origin engine (with_others v others)
    pub drained : v.number ≡ 0 → others.drained ≡ v.drained

  -- who found 0 has the turn and the slot, with an engine that fits
  abbrev pub HasTaken : Me (Slot A V) (Seen A V) → Me (Slot A V) (Seen A V) → Type 0
  HasTaken before after = (b : Box (EngineState A V) Global) × (after ≡ (record before.0 { found = Some b.value }, (0, Some b) ∷ before.1)) × IsFound before.0 b.value

  -- who found another number was refused by that one's seat
  abbrev pub WasRefused : Me (Slot A V) (Seen A V) → ℕ → Me (Slot A V) (Seen A V) → Type 0
  WasRefused before holder after = (after ≡ (refused_by before.0 holder, before.1)) × (holder < 2 ^ 32) × (holder ≢ before.0.number) × (before.0.number ≡ 0 → Contains before.0.unjoined holder)

  abbrev pub TakesTurn : Step (Slot A V) → Me (Slot A V) (Seen A V) → ℕ → Me (Slot A V) (Seen A V) → Type 0
  TakesTurn step before found after = (found ≡ 0 → HasTaken before after) × ((holder : ℕ) → found ≡ suc holder → WasRefused before holder after)

module _ {A V : Type 0} (jobs : List (Job V)) (ended : List Key) where
  -- what the seat has after its turn
  abbrev pub left_by : Seen A V → EngineState A V → EngineState A V → Seen A V
  left_by v found now = record v {
    jobs = jobs;
    finished = v.finished ++ ended;
    over = option_or v.over (new_mark found.progress.over now.progress.over);
    found = None;
    drained = if v.number == 0 then drained_count now.progress else v.drained;
  }

  abbrev pub FreesTurn : Step (Slot A V) → Me (Slot A V) (Seen A V) → ℕ → Me (Slot A V) (Seen A V) → Type 0
  FreesTurn step before found after = (found_one : EngineState A V) (now : Box (EngineState A V) Global) →
      before.0.found ≡ Some found_one → before.1 ≡ (0, Some now) ∷ [] → after ≡ (left_by before.0 found_one now.value, [])
