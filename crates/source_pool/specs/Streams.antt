-- What a run in rounds writes to a sink while it goes on, and what it answers.
use Rattle.std.specs.Prelude.{◌≡◌, ◌+◌, ℕ, Bool, true, false, List, [], ◌++◌}
use Rattle.cell_store.specs.Values.{values_of}
use Rattle.outer_edge.specs.Transfers.{HasFailed, Transfer}
use Rattle.outer_edge.specs.Writing.{AppendsFront}
use Rattle.output_log.specs.Entries.{joined_texts}
use Rattle.app_laws.specs.Applications.{Application}
use Rattle.app_laws.specs.declared.serial_run.Finals.{Finals}
use Rattle.commuting.specs.States.{State}
use Rattle.run_laws.specs.Events.{drainable}
use Rattle.run_laws.specs.Progress.{Progress}
use Rattle.crew.specs.declared.answers.OverCause.{OverCause}
use Rattle.crew.specs.declared.answers.OverCause.TheVariants as cause
use Rattle.source_pool.specs.declared.flow.Flow.{Flow}
use Rattle.source_pool.specs.declared.flow.Flow.TheVariants as flow
use Rattle.text_outlet.specs.Sending.{IsWritten}
use Rattle.source_pool.specs.Course.{IsAtRest, LeadsByRounds}
use Rattle.source_pool.specs.Kept.{IsLastAfter, KeepsAfter, acted_in, sequential_text}
use Rattle.source_pool.specs.Legs.{IsEndBehind}
use Rattle.source_pool.specs.Runs.{IsOverLimit, IsRoundsEnd, state_at_rest}

-- the run was cut short since the limit was passed
abbrev pub IsPassed : OverCause → Type 0
IsPassed (cause.Budget created limit) = Unit {0}
IsPassed cause.NoRoom = ⊥

-- what may be drained is told, unless a write has failed
abbrev pub told_by : {V : Type 0} → Application V → Bool → Progress V → List ℕ
told_by app true progress = []
told_by app false progress = joined_texts (drainable app progress.nodes progress.log)

module _ {V : Type 0} (app : Application V) (start : Progress V) where
  -- ---- on the way

  -- something is kept after some number of rounds
  pub record IsKept (text : List ℕ) : Type 0 where
    pub rounds : ℕ
    pub state : State V
    pub keeps : KeepsAfter app start rounds state text

  -- Between two rounds, this number of them after the start: the text was drained, and is what was kept at some time. While no write
  -- has failed, nothing more is to be drained.
  pub record IsOnLeg (failed : Bool) (rounds : ℕ) (now : Progress V) (text : List ℕ) : Type 0 where
    pub rest : IsAtRest app start (values_of start.cells) (state_at_rest now) text now
    pub leads : LeadsByRounds app rounds (state_at_rest start) (state_at_rest now)
    pub counted : now.ended ≡ start.ended + acted_in app rounds (state_at_rest start)
    pub kept : IsKept text
    pub drained : failed ≡ false → drainable app now.nodes now.log ≡ []

  -- The run was cut short: what was told is a front of what is kept at some time. Where the limit was passed, it is all of that, and
  -- unless a write has failed, it is what is kept before the last round.
  pub record IsCutShort (failed : Bool) (told : List ℕ) (why : OverCause) : Type 0 where
    pub rounds : ℕ
    pub state : State V
    pub text : List ℕ
    pub keeps : KeepsAfter app start rounds state text
    pub rest : List ℕ
    pub text_is : text ≡ told ++ rest
    pub all : IsPassed why → rest ≡ []
    pub last : IsPassed why → failed ≡ false → IsLastAfter app start rounds state

  -- The end of the run: this text was told, and the finals have the rest. Unless a write has failed, nothing is left.
  pub record IsToldEnd (failed : Bool) (told : List ℕ) (finals : Finals V) (rounds : ℕ) : Type 0 where
    pub whole : Finals V
    pub end : IsRoundsEnd app start whole rounds
    pub behind : IsEndBehind told finals whole
    pub all : failed ≡ false → finals.text ≡ []

  -- ---- what is answered

  -- The end of the run. The sink took the text that comes before what the finals have of it still: where no write failed, all of
  -- it, and else a front.
  pub record IsStreamEnd (transfer : Transfer) (finals : Finals V) (rounds : ℕ) (failed : Bool) : Type 0 where
    pub whole : Finals V
    pub end : IsRoundsEnd app start whole rounds
    pub text : List ℕ
    pub behind : IsEndBehind text finals whole
    pub written : IsWritten transfer failed text
    pub all : failed ≡ false → finals.text ≡ []

  -- no write failed, and the sink took just what is kept after the last round within the limit
  pub record TakesLastKept (transfer : Transfer) : Type 0 where
    pub rounds : ℕ
    pub state : State V
    pub text : List ℕ
    pub keeps : KeepsAfter app start rounds state text
    pub last : IsLastAfter app start rounds state
    pub written : IsWritten transfer false text

  -- the sink took a front of the sequential run's text
  abbrev pub TakesFront : Transfer → Type 0
  TakesFront transfer = AppendsFront transfer.before transfer.after (sequential_text app start)

  -- The run doesn't end within the limit. Where no write failed, what was written is what is kept after the last round within it; and
  -- else a front of the sequential run's text.
  pub record IsStreamOver (transfer : Transfer) (created limit : ℕ) (failed : Bool) : Type 0 where
    pub over : IsOverLimit app start created limit
    pub kept : failed ≡ false → TakesLastKept transfer
    pub front : TakesFront transfer
    pub fault : failed ≡ true → HasFailed transfer

  -- What a run answers, by what it made of the sink. Want of memory may come at any time, and then too the sink took a front.
  abbrev pub IsFlow : Transfer → Flow V → Type 0
  IsFlow transfer (flow.Ended finals rounds failed) = IsStreamEnd transfer finals rounds failed
  IsFlow transfer (flow.Budget created limit failed) = IsStreamOver transfer created limit failed
  IsFlow transfer flow.NoRoom = TakesFront transfer

-- the cells of a run that has ended are the application's
abbrev pub IsFitFlow : {V : Type 0} → Application V → Flow V → Type 0
IsFitFlow app (flow.Ended finals rounds failed) = app.is_fit_cells (values_of finals.store)
IsFitFlow app (flow.Budget created limit failed) = Unit {0}
IsFitFlow app flow.NoRoom = Unit {0}
