-- What a run without rounds writes to a sink while it goes on, and what it answers.
use Rattle.std.specs.Prelude.{◌≡◌, ◌+◌, ◌≤◌, ℕ, Bool, true, false, List, [], ◌++◌, length, Option, Some, None}
use Rattle.task_order.specs.declared.key.Key.{Key}
use Rattle.cell_store.specs.Values.{values_of}
use Rattle.outer_edge.specs.Transfers.{HasFailed, Transfer}
use Rattle.output_log.specs.Entries.{Entry, joined_texts}
use Rattle.app_laws.specs.Applications.{Application}
use Rattle.app_laws.specs.declared.serial_run.Finals.{Finals}
use Rattle.run_laws.specs.Events.{drainable, drained}
use Rattle.run_laws.specs.Jobs.{Job}
use Rattle.run_laws.specs.Moves.{Moved}
use Rattle.run_laws.specs.Progress.{Progress}
use Rattle.run_laws.specs.Sound.{IsSound}
use Rattle.source_pool.specs.declared.flow.Flow.{Flow}
use Rattle.source_pool.specs.declared.flow.Flow.TheVariants as flow
use Rattle.source_pool.specs.Kept.{sequential_entries, sequential_text}
use Rattle.source_pool.specs.Legs.{IsEndBehind}
use Rattle.source_pool.specs.Runs.{IsOverLimit}
use Rattle.source_pool.specs.Streams.{TakesFront}
use Rattle.text_outlet.specs.declared.outlet.Outlet.{Outlet}
use Rattle.text_outlet.specs.Sending.{HasTold, IsWritten}
use Rattle.worker_gate.specs.Fits.{Continues, Sum, drained_count}
use Rattle.free_pool.specs.Runs.{IsRunEnd}

module _ {V : Type 0} (app : Application V) (start : Progress V) where
  -- ---- on the way

  -- The text has that of the sequential run's first entries, of as many as were drained since the start.
  pub record IsToldTo (drained : ℕ) (told : List ℕ) : Type 0 where
    pub front : List Entry
    pub rest : List Entry
    pub entries : sequential_entries app start ≡ front ++ rest
    pub text : told ≡ joined_texts front
    pub count : length front + drained_count start ≡ drained

  -- A run may be told from here: it is sound, nothing is running in it, and no more is logged than has ended.
  pub record IsTellable : Type 0 where
    pub sound : IsSound app start [] (values_of start.cells)
    pub logged : length start.log ≤ start.ended

  -- the text is a front of the sequential run's
  abbrev pub IsFrontTold : List ℕ → Type 0
  IsFrontTold told = (rest : List ℕ) × (sequential_text app start ≡ told ++ rest)

  -- The end of the run, of which this text was told, and the finals have the rest.
  pub record IsToldEnd (told : List ℕ) (finals : Finals V) : Type 0 where
    pub whole : Finals V
    pub end : IsRunEnd app start whole
    pub behind : IsEndBehind told finals whole

  -- ---- what is answered

  -- The end of the run, of which no rounds are counted. The sink took the text that comes before what the finals have of it still: where
  -- no write failed, all of it, and else a front.
  pub record IsStreamEnd (transfer : Transfer) (finals : Finals V) (rounds : ℕ) (failed : Bool) : Type 0 where
    pub whole : Finals V
    pub end : IsRunEnd app start whole
    pub uncounted : rounds ≡ 0
    pub text : List ℕ
    pub behind : IsEndBehind text finals whole
    pub written : IsWritten transfer failed text
    pub all : failed ≡ false → finals.text ≡ []

  -- The run doesn't end within the limit. What was written is a front of the sequential run's text, and the count of the sink's faults
  -- rose just where a write failed.
  pub record IsStreamOver (transfer : Transfer) (created limit : ℕ) (failed : Bool) : Type 0 where
    pub over : IsOverLimit app start created limit
    pub front : TakesFront app start transfer
    pub fault : failed ≡ true → HasFailed transfer
    pub no_fault : failed ≡ false → transfer.faults_after ≡ transfer.faults_before

  -- What a run answers, by what it made of the sink. Want of memory may come at any time, and then too the sink took a front.
  abbrev pub IsFlow : Transfer → Flow V → Type 0
  IsFlow transfer (flow.Ended finals rounds failed) = IsStreamEnd transfer finals rounds failed
  IsFlow transfer (flow.Budget created limit failed) = IsStreamOver transfer created limit failed
  IsFlow transfer flow.NoRoom = TakesFront app start transfer

-- a text, where there is one
abbrev pub text_of : Option (List ℕ) → List ℕ
text_of None = []
text_of (Some text) = text

module _ {V : Type 0} (app : Application V) where
  -- all that may be drained was, and this is its text; or nothing happened
  abbrev pub IsDrain : Progress V → Progress V → Option (List ℕ) → Type 0
  IsDrain old now None = now ≡ old
  IsDrain old now (Some text) = (text ≡ joined_texts (drainable app old.nodes old.log)) × (now ≡ drained app old)

  -- after tasks have ended and others were claimed, and nothing else was done, there was a drain, or nothing
  pub record HasDrainedAt (old : Progress V) (had : List (Job V)) (now : Progress V) (have : List (Job V)) (ended : List Key) (more : Option (List ℕ)) : Type 0 where
    pub before : Progress V
    pub moved : Moved app old had before have ended
    pub count : drained_count before ≡ drained_count old
    pub drain : IsDrain before now more

-- Since this origin, from which all seats together came to that sum, the run goes on, and of its text just what was drained was told to
-- the sink, which was so when it began.
pub record IsStreaming {V K : Type 0} (app : Application V) (known : K → Option (List ℕ)) (faults : K → ℕ) (origin : Progress V) (sum : Sum V) (begin : K) (now : Progress V)
    (outlet : Outlet) (sink : K) : Type 0 where
  pub continues : Continues app origin now sum
  pub tellable : IsTellable app origin
  pub told : IsToldTo app origin (drained_count now) outlet.told
  pub sent : HasTold known faults begin outlet sink outlet.told
