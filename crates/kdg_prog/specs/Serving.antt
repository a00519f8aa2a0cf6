-- What a run makes of the sink that takes its print.
use Rattle.std.specs.Prelude.{◌≡◌, ℕ, Bool, true, false, List, [], ◌⊎◌, Result, Ok, Err}
use Rattle.std.specs.Io.KnownBytes.{Appends}
use Rattle.app_laws.specs.Serial.{IsRun}
use Rattle.app_laws.specs.declared.serial_run.Finals.{Finals}
use Rattle.cell_store.specs.Values.{AreAllHome, values_of}
use Rattle.app_laws.specs.Applications.{Application}
use Rattle.outer_edge.specs.Transfers.{Transfer, HasFailed}
use Rattle.outer_edge.specs.Writing.{AppendsFront}
use Rattle.source_pool.specs.declared.flow.Flow.{Flow}
use Rattle.source_pool.specs.declared.flow.Flow.TheVariants as flow
use Rattle.source_pool.specs.Legs.{IsEndBehind}
use Rattle.kdg_prog.specs.declared.status.Status.{Status}
use Rattle.kdg_prog.specs.declared.status.Status.TheVariants as status
use Rattle.kdg_prog.specs.declared.words.Command.{Command}
use Rattle.kdg_prog.specs.declared.words.Options.{Options}
use Rattle.kdg_prog.specs.Answer.{Answer, whole_print, answer_for, log_for, FirstPassesFor, KeepsFor}
use Rattle.kdg_prog.specs.Problem.{Problem, MayStream, StreamsRounds, answer_by, log_within, rounds_shown, rounds_told, start_for, FirstPassesIn, KeepsText}
use Rattle.kdg_prog.specs.Refusals.{IsRefusalBy, IsRunRefusal}

-- answers before which some of the log may have gone out, and which a failed write of it doesn't keep from coming
abbrev pub MayLeaveLog : Options → Status → Type 0
MayLeaveLog options (status.Budget created limit) = MayStream options
MayLeaveLog options status.NoMemory = MayStream options
MayLeaveLog options answer = ⊥

-- no byte was written
abbrev pub WritesNothing : Transfer → Type 0
WritesNothing sink = Appends sink.before sink.after []

-- Where a run ends without a print, a front of the log may have been written. Where it ends over the budget in rounds and no write
-- has failed, it is just what is kept.
pub record LeavesLog (log : List ℕ) (Keeps : List ℕ → Type 0) (options : Options) (sink : Transfer) (answer : Status) : Type 0 where
  pub front : AppendsFront sink.before sink.after log
  pub kept : (created limit : ℕ) → answer ≡ status.Budget created limit → StreamsRounds options → ¬ HasFailed sink →
      (text : List ℕ) × Keeps text × Appends sink.before sink.after text
  pub told : ¬ MayLeaveLog options answer → sink.faults_after ≡ sink.faults_before

-- the whole print was written, and no write failed
abbrev pub IsWhole : Answer → Transfer → Type 0
IsWhole is sink = (bytes : List ℕ) × (is ≡ whole_print bytes) × Appends sink.before sink.after bytes × (sink.faults_after ≡ sink.faults_before)

-- a write failed, and a front of the print was written
abbrev pub IsCut : Answer → Transfer → Type 0
IsCut is sink = (bytes : List ℕ) × (is ≡ whole_print bytes) × AppendsFront sink.before sink.after bytes × HasFailed sink

-- the print was written whole, or cut, or there is none
abbrev pub IsServedBy : {T : Type 0} → Answer → (ℕ → Type 0) → List ℕ → (List ℕ → Type 0) → Options → Transfer → Result T Status → Type 0
IsServedBy is First log Keeps options sink (Ok done) = IsWhole is sink
IsServedBy is First log Keeps options sink (Err answer) =
    (IsCut is sink × (answer ≡ status.WriteFault)) ⊎ (IsRefusalBy is First options answer × LeavesLog log Keeps options sink answer)

-- what a run of a problem makes of the sink
abbrev pub IsRunServed : {V T : Type 0} → Options → Problem V → Transfer → Result T Status → Type 0
IsRunServed options problem = IsServedBy (answer_by options problem) (FirstPassesIn options problem) (log_within options problem) (KeepsText options problem) options

-- and a run of an input of a command
abbrev pub IsServedFor : {T : Type 0} → Command → Options → List ℕ → Transfer → Result T Status → Type 0
IsServedFor command options input = IsServedBy (answer_for command options input) (FirstPassesFor command options input) (log_for command options input) (KeepsFor command options input) options

-- and a run of an input
abbrev pub IsServed : {T : Type 0} → Options → List ℕ → Transfer → Result T Status → Type 0
IsServed options input = IsServedFor options.command options input

-- ---- where the log has gone out while the run went on

module _ {V : Type 0} (options : Options) (problem : Problem V) (sink : Transfer) where
  -- The end of the run. The sink took the text that comes before what the finals have of the log still: where no write failed, all of
  -- it, and else a front.
  pub record IsStreamEnd (finals : Finals V) (rounds : ℕ) (failed : Bool) : Type 0 where
    pub whole : Finals V
    pub run : IsRun problem.app.act options.budget (start_for problem) whole
    pub told : rounds_told options problem ≡ rounds_shown options rounds
    pub text : List ℕ
    pub behind : IsEndBehind text finals whole
    pub all : failed ≡ false → (finals.text ≡ []) × Appends sink.before sink.after text × (sink.faults_after ≡ sink.faults_before)
    pub cut : failed ≡ true → HasFailed sink × AppendsFront sink.before sink.after text

  -- there is no print, and this is left of the log
  abbrev pub LeavesRunLog : Status → Type 0
  LeavesRunLog answer = LeavesLog (log_within options problem) (KeepsText options problem) options sink answer

  -- what a run comes to, by what it made of the sink
  abbrev pub IsStreamed : Flow V → Type 0
  IsStreamed (flow.Ended finals rounds failed) = IsStreamEnd finals rounds failed
  IsStreamed (flow.Budget created limit failed) = IsRunRefusal options problem (status.Budget created limit) × LeavesRunLog (status.Budget created limit)
  IsStreamed flow.NoRoom = LeavesRunLog status.NoMemory

-- the cells of a run that has ended are home, and the application's
abbrev pub IsHomeFlow : {V : Type 0} → Application V → Flow V → Type 0
IsHomeFlow app (flow.Ended finals rounds failed) = AreAllHome finals.store × app.is_fit_cells (values_of finals.store)
IsHomeFlow app (flow.Budget created limit failed) = Unit {0}
IsHomeFlow app flow.NoRoom = Unit {0}

-- ---- where it is written at once

-- what a print, or why there is none, makes of the sink
abbrev pub IsWritten : {T : Type 0} → Result (List ℕ) Status → Transfer → Result T Status → Type 0
IsWritten (Ok bytes) sink (Ok done) = Appends sink.before sink.after bytes × (sink.faults_after ≡ sink.faults_before)
IsWritten (Ok bytes) sink (Err answer) = AppendsFront sink.before sink.after bytes × HasFailed sink × (answer ≡ status.WriteFault)
IsWritten (Err refusal) sink (Ok done) = ⊥
IsWritten (Err refusal) sink (Err answer) = WritesNothing sink × (sink.faults_after ≡ sink.faults_before) × (answer ≡ refusal)
