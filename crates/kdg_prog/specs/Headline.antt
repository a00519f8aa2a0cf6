-- What a run promises of its answer, for the words and the input that it is given.
use Rattle.std.specs.Prelude.{ℕ, ◌≡◌, ◌≢◌, ◌+◌, ◌<◌, ◌≤◌, ◌⊎◌, ◌↔◌, List, ◌++◌, length, Result, Err}
use Rattle.std.specs.Io.KnownBytes.{Appends}
use Rattle.kdg_text.specs.declared.fault.Fault.{Fault}
use Rattle.outer_edge.specs.Transfers.{Transfer, HasFailed, BringsMore, BringsAtMost}
use Rattle.outer_edge.specs.Memory.{CleanWriter}
use Rattle.outer_edge.specs.Writing.{AppendsFront}
use Rattle.kdg_prog.specs.declared.status.Status.{Status}
use Rattle.kdg_prog.specs.declared.status.Status.TheVariants as status
use Rattle.kdg_prog.specs.declared.words.Mode.TheVariants.{Serial}
use Rattle.kdg_prog.specs.declared.words.Options.{Options}
use Rattle.kdg_prog.specs.Answer.{Answer, input_fault, over_budget, whole_print, answer_of, log_of, FirstPassesBudget, KeepsOf}
use Rattle.kdg_prog.specs.Bounds.{input_bound}
use Rattle.kdg_prog.specs.Inputs.{Offers, TakesInput}
use Rattle.kdg_prog.specs.Problem.{StreamsRounds}
use Rattle.kdg_prog.specs.Serving.{MayLeaveLog, WritesNothing}
use Rattle.kdg_prog.specs.Status.{status_of_fault}

-- the answer where the words are bad
abbrev pub TellsBadWord : Result Options ℕ → Status → Type 0
TellsBadWord words answer = (word : ℕ) → (answer ≡ status.Usage word) ↔ (words ≡ Err word)

-- a whole input was read, or none where it is made from a number, and this is what it is answered
abbrev pub ReadsInput : Options → Transfer → Answer → Type 0
ReadsInput options source answer = (input : List ℕ) × TakesInput options.big source input × (answer_of options input ≡ answer)

-- a whole input was read, and has the fault that is told
abbrev pub TellsFault : Options → Transfer → Status → Type 0
TellsFault options source answer = (fault : Fault) × ReadsInput options source (input_fault fault) × (answer ≡ status_of_fault fault)

-- more bytes came than an input may have
abbrev pub TellsTooLong : Transfer → Status → Type 0
TellsTooLong source answer = BringsMore input_bound source × (answer ≡ status.TooLarge 0 input_bound)

-- Ok: a whole input was read, and its whole print was written
abbrev pub WritesPrint : Options → Transfer → Transfer → Type 0
WritesPrint options source sink = (bytes : List ℕ) × ReadsInput options source (whole_print bytes) × Appends sink.before sink.after bytes

-- WriteFault: the same, but for a front of the print
abbrev pub WritesFront : Options → Transfer → Transfer → Type 0
WritesFront options source sink = (bytes : List ℕ) × ReadsInput options source (whole_print bytes) × AppendsFront sink.before sink.after bytes

-- NoMemory: nothing was written, or a whole input was read, and a front of its log was written
abbrev pub WritesFrontOfLog : Options → Transfer → Transfer → Type 0
WritesFrontOfLog options source sink = WritesNothing sink ⊎ ((input : List ℕ) × TakesInput options.big source input × AppendsFront sink.before sink.after (log_of options input))

-- Budget: the execution of a whole input creates more tasks than the limit
pub record ExceedsBudget (options : Options) (source sink : Transfer) (created limit : ℕ) : Type 0 where
  pub limit_is : limit ≡ options.budget
  pub above : limit < created
  pub input : List ℕ
  pub read : TakesInput options.big source input
  pub over : answer_of options input ≡ over_budget
  -- in mode serial the number is that of the moment when first there are more
  pub first : options.mode ≡ Serial → FirstPassesBudget options input created
  -- no more than a front of the log was written
  pub front : AppendsFront sink.before sink.after (log_of options input)
  -- in mode rounds, unless a write failed or the input is made from a number, it is just what is kept after the last round within the limit
  pub kept : StreamsRounds options → ¬ HasFailed sink → (text : List ℕ) × KeepsOf options input text × Appends sink.before sink.after text

-- what an answer tells is of an input that is read
abbrev pub TellsOfReading : Status → Type 0
TellsOfReading (status.BadInput line kind) = Unit {0}
TellsOfReading (status.TooLarge line bound) = Unit {0}
TellsOfReading status.ReadFault = Unit {0}
TellsOfReading _ = ⊥

-- what each of the other answers comes of
pub record HasCause (options : Options) (source sink : Transfer) (answer : Status) : Type 0 where
  pub good_words : (word : ℕ) → answer ≢ status.Usage word
  pub bad_input : (line kind : ℕ) → answer ≡ status.BadInput line kind → TellsFault options source answer
  pub too_large : (line bound : ℕ) → answer ≡ status.TooLarge line bound → TellsTooLong source answer ⊎ TellsFault options source answer
  -- no more bytes had come than an input may have
  pub read_fault : answer ≡ status.ReadFault → HasFailed source × BringsAtMost input_bound source
  pub write_fault : answer ≡ status.WriteFault → HasFailed sink
  -- an input that is made from a number has no fault
  pub made : 0 < options.big → ¬ TellsOfReading answer
  -- no failed read goes untold, nor a failed write, but before one of the answers to which a run whose log goes out may go on
  pub reads_told : answer ≢ status.ReadFault → source.faults_after ≡ source.faults_before
  pub writes_told : answer ≢ status.WriteFault → ¬ MayLeaveLog options answer → sink.faults_after ≡ sink.faults_before

-- an input's answer is the run's, but for a failed write of a print
abbrev pub IsAnswered : Options → Transfer → Answer → Status → Type 0
IsAnswered options sink (input_fault fault) answer = answer ≡ status_of_fault fault
IsAnswered options sink over_budget answer = (created : ℕ) × (answer ≡ status.Budget created options.budget)
IsAnswered options sink (whole_print bytes) answer = (answer ≡ status.Ok) ⊎ ((answer ≡ status.WriteFault) × HasFailed sink)

-- where no read fails and memory is there, the input decides the answer
abbrev pub Completes : Options → Transfer → Transfer → Status → Type 0
Completes options source sink answer = ¬ HasFailed source → answer ≢ status.NoMemory →
    (input : List ℕ) → Offers options.big source input →
    (input_bound < length input → answer ≡ status.TooLarge 0 input_bound)
    × (length input ≤ input_bound → IsAnswered options sink (answer_of options input) answer)

-- what a run with these options promises of its answer, by what it made of the source and of the sink
pub record Promises (options : Options) (source sink : Transfer) (answer : Status) : Type 0 where
  pub print : answer ≡ status.Ok → WritesPrint options source sink
  pub budget : (created limit : ℕ) → answer ≡ status.Budget created limit → ExceedsBudget options source sink created limit
  pub causes : HasCause options source sink answer
  pub written : answer ≡ status.WriteFault → WritesFront options source sink
  pub memory : answer ≡ status.NoMemory → WritesFrontOfLog options source sink
  pub complete : Completes options source sink answer

-- over devices in memory that never fail: a print is written whole where there is room for more than it
abbrev pub IsAnsweredInMemory : Options → CleanWriter → CleanWriter → Answer → Status → Type 0
IsAnsweredInMemory options before after (input_fault fault) answer = answer ≡ status_of_fault fault
IsAnsweredInMemory options before after over_budget answer = (created : ℕ) × (answer ≡ status.Budget created options.budget)
IsAnsweredInMemory options before after (whole_print bytes) answer =
    length before.held + length bytes < before.room → (answer ≡ status.Ok) × (after.held ≡ before.held ++ bytes)

-- the answer over such devices, where memory is there
pub record CompletesInMemory (options : Options) (input : List ℕ) (before after : CleanWriter) (answer : Status) : Type 0 where
  pub large : input_bound < length input → answer ≡ status.TooLarge 0 input_bound
  pub small : length input ≤ input_bound → IsAnsweredInMemory options before after (answer_of options input) answer
