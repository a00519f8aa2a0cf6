-- What the refusals of a run's parts become.
use Rattle.std.specs.Prelude.{◌≡◌, ◌≢◌, ◌<◌, ◌⊎◌, ℕ, List, length}
use Rattle.app_laws.specs.declared.serial_run.SerialFault.{SerialFault}
use Rattle.app_laws.specs.declared.serial_run.SerialFault.TheVariants as serial
use Rattle.kdg_text.specs.declared.fault.Fault.{Fault}
use Rattle.kdg_text.specs.declared.fault.ReadFail.{ReadFail}
use Rattle.kdg_text.specs.declared.fault.ReadFail.TheVariants as reader
use Rattle.graph_update.specs.declared.answers.BeginFault.{BeginFault}
use Rattle.graph_update.specs.declared.answers.BeginFault.TheVariants as begin
use Rattle.crew.specs.declared.answers.OverCause.{OverCause}
use Rattle.crew.specs.declared.answers.OverCause.TheVariants as rounds
use Rattle.outer_edge.specs.declared.whole_input.ReadAllFault.{ReadAllFault}
use Rattle.outer_edge.specs.declared.whole_input.ReadAllFault.TheVariants as input
use Rattle.kdg_prog.specs.declared.status.Status.{Status}
use Rattle.kdg_prog.specs.declared.status.Status.TheVariants as status
use Rattle.kdg_prog.specs.declared.words.Mode.TheVariants.{Serial}
use Rattle.kdg_prog.specs.declared.words.Options.{Options}
use Rattle.kdg_prog.specs.declared.words.Command.{Command}
use Rattle.kdg_prog.specs.Problem.{Problem, Answer, input_fault, over_budget, answer_by, FirstPassesIn}
use Rattle.kdg_prog.specs.Answer.{answer_for, FirstPassesFor}
use Rattle.kdg_prog.specs.Bounds.{input_bound}
use Rattle.kdg_prog.specs.Status.{status_of_fault}

abbrev pub AnswersRead : ReadAllFault → Status → Type 0
AnswersRead input.ReadFault answer = answer ≡ status.ReadFault
AnswersRead input.TooLarge answer = answer ≡ status.TooLarge 0 input_bound
AnswersRead input.NoRoom answer = answer ≡ status.NoMemory

abbrev pub AnswersReader : ReadFail → Status → Type 0
AnswersReader (reader.Bad fault) answer = answer ≡ status_of_fault fault
AnswersReader reader.NoRoom answer = answer ≡ status.NoMemory

abbrev pub AnswersSerial : SerialFault → Status → Type 0
AnswersSerial (serial.Budget created limit) answer = answer ≡ status.Budget created limit
AnswersSerial serial.NoRoom answer = answer ≡ status.NoMemory

abbrev pub AnswersBegin : BeginFault → Status → Type 0
AnswersBegin (begin.Budget asked limit) answer = answer ≡ status.Budget asked limit
AnswersBegin begin.NoRoom answer = answer ≡ status.NoMemory

abbrev pub AnswersRounds : OverCause → Status → Type 0
AnswersRounds (rounds.Budget created limit) answer = answer ≡ status.Budget created limit
AnswersRounds rounds.NoRoom answer = answer ≡ status.NoMemory

-- a fault of the input
abbrev pub IsInputFault : Answer → Status → Type 0
IsInputFault is answer = (fault : Fault) × (is ≡ input_fault fault) × (answer ≡ status_of_fault fault)

-- more tasks than the budget, in mode serial with their number when first there are more
pub record IsBudgetFault (is : Answer) (First : ℕ → Type 0) (options : Options) (answer : Status) : Type 0 where
  pub created : ℕ
  pub told : answer ≡ status.Budget created options.budget
  pub above : options.budget < created
  pub over : is ≡ over_budget
  pub first : options.mode ≡ Serial → First created

-- why there is no print where this is answered; want of memory may come at any time
abbrev pub IsRefusalBy : Answer → (ℕ → Type 0) → Options → Status → Type 0
IsRefusalBy is First options answer = IsInputFault is answer ⊎ (IsBudgetFault is First options answer ⊎ (answer ≡ status.NoMemory))

-- why a run of a problem gives no print
abbrev pub IsRunRefusal : {V : Type 0} → Options → Problem V → Status → Type 0
IsRunRefusal options problem = IsRefusalBy (answer_by options problem) (FirstPassesIn options problem) options

-- why there is no print for an input of a command
abbrev pub IsRefusalFor : Command → Options → List ℕ → Status → Type 0
IsRefusalFor command options input = IsRefusalBy (answer_for command options input) (FirstPassesFor command options input) options

-- why there is no print for an input
abbrev pub IsRefusal : Options → List ℕ → Status → Type 0
IsRefusal options input = IsRefusalFor options.command options input

-- Budget comes before anything has acted
abbrev pub IsAtStart : {V : Type 0} → Options → Problem V → Status → Type 0
IsAtStart options problem answer = (created limit : ℕ) → answer ≡ status.Budget created limit → options.budget < length problem.tasks

-- no task was ever counted
abbrev pub IsBeforeStart : Status → Type 0
IsBeforeStart answer = (created limit : ℕ) → answer ≢ status.Budget created limit
