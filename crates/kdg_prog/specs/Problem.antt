-- What a run of any application needs, and what it is answered.
use Rattle.std.specs.Prelude.{◌≡◌, ◌<◌, ◌⊎◌, ℕ, List, [], ◌++◌, ◌&&◌, ◌==◌, Bool, true, false, if◌then◌else◌, length, count_by, codes, Option, Some, None, Result, Ok, Err, IfOk}
use Rattle.std.specs.Fmt.{decimal}
use Rattle.kdg_text.specs.declared.fault.Fault.{Fault}
use Rattle.cell_store.specs.Values.{values_of}
use Rattle.output_log.specs.Entries.{joined_texts}
use Rattle.task_order.specs.declared.start.Start.{Start}
use Rattle.task_order.specs.TaskList.{put_all}
use Rattle.app_laws.specs.declared.serial_run.Finals.{Finals}
use Rattle.app_laws.specs.Applications.{Application}
use Rattle.app_laws.specs.Execution.{Execution, after_steps, first_from, run_to_end, start_of}
use Rattle.app_laws.specs.Serial.{FirstPasses}
use Rattle.commuting.specs.States.{State, state_of}
use Rattle.source_pool.specs.Kept.{IsKeptAfter, IsLastRound}
use Rattle.kdg_prog.specs.declared.words.Mode.{Mode}
use Rattle.kdg_prog.specs.declared.words.Mode.TheVariants.{Rounds, Free, Marks}
use Rattle.kdg_prog.specs.declared.words.Options.{Options}
use Rattle.kdg_prog.specs.RoundCount.{rounds_within}
use Rattle.kdg_prog.specs.Words.{word_of}

-- a fault of the input, that its execution creates more tasks than the budget, or what is printed
pub data Answer : Type 0 where
  input_fault : Fault → Answer
  over_budget : Answer
  whole_print : List ℕ → Answer

-- the cells and the tasks at the start, and the text that the cells give at the end
pub record Setting (V : Type 0) : Type 0 where
  pub cells : List V
  pub tasks : List Start
  pub finals : List V → List ℕ

-- a setting, with the application
pub record Problem (V : Type 0) : Type 1 where
  pub app : Application V
  pub cells : List V
  pub tasks : List Start
  pub finals : List V → List ℕ

abbrev pub problem_of : {V : Type 0} → Application V → Setting V → Problem V
problem_of app setting = record { app = app; cells = setting.cells; tasks = setting.tasks; finals = setting.finals }

-- a word and a number
abbrev pub figure_line : List ℕ → ℕ → List ℕ
figure_line word number = word ++ decimal number ++ codes "\n"

-- tasks N
abbrev pub tasks_line : ℕ → List ℕ
tasks_line count = figure_line (codes "tasks ") count

-- rounds N, where their number is told
abbrev pub rounds_text : Option ℕ → List ℕ
rounds_text None = []
rounds_text (Some rounds) = figure_line (codes "rounds ") rounds

-- how many lines a text has, each of which ends with a line feed
abbrev pub line_count : List ℕ → ℕ
line_count text = count_by (λ byte. byte == 10) text

-- the texts of the log, then the finals, then the number of tasks
abbrev pub whole_text : List ℕ → List ℕ → ℕ → List ℕ
whole_text log finals count = log ++ finals ++ tasks_line count

-- big KIND N
abbrev pub made_from : Options → List ℕ
made_from options = codes "big " ++ word_of options.command ++ figure_line (codes " ") options.big

-- what is told in place of a whole text: what it was made from, the log's lines, its bytes and the tasks
abbrev pub figures_of : Options → List ℕ → List ℕ → ℕ → List ℕ
figures_of options log whole count =
    made_from options
    ++ figure_line (codes "log ") (line_count log)
    ++ figure_line (codes "bytes ") (length whole)
    ++ tasks_line count

-- the whole text, but only its figures where the input is made from a number
abbrev pub text_shown : Options → List ℕ → List ℕ → ℕ → List ℕ
text_shown options log finals count =
    if options.big == 0 then whole_text log finals count
    else figures_of options log (whole_text log finals count) count

abbrev pub is_in_rounds : Mode → Bool
is_in_rounds Rounds = true
is_in_rounds Marks = true
is_in_rounds mode = false

-- a number of rounds, where it is told: in modes rounds and marks, where figures are asked for
abbrev pub rounds_shown : Options → ℕ → Option ℕ
rounds_shown options rounds = if options.stats && is_in_rounds options.mode then Some rounds else None

-- the modes in which a run may write its log while it goes on
abbrev pub is_streamed : Mode → Bool
is_streamed Rounds = true
is_streamed Free = true
is_streamed mode = false

-- the log may go out while the run goes on; else all is written at the end
abbrev pub MayStream : Options → Type 0
MayStream options = (is_streamed options.mode ≡ true) × (options.big ≡ 0)

-- it may go out between two rounds
abbrev pub StreamsRounds : Options → Type 0
StreamsRounds options = (options.mode ≡ Rounds) × (options.big ≡ 0)

module _ {V : Type 0} (problem : Problem V) where
  -- the execution before anything has acted
  abbrev pub start_for : Execution V
  start_for = start_of problem.cells problem.tasks

  -- its cells and pending tasks
  abbrev pub first_state : State V
  first_state = state_of problem.cells (put_all (first_from 0 problem.tasks) [])

  -- the whole text or its figures, and the number of rounds where it is told
  abbrev pub print_of : Options → Option ℕ → Execution V → List ℕ
  print_of options told end = text_shown options (joined_texts end.log) (problem.finals end.cells) (length end.log) ++ rounds_text told

  -- the print of what a run leaves
  abbrev pub print_of_finals : Options → Option ℕ → Finals V → List ℕ
  print_of_finals options told finals = text_shown options finals.text (problem.finals (values_of finals.store)) finals.count ++ rounds_text told

  -- by the end of the execution, where there is one
  abbrev pub answer_by_end : Options → Option ℕ → Option (Execution V) → Answer
  answer_by_end options told None = over_budget
  answer_by_end options told (Some end) = whole_print (print_of options told end)

module _ {V : Type 0} (options : Options) (problem : Problem V) where
  -- the execution to its end, where it creates no more tasks than the budget
  abbrev pub end_of : Option (Execution V)
  end_of = run_to_end problem.app.act options.budget (start_for problem)

  -- how many rounds it takes; an execution that ends takes no more of them than the budget
  abbrev pub rounds_of : ℕ
  rounds_of = rounds_within problem.app options.budget (first_state problem)

  -- their number, where it is told
  abbrev pub rounds_told : Option ℕ
  rounds_told = rounds_shown options rounds_of

  -- what the run is answered
  abbrev pub answer_by : Answer
  answer_by = answer_by_end problem options rounds_told end_of

  -- this many tasks have been created when first there are more than the budget
  abbrev pub FirstPassesIn : ℕ → Type 0
  FirstPassesIn created = FirstPasses problem.app.act options.budget (start_for problem) created

  -- the texts of the first tasks of the sequential execution, as many as the budget, or of all where there are fewer
  abbrev pub log_within : List ℕ
  log_within = joined_texts (after_steps problem.app.act options.budget (start_for problem)).log

  -- what is kept after the last round within the budget: the texts of the tasks that have acted and are earlier than each pending one
  pub record IsLastKept (text : List ℕ) : Type 0 where
    pub rounds : ℕ
    pub state : State V
    pub keeps : IsKeptAfter problem.app options.budget [] (first_state problem) rounds state text
    pub last : IsLastRound problem.app options.budget (first_state problem) rounds state

  -- what is kept, or nothing where the first tasks alone are more than the budget
  abbrev pub KeepsText : List ℕ → Type 0
  KeepsText text = ((options.budget < length problem.tasks) × (text ≡ [])) ⊎ IsLastKept text

-- the answer for what an input describes, where it has no fault
module _ {D V : Type 0} (problem : D → Problem V) (options : Options) where
  abbrev pub answer_read : Result D Fault → Answer
  answer_read (Err fault) = input_fault fault
  answer_read (Ok described) = answer_by options (problem described)

  abbrev pub FirstPassesRead : Result D Fault → ℕ → Type 0
  FirstPassesRead found created = IfOk found (λ described. FirstPassesIn options (problem described) created)

  abbrev pub log_read : Result D Fault → List ℕ
  log_read (Err fault) = []
  log_read (Ok described) = log_within options (problem described)

  abbrev pub KeepsRead : Result D Fault → List ℕ → Type 0
  KeepsRead (Err fault) text = text ≡ []
  KeepsRead (Ok described) text = KeepsText options (problem described) text
