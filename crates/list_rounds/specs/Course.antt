-- How far the parts of a run have come since its start.
use Rattle.std.specs.Prelude.{◌≡◌, ◌≤◌, ◌+◌, ℕ, List, [], ◌∷◌, ◌++◌, length}
use Rattle.task_order.specs.declared.task.Task.{Task}
use Rattle.task_order.specs.Key.{at_key, end}
use Rattle.cell_store.specs.Values.{homes, values_of}
use Rattle.output_log.specs.Entries.{Entry, entries_before, entries_from, joined_texts}
use Rattle.app_laws.specs.Applications.{Application}
use Rattle.app_laws.specs.Execution.{Execution}
use Rattle.commuting.specs.Commuting.{AreClear, BothEnd}
use Rattle.commuting.specs.Rounds.{TakesRounds}
use Rattle.commuting.specs.Standing.{ComeBefore, StandsFor}
use Rattle.commuting.specs.States.{State, after_tasks, run_from, state_of}
use Rattle.list_rounds.specs.declared.parts.RunParts.{RunParts}
use Rattle.list_rounds.specs.Rounds.{most_tasks}

-- the state that the parts make
abbrev pub state_in : {V : Type 0} → RunParts V → State V
state_in parts = state_of (values_of parts.store) parts.pending

-- the entries that are earlier than every pending task
abbrev pub drainable : List Task → List Entry → List Entry
drainable [] log = log
drainable (first ∷ tasks) log = entries_before (at_key first.key) log

-- the entries that are not
abbrev pub undrainable : List Task → List Entry → List Entry
undrainable [] log = []
undrainable (first ∷ tasks) log = entries_from (at_key first.key) log

-- a drain: the texts of the entries that are earlier than every pending task go from the log to the end of the text
pub record IsDrained {V : Type 0} (old now : RunParts V) : Type 0 where
  pub store : now.store ≡ old.store
  pub pending : now.pending ≡ old.pending
  pub ended : now.ended ≡ old.ended
  pub text : now.text ≡ old.text ++ joined_texts (drainable old.pending old.log.entries)
  pub log : now.log.entries ≡ undrainable old.pending old.log.entries

-- an execution has the cells of another one at the end, and behind this text and this many tasks its texts and its tasks
pub record IsEndBehind {V : Type 0} (ended : ℕ) (text : List ℕ) (e last : Execution V) : Type 0 where
  pub cells_are : e.cells ≡ last.cells
  pub text_is : joined_texts e.log ≡ text ++ joined_texts last.log
  pub count_is : length e.log ≡ ended + length last.log

module _ {V : Type 0} (app : Application V) (start : State V) where
  -- once `ended` tasks have ended, with this text, what is left of the execution from the start comes to what the one from here does
  abbrev pub GoesOnFrom : ℕ → List ℕ → State V → Type 0
  GoesOnFrom ended text here = (limit : ℕ) → BothEnd (IsEndBehind ended text) (run_from app.act (ended + limit) end start) (run_from app.act limit end here)

  -- All cells are home. The pending tasks descend from those of an origin, the start or where paths were last made short, from where
  -- the execution goes on. What was drained since, which is earlier than all that is pending, and what the log has still are the
  -- entries of the tasks that have ended since; with these the state stands for the rest of the execution from there.
  pub record IsOnCourse (parts : RunParts V) : Type 0 where
    pub origin : State V
    pub ended_before : ℕ
    pub text_before : List ℕ
    pub from_origin : GoesOnFrom ended_before text_before origin
    pub drained : List Entry
    pub home : parts.store ≡ homes (values_of parts.store)
    pub stands : StandsFor app origin (drained ++ parts.log.entries) (state_in parts)
    pub earlier : ComeBefore drained parts.pending
    pub text_is : parts.text ≡ text_before ++ joined_texts drained
    pub ended_is : parts.ended ≡ ended_before + length (drained ++ parts.log.entries)

  -- this number of whole rounds, each of which had a task, led from the start to the parts, within the limit
  pub record HasCome (limit rounds : ℕ) (parts : RunParts V) : Type 0 where
    pub course : IsOnCourse parts
    pub goes_on : (more : ℕ) → TakesRounds app more (state_in parts) → TakesRounds app (rounds + more) start
    pub some_each : rounds ≤ parts.ended
    pub within : parts.ended + length parts.pending ≤ limit
    pub limited : limit ≤ most_tasks

  -- in a round, these clear tasks are left, and once they have acted the state is the target
  pub record IsActing (limit : ℕ) (target : State V) (parts : RunParts V) (left : List Task) : Type 0 where
    pub course : IsOnCourse parts
    pub clear : AreClear app (state_in parts) left
    pub leads : after_tasks app.act left (state_in parts) ≡ target
    pub within : parts.ended + length parts.pending ≤ limit
