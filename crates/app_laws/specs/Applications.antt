-- What an ordered application means to those who execute it, and what is asked of it.
use Rattle.std.specs.Prelude.{◌≡◌, ◌≢◌, ℕ, ◌<◌, ◌≤◌, ◌^◌, List, [], ◌∷◌, ◌++◌, length, map, slice_get, Bool, true, IsSome, IsFalse}
use Rattle.std.specs.List.{AllByRecursion, filter}
use Rattle.std.specs.declared.cmp.Ordering.TheVariants.{Less}
use Rattle.task_order.specs.declared.start.Start.{Start}
use Rattle.task_order.specs.declared.task.Body.{Body}
use Rattle.task_order.specs.declared.task.Task.{Task}
use Rattle.task_order.specs.Key.{key_cmp}
use Rattle.task_order.specs.TaskList.{IsAscending, put_all}
pub use Rattle.task_order.specs.TaskList.{tasks_before}
use Rattle.rw_sets.specs.Accesses.{Accesses, access_at, writes, merged, Conflicts, IsWithin, IsAscending as IsSet}
use Rattle.cell_store.specs.declared.cell.Cell.{Cell}
use Rattle.cell_store.specs.declared.cell.Cell.TheVariants.{Out}
use Rattle.cell_store.specs.Part.{Part}
use Rattle.cell_store.specs.Cells.{AreHome, cell_at, part_of, cells_taken, cells_given}
use Rattle.cell_store.specs.Values.{homes}
pub use Rattle.cell_store.specs.Values.{AgreesWith}
use Rattle.app_laws.specs.declared.child.Child.{Child}
use Rattle.app_laws.specs.declared.app.Effect.{Effect}
use Rattle.app_laws.specs.declared.app.SetAnswer.{SetAnswer}
use Rattle.app_laws.specs.declared.app.SetAnswer.TheVariants as answer
use Rattle.app_laws.specs.Execution.{Operator, Outcome, children_from}
use Rattle.app_laws.specs.Names.{HaveNames, IsNaming, renamed, with_path}

-- an application: how many cells it works on, which lists of values are its cells, which pairs of a priority and a body
-- are its tasks, the set that a body declares in the cells, what finding that set out needs of cells that may be out, what a
-- task does, and whether a task may run although these earlier ones are pending
pub record Application (V : Type 0) : Type 1 where
  pub count : ℕ
  pub is_fit_cells : List V → Type 0
  pub is_fit_task : ℕ → Body → Type 0
  pub set_of : Body → List V → Accesses
  pub walk : Body → List (Cell V) → SetAnswer
  pub act : Operator V
  pub is_safe : Task → List Task → Bool

-- both lists have the same values at the locations of the set
abbrev pub AgreeOn : {V : Type 0} → Accesses → List V → List V → Type 0
AgreeOn set cells others = (loc : ℕ) → IsSome (access_at set loc) → slice_get cells loc ≡ slice_get others loc

-- whether a text is whole lines, each ended by a line feed
abbrev pub IsWholeLines : List ℕ → Type 0
IsWholeLines [] = Unit {0}
IsWholeLines (byte ∷ []) = byte ≡ 10
IsWholeLines (byte ∷ next ∷ text) = IsWholeLines (next ∷ text)

-- the children without their sets
abbrev pub starts_of : List Child → List Start
starts_of children = map (λ child. record { prio = child.prio; body = child.body }) children

-- what is so of tasks is so of them under names in the same order
abbrev pub IgnoresNames : (List Task → Type 0) → Type 0
IgnoresNames IsSo = (tasks : List Task) (name : List ℕ → List ℕ) (has_name : List ℕ → Bool) → IsNaming name has_name →
    HaveNames has_name tasks → IsSo tasks → IsSo (map (renamed name) tasks)

module _ {V : Type 0} (app : Application V) where
  abbrev pub IsFitTask : Task → Type 0
  IsFitTask task = app.is_fit_task task.key.prio task.body

  abbrev pub AreFitTasks : List Task → Type 0
  AreFitTasks tasks = AllByRecursion IsFitTask tasks

  abbrev pub AreFitStarts : List Start → Type 0
  AreFitStarts starts = AllByRecursion (λ start. app.is_fit_task start.prio start.body) starts

  -- the declared set of a task
  abbrev pub set_in : List V → Task → Accesses
  set_in cells task = app.set_of task.body cells

  -- a child as it is handed over: with the set that it declares in the cells after its parent
  abbrev pub handed : List V → Start → Child
  handed cells child = record { prio = child.prio; body = child.body; set = app.set_of child.body cells }

  -- what a task's operator makes of the part of the cells that the task's set names
  abbrev pub effect_of : Task → List V → Effect V
  effect_of task cells = let outcome = app.act task cells in record {
    bundle = part_of (homes outcome.cells) (set_in cells task);
    children = map (handed outcome.cells) outcome.children;
    text = outcome.text;
  }

  -- the bundle is what the task takes of cells of the application
  pub record IsTaken (task : Task) (bundle : Part V) : Type 0 where
    pub cells : List V
    pub fit : app.is_fit_cells cells
    pub is : bundle ≡ part_of (homes cells) (set_in cells task)

  -- the effect is what the operator makes of all cells of the application of which the task takes this bundle
  abbrev pub IsEffect : Task → Part V → Effect V → Type 0
  IsEffect task bundle effect = (cells : List V) → app.is_fit_cells cells → bundle ≡ part_of (homes cells) (set_in cells task) → effect ≡ effect_of task cells

  -- the cells of the set are home among these, and are cells that the task takes
  pub record IsReady (task : Task) (cells : List (Cell V)) (set : Accesses) : Type 0 where
    pub home : AreHome cells set
    pub taken : IsTaken task (part_of cells set)

  -- these children and this text are what the task makes of the part of the old cells that the set names, and the new cells
  -- are the old ones where that part was taken and is given back as the task leaves it
  pub record IsDoneAtHome (task : Task) (set : Accesses) (old : List (Cell V)) (children : List Child) (text : List ℕ) (new : List (Cell V)) : Type 0 where
    pub bundle : Part V
    pub effect : IsEffect task (part_of old set) (record { bundle = bundle; children = children; text = text })
    pub given : new ≡ cells_given (cells_taken old set) bundle

  -- in some cells of the application none of the earlier tasks conflicts with the task
  pub record IsSource (task : Task) (earlier : List Task) : Type 0 where
    pub cells : List V
    pub fit : app.is_fit_cells cells
    pub apart : AllByRecursion (λ other. ¬ Conflicts (set_in cells other) (set_in cells task)) earlier

  -- whatever the cells, these are those of the tasks that write each location
  abbrev pub AreWriters : (ℕ → List Task) → List Task → Type 0
  AreWriters writers tasks = (cells : List V) (loc : ℕ) → app.is_fit_cells cells → writers loc ≡ filter (λ task. writes (set_in cells task) loc) tasks

  -- Laws. Each speaks of the application's own cells and tasks alone.

  -- a list of the application's cells has one value for each location
  abbrev pub CellsAreCounted : Type 0
  CellsAreCounted = (cells : List V) → app.is_fit_cells cells → length cells ≡ app.count

  -- a declared set names locations of the application, in ascending order
  pub record IsInRange (set : Accesses) : Type 0 where
    pub ascending : IsSet set
    pub below : (loc : ℕ) → IsSome (access_at set loc) → loc < app.count

  abbrev pub SetsAreInRange : Type 0
  SetsAreInRange = (task : Task) (cells : List V) → app.is_fit_cells cells → IsFitTask task → IsInRange (set_in cells task)

  -- what a task makes of cells is cells of the application, fewer than 2^32 children that are its tasks, and whole lines
  pub record IsFitOutcome (outcome : Outcome V) : Type 0 where
    pub cells : app.is_fit_cells outcome.cells
    pub children : AreFitStarts outcome.children
    pub few : length outcome.children < 2 ^ 32
    pub lines : IsWholeLines outcome.text

  abbrev pub ActsAreFit : Type 0
  ActsAreFit = (task : Task) (cells : List V) → app.is_fit_cells cells → IsFitTask task → IsFitOutcome (app.act task cells)

  -- a set depends on nothing but the cells that it names
  abbrev pub SetsAreLocal : Type 0
  SetsAreLocal = (task : Task) (cells others : List V) → app.is_fit_cells cells → app.is_fit_cells others → IsFitTask task →
      AgreeOn (set_in cells task) cells others → set_in others task ≡ set_in cells task

  -- two outcomes of a task with this set: the values at its locations, the children and the texts are the same
  pub record IsSameOutcome (set : Accesses) (outcome other : Outcome V) : Type 0 where
    pub cells : AgreeOn set outcome.cells other.cells
    pub children : outcome.children ≡ other.children
    pub text : outcome.text ≡ other.text

  -- a task changes what its set writes and nothing else, and what it does depends on nothing but the cells of its set
  pub record ActsAreLocal : Type 0 where
    pub unchanged : (task : Task) (cells : List V) → app.is_fit_cells cells → IsFitTask task → (loc : ℕ) →
        IsFalse (writes (set_in cells task) loc) → slice_get (app.act task cells).cells loc ≡ slice_get cells loc
    pub determined : (task : Task) (cells others : List V) → app.is_fit_cells cells → app.is_fit_cells others → IsFitTask task →
        AgreeOn (set_in cells task) cells others → IsSameOutcome (set_in cells task) (app.act task cells) (app.act task others)

  -- whatever a task's path is, it does the same
  abbrev pub ActsIgnorePaths : Type 0
  ActsIgnorePaths = (task : Task) (path : List ℕ) (cells : List V) → app.is_fit_cells cells → IsFitTask task → app.act (with_path path task) cells ≡ app.act task cells

  -- no child is earlier than its parent
  abbrev pub ChildrenComeNoEarlier : Type 0
  ChildrenComeNoEarlier = (task : Task) (cells : List V) → app.is_fit_cells cells → IsFitTask task →
      AllByRecursion (λ child. task.key.prio ≤ child.prio) (app.act task cells).children

  -- the set of one task moves only within the merge of its own and another's when that other acts
  abbrev pub SetsStayWithin : Type 0
  SetsStayWithin = (task other : Task) (cells : List V) → app.is_fit_cells cells → IsFitTask task → IsFitTask other →
      other.key ≢ task.key →
      IsWithin (set_in (app.act task cells).cells other) (merged (set_in cells other) (set_in cells task))

  -- a walk over cells that agree with the application's finds the declared set, or stops at a cell that is out and that this set names
  abbrev pub IsTrueAnswer : Accesses → List (Cell V) → SetAnswer → Type 0
  IsTrueAnswer set cells (answer.Known found) = found ≡ set
  IsTrueAnswer set cells (answer.Out loc) = (cell_at cells loc ≡ Out) × IsSome (access_at set loc)

  abbrev pub WalksAreTrue : Type 0
  WalksAreTrue = (task : Task) (cells : List (Cell V)) (values : List V) → app.is_fit_cells values → IsFitTask task →
      AgreesWith cells values → IsTrueAnswer (set_in values task) cells (app.walk task.body cells)

  -- sets are fixed: a walk finds the declared set, whatever the cells hold
  abbrev pub FixedSetsAreKnown : Type 0
  FixedSetsAreKnown = (task : Task) (cells : List (Cell V)) (values : List V) → app.is_fit_cells values → IsFitTask task →
      app.walk task.body cells ≡ answer.Known (set_in values task)

  -- where nothing earlier is pending, each task is safe
  abbrev pub IsSafeAlone : Type 0
  IsSafeAlone = (task : Task) → IsFitTask task → app.is_safe task [] ≡ true

  -- under names in the same order a task is as safe
  abbrev pub SafetyIgnoresPaths : Type 0
  SafetyIgnoresPaths = (task : Task) (earlier : List Task) (name : List ℕ → List ℕ) (has_name : List ℕ → Bool) → IsNaming name has_name →
      HaveNames has_name (task ∷ earlier) → IsFitTask task → AreFitTasks earlier →
      app.is_safe (renamed name task) (map (renamed name) earlier) ≡ app.is_safe task earlier

  -- none of the children conflicts with the task, and it is safe against them and the other earlier tasks
  pub record StaysSafe (task : Task) (children others : List Task) (cells : List V) : Type 0 where
    pub apart : AllByRecursion (λ child. ¬ Conflicts (set_in cells child) (set_in cells task)) children
    pub safe : app.is_safe task (put_all children others) ≡ true

  -- where one of the earlier tasks acts, which a safe task doesn't conflict with, that task stays safe against those that are earlier then
  abbrev pub SafeTasksStaySafe : Type 0
  SafeTasksStaySafe = (task acted : Task) (before after : List Task) (cells : List V) → app.is_fit_cells cells → IsFitTask task →
      AreFitTasks (before ++ acted ∷ after) → IsAscending (before ++ acted ∷ after) →
      AllByRecursion (λ other. key_cmp other.key task.key ≡ Less) (before ++ acted ∷ after) →
      app.is_safe task (before ++ acted ∷ after) ≡ true → ¬ Conflicts (set_in cells acted) (set_in cells task) →
      StaysSafe task (tasks_before task.key (children_from acted.key 0 (app.act acted cells).children)) (before ++ after) (app.act acted cells).cells

  -- all laws of an application
  pub record IsLawful : Type 0 where
    pub cells_are_counted : CellsAreCounted
    pub sets_are_in_range : SetsAreInRange
    pub acts_are_fit : ActsAreFit
    pub sets_are_local : SetsAreLocal
    pub acts_are_local : ActsAreLocal
    pub children_come_no_earlier : ChildrenComeNoEarlier
    pub sets_stay_within : SetsStayWithin
    pub walks_are_true : WalksAreTrue
    pub safe_alone : IsSafeAlone
    pub safe_tasks_stay_safe : SafeTasksStaySafe

  -- paths give tasks their order and tell nothing else
  pub record PathsAreIgnored : Type 0 where
    pub acts : ActsIgnorePaths
    pub safety : SafetyIgnoresPaths
