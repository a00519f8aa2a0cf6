-- A list of tasks that is cut into blocks.
use Rattle.std.specs.Prelude.{◌≡◌, ◌≢◌, ℕ, suc, ◌+◌, ◌<◌, ◌≤◌, ◌^◌, ◌⊎◌, Bool, false, List, [], ◌∷◌, ◌++◌, length, take, drop, slice_get, slice_index_or, Some}
use Rattle.std.specs.List.{AllByRecursion, remove}
use Rattle.std.specs.declared.cmp.Ordering.TheVariants.{Less}
use Rattle.std.specs.Ordering.{is_le}
use Rattle.task_order.specs.declared.key.Key.{Key}
use Rattle.task_order.specs.declared.task.Task.{Task}
use Rattle.task_order.specs.Key.{key_cmp}
use Rattle.task_order.specs.PathCode.{CanCode, path_beginning}
use Rattle.task_order.specs.TaskList.{IsAscending, is_earlier}

-- the tasks of all blocks
abbrev pub tasks_in : List (List Task) → List Task
tasks_in [] = []
tasks_in (block ∷ blocks) = block ++ tasks_in blocks

-- whether a block's first task is not later than the key
abbrev pub starts_by : Key → List Task → Bool
starts_by key [] = false
starts_by key (task ∷ tasks) = is_le (key_cmp task.key key)

-- a block's first task, if there is one, has the priority
abbrev pub IsFirstPriority : ℕ → List Task → Type 0
IsFirstPriority prio [] = Unit {0}
IsFirstPriority prio (task ∷ tasks) = prio ≡ task.key.prio

-- a block's first task, if there is one, has a path with this beginning
abbrev pub IsFirstBeginning : ℕ → List Task → Type 0
IsFirstBeginning beginning [] = Unit {0}
IsFirstBeginning beginning (task ∷ tasks) = (beginning ≡ path_beginning task.key.path) × CanCode 0 task.key.path

-- the task at the place, if there is one, has a greater priority
abbrev pub IsEndOfPriority : ℕ → List Task → ℕ → Type 0
IsEndOfPriority prio tasks place = (place ≤ length tasks) × ((d : Task) → place < length tasks → prio < (slice_index_or tasks place d).key.prio)

-- how many tasks a full block has
abbrev pub full_length : ℕ
full_length = 64

-- a block with what it knows of its first task, few enough tasks and room for as many as there may be
pub record IsBlock (prio beginning : ℕ) (tasks : List Task) (capacity : ℕ) : Type 0 where
  pub first_prio : IsFirstPriority prio tasks
  pub first_beginning : IsFirstBeginning beginning tasks
  pub few : length tasks ≤ full_length
  pub room : full_length ≤ capacity

abbrev pub IsFilled : List Task → Type 0
IsFilled block = 0 < length block

-- each block has a task, or there is at most one
abbrev pub IsGapless : List (List Task) → Type 0
IsGapless blocks = (length blocks ≤ 1) ⊎ AllByRecursion IsFilled blocks

-- the block at a place, if there is one
abbrev pub block_at : List (List Task) → ℕ → List Task
block_at blocks at = slice_index_or blocks at []

-- where a key belongs: which block, and before how many of its tasks
pub record IsPlace (key : Key) (blocks : List (List Task)) (at place : ℕ) : Type 0 where
  pub there : (at < length blocks) ⊎ (length blocks + at ≡ 0)
  pub within : place ≤ length (block_at blocks at)
  pub earlier : AllByRecursion (λ task. key_cmp task.key key ≡ Less) (tasks_in (take at blocks) ++ take place (block_at blocks at))
  pub not_earlier : AllByRecursion (λ task. is_earlier key task ≡ false) (drop place (block_at blocks at))
  pub later : AllByRecursion (λ task. key_cmp key task.key ≡ Less) (tasks_in (drop (suc at) blocks))

-- there is a block at the place that isn't full
pub record HasRoom (blocks : List (List Task)) (at : ℕ) : Type 0 where
  pub inside : at < length blocks
  pub room : length (block_at blocks at) < full_length

-- a block at the place, if there is one, is full
abbrev pub IsFull : List (List Task) → ℕ → Type 0
IsFull blocks at = at < length blocks → full_length ≤ length (block_at blocks at)

-- all blocks but one have a task, or there are no others
abbrev pub AreOthersFilled : List (List Task) → ℕ → Type 0
AreOthersFilled blocks at = (length blocks ≤ 1) ⊎ AllByRecursion IsFilled (remove blocks at)

-- the block at the place isn't full, and no other is empty
pub record IsFree (blocks : List (List Task)) (at : ℕ) : Type 0 where
  pub room : HasRoom blocks at
  pub others : AreOthersFilled blocks at

-- the task with the key is at the place
pub record IsFound (key : Key) (blocks : List (List Task)) (at place : ℕ) : Type 0 where
  pub inside : at < length blocks
  pub within : place < length (block_at blocks at)
  pub has : (task : Task) → slice_get (block_at blocks at) place ≡ Some task → task.key ≡ key

-- the task at the place, if there is one, has another key
abbrev pub IsElsewhere : Key → List (List Task) → ℕ → ℕ → Type 0
IsElsewhere key blocks at place = (task : Task) → slice_get (block_at blocks at) place ≡ Some task → task.key ≢ key

-- the blocks of a list with `len` tasks
pub record AreBlocks (blocks : List (List Task)) (len : ℕ) : Type 0 where
  pub ascending : IsAscending (tasks_in blocks)
  pub gapless : IsGapless blocks
  pub count : len ≡ length (tasks_in blocks)
  pub small : len < 2 ^ 63
