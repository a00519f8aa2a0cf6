-- What holds of the order of keys and of lists of tasks, for all keys and lists.
use Rattle.std.specs.Prelude.{◌≡◌, ◌≢◌, ℕ, ◌+◌, ◌<◌, ◌⊎◌, ◌↔◌, List, [], ◌∷◌, ◌++◌, length}
use Rattle.std.specs.Cmp.Lexicographic.{slice_cmp}
use Rattle.std.specs.List.{AllByRecursion, Contains}
use Rattle.std.specs.List.Sorted.{IsPermutation}
use Rattle.std.specs.declared.cmp.Ordering.TheVariants.{Less, Equal, Greater}
use Rattle.std.specs.Ordering.{nat_cmp}
use Rattle.task_order.specs.declared.key.Key.{Key}
use Rattle.task_order.specs.declared.task.Task.{Task}
use Rattle.task_order.specs.Key.{key_cmp}
use Rattle.task_order.specs.PathCode.{CanCode, path_beginning}
use Rattle.task_order.specs.TaskList.{IsAscending, IsNewKey, HasDistinctKeys, put_in, put_all, tasks_before, tasks_from, without}

-- ---- earlier keys

-- no key is earlier than itself
abbrev pub EarlierIsIrreflexive : Type 0
EarlierIsIrreflexive = (a b : Key) → key_cmp a b ≡ Less → a ≢ b

abbrev pub EarlierIsTransitive : Type 0
EarlierIsTransitive = (a b c : Key) → key_cmp a b ≡ Less → key_cmp b c ≡ Less → key_cmp a c ≡ Less

-- of two different keys one is earlier
abbrev pub EarlierIsConnected : Type 0
EarlierIsConnected = (a b : Key) → a ≢ b → (key_cmp a b ≡ Less) ⊎ (key_cmp b a ≡ Less)

-- a key is later than those that are earlier than it
abbrev pub EarlierIsTurned : Type 0
EarlierIsTurned = (a b : Key) → (key_cmp a b ≡ Less) ↔ (key_cmp b a ≡ Greater)

-- equal keys compare equal
abbrev pub EqualIsReflexive : Type 0
EqualIsReflexive = (a : Key) → key_cmp a a ≡ Equal

-- ---- lists in ascending order

-- the keys of an ascending list differ
abbrev pub AscendingKeysAreDistinct : Type 0
AscendingKeysAreDistinct = (tasks : List Task) → IsAscending tasks → HasDistinctKeys tasks

-- an ascending list is known by its tasks
abbrev pub TasksDetermineAscending : Type 0
TasksDetermineAscending = (tasks others : List Task) → IsAscending tasks → IsAscending others → IsPermutation tasks others → tasks ≡ others

-- the keys differ in whatever order the tasks stand
abbrev pub DistinctInAnyOrder : Type 0
DistinctInAnyOrder = (tasks others : List Task) → HasDistinctKeys tasks → IsPermutation tasks others → HasDistinctKeys others

-- ---- one task put in

abbrev pub PutsCommute : Type 0
PutsCommute = (task next : Task) (tasks : List Task) → task.key ≢ next.key → put_in task (put_in next tasks) ≡ put_in next (put_in task tasks)

abbrev pub PutsKeepAscending : Type 0
PutsKeepAscending = (task : Task) (tasks : List Task) → IsNewKey task.key tasks → IsAscending tasks → IsAscending (put_in task tasks)

abbrev pub PutsAddOne : Type 0
PutsAddOne = (task : Task) (tasks : List Task) → length (put_in task tasks) ≡ length tasks + 1

-- the task and those before are there, and no other
abbrev pub PutsKeepTasks : Type 0
PutsKeepTasks = (task : Task) (tasks : List Task) → IsPermutation (task ∷ tasks) (put_in task tasks)

-- a key is new after a task was put in where it is not the task's and was new before
abbrev pub PutsKeepNewKeys : Type 0
PutsKeepNewKeys = (key : Key) (task : Task) (tasks : List Task) → IsNewKey key (put_in task tasks) ↔ ((task.key ≢ key) × IsNewKey key tasks)

-- a task that is earlier than all goes to the front, and one that is later than all to the end
abbrev pub EarliestGoesFirst : Type 0
EarliestGoesFirst = (task : Task) (tasks : List Task) → AllByRecursion (λ other. key_cmp task.key other.key ≡ Less) tasks → put_in task tasks ≡ task ∷ tasks

abbrev pub LatestGoesLast : Type 0
LatestGoesLast = (task : Task) (tasks : List Task) → AllByRecursion (λ other. key_cmp other.key task.key ≡ Less) tasks → put_in task tasks ≡ tasks ++ task ∷ []

-- in an ascending list a task goes between those that are earlier and the others
abbrev pub PutsGoBetween : Type 0
PutsGoBetween = (task : Task) (tasks : List Task) → IsAscending tasks → put_in task tasks ≡ tasks_before task.key tasks ++ task ∷ tasks_from task.key tasks

-- ---- several tasks put in

abbrev pub PutAllOfNone : Type 0
PutAllOfNone = (tasks : List Task) → put_all [] tasks ≡ tasks

abbrev pub PutAllOfJoined : Type 0
PutAllOfJoined = (new more tasks : List Task) → put_all (new ++ more) tasks ≡ put_all more (put_all new tasks)

-- a task whose key differs from theirs may be put in before them or after them
abbrev pub PutAllCommutesWithPut : Type 0
PutAllCommutesWithPut = (task : Task) (new tasks : List Task) → IsNewKey task.key new → put_all new (put_in task tasks) ≡ put_in task (put_all new tasks)

-- where all keys differ, the order in which the tasks are put in doesn't matter
abbrev pub PutAllInAnyOrder : Type 0
PutAllInAnyOrder = (new other tasks : List Task) → HasDistinctKeys (new ++ tasks) → IsAscending tasks → IsPermutation new other → put_all new tasks ≡ put_all other tasks

abbrev pub PutAllKeepsAscending : Type 0
PutAllKeepsAscending = (new tasks : List Task) → HasDistinctKeys (new ++ tasks) → IsAscending tasks → IsAscending (put_all new tasks)

abbrev pub PutAllAddsEach : Type 0
PutAllAddsEach = (new tasks : List Task) → length (put_all new tasks) ≡ length tasks + length new

abbrev pub PutAllKeepsTasks : Type 0
PutAllKeepsTasks = (new tasks : List Task) → IsPermutation (new ++ tasks) (put_all new tasks)

-- ---- the tasks before a key

-- they are the front of an ascending list
abbrev pub BeforeIsFront : Type 0
BeforeIsFront = (key : Key) (tasks : List Task) → IsAscending tasks → tasks ≡ tasks_before key tasks ++ tasks_from key tasks

abbrev pub BeforeIsEarlier : Type 0
BeforeIsEarlier = (key : Key) (tasks : List Task) → AllByRecursion (λ task. key_cmp task.key key ≡ Less) (tasks_before key tasks)

abbrev pub BeforeStaysAscending : Type 0
BeforeStaysAscending = (key : Key) (tasks : List Task) → IsAscending tasks → IsAscending (tasks_before key tasks)

-- a task that is not earlier than the key leaves them as they are
abbrev pub BeforeSkipsLater : Type 0
BeforeSkipsLater = (key : Key) (task : Task) (tasks : List Task) → key_cmp task.key key ≢ Less → tasks_before key (put_in task tasks) ≡ tasks_before key tasks

-- an earlier one is put among them
abbrev pub BeforeTakesEarlier : Type 0
BeforeTakesEarlier = (key : Key) (task : Task) (tasks : List Task) → key_cmp task.key key ≡ Less → IsAscending tasks → tasks_before key (put_in task tasks) ≡ put_in task (tasks_before key tasks)

-- ---- the tasks without one

abbrev pub WithoutForgetsPut : Type 0
WithoutForgetsPut = (task : Task) (tasks : List Task) → IsNewKey task.key tasks → without task.key (put_in task tasks) ≡ tasks

abbrev pub PutRestoresWithout : Type 0
PutRestoresWithout = (task : Task) (tasks : List Task) → IsAscending tasks → Contains tasks task → put_in task (without task.key tasks) ≡ tasks

-- taking out one key and putting in another may change places
abbrev pub WithoutCommutesWithPut : Type 0
WithoutCommutesWithPut = (key : Key) (task : Task) (tasks : List Task) → task.key ≢ key → IsAscending tasks → without key (put_in task tasks) ≡ put_in task (without key tasks)

abbrev pub WithoutCommutes : Type 0
WithoutCommutes = (first second : Key) (tasks : List Task) → without first (without second tasks) ≡ without second (without first tasks)

abbrev pub WithoutOfNewKey : Type 0
WithoutOfNewKey = (key : Key) (tasks : List Task) → IsNewKey key tasks → without key tasks ≡ tasks

abbrev pub WithoutStaysAscending : Type 0
WithoutStaysAscending = (key : Key) (tasks : List Task) → IsAscending tasks → IsAscending (without key tasks)

-- what is left are the tasks with other keys
abbrev pub WithoutKeepsOthers : Type 0
WithoutKeepsOthers = (key : Key) (tasks : List Task) (task : Task) → Contains (without key tasks) task ↔ (Contains tasks task × (task.key ≢ key))

abbrev pub WithoutMakesNew : Type 0
WithoutMakesNew = (key : Key) (tasks : List Task) → IsNewKey key (without key tasks)

-- a path that begins with a lower number than another comes first
abbrev pub LowerBeginningsComeFirst : Type 0
LowerBeginningsComeFirst = (a b : List ℕ) → CanCode 0 a → CanCode 0 b → path_beginning a < path_beginning b → slice_cmp nat_cmp a b ≡ Less
