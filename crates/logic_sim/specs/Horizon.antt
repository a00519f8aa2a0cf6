-- What is kept of the times at which pending events may come to the signals of a circuit.
use Rattle.std.specs.Prelude.{◌≡◌, ℕ, ◌+◌, ◌-◌, ◌*◌, ◌<◌, ◌≤◌, ◌==◌, ◌⊎◌, ◌&&◌, ◌||◌, count_by, sum, nat_lt, Bool, true, false, List, [], ◌∷◌, length, slice_index, slice_index_or}
use Rattle.std.specs.List.{filter, list_any}
use Rattle.bench_reader.specs.Decks.{IsSoundlyWired}
use Rattle.task_order.specs.declared.task.Task.{Task}
use Rattle.task_order.specs.TaskList.{IsAscending}
use Rattle.rw_sets.specs.Accesses.{writes}
use Rattle.app_laws.specs.Applications.{AreFitTasks}
use Rattle.logic_sim.specs.declared.horizon.Horizon.{Horizon}
use Rattle.logic_sim.specs.Distance.{drivers_of, moment_of}
use Rattle.logic_sim.specs.Event.{Simulation, delay_of, time_of}
use Rattle.logic_sim.specs.Meaning.{set_for, simulation}

-- the time of what never comes
abbrev pub never : ℕ
never = 18_446_744_073_709_551_615

-- a number that is below a limit exactly where the test says so
abbrev pub IsLeast : ℕ → (ℕ → Bool) → Type 0
IsLeast number is_before = (limit : ℕ) → limit ≤ never → nat_lt number limit ≡ is_before limit

-- whether an event that is pending at the signal may change it before the limit
abbrev pub comes_at : Simulation → List Task → ℕ → ℕ → Bool
comes_at c tasks signal limit = list_any (λ task. task.body.at == signal && nat_lt (moment_of c task.key.prio task.body) limit) tasks

-- whether one of the signals has a time before the limit
abbrev pub any_near : List ℕ → List ℕ → ℕ → Bool
any_near near signals limit = list_any (λ signal. nat_lt (slice_index near signal) limit) signals

-- a signal's time is the least of what is pending there and, after its delay, of what comes to its drivers
pub record IsSettled (c : Simulation) (near entries : List ℕ) (tasks : List Task) (signal : ℕ) : Type 0 where
  pub by_drivers : IsLeast (slice_index entries signal) (any_near near (drivers_of c signal))
  pub by_all : IsLeast (slice_index near signal) (λ limit. comes_at c tasks signal limit || nat_lt (slice_index entries signal) (limit - delay_of c signal))

-- each signal has its times, and those that aren't stale are settled
pub record IsKept (c : Simulation) (near entries : List ℕ) (stale : List Bool) (tasks : List Task) : Type 0 where
  pub near_count : length near ≡ length c.deck.signals
  pub entry_count : length entries ≡ length c.deck.signals
  pub stale_count : length stale ≡ length c.deck.signals
  pub settled : (signal : ℕ) → signal < length c.deck.signals → slice_index_or stale signal false ≡ false → IsSettled c near entries tasks signal

-- no time is before what the others make it
abbrev pub IsFalling : Simulation → List ℕ → List Task → Type 0
IsFalling c near tasks = (signal limit : ℕ) → signal < length c.deck.signals → limit ≤ never → nat_lt (slice_index near signal) limit ≡ true
    → (comes_at c tasks signal limit || any_near near (drivers_of c signal) (limit - delay_of c signal)) ≡ true

-- all are settled
abbrev pub AreSettled : Simulation → List ℕ → List ℕ → List Task → Type 0
AreSettled c near entries tasks = (signal : ℕ) → signal < length c.deck.signals → IsSettled c near entries tasks signal

-- how much is left to do where times fall: each that falls makes at most all signals stale
abbrev pub work_left : List ℕ → List Bool → ℕ
work_left near stale = (length stale + 1) * sum near + count_by (λ waits. waits) stale

-- no time rises, and where one falls the sum of them does; else no other signals are stale
pub record FallsBelow (near : List ℕ) (stale : List Bool) (new : List ℕ) (new-stale : List Bool) : Type 0 where
  pub count : length new-stale ≡ length stale
  pub falls : ((sum new ≡ sum near) × (new-stale ≡ stale)) ⊎ (sum new < sum near)

-- the time of the first of the tasks
abbrev pub first_time : List Task → ℕ
first_time [] = never
first_time (task ∷ tasks) = time_of task.key.prio

-- tasks of the circuit in the order of their keys, with those that write each location
pub record ArePending (c : Simulation) (tasks : List Task) (writers : ℕ → List Task) : Type 0 where
  pub deck : IsSoundlyWired c.deck
  pub ascending : IsAscending tasks
  pub fit : AreFitTasks (simulation c) tasks
  pub listed : (loc : ℕ) → writers loc ≡ filter (λ task. writes (set_for c.deck task.body.kind task.body.at) loc) tasks

-- what a horizon tells of the pending tasks
abbrev pub Tells : Simulation → Horizon → List Task → Type 0
Tells c horizon tasks = IsKept c horizon.near.items horizon.entries.items horizon.stale tasks

-- and where nothing of it is stale
abbrev pub TellsAll : Simulation → Horizon → List Task → Type 0
TellsAll c horizon tasks = AreSettled c horizon.near.items horizon.entries.items tasks
