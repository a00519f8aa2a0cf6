-- How soon pending events may reach the signals of a circuit, and when an event may come before earlier ones.
use Rattle.std.specs.Prelude.{◌≡◌, ℕ, zero, suc, ◌+◌, ◌-◌, ◌≤◌, ◌==◌, ◌&&◌, ◌||◌, nat_lt, not, if◌then◌else◌, Bool, false, IsTrue, List, [], ◌∷◌}
use Rattle.std.specs.List.{list_all, list_any}
use Rattle.task_order.specs.declared.task.Body.{Body}
use Rattle.task_order.specs.declared.task.Task.{Task}
use Rattle.logic_sim.specs.Event.{Simulation, change_kind, delay_of, time_of}
use Rattle.logic_sim.specs.Wiring.{fan_in_of, is_among, readers_of, signal_at, watched_by}

-- the signals that drive a signal: the fan-ins of a gate. A flip-flop waits for its clock, and an input for its stimuli.
abbrev pub drivers_of : Simulation → ℕ → List ℕ
drivers_of c signal = watched_by (signal_at c.deck.signals signal).form

-- each signal drives the one before it, the first drives the signal to which the chain leads, and it begins with the last
abbrev pub IsChain : Simulation → ℕ → ℕ → List ℕ → Type 0
IsChain c from to [] = from ≡ to
IsChain c from to (driver ∷ drivers) = IsTrue (is_among (drivers_of c to) driver) × IsChain c from driver drivers

-- the sum of the delays of a chain to a signal: all count but that of the signal with which it begins
abbrev pub chain_delay : Simulation → ℕ → List ℕ → ℕ
chain_delay c to [] = 0
chain_delay c to (driver ∷ drivers) = delay_of c to + chain_delay c driver drivers

-- the gap between two signals is the least sum of the delays of a chain from one to the other
pub record IsGap (c : Simulation) (from to gap : ℕ) : Type 0 where
  pub chain : List ℕ
  pub leads : IsChain c from to chain
  pub sum : chain_delay c to chain ≡ gap
  pub least : (other : List ℕ) → IsChain c from to other → gap ≤ chain_delay c to other

-- when what happens at a priority may change its signal: a change at its time, and all else after the signal's delay
abbrev pub moment_of : Simulation → ℕ → Body → ℕ
moment_of c prio body = if body.kind == change_kind then time_of prio else time_of prio + delay_of c body.at

-- whether a change of one signal at a moment may lead to a change of the other before the limit, along chains of at most
-- `fuel` signals
unfoldable pub leads : ℕ → Simulation → ℕ → ℕ → ℕ → ℕ → Bool
leads zero c moment from to limit = false
leads (suc fuel) c moment from to limit =
    (from == to && nat_lt moment limit) || list_any (λ driver. leads fuel c moment from driver (limit - delay_of c to)) (drivers_of c to)

-- whether what is at a priority may come to a signal before the limit. As delays are positive, chains of more signals are too long.
abbrev pub reaches : Simulation → ℕ → Body → ℕ → ℕ → Bool
reaches c prio body to limit = leads limit c (moment_of c prio body) body.at to limit

-- whether it may come to one of the signals
abbrev pub reaches_any : Simulation → ℕ → Body → List ℕ → ℕ → Bool
reaches_any c prio body signals limit = list_any (λ signal. reaches c prio body signal limit) signals

-- whether what is at a priority may come to a change of the signal no later than at its time, or to an evaluation of a gate that the
-- signal drives before that time
abbrev pub comes_to_change : Simulation → ℕ → Body → ℕ → ℕ → Bool
comes_to_change c prio body signal time =
    reaches c prio body signal (time + 1) || list_any (λ gate. reaches_any c prio body (drivers_of c gate) time) (readers_of c.deck.signals signal)

-- whether what is at a priority may come to a signal that an evaluation or a tick reads no later than at its time
abbrev pub comes_to_plan : Simulation → ℕ → Body → ℕ → ℕ → Bool
comes_to_plan c prio body signal time = reaches_any c prio body (fan_in_of (signal_at c.deck.signals signal).form) (time + 1)

-- whether the other event, or what follows from it, may come before the event and at what it reads or writes
abbrev pub threatens : Simulation → Task → Task → Bool
threatens c task other =
    if task.body.kind == change_kind then comes_to_change c other.key.prio other.body task.body.at (time_of task.key.prio)
    else comes_to_plan c other.key.prio other.body task.body.at (time_of task.key.prio)

-- whether an event may come before the earlier ones: none of these threatens it
abbrev pub is_safe : Simulation → Task → List Task → Bool
is_safe c task earlier = list_all (λ other. not (threatens c task other)) earlier
