-- What the three kinds of event do to the cells of a circuit. Signal s has its value at location 2s, and the value that
-- is planned for it at location 2s + 1. What happens at time t has priority 2t where a signal changes, and 2t + 1 where
-- a gate is evaluated or a flip-flop ticks.
use Rattle.std.specs.Prelude.{ℕ, ◌+◌, ◌*◌, ◌/◌, ◌==◌, nat_le, if◌then◌else◌, List, [], ◌∷◌, ◌++◌, map, slice_index, slice_index_or, slice_set, codes}
use Rattle.std.specs.Fmt.{decimal}
use Rattle.bench_reader.specs.declared.deck.Deck.{Deck}
use Rattle.bench_reader.specs.declared.deck.Form.{Form}
use Rattle.bench_reader.specs.declared.deck.Form.TheVariants.{Input, Gate, Dff}
use Rattle.task_order.specs.declared.start.Start.{Start}
use Rattle.task_order.specs.declared.task.Task.{Task}
use Rattle.app_laws.specs.Execution.{Outcome}
use Rattle.logic_sim.specs.Gate.{gate_value}
use Rattle.logic_sim.specs.Wiring.{is_among, readers_of, signal_at}

-- a circuit, the last time at which something may happen in it, and the time between two ticks of its clock
pub record Simulation : Type 0 where
  pub deck : Deck
  pub until : ℕ
  pub clock : ℕ

-- how long after its evaluation or tick a signal takes the value that was planned for it
unfoldable pub delay_of : Simulation → ℕ → ℕ
delay_of c signal = slice_index_or c.deck.delays signal 0

abbrev pub value_place : ℕ → ℕ
value_place signal = 2 * signal

abbrev pub plan_place : ℕ → ℕ
plan_place signal = 2 * signal + 1

abbrev pub value_in : List ℕ → ℕ → ℕ
value_in cells signal = slice_index cells (value_place signal)

abbrev pub plan_in : List ℕ → ℕ → ℕ
plan_in cells signal = slice_index cells (plan_place signal)

abbrev pub time_of : ℕ → ℕ
time_of prio = prio / 2

abbrev pub change_kind : ℕ
change_kind = 0

abbrev pub eval_kind : ℕ
eval_kind = 1

abbrev pub tick_kind : ℕ
tick_kind = 2

-- the signal takes the value at that time
abbrev pub change_at : ℕ → ℕ → ℕ → Start
change_at time signal value = record { prio = 2 * time; body = record { kind = change_kind; at = signal; arg = value } }

-- the gate is evaluated at that time
abbrev pub eval_at : ℕ → ℕ → Start
eval_at time gate = record { prio = 2 * time + 1; body = record { kind = eval_kind; at = gate; arg = 0 } }

-- the flip-flop ticks at that time
abbrev pub tick_at : ℕ → ℕ → Start
tick_at time flip_flop = record { prio = 2 * time + 1; body = record { kind = tick_kind; at = flip_flop; arg = 0 } }

-- NAME VALUE, the end of each line
abbrev pub value_line : List ℕ → ℕ → List ℕ
value_line name value = name ++ codes " " ++ decimal value ++ codes "\n"

-- TIME NAME VALUE
abbrev pub change_line : ℕ → List ℕ → ℕ → List ℕ
change_line time name value = decimal time ++ codes " " ++ value_line name value

-- final NAME VALUE
abbrev pub final_line : List ℕ → ℕ → List ℕ
final_line name value = codes "final " ++ value_line name value

abbrev pub nothing_done : List ℕ → Outcome ℕ
nothing_done cells = record { cells = cells; children = []; text = [] }

-- an output's change is written
abbrev pub change_text : Deck → ℕ → ℕ → ℕ → List ℕ
change_text deck time signal value = if is_among deck.outputs signal then change_line time (signal_at deck.signals signal).name value else []

-- where the value is another one, it is set, each gate that reads the signal is to be evaluated at the same time, and
-- an output's change is written
abbrev pub change_of : Simulation → ℕ → ℕ → ℕ → List ℕ → Outcome ℕ
change_of c time signal value cells = if value_in cells signal == value then nothing_done cells else record {
  cells = slice_set cells (value_place signal) value;
  children = map (eval_at time) (readers_of c.deck.signals signal);
  text = change_text c.deck time signal value;
}

-- what a gate computes from the values of its fan-ins; a flip-flop takes the value of its source
abbrev pub computed_by : Form → List ℕ → ℕ
computed_by Input cells = 0
computed_by (Gate kind fan_in) cells = gate_value kind (map (value_in cells) fan_in)
computed_by (Dff source) cells = value_in cells source

-- the gate is to take the value after its delay, if that is not too late
abbrev pub next_changes : Simulation → ℕ → ℕ → ℕ → List Start
next_changes c time gate value =
    if nat_le (time + delay_of c gate) c.until then change_at (time + delay_of c gate) gate value ∷ [] else []

-- where the result is another one than what is planned, it is planned, and the gate is to take it after its delay, if
-- that is not too late
abbrev pub plan_of : Simulation → ℕ → ℕ → ℕ → List ℕ → Outcome ℕ
plan_of c time gate value cells = if plan_in cells gate == value then nothing_done cells else record {
  cells = slice_set cells (plan_place gate) value;
  children = next_changes c time gate value;
  text = [];
}

abbrev pub eval_of : Simulation → ℕ → ℕ → List ℕ → Outcome ℕ
eval_of c time gate cells = plan_of c time gate (computed_by (signal_at c.deck.signals gate).form cells) cells

-- the flip-flop is to tick again after the time of the clock, if that is not too late
abbrev pub next_ticks : Simulation → ℕ → ℕ → List Start
next_ticks c time flip_flop = if nat_le (time + c.clock) c.until then tick_at (time + c.clock) flip_flop ∷ [] else []

-- an outcome with more children behind its own
abbrev pub with_more : Outcome ℕ → List Start → Outcome ℕ
with_more outcome more = record { cells = outcome.cells; children = outcome.children ++ more; text = outcome.text }

-- the value of the source is planned for the flip-flop, which is then to tick again
abbrev pub tick_of : Simulation → ℕ → ℕ → List ℕ → Outcome ℕ
tick_of c time flip_flop cells = with_more (eval_of c time flip_flop cells) (next_ticks c time flip_flop)

-- what happens at a time, by its kind
abbrev pub event_of : Simulation → ℕ → ℕ → ℕ → ℕ → List ℕ → Outcome ℕ
event_of c kind time at arg cells =
    if kind == change_kind then change_of c time at arg cells
    else if kind == eval_kind then eval_of c time at cells
    else if kind == tick_kind then tick_of c time at cells
    else nothing_done cells

-- what a task does
abbrev pub act_of : Simulation → Task → List ℕ → Outcome ℕ
act_of c task cells = event_of c task.body.kind (time_of task.key.prio) task.body.at task.body.arg cells
