-- What events find in their bundles, and what they make of them.
use Rattle.std.specs.Prelude.{◌≡◌, ℕ, ◌^◌, ◌<◌, List, [], map}
use Rattle.bench_reader.specs.declared.deck.Form.{Form}
use Rattle.bench_reader.specs.declared.deck.Form.TheVariants.{Input, Gate, Dff}
use Rattle.task_order.specs.declared.start.Start.{Start}
use Rattle.rw_sets.specs.Accesses.{Accesses}
use Rattle.cell_store.specs.declared.cell.Cell.{Cell}
use Rattle.cell_store.specs.declared.cell.Cell.TheVariants.{Home, Out}
use Rattle.cell_store.specs.Part.{Part}
use Rattle.cell_store.specs.Cells.{cell_at, cell_in, part_of}
use Rattle.cell_store.specs.Values.{homes}
use Rattle.app_laws.specs.declared.app.Effect.{Effect}
use Rattle.app_laws.specs.declared.child.Child.{Child}
use Rattle.app_laws.specs.Applications.{handed}
use Rattle.app_laws.specs.Execution.{Outcome}
use Rattle.logic_sim.specs.Circuit.{IsFitCells}
use Rattle.logic_sim.specs.Event.{Simulation, value_place}
use Rattle.logic_sim.specs.Gate.{gate_value}
use Rattle.logic_sim.specs.Meaning.{simulation}

-- the value of a cell that is home
abbrev pub value_of : Cell ℕ → ℕ
value_of (Home value) = value
value_of Out = 0

-- the value at a location of a part
abbrev pub held_in : Part ℕ → ℕ → ℕ
held_in part loc = value_of (cell_in part loc)

-- the value at a location of cells that are home
abbrev pub held_at_home : List (Cell ℕ) → ℕ → ℕ
held_at_home cells loc = value_of (cell_at cells loc)

-- whether the value of a signal can be read, where some locations can
pub record IsReadable (can_read : ℕ → Type 0) (signal : ℕ) : Type 0 where
  pub small : signal < 2 ^ 31
  pub readable : can_read (value_place signal)

-- the values of signals, where these are held at the locations
abbrev pub values_held : (ℕ → ℕ) → List ℕ → List ℕ
values_held held signals = map (λ signal. held (value_place signal)) signals

-- what a gate computes from the values of its fan-ins and a flip-flop takes from its source, where these are held at the locations
abbrev pub computed_from : (ℕ → ℕ) → Form → ℕ
computed_from held Input = 0
computed_from held (Gate kind fan_in) = gate_value kind (values_held held fan_in)
computed_from held (Dff source) = held (value_place source)

-- a child as it is handed over, with the set that it declares
abbrev pub child_of : Simulation → Start → Child
child_of c start = handed (simulation c) [] start

-- what an outcome makes of the part of the cells that a set names
abbrev pub effect_on : Simulation → Accesses → Outcome ℕ → Effect ℕ
effect_on c set outcome = record {
  bundle = part_of (homes outcome.cells) set;
  children = map (child_of c) outcome.children;
  text = outcome.text;
}

-- the effect is what the operator makes of all cells of the circuit of which the set takes this bundle
abbrev pub IsEffectOn : Simulation → Accesses → (List ℕ → Outcome ℕ) → Part ℕ → Effect ℕ → Type 0
IsEffectOn c set act bundle effect = (cells : List ℕ) → IsFitCells c cells → bundle ≡ part_of (homes cells) set → effect ≡ effect_on c set (act cells)
