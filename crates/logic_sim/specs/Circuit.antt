-- How the simulation of a circuit starts, which cells and tasks it has, and what it prints at the end.
use Rattle.std.specs.Prelude.{◌≡◌, ℕ, ◌*◌, ◌%◌, ◌<◌, ◌≤◌, ◌⊎◌, IsTrue, ◌++◌, [], ◌∷◌, if◌then◌else◌, List, length, map, nat_le, replicate, All}
use Rattle.std.specs.List.{flat_map}
use Rattle.bench_reader.specs.declared.deck.Deck.{Deck}
use Rattle.bench_reader.specs.declared.deck.Stim.{Stim}
use Rattle.bench_reader.specs.Decks.{IsSoundlyWired}
use Rattle.task_order.specs.declared.task.Body.{Body}
use Rattle.task_order.specs.declared.start.Start.{Start}
use Rattle.logic_sim.specs.Event.{Simulation, change_kind, eval_kind, tick_kind, change_at, eval_at, tick_at, final_line, value_in}
use Rattle.logic_sim.specs.Wiring.{flip_flops_of, gates_of, inputs_of, is_flip_flop, is_gate, signal_at}

abbrev pub IsBit : ℕ → Type 0
IsBit value = value ≤ 1

-- two cells for each signal of a deck, each 0 or 1
pub record IsFitCells (c : Simulation) (cells : List ℕ) : Type 0 where
  pub deck : IsSoundlyWired c.deck
  pub clock : 1 ≤ c.clock
  pub count : length cells ≡ 2 * length c.deck.signals
  pub bits : All IsBit cells

-- a signal takes the value 0 or 1
pub record IsFitChange (c : Simulation) (prio : ℕ) (body : Body) : Type 0 where
  pub kind : body.kind ≡ change_kind
  pub even : prio % 2 ≡ 0
  pub at_signal : body.at < length c.deck.signals
  pub to_bit : IsBit body.arg

-- a gate is evaluated
pub record IsFitEval (c : Simulation) (prio : ℕ) (body : Body) : Type 0 where
  pub kind : body.kind ≡ eval_kind
  pub odd : prio % 2 ≡ 1
  pub in_range : body.at < length c.deck.signals
  pub at_gate : IsTrue (is_gate (signal_at c.deck.signals body.at).form)
  pub no_arg : body.arg ≡ 0

-- a flip-flop ticks
pub record IsFitTick (c : Simulation) (prio : ℕ) (body : Body) : Type 0 where
  pub kind : body.kind ≡ tick_kind
  pub odd : prio % 2 ≡ 1
  pub in_range : body.at < length c.deck.signals
  pub at_flip_flop : IsTrue (is_flip_flop (signal_at c.deck.signals body.at).form)
  pub no_arg : body.arg ≡ 0

abbrev pub IsFitTask : Simulation → ℕ → Body → Type 0
IsFitTask c prio body = IsFitChange c prio body ⊎ (IsFitEval c prio body ⊎ IsFitTick c prio body)

-- the last time that a circuit may be simulated to
abbrev pub latest : ℕ
latest = 1_000_000_000

-- the longest time between two ticks
abbrev pub longest_clock : ℕ
longest_clock = 1_000_000_000

-- at first every value and every plan is 0
abbrev pub start_cells : Deck → List ℕ
start_cells deck = replicate (2 * length deck.signals) 0

-- each primary input takes its value at that time
abbrev pub changes_at : ℕ → List ℕ → List ℕ → List Start
changes_at time [] values = []
changes_at time (input ∷ inputs) [] = []
changes_at time (input ∷ inputs) (value ∷ values) = change_at time input value ∷ changes_at time inputs values

-- the changes that a stimulus brings to these inputs, unless it comes later than the last time
abbrev pub changes_for : ℕ → List ℕ → Stim → List Start
changes_for until inputs stimulus = if nat_le stimulus.time until then changes_at stimulus.time inputs stimulus.bits else []

abbrev pub changes_of : ℕ → List ℕ → List Stim → List Start
changes_of until inputs stimuli = flat_map (changes_for until inputs) stimuli

-- each flip-flop ticks first after the time of the clock, unless that is too late
abbrev pub first_ticks : Simulation → List Start
first_ticks c = if nat_le c.clock c.until then map (tick_at c.clock) (flip_flops_of c.deck.signals) else []

-- at first each gate is to be evaluated at time 0, in file order; each flip-flop is to tick, in file order; and for each
-- stimulus, in file order, each primary input is to take its value, unless that is too late
abbrev pub start_tasks : Simulation → List Start
start_tasks c = map (eval_at 0) (gates_of c.deck.signals) ++ first_ticks c ++ changes_of c.until (inputs_of c.deck.signals) c.deck.stimuli

-- a line for each output, in the order in which they are declared
abbrev pub finals_of : Deck → List ℕ → List ℕ
finals_of deck cells = flat_map (λ output. final_line (signal_at deck.signals output).name (value_in cells output)) deck.outputs
