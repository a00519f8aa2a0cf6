-- Circuits as ordered applications: which cells the events read and write, and what they do.
use Rattle.std.specs.Prelude.{ℕ, ◌*◌, ◌==◌, ◌||◌, if◌then◌else◌, Bool, List, [], ◌∷◌, ◌++◌, length, map}
use Rattle.std.specs.List.{list_all}
use Rattle.bench_reader.specs.declared.deck.Deck.{Deck}
use Rattle.task_order.specs.declared.task.Task.{Task}
use Rattle.rw_sets.specs.declared.access.Access.TheVariants.{Read, Write}
use Rattle.rw_sets.specs.Accesses.{Accesses, merged}
use Rattle.app_laws.specs.declared.app.SetAnswer.TheVariants as answer
use Rattle.app_laws.specs.Applications.{Application}
use Rattle.logic_sim.specs.Circuit.{IsFitCells, IsFitTask}
use Rattle.logic_sim.specs.Distance.{is_safe}
use Rattle.logic_sim.specs.Event.{Simulation, act_of, change_kind, eval_kind, tick_kind, plan_place, value_place}
use Rattle.logic_sim.specs.Wiring.{fan_in_of, signal_at}

-- a change writes the value of its signal
abbrev pub change_set : ℕ → Accesses
change_set signal = (value_place signal, Write) ∷ []

-- the values of the fan-ins are read, and what is planned for the gate or flip-flop is written
abbrev pub eval_accesses : List ℕ → ℕ → Accesses
eval_accesses fan_in gate = map (λ signal. (value_place signal, Read)) fan_in ++ (plan_place gate, Write) ∷ []

-- the set of these accesses: a fan-in that stands twice is there once
abbrev pub eval_set : Deck → ℕ → Accesses
eval_set deck gate = merged [] (eval_accesses (fan_in_of (signal_at deck.signals gate).form) gate)

-- the declared set of an event of a kind, whatever the cells hold
abbrev pub set_for : Deck → ℕ → ℕ → Accesses
set_for deck kind at =
    if kind == change_kind then change_set at
    else if kind == eval_kind || kind == tick_kind then eval_set deck at
    else []

-- what a circuit means to those who execute it
abbrev pub simulation : Simulation → Application ℕ
simulation c = record {
  count = 2 * length c.deck.signals;
  is_fit_cells = IsFitCells c;
  is_fit_task = IsFitTask c;
  set_of = λ body cells. set_for c.deck body.kind body.at;
  walk = λ body cells. answer.Known (set_for c.deck body.kind body.at);
  act = act_of c;
  is_safe = is_safe c;
}
