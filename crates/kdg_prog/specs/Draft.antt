use Rattle.std.specs.Prelude.{ℕ, Bool, false, is_some, unwrap_or}
use Rattle.kdg_prog.specs.Words.{Word, workers_value, mode_value, seed_value, until_value, clock_value, from_value, budget_value, switch_value}
use Rattle.kdg_prog.specs.declared.words.Command.{Command}
use Rattle.kdg_prog.specs.declared.words.Draft.{Draft}
use Rattle.kdg_prog.specs.declared.words.Mode.TheVariants.{Rounds}
use Rattle.kdg_prog.specs.declared.words.OptionName.{OptionName}
use Rattle.kdg_prog.specs.declared.words.OptionName.TheVariants as name
use Rattle.kdg_prog.specs.declared.words.Options.{Options}

-- an option has a value
abbrev pub is_given : Draft → OptionName → Bool
is_given draft name.Workers = is_some draft.workers
is_given draft name.Mode = is_some draft.mode
is_given draft name.Seed = is_some draft.seed
is_given draft name.Until = is_some draft.until
is_given draft name.Clock = is_some draft.clock
is_given draft name.From = is_some draft.from
is_given draft name.Budget = is_some draft.budget
is_given draft name.Stats = is_some draft.stats

-- the draft with what a word says as the value of an option
abbrev pub with_value : Draft → OptionName → Word → Draft
with_value draft name.Workers word = record draft { workers = workers_value word }
with_value draft name.Mode word = record draft { mode = mode_value word }
with_value draft name.Seed word = record draft { seed = seed_value word }
with_value draft name.Until word = record draft { until = until_value word }
with_value draft name.Clock word = record draft { clock = clock_value word }
with_value draft name.From word = record draft { from = from_value word }
with_value draft name.Budget word = record draft { budget = budget_value word }
with_value draft name.Stats word = record draft { stats = switch_value word }

-- the values that were given, and the defaults of the other options
abbrev pub options_of_draft : Command → ℕ → Draft → Options
options_of_draft command big draft = record {
  command = command;
  big = big;
  workers = unwrap_or draft.workers 4;
  mode = unwrap_or draft.mode Rounds;
  seed = unwrap_or draft.seed 0;
  until = unwrap_or draft.until 1000;
  clock = unwrap_or draft.clock 10;
  from = unwrap_or draft.from 1;
  budget = unwrap_or draft.budget 1000000;
  stats = unwrap_or draft.stats false;
}
