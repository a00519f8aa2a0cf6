use Rattle.std.specs.Prelude.{◌≡◌, ◌≤◌, ◌==◌, ℕ, ◌+◌, ◌-◌, ◌%◌, ◌<◌, ◌^◌, List, [], ◌∷◌, ◌&&◌, Bool, true, false, not, nat_le, nat_lt, length, drop, take, Option, Some, None, is_some, is_none, unwrap_or, option_and_then, Result, Ok, Err, codes, find, if◌then◌else◌}
use Rattle.std.specs.List.{slice_get, range_with_len}
use Rattle.std.specs.Option.{option_map, option_map_or}
use Rattle.std.specs.Result.{result_ok}
use Rattle.std.specs.Str.{bytes_eq}
use Rattle.kdg_text.specs.Numbers.{u64_of}
use Rattle.logic_sim.specs.Chain.{most_inverters}
use Rattle.gf2_eliminate.specs.Blocks.{most_blocks}
use Rattle.spring_mesh.specs.Pairs.{most_pairs}
use Rattle.kdg_prog.specs.Bounds.{last_vertex, latest_time, longest_clock, most_tasks, most_workers}
use Rattle.kdg_prog.specs.declared.words.Command.{Command}
use Rattle.kdg_prog.specs.declared.words.Command.TheVariants.{Sim, Rank, Mesh, Levels}
use Rattle.kdg_prog.specs.declared.words.Heading.{Heading}
use Rattle.kdg_prog.specs.declared.words.Mode.{Mode}
use Rattle.kdg_prog.specs.declared.words.Mode.TheVariants.{Serial, Rounds, Free, Marks}
use Rattle.kdg_prog.specs.declared.words.OptionName.{OptionName}
use Rattle.kdg_prog.specs.declared.words.OptionName.TheVariants as name
use Rattle.kdg_prog.specs.declared.words.Options.{Options}

-- a word, by its bytes
abbrev pub Word : Type 0
Word = List ℕ

-- the word that names a command
abbrev pub word_of : Command → Word
word_of Sim = codes "sim"
word_of Rank = codes "rank"
word_of Mesh = codes "mesh"
word_of Levels = codes "levels"

abbrev pub commands : List Command
commands = Sim ∷ Rank ∷ Mesh ∷ Levels ∷ []

-- the command that a word names
abbrev pub command_named : Word → Option Command
command_named word = find (λ command. bytes_eq word (word_of command)) commands

-- the word before a command whose input is made from a number
abbrev pub big_word : Word
big_word = codes "big"

-- the greatest number that the input of a command is made from, or 0 where it is always read
abbrev pub most_for : Command → ℕ
most_for Sim = most_inverters
most_for Rank = most_blocks
most_for Mesh = most_pairs
most_for Levels = 0

-- how each option is written
abbrev pub name_of : OptionName → Word
name_of name.Workers = codes "--workers"
name_of name.Mode = codes "--mode"
name_of name.Seed = codes "--seed"
name_of name.Until = codes "--until"
name_of name.Clock = codes "--clock"
name_of name.From = codes "--from"
name_of name.Budget = codes "--budget"
name_of name.Stats = codes "--stats"

abbrev pub option_names : List OptionName
option_names =
    name.Workers ∷ name.Mode ∷ name.Seed ∷ name.Until ∷ name.Clock ∷ name.From ∷ name.Budget ∷ name.Stats ∷ []

-- the option that a word names
abbrev pub option_named : Word → Option OptionName
option_named word = find (λ name. bytes_eq word (name_of name)) option_names

-- circuits alone are simulated up to a time and have a clock
abbrev pub is_timed : Command → Bool
is_timed Sim = true
is_timed command = false

-- and searches alone begin at a vertex
abbrev pub is_search : Command → Bool
is_search Levels = true
is_search command = false

-- whether a command has an option
abbrev pub takes : Command → OptionName → Bool
takes command name.Until = is_timed command
takes command name.Clock = is_timed command
takes command name.From = is_search command
takes command name = true

-- the option of a command that a word names
abbrev pub option_for : Command → Word → Option OptionName
option_for command word = option_and_then (λ name. if takes command name then Some name else None) (option_named word)

-- a number that lies in a range, the ends included
abbrev pub number_within : ℕ → ℕ → Word → Option ℕ
number_within low high word =
    option_and_then (λ n. if nat_le low n && nat_le n high then Some n else None) (result_ok (u64_of word))

-- what the values of the options say
abbrev pub workers_value : Word → Option ℕ
workers_value = number_within 1 most_workers

abbrev pub mode_value : Word → Option Mode
mode_value word =
    if bytes_eq word (codes "serial") then Some Serial
    else if bytes_eq word (codes "rounds") then Some Rounds
    else if bytes_eq word (codes "free") then Some Free
    else if bytes_eq word (codes "marks") then Some Marks
    else None

abbrev pub seed_value : Word → Option ℕ
seed_value = number_within 0 (2 ^ 64 - 1)

abbrev pub until_value : Word → Option ℕ
until_value = number_within 0 latest_time

abbrev pub clock_value : Word → Option ℕ
clock_value = number_within 1 longest_clock

abbrev pub from_value : Word → Option ℕ
from_value = number_within 1 last_vertex

abbrev pub budget_value : Word → Option ℕ
budget_value = number_within 0 most_tasks

abbrev pub switch_value : Word → Option Bool
switch_value word =
    if bytes_eq word (codes "on") then Some true else if bytes_eq word (codes "off") then Some false else None

-- a word is one of an option's values
abbrev pub is_value : OptionName → Word → Bool
is_value name.Workers word = is_some (workers_value word)
is_value name.Mode word = is_some (mode_value word)
is_value name.Seed word = is_some (seed_value word)
is_value name.Until word = is_some (until_value word)
is_value name.Clock word = is_some (clock_value word)
is_value name.From word = is_some (from_value word)
is_value name.Budget word = is_some (budget_value word)
is_value name.Stats word = is_some (switch_value word)

-- each two words, the last alone left out
abbrev pub pairs_of : List Word → List (Word × Word)
pairs_of [] = []
pairs_of (word ∷ []) = []
pairs_of (word ∷ next ∷ words) = (word, next) ∷ pairs_of words

-- whether the input is made from a number
abbrev pub is_big : List Word → Bool
is_big words = option_map_or (λ word. bytes_eq word big_word) (slice_get words 0) false

-- how many words stand before the options: the command, or `big`, the command and the number
abbrev pub heading_len : List Word → ℕ
heading_len words = if is_big words then 3 else 1

-- the options among the words before an index, with their values
abbrev pub settings_before : List Word → ℕ → List (Word × Word)
settings_before words index = pairs_of (drop (heading_len words) (take index words))

abbrev pub settings_of : List Word → List (Word × Word)
settings_of words = settings_before words (length words)

-- the value that an option has among settings
abbrev pub given_value : OptionName → List (Word × Word) → Option Word
given_value name settings =
    option_map (λ setting. setting.1) (find (λ setting. bytes_eq setting.0 (name_of name)) settings)

-- a command whose input may be made from a number
abbrev pub if_made : Option Command → Option Command
if_made found = option_and_then (λ command. if nat_lt 0 (most_for command) then Some command else None) found

-- the command among the words
abbrev pub command_of : List Word → Option Command
command_of words =
    if is_big words then if_made (option_and_then command_named (slice_get words 1))
    else option_and_then command_named (slice_get words 0)

-- the command that the other words are read for
abbrev pub command_in : List Word → Command
command_in words = unwrap_or (command_of words) Sim

-- the number behind the command
abbrev pub number_of : List Word → Option ℕ
number_of words = option_and_then (number_within 1 (most_for (command_in words))) (slice_get words 2)

-- the number that the input is made from, or 0
abbrev pub big_of : List Word → ℕ
big_of words = if is_big words then unwrap_or (number_of words) 0 else 0

-- a word before the options is bad: it is no command, behind `big` one whose input is always read, or no number that an
-- input may be made from
abbrev pub is_bad_heading : List Word → ℕ → Bool
is_bad_heading words index =
    if not (is_big words) then is_none (command_of words)
    else if index == 0 then false
    else if index == 1 then is_none (command_of words)
    else is_none (number_of words)

-- a word that stands in an option's place is bad: it names no option of the command, or one that was given before
abbrev pub is_bad_option : List Word → ℕ → Bool
is_bad_option words index =
    option_map_or
    (λ word. option_map_or (λ name. is_some (given_value name (settings_before words index))) (option_for (command_in words) word) true)
    (slice_get words index)
    false

-- the word behind an option is bad: it is missing, or none of the option's values
abbrev pub is_bad_value : List Word → ℕ → Bool
is_bad_value words index =
    option_map_or
    (λ name. not (option_map_or (is_value name) (slice_get words index) false))
    (option_and_then (option_for (command_in words)) (slice_get words (index - 1)))
    false

-- the word at an index is bad: the heading comes first, and then options and values take turns
abbrev pub is_bad : List Word → ℕ → Bool
is_bad words index =
    if nat_lt index (heading_len words) then is_bad_heading words index
    else if index % 2 == 1 then is_bad_option words index
    else is_bad_value words index

-- the index of the first bad word, which may be the one that is missing behind the last
abbrev pub first_bad : List Word → Option ℕ
first_bad words = find (is_bad words) (range_with_len 0 (length words + 1))

-- the value of each option, or its default
abbrev pub options_given : Command → ℕ → List (Word × Word) → Options
options_given command big settings = record {
  command = command;
  big = big;
  workers = unwrap_or (option_and_then workers_value (given_value name.Workers settings)) 4;
  mode = unwrap_or (option_and_then mode_value (given_value name.Mode settings)) Rounds;
  seed = unwrap_or (option_and_then seed_value (given_value name.Seed settings)) 0;
  until = unwrap_or (option_and_then until_value (given_value name.Until settings)) 1000;
  clock = unwrap_or (option_and_then clock_value (given_value name.Clock settings)) 10;
  from = unwrap_or (option_and_then from_value (given_value name.From settings)) 1;
  budget = unwrap_or (option_and_then budget_value (given_value name.Budget settings)) 1000000;
  stats = unwrap_or (option_and_then switch_value (given_value name.Stats settings)) false;
}

-- the options, unless a word is bad; then the place of the first one, counted from 1
abbrev pub options_unless : Option ℕ → Options → Result Options ℕ
options_unless None options = Ok options
options_unless (Some index) options = Err (index + 1)

-- what the words of a command line ask for, or the place of the first bad one
abbrev pub options_of : List Word → Result Options ℕ
options_of words =
    options_unless (first_bad words) (options_given (command_in words) (big_of words) (settings_of words))

-- options that words can ask for
pub record IsAllowed (options : Options) : Type 0 where
  pub big : options.big ≤ most_for options.command
  pub workers : (1 ≤ options.workers) × (options.workers ≤ most_workers)
  pub until : options.until ≤ latest_time
  pub clock : (1 ≤ options.clock) × (options.clock ≤ longest_clock)
  pub from : (1 ≤ options.from) × (options.from ≤ last_vertex)
  pub budget : options.budget ≤ most_tasks

-- what stands before the options was read, and none of it is bad
pub record IsHeading (words : List Word) (heading : Heading) : Type 0 where
  pub command : command_of words ≡ Some heading.command
  pub big : big_of words ≡ heading.big
  pub len : heading_len words ≡ heading.len
  pub within : heading.len ≤ length words
  pub fine : (k : ℕ) → k < heading.len → is_bad words k ≡ false
