-- How much a run may be asked for.
use Rattle.std.specs.Prelude.{ℕ}

-- how many bytes an input may have
abbrev pub input_bound : ℕ
input_bound = 16_777_216

-- the last time that may be simulated
abbrev pub latest_time : ℕ
latest_time = 1_000_000_000

-- the longest time between two ticks of a circuit's clock
abbrev pub longest_clock : ℕ
longest_clock = 1_000_000_000

-- the last vertex that a search may begin at
abbrev pub last_vertex : ℕ
last_vertex = 4096

-- the greatest budget
abbrev pub most_tasks : ℕ
most_tasks = 1_000_000_000

abbrev pub most_workers : ℕ
most_workers = 64
