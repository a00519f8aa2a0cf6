-- What the gaps between signals tell.
use Rattle.std.specs.Prelude.{◌≡◌, ℕ, ◌+◌, nat_lt}
use Rattle.bench_reader.specs.Decks.{IsSoundlyWired}
use Rattle.logic_sim.specs.Distance.{IsGap, leads}
use Rattle.logic_sim.specs.Event.{Simulation}

-- a change leads to one of another signal before a limit exactly where its moment and the gap between them come to less
abbrev pub GapsTell : Simulation → Type 0
GapsTell c = (moment from to gap limit : ℕ) → IsSoundlyWired c.deck → IsGap c from to gap → leads limit c moment from to limit ≡ nat_lt (moment + gap) limit
