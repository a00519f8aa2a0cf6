-- What a gate chooses by a generator: PCG's XSH RR with 64 bits of state and words of 32 bits, of M. E. O'Neill, "PCG: A Family of
-- Simple Fast Space-Efficient Statistically Good Algorithms for Random Number Generation", 2014.
use Rattle.std.specs.Prelude.{ℕ}
use Rattle.rand_pcg.specs.Lcg.{Lcg, advance, increment_of, started}
use Rattle.rand_pcg.specs.Pcg.{multiplier_64, pcg32}

-- the generator that is made from the seed, with the worker as its stream, at a turn
abbrev pub generator_at : ℕ → ℕ → ℕ → Lcg
generator_at seed worker turn = advance 64 multiplier_64 turn (started 64 multiplier_64 seed (increment_of 64 worker))

-- the word with this number, counted from 0, of the generator that is made from the seed, with the worker as its stream
abbrev pub seeded_word : ℕ → ℕ → ℕ → ℕ
seeded_word seed worker turn = (pcg32 (generator_at seed worker turn)).0
