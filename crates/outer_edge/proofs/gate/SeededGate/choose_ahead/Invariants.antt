use Rattle.std.proofs.Common.{◌≡◌, ℕ, ◌+◌, ◌<◌, get_or}
use Rattle.outer_edge.specs.Choices.{generator_at, seeded_word}
use Rattle.outer_edge.proofs.gate.SeededGate.choose_ahead.Given as goal

-- the generator is at the next turn, and each pick so far is the word of its own
abbrev pub invariant-loop-pick : goal.invariant-loop-pick
invariant-loop-pick l = record {
  generator : l.generator ≡ generator_at l.seed l.worker (l.turn + l.pick-index);
  picks : (k : ℕ) → k < l.pick-index → get_or l.picks k 0 ≡ seeded_word l.seed l.worker (l.turn + k);
}
