use Rattle.std.proofs.Common.{◌≡◌}
use Rattle.logic_sim.specs.Chain.{chain_signals}
use Rattle.logic_sim.proofs.chain.chain_deck.Given as goal

-- the gates so far stand behind the input
abbrev pub invariant-loop-before : goal.invariant-loop-before
invariant-loop-before l = l.signals ≡ chain_signals l.before
