use Rattle.std.proofs.Common.{◌≡◌, ◌≤◌, ℕ, length}
use Rattle.kdg_graph.proofs.Common.{IsAscendingSet, access_at}
use Rattle.kdg_graph.proofs.exchange.SetWalk.has.Given as goal

-- what is passed lies before the location
abbrev pub invariant-loop-self : goal.invariant-loop-self
invariant-loop-self l = record {
  ascending : IsAscendingSet l.self.left.now;
  beyond : (other : ℕ) → l.loc ≤ other → access_at l.self.left.now other ≡ access_at l.fn.self.left.now other;
}

abbrev pub decreases-loop-self : goal.decreases-loop-self
decreases-loop-self l = length l.self.left.now
