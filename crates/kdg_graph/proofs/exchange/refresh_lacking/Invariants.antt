use Rattle.std.proofs.Common.{◌≡◌, ◌≤◌, ◌<◌, ℕ, get_or, length, take}
use Rattle.kdg_graph.proofs.Common.{Access, IsAscendingSet, access_at, lacking, fronts_after, ids_of, AreRefreshed}
use Rattle.kdg_graph.proofs.exchange.refresh_lacking.Given as goal

-- the fronts at the locations so far are refreshed
abbrev pub invariant-loop-pair : goal.invariant-loop-pair
invariant-loop-pair l = record {
  refreshed : AreRefreshed l.nodes.nodes (ids_of (fronts_after (lacking (take l.pair-index l.pair-items) l.other) l.key l.nodes.nodes)) l.fn.sources l.sources;
  ascending : IsAscendingSet l.walk.left.now;
  beside : (k : ℕ) (d : ℕ × Access) → l.pair-index ≤ k → k < length l.pair-items → access_at l.walk.left.now (get_or l.pair-items k d).0 ≡ access_at l.other (get_or l.pair-items k d).0;
}
