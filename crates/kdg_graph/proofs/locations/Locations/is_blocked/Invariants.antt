use Rattle.std.proofs.Common.{◌≡◌, ℕ, false, take}
use Rattle.kdg_graph.proofs.Common.{list_any, Access, clashing_at, is_first_before}
use Rattle.kdg_graph.proofs.locations.Locations.is_blocked.Given as goal

-- at none of the locations so far the node is blocked
abbrev pub invariant-loop-pair : goal.invariant-loop-pair
invariant-loop-pair l = list_any (λ (p : ℕ × Access). is_first_before l.node-inside.task.key (clashing_at p.0 p.1 l.nodes.nodes)) (take l.pair-index l.pair-items) ≡ false
