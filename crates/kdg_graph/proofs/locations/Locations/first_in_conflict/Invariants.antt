use Rattle.std.proofs.Common.{◌≡◌, ℕ, take, filter}
use Rattle.kdg_graph.proofs.Common.{list_any, Access, clashes_at, later_than, least_of}
use Rattle.kdg_graph.proofs.locations.Locations.first_in_conflict.Given as goal

-- the first that clashes at a location so far
abbrev pub invariant-loop-pair : goal.invariant-loop-pair
invariant-loop-pair l = l.first ≡ least_of (filter (λ other. list_any (λ (p : ℕ × Access). clashes_at p.0 p.1 other) (take l.pair-index l.pair-items)) (later_than l.key l.nodes.nodes))
