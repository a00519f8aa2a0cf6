use Rattle.std.proofs.Common.{◌≡◌, suc, ◌-◌, length}
use Rattle.kdg_graph.proofs.Common.{HaveNoLess, HaveSameLanes, reserved_of}
use Rattle.kdg_graph.proofs.locations.Locations.reach.Given as goal

-- a location that is added has no nodes
abbrev pub invariant-loop-alloc : goal.invariant-loop-alloc
invariant-loop-alloc l = record {
  no_less : HaveNoLess (reserved_of l.initial.self.reservation l.initial.self.locations.items) (reserved_of l.self.reservation l.self.locations.items);
  number : l.self.reservation ≡ l.initial.self.reservation;
  lanes : HaveSameLanes l.initial.self.locations.items l.self.locations.items;
}

abbrev pub decreases-loop-alloc : goal.decreases-loop-alloc
decreases-loop-alloc l = suc l.loc - length l.self.locations.items
