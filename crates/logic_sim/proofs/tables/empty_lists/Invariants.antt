use Rattle.std.proofs.Common.{◌≡◌, [], replicate}
use Rattle.logic_sim.proofs.tables.empty_lists.Given as goal

-- all lists so far are empty
abbrev pub invariant-loop : goal.invariant-loop
invariant-loop l = l.lists.items ≡ replicate l.counter []
