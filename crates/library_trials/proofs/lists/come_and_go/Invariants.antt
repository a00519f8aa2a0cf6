use Rattle.std.proofs.Common.{◌≡◌}
use Rattle.library_trials.proofs.lists.come_and_go.Given as goal

-- both have the same items
abbrev pub invariant-loop-step : goal.invariant-loop-step
invariant-loop-step g l = l.list.items ≡ l.items.items
