use Rattle.std.proofs.Common.{◌≤◌, ℕ, ap, subst}
use Rattle.level_walk.specs.Walks.{Search}
use Rattle.level_walk.proofs.walk.Walk.from.Goals as goal

pub returns-clause-some : goal.returns-clause-some
returns-clause-some c = subst (λ (n : ℕ). 1 ≤ n) (ap (λ (s : Search). s.from) c.self.view_is) c.self.invariant.from_one
