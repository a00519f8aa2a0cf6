use Rattle.std.proofs.Common.{ap, subst}
use Rattle.mtx_reader.specs.Patterns.{IsPattern}
use Rattle.level_walk.specs.Walks.{Search}
use Rattle.level_walk.proofs.Together.{walking_together}
use Rattle.level_walk.proofs.walk.Walk.count.Goals as goal

pub returns-clause-together : goal.returns-clause-together
returns-clause-together c = walking_together c.args.self.now.pattern (subst IsPattern (ap (λ (s : Search). s.pattern) c.self.view_is) c.self.invariant.is_pattern)

pub returns-clause-sound : goal.returns-clause-sound
returns-clause-sound c = subst IsPattern (ap (λ (s : Search). s.pattern) c.self.view_is) c.self.invariant.is_pattern
