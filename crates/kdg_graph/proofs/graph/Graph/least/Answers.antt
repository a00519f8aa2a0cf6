use Rattle.std.proofs.Common.{rules, ◌≡◌, [], subst, sym, Option, IfNone, IfSome}
use Rattle.kdg_graph.proofs.Common.{NodeId, HasNode, IsGraph, least_of}
use Rattle.kdg_graph.proofs.Rewrites.{none_by_least, there_by_least}
use Rattle.kdg_graph.proofs.graph.Graph.least.Goals as goal

pub returns-clause-there : goal.returns-clause-there
returns-clause-there c =
    let is : c.least.result ≡ least_of c.args.self.now = search rules in
    subst (λ (found : Option NodeId). IfSome found (HasNode c.args.self.now)) (sym is) (there_by_least c.args.self.now (subst IsGraph c.self.view_is c.self.invariant))

pub returns-clause-empty : goal.returns-clause-empty
returns-clause-empty c =
    let is : c.least.result ≡ least_of c.args.self.now = search rules in
    subst (λ (found : Option NodeId). IfNone found (c.args.self.now ≡ [])) (sym is) (none_by_least c.args.self.now)
