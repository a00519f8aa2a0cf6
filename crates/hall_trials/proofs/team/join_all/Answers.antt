use Rattle.std.proofs.Common.{arith}
use Rattle.plain_laws.specs.Lists.{nothing_left}
use Rattle.worker_gate.specs.declared.post.Post.{Post}
use Rattle.hall_trials.proofs.Posts.{all_joined, last_here, last_unjoined, one_joined}
use Rattle.hall_trials.proofs.team.join_all.Goals as goal

pub join-requires-clause-here : goal.join-requires-clause-here
join-requires-clause-here g c κs within = c.loop-post.invariant.first.split.seated.here

pub join-requires-clause-other_here : goal.join-requires-clause-other_here
join-requires-clause-other_here g c κs within =
    last_here c.args.hall.now (λ (post : Post g.row.A.Denot g.row.A-Val.Denot g.row.A-Horizon.Denot). post.seat) c.pop.new.self.items c.in-Some.post c.in-Some.ensures.items c.loop-post.invariant

pub join-requires-clause-unjoined : goal.join-requires-clause-unjoined
join-requires-clause-unjoined g c κs within =
    last_unjoined c.args.hall.now (λ (post : Post g.row.A.Denot g.row.A-Val.Denot g.row.A-Horizon.Denot). post.seat) c.pop.new.self.items c.in-Some.post c.in-Some.ensures.items c.loop-post.invariant

pub loop-post-preserved : goal.loop-post-preserved
loop-post-preserved g c =
    one_joined c.args.hall.now (λ (post : Post g.row.A.Denot g.row.A-Val.Denot g.row.A-Horizon.Denot). post.seat) c.pop.new.self.items c.in-Some.post c.in-Some.ensures.items c.loop-post.invariant c.join.ensures

pub returns : goal.returns
returns g c =
    let none = nothing_left c.pop.result c.loop-post.posts.items
    (λ some. c.pop.ensures.variant.1 (omega (arith, some, c.loop-post.posts.ok.0))) c.in_default.not-Some in
    all_joined c.args.hall.now (λ (post : Post g.row.A.Denot g.row.A-Val.Denot g.row.A-Horizon.Denot). post.seat) none c.loop-post.invariant
