use Rattle.std.proofs.Common.{arith}
use Rattle.plain_laws.specs.Lists.{nothing_left}
use Rattle.worker_gate.specs.declared.post.Post.{Post}
use Rattle.free_pool.proofs.Seats.{joining_begins, joining_ends, joining_goes_on, last_here, last_unjoined}
use Rattle.free_pool.proofs.team.joined.Goals as goal

pub loop-post-init : goal.loop-post-init
loop-post-init g c = joining_begins c.args.hall.now c.args.seat _ c.requires

pub join-requires-clause-here : goal.join-requires-clause-here
join-requires-clause-here g c κs within = c.loop-post.invariant.team.seated.here

pub join-requires-clause-other_here : goal.join-requires-clause-other_here
join-requires-clause-other_here g c κs within =
    last_here c.args.hall.now (λ (post : Post g.row.A.Denot g.row.A-Val.Denot g.row.A-Horizon.Denot). post.seat) c.loop-post.invariant.n c.loop-post.seat
    c.loop-post.others.items c.pop.new.self.items c.in-Some.post c.in-Some.ensures.items c.loop-post.invariant.team

pub join-requires-clause-unjoined : goal.join-requires-clause-unjoined
join-requires-clause-unjoined g c κs within =
    last_unjoined c.args.hall.now (λ (post : Post g.row.A.Denot g.row.A-Val.Denot g.row.A-Horizon.Denot). post.seat) c.loop-post.invariant.n c.loop-post.seat
    c.loop-post.others.items c.pop.new.self.items c.in-Some.post c.in-Some.ensures.items c.loop-post.invariant.team

pub loop-post-preserved : goal.loop-post-preserved
loop-post-preserved g c =
    joining_goes_on c.args.hall.now (λ (post : Post g.row.A.Denot g.row.A-Val.Denot g.row.A-Horizon.Denot). post.seat) c.args.seat c.loop-post.seat
    c.loop-post.others.items c.pop.new.self.items c.in-Some.post c.in-Some.ensures.items c.loop-post.invariant c.join.new.seat c.join.ensures

pub returns-clause-seated : goal.returns-clause-seated
returns-clause-seated g c = c.loop-post.invariant.team.seated

pub returns-clause-first : goal.returns-clause-first
returns-clause-first g c = c.loop-post.invariant.team.first

pub returns-clause-drained : goal.returns-clause-drained
returns-clause-drained g c = c.loop-post.invariant.drained

pub returns-clause-alone : goal.returns-clause-alone
returns-clause-alone g c =
    let none = nothing_left c.pop.result c.loop-post.others.items
    (λ some. c.pop.ensures.variant.1 (omega (arith, some, c.loop-post.others.ok.0))) c.in_default.not-Some in
    joining_ends c.args.hall.now (λ (post : Post g.row.A.Denot g.row.A-Val.Denot g.row.A-Horizon.Denot). post.seat) c.args.seat c.loop-post.seat c.loop-post.others.items none c.loop-post.invariant
