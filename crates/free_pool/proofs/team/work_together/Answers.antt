use Rattle.std.proofs.Common.{◌≡◌, ◌-◌, Option, Some, rules}
use Rattle.plain_laws.specs.Options.{if_some_at}
use Rattle.worker_gate.specs.declared.post.Post.{Post}
use Rattle.free_pool.proofs.Seats.{team_after}
use Rattle.free_pool.proofs.team.work_together.Goals as goal

pub joined-requires-after_bounds : goal.joined-requires-after_bounds
joined-requires-after_bounds g c κs within =
    let own_is : c.work_all.new.lead.post ≡ Some c.in-Some-Some.own = search rules in
    let others_are : c.work_all.new.others ≡ Some c.in-Some-Some.others = search rules in (
      c.args.staff.workers - 1,
      team_after c.args.post.hall.now (c.args.staff.workers - 1)
          (λ (post : Post g.row.A.Denot g.row.A-Val.Denot g.row.A-Horizon.Denot). post.hall.now)
          (λ (post : Post g.row.A.Denot g.row.A-Val.Denot g.row.A-Horizon.Denot). post.app.now)
          (λ (post : Post g.row.A.Denot g.row.A-Val.Denot g.row.A-Horizon.Denot). post.seat)
          (λ (post : Post g.row.A.Denot g.row.A-Val.Denot g.row.A-Horizon.Denot). post.seat)
          c.in-Ok.posts.1 c.in-Some-Some.own.seat c.in-Ok.posts.0.items c.in-Some-Some.others.items c.in-Ok.ensures.own c.in-Ok.ensures.first
          (if_some_at _ _ _ own_is c.work_all.ensures.lead.1).worked c.in-Ok.ensures.numbers c.in-Ok.ensures.ready
          (if_some_at _ _ _ others_are c.work_all.ensures.others),
    )
