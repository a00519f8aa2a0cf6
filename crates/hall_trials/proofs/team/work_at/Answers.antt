use Rattle.std.proofs.Common.{◌∙◌, ℕ, sym, subst}
use Rattle.plain_laws.specs.Ranges.{down_from}
use Rattle.worker_gate.specs.declared.post.Post.{Post}
use Rattle.hall_trials.specs.Team.{IsFirst}
use Rattle.hall_trials.proofs.Posts.{may_work, seats_after}
use Rattle.hall_trials.proofs.team.work_at.Goals as goal

pub work_all-requires-after_bounds : goal.work_all-requires-after_bounds
work_all-requires-after_bounds g c κs within =
    may_work c.args.hall.now (λ (post : Post g.row.A.Denot g.row.A-Val.Denot g.row.A-Horizon.Denot). post.hall.now) (λ (post : Post g.row.A.Denot g.row.A-Val.Denot g.row.A-Horizon.Denot). post.app.now)
    (λ (post : Post g.row.A.Denot g.row.A-Val.Denot g.row.A-Horizon.Denot). post.seat) c.in_ok-posts.posts.items c.in_ok-posts.ensures.posts_are

pub join_all-requires-clause-first : goal.join_all-requires-clause-first
join_all-requires-clause-first g c κs within =
    subst (λ (n : ℕ). IsFirst c.args.hall.now (down_from n) c.posts_of.new.seat) (sym (c.in_ok-backs.ensures.long ∙ c.in_ok-posts.ensures.long)) c.in_ok-posts.ensures.first_is

pub join_all-requires-clause-posts : goal.join_all-requires-clause-posts
join_all-requires-clause-posts g c κs within =
    seats_after c.args.hall.now (λ (post : Post g.row.A.Denot g.row.A-Val.Denot g.row.A-Horizon.Denot). post.hall.now) (λ (post : Post g.row.A.Denot g.row.A-Val.Denot g.row.A-Horizon.Denot). post.app.now)
    (λ (post : Post g.row.A.Denot g.row.A-Val.Denot g.row.A-Horizon.Denot). post.seat) (λ (post : Post g.row.A.Denot g.row.A-Val.Denot g.row.A-Horizon.Denot). post.seat)
    c.in_ok-posts.posts.items c.in_ok-backs.backs.items c.in_ok-backs.ensures.long c.in_ok-posts.ensures.posts_are c.in_ok-backs.ensures.worked
