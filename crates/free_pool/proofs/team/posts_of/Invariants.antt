use Rattle.std.proofs.Common.{◌-◌}
use Rattle.free_pool.proofs.Seats.{IsPosted}
use Rattle.free_pool.proofs.team.posts_of.Given as goal

abbrev pub invariant-loop-worker : goal.invariant-loop-worker
invariant-loop-worker g l = IsPosted l.fn.post.hall.now (l.fn.workers - 1) (l.worker - 1) (λ post. post.hall.now) (λ post. post.app.now) (λ post. post.seat) l.fn.post.seat l.seat l.posts.items
