use Rattle.hall_trials.specs.Team.{ArePosts}
use Rattle.hall_trials.proofs.team.add_posts.Given as goal

abbrev pub invariant-loop-worker : goal.invariant-loop-worker
invariant-loop-worker g l = ArePosts l.hall (λ post. post.hall.now) (λ post. post.app.now) (λ post. post.seat) l.worker l.seat l.posts.items
