use Rattle.hall_trials.proofs.Posts.{no_posts}
use Rattle.hall_trials.proofs.team.posts_of.Goals as goal

pub add_posts-requires-clause-none : goal.add_posts-requires-clause-none
add_posts-requires-clause-none g c κs within = no_posts c.args.hall.now (λ post. post.hall.now) (λ post. post.app.now) (λ post. post.seat) c.requires.first c.requires.whole c.new-posts.ensures.items
