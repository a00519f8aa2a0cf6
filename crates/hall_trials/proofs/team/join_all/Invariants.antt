use Rattle.std.proofs.Common.{length}
use Rattle.hall_trials.proofs.Posts.{IsJoining}
use Rattle.hall_trials.proofs.team.join_all.Given as goal

abbrev pub invariant-loop-post : goal.invariant-loop-post
invariant-loop-post g l = IsJoining l.hall (λ post. post.seat) l.seat l.posts.items

abbrev pub decreases-loop-post : goal.decreases-loop-post
decreases-loop-post g l = length l.posts.items
