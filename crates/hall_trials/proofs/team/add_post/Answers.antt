use Rattle.std.proofs.Common.{refl, arith}
use Rattle.hall_trials.proofs.Posts.{one_more}
use Rattle.hall_trials.proofs.team.add_post.Goals as goal

pub split-own-requires-clause-here : goal.split-own-requires-clause-here
split-own-requires-clause-here g c κs within = c.requires.posts.first_is.split.seated.here

pub split-own-requires-clause-first : goal.split-own-requires-clause-first
split-own-requires-clause-first g c κs within = c.requires.posts.first_is.split.number_is

pub split-own-requires-clause-few : goal.split-own-requires-clause-few
split-own-requires-clause-few g c κs within = let splits = c.requires.posts.splits in let few = c.requires.few in omega (arith, splits, few)

pub returns : goal.returns
returns g c =
    one_more c.args.hall.now (λ post. post.hall.now) (λ post. post.app.now) (λ post. post.seat) c.requires.posts c.split-own.ensures.left
    (record { app = c.args.app; hall = c.args.hall; seat = c.split-own.result; worker = c.args.worker }) refl c.requires.app c.split-own.ensures.right c.in_ok-add_one.ensures
