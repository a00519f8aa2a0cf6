use Rattle.std.proofs.Common.{◌≡◌, ◌+◌, ◌-◌, suc, ℕ, refl, subst, arith}
use Rattle.free_pool.proofs.Seats.{IsPosted, one_posted, own_posted}
use Rattle.free_pool.proofs.team.posts_of.Goals as goal

pub loop-worker-preserved : goal.loop-worker-preserved
loop-worker-preserved g c =
    let at = c.loop-worker in
    let n = at.worker - 1 in
    let next : suc n ≡ at.worker + 1 - 1 = omega (arith, at.auto.worker) in
    subst (λ (k : ℕ). IsPosted c.args.post.hall.now (c.args.workers - 1) k (λ post. post.hall.now) (λ post. post.app.now) (λ post. post.seat) c.args.post.seat c.split-other.new.seat c.push.new.self.items) next
    (one_posted c.args.post.hall.now (c.args.workers - 1) n (λ post. post.hall.now) (λ post. post.app.now) (λ post. post.seat) c.args.post.seat at.seat at.posts.items at.invariant
    c.split-other.new.seat c.split-other.ensures.left (record { app = c.args.post.app; hall = c.args.post.hall; seat = c.split-other.result; worker = at.worker }) refl c.requires.may.app_is
    c.split-other.ensures.right c.push.new.self.items c.in-Ok.ensures.items)

pub returns-clause-own : goal.returns-clause-own
returns-clause-own g c =
    let at = c.loop-worker in
    own_posted c.args.post.hall.now (c.args.workers - 1) (at.worker - 1) (λ post. post.hall.now) (λ post. post.app.now) (λ post. post.seat) c.args.post.seat at.seat at.posts.items at.invariant
    (omega (arith, at.auto.worker)) (record { app = c.args.post.app; hall = c.args.post.hall; seat = at.seat; worker = c.args.post.worker }) refl c.requires.may.app_is refl
