use denote.Param.{param}
use denote.Param.Send.{IsSend, sendable}
use denote.Ref.{NamedLft}
use Rattle.std.proofs.Common.{◌≡◌, List, get_or, length, rules, subst, sym, arith}
use Rattle.worker_gate.specs.declared.post.Post.{Post}
use Rattle.free_pool.specs.Team.{HasWorked}
use Rattle.free_pool.proofs.Seats.{zipped}
use Rattle.worker_gate.specs.contracts.post.Post as post
use Rattle.free_pool.proofs.team.work_at.Goals as goal

pub map_vec-requires-send-J : goal.map_vec-requires-send-J
map_vec-requires-send-J g c κs within =
    let posts : (h a : NamedLft) → IsSend (post.the_row h a (param 1 g.row.A) (param 3 g.row.A-Val) (param 4 g.row.A-Horizon) g.A.App g.A.Val.Held) =
    λ h a. record { owned = (c.post_sends.ensures h a).owned; leaving = (c.post_sends.ensures h a).leaving } in
    search (sendable, posts) depth 40

pub map_vec-requires-send-X : goal.map_vec-requires-send-X
map_vec-requires-send-X g c κs within =
    let posts : (h a : NamedLft) → IsSend (post.the_row h a (param 1 g.row.A) (param 3 g.row.A-Val) (param 4 g.row.A-Horizon) g.A.App g.A.Val.Held) =
    λ h a. record { owned = (c.post_sends.ensures h a).owned; leaving = (c.post_sends.ensures h a).leaving } in
    search (sendable, posts) depth 40

pub returns : goal.returns
returns g c =
    let posts : List (Post g.row.A.Denot g.row.A-Val.Denot g.row.A-Horizon.Denot) = c.args.posts.items in
    let backs : List (Post g.row.A.Denot g.row.A-Val.Denot g.row.A-Horizon.Denot) = c.in_ok-backs.backs.items in
    let long : length backs ≡ length posts = omega (arith, c.in_ok-backs.ensures.len, c.in_ok-backs.backs.ok.0, c.args.posts.ok.0) in
    zipped (λ (post back : Post g.row.A.Denot g.row.A-Val.Denot g.row.A-Horizon.Denot). HasWorked post.hall.now post.seat back.seat) posts backs long (λ k x d inside.
    let given = (c.in_ok-backs.ensures.each k d inside).1 in
    let call : HasWorked given.job.hall.now given.job.seat (get_or backs k d).seat = search rules in
    subst (λ (post : Post g.row.A.Denot g.row.A-Val.Denot g.row.A-Horizon.Denot). HasWorked post.hall.now post.seat (get_or backs k d).seat) (sym (given.job_is x)) call)
