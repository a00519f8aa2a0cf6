use denote.Param.{param}
use denote.Param.Send.{IsSend, sendable}
use denote.Ref.{NamedLft}
use Rattle.source_pool.specs.contracts.partners.Post as post
use Rattle.source_pool.proofs.partners.serve_all.Goals as goal

pub map_vec-done-requires-send-J : goal.map_vec-done-requires-send-J
map_vec-done-requires-send-J g c κs within =
    let posts : (a : NamedLft) → IsSend (post.the_row a (param 1 g.row.A) (param 3 g.row.A-Val) (param 4 g.row.A-Horizon) g.A.App g.A.Val.Held) =
    λ a. record { owned = (c.post_sends.ensures a).owned; leaving = (c.post_sends.ensures a).leaving } in
    search (sendable, posts) depth 40
