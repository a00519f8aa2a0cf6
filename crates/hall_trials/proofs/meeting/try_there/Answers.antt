use denote.Param.{param}
use denote.Param.Send.{IsSend, sendable}
use denote.Ref.{NamedLft}
use Rattle.std.proofs.Crossing.{crosses}
use Rattle.worker_gate.specs.contracts.post.Post as post
use Rattle.hall_trials.proofs.meeting.try_there.Goals as goal

pub join-back-requires-send-F : goal.join-back-requires-send-F
join-back-requires-send-F g c κs within =
    let posts : (h a : NamedLft) → IsSend (post.the_row h a (param 1 g.row.A) (param 2 g.row.A-Val) (param 3 g.row.A-Horizon) g.A.App g.A.Val.Held) =
    λ h a. record { owned = (c.post_sends.ensures h a).owned; leaving = (c.post_sends.ensures h a).leaving } in
    search (sendable, crosses, posts) depth 40

pub join-back-requires-send-A : goal.join-back-requires-send-A
join-back-requires-send-A g c κs within =
    let posts : (h a : NamedLft) → IsSend (post.the_row h a (param 1 g.row.A) (param 2 g.row.A-Val) (param 3 g.row.A-Horizon) g.A.App g.A.Val.Held) =
    λ h a. record { owned = (c.post_sends.ensures h a).owned; leaving = (c.post_sends.ensures h a).leaving } in
    search (sendable, posts) depth 40
