use Rattle.std.proofs.Common.{sym, ◌∙◌, take, arith}
use Rattle.task_order.specs.SharedBytes.{chain}
use Rattle.task_order.specs.Comparing.{append-tied, append-decided}
use Rattle.task_order.proofs.path.shared_bytes.SharedBytes.compare.Goals as goal

pub returns-in-Equal : goal.returns-in-Equal
returns-in-Equal c =
    let self = c.self.inside in
    let other = c.other.inside in
    rw (← c.self.view_is, ← c.other.view_is)
    (c.order_in_place.ensures
    ∙ sym (append-tied (chain self.nodes) (chain other.nodes) (take self.rest_len self.rest) (take other.rest_len other.rest) c.order_of_full.result (omega arith) c.order_of_full.ensures c.in-Equal.is))

pub returns-in_default : goal.returns-in_default
returns-in_default c =
    let self = c.self.inside in
    let other = c.other.inside in
    rw (← c.self.view_is, ← c.other.view_is)
    (append-decided (chain self.nodes) (chain other.nodes) (take self.rest_len self.rest) (take other.rest_len other.rest) c.order_of_full.result (omega arith) c.order_of_full.ensures c.in_default.not-Equal)
