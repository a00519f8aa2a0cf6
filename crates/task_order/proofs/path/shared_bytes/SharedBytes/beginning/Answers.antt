use Rattle.std.proofs.Common.{◌≡◌, sym, ◌∙◌, ap, take, length, arith}
use Rattle.task_order.specs.PathCode.{first_word}
use Rattle.task_order.specs.SharedBytes.{chain}
use Rattle.task_order.proofs.Beginnings.{first_word-longer, first_word-padded}
use Rattle.task_order.proofs.path.shared_bytes.SharedBytes.beginning.Goals as goal

pub returns-in-Some : goal.returns-in-Some
returns-in-Some c =
    let self = c.self.inside in
    let same : chain self.nodes ≡ c.deref-node.result.now = ap chain c.in-Some.is ∙ sym c.deref-node.ensures in
    rw (← c.self.view_is)
    (c.beginning.ensures.beginning ∙ ap first_word (sym same) ∙ sym (first_word-longer (chain self.nodes) (take self.rest_len self.rest) (omega (arith, c.beginning.ensures.whole, ap length same))))

pub returns-in-None : goal.returns-in-None
returns-in-None c =
    let self = c.self.inside in
    rw (← c.self.view_is, c.in-None.is) (c.first_word_of.ensures.word ∙ first_word-padded self.rest self.rest_len c.first_word_of.ensures.whole c.self.invariant.padded)
