use Rattle.std.proofs.Common.{◌∙◌, ap, rules}
use Rattle.source_pool.proofs.shares.Share.give.Goals as goal

pub returns-clause-share : goal.returns-clause-share
returns-clause-share g c = record {
  away = ap (λ e. e.given.hand.jobs.items) c.give.ensures ∙ ap (λ h. h.jobs.items) c.taken_out-hand.ensures.hand;
  back = λ is. search rules;
}
