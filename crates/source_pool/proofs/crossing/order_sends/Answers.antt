-- An order holds what its field holds: the hand.
use Rattle.source_pool.proofs.crossing.order_sends.Goals as goal

pub returns : goal.returns
returns g c = record {
  owned = λ x vs e. (tt, (c.hand_sends.ensures.owned x.hand e.0, tt));
  leaving = λ k x w. (c.hand_sends.ensures.leaving k x.hand w.0, tt);
}
