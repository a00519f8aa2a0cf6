use Rattle.output_log.proofs.Puts.{puts_keep_order, puts_commute, last_puts_append, puts_meet_one_part, puts_take_one_key}
use Rattle.output_log.proofs.laws.put_laws.Goals as goal

pub returns-clause-order : goal.returns-clause-order
returns-clause-order c = puts_keep_order c.key_order.ensures.exact

pub returns-clause-commutative : goal.returns-clause-commutative
returns-clause-commutative c = puts_commute c.key_order.ensures.exact

pub returns-clause-last : goal.returns-clause-last
returns-clause-last c = last_puts_append

pub returns-clause-one_part : goal.returns-clause-one_part
returns-clause-one_part c = puts_meet_one_part

pub returns-clause-one_key : goal.returns-clause-one_key
returns-clause-one_key c = puts_take_one_key
