use Rattle.output_log.proofs.Joins.{joins_with_none, joins_with_one, put_first, put_second, joins_commute, joins_associate, joins_keep_order, joins_have_all, joins_add_lengths, joins_have_the_keys_of_both, parts_join, later_joins_follow}
use Rattle.output_log.proofs.Written.{silent_joins_add_no_text}
use Rattle.output_log.proofs.laws.join_laws.Goals as goal

pub returns-clause-none : goal.returns-clause-none
returns-clause-none c = joins_with_none

pub returns-clause-one : goal.returns-clause-one
returns-clause-one c = joins_with_one c.key_order.ensures.exact

pub returns-clause-commutative : goal.returns-clause-commutative
returns-clause-commutative c = joins_commute c.key_order.ensures.exact

pub returns-clause-associative : goal.returns-clause-associative
returns-clause-associative c = joins_associate c.key_order.ensures.exact

pub returns-clause-order : goal.returns-clause-order
returns-clause-order c = joins_keep_order c.key_order.ensures.exact

pub returns-clause-all : goal.returns-clause-all
returns-clause-all c = joins_have_all

pub returns-clause-length : goal.returns-clause-length
returns-clause-length c = joins_add_lengths

pub returns-clause-keys : goal.returns-clause-keys
returns-clause-keys c = joins_have_the_keys_of_both

pub returns-clause-parts : goal.returns-clause-parts
returns-clause-parts c = parts_join

pub returns-clause-later : goal.returns-clause-later
returns-clause-later c = later_joins_follow

pub returns-clause-puts : goal.returns-clause-puts
returns-clause-puts c key text entries others = (put_first c.key_order.ensures.exact key text entries others, put_second c.key_order.ensures.exact key text entries others)

pub returns-clause-silent : goal.returns-clause-silent
returns-clause-silent c = silent_joins_add_no_text c.key_order.ensures.exact
