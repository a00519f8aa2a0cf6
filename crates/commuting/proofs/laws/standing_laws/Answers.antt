use Rattle.commuting.proofs.Logs.{runs_log_later, runs_log_new_keys}
use Rattle.commuting.proofs.Standing.{starts_are_ready, starts_stand_for_themselves, clear_tasks_keep_standing, earlier_entries_are_first, nothing_pending_is_the_end, too_many_tasks_never_end}
use Rattle.commuting.proofs.laws.standing_laws.Goals as goal

pub returns-clause-starts_ready : goal.returns-clause-starts_ready
returns-clause-starts_ready g c = λ app. starts_are_ready (c.basis.ensures app)

pub returns-clause-starts : goal.returns-clause-starts
returns-clause-starts g c = λ app. starts_stand_for_themselves (c.basis.ensures app)

pub returns-clause-acts : goal.returns-clause-acts
returns-clause-acts g c = λ app. clear_tasks_keep_standing (c.basis.ensures app)

pub returns-clause-first : goal.returns-clause-first
returns-clause-first g c = λ app. earlier_entries_are_first (c.basis.ensures app)

pub returns-clause-end : goal.returns-clause-end
returns-clause-end g c = λ app. nothing_pending_is_the_end (c.basis.ensures app)

pub returns-clause-too_many : goal.returns-clause-too_many
returns-clause-too_many g c = λ app. too_many_tasks_never_end (c.basis.ensures app)

pub returns-clause-later : goal.returns-clause-later
returns-clause-later g c = λ app. runs_log_later (c.basis.ensures app)

pub returns-clause-new_keys : goal.returns-clause-new_keys
returns-clause-new_keys g c = λ app. runs_log_new_keys (c.basis.ensures app)
