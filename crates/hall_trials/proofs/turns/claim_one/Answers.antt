use Rattle.hall_trials.proofs.turns.claim_one.Goals as goal

pub returns-in-Ok-clause-answer : goal.returns-in-Ok-clause-answer
returns-in-Ok-clause-answer g c = c.in-Ok.ensures.answer

pub returns-in-Ok-clause-may_run : goal.returns-in-Ok-clause-may_run
returns-in-Ok-clause-may_run g c = c.in-Ok.ensures.may_run

pub returns-in-Err-clause-unchanged : goal.returns-in-Err-clause-unchanged
returns-in-Err-clause-unchanged g c = c.in-Err.ensures.unchanged
