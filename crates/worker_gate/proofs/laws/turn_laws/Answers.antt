use Rattle.worker_gate.proofs.Knowing.{found_is_known, moved_is_known, performed_may_end, sums_are_known}
use Rattle.worker_gate.proofs.laws.turn_laws.Goals as goal

pub returns-clause-found : goal.returns-clause-found
returns-clause-found g c = found_is_known c.continuing_laws.ensures.moves (λ app. sums_are_known c.lower_laws.ensures c.node_laws.ensures.new_keys (c.course_run_laws.ensures.runs app))

pub returns-clause-moved : goal.returns-clause-moved
returns-clause-moved g c = moved_is_known c.continuing_laws.ensures.moves (λ app. sums_are_known c.lower_laws.ensures c.node_laws.ensures.new_keys (c.course_run_laws.ensures.runs app))

pub returns-clause-performed : goal.returns-clause-performed
returns-clause-performed g c = performed_may_end c.continuing_laws.ensures.moves
