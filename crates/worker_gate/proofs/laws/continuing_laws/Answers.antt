use Rattle.worker_gate.proofs.Continuing.{moves_continue, origins_continue, same_sums_continue}
use Rattle.worker_gate.proofs.laws.continuing_laws.Goals as goal

pub returns : goal.returns
returns g c = record {
  begin = λ app. origins_continue (c.course_start_laws.ensures.starts app);
  same = λ app. same_sums_continue (c.course_claim_laws.ensures.any_order app);
  moves = λ app. moves_continue (c.course_event_laws.ensures.events app) (c.move_laws.ensures.marks app);
}
