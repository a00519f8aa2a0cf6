use Rattle.std.proofs.Common.{List, sym, subst}
use Rattle.task_order.specs.declared.key.Key.{Key}
use Rattle.run_laws.specs.Jobs.{Job}
use Rattle.worker_gate.specs.Turns.{MayLeave}
use Rattle.hall_trials.specs.Seated.{jobs_claimed}
use Rattle.hall_trials.proofs.turns.leave_after_claim.Goals as goal

pub leave-requires-after_bounds : goal.leave-requires-after_bounds
leave-requires-after_bounds g c κs within =
    subst (λ (jobs : List (Job g.row.A-Val.Denot)). MayLeave g.A.App.meaning c.args.turn jobs g.P.Did.ended) (sym c.requires.jobs)
    (subst (λ (ended : List Key). MayLeave g.A.App.meaning c.args.turn (jobs_claimed c.args.claim.now c.args.turn.view.jobs) ended) (sym c.requires.ended) c.requires.may)

pub returns-clause-hall : goal.returns-clause-hall
returns-clause-hall g c = c.leave.ensures.hall
