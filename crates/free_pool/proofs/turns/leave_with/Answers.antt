use Rattle.std.proofs.Common.{List, ◌++◌, sym, subst}
use Rattle.task_order.specs.declared.key.Key.{Key}
use Rattle.run_laws.specs.Jobs.{Job}
use Rattle.worker_gate.specs.Turns.{MayLeave}
use Rattle.free_pool.specs.Acted.{jobs_stuck}
use Rattle.free_pool.specs.Turns.{jobs_left}
use Rattle.free_pool.proofs.turns.leave_with.Goals as goal

pub leave-requires-after_bounds : goal.leave-requires-after_bounds
leave-requires-after_bounds g c κs within =
    let had = c.args.turn.view.jobs in
    subst (λ (jobs : List (Job g.row.A-Val.Denot)). MayLeave g.A.App.meaning c.args.turn jobs g.P.Did.ended) (sym c.requires.jobs)
    (subst (λ (ended : List Key). MayLeave g.A.App.meaning c.args.turn (jobs_stuck c.args.stuck.now ++ jobs_left had c.args.ended c.args.hand.now.jobs.items) ended) (sym c.requires.ended) c.requires.may)
