use Rattle.std.proofs.Common.{◌∙◌, List, arith, refl, subst}
use Rattle.std.specs.List.{AllByRecursion}
use Rattle.plain_laws.specs.Lists.{nothing_left}
use Rattle.run_laws.specs.Jobs.{Done, Job}
use Rattle.crew.specs.Jobs.{MayRun}
use Rattle.source_pool.specs.Course.{IsJobDone}
use Rattle.source_pool.proofs.PerformedInOrder.{all_done, none_done, one_done}
use Rattle.source_pool.proofs.performing.perform_in_turn.Goals as goal

pub loop-job-init : goal.loop-job-init
loop-job-init g c = record {
  may = c.requires;
  done = none_done (g.A.App.meaning c.args.app.now) c.args.jobs.now.items c.reserve.new.self.items (c.reserve.ensures.items ∙ c.clear.ensures.items);
  room = omega (arith, c.in_ok-reserve.ensures.ok);
}

pub loop-job-preserved : goal.loop-job-preserved
loop-job-preserved g c =
    let app = g.A.App.meaning c.args.app.now in
    let at = c.loop-job in
    let may_run = subst (λ (jobs : List (Job g.row.A-Val.Denot)). AllByRecursion (MayRun app) jobs) c.in-Some.ensures.items at.invariant.may in
    let done : Done g.row.A-Val.Denot = record { node = c.in-Some.job.node; task = c.in-Some.job.task; effect = c.in-Ok.effect } in
    let is : IsJobDone app c.in-Some.job done = record { node = refl; task = refl; effect = c.in-Ok.ensures.effect } in
    record {
      may = may_run.1;
      done = one_done app c.args.jobs.now.items at.jobs.items c.pop_front.new.self.items c.in-Some.job at.dones.items c.push_back_reserved.new.self.items done at.invariant.done c.in-Some.ensures.items is
          c.push_back_reserved.ensures.items;
      room = omega (arith, c.in-Some.ensures.cases);
    }

pub returns : goal.returns
returns g c =
    let at = c.loop-job in
    all_done (g.A.App.meaning c.args.app.now) c.args.jobs.now.items at.jobs.items at.dones.items at.invariant.done
    (nothing_left c.pop_front.result at.jobs.items (λ some. c.pop_front.ensures.variant.1 (omega (arith, some))) c.in_default.not-Some)
