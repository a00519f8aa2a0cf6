-- Jobs end, one after another, once they are performed.
use Rattle.std.proofs.Common.{◌∷◌, ap, ◌∙◌}
use Rattle.output_log.specs.Entries.{with_entry}
use Rattle.app_laws.specs.Applications.{Application}
use Rattle.commuting.specs.States.{after_tasks}
use Rattle.run_laws.specs.Finishes.{IsEnd}
use Rattle.run_laws.specs.Progress.{Progress}
use Rattle.source_pool.specs.Basis.{Basis}
use Rattle.source_pool.specs.Course.{job_tasks}
use Rattle.source_pool.specs.Laws.{EndsComeToRest, EndsGoOn, FirstMayEnd, TooManyNeverEnd}
use Rattle.source_pool.proofs.Jobs.{first_performed}

module _ {V : Type 0} {app : Application V} (basis : Basis app) where
  pub first_may_end : FirstMayEnd app
  first_may_end start now cells target text job jobs done ending is = record {
    jobs = job ∷ jobs;
    values = ending.values;
    job = job;
    others = jobs;
    sound = ending.course.come.sound;
    performed = first_performed app job jobs done is;
  }

  pub ends_go_on : EndsGoOn app
  ends_go_on start now next cells target text job jobs done ending is within finished =
      let performed = first_performed app job jobs done is in
      let course = ending.course in
      let values = ending.values in
      let end : IsEnd app now (job ∷ jobs) values done job jobs next = record { sound = course.come.sound; performed = performed; within = within; finished = finished } in
      record {
        values = (app.act job.task values).cells;
        course = record {
          drained = course.drained;
          entries = with_entry job.task.key (app.act job.task values).text course.entries;
          come = basis.ends start cells course.drained course.entries now next done job (job ∷ jobs) jobs values course.come performed within finished;
          text_is = course.text_is;
          over = ap (λ (p : Progress V). p.over) finished.after ∙ course.over;
        };
        in_order = ending.in_order.1;
        leads = ap (after_tasks app.act (job_tasks jobs)) (basis.finishes_act now next done job (job ∷ jobs) jobs values end) ∙ ending.leads;
      }

  pub too_many_never_end : TooManyNeverEnd app
  too_many_never_end start now cells target text job jobs done ending is over =
      let course = ending.course in
      basis.never_ends start cells course.drained course.entries now done job (job ∷ jobs) jobs ending.values course.come (first_performed app job jobs done is) over

  pub ends_come_to_rest : EndsComeToRest app
  ends_come_to_rest start now cells target text ending = record { values = ending.values; course = ending.course; state_is = ending.leads }
