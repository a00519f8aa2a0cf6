-- What is known of a task that was performed.
use Rattle.std.proofs.Common.{◌≡◌, sym, subst, ◌∙◌}
use Rattle.std.specs.List.{AllByRecursion}
use Rattle.kdg_graph.specs.declared.change.Fresh.{Fresh}
use Rattle.app_laws.specs.declared.app.Effect.{Effect}
use Rattle.app_laws.specs.Applications.{Application, set_in}
use Rattle.run_laws.specs.Events.{fresh_from}
use Rattle.run_laws.specs.FinishBasis.{FinishBasis}
use Rattle.run_laws.specs.Finishes.{PerformedTasksAreKnown}
use Rattle.run_laws.proofs.EndedSets.{fresh_sets}
use Rattle.run_laws.proofs.Performed.{agrees_given, bundle_is_out, bundle_is_whole, children_fit, children_not_earlier, done_set, fit_after, fit_task, fresh_new, named, new_entry, performed_node}

pub performed_tasks_are_known : {V : Type 0} {app : Application V} → FinishBasis app → PerformedTasksAreKnown app
performed_tasks_are_known {V} {app} basis old done job jobs others values sound performed =
    let new = (app.act job.task values).cells in
    let its = named basis sound performed in
    let known = performed_node basis sound performed in
    record {
      node = its.0;
      ended = known;
      id = its.2.id ∙ performed.node;
      fit = fit_task basis sound performed;
      fit_after = fit_after basis sound performed;
      set = done_set basis sound performed;
      out = bundle_is_out basis sound performed;
      whole = bundle_is_whole basis sound performed;
      given = agrees_given basis sound performed;
      children_later = children_not_earlier basis sound performed;
      children_fit = children_fit basis sound performed;
      new_entry = new_entry basis sound performed;
      new_keys = fresh_new basis sound performed;
      handed =
          subst (λ (effect : Effect V). AllByRecursion (λ (item : Fresh). item.set ≡ set_in app new item.task) (fresh_from done.task.key 0 effect.children)) (sym known.effect)
          (fresh_sets app new done.task.key 0 (app.act job.task values).children);
    }
