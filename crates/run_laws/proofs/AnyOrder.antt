-- The jobs of a sound execution may come in any order.
use Rattle.std.proofs.Common.{◌≡◌, ◌≢◌, true, List, [], ◌∷◌, map, sym, ◌∙◌}
use Rattle.std.specs.List.{AllByRecursion}
use Rattle.std.specs.List.Sorted.{IsPermutation}
use Rattle.std.specs.Ordering.{is_eq}
use Rattle.std.proofs.lemmas.List.Sorted.{IsPermutation-map, list_any-IsPermutation}
use Rattle.plain_laws.specs.Lists.{All-shuffled, All-weaker}
use Rattle.task_order.specs.declared.task.Task.{Task}
use Rattle.task_order.specs.Key.{key_cmp}
use Rattle.task_order.specs.Laws.{DistinctInAnyOrder}
use Rattle.task_order.specs.TaskList.{HasDistinctKeys, IsNewKey}
use Rattle.rw_sets.specs.Accesses.{writes}
use Rattle.cell_store.specs.Cells.{part_of}
use Rattle.cell_store.specs.Values.{homes}
use Rattle.kdg_graph.specs.Node.{Node}
use Rattle.app_laws.specs.Applications.{Application}
use Rattle.app_laws.specs.Order.{Pairwise}
use Rattle.run_laws.specs.Jobs.{Job}
use Rattle.run_laws.specs.Progress.{Progress}
use Rattle.run_laws.specs.Sound.{HasJob, IsOfNode, IsSound, is_written}

module _ {V : Type 0} where
  abbrev task_of : Job V → Task
  task_of job = job.task

  -- the keys of jobs differ where those of their tasks do
  abbrev Differ : Job V → Job V → Type 0
  Differ job other = job.task.key ≢ other.task.key

  new_keys : (job : Job V) (jobs : List (Job V)) → AllByRecursion (Differ job) jobs → IsNewKey job.task.key (map task_of jobs)
  new_keys job [] all = tt
  new_keys job (other ∷ jobs) all = ((λ same. all.0 (sym same)), new_keys job jobs all.1)

  other_jobs : (job : Job V) (jobs : List (Job V)) → IsNewKey job.task.key (map task_of jobs) → AllByRecursion (Differ job) jobs
  other_jobs job [] new = tt
  other_jobs job (other ∷ jobs) new = ((λ same. new.0 (sym same)), other_jobs job jobs new.1)

  own_tasks : (jobs : List (Job V)) → Pairwise Differ jobs → HasDistinctKeys (map task_of jobs)
  own_tasks [] own = tt
  own_tasks (job ∷ jobs) own = (new_keys job jobs own.0, own_tasks jobs own.1)

  own_jobs : (jobs : List (Job V)) → HasDistinctKeys (map task_of jobs) → Pairwise Differ jobs
  own_jobs [] own = tt
  own_jobs (job ∷ jobs) own = (other_jobs job jobs own.0, own_jobs jobs own.1)

pub sound_in_any_order : {V : Type 0} (app : Application V) → DistinctInAnyOrder → (progress : Progress V) (jobs others : List (Job V)) (values : List V) → IsPermutation jobs others
    → IsSound app progress jobs values → IsSound app progress others values
sound_in_any_order {V} app any_order progress jobs others values same sound =
    let match = sound.outs_match in
    let Runs = λ (held : List (Job V)) (node : Node). node.running ≡ true → HasJob app held node in
    record {
      keys_and_counts = sound.keys_and_counts;
      outs_match = record {
        named = All-shuffled (IsOfNode app progress.nodes) jobs others same match.named;
        all = All-weaker (Runs jobs) (Runs others)
            (λ node has runs. sym (list_any-IsPermutation (λ (job : Job V). is_eq (key_cmp job.task.key node.task.key)) jobs others same) ∙ has runs) progress.nodes match.all;
        own = own_jobs others (any_order (map task_of jobs) (map task_of others) (own_tasks jobs match.own) (IsPermutation-map task_of jobs others same));
      };
      whole = record {
        home = sound.whole.home;
        away = λ loc inside.
            let is : is_written app jobs loc ≡ is_written app others loc = list_any-IsPermutation (λ (job : Job V). writes job.bundle.set loc) jobs others same in
            let both = sound.whole.away loc inside in
            ((λ out. sym is ∙ both.0 out), (λ written. both.1 (is ∙ written)));
        bundles = All-shuffled (λ (job : Job V). job.bundle ≡ part_of (homes values) job.bundle.set) jobs others same sound.whole.bundles;
      };
      ready = sound.ready;
      recorded_covers = sound.recorded_covers;
      running_unblocked = sound.running_unblocked;
    }
