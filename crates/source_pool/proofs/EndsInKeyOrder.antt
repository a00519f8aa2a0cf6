-- Drawn jobs are performed in some order, and what was done is sorted by its keys: then it may end.
use Rattle.std.proofs.Common.{◌≡◌, List, [], ◌∷◌, refl, sym, subst, arith, IsPermutation}
use Rattle.std.specs.Prelude.{IsSortedByKey}
use Rattle.std.specs.List.{AllZip}
use Rattle.std.proofs.lemmas.List.Sorted.{IsPermutation-map, IsPermutation-trans, length_permutation}
use Rattle.plain_laws.specs.Lists.{some_in}
use Rattle.task_order.specs.Key.{key_cmp}
use Rattle.task_order.specs.Laws.{DistinctInAnyOrder, EarlierIsConnected}
use Rattle.task_order.specs.TaskList.{HasDistinctKeys, IsAscending}
use Rattle.cell_store.specs.Values.{values_of}
use Rattle.app_laws.specs.Applications.{Application}
use Rattle.run_laws.specs.Jobs.{Done, Job}
use Rattle.run_laws.specs.Events.{clear_nodes}
use Rattle.run_laws.specs.Progress.{Progress}
use Rattle.source_pool.specs.Course.{AreDrawn, HaveOwnKeys, IsJobDone, RunPoint, job_tasks}
use Rattle.source_pool.specs.KeptLaws.{EndsAreTheRound}
use Rattle.source_pool.specs.Laws.{DrawnJobsAreTheRound, DrawnJobsDiffer, RoundsHaveJobs}
use Rattle.source_pool.specs.Performing.{AreDone, AreDoneInSomeTurn}
use Rattle.source_pool.specs.Round.{BeginsRound, IsRoundDrawn}
use Rattle.source_pool.proofs.EarliestFirst.{ascends, done_tasks, own_tasks}
use Rattle.source_pool.proofs.EngineAtRest.{some_pending}
use Rattle.source_pool.proofs.Lists.{Beside, beside_in_order}

module _ {V : Type 0} (app : Application V) where
  -- what was done has the tasks of the jobs
  tasks_are : (jobs : List (Job V)) (dones : List (Done V)) → AllZip (IsJobDone app) jobs dones → job_tasks jobs ≡ done_tasks dones
  tasks_are [] [] each = refl
  tasks_are [] (done ∷ dones) each = absurd each
  tasks_are (job ∷ jobs) [] each = absurd each
  tasks_are (job ∷ jobs) (done ∷ dones) each = (λ i. each.0.task i ∷ tasks_are jobs dones each.1 i)

  module _ (jobs : List (Job V)) (dones sorted : List (Done V)) (performed : AreDoneInSomeTurn app jobs dones) (same : IsPermutation dones sorted) where
    -- the jobs in the order in which what was done is sorted
    in_turn : Beside (IsJobDone app) jobs sorted
    in_turn =
        let beside = beside_in_order (IsJobDone app) performed.turn dones sorted performed.done same in
        record { turn = beside.turn; same = IsPermutation-trans jobs performed.turn beside.turn performed.same beside.same; each = beside.each }

    ascending : DistinctInAnyOrder → EarlierIsConnected → HaveOwnKeys jobs → IsSortedByKey (λ (done : Done V). done.task.key) key_cmp sorted → IsAscending (job_tasks in_turn.turn)
    ascending any_order connected own in_order =
        let task_of = λ (job : Job V). job.task in
        let tasks = any_order (job_tasks jobs) (job_tasks in_turn.turn) (own_tasks jobs own) (IsPermutation-map task_of jobs in_turn.turn in_turn.same) in
        let are = tasks_are in_turn.turn sorted in_turn.each in
        subst IsAscending (sym are) (ascends connected sorted in_order (subst HasDistinctKeys are tasks))

  -- where no node is clear any more, what was done may end, and the round is done then
  module _ (from : RunPoint V) (old now : Progress V) (jobs : List (Job V)) (dones sorted : List (Done V)) (differ : DrawnJobsDiffer app) (any_order : DistinctInAnyOrder) (connected : EarlierIsConnected)
      (drawing : AreDrawn app from now jobs) (none_clear : clear_nodes app now.nodes ≡ []) (performed : AreDoneInSomeTurn app jobs dones)
      (same : IsPermutation dones sorted) (in_order : IsSortedByKey (λ (done : Done V). done.task.key) key_cmp sorted) where
    pub ends_in_key_order : DrawnJobsAreTheRound app → EndsAreTheRound app → RoundsHaveJobs app → BeginsRound app from old → now.ended ≡ old.ended → IsRoundDrawn app from (AreDone app sorted) old now
    ends_in_key_order round as_many have_jobs begins ended =
        let start = from.start in
        let cells = values_of start.cells in
        let its = in_turn jobs dones sorted performed same in
        let up = ascending jobs dones sorted performed same any_order connected (differ start now cells from.state from.text jobs drawing) in_order in
        let some = some_in jobs (have_jobs start now cells from.state from.text jobs drawing none_clear (some_pending app start old cells from.state from.text begins.rest begins.some)) in
        record {
          jobs = its.turn;
          such = its.each;
          ending = round start now cells from.state from.text jobs its.turn drawing none_clear its.same up;
          some = omega (arith, some, length_permutation jobs its.turn its.same);
          counted = as_many start now cells from.state from.text jobs its.turn drawing none_clear its.same up;
          ended = ended;
        }
