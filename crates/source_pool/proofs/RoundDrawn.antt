-- The jobs of all clear tasks are drawn: they may end, and the round is played then.
use Rattle.std.proofs.Common.{◌≡◌, ◌+◌, ◌++◌, ◌∙◌, List, [], length, ap, sym, subst, arith}
use Rattle.std.proofs.lemmas.List.{append-nil, length-map}
use Rattle.std.proofs.lemmas.List.Sorted.{IsPermutation-refl}
use Rattle.plain_laws.specs.Lists.{some_in}
use Rattle.task_order.specs.TaskList.{IsAscending}
use Rattle.cell_store.specs.Values.{values_of}
use Rattle.kdg_graph.specs.Node.{Node}
use Rattle.kdg_graph.specs.Nodes.{tasks_of}
use Rattle.app_laws.specs.Applications.{Application}
use Rattle.commuting.specs.Rounds.{after_round, clear_tasks}
use Rattle.crew.specs.declared.answers.OverCause.{OverCause}
use Rattle.run_laws.specs.Events.{clear_nodes}
use Rattle.run_laws.specs.Jobs.{Job}
use Rattle.run_laws.specs.Progress.{Progress}
use Rattle.source_pool.specs.Course.{AreToEnd, RunPoint, job_tasks}
use Rattle.source_pool.specs.Laws.{ClearNodesHaveClearTasks, DrawingsBegin, DrawnJobsAreTheRound, EndsComeToRest, RoundsHaveJobs}
use Rattle.source_pool.specs.Performing.{EndAtFault, HasDrawn, HaveEnded, MayEnd}
use Rattle.source_pool.specs.Round.{BeginsRound, IsEndFault, IsRoundDrawn, IsRoundFault, IsRoundPlayed, next_point}
use Rattle.source_pool.proofs.EngineAtRest.{some_pending}

module _ {V : Type 0} (app : Application V) (from : RunPoint V) (AreSuch : List (Job V) → Type 0) (old now : Progress V) where
  abbrev to : RunPoint V
  to = next_point app from from.text

  -- they are drawn, the earliest one first, until none is clear
  pub round_is_drawn : DrawingsBegin app → ClearNodesHaveClearTasks app → DrawnJobsAreTheRound app → RoundsHaveJobs app
      → BeginsRound app from old → HasDrawn app AreSuch old now → clear_nodes app now.nodes ≡ [] → now.ended ≡ old.ended → IsRoundDrawn app from AreSuch old now
  round_is_drawn begin clear round have_jobs begins drawn none_clear ended =
      let cells = values_of from.start.cells in
      let its = drawn from [] (begin from.start old cells from.state from.text begins.rest) in
      let jobs = its.0 in
      let drawing = its.2 in
      let are = clear from.start old cells from.state from.text begins.rest in
      let tasks : job_tasks jobs ≡ clear_tasks app from.state =
      sym (append-nil (job_tasks jobs)) ∙ ap (λ (nodes : List Node). job_tasks jobs ++ tasks_of nodes) (sym none_clear) ∙ sym its.3 ∙ are.0 in
      record {
        jobs = jobs;
        such = its.1;
        ending = round from.start now cells from.state from.text jobs jobs drawing none_clear (IsPermutation-refl jobs) (subst IsAscending (sym tasks) are.1);
        some = some_in jobs (have_jobs from.start now cells from.state from.text jobs drawing none_clear (some_pending app from.start old cells from.state from.text begins.rest begins.some));
        counted = sym (length-map jobs (λ (job : Job V). job.task)) ∙ ap length tasks;
        ended = ended;
      }

  module _ (its : IsRoundDrawn app from AreSuch old now) where
    -- no other job is left to end
    no_more : AreToEnd app to now (its.jobs ++ [])
    no_more = subst (AreToEnd app to now) (sym (append-nil its.jobs)) its.ending

    pub round_may_end : MayEnd app AreSuch now
    round_may_end = record { to = to; jobs = its.jobs; others = []; such = its.such; ending = no_more }

    pub round_played : EndsComeToRest app → (next : Progress V) → HaveEnded app AreSuch now next → IsRoundPlayed app from from.text old next
    round_played come_to_rest next ended =
        let have = ended to its.jobs [] its.such no_more in
        record {
          rest = come_to_rest from.start next (values_of from.start.cells) (after_round app from.state) from.text have.0;
          some = omega (arith, have.1, its.some, its.ended);
          counted = omega (arith, have.1, its.counted, its.ended);
        }

    pub round_at_fault : (why : OverCause) → EndAtFault app AreSuch now why → IsRoundFault app from old why
    round_at_fault why fault =
        let same : now.ended + length (its.jobs ++ []) ≡ old.ended + length (clear_tasks app from.state) = omega (arith, ap length (append-nil its.jobs), its.counted, its.ended) in
        subst (λ many. IsEndFault app to many why) same (fault to its.jobs [] its.such no_more)
