-- Where a task passes the limit, its whole round does: acting never lowers how many tasks have been created.
use Rattle.std.proofs.Common.{◌≡◌, ◌+◌, ◌<◌, ◌≤◌, ℕ, suc, List, [], ◌∷◌, length, sym, ap, subst, ◌∙◌, arith}
use Rattle.std.specs.Prelude.{Contains}
use Rattle.std.proofs.lemmas.List.{length-map}
use Rattle.std.proofs.lemmas.Option.{same_Some}
use Rattle.plain_laws.specs.Members.{found_is_there, all_at, all_from, from_filter, from_map}
use Rattle.task_order.specs.declared.task.Task.{Task}
use Rattle.task_order.specs.TaskList.{without}
use Rattle.kdg_graph.specs.declared.node_id.NodeId.{NodeId}
use Rattle.kdg_graph.specs.Node.{Node}
use Rattle.kdg_graph.specs.Nodes.{node_at, tasks_of}
use Rattle.app_laws.specs.declared.app.Effect.{Effect}
use Rattle.app_laws.specs.Applications.{Application, handed}
use Rattle.app_laws.specs.Execution.{children_from}
use Rattle.app_laws.specs.TaskLaws.{length-children_from}
use Rattle.commuting.specs.Clear.{IsClear, IsReady}
use Rattle.commuting.specs.Commuting.{AreClear}
use Rattle.commuting.specs.States.{State, after_task, after_tasks}
use Rattle.crew.specs.Jobs.{IsPerformed}
use Rattle.run_laws.specs.Acting.{IsTooMany}
use Rattle.run_laws.specs.Events.{clear_nodes, is_clear}
use Rattle.run_laws.specs.Jobs.{Done, Job}
use Rattle.run_laws.specs.Progress.{Progress, whole_state}
use Rattle.run_laws.specs.Rest.{IsClearNode}
use Rattle.run_laws.specs.Sound.{IsSound}
use Rattle.source_pool.specs.Basis.{Basis}
use Rattle.source_pool.specs.Course.{IsActing, job_tasks}
use Rattle.source_pool.specs.KeptLaws.{ActsPassWithTheRound, EndsPassWithTheRound}
use Rattle.source_pool.proofs.Acts as acts
use Rattle.source_pool.proofs.Jobs.{first_performed, job_is_clear}

module _ {V : Type 0} {app : Application V} (basis : Basis app) where
  -- ---- how many are pending

  one_act : (state : State V) (task : Task) → IsReady app state → Contains state.pending task
      → length (after_task app.act task state).pending + 1 ≡ length state.pending + length (app.act task state.cells).children
  one_act state task ready has =
      let starts = (app.act task state.cells).children in
      let others = without task.key state.pending in
      omega (
        arith,
        basis.adds_each (children_from task.key 0 starts) others,
        length-children_from task.key 0 starts,
        basis.puts_add_one task others,
        ap length (basis.put_without task state.pending ready.ascending has),
      )

  never_fewer : (state : State V) (tasks : List Task) → IsReady app state → AreClear app state tasks → length state.pending ≤ length (after_tasks app.act tasks state).pending + length tasks
  never_fewer state [] ready clear = omega arith
  never_fewer state (task ∷ tasks) ready clear =
      let stay = basis.in_turn state (task ∷ []) tasks ready clear in
      omega (arith, one_act state task ready clear.clear.0.pending, never_fewer (after_task app.act task state) tasks stay.ready stay.clear)

  -- the children of the first of the clear tasks are there in the end, or have acted
  with_children : (state : State V) (task : Task) (tasks : List Task) → IsReady app state → AreClear app state (task ∷ tasks)
      → length state.pending + length (app.act task state.cells).children ≤ length (after_tasks app.act tasks (after_task app.act task state)).pending + suc (length tasks)
  with_children state task tasks ready clear =
      let stay = basis.in_turn state (task ∷ []) tasks ready clear in
      omega (arith, one_act state task ready clear.clear.0.pending, never_fewer (after_task app.act task state) tasks stay.ready stay.clear)

  -- a performed job has as many children as its task has by the whole cells
  as_many_children : (now : Progress V) (done : Done V) (job : Job V) (jobs others : List (Job V)) (values : List V) → IsSound app now jobs values → IsPerformed app jobs done job others
      → length done.effect.children ≡ length (app.act job.task values).children
  as_many_children now done job jobs others values sound performed =
      let outcome = app.act job.task values in
      ap (λ (effect : Effect V). length effect.children) (basis.performed now done job jobs others values sound performed).ended.effect
      ∙ length-map outcome.children (handed app outcome.cells)

  -- ---- acts

  module _ (start now next : Progress V) (cells : List V) (target : State V) (text : List ℕ) (id : NodeId) (ids : List NodeId) (created limit : ℕ)
      (acting : IsActing app start cells target text now (id ∷ ids)) (many : IsTooMany app now id next created limit) where
    abbrev first : acts.FirstLeft app now acting.state target id ids
    first = acts.first basis start now cells target text id ids acting

    abbrev values : List V
    values = acting.rest.values

    abbrev state : State V
    state = acting.state

    sound : IsSound app now [] values
    sound = acting.rest.course.come.sound

    node_is_clear : (node : Node) → IsClearNode app now.nodes node → IsClear app state node.task
    node_is_clear node clear = subst (λ (s : State V). IsClear app s node.task) acting.rest.state_is (basis.suffice.clear now [] values node sound clear.0 clear.1)

    all_clear : AreClear app state (first.node.task ∷ tasks_of first.others)
    all_clear = record {
      distinct = basis.distinct (first.node.task ∷ tasks_of first.others) (first.later, first.in_order);
      clear = (
        node_is_clear first.node first.clear,
        all_from (IsClear app state) (tasks_of first.others) (λ task has.
            let from : (node : Node) × Contains first.others node × (node.task ≡ task) = from_map (λ (n : Node). n.task) first.others task has in
            subst (IsClear app state) from.2 (node_is_clear from.0 (all_at (IsClearNode app now.nodes) first.others from.0 first.others_clear from.1))),
      );
    }

    abbrev job : Job V
    job = many.played.job

    -- the job is that of the first node
    job_task : job.task ≡ first.node.task
    job_task =
        let claimed = many.played.started.claimed in
        let there = (from_filter (is_clear app now.nodes) now.nodes claimed.node (found_is_there (clear_nodes app now.nodes) _ claimed.node claimed.chosen)).0 in
        let own : claimed.node.id ≡ id = sym (ap (λ (j : Job V). j.node) claimed.job_is) ∙ many.played.started.node in
        let found = basis.have_ids now.nodes claimed.node sound.keys_and_counts.graph there in
        let same = same_Some claimed.node first.node (sym found ∙ ap (node_at now.nodes) own ∙ acts.at_id basis start now cells target text id ids acting) in
        ap (λ (j : Job V). j.task) claimed.job_is ∙ ap (λ (n : Node). n.task) same

    children_are : length many.done.effect.children ≡ length (app.act first.node.task state.cells).children
    children_are =
        let course = acting.rest.course in
        let come = basis.claims start cells course.drained course.entries now many.midway many.played.started.pick job [] values course.come many.played.started.claimed in
        as_many_children many.midway many.done job (job ∷ []) [] values come.sound many.played.performed
        ∙ ap (λ (task : Task). length (app.act task values).children) job_task
        ∙ ap (λ (s : State V). length (app.act first.node.task s.cells).children) acting.rest.state_is

    acts_pass : start.limit < now.ended + (length (id ∷ ids) + length target.pending)
    acts_pass =
        let ready = subst (IsReady app) acting.rest.state_is sound.ready in
        let grows = with_children state first.node.task (tasks_of first.others) ready all_clear in
        let claimed = many.played.started.claimed in
        let as_many : length ids ≡ length (tasks_of first.others) =
        ap length first.ids_are ∙ length-map first.others (λ (n : Node). n.id) ∙ sym (length-map first.others (λ (n : Node). n.task)) in
        let pending : length state.pending ≡ length now.nodes = ap (λ (s : State V). length s.pending) (sym acting.rest.state_is) ∙ length-map now.nodes (λ (n : Node). n.task) in
        omega (
          arith,
          grows,
          as_many,
          pending,
          children_are,
          ap (λ (s : State V). length s.pending) first.leads,
          many.above,
          ap (λ (p : Progress V). p.created) claimed.after,
          ap (λ (p : Progress V). p.limit) claimed.after,
          acting.rest.course.come.limit,
          sound.keys_and_counts.created,
        )

  pub acts_pass_with_the_round : ActsPassWithTheRound app
  acts_pass_with_the_round = acts_pass

  -- ---- ends

  pub ends_pass_with_the_round : EndsPassWithTheRound app
  ends_pass_with_the_round start now cells target text job jobs done ending is over =
      let values = ending.values in
      let here = whole_state now values in
      let come = ending.course.come in
      let sound = come.sound in
      let all_clear : AreClear app here (job_tasks (job ∷ jobs)) = record {
        distinct = basis.distinct (job_tasks (job ∷ jobs)) ending.in_order;
        clear = all_from (IsClear app here) (job_tasks (job ∷ jobs)) (λ task has.
            let from : (j : Job V) × Contains (job ∷ jobs) j × (j.task ≡ task) = from_map (λ (j : Job V). j.task) (job ∷ jobs) task has in
            subst (IsClear app here) from.2 (job_is_clear basis now (job ∷ jobs) values from.0 sound from.1));
      } in
      let grows = with_children here job.task (job_tasks jobs) sound.ready all_clear in
      let children = as_many_children now done job (job ∷ jobs) jobs values sound (first_performed app job jobs done is) in
      omega (
        arith,
        grows,
        children,
        length-map jobs (λ (j : Job V). j.task),
        length-map now.nodes (λ (n : Node). n.task),
        ap (λ (s : State V). length s.pending) ending.leads,
        over,
        come.limit,
        sound.keys_and_counts.created,
      )
