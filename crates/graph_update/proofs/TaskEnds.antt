-- What is known where a task that was performed ends.
use Rattle.std.proofs.Common.{◌≡◌, ℕ, suc, ◌+◌, ◌<◌, ◌≤◌, Option, Some, List, [], ◌∷◌, length, refl, sym, ap, subst, ◌∙◌, arith}
use Rattle.std.specs.Prelude.{Contains, IsSome, option_map}
use Rattle.std.specs.List.{AllByRecursion}
use Rattle.std.specs.Option.{option_or}
use Rattle.plain_laws.specs.Members.{none}
use Rattle.task_order.specs.declared.task.Task.{Task}
use Rattle.rw_sets.specs.Accesses.{Accesses}
use Rattle.cell_store.specs.declared.cell.Cell.{Cell}
use Rattle.cell_store.specs.Cells.{AreWrittenHome, AreWrittenOut, IsBundle, bundle_of, cells_given, cells_taken, shell_of}
use Rattle.cell_store.specs.Laws.{RegainsWhatWasGiven, TakesBackWhatWasGiven}
use Rattle.cell_store.specs.Part.{Part}
use Rattle.cell_store.specs.Values.{AgreesWith}
use Rattle.output_log.specs.Entries.{Entry, IsNewEntry, with_entry}
use Rattle.kdg_graph.specs.declared.change.Fresh.{Fresh}
use Rattle.kdg_graph.specs.declared.node_id.NodeId.{NodeId}
use Rattle.kdg_graph.specs.Edges.{laters_of}
use Rattle.kdg_graph.specs.Node.{Node}
use Rattle.kdg_graph.specs.Nodes.{HasNode, IsGraph, node_at, node_with_key, set_at, task_at}
use Rattle.kdg_graph.specs.Rewrite.{IsRewritten}
use Rattle.app_laws.specs.declared.app.Effect.{Effect}
use Rattle.app_laws.specs.declared.child.Child.{Child}
use Rattle.app_laws.specs.Applications.{Application}
use Rattle.crew.specs.declared.answers.OverCause.{OverCause}
use Rattle.crew.specs.declared.answers.OverCause.TheVariants as cause
use Rattle.run_laws.specs.Jobs.{Done}
use Rattle.graph_update.specs.Engine.{FinishStaysSound, HaveFixedSets, IsKept, IsOneStepEach, StaysSound, most_tasks, EngineState}
use Rattle.run_laws.specs.Laws.{IsDone, FinishesKeepSound, MarksAndDrainsKeepSound}
use Rattle.run_laws.specs.Events.{IsOfClear, IsFinished, IsOverLimit, budget_marked, fresh_from, renewals}
use Rattle.run_laws.specs.Finishes.{IsEnded, IsPerformedTask}
use Rattle.graph_update.specs.Basis.{EndBasis}
use Rattle.run_laws.specs.Progress.{Progress}
use Rattle.run_laws.specs.Sound.{IsSound}
use Rattle.run_laws.specs.Rest.{ClearNodesStayClear}
use Rattle.graph_update.proofs.FixedSets.{fixed_after}
use Rattle.graph_update.proofs.ReadyIds.{ready_after}
use Rattle.graph_update.proofs.Renewing.{part_is}

some_there : (nodes : List Node) (node : Node) → Contains nodes node → 1 ≤ length nodes
some_there [] node has = absurd (none node has)
some_there (first ∷ nodes) node has = omega arith

-- what was given and is regained is as it was before
module _ {V : Type 0} (cells given : List (Cell V)) (bundle shell : Part V) (out : AreWrittenOut cells bundle.set) (given_is : given ≡ cells_given cells bundle) (shell_is : shell ≡ shell_of bundle) where
  pub cells_back : TakesBackWhatWasGiven V → (back : List (Cell V)) → back ≡ cells_taken given shell.set → back ≡ cells
  cells_back takes_back back is =
      is ∙ ap (λ (cells : List (Cell V)). cells_taken cells shell.set) given_is ∙ ap (λ (shell : Part V). cells_taken (cells_given cells bundle) shell.set) shell_is ∙ takes_back cells bundle out

  pub bundle_back : RegainsWhatWasGiven V → IsBundle bundle → (back : Part V) → back ≡ bundle_of given shell → back ≡ bundle
  bundle_back regains whole back is =
      is ∙ ap (λ (cells : List (Cell V)). bundle_of cells shell) given_is ∙ ap (bundle_of (cells_given cells bundle)) shell_is ∙ regains cells bundle whole out

pub effect_back : {V : Type 0} (effect : Effect V) (bundle : Part V) (text : List ℕ) → bundle ≡ effect.bundle → text ≡ effect.text → (record effect { bundle = bundle; text = text }) ≡ effect
effect_back {V} effect bundle text bundle_is text_is =
    ap (λ (bundle : Part V). let back : Effect V = record effect { bundle = bundle; text = text } in back) bundle_is
    ∙ ap (λ (text : List ℕ). let back : Effect V = record effect { text = text } in back) text_is

-- nodes and entries are as they were, and as many tasks were created as have ended and are pending
pub progress_back : {V : Type 0} (old : Progress V) (nodes : List Node) (log : List Entry) → old.created ≡ old.ended + length old.nodes
    → nodes ≡ old.nodes → log ≡ old.log → (record old { nodes = nodes; log = log; created = old.ended + length nodes }) ≡ old
progress_back {V} old nodes log counted nodes_are log_is =
    ap (λ (nodes : List Node). let back : Progress V = record old { nodes = nodes; log = log; created = old.ended + length nodes } in back) nodes_are
    ∙ ap (λ (log : List Entry). let back : Progress V = record old { log = log; created = old.ended + length old.nodes } in back) log_is
    ∙ ap (λ (created : ℕ). let back : Progress V = record old { created = created } in back) (sym counted)

-- two executions are the same with the same cells
pub with_cells : {V : Type 0} (now old : Progress V) → now ≡ old → (back cells : List (Cell V)) → back ≡ cells → (record now { cells = back }) ≡ (record old { cells = cells })
with_cells {V} now old same back cells is =
    ap (λ (progress : Progress V). let other : Progress V = record progress { cells = back } in other) same
    ∙ ap (λ (cells : List (Cell V)). let other : Progress V = record old { cells = cells } in other) is

-- what is said of an engine is said of its parts, and the other way round
module _ {A V : Type 0} (meaning : A → Application V) (inside engine : EngineState A V) (done : Done V) (same : inside ≡ engine) where
  pub inside_done : IsDone (meaning engine.app) engine.progress done → IsDone (meaning inside.app) inside.progress done
  inside_done is = subst (λ (state : EngineState A V). IsDone (meaning state.app) state.progress done) (sym same) is

  pub engine_finished : (now : Progress V) → IsFinished (meaning inside.app) inside.progress done now → IsFinished (meaning engine.app) engine.progress done now
  engine_finished now is = subst (λ (state : EngineState A V). IsFinished (meaning state.app) state.progress done now) same is

  pub engine_sound : (now : Progress V) → FinishStaysSound (meaning inside.app) inside.progress done now → FinishStaysSound (meaning engine.app) engine.progress done now
  engine_sound now is = subst (λ (state : EngineState A V). FinishStaysSound (meaning state.app) state.progress done now) same is

  -- a mark where a task is over the limit leaves an execution sound
  pub over_sound : MarksAndDrainsKeepSound (meaning engine.app) → (over : Option OverCause)
      → over ≡ option_or inside.progress.over (Some (cause.Budget (inside.progress.created + length done.effect.children) inside.progress.limit))
      → StaysSound (meaning engine.app) engine.progress (record inside.progress { over = over })
  over_sound laws over over_is jobs values sound =
      let marked : (record inside.progress { over = over }) ≡ budget_marked (meaning engine.app) engine.progress done =
      ap (λ (over : Option OverCause). let now : Progress V = record inside.progress { over = over } in now) over_is
      ∙ ap (λ (state : EngineState A V). budget_marked (meaning state.app) state.progress done) same in
      subst (λ (now : Progress V). IsSound (meaning engine.app) now jobs values) (sym marked) (laws.over_limit engine.progress done jobs values sound)

module _ {V : Type 0} {app : Application V} (basis : EndBasis app) (old : Progress V) (done : Done V) (is : IsDone app old done) where
  pub known : IsPerformedTask app old is.values done is.job
  known = basis.performed old done is.job is.jobs is.others is.values is.sound is.performed

  ended : IsEnded app old is.values done is.job known.node
  ended = known.ended

  -- the node of the task has the id that the job named
  id_is : known.node.id ≡ done.node
  id_is = known.id

  pub node_is : option_map (λ (node : Node). node.id) (node_with_key old.nodes done.task.key) ≡ Some done.node
  node_is = ap (option_map (λ (node : Node). node.id)) ended.found ∙ ap (λ (id : NodeId). Some id) id_is

  -- the task that its id finds is that of the job
  pub task_is : (task : Task) → task_at old.nodes done.node ≡ Some task → task ≡ done.task
  task_is task at =
      let node = known.node in
      let there : node_at old.nodes done.node ≡ Some node = subst (λ (id : NodeId). node_at old.nodes id ≡ Some node) id_is ended.at_id in
      sym (part_is (λ (node : Node). node.task) (node_at old.nodes done.node) task node at there) ∙ ended.task ∙ ended.job_task

  -- what is made with that task's key is made with the key of the job's
  pub fresh_is : (task : Task) → task_at old.nodes done.node ≡ Some task → (children : List Child) → children ≡ done.effect.children
      → (fresh : List Fresh) → fresh ≡ fresh_from task.key 0 children → fresh ≡ fresh_from done.task.key 0 done.effect.children
  fresh_is task at children all fresh made =
      made ∙ ap (λ (task : Task). fresh_from task.key 0 children) (task_is task at) ∙ ap (fresh_from done.task.key 0) all

  pub log_is : (task : Task) → task_at old.nodes done.node ≡ Some task → (before : List Entry) → before ≡ old.log
      → (log : List Entry) → log ≡ with_entry task.key done.effect.text before → log ≡ with_entry done.task.key done.effect.text old.log
  log_is task at before same log put =
      put ∙ ap (λ (task : Task). with_entry task.key done.effect.text before) (task_is task at) ∙ ap (with_entry done.task.key done.effect.text) same

  pub has_node : HasNode old.nodes done.node
  has_node = subst (HasNode old.nodes) id_is (subst IsSome (sym ended.at_id) refl)

  pub fit_given : (values : List V) × app.is_fit_cells values × AgreesWith (cells_given old.cells done.effect.bundle) values
  fit_given = ((app.act is.job.task is.values).cells, known.fit_after, known.given)

  pub entry_is_new : IsNewEntry done.task.key old.log
  entry_is_new = subst (λ (task : Task). IsNewEntry task.key old.log) is.performed.task known.new_entry

  pub ended_below : old.ended + 1 ≤ old.created
  ended_below =
      let some = some_there old.nodes known.node ended.there in
      let created = is.sound.keys_and_counts.created in
      omega (arith, some, created)

  pub created_within : old.created ≤ old.limit
  created_within = is.sound.keys_and_counts.within

  module _ (id : NodeId) (found : option_map (λ (node : Node). node.id) (node_with_key old.nodes done.task.key) ≡ Some id) where
    -- the node that has the key has the id
    node_of_id : (node : Node) → node_with_key old.nodes done.task.key ≡ Some node → node_at old.nodes id ≡ Some node
    node_of_id node has =
        let same : node.id ≡ id = part_is (λ (node : Node). node.id) (node_with_key old.nodes done.task.key) id node found has in
        let there = (basis.lower.keys_find old.nodes done.task.key node has).0 in
        ap (node_at old.nodes) (sym same) ∙ basis.lower.have_ids old.nodes node is.sound.keys_and_counts.graph there

    pub step_each : (before after : ℕ) → ((node : Node) → node_at old.nodes id ≡ Some node → after ≤ before + length (laters_of old.nodes node)) → IsOneStepEach old.nodes done.task.key before after
    step_each before after each node has = each node (node_of_id node has)

    module _ (cells : List (Cell V)) (fresh : List Fresh) (nodes : List Node) (log : List Entry) (created count : ℕ)
        (cells_are : cells ≡ cells_given old.cells done.effect.bundle) (fresh_are : fresh ≡ fresh_from done.task.key 0 done.effect.children) (graph : IsGraph nodes)
        (rewritten : (node : Node) → node_at old.nodes id ≡ Some node → IsRewritten old.nodes id (renewals app cells old.nodes node) fresh nodes)
        (log_is : log ≡ with_entry done.task.key done.effect.text old.log)
        (created_are : created ≡ old.created + length done.effect.children) (count_is : count ≡ old.ended + 1) where
      abbrev now : Progress V
      now = record old { cells = cells; nodes = nodes; log = log; created = created; ended = count }

      pub is_finished : IsFinished app old done now
      is_finished =
          let node = known.node in
          let same : node.id ≡ id = part_is (λ (node : Node). node.id) (node_with_key old.nodes done.task.key) id node found ended.found in
          let one_more : count ≡ suc old.ended = omega (arith, count_is) in
          record {
            graph = graph;
            node = node;
            found = ended.found;
            nodes =
                subst (λ (id : NodeId). IsRewritten old.nodes id (renewals app (cells_given old.cells done.effect.bundle) old.nodes node) (fresh_from done.task.key 0 done.effect.children) nodes) (sym same)
                (subst (λ (cells : List (Cell V)). IsRewritten old.nodes id (renewals app cells old.nodes node) (fresh_from done.task.key 0 done.effect.children) nodes) cells_are
                (subst (λ (fresh : List Fresh). IsRewritten old.nodes id (renewals app cells old.nodes node) fresh nodes) fresh_are (rewritten node (node_of_id node ended.found))));
            after =
                ap (λ (cells : List (Cell V)). let next : Progress V = record old { cells = cells; nodes = nodes; log = log; created = created; ended = count } in next) cells_are
                ∙ ap (λ (log : List Entry). let next : Progress V = record old { cells = cells_given old.cells done.effect.bundle; nodes = nodes; log = log; created = created; ended = count } in next) log_is
                ∙ ap (λ (created : ℕ). let next : Progress V = record old { cells = cells_given old.cells done.effect.bundle; nodes = nodes; log = with_entry done.task.key done.effect.text old.log; created = created; ended = count } in next) created_are
                ∙ ap (λ (count : ℕ). let next : Progress V = record old {
                  cells = cells_given old.cells done.effect.bundle;
                  nodes = nodes;
                  log = with_entry done.task.key done.effect.text old.log;
                  created = old.created + length done.effect.children;
                  ended = count;
                } in next) one_more;
          }

  pub not_over : (created : ℕ) → created ≡ old.created + length done.effect.children → created ≤ old.limit → ¬ IsOverLimit app old done
  not_over created created_are within over =
      let is_over : old.limit < old.created + length done.effect.children = over in
      omega (arith, is_over, created_are, within)

  -- where it is finished, as many tasks were created as have ended and are pending
  pub counted_end : FinishesKeepSound app → ¬ IsOverLimit app old done → (cells : List (Cell V)) (nodes : List Node) (log : List Entry)
      → IsFinished app old done (record old { cells = cells; nodes = nodes; log = log; created = old.created + length done.effect.children; ended = old.ended + 1 })
      → IsFinished app old done (record old { cells = cells; nodes = nodes; log = log; created = old.ended + 1 + length nodes; ended = old.ended + 1 })
  counted_end keeps within cells nodes log finished =
      let sound = keeps old _ done is.job is.jobs is.others is.values is.sound is.performed within finished in
      subst (λ (created : ℕ). IsFinished app old done (record old { cells = cells; nodes = nodes; log = log; created = created; ended = old.ended + 1 })) sound.keys_and_counts.created finished

  -- what is kept where it is finished
  module _ (within : ¬ IsOverLimit app old done) (now : Progress V) (finished : IsFinished app old done now) where
    pub stays_fixed : HaveFixedSets app old.nodes → HaveFixedSets app now.nodes
    stays_fixed have = fixed_after basis (record { sound = is.sound; performed = is.performed; within = within; finished = finished }) have

    pub stays_ready : ClearNodesStayClear app → (ids : List NodeId) → AllByRecursion (IsOfClear app old.nodes) ids → AllByRecursion (IsOfClear app now.nodes) ids
    stays_ready stay ids clear = ready_after app stay old now done is.job is.jobs is.others is.values is.sound is.performed within finished ids clear

    module _ (keeps : FinishesKeepSound app) where
      pub stays_sound : FinishStaysSound app old done now
      stays_sound jobs others job values sound performed = keeps old now done job jobs others values sound performed within finished

      pub stays_kept : old.limit ≤ most_tasks → IsKept app now
      stays_kept limited = record {
        jobs = is.others;
        values = (app.act is.job.task is.values).cells;
        sound = stays_sound is.jobs is.others is.job is.values is.sound is.performed;
        limited = subst (λ (progress : Progress V). progress.limit ≤ most_tasks) (sym finished.after) limited;
      }

  -- ---- its new values are home

  -- the set that its id finds is that of its bundle
  set_is : (set : Accesses) → set_at old.nodes done.node ≡ Some set → set ≡ done.effect.bundle.set
  set_is set at =
      let node = known.node in
      let there : node_at old.nodes done.node ≡ Some node = subst (λ (id : NodeId). node_at old.nodes id ≡ Some node) id_is ended.at_id in
      sym (part_is (λ (node : Node). node.set) (node_at old.nodes done.node) set node at there) ∙ ended.job_set ∙ sym known.set

  module _ (cells : List (Cell V)) (given : cells ≡ cells_given old.cells done.effect.bundle) where
    module _ (set : Accesses) (at : set_at old.nodes done.node ≡ Some set) where
      pub written_home : AreWrittenHome cells set
      written_home =
          subst (AreWrittenHome cells) (sym (set_is set at))
          (subst (λ (cells : List (Cell V)). AreWrittenHome cells done.effect.bundle.set) (sym given)
          (basis.lower.given.leaves_home old.cells done.effect.bundle known.whole known.out))

      -- without what it writes the cells are as they were
      pub dropped : (left : List (Cell V)) → left ≡ cells_taken cells set → left ≡ old.cells
      dropped left taken =
          taken ∙ ap (cells_taken cells) (set_is set at) ∙ ap (λ (cells : List (Cell V)). cells_taken cells done.effect.bundle.set) given
          ∙ basis.lower.takes_back old.cells done.effect.bundle known.out
