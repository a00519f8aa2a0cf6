-- The recorded sets after the end of a task cover the declared ones.
use Rattle.std.proofs.Common.{◌≡◌, ◌≢◌, ◌⊎◌, inl, inr, ℕ, suc, ◌<◌, Bool, true, false, List, [], ◌∷◌, length, map, Option, Some, None, refl, sym, ap, subst, ◌∙◌, ⊎_elim}
use Rattle.std.specs.Prelude.{Contains, IsSome, is_some, if◌then◌else◌}
use Rattle.std.specs.List.{AllByRecursion}
use Rattle.std.specs.Ordering.{is_lt}
use Rattle.std.proofs.lemmas.Bool.{true≢false}
use Rattle.plain_laws.specs.Members.{all_at, all_from, in_map}
use Rattle.task_order.specs.declared.key.Key.{Key}
use Rattle.task_order.specs.declared.start.Start.{Start}
use Rattle.rw_sets.specs.declared.access.Access.{Access}
use Rattle.rw_sets.specs.Accesses.{Accesses, AreIndependent, Conflicts, IsWithin, access_at, conflicts_with, joined, merged, writes}
use Rattle.cell_store.specs.declared.cell.Cell.{Cell}
use Rattle.cell_store.specs.Cells.{cell_at, cell_in, cells_given, part_of}
use Rattle.cell_store.specs.Home.{IsHome}
use Rattle.cell_store.specs.Values.{AgreesWith, homes}
use Rattle.kdg_graph.specs.declared.change.Fresh.{Fresh}
use Rattle.kdg_graph.specs.Node.{Node}
use Rattle.kdg_graph.specs.Nodes.{tasks_of}
use Rattle.kdg_graph.specs.Rewrite.{set_after}
use Rattle.app_laws.specs.declared.app.SetAnswer.{SetAnswer}
use Rattle.app_laws.specs.declared.app.SetAnswer.TheVariants as answer
use Rattle.app_laws.specs.Applications.{Application, IsFitTask, IsInRange, IsTrueAnswer, handed, set_in}
use Rattle.commuting.specs.Independent.{AreIndependentTasks}
use Rattle.run_laws.specs.Jobs.{Done, Job}
use Rattle.run_laws.specs.Events.{fresh_from, renewals, renewed}
use Rattle.run_laws.specs.FinishBasis.{FinishBasis}
use Rattle.run_laws.specs.Finishes.{IsEnd}
use Rattle.run_laws.specs.Progress.{Progress, whole_state}
use Rattle.run_laws.specs.Sound.{Covers}
use Rattle.run_laws.proofs.Ended.{covered, ended_node, is_there, ready_after}
use Rattle.run_laws.proofs.EndedCells.{agrees_after, cell_after, never_out}
use Rattle.run_laws.proofs.EndedNodes.{IsInTheWay, ended_key, own_key, running_is_free, runs_apart, set_changed, set_unchanged}
use Rattle.run_laws.proofs.Performed.{fit_after, is_pending}

joined_parts : (x y : Option Access) → is_some (joined x y) ≡ true → (is_some x ≡ true) ⊎ (is_some y ≡ true)
joined_parts None y some = inr some
joined_parts (Some x) None some = inl refl
joined_parts (Some x) (Some y) some = inl refl

module _ {V : Type 0} (app : Application V) where
  -- fresh tasks have their declared sets in the cells with which they were handed over
  pub fresh_sets : (cells : List V) (parent : Key) (number : ℕ) (starts : List Start)
      → AllByRecursion (λ (item : Fresh). item.set ≡ set_in app cells item.task) (fresh_from parent number (map (handed app cells) starts))
  fresh_sets cells parent number [] = tt
  fresh_sets cells parent number (start ∷ starts) = (refl, fresh_sets cells parent (suc number) starts)

module _ {V : Type 0} {app : Application V} (basis : FinishBasis app) where
  module _ {old now : Progress V} {done : Done V} {job : Job V} {jobs others : List (Job V)} {values : List V} (end : IsEnd app old jobs values done job others now) where
    pub covers_of : (was : Node) → Contains old.nodes was → Covers app old.cells values was
    covers_of was has = all_at (λ node. Covers app old.cells values node) old.nodes was end.sound.recorded_covers has

    pub fit_node : (was : Node) → Contains old.nodes was → IsFitTask app was.task
    fit_node was has = all_at (IsFitTask app) (tasks_of old.nodes) was.task end.sound.ready.tasks (in_map (λ node. node.task) old.nodes was has)

    pub keys_differ : (was : Node) → Contains old.nodes was → was.id ≢ end.finished.node.id → job.task.key ≢ was.task.key
    keys_differ was has apart same =
        apart (ap (λ (node : Node). node.id) (own_key basis end was end.finished.node has (is_there basis end) (sym same ∙ sym (ended_key basis end))))

    -- where the recorded sets don't conflict, the tasks are independent
    pub independent_tasks : (was : Node) → Contains old.nodes was → was.id ≢ end.finished.node.id → conflicts_with end.finished.node.set was.set ≡ false
        → AreIndependentTasks app (whole_state old values) job.task was.task
    independent_tasks was has apart free = record {
      task_pending = is_pending basis end.sound end.performed;
      other_pending = in_map (λ node. node.task) old.nodes was has;
      differ = keys_differ was has apart;
      apart = λ conflict.
          let ended = ended_node basis end in
          let grown : Conflicts was.set (set_in app values job.task) = basis.grows (set_in app values was.task) was.set (set_in app values job.task) (covers_of was has).within (basis.turned (set_in app values job.task) (set_in app values was.task) conflict) in
          let both : Conflicts end.finished.node.set was.set = subst (λ set. Conflicts set was.set) (sym ended.set) (basis.turned was.set (set_in app values job.task) grown) in
          true≢false (sym ((basis.decided end.finished.node.set was.set).1 both) ∙ free);
    }

    pub same_set : (was : Node) → Contains old.nodes was → was.id ≢ end.finished.node.id → conflicts_with end.finished.node.set was.set ≡ false
        → set_in app (app.act job.task values).cells was.task ≡ set_in app values was.task
    same_set was has apart free = (basis.left_alone (whole_state old values) job.task was.task end.sound.ready (independent_tasks was has apart free)).same_set

    cells_done : now.cells ≡ cells_given old.cells done.effect.bundle
    cells_done = ap (λ (progress : Progress V). progress.cells) end.finished.after

    walked : (was : Node) → Contains old.nodes was → IsTrueAnswer app (set_in app (app.act job.task values).cells was.task) now.cells (app.walk was.task.body (cells_given old.cells done.effect.bundle))
    walked was has =
        subst (λ (cells : List (Cell V)). IsTrueAnswer app (set_in app (app.act job.task values).cells was.task) cells (app.walk was.task.body (cells_given old.cells done.effect.bundle))) (sym cells_done)
        (basis.lawful.walks_are_true was.task (cells_given old.cells done.effect.bundle) (app.act job.task values).cells (fit_after basis end.sound end.performed) (fit_node was has)
        (subst (λ (cells : List (Cell V)). AgreesWith cells (app.act job.task values).cells) cells_done (agrees_after basis end)))

    -- a set after the end is the one before where there is no conflict, and else a renewed one
    pub set_cases : (P : Accesses → Type 0) (was : Node) → Contains old.nodes was → was.id ≢ end.finished.node.id
        → (conflicts_with end.finished.node.set was.set ≡ false → P was.set)
        → (IsInTheWay basis end was → (found : SetAnswer) → IsTrueAnswer app (set_in app (app.act job.task values).cells was.task) now.cells found → P (renewed app end.finished.node.set was.set found))
        → P (set_after (renewals app (cells_given old.cells done.effect.bundle) old.nodes end.finished.node) was)
    set_cases P was has apart free changed = by_case (conflicts_with end.finished.node.set was.set) refl
      where
        by_case : (test : Bool) → conflicts_with end.finished.node.set was.set ≡ test → P (set_after (renewals app (cells_given old.cells done.effect.bundle) old.nodes end.finished.node) was)
        by_case false is = subst P (sym (set_unchanged basis end was has (λ way. true≢false (sym way.1 ∙ is)))) (free is)
        by_case true is =
            ⊎_elim
            (λ before. subst P (sym (set_changed basis end was has (ap is_lt before, is))) (changed (ap is_lt before, is) (app.walk was.task.body (cells_given old.cells done.effect.bundle)) (walked was has)))
            (λ after.
            let none = runs_apart basis end was end.finished.node has (is_there basis end) (ended_node basis end).running after in
            let both = basis.turned end.finished.node.set was.set ((basis.decided end.finished.node.set was.set).0 is) in
            absurd (true≢false (sym ((basis.decided was.set end.finished.node.set).1 both) ∙ none)))
            (basis.connected end.finished.node.task.key was.task.key (λ same. apart (ap (λ (node : Node). node.id) (own_key basis end was end.finished.node has (is_there basis end) (sym same)))))

    covers_exact : (node : Node) → IsFitTask app node.task → node.set ≡ set_in app (app.act job.task values).cells node.task → Covers app now.cells (app.act job.task values).cells node
    covers_exact node fit same = record {
      in_range = subst (IsInRange app) (sym same) (basis.lawful.sets_are_in_range node.task (app.act job.task values).cells (fit_after basis end.sound end.performed) fit);
      within = subst (IsWithin (set_in app (app.act job.task values).cells node.task)) (sym same) (basis.within_itself (set_in app (app.act job.task values).cells node.task));
      running = λ runs. same;
      home = λ home. same;
    }

    home_before : (was : Node) → Contains old.nodes was → conflicts_with end.finished.node.set was.set ≡ false → (loc : ℕ) → IsSome (access_at was.set loc) → IsHome (cell_at now.cells loc) → IsHome (cell_at old.cells loc)
    home_before was has free loc some home = by_case (writes job.bundle.set loc) refl
      where
        apart : AreIndependent end.finished.node.set was.set
        apart = (basis.independent end.finished.node.set was.set).0 (λ conflict. true≢false (sym ((basis.decided end.finished.node.set was.set).1 conflict) ∙ free))

        inside : loc < length old.cells
        inside = subst (λ n. loc < n) (sym (end.sound.whole.home.as_many ∙ basis.lawful.cells_are_counted values end.sound.ready.cells)) ((covers_of was has).in_range.below loc some)

        by_case : (written : Bool) → writes job.bundle.set loc ≡ written → IsHome (cell_at old.cells loc)
        by_case true is = absurd (true≢false (sym some ∙ ap is_some (apart.left_writes loc (subst (λ set. writes set loc ≡ true) (sym (ended_node basis end).job_set) is))))
        by_case false is = subst IsHome (cell_after basis end loc inside ∙ ap (λ test. if test then cell_in (part_of (homes (app.act job.task values).cells) job.bundle.set) loc else cell_at old.cells loc) is) home

    free_covers : (was : Node) → Contains old.nodes was → was.id ≢ end.finished.node.id → conflicts_with end.finished.node.set was.set ≡ false → Covers app now.cells (app.act job.task values).cells was
    free_covers was has apart free =
        let covers = covers_of was has in
        let same = same_set was has apart free in
        record {
          in_range = covers.in_range;
          within = subst (λ set. IsWithin set was.set) (sym same) covers.within;
          running = λ runs. covers.running runs ∙ sym same;
          home = λ home. covers.home (λ loc some. home_before was has free loc some (home loc some)) ∙ sym same;
        }

    -- the declared set moves within the merge
    pub moves_within : (was : Node) → Contains old.nodes was → was.id ≢ end.finished.node.id → IsWithin (set_in app (app.act job.task values).cells was.task) (merged was.set end.finished.node.set)
    moves_within was has apart =
        let covers = covers_of was has in
        let ended = covered basis end in
        let holds = basis.merges_hold was.set end.finished.node.set covers.in_range.ascending ended.in_range.ascending in
        let within = basis.lawful.sets_stay_within job.task was.task values end.sound.ready.cells (all_at (IsFitTask app) (tasks_of old.nodes) job.task end.sound.ready.tasks (is_pending basis end.sound end.performed)) (fit_node was has) (λ same. keys_differ was has apart (sym same)) in
        let first = basis.lawful.sets_are_in_range was.task values end.sound.ready.cells (fit_node was has) in
        let second : IsInRange app (set_in app values job.task) = subst (IsInRange app) (ended_node basis end).set ended.in_range in
        basis.within_all _ (merged (set_in app values was.task) (set_in app values job.task)) _ within
        (basis.merges_least (set_in app values was.task) (set_in app values job.task) (merged was.set end.finished.node.set) first.ascending second.ascending
        (basis.within_all (set_in app values was.task) was.set (merged was.set end.finished.node.set) covers.within holds.0)
        (subst (λ set. IsWithin set (merged was.set end.finished.node.set)) (ended_node basis end).set holds.1))

    merge_in_range : (a b : Accesses) → IsInRange app a → IsInRange app b → IsInRange app (merged a b)
    merge_in_range a b first second = record {
      ascending = basis.merges_ascend a b first.ascending;
      below = λ loc some.
          ⊎_elim (λ left. first.below loc left) (λ right. second.below loc right)
          (joined_parts (access_at a loc) (access_at b loc) (sym (ap is_some (basis.merges_join a b first.ascending second.ascending loc)) ∙ some));
    }

    changed_covers : (was : Node) → Contains old.nodes was → was.id ≢ end.finished.node.id → IsInTheWay basis end was
        → (found : SetAnswer) → IsTrueAnswer app (set_in app (app.act job.task values).cells was.task) now.cells found
        → Covers app now.cells (app.act job.task values).cells (record was { set = renewed app end.finished.node.set was.set found })
    changed_covers was has apart way (answer.Known set) is = covers_exact (record was { set = set }) (fit_node was has) is
    changed_covers was has apart way (answer.Out loc) is =
        let within = moves_within was has apart in
        record {
          in_range = merge_in_range was.set end.finished.node.set (covers_of was has).in_range (covered basis end).in_range;
          within = within;
          running = λ runs. absurd (running_is_free basis end was has runs way);
          home = λ home. absurd (never_out (cell_at now.cells loc) (home loc (((basis.within_by_members _ (merged was.set end.finished.node.set)).0 within loc).0 is.1)) is.0);
        }

    pub kept_covers : (was : Node) → Contains old.nodes was → was.id ≢ end.finished.node.id
        → Covers app now.cells (app.act job.task values).cells (record was { set = set_after (renewals app (cells_given old.cells done.effect.bundle) old.nodes end.finished.node) was })
    kept_covers was has apart =
        set_cases (λ set. Covers app now.cells (app.act job.task values).cells (record was { set = set })) was has apart (free_covers was has apart) (changed_covers was has apart)

    pub item_set : (item : Fresh) → Contains (fresh_from done.task.key 0 done.effect.children) item → item.set ≡ set_in app (app.act job.task values).cells item.task
    item_set item has =
        let sets = fresh_sets app (app.act job.task values).cells done.task.key 0 (app.act job.task values).children in
        all_at (λ (item : Fresh). item.set ≡ set_in app (app.act job.task values).cells item.task) (fresh_from done.task.key 0 done.effect.children) item
        (subst (λ (effect : _). AllByRecursion (λ (item : Fresh). item.set ≡ set_in app (app.act job.task values).cells item.task) (fresh_from done.task.key 0 effect.children)) (sym (ended_node basis end).effect) sets) has

    pub covers_after : AllByRecursion (Covers app now.cells (app.act job.task values).cells) now.nodes
    covers_after = all_from (λ node. Covers app now.cells (app.act job.task values).cells node) now.nodes (λ node has.
        ⊎_elim
        (λ kept. subst (λ node. Covers app now.cells (app.act job.task values).cells node) (sym kept.3) (kept_covers kept.0 kept.1 kept.2))
        (λ fresh.
        let fit : IsFitTask app node.task = all_at (IsFitTask app) (tasks_of now.nodes) node.task (ready_after basis end).tasks (in_map (λ node. node.task) now.nodes node has) in
        let same_item : node.set ≡ fresh.0.set = ap (λ (node : Node). node.set) fresh.2 in
        let same_task : node.task ≡ fresh.0.task = ap (λ (node : Node). node.task) fresh.2 in
        covers_exact node fit (same_item ∙ item_set fresh.0 fresh.1 ∙ ap (λ task. set_in app (app.act job.task values).cells task) (sym same_task)))
        (basis.no_other old.nodes end.finished.node.id (renewals app (cells_given old.cells done.effect.bundle) old.nodes end.finished.node) (fresh_from done.task.key 0 done.effect.children) now.nodes end.finished.nodes node has))
