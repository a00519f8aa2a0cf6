-- The running nodes, and the clear ones, stay unblocked where another task ends.
use Rattle.std.proofs.Common.{◌≡◌, ◌≢◌, Bool, true, false, not, cond, List, [], ◌∷◌, map, refl, sym, ap, subst, ◌∙◌, ⊎_elim}
use Rattle.std.specs.Prelude.{Contains}
use Rattle.std.specs.List.{AllByRecursion}
use Rattle.std.specs.Ordering.{is_lt}
use Rattle.std.proofs.lemmas.Bool.{true≢false, and_from, and_parts}
use Rattle.plain_laws.specs.Orderings.{less_from_test}
use Rattle.plain_laws.specs.Members.{all_at, all_from, from_filter, from_map, in_filter, in_map, none_any}
use Rattle.task_order.specs.declared.key.Key.{Key}
use Rattle.task_order.specs.declared.task.Task.{Task}
use Rattle.task_order.specs.Key.{key_cmp}
use Rattle.task_order.specs.TaskList.{is_earlier, tasks_before}
use Rattle.rw_sets.specs.Accesses.{Accesses, Conflicts, IsWithin, conflicts_with, merged}
use Rattle.cell_store.specs.Cells.{cells_given}
use Rattle.kdg_graph.specs.Edges.{is_blocked}
use Rattle.kdg_graph.specs.Node.{Node}
use Rattle.kdg_graph.specs.Nodes.{earlier_than, tasks_of}
use Rattle.kdg_graph.specs.Rewrite.{set_after}
use Rattle.app_laws.specs.declared.app.SetAnswer.{SetAnswer}
use Rattle.app_laws.specs.declared.app.SetAnswer.TheVariants as answer
use Rattle.app_laws.specs.Applications.{Application, IsTrueAnswer, set_in}
use Rattle.commuting.specs.Clear.{IsClear}
use Rattle.run_laws.specs.Jobs.{Done, Job}
use Rattle.run_laws.specs.Events.{fresh_from, renewals, renewed}
use Rattle.run_laws.specs.FinishBasis.{FinishBasis}
use Rattle.run_laws.specs.Finishes.{IsEnd}
use Rattle.run_laws.specs.Progress.{Progress, whole_state}
use Rattle.run_laws.specs.Sound.{is_unblocked}
use Rattle.run_laws.proofs.Ended.{covered, whole_after}
use Rattle.run_laws.proofs.EndedNodes.{independent_of_ended, running_is_free, runs_unblocked, set_unchanged, unblocked_apart}
use Rattle.run_laws.proofs.EndedSets.{covers_of, independent_tasks, item_set, moves_within, same_set, set_cases}

-- the tasks of the earlier nodes are the earlier tasks
tasks_earlier : (key : Key) (nodes : List Node) → tasks_of (earlier_than key nodes) ≡ tasks_before key (tasks_of nodes)
tasks_earlier key [] = refl
tasks_earlier key (node ∷ nodes) =
    let rest = tasks_earlier key nodes in
    elim (is_lt (key_cmp node.task.key key)) as (λ test. map (λ (node : Node). node.task) (cond test (node ∷ earlier_than key nodes) (earlier_than key nodes)) ≡ cond test (node.task ∷ tasks_before key (tasks_of nodes)) (tasks_before key (tasks_of nodes))) [
      | true ↦ ap (λ tasks. node.task ∷ tasks) rest
      | false ↦ rest
    ]

module _ {V : Type 0} {app : Application V} (basis : FinishBasis app) where
  no_conflict : (a b : Accesses) → ¬ Conflicts a b → conflicts_with a b ≡ false
  no_conflict a b apart = go (conflicts_with a b) refl
    where
      go : (test : Bool) → conflicts_with a b ≡ test → test ≡ false
      go true is = absurd (apart ((basis.decided a b).0 is))
      go false is = refl

  module _ {old now : Progress V} {done : Done V} {job : Job V} {jobs others : List (Job V)} {values : List V} (end : IsEnd app old jobs values done job others now) where
    -- another node that is unblocked, and whose recorded set is the declared one
    pub record IsAnotherUnblocked (was : Node) : Type 0 where
      pub has : Contains old.nodes was
      pub apart : was.id ≢ end.finished.node.id
      pub unblocked : is_unblocked app old.nodes was ≡ true
      pub own : was.set ≡ set_in app values was.task

    apart_from_ended : (was : Node) → IsAnotherUnblocked was → ¬ Conflicts end.finished.node.set was.set
    apart_from_ended was still = (basis.independent end.finished.node.set was.set).1 (independent_of_ended basis end was still.has still.unblocked still.apart)

    apart_from_earlier : (was other : Node) → IsAnotherUnblocked was → Contains old.nodes other → is_lt (key_cmp other.task.key was.task.key) ≡ true → ¬ Conflicts other.set was.set
    apart_from_earlier was other still has before conflict =
        true≢false (sym ((basis.decided other.set was.set).1 conflict) ∙ unblocked_apart basis end other was has still.unblocked (less_from_test _ before))

    clear_before : (was : Node) → IsAnotherUnblocked was → IsClear app (whole_state old values) was.task
    clear_before was still =
        let parts = and_parts (not (is_blocked old.nodes was)) (app.is_safe was.task (tasks_of (earlier_than was.task.key old.nodes))) still.unblocked in
        record {
          pending = in_map (λ node. node.task) old.nodes was still.has;
          unblocked = record {
            apart = all_from (λ other. ¬ Conflicts (set_in app values other) (set_in app values was.task)) (tasks_before was.task.key (tasks_of old.nodes)) (λ other has conflict.
                let first = from_filter (is_earlier was.task.key) (tasks_of old.nodes) other has in
                let node = from_map (λ (node : Node). node.task) old.nodes other first.0 in
                let same : node.0.task ≡ other = node.2 in
                let declared : Conflicts (set_in app values node.0.task) (set_in app values was.task) = subst (λ task. Conflicts (set_in app values task) (set_in app values was.task)) (sym same) conflict in
                let grown = basis.grows (set_in app values node.0.task) node.0.set (set_in app values was.task) (covers_of basis end node.0 node.1).within declared in
                apart_from_earlier was node.0 still node.1 (subst (λ (task : Task). is_lt (key_cmp task.key was.task.key) ≡ true) (sym same) first.1)
                (subst (λ set. Conflicts node.0.set set) (sym still.own) grown));
            safe = subst (λ tasks. app.is_safe was.task tasks ≡ true) (tasks_earlier was.task.key old.nodes) parts.1;
          };
        }

    pub free_of_ended : (was : Node) → IsAnotherUnblocked was → conflicts_with end.finished.node.set was.set ≡ false
    free_of_ended was still = no_conflict end.finished.node.set was.set (apart_from_ended was still)

    clear_after : (was : Node) → IsAnotherUnblocked was → IsClear app (whole_state now (app.act job.task values).cells) was.task
    clear_after was still =
        subst (λ state. IsClear app state was.task) (sym (whole_after basis end))
        (basis.stay_clear (whole_state old values) job.task was.task end.sound.ready (independent_tasks basis end was still.has still.apart (free_of_ended was still)) (clear_before was still))

    -- each recorded set stays within the merge with that of the task that ended
    set_within : (other : Node) → Contains old.nodes other → other.id ≢ end.finished.node.id
        → IsWithin (set_after (renewals app (cells_given old.cells done.effect.bundle) old.nodes end.finished.node) other) (merged other.set end.finished.node.set)
    set_within other has apart =
        set_cases basis end (λ set. IsWithin set (merged other.set end.finished.node.set)) other has apart
        (λ free. (basis.merges_hold other.set end.finished.node.set (covers_of basis end other has).in_range.ascending (covered basis end).in_range.ascending).0)
        (λ way found is. renewed_within found is)
      where
        renewed_within : (found : SetAnswer) → IsTrueAnswer app (set_in app (app.act job.task values).cells other.task) now.cells found
            → IsWithin (renewed app end.finished.node.set other.set found) (merged other.set end.finished.node.set)
        renewed_within (answer.Known set) is = subst (λ set. IsWithin set (merged other.set end.finished.node.set)) (sym is) (moves_within basis end other has apart)
        renewed_within (answer.Out loc) is = basis.within_itself (merged other.set end.finished.node.set)

    apart_from_kept : (was other : Node) → IsAnotherUnblocked was → Contains old.nodes other → other.id ≢ end.finished.node.id → is_lt (key_cmp other.task.key was.task.key) ≡ true
        → ¬ Conflicts (set_after (renewals app (cells_given old.cells done.effect.bundle) old.nodes end.finished.node) other) was.set
    apart_from_kept was other still has apart before conflict =
        ⊎_elim (apart_from_earlier was other still has before) (apart_from_ended was still)
        ((basis.by_parts other.set end.finished.node.set was.set (covers_of basis end other has).in_range.ascending (covered basis end).in_range.ascending).0
        (basis.grows _ (merged other.set end.finished.node.set) was.set (set_within other has apart) conflict))

    apart_from_declared : (was other : Node) → IsAnotherUnblocked was → Contains now.nodes other → is_lt (key_cmp other.task.key was.task.key) ≡ true
        → ¬ Conflicts (set_in app (app.act job.task values).cells other.task) was.set
    apart_from_declared was other still has before conflict =
        let own = still.own ∙ sym (same_set basis end was still.has still.apart (free_of_ended was still)) in
        let all = (clear_after was still).unblocked.apart in
        all_at (λ task. ¬ Conflicts (set_in app (app.act job.task values).cells task) (set_in app (app.act job.task values).cells was.task)) (tasks_before was.task.key (tasks_of now.nodes)) other.task all
        (in_filter (is_earlier was.task.key) (tasks_of now.nodes) other.task (in_map (λ node. node.task) now.nodes other has) before)
        (subst (λ set. Conflicts (set_in app (app.act job.task values).cells other.task) set) own conflict)

    apart_after : (was other : Node) → IsAnotherUnblocked was → Contains now.nodes other → is_lt (key_cmp other.task.key was.task.key) ≡ true → ¬ Conflicts other.set was.set
    apart_after was other still has before conflict =
        ⊎_elim
        (λ kept.
        let same_task : other.task ≡ kept.0.task = ap (λ (node : Node). node.task) kept.3 in
        let new_set : other.set ≡ set_after (renewals app (cells_given old.cells done.effect.bundle) old.nodes end.finished.node) kept.0 = ap (λ (node : Node). node.set) kept.3 in
        apart_from_kept was kept.0 still kept.1 kept.2 (subst (λ (task : Task). is_lt (key_cmp task.key was.task.key) ≡ true) same_task before)
        (subst (λ set. Conflicts set was.set) new_set conflict))
        (λ fresh.
        let new_set : other.set ≡ fresh.0.set = ap (λ (node : Node). node.set) fresh.2 in
        let same_task : other.task ≡ fresh.0.task = ap (λ (node : Node). node.task) fresh.2 in
        let own : other.set ≡ set_in app (app.act job.task values).cells other.task = new_set ∙ item_set basis end fresh.0 fresh.1 ∙ ap (λ task. set_in app (app.act job.task values).cells task) (sym same_task) in
        apart_from_declared was other still has before (subst (λ set. Conflicts set was.set) own conflict))
        (basis.no_other old.nodes end.finished.node.id (renewals app (cells_given old.cells done.effect.bundle) old.nodes end.finished.node) (fresh_from done.task.key 0 done.effect.children) now.nodes end.finished.nodes other has)

    pub unblocked_after : (was : Node) → IsAnotherUnblocked was → is_unblocked app now.nodes was ≡ true
    unblocked_after was still =
        let free : is_blocked now.nodes was ≡ false =
        none_any (λ (other : Node). conflicts_with other.set was.set) (earlier_than was.task.key now.nodes) (λ other has.
        let parts = from_filter (λ (node : Node). is_lt (key_cmp node.task.key was.task.key)) now.nodes other has in
        no_conflict other.set was.set (apart_after was other still parts.0 parts.1)) in
        and_from (not (is_blocked now.nodes was)) (app.is_safe was.task (tasks_of (earlier_than was.task.key now.nodes))) (ap not free)
        (subst (λ tasks. app.is_safe was.task tasks ≡ true) (sym (tasks_earlier was.task.key now.nodes)) (clear_after was still).unblocked.safe)

    pub all_unblocked : AllByRecursion (λ node. node.running ≡ true → is_unblocked app now.nodes node ≡ true) now.nodes
    all_unblocked = all_from (λ node. node.running ≡ true → is_unblocked app now.nodes node ≡ true) now.nodes (λ node has runs.
        ⊎_elim
        (λ kept.
        let still_runs : kept.0.running ≡ true = sym (ap (λ (node : Node). node.running) kept.3) ∙ runs in
        let still : IsAnotherUnblocked kept.0 = record {
          has = kept.1;
          apart = kept.2;
          unblocked = runs_unblocked basis end kept.0 kept.1 still_runs;
          own = (covers_of basis end kept.0 kept.1).running still_runs;
        } in
        let unchanged = set_unchanged basis end kept.0 kept.1 (running_is_free basis end kept.0 kept.1 still_runs) in
        let same : node ≡ kept.0 = kept.3 ∙ ap (λ (set : Accesses). let made : Node = record kept.0 { set = set } in made) unchanged in
        subst (λ node. is_unblocked app now.nodes node ≡ true) (sym same) (unblocked_after kept.0 still))
        (λ fresh. absurd (true≢false (sym runs ∙ ap (λ (node : Node). node.running) fresh.2)))
        (basis.no_other old.nodes end.finished.node.id (renewals app (cells_given old.cells done.effect.bundle) old.nodes end.finished.node) (fresh_from done.task.key 0 done.effect.children) now.nodes end.finished.nodes node has))
