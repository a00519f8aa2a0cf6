-- Where the sets of an application are fixed, each recorded set is the declared one.
use Rattle.std.proofs.Common.{◌≡◌, ⊎_elim, Bool, true, false, cond, List, [], ◌∷◌, map, Some, refl, sym, ap, subst, ◌∙◌}
use Rattle.std.specs.Prelude.{Contains, unwrap_or}
use Rattle.std.specs.List.{AllByRecursion, find}
use Rattle.std.specs.Option.{option_map}
use Rattle.std.specs.Ordering.{is_lt}
use Rattle.plain_laws.specs.Members.{all_at, all_from, from_filter, here, in_map, there}
use Rattle.task_order.specs.Key.{key_cmp}
use Rattle.rw_sets.specs.Accesses.{Accesses, conflicts_with}
use Rattle.cell_store.specs.declared.cell.Cell.{Cell}
use Rattle.cell_store.specs.Cells.{cells_given}
use Rattle.kdg_graph.specs.declared.change.Fresh.{Fresh}
use Rattle.kdg_graph.specs.declared.change.SetChange.{SetChange}
use Rattle.kdg_graph.specs.declared.node_id.NodeId.{NodeId}
use Rattle.kdg_graph.specs.Laws.{NodesHaveIds}
use Rattle.kdg_graph.specs.Node.{Node}
use Rattle.kdg_graph.specs.Nodes.{IsGraph, is_at, later_than, started, tasks_of}
use Rattle.kdg_graph.specs.Rewrite.{set_after, with_sets, without}
use Rattle.kdg_graph.specs.NodeLaws.{same_id}
use Rattle.app_laws.specs.declared.app.SetAnswer.TheVariants as answer
use Rattle.app_laws.specs.Applications.{Application, AreFitTasks, IsFitTask, set_in}
use Rattle.run_laws.specs.Jobs.{Done, Job}
use Rattle.graph_update.specs.Engine.{HaveFixedSets}
use Rattle.run_laws.specs.Events.{fresh_from, renewals, renewed}
use Rattle.graph_update.specs.Basis.{EndBasis}
use Rattle.run_laws.specs.Finishes.{IsEnd, IsPerformedTask}
use Rattle.run_laws.specs.Progress.{Progress}
use Rattle.graph_update.proofs.Renewing.{affected, change_of}

module _ {V : Type 0} (app : Application V) where
  -- a walk over the cells finds the recorded set
  abbrev IsFound : List (Cell V) → Node → Type 0
  IsFound cells node = app.walk node.task.body cells ≡ answer.Known node.set

  -- ---- at the beginning, and where a node starts

  pub first_are_fixed : (values : List V) → app.is_fit_cells values → (nodes : List Node) → AreFitTasks app (tasks_of nodes)
      → AllByRecursion (λ node. node.set ≡ set_in app values node.task) nodes → HaveFixedSets app nodes
  first_are_fixed values fit [] fit_tasks sets fixed cells = tt
  first_are_fixed values fit (node ∷ nodes) fit_tasks sets fixed cells = (
    fixed node.task cells values fit fit_tasks.0 ∙ ap (λ set. answer.Known set) (sym sets.0),
    first_are_fixed values fit nodes fit_tasks.1 sets.1 fixed cells,
  )

  found_started : (id : NodeId) (cells : List (Cell V)) (nodes : List Node) → AllByRecursion (IsFound cells) nodes → AllByRecursion (IsFound cells) (started id nodes)
  found_started id cells [] all = tt
  found_started id cells (node ∷ nodes) all = (
    elim (is_at id node) as (λ test. let now : Node = cond test (record node { running = true }) node in IsFound cells now) [ true ↦ all.0 | false ↦ all.0 ],
    found_started id cells nodes all.1,
  )

  pub fixed_started : (id : NodeId) (nodes now : List Node) → now ≡ started id nodes → HaveFixedSets app nodes → HaveFixedSets app now
  fixed_started id nodes now is have = subst (HaveFixedSets app) (sym is) (λ fixed cells. found_started id cells nodes (have fixed cells))

  -- ---- where a task ends

  module _ (have_ids : NodesHaveIds) (cells : List (Cell V)) (nodes : List Node) (graph : IsGraph nodes) (found : AllByRecursion (IsFound cells) nodes) (ended : Node) where
    own : (node other : Node) → Contains nodes node → Contains nodes other → node.id ≡ other.id → node ≡ other
    own node other has has_other same =
        let first = have_ids nodes node graph has in
        let second = have_ids nodes other graph has_other in
        cc

    module _ (node : Node) (has : Contains nodes node) where
      from_changes : (others : List Node) → ((other : Node) → Contains others other → Contains nodes other) → set_after (map (change_of app cells nodes ended) others) node ≡ node.set
      from_changes [] each = refl
      from_changes (other ∷ others) each = by_case (is_at other.id node) refl (from_changes others (λ later has. each later (there other later others has)))
        where
          by_case : (test : Bool) → is_at other.id node ≡ test → set_after (map (change_of app cells nodes ended) others) node ≡ node.set
              → unwrap_or (option_map (λ (change : SetChange). change.set) (cond test (Some (change_of app cells nodes ended other)) (find (λ (change : SetChange). is_at change.node node) (map (change_of app cells nodes ended) others)))) node.set ≡ node.set
          by_case true is rest =
              let there_is = each other (here other others) in
              ap (renewed app ended.set other.set) (all_at (IsFound cells) nodes other found there_is) ∙ ap (λ (n : Node). n.set) (own other node there_is has (sym (same_id other.id node is)))
          by_case false is rest = rest

      -- the renewed sets are the recorded ones
      pub set_stays : set_after (renewals app cells nodes ended) node ≡ node.set
      set_stays = from_changes (affected app cells nodes ended) (λ other among.
          let later = (from_filter (λ other. conflicts_with ended.set other.set) (later_than ended.task.key nodes) other among).0 in
          (from_filter (λ other. is_lt (key_cmp ended.task.key other.task.key)) nodes other later).0)

    -- so they make the same nodes as no change
    pub same_nodes : (some : List Node) → ((node : Node) → Contains some node → Contains nodes node) → with_sets [] some ≡ with_sets (renewals app cells nodes ended) some
    same_nodes [] each = refl
    same_nodes (node ∷ some) each =
        ap (λ (set : Accesses). let one : Node = record node { set = set } in one ∷ with_sets [] some) (sym (set_stays node (each node (here node some))))
        ∙ ap (λ (others : List Node). let one : Node = record node { set = set_after (renewals app cells nodes ended) node } in one ∷ others) (same_nodes some (λ later has. each later (there node later some has)))

    pub others_same : (id : NodeId) (changes : List SetChange) → changes ≡ [] → with_sets changes (without id nodes) ≡ with_sets (renewals app cells nodes ended) (without id nodes)
    others_same id changes none =
        ap (λ changes. with_sets changes (without id nodes)) none ∙ same_nodes (without id nodes) (λ node has. (from_filter _ nodes node has).0)

module _ {V : Type 0} {app : Application V} (basis : EndBasis app) where
  known : {old now : Progress V} {done : Done V} {job : Job V} {jobs others : List (Job V)} {values : List V} → IsEnd app old jobs values done job others now → IsPerformedTask app old values done job
  known {old} {now} {done} {job} {jobs} {others} {values} end = basis.performed old done job jobs others values end.sound end.performed

  pub fixed_after : {old now : Progress V} {done : Done V} {job : Job V} {jobs others : List (Job V)} {values : List V} → IsEnd app old jobs values done job others now
      → HaveFixedSets app old.nodes → HaveFixedSets app now.nodes
  fixed_after {old} {now} {done} {job} {jobs} {others} {values} end have fixed cells = all_from (IsFound app cells) now.nodes (λ node has.
      ⊎_elim
      (λ kept.
      let stays = set_stays app basis.lower.have_ids (cells_given old.cells done.effect.bundle) old.nodes end.sound.keys_and_counts.graph (have fixed (cells_given old.cells done.effect.bundle)) end.finished.node kept.0 kept.1 in
      subst (IsFound app cells) (sym (kept.3 ∙ ap (λ (set : Accesses). let one : Node = record kept.0 { set = set } in one) stays)) (all_at (IsFound app cells) old.nodes kept.0 (have fixed cells) kept.1))
      (λ fresh.
      let fit : IsFitTask app node.task = all_at (IsFitTask app) (tasks_of now.nodes) node.task (basis.stay_ready old now done job jobs others values end).tasks (in_map (λ node. node.task) now.nodes node has) in
      let same_item : node.set ≡ fresh.0.set = ap (λ (node : Node). node.set) fresh.2 in
      let same_task : node.task ≡ fresh.0.task = ap (λ (node : Node). node.task) fresh.2 in
      let declared = same_item ∙ all_at (λ (item : Fresh). item.set ≡ set_in app (app.act job.task values).cells item.task) (fresh_from done.task.key 0 done.effect.children) fresh.0 (known end).handed fresh.1 ∙ ap (λ task. set_in app (app.act job.task values).cells task) (sym same_task) in
      fixed node.task cells (app.act job.task values).cells (known end).fit_after fit ∙ ap (λ set. answer.Known set) (sym declared))
      (basis.lower.no_other old.nodes end.finished.node.id (renewals app (cells_given old.cells done.effect.bundle) old.nodes end.finished.node) (fresh_from done.task.key 0 done.effect.children) now.nodes end.finished.nodes node has))
