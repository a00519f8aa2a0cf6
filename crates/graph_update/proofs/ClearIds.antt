-- The ids of the clear nodes are those of the sources that are safe.
use Rattle.std.proofs.Common.{◌≡◌, ◌&&◌, not, Bool, true, false, cond, List, [], ◌∷◌, ◌++◌, Option, Some, refl, sym, ap, subst, ◌∙◌, append_assoc}
use Rattle.std.specs.Prelude.{Contains, unwrap_or}
use Rattle.std.specs.List.{AllByRecursion, filter}
use Rattle.std.specs.Option.{option_map}
use Rattle.plain_laws.specs.Members.{all_from}
use Rattle.kdg_graph.specs.declared.node_id.NodeId.{NodeId}
use Rattle.kdg_graph.specs.Edges.{is_blocked, is_source, sources_of}
use Rattle.kdg_graph.specs.Laws.{NodesHaveIds, SourcesAreNodes}
use Rattle.kdg_graph.specs.Node.{Node}
use Rattle.kdg_graph.specs.Nodes.{IsGraph, earlier_than, ids_of, node_at, tasks_of}
use Rattle.kdg_graph.specs.NodeLaws.{found_node}
use Rattle.app_laws.specs.Applications.{Application, tasks_before}
use Rattle.run_laws.specs.Events.{clear_nodes, is_clear}
use Rattle.run_laws.specs.NodeLists.{tasks-earlier_than}

module _ {V : Type 0} (app : Application V) (nodes : List Node) where
  abbrev is_safe_node : Node → Bool
  is_safe_node node = app.is_safe node.task (tasks_before node.task.key (tasks_of nodes))

  -- whether the task of the node with the id is safe
  abbrev pub is_safe_id : NodeId → Bool
  is_safe_id id = unwrap_or (option_map is_safe_node (node_at nodes id)) false

  abbrev pub safe_ids : List NodeId → List NodeId
  safe_ids ids = filter is_safe_id ids

  safe_own : NodesHaveIds → IsGraph nodes → (node : Node) → Contains nodes node → is_safe_id node.id ≡ is_safe_node node
  safe_own have_ids graph node there = ap (λ (found : Option Node). unwrap_or (option_map is_safe_node found) false) (have_ids nodes node graph there)

  abbrev SourcesAreSafe : List Node → Type 0
  SourcesAreSafe some = safe_ids (ids_of (filter (is_source nodes) some)) ≡ ids_of (filter (is_clear app nodes) some)

  module _ (node : Node) (some : List Node) (rest : SourcesAreSafe some) where
    by_safe : (safe : Bool) → is_safe_id node.id ≡ safe → safe_ids (node.id ∷ ids_of (filter (is_source nodes) some)) ≡ ids_of (cond safe (node ∷ filter (is_clear app nodes) some) (filter (is_clear app nodes) some))
    by_safe true is = ap (λ test. cond test (node.id ∷ safe_ids (ids_of (filter (is_source nodes) some))) (safe_ids (ids_of (filter (is_source nodes) some)))) is ∙ ap (λ ids. node.id ∷ ids) rest
    by_safe false is = ap (λ test. cond test (node.id ∷ safe_ids (ids_of (filter (is_source nodes) some))) (safe_ids (ids_of (filter (is_source nodes) some)))) is ∙ rest

    by_running : is_safe_id node.id ≡ app.is_safe node.task (tasks_of (earlier_than node.task.key nodes)) → (running blocked : Bool) →
        safe_ids (ids_of (cond (not running && not blocked) (node ∷ filter (is_source nodes) some) (filter (is_source nodes) some)))
        ≡ ids_of (cond (not running && (not blocked && app.is_safe node.task (tasks_of (earlier_than node.task.key nodes)))) (node ∷ filter (is_clear app nodes) some) (filter (is_clear app nodes) some))
    by_running same true blocked = rest
    by_running same false true = rest
    by_running same false false = by_safe (app.is_safe node.task (tasks_of (earlier_than node.task.key nodes))) same

  -- of some of the nodes the sources that are safe are the clear ones
  safe_sources : (some : List Node) → AllByRecursion (λ node. is_safe_id node.id ≡ is_safe_node node) some → SourcesAreSafe some
  safe_sources [] all = refl
  safe_sources (node ∷ some) all =
      by_running node some (safe_sources some all.1) (all.0 ∙ ap (app.is_safe node.task) (sym (tasks-earlier_than node.task.key nodes))) node.running (is_blocked nodes node)

  pub clear_are_safe : NodesHaveIds → IsGraph nodes → safe_ids (sources_of nodes) ≡ ids_of (clear_nodes app nodes)
  clear_are_safe have_ids graph = safe_sources nodes (all_from (λ (node : Node). is_safe_id node.id ≡ is_safe_node node) nodes (safe_own have_ids graph))

  -- one source more is passed
  pub next_passed : (clear : List NodeId) (id : NodeId) (left all : List NodeId) → clear ++ safe_ids (id ∷ left) ≡ all
      → (is_safe_id id ≡ true → (clear ++ id ∷ []) ++ safe_ids left ≡ all) × (is_safe_id id ≡ false → clear ++ safe_ids left ≡ all)
  next_passed clear id left all passed = (
    (λ safe. append_assoc clear (id ∷ []) (safe_ids left) ∙ ap (λ test. clear ++ cond test (id ∷ safe_ids left) (safe_ids left)) (sym safe) ∙ passed),
    (λ unsafe. ap (λ test. clear ++ cond test (id ∷ safe_ids left) (safe_ids left)) (sym unsafe) ∙ passed),
  )

  -- what the test of a source's task answers
  pub answer_is : SourcesAreNodes → IsGraph nodes → (id : NodeId) → Contains (sources_of nodes) id → (seen : List Node) → seen ≡ nodes → (answer : Bool)
      → ((node : Node) → node_at seen id ≡ Some node → answer ≡ app.is_safe node.task (tasks_before node.task.key (tasks_of seen))) → is_safe_id id ≡ answer
  answer_is are_nodes graph id source seen same answer is =
      let node = found_node nodes id (are_nodes nodes id graph source) in
      let answers = subst (λ (seen : List Node). (node : Node) → node_at seen id ≡ Some node → answer ≡ app.is_safe node.task (tasks_before node.task.key (tasks_of seen))) same is in
      ap (λ (found : Option Node). unwrap_or (option_map is_safe_node found) false) node.1 ∙ sym (answers node.0 node.1)
