-- The new sets of later nodes, one node at a time.
use Rattle.std.proofs.Common.{◌≡◌, ℕ, suc, ◌+◌, ◌≤◌, Option, Some, None, List, [], ◌∷◌, ◌++◌, length, map, refl, sym, ap, subst, ◌∙◌, arith, append_assoc}
use Rattle.std.specs.Prelude.{Contains, IsSome, filter, option_map}
use Rattle.std.specs.Ordering.{is_lt}
use Rattle.std.proofs.lemmas.List.{append-nil, length-append, length-map, map-append}
use Rattle.plain_laws.specs.Members.{all_at, from_filter, here, in_map, there}
use Rattle.task_order.specs.Key.{key_cmp}
use Rattle.task_order.specs.declared.task.Task.{Task}
use Rattle.rw_sets.specs.Accesses.{Accesses, conflicts_with}
use Rattle.cell_store.specs.declared.cell.Cell.{Cell}
use Rattle.kdg_graph.specs.declared.change.SetChange.{SetChange}
use Rattle.kdg_graph.specs.declared.node_id.NodeId.{NodeId}
use Rattle.kdg_graph.specs.Edges.{laters_of}
use Rattle.kdg_graph.specs.Laws.{IdsFindNodes, LatersMayChange, NodesHaveIds}
use Rattle.kdg_graph.specs.Node.{Node}
use Rattle.kdg_graph.specs.Rewrite.{AreChangesOf}
use Rattle.kdg_graph.specs.Nodes.{HasNode, IsGraph, ids_of, later_than, node_at, tasks_of}
use Rattle.app_laws.specs.Applications.{Application, AreFitTasks}
use Rattle.run_laws.specs.Events.{renewals, renewed}

-- what is found of a node is of a node that is found
pub node_found : {X : Type 0} (part : Node → X) (found : Option Node) (is : X) → option_map part found ≡ Some is → (node : Node) × (found ≡ Some node) × (part node ≡ is)
node_found part None is found = cc
node_found part (Some node) is found =
    let same : part node ≡ is = cc in
    (node, refl, same)

pub one_found : (found : Option Node) (node other : Node) → found ≡ Some node → found ≡ Some other → node ≡ other
one_found found node other is same = cc

-- the part of a node that is found is found
pub part_is : {X : Type 0} (part : Node → X) (found : Option Node) (is : X) (node : Node) → option_map part found ≡ Some is → found ≡ Some node → part node ≡ is
part_is part found is node has same =
    let one = node_found part found is has in
    ap part (one_found found node one.0 same one.1) ∙ one.2

module _ {V : Type 0} (app : Application V) where
  pub fit_found : (nodes : List Node) (id : NodeId) (task : Task) → IdsFindNodes → AreFitTasks app (tasks_of nodes) → option_map (λ (node : Node). node.task) (node_at nodes id) ≡ Some task
      → app.is_fit_task task.key.prio task.body
  fit_found nodes id task ids_find fit found =
      let node = node_found (λ (node : Node). node.task) (node_at nodes id) task found in
      let there_is = (ids_find nodes id node.0 node.1).0 in
      let own : app.is_fit_task node.0.task.key.prio node.0.task.body = all_at (λ (task : Task). app.is_fit_task task.key.prio task.body) (tasks_of nodes) node.0.task fit (in_map (λ (node : Node). node.task) nodes node.0 there_is) in
      subst (λ (task : Task). app.is_fit_task task.key.prio task.body) node.2 own

module _ {V : Type 0} (app : Application V) (cells : List (Cell V)) (nodes : List Node) (ended : Node) where
  -- the later nodes in conflict with one that ends
  abbrev pub affected : List Node
  affected = filter (λ other. conflicts_with ended.set other.set) (later_than ended.task.key nodes)

  -- the new set of one of them
  abbrev pub change_of : Node → SetChange
  change_of other = record { node = other.id; set = renewed app ended.set other.set (app.walk other.task.body cells) }

  -- some of them have their new sets, in a step each, and the others are left
  pub record AreRenewed (start : ℕ) (left : List NodeId) (changes : List SetChange) (steps : ℕ) : Type 0 where
    pub before : List Node
    pub after : List Node
    pub all : affected ≡ before ++ after
    pub left_are : left ≡ ids_of after
    pub changes_are : changes ≡ map change_of before
    pub steps_are : steps ≡ start + length before

  pub none_renewed : (start : ℕ) (left : List NodeId) (changes : List SetChange) → left ≡ laters_of nodes ended → changes ≡ [] → AreRenewed start left changes start
  none_renewed start left changes left_are none = record {
    before = [];
    after = affected;
    all = refl;
    left_are = left_are;
    changes_are = none;
    steps_are = omega arith;
  }

  -- the next node of those that are left
  record IsNext (id : NodeId) (left : List NodeId) (after : List Node) : Type 0 where
    node : Node
    rest : List Node
    after_is : after ≡ node ∷ rest
    id_is : id ≡ node.id
    left_are : left ≡ ids_of rest

  next_of : (id : NodeId) (left : List NodeId) (after : List Node) → id ∷ left ≡ ids_of after → IsNext id left after
  next_of id left [] are = cc
  next_of id left (node ∷ rest) are =
      let head : id ≡ node.id = cc in
      let tail : left ≡ ids_of rest = cc in
      record { node = node; rest = rest; after_is = refl; id_is = head; left_are = tail }

  module _ (start : ℕ) (whole : List NodeId) (changes : List SetChange) (steps : ℕ) (renewal : AreRenewed start whole changes steps) where
    pub steps_within : steps ≤ start + length (laters_of nodes ended)
    steps_within =
        let steps_are = renewal.steps_are in
        let many : length (laters_of nodes ended) ≡ length renewal.before + length renewal.after = length-map affected (λ node. node.id) ∙ ap length renewal.all ∙ length-append renewal.before renewal.after in
        omega (arith, steps_are, many)

    pub all_renewed : whole ≡ [] → changes ≡ renewals app cells nodes ended
    all_renewed none =
        let rest : renewal.after ≡ [] = nothing renewal.after (sym none ∙ renewal.left_are) in
        let all : affected ≡ renewal.before = renewal.all ∙ ap (λ rest. renewal.before ++ rest) rest ∙ append-nil renewal.before in
        renewal.changes_are ∙ ap (map change_of) (sym all)
      where
        nothing : (after : List Node) → [] ≡ ids_of after → after ≡ []
        nothing [] is = refl
        nothing (node ∷ after) is = cc

    module _ (id : NodeId) (left : List NodeId) (is : whole ≡ id ∷ left) (ids : NodesHaveIds) (graph : IsGraph nodes) where
      next : IsNext id left renewal.after
      next = next_of id left renewal.after (sym is ∙ renewal.left_are)

      in_middle : (before : List Node) (node : Node) (rest : List Node) → Contains (before ++ node ∷ rest) node
      in_middle [] node rest = here node rest
      in_middle (first ∷ before) node rest = there first node (before ++ node ∷ rest) (in_middle before node rest)

      next_at : node_at nodes id ≡ Some next.node
      next_at =
          let among : Contains affected next.node = subst (λ list. Contains list next.node) (sym (renewal.all ∙ ap (λ rest. renewal.before ++ rest) next.after_is)) (in_middle renewal.before next.node next.rest) in
          let later = (from_filter (λ other. conflicts_with ended.set other.set) (later_than ended.task.key nodes) next.node among).0 in
          let has = (from_filter (λ other. is_lt (key_cmp ended.task.key other.task.key)) nodes next.node later).0 in
          ap (node_at nodes) next.id_is ∙ ids nodes next.node graph has

      pub has_next : HasNode nodes id
      has_next = subst IsSome (sym next_at) refl

      length_before : length (renewal.before ++ next.node ∷ []) ≡ length renewal.before + 1
      length_before = length-append renewal.before (next.node ∷ [])

      pub one_more : (set : Accesses) (made : List SetChange) (after_step : ℕ) → ((other : Node) → node_at nodes id ≡ Some other → set ≡ renewed app ended.set other.set (app.walk other.task.body cells))
          → made ≡ changes ++ (record { node = id; set = set }) ∷ [] → after_step ≡ steps + 1 → AreRenewed start left made after_step
      one_more set made after_step set_is made_is step =
          let one : SetChange = record { node = id; set = set } in
          let same : one ≡ change_of next.node =
          let found = set_is next.node next_at in
          let named = next.id_is in
          cc in
          let steps_are = renewal.steps_are in
          let longer = length_before in
          record {
            before = renewal.before ++ next.node ∷ [];
            after = next.rest;
            all = renewal.all ∙ ap (λ rest. renewal.before ++ rest) next.after_is ∙ sym (append_assoc renewal.before (next.node ∷ []) next.rest);
            left_are = next.left_are;
            changes_are = made_is ∙ ap (λ list. list ++ one ∷ []) renewal.changes_are ∙ ap (λ (last : SetChange). map change_of renewal.before ++ last ∷ []) same
                ∙ sym (map-append change_of renewal.before (next.node ∷ []));
            steps_are = omega (arith, step, steps_are, longer);
          }

      pub step_within : (after_step : ℕ) → after_step ≡ steps + 1 → after_step ≤ start + length (laters_of nodes ended)
      step_within after_step step =
          let steps_are = renewal.steps_are in
          let rest : length renewal.after ≡ suc (length next.rest) = ap length next.after_is in
          let many : length (laters_of nodes ended) ≡ length renewal.before + length renewal.after = length-map affected (λ node. node.id) ∙ ap length renewal.all ∙ length-append renewal.before renewal.after in
          omega (arith, step, steps_are, many, rest)

  -- the changes name just the later nodes in conflict
  pub changes_named : map (λ change. change.node) (renewals app cells nodes ended) ≡ laters_of nodes ended
  changes_named = go affected
    where
      go : (others : List Node) → map (λ (change : SetChange). change.node) (map change_of others) ≡ ids_of others
      go [] = refl
      go (other ∷ others) = ap (λ rest. other.id ∷ rest) (go others)

  pub are_changes : LatersMayChange → IsGraph nodes → (id : NodeId) → node_at nodes id ≡ Some ended → (changes : List SetChange) → changes ≡ renewals app cells nodes ended → AreChangesOf nodes id changes
  are_changes may_change graph id found changes is = may_change nodes id ended changes graph found (ap (map (λ change. change.node)) is ∙ changes_named)
