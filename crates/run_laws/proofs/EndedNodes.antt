-- The recorded sets after the end of a task.
use Rattle.std.proofs.Common.{◌≡◌, ◌≢◌, Bool, true, false, not, cond, List, [], ◌∷◌, map, Some, refl, sym, ap, subst, ◌∙◌, eq-eqb, ⊎_elim}
use Rattle.std.specs.Prelude.{Contains, unwrap_or}
use Rattle.std.specs.List.{filter, find}
use Rattle.std.specs.Option.{option_map}
use Rattle.std.specs.Ordering.{is_lt}
use Rattle.std.proofs.lemmas.Bool.{true≢false, and_parts}
use Rattle.plain_laws.specs.Bools.{false_from_not}
use Rattle.plain_laws.specs.Members.{none, here, there, cases, all_at, in_filter, from_filter, none_passes}
use Rattle.task_order.specs.Key.{key_cmp}
use Rattle.std.specs.declared.cmp.Ordering.TheVariants.{Less}
use Rattle.rw_sets.specs.Accesses.{Accesses, AreIndependent, conflicts_with}
use Rattle.cell_store.specs.Cells.{cells_given}
use Rattle.kdg_graph.specs.declared.change.SetChange.{SetChange}
use Rattle.kdg_graph.specs.Edges.{is_blocked}
use Rattle.kdg_graph.specs.Node.{Node}
use Rattle.kdg_graph.specs.Nodes.{is_at, node_at, earlier_than, later_than}
use Rattle.kdg_graph.specs.Rewrite.{set_after}
use Rattle.kdg_graph.specs.NodeLaws.{same_id}
use Rattle.app_laws.specs.Applications.{Application}
use Rattle.run_laws.specs.Jobs.{Done, Job}
use Rattle.run_laws.specs.Events.{renewals, renewed}
use Rattle.run_laws.specs.FinishBasis.{FinishBasis}
use Rattle.run_laws.specs.Finishes.{IsEnd}
use Rattle.run_laws.specs.Progress.{Progress}
use Rattle.run_laws.specs.Sound.{is_unblocked}
use Rattle.run_laws.proofs.Ended.{ended_node, is_there}

-- ---- sets that are changed node by node

abbrev changes_of : (Node → Accesses) → List Node → List SetChange
changes_of f nodes = map (λ (other : Node). record { node = other.id; set = f other }) nodes

set_of_changed : (f : Node → Accesses) (nodes : List Node) (node : Node) → Contains nodes node → ((other : Node) → Contains nodes other → other.id ≡ node.id → other ≡ node)
    → set_after (changes_of f nodes) node ≡ f node
set_of_changed f [] node has own = absurd (none node has)
set_of_changed f (other ∷ nodes) node has own = by_case (is_at other.id node) refl
    (λ later. set_of_changed f nodes node later (λ further has same. own further (there other further nodes has) same))
  where
    by_case : (test : Bool) → is_at other.id node ≡ test → (Contains nodes node → set_after (changes_of f nodes) node ≡ f node)
        → unwrap_or (option_map (λ (change : SetChange). change.set) (cond test (Some (record { node = other.id; set = f other })) (find (λ (change : SetChange). is_at change.node node) (changes_of f nodes)))) node.set ≡ f node
    by_case true is hypothesis = ap f (own other (here other nodes) (sym (same_id other.id node is)))
    by_case false is hypothesis = hypothesis
        (⊎_elim (λ same. absurd (true≢false (sym (eq-eqb node.id.at other.id.at (ap (λ (node : Node). node.id.at) (sym same))) ∙ is))) (λ later. later) (cases other node nodes has))

set_of_unchanged : (f : Node → Accesses) (nodes : List Node) (node : Node) → ((other : Node) → Contains nodes other → other.id ≢ node.id) → set_after (changes_of f nodes) node ≡ node.set
set_of_unchanged f [] node lacks = refl
set_of_unchanged f (other ∷ nodes) node lacks = by_case (is_at other.id node) refl
    (set_of_unchanged f nodes node (λ later has. lacks later (there other later nodes has)))
  where
    by_case : (test : Bool) → is_at other.id node ≡ test → set_after (changes_of f nodes) node ≡ node.set
        → unwrap_or (option_map (λ (change : SetChange). change.set) (cond test (Some (record { node = other.id; set = f other })) (find (λ (change : SetChange). is_at change.node node) (changes_of f nodes)))) node.set ≡ node.set
    by_case true is hypothesis = absurd (lacks other (here other nodes) (sym (same_id other.id node is)))
    by_case false is hypothesis = hypothesis

module _ {V : Type 0} {app : Application V} (basis : FinishBasis app) where
  module _ {old now : Progress V} {done : Done V} {job : Job V} {jobs others : List (Job V)} {values : List V} (end : IsEnd app old jobs values done job others now) where
    -- nodes with one id are one
    pub own_id : (node other : Node) → Contains old.nodes node → Contains old.nodes other → node.id ≡ other.id → node ≡ other
    own_id node other has has_other same =
        let first = basis.have_ids old.nodes node end.sound.keys_and_counts.graph has in
        let second = basis.have_ids old.nodes other end.sound.keys_and_counts.graph has_other in
        cc

    pub own_key : (node other : Node) → Contains old.nodes node → Contains old.nodes other → node.task.key ≡ other.task.key → node ≡ other
    own_key node other has has_other same =
        let first = basis.have_keys old.nodes node end.sound.keys_and_counts.graph has in
        let second = basis.have_keys old.nodes other end.sound.keys_and_counts.graph has_other in
        cc

    -- the node that ended has the key of the job
    pub ended_key : end.finished.node.task.key ≡ job.task.key
    ended_key =
        let ended = (ended_node basis end).task in
        cc

    ended_key_done : end.finished.node.task.key ≡ done.task.key
    ended_key_done = (basis.keys_find old.nodes done.task.key end.finished.node end.finished.found).1

    abbrev pub changes : List SetChange
    changes = renewals app (cells_given old.cells done.effect.bundle) old.nodes end.finished.node

    abbrev pub IsInTheWay : Node → Type 0
    IsInTheWay node = (is_lt (key_cmp end.finished.node.task.key node.task.key) ≡ true) × (conflicts_with end.finished.node.set node.set ≡ true)

    is_in_the_way : (node : Node) → Contains (filter (λ (other : Node). conflicts_with end.finished.node.set other.set) (later_than end.finished.node.task.key old.nodes)) node → Contains old.nodes node × IsInTheWay node
    is_in_the_way node has =
        let first = from_filter (λ (other : Node). conflicts_with end.finished.node.set other.set) (later_than end.finished.node.task.key old.nodes) node has in
        let second = from_filter (λ (other : Node). is_lt (key_cmp end.finished.node.task.key other.task.key)) old.nodes node first.0 in
        (second.0, (second.1, first.1))

    pub set_changed : (node : Node) → Contains old.nodes node → IsInTheWay node
        → set_after (renewals app (cells_given old.cells done.effect.bundle) old.nodes end.finished.node) node
        ≡ renewed app end.finished.node.set node.set (app.walk node.task.body (cells_given old.cells done.effect.bundle))
    set_changed node has way =
        set_of_changed (λ other. renewed app end.finished.node.set other.set (app.walk other.task.body (cells_given old.cells done.effect.bundle)))
        (filter (λ (other : Node). conflicts_with end.finished.node.set other.set) (later_than end.finished.node.task.key old.nodes)) node
        (in_filter (λ (other : Node). conflicts_with end.finished.node.set other.set) (later_than end.finished.node.task.key old.nodes) node
        (in_filter (λ (other : Node). is_lt (key_cmp end.finished.node.task.key other.task.key)) old.nodes node has way.0) way.1)
        (λ other in_way same. own_id other node (is_in_the_way other in_way).0 has same)

    pub set_unchanged : (node : Node) → Contains old.nodes node → (IsInTheWay node → ⊥)
        → set_after (renewals app (cells_given old.cells done.effect.bundle) old.nodes end.finished.node) node ≡ node.set
    set_unchanged node has free =
        set_of_unchanged (λ other. renewed app end.finished.node.set other.set (app.walk other.task.body (cells_given old.cells done.effect.bundle)))
        (filter (λ (other : Node). conflicts_with end.finished.node.set other.set) (later_than end.finished.node.task.key old.nodes)) node
        (λ other in_way same. free (subst IsInTheWay (own_id other node (is_in_the_way other in_way).0 has same) (is_in_the_way other in_way).1))

    -- no earlier node conflicts with an unblocked one
    pub unblocked_apart : (earlier node : Node) → Contains old.nodes earlier → is_unblocked app old.nodes node ≡ true → key_cmp earlier.task.key node.task.key ≡ Less
        → conflicts_with earlier.set node.set ≡ false
    unblocked_apart earlier node has_earlier unblocked less =
        let parts = and_parts (not (is_blocked old.nodes node)) (app.is_safe node.task (map (λ (node : Node). node.task) (earlier_than node.task.key old.nodes))) unblocked in
        none_passes (λ (other : Node). conflicts_with other.set node.set) (earlier_than node.task.key old.nodes) earlier (false_from_not (is_blocked old.nodes node) parts.0)
        (in_filter (λ (other : Node). is_lt (key_cmp other.task.key node.task.key)) old.nodes earlier has_earlier (ap is_lt less))

    -- a running node is unblocked
    pub runs_unblocked : (node : Node) → Contains old.nodes node → node.running ≡ true → is_unblocked app old.nodes node ≡ true
    runs_unblocked node has runs = all_at (λ (node : Node). node.running ≡ true → is_unblocked app old.nodes node ≡ true) old.nodes node end.sound.running_unblocked has runs

    pub runs_apart : (earlier node : Node) → Contains old.nodes earlier → Contains old.nodes node → node.running ≡ true → key_cmp earlier.task.key node.task.key ≡ Less
        → conflicts_with earlier.set node.set ≡ false
    runs_apart earlier node has_earlier has runs less = unblocked_apart earlier node has_earlier (runs_unblocked node has runs) less

    -- an unblocked node and the running one that ends are independent
    pub independent_of_ended : (node : Node) → Contains old.nodes node → is_unblocked app old.nodes node ≡ true → node.id ≢ end.finished.node.id → AreIndependent end.finished.node.set node.set
    independent_of_ended node has unblocked other =
        let ended = is_there basis end in
        (basis.independent end.finished.node.set node.set).0 (λ conflict.
        ⊎_elim
        (λ before. let apart = unblocked_apart end.finished.node node ended unblocked before in
        true≢false (sym ((basis.decided end.finished.node.set node.set).1 conflict) ∙ apart))
        (λ after. let apart = unblocked_apart node end.finished.node has (runs_unblocked end.finished.node ended (ended_node basis end).running) after in
        true≢false (sym ((basis.decided node.set end.finished.node.set).1 (basis.turned end.finished.node.set node.set conflict)) ∙ apart))
        (basis.connected end.finished.node.task.key node.task.key (λ same. other (ap (λ (node : Node). node.id) (sym (own_key end.finished.node node ended has same))))))

    pub others_apart : (node : Node) → Contains old.nodes node → node.running ≡ true → node.id ≢ end.finished.node.id → AreIndependent end.finished.node.set node.set
    others_apart node has runs other = independent_of_ended node has (runs_unblocked node has runs) other

    -- a running node isn't changed
    pub running_is_free : (node : Node) → Contains old.nodes node → node.running ≡ true → IsInTheWay node → ⊥
    running_is_free node has runs way =
        let parts = and_parts (not (is_blocked old.nodes node)) (app.is_safe node.task (map (λ (node : Node). node.task) (earlier_than node.task.key old.nodes))) (runs_unblocked node has runs) in
        let is_free : is_blocked old.nodes node ≡ false = false_from_not (is_blocked old.nodes node) parts.0 in
        let clear : conflicts_with end.finished.node.set node.set ≡ false =
        none_passes (λ (other : Node). conflicts_with other.set node.set) (earlier_than node.task.key old.nodes) end.finished.node is_free
        (in_filter (λ (other : Node). is_lt (key_cmp other.task.key node.task.key)) old.nodes end.finished.node (is_there basis end) way.0) in
        true≢false (sym way.1 ∙ clear)

    -- a node that stays is there after, with its set after
    pub stays : (node : Node) → Contains old.nodes node → node.id ≢ end.finished.node.id
        → node_at now.nodes node.id ≡ Some (record node { set = set_after (renewals app (cells_given old.cells done.effect.bundle) old.nodes end.finished.node) node })
    stays node has other =
        basis.keeps old.nodes end.finished.node.id (renewals app (cells_given old.cells done.effect.bundle) old.nodes end.finished.node) _ now.nodes end.finished.graph end.finished.nodes
        node.id node other (basis.have_ids old.nodes node end.sound.keys_and_counts.graph has)

    pub running_stays : (node : Node) → Contains old.nodes node → node.running ≡ true → node.id ≢ end.finished.node.id → Contains now.nodes node
    running_stays node has runs other =
        let same : set_after (renewals app (cells_given old.cells done.effect.bundle) old.nodes end.finished.node) node ≡ node.set = set_unchanged node has (running_is_free node has runs) in
        let found : node_at now.nodes node.id ≡ Some (record node { set = node.set }) = subst (λ (set : Accesses). node_at now.nodes node.id ≡ Some (record node { set = set })) same (stays node has other) in
        (basis.ids_find now.nodes node.id node found).0
