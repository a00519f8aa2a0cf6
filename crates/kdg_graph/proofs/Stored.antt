-- The nodes of a slab in key order, before and after a change.
use Rattle.std.proofs.Common.{◌≡◌, ◌≢◌, inl, inr, ℕ, zero, suc, ◌+◌, Bool, true, false, cond, List, [], ◌∷◌, length, get_or, set, filter_map, count_by, Option, Some, None, refl, sym, ◌∙◌, ap, subst, arith, Contains, IsSome, is_some, filter, is_lt, Less, not, map, eq-eqb, true≢false}
use Rattle.plain_laws.specs.Orderings.{less_from_test}
use Rattle.task_order.specs.KeyLaws.{not_past_earlier}
use Rattle.kdg_graph.proofs.Common.{AllByRecursion, length-filter, sum_by-cons, Slab, Updates, entries, entries_from, get, slab_len, values, ContainsKey-within, Updates-set, key_cmp, key_cmp_total, IsAscending, AreStored, Node, HaveOwnIds, put_node, tasks_of, AreKept, IsStored, in_order, nodes_of, cases, none, cases_eq, ContainsKey, with_value, Updates-with_value, PutsKeepAscending, IsNewKey, Accesses, IsAscendingSet, NodeId, HasNode, HaveSets, IsGraph, is_at, node_at, started, with_sets, without, all_at, all_from, from_filter, in_filter, in_map}
use Rattle.kdg_graph.proofs.Keeping.{changed, graph_put, graph_started, graph_with_set, with_set_if}
use Rattle.kdg_graph.proofs.KeyOrder.{put_first, is_before}
use Rattle.kdg_graph.proofs.Lanes.{differ_at, stored_others, new_id, stored_has, stored_key, stored_map, stored_put, stored_same}
use Rattle.kdg_graph.proofs.LookUps.{key_later}
use Rattle.kdg_graph.proofs.Rewrites.{in_put_new, in_put_old}
use Rattle.kdg_graph.proofs.Selecting.{length-put}
use Rattle.kdg_graph.specs.NodeLaws.{ascending_filtered, not_at, own_filtered, start, start_keeps_id}

-- ---- two nodes are put in in either order

put_behind : (node other : Node) (nodes : List Node) → is_before node.task.key other ≡ true → put_node node (other ∷ nodes) ≡ other ∷ put_node node nodes
put_behind node other nodes is = ap (λ past. cond past (other ∷ put_node node nodes) (node ∷ other ∷ nodes)) is

put_here : (node other : Node) (nodes : List Node) → is_before node.task.key other ≡ false → put_node node (other ∷ nodes) ≡ node ∷ other ∷ nodes
put_here node other nodes is = ap (λ past. cond past (other ∷ put_node node nodes) (node ∷ other ∷ nodes)) is

puts_commute : (a b : Node) (nodes : List Node) → key_cmp a.task.key b.task.key ≡ Less → put_node b (put_node a nodes) ≡ put_node a (put_node b nodes)
puts_commute a b [] less = put_behind b a [] (ap is_lt less) ∙ sym (put_here a b [] (not_past_earlier a.task.key b.task.key less))
puts_commute a b (other ∷ nodes) less =
    let by_case : (one two : Bool) → is_before a.task.key other ≡ one → is_before b.task.key other ≡ two → put_node b (put_node a (other ∷ nodes)) ≡ put_node a (put_node b (other ∷ nodes)) = elim [
      | true ↦ λ two is_one _.
          let behind : is_before b.task.key other ≡ true = ap is_lt (key_cmp_total.trans other.task.key a.task.key b.task.key (less_from_test _ is_one) less) in
          ap (put_node b) (put_behind a other nodes is_one)
          ∙ put_behind b other (put_node a nodes) behind
          ∙ ap (λ l. other ∷ l) (puts_commute a b nodes less)
          ∙ sym (ap (put_node a) (put_behind b other nodes behind) ∙ put_behind a other (put_node b nodes) is_one)
      | false ↦ elim [
        | true ↦ λ is_one is_two.
            ap (put_node b) (put_here a other nodes is_one)
            ∙ put_behind b a (other ∷ nodes) (ap is_lt less)
            ∙ ap (λ l. a ∷ l) (put_behind b other nodes is_two)
            ∙ sym (ap (put_node a) (put_behind b other nodes is_two) ∙ put_here a other (put_node b nodes) is_one)
        | false ↦ λ is_one is_two.
            ap (put_node b) (put_here a other nodes is_one)
            ∙ put_behind b a (other ∷ nodes) (ap is_lt less)
            ∙ ap (λ l. a ∷ l) (put_here b other nodes is_two)
            ∙ sym (ap (put_node a) (put_here b other nodes is_two) ∙ put_here a b (other ∷ nodes) (not_past_earlier a.task.key b.task.key less))
      ]
    ] in
    by_case (is_before a.task.key other) (is_before b.task.key other) refl refl

-- ---- the nodes of slots

abbrev ordered : List (Option Node) → List Node
ordered slots = in_order (filter_map (λ slot. slot) slots)

-- the earliest one is put in last
taken : (slots : List (Option Node)) (key : ℕ) (node : Node) → get_or slots key None ≡ Some node → ((other : ℕ) (later : Node) → other ≢ key → get_or slots other None ≡ Some later → key_cmp node.task.key later.task.key ≡ Less)
    → ordered slots ≡ put_node node (ordered (set slots key None))
taken [] key node is first = absurd (let wrong : None ≡ Some node = is in cc)
taken (slot ∷ slots) zero node is first = ap (λ s. ordered (s ∷ slots)) is
taken (None ∷ slots) (suc key) node is first = taken slots key node is (λ other later differs. first (suc other) later (λ same. differs (omega (arith, same))))
taken (Some found ∷ slots) (suc key) node is first =
    ap (put_node found) (taken slots key node is (λ other later differs. first (suc other) later (λ same. differs (omega (arith, same)))))
    ∙ puts_commute node found (ordered (set slots key None)) (first 0 found (λ same. omega (arith, same)) refl)

nothing_kept : (slots : List (Option Node)) → ((key : ℕ) (node : Node) → get_or slots key None ≡ Some node → ⊥) → ordered slots ≡ []
nothing_kept [] empty = refl
nothing_kept (None ∷ slots) empty = nothing_kept slots (λ key. empty (suc key))
nothing_kept (Some node ∷ slots) empty = absurd (empty 0 node refl)

-- a slab without one of its nodes
abbrev but_one : Slab Node → ℕ → Slab Node
but_one slots key = record slots { slots = set slots.slots key None }

none_earlier : (node : Node) (nodes : List Node) → AllByRecursion (λ other. key_cmp node.task.key other.key ≡ Less) (tasks_of nodes) → AllByRecursion (λ other. is_before node.task.key other ≡ false) nodes
none_earlier node [] all = tt
none_earlier node (other ∷ nodes) all = (not_past_earlier node.task.key other.task.key all.0, none_earlier node nodes all.1)

-- the nodes of a slab are the ones that are kept there
are_in_order : (slots : Slab Node) (nodes : List Node) → IsAscending (tasks_of nodes) → HaveOwnIds nodes → AreStored slots nodes → ((key : ℕ) (node : Node) → get slots key ≡ Some node → (node.id.at ≡ key) × Contains nodes node) → nodes_of slots ≡ nodes
are_in_order slots [] up own stored all = nothing_kept slots.slots (λ key node is. none node (all key node is).1)
are_in_order slots (node ∷ nodes) up own stored all =
    let key : ℕ = node.id.at in
    let updates : Updates slots (but_one slots key) key None = Updates-set slots (but_one slots key) key None (ContainsKey-within slots key (subst IsSome (sym stored.0) refl)) refl in
    let differs_from : (other : ℕ) (kept : Node) → other ≢ key → get slots other ≡ Some kept → Contains nodes kept = λ other kept differs is.
    let was : (kept.id.at ≡ other) × Contains (node ∷ nodes) kept = all other kept is in
    elim (cases node kept nodes was.1) [
      | inl same ↦ absurd (differs (sym was.0 ∙ ap (λ (n : Node). n.id.at) (sym same)))
      | inr later ↦ later
    ] in
    let apart : (other : ℕ) (kept : Node) → get (but_one slots key) other ≡ Some kept → other ≢ key = λ other kept is same.
    let found : None ≡ Some kept = sym updates.changed ∙ ap (get (but_one slots key)) (sym same) ∙ is in cc in
    let rest : nodes_of (but_one slots key) ≡ nodes =
    are_in_order (but_one slots key) nodes up.1 own.1 (stored_others slots (but_one slots key) key None nodes updates (differ_at node.id nodes own.0) stored.1)
    (λ other kept is.
    let was : get slots other ≡ Some kept = sym (updates.others other (apart other kept is)) ∙ is in
    ((all other kept was).0, differs_from other kept (apart other kept is) was)) in
    taken slots.slots key node stored.0 (λ other kept differs is. key_later node nodes kept up.0 (differs_from other kept differs is))
    ∙ ap (put_node node) rest
    ∙ put_first node nodes (none_earlier node nodes up.0)

pub kept_in_order : (slots : Slab Node) (nodes : List Node) → AreKept slots nodes → IsStored slots × (nodes_of slots ≡ nodes)
kept_in_order slots nodes kept =
    let are : nodes_of slots ≡ nodes = are_in_order slots nodes kept.graph.ascending kept.graph.own_ids kept.stored kept.all in
    (subst (AreKept slots) (sym are) kept, are)

-- ---- how many there are

count_put : (p : Node → Bool) (node : Node) (nodes : List Node) → count_by p (put_node node nodes) ≡ count_by p (node ∷ nodes)
count_put p node [] = refl
count_put p node (other ∷ nodes) =
    elim (is_before node.task.key other) as (λ past. count_by p (cond past (other ∷ put_node node nodes) (node ∷ other ∷ nodes)) ≡ count_by p (node ∷ other ∷ nodes)) [
      | true ↦
          let one : Node → ℕ = λ n. cond (p n) 1 0 in
          omega (arith, count_put p node nodes, sum_by-cons one other (put_node node nodes), sum_by-cons one node (other ∷ nodes), sum_by-cons one other nodes, sum_by-cons one node nodes)
      | false ↦ refl
    ]

count_in_order : (p : Node → Bool) (nodes : List Node) → count_by p (in_order nodes) ≡ count_by p nodes
count_in_order p [] = refl
count_in_order p (node ∷ nodes) =
    let one : Node → ℕ = λ n. cond (p n) 1 0 in
    omega (arith, count_put p node (in_order nodes), count_in_order p nodes, sum_by-cons one node (in_order nodes), sum_by-cons one node nodes)

length_in_order : (nodes : List Node) → length (in_order nodes) ≡ length nodes
length_in_order [] = refl
length_in_order (node ∷ nodes) = length-put node (in_order nodes) ∙ ap suc (length_in_order nodes)

-- each slot that is taken has one value
values_counted : (slots : List (Option Node)) → count_by is_some slots ≡ length (filter_map (λ slot. slot) slots)
values_counted [] = refl
values_counted (None ∷ slots) = omega (arith, values_counted slots, sum_by-cons (λ (slot : Option Node). cond (is_some slot) 1 0) None slots)
values_counted (Some node ∷ slots) = omega (arith, values_counted slots, sum_by-cons (λ (slot : Option Node). cond (is_some slot) 1 0) (Some node) slots)

pub length_stored : (slots : Slab Node) → slab_len slots ≡ length (nodes_of slots)
length_stored slots = values_counted slots.slots ∙ sym (length_in_order (values slots))

count_entries : (p : Node → Bool) (key : ℕ) (slots : List (Option Node)) → count_by (λ (entry : ℕ × Node). p entry.1) (entries_from key slots) ≡ count_by p (filter_map (λ slot. slot) slots)
count_entries p key [] = refl
count_entries p key (None ∷ slots) = count_entries p (key + 1) slots
count_entries p key (Some node ∷ slots) =
    omega (arith, count_entries p (key + 1) slots, sum_by-cons (λ (entry : ℕ × Node). cond (p entry.1) 1 0) (key, node) (entries_from (key + 1) slots), sum_by-cons (λ (n : Node). cond (p n) 1 0) node (filter_map (λ slot. slot) slots))

-- those that pass a test are as many as the entries that do
pub count_stored : (p : Node → Bool) (slots : Slab Node) → length (filter (λ (entry : ℕ × Node). p entry.1) (entries slots)) ≡ length (filter p (nodes_of slots))
count_stored p slots =
    length-filter (λ (entry : ℕ × Node). p entry.1) (entries slots)
    ∙ count_entries p 0 slots.slots
    ∙ sym (length-filter p (nodes_of slots) ∙ count_in_order p (values slots))

-- ---- looking up

pub key_of : (slots : Slab Node) (id : NodeId) → IsStored slots → HasNode (nodes_of slots) id → ContainsKey slots id.at
key_of slots id is has = stored_key slots (nodes_of slots) id is.stored has

pub entry_of : (slots : Slab Node) (id : NodeId) → IsStored slots → HasNode (nodes_of slots) id → get slots id.at ≡ node_at (nodes_of slots) id
entry_of slots id is has = stored_has slots (nodes_of slots) id is.stored has

-- ---- room is made

pub room_stored : (old new : Slab Node) → new.slots ≡ old.slots → IsStored old → IsStored new
room_stored old new same is =
    let kept : AreKept new (nodes_of old) = record { graph = is.graph; stored = stored_same old new (nodes_of old) same is.stored; all = λ key node at. is.all key node (ap (λ slots. get_or slots key None) (sym same) ∙ at) } in
    (kept_in_order new (nodes_of old) kept).0

-- ---- a node is put in

pub put_stored : PutsKeepAscending → (old new : Slab Node) (node : Node) (key : ℕ) → node.id.at ≡ key → IsStored old → get old key ≡ None → Updates old new key (Some node) → IsNewKey node.task.key (tasks_of (nodes_of old)) → IsAscendingSet node.set
    → IsStored new × (nodes_of new ≡ put_node node (nodes_of old))
put_stored keeps old new node at_key is_id is vacant put new_key set =
    let none : get old node.id.at ≡ None = ap (get old) is_id ∙ vacant in
    let updates : Updates old new node.id.at (Some node) = subst (λ k. Updates old new k (Some node)) (sym is_id) put in
    let nodes : List Node = nodes_of old in
    kept_in_order new (put_node node nodes) (record {
      graph = graph_put keeps node nodes new_key set (new_id old node.id nodes none is.stored) is.graph;
      stored = stored_put old new node nodes none updates is.stored;
      all = λ key found at. elim (cases_eq key node.id.at) [
        | inl same ↦
            let now : Some node ≡ Some found = sym updates.changed ∙ ap (get new) (sym same) ∙ at in
            let here : node ≡ found = cc in
            (ap (λ (n : Node). n.id.at) (sym here) ∙ sym same, subst (Contains (put_node node nodes)) here (in_put_new node nodes))
        | inr differs ↦
            let was : (found.id.at ≡ key) × Contains nodes found = is.all key found (sym (updates.others key differs) ∙ at) in
            (was.0, in_put_old node nodes found was.1)
      ];
    })

-- ---- a node is taken out

sets_filtered : (p : Node → Bool) (nodes : List Node) → HaveSets nodes → HaveSets (filter p nodes)
sets_filtered p nodes sets = all_from (λ (node : Node). IsAscendingSet node.set) (filter p nodes) (λ node has. all_at (λ (n : Node). IsAscendingSet n.set) nodes node sets (from_filter p nodes node has).0)

graph_filtered : (p : Node → Bool) (nodes : List Node) → IsGraph nodes → IsGraph (filter p nodes)
graph_filtered p nodes graph = record { ascending = ascending_filtered p nodes graph.ascending; own_ids = own_filtered p nodes graph.own_ids; sets = sets_filtered p nodes graph.sets }

apart_by : (id : NodeId) (node : Node) → not (is_at id node) ≡ true → node.id.at ≢ id.at
apart_by id node is same = true≢false (sym is ∙ ap not (eq-eqb node.id.at id.at same))

pub removed_stored : (old new : Slab Node) (id : NodeId) → IsStored old → Updates old new id.at None → IsStored new × (nodes_of new ≡ without id (nodes_of old))
removed_stored old new id is updates =
    let nodes : List Node = nodes_of old in
    let other : Node → Bool = λ node. not (is_at id node) in
    kept_in_order new (without id nodes) (record {
      graph = graph_filtered other nodes is.graph;
      stored = all_from (λ (node : Node). get new node.id.at ≡ Some node) (without id nodes) (λ node has.
          let was : Contains nodes node × (other node ≡ true) = from_filter other nodes node has in
          updates.others node.id.at (apart_by id node was.1) ∙ all_at (λ (n : Node). get old n.id.at ≡ Some n) nodes node is.stored was.0);
      all = λ key found at.
          let differs : key ≢ id.at = λ same. absurd (let gone : None ≡ Some found = sym updates.changed ∙ ap (get new) (sym same) ∙ at in cc) in
          let was : (found.id.at ≡ key) × Contains nodes found = is.all key found (sym (updates.others key differs) ∙ at) in
          (was.0, in_filter other nodes found was.1 (ap not (not_at id found (λ same. differs (sym was.0 ∙ ap (λ (n : NodeId). n.at) same)))));
    })

-- ---- a node is changed, and keeps its id

changed_stored : (f : Node → Node) (slots : Slab Node) (id : NodeId) (node now : Node) → ((other : Node) → is_at id other ≡ false → f other ≡ other) → ((other : Node) → (f other).id ≡ other.id) → IsStored slots → get slots id.at ≡ Some node → f node ≡ now
    → Updates slots (with_value slots id.at now) id.at (Some now) → IsGraph (map f (nodes_of slots)) → IsStored (with_value slots id.at now) × (nodes_of (with_value slots id.at now) ≡ map f (nodes_of slots))
changed_stored f slots id node now keeps same is found becomes updates graph =
    let nodes : List Node = nodes_of slots in
    let new : Slab Node = with_value slots id.at now in
    let was : (node.id.at ≡ id.at) × Contains nodes node = is.all id.at node found in
    kept_in_order new (map f nodes) (record {
      graph = graph;
      stored = stored_map slots new f id nodes node now keeps same found becomes updates is.stored;
      all = λ key other at. elim (cases_eq key id.at) [
        | inl here ↦
            let changes : Some now ≡ Some other = sym updates.changed ∙ ap (get new) (sym here) ∙ at in
            let is_other : f node ≡ other = becomes ∙ cc in
            (ap (λ (n : Node). n.id.at) (sym is_other) ∙ ap (λ (n : NodeId). n.at) (same node) ∙ was.0 ∙ sym here, subst (Contains (map f nodes)) is_other (in_map f nodes node was.1))
        | inr differs ↦
            let stays : (other.id.at ≡ key) × Contains nodes other = is.all key other (sym (updates.others key differs) ∙ at) in
            let kept : f other ≡ other = keeps other (not_at id other (λ is_same. differs (sym stays.0 ∙ ap (λ (n : NodeId). n.at) is_same))) in
            (stays.0, subst (Contains (map f nodes)) kept (in_map f nodes other stays.1))
      ];
    })

updates_at : (slots : Slab Node) (id : NodeId) (node now : Node) → get slots id.at ≡ Some node → Updates slots (with_value slots id.at now) id.at (Some now)
updates_at slots id node now found = Updates-with_value slots id.at now (subst IsSome (sym found) refl)

found_at : (slots : Slab Node) (id : NodeId) (node : Node) → IsStored slots → get slots id.at ≡ Some node → is_at id node ≡ true
found_at slots id node is found = eq-eqb node.id.at id.at (is.all id.at node found).0

pub started_stored : (slots : Slab Node) (id : NodeId) (node : Node) → IsStored slots → get slots id.at ≡ Some node
    → IsStored (with_value slots id.at (record node { running = true })) × (nodes_of (with_value slots id.at (record node { running = true })) ≡ started id (nodes_of slots))
started_stored slots id node is found =
    changed_stored (start id) slots id node (record node { running = true }) (λ other differs. ap (λ test. cond test (record other { running = true }) other) differs) (start_keeps_id id) is found
    (ap (λ test. cond test (record node { running = true }) node) (found_at slots id node is found)) (updates_at slots id node (record node { running = true }) found) (graph_started id (nodes_of slots) is.graph)

pub with_set_stored : (slots : Slab Node) (id : NodeId) (node : Node) (new : Accesses) → IsAscendingSet new → IsStored slots → get slots id.at ≡ Some node
    → IsStored (with_value slots id.at (record node { set = new })) × (nodes_of (with_value slots id.at (record node { set = new })) ≡ with_sets (record { node = id; set = new } ∷ []) (nodes_of slots))
with_set_stored slots id node new up is found =
    changed_stored (changed (record { node = id; set = new } ∷ [])) slots id node (record node { set = new }) (λ other differs. ap (λ test. with_set_if id new test other) differs) (λ other. refl) is found
    (ap (λ test. with_set_if id new test node) (found_at slots id node is found)) (updates_at slots id node (record node { set = new }) found) (graph_with_set id new up (nodes_of slots) is.graph)
