-- What a rewrite does to the nodes and their tasks.
use Rattle.std.proofs.Common.{◌≢◌, List, [], ◌∷◌, is_lt, ◌≡◌, Bool, true, false, cond, not, length, Some, refl, sym, ◌∙◌, ap, subst, arith, IsSome, option_map, Less, is_eq, suc, unwrap_or, Option, None, find, ◌⊎◌, inl, inr, Contains, IfNone, IfSome, true≢false}
use Rattle.plain_laws.specs.Bools.{false_from_not}
use Rattle.plain_laws.specs.Lists.{All-filter}
use Rattle.task_order.specs.TaskListLaws.{All-put_in, All-put_all}
use Rattle.kdg_graph.proofs.Common.{AllByRecursion, cond_both, Key, Task, key_cmp, IsNewKey, put_in, put_all, tied_itself, ordering_reverse, key_cmp_total, IsAscending, has_key, tasks_without_key, NodeId, SetChange, Fresh, Node, new_node, HasNode, HaveOwnIds, IsGraph, is_at, node_at, put_node, task_at, tasks_of, AreAdded, HaveNewKeys, fresh_nodes, fresh_tasks, put_nodes, with_sets, without, Accesses, set_after, IsExactOrder, WithoutMakesNew, least_of, node_with_key, started, PutsAddOneNode, RewritesAddNoOther, RewritesAddNodes, RewritesEndNodes, RewritesKeepNodes, RewritesReplaceTasks, StartsMarkOneNode, cases, from_filter, from_map, here, in_filter, in_map, none, there}
use Rattle.kdg_graph.proofs.KeyOrder.{tasks-put_node}
use Rattle.kdg_graph.proofs.LookUps.{none_at, without_none, ids_find_nodes, keys_find_nodes, new_keys_find_none, nodes_have_ids, nodes_have_keys}
use Rattle.kdg_graph.specs.NodeLaws.{same_id, is_at-same, not_at}

-- ---- keys that are new after tasks were put in

pub new_key_put_all : (key : Key) (new tasks : List Task) → IsNewKey key new → IsNewKey key tasks → IsNewKey key (put_all new tasks)
new_key_put_all key = All-put_all (λ task. task.key ≢ key)

-- ---- the ended node

turned_differs : (a b : Key) → key_cmp a b ≡ Less → is_eq (key_cmp b a) ≡ false
turned_differs a b earlier = ap is_eq (key_cmp_total.antisymm b a ∙ ap ordering_reverse earlier)

none_with_key : (key : Key) (tasks : List Task) → AllByRecursion (λ other. key_cmp key other.key ≡ Less) tasks → tasks_without_key key tasks ≡ tasks
none_with_key key [] all = refl
none_with_key key (task ∷ tasks) all =
    ap (λ test. cond (not test) (task ∷ tasks_without_key key tasks) (tasks_without_key key tasks)) (turned_differs key task.key all.0) ∙ ap (λ rest. task ∷ rest) (none_with_key key tasks all.1)

-- the ended task, where its node is, among the tasks
pub tasks-without : (id : NodeId) (nodes : List Node) (task : Task) → IsGraph nodes → task_at nodes id ≡ Some task → tasks_of (without id nodes) ≡ tasks_without_key task.key (tasks_of nodes)
tasks-without id nodes task graph is = by_nodes id nodes task graph.ascending graph.own_ids is
  where
    later_than_first : (P : Task → Type 0) (id : NodeId) (nodes : List Node) (task : Task) → AllByRecursion P (tasks_of nodes) → task_at nodes id ≡ Some task → P task
    later_than_first P id [] task all is = cc
    later_than_first P id (node ∷ nodes) task all is =
        let by_case : (test : Bool) → option_map (λ (n : Node). n.task) (cond test (Some node) (node_at nodes id)) ≡ Some task → P task = elim [
          | true ↦ λ same. let task_is : node.task ≡ task = cc in subst P task_is all.0
          | false ↦ λ rest. later_than_first P id nodes task all.1 rest
        ] in
        by_case (is_at id node) is

    by_nodes : (id : NodeId) (nodes : List Node) (task : Task) → IsAscending (tasks_of nodes) → HaveOwnIds nodes → task_at nodes id ≡ Some task → tasks_of (without id nodes) ≡ tasks_without_key task.key (tasks_of nodes)
    by_nodes id [] task up own is = refl
    by_nodes id (node ∷ nodes) task up own is =
        let rest : List Task = tasks_of nodes in
        let by_case : (test : Bool) → is_at id node ≡ test → option_map (λ (n : Node). n.task) (cond test (Some node) (node_at nodes id)) ≡ Some task → tasks_of (cond (not test) (node ∷ without id nodes) (without id nodes)) ≡ tasks_without_key task.key (node.task ∷ rest) = elim [
          | true ↦ λ here same.
              let task_is : node.task ≡ task = cc in
              let alone : tasks_without_key node.task.key (node.task ∷ rest) ≡ rest =
              ap (λ test. cond (not test) (node.task ∷ tasks_without_key node.task.key rest) (tasks_without_key node.task.key rest)) (ap is_eq (tied_itself key_cmp_total node.task.key)) ∙ none_with_key node.task.key rest up.0 in
              ap tasks_of (without_none id nodes (none_at node.id id nodes (same_id id node here) own.0)) ∙ sym alone ∙ ap (λ (t : Task). tasks_without_key t.key (node.task ∷ rest)) task_is
          | false ↦ λ _ there.
              let first : key_cmp node.task.key task.key ≡ Less = later_than_first (λ other. key_cmp node.task.key other.key ≡ Less) id nodes task up.0 there in
              ap (λ l. node.task ∷ l) (by_nodes id nodes task up.1 own.1 there)
              ∙ sym (ap (λ test. cond (not test) (node.task ∷ tasks_without_key task.key rest) (tasks_without_key task.key rest)) (ap is_eq first))
        ] in
        by_case (is_at id node) refl is

pub ended_differs : (id : NodeId) (nodes : List Node) (task : Task) (key : Key) → IsNewKey key (tasks_of nodes) → task_at nodes id ≡ Some task → task.key ≢ key
ended_differs id [] task key new is = cc
ended_differs id (node ∷ nodes) task key new is =
    let by_case : (test : Bool) → option_map (λ (n : Node). n.task) (cond test (Some node) (node_at nodes id)) ≡ Some task → task.key ≢ key = elim [
      | true ↦ λ same. let task_is : node.task ≡ task = cc in subst (λ (t : Task). t.key ≢ key) task_is new.0
      | false ↦ λ rest. ended_differs id nodes task key new.1 rest
    ] in
    by_case (is_at id node) is

pub tasks-with_sets : (changes : List SetChange) (nodes : List Node) → tasks_of (with_sets changes nodes) ≡ tasks_of nodes
tasks-with_sets changes [] = refl
tasks-with_sets changes (node ∷ nodes) = ap (λ rest. node.task ∷ rest) (tasks-with_sets changes nodes)

-- another node stays
pub has_without : (ended id : NodeId) (nodes : List Node) → id ≢ ended → HasNode nodes id → HasNode (without ended nodes) id
has_without ended id [] differ has = has
has_without ended id (node ∷ nodes) differ has =
    let keep : (gone : Bool) → is_at ended node ≡ gone → (test : Bool) → is_at id node ≡ test → IsSome (cond test (Some node) (node_at nodes id)) → HasNode (cond (not gone) (node ∷ without ended nodes) (without ended nodes)) id = elim [
      | true ↦ λ leaves test is found. elim test as (λ t. is_at id node ≡ t → IsSome (cond t (Some node) (node_at nodes id)) → HasNode (without ended nodes) id) [
        | true ↦ λ here _. absurd (differ (sym (same_id id node here) ∙ same_id ended node leaves))
        | false ↦ λ _ rest. has_without ended id nodes differ rest
      ] is found
      | false ↦ λ _ test is found. subst (λ t. IsSome (cond t (Some node) (node_at (without ended nodes) id))) (sym is)
          (elim test as (λ t. IsSome (cond t (Some node) (node_at nodes id)) → IsSome (cond t (Some node) (node_at (without ended nodes) id))) [ true ↦ λ h. h | false ↦ λ rest. has_without ended id nodes differ rest ] found)
    ] in
    keep _ refl _ refl has

pub all_have_without : (ended : NodeId) (changes : List SetChange) (nodes : List Node) → AllByRecursion (λ change. change.node ≢ ended) changes → AllByRecursion (λ change. HasNode nodes change.node) changes → AllByRecursion (λ change. HasNode (without ended nodes) change.node) changes
all_have_without ended [] nodes differ has = tt
all_have_without ended (change ∷ changes) nodes differ has = (has_without ended change.node nodes differ.0 has.0, all_have_without ended changes nodes differ.1 has.1)

-- ---- the fresh tasks

all_new_without : (key : Key) (fresh : List Fresh) (tasks : List Task) → AllByRecursion (λ (item : Fresh). IsNewKey item.task.key tasks) fresh → AllByRecursion (λ (item : Fresh). IsNewKey item.task.key (tasks_without_key key tasks)) fresh
all_new_without key [] tasks all = tt
all_new_without key (item ∷ fresh) tasks all = (All-filter (λ task. task.key ≢ item.task.key) (λ task. not (has_key key task)) tasks all.0, all_new_without key fresh tasks all.1)

-- new keys are new among fewer tasks
pub new_without : (key : Key) (fresh : List Fresh) (tasks : List Task) → HaveNewKeys tasks fresh → HaveNewKeys (tasks_without_key key tasks) fresh
new_without key fresh tasks keys = record { new = all_new_without key fresh tasks keys.new; own = keys.own }

pub tasks-added : (nodes : List Node) (fresh : List Fresh) (now : List Node) → AreAdded nodes fresh now → tasks_of now ≡ put_all (fresh_tasks fresh) (tasks_of nodes)
tasks-added nodes fresh now added = ap tasks_of added.nodes ∙ by_ids nodes added.ids fresh added.one_each
  where
    by_ids : (nodes : List Node) (ids : List NodeId) (fresh : List Fresh) → length ids ≡ length fresh → tasks_of (put_nodes (fresh_nodes ids fresh) nodes) ≡ put_all (fresh_tasks fresh) (tasks_of nodes)
    by_ids nodes [] [] as_many = refl
    by_ids nodes [] (item ∷ fresh) as_many = absurd (omega (arith, as_many))
    by_ids nodes (id ∷ ids) [] as_many = absurd (omega (arith, as_many))
    by_ids nodes (id ∷ ids) (item ∷ fresh) as_many =
        by_ids (put_node (new_node id item.task item.set) nodes) ids fresh (omega (arith, as_many)) ∙ ap (put_all (fresh_tasks fresh)) (tasks-put_node (new_node id item.task item.set) nodes)

-- no fresh task has the key of the ended one
pub none_has_key : (id : NodeId) (nodes : List Node) (task : Task) (fresh : List Fresh) → AllByRecursion (λ (item : Fresh). IsNewKey item.task.key (tasks_of nodes)) fresh → task_at nodes id ≡ Some task → IsNewKey task.key (fresh_tasks fresh)
none_has_key id nodes task [] all is = tt
none_has_key id nodes task (item ∷ fresh) all is = ((λ same. ended_differs id nodes task item.task.key all.0 is (sym same)), none_has_key id nodes task fresh all.1 is)

-- ---- sets

abbrev changed : List SetChange → Node → Node
changed changes node = record node { set = set_after changes node }

abbrev named : List SetChange → Node → Option SetChange
named changes node = find (λ change. is_at change.node node) changes

none_named : (node : Node) (id : NodeId) (changes : List SetChange) → node.id ≡ id → AllByRecursion (λ other. other.node ≢ id) changes → named changes node ≡ None
none_named node id [] same all = refl
none_named node id (change ∷ changes) same all =
    let by_case : (test : Bool) → is_at change.node node ≡ test → cond test (Some change) (named changes node) ≡ None = elim [
      | true ↦ λ is. absurd (all.0 (sym (same_id change.node node is) ∙ same))
      | false ↦ λ _. none_named node id changes same all.1
    ] in
    by_case _ refl

abbrev set_of : Option SetChange → Accesses → Accesses
set_of change set = unwrap_or (option_map (λ (c : SetChange). c.set) change) set

set_by : (change : SetChange) (rest : Option SetChange) (set : Accesses) (test : Bool) → (test ≡ true → rest ≡ None) → set_of (cond test (Some change) rest) set ≡ set_of rest (set_of (cond test (Some change) None) set)
set_by change rest set true none = sym (ap (λ r. set_of r change.set) (none refl))
set_by change rest set false none = refl

-- the first change, and then the others
pub with_sets-cons : (change : SetChange) (changes : List SetChange) (nodes : List Node) → AllByRecursion (λ other. other.node ≢ change.node) changes → with_sets (change ∷ changes) nodes ≡ with_sets changes (with_sets (change ∷ []) nodes)
with_sets-cons change changes [] own = refl
with_sets-cons change changes (node ∷ nodes) own =
    let same : set_after (change ∷ changes) node ≡ set_after changes (changed (change ∷ []) node) =
    set_by change (named changes node) node.set (is_at change.node node) (λ is. none_named node change.node changes (same_id change.node node is) own) in
    λ i. record node { set = same i } ∷ with_sets-cons change changes nodes own i

pub has_with_sets : (changes : List SetChange) (id : NodeId) (nodes : List Node) → HasNode nodes id → HasNode (with_sets changes nodes) id
has_with_sets changes id [] has = has
has_with_sets changes id (node ∷ nodes) has =
    let by_case : (test : Bool) → IsSome (cond test (Some node) (node_at nodes id)) → IsSome (cond test (Some (changed changes node)) (node_at (with_sets changes nodes) id)) = elim [
      | true ↦ λ _. refl
      | false ↦ λ rest. has_with_sets changes id nodes rest
    ] in
    by_case (is_at id node) has

pub all_have_with_sets : (changes others : List SetChange) (nodes : List Node) → AllByRecursion (λ change. HasNode nodes change.node) others → AllByRecursion (λ change. HasNode (with_sets changes nodes) change.node) others
all_have_with_sets changes [] nodes all = tt
all_have_with_sets changes (other ∷ others) nodes all = (has_with_sets changes other.node nodes all.0, all_have_with_sets changes others nodes all.1)

-- ---- fresh nodes

still_new : (item : Fresh) (fresh : List Fresh) (tasks : List Task) → IsNewKey item.task.key (fresh_tasks fresh) → AllByRecursion (λ (other : Fresh). IsNewKey other.task.key tasks) fresh
    → AllByRecursion (λ (other : Fresh). IsNewKey other.task.key (put_in item.task tasks)) fresh
still_new item [] tasks differ all = tt
still_new item (other ∷ fresh) tasks differ all =
    (new_key_put_all other.task.key (item.task ∷ []) tasks ((λ same. differ.0 (sym same)), tt) all.0, still_new item fresh tasks differ.1 all.1)

-- the other keys stay new where the first task is put in
new_keys_next : (item : Fresh) (fresh : List Fresh) (tasks : List Task) → HaveNewKeys tasks (item ∷ fresh) → HaveNewKeys (put_in item.task tasks) fresh
new_keys_next item fresh tasks keys = record { new = still_new item fresh tasks keys.own.0 keys.new.1; own = keys.own.1 }

pub new_keys_rest : (item : Fresh) (fresh : List Fresh) (nodes : List Node) (id : NodeId) → HaveNewKeys (tasks_of nodes) (item ∷ fresh) → HaveNewKeys (tasks_of (put_node (new_node id item.task item.set) nodes)) fresh
new_keys_rest item fresh nodes id keys =
    subst (λ (l : List Task). HaveNewKeys l fresh) (sym (tasks-put_node (new_node id item.task item.set) nodes)) (new_keys_next item fresh (tasks_of nodes) keys)

pub added_first : (item : Fresh) (fresh : List Fresh) (nodes now : List Node) (id : NodeId) → AreAdded (put_node (new_node id item.task item.set) nodes) fresh now → AreAdded nodes (item ∷ fresh) now
added_first item fresh nodes now id added = record { ids = id ∷ added.ids; one_each = ap suc added.one_each; nodes = added.nodes }

-- ---- nodes put in

pub in_put_new : (node : Node) (nodes : List Node) → Contains (put_node node nodes) node
in_put_new node [] = here node []
in_put_new node (other ∷ nodes) =
    cond_both (is_lt (key_cmp other.task.key node.task.key)) (other ∷ put_node node nodes) (node ∷ other ∷ nodes) (λ (l : List Node). Contains l node)
    (λ _. there other node (put_node node nodes) (in_put_new node nodes)) (λ _. here node (other ∷ nodes))

pub in_put_old : (node : Node) (nodes : List Node) (x : Node) → Contains nodes x → Contains (put_node node nodes) x
in_put_old node [] x has = absurd (none x has)
in_put_old node (other ∷ nodes) x has =
    cond_both (is_lt (key_cmp other.task.key node.task.key)) (other ∷ put_node node nodes) (node ∷ other ∷ nodes) (λ (l : List Node). Contains l x)
    (λ _. elim (cases other x nodes has) [ inl same ↦ subst (Contains (other ∷ put_node node nodes)) same (here other (put_node node nodes)) | inr later ↦ there other x (put_node node nodes) (in_put_old node nodes x later) ])
    (λ _. there node x (other ∷ nodes) has)

from_put : (node : Node) (nodes : List Node) (x : Node) → Contains (put_node node nodes) x → (node ≡ x) ⊎ Contains nodes x
from_put node [] x has = cases node x [] has
from_put node (other ∷ nodes) x has =
    cond_both (is_lt (key_cmp other.task.key node.task.key)) (other ∷ put_node node nodes) (node ∷ other ∷ nodes) (λ (l : List Node). Contains l x → (node ≡ x) ⊎ Contains (other ∷ nodes) x)
    (λ _ h. elim (cases other x (put_node node nodes) h) [
      | inl same ↦ inr (subst (Contains (other ∷ nodes)) same (here other nodes))
      | inr later ↦ elim (from_put node nodes x later) [ inl new ↦ inl new | inr old ↦ inr (there other x nodes old) ]
    ])
    (λ _ h. cases node x (other ∷ nodes) h) has

pub puts_add_one_node : PutsAddOneNode
puts_add_one_node node nodes other = (from_put node nodes other, λ either. elim either [ inl same ↦ subst (Contains (put_node node nodes)) same (in_put_new node nodes) | inr old ↦ in_put_old node nodes other old ])

from_puts : (new nodes : List Node) (x : Node) → Contains (put_nodes new nodes) x → Contains new x ⊎ Contains nodes x
from_puts [] nodes x has = inr has
from_puts (node ∷ new) nodes x has = elim (from_puts new (put_node node nodes) x has) [
  | inl later ↦ inl (there node x new later)
  | inr rest ↦ elim (from_put node nodes x rest) [ inl same ↦ inl (subst (Contains (node ∷ new)) same (here node new)) | inr old ↦ inr old ]
]

in_puts_old : (new nodes : List Node) (x : Node) → Contains nodes x → Contains (put_nodes new nodes) x
in_puts_old [] nodes x has = has
in_puts_old (node ∷ new) nodes x has = in_puts_old new (put_node node nodes) x (in_put_old node nodes x has)

in_puts_new : (new nodes : List Node) (x : Node) → Contains new x → Contains (put_nodes new nodes) x
in_puts_new [] nodes x has = absurd (none x has)
in_puts_new (node ∷ new) nodes x has = elim (cases node x new has) [
  | inl same ↦ in_puts_old new (put_node node nodes) x (subst (Contains (put_node node nodes)) same (in_put_new node nodes))
  | inr later ↦ in_puts_new new (put_node node nodes) x later
]

-- ---- a node starts

mark : NodeId → Node → Node
mark id node = cond (is_at id node) (record node { running = true }) node

mark_keeps_id : (id : NodeId) (node : Node) → (mark id node).id ≡ node.id
unfolding mark
mark_keeps_id id node = cond_both (is_at id node) (record node { running = true }) node (λ (n : Node). n.id ≡ node.id) (λ _. refl) (λ _. refl)

pub starts_mark_one_node : StartsMarkOneNode
unfolding mark
starts_mark_one_node id [] other = refl
starts_mark_one_node id (node ∷ nodes) other =
    let same_test : is_at other (mark id node) ≡ is_at other node = ap (λ (i : NodeId). is_at other (record node { id = i })) (mark_keeps_id id node) in
    let by_case : (test : Bool) → cond test (Some (mark id node)) (node_at (started id nodes) other) ≡ option_map (mark id) (cond test (Some node) (node_at nodes other)) = elim [
      | true ↦ refl
      | false ↦ starts_mark_one_node id nodes other
    ] in
    ap (λ test. cond test (Some (mark id node)) (node_at (started id nodes) other)) same_test ∙ by_case (is_at other node)

-- ---- fresh nodes

from_fresh : (ids : List NodeId) (fresh : List Fresh) (x : Node) → Contains (fresh_nodes ids fresh) x → (item : Fresh) × Contains fresh item × (x ≡ new_node x.id item.task item.set)
from_fresh [] fresh x has = absurd (none x has)
from_fresh (id ∷ ids) [] x has = absurd (none x has)
from_fresh (id ∷ ids) (item ∷ fresh) x has = elim (cases (new_node id item.task item.set) x (fresh_nodes ids fresh) has) [
  | inl same ↦ (item, here item fresh, sym same ∙ ap (λ (n : Node). new_node n.id item.task item.set) same)
  | inr later ↦ let rest : (other : Fresh) × Contains fresh other × (x ≡ new_node x.id other.task other.set) = from_fresh ids fresh x later in (rest.0, there item rest.0 fresh rest.1, rest.2)
]

in_fresh : (ids : List NodeId) (fresh : List Fresh) (item : Fresh) → length ids ≡ length fresh → Contains fresh item → (id : NodeId) × Contains (fresh_nodes ids fresh) (new_node id item.task item.set)
in_fresh ids [] item as_many has = absurd (none item has)
in_fresh [] (other ∷ fresh) item as_many has = absurd (omega (arith, as_many))
in_fresh (id ∷ ids) (other ∷ fresh) item as_many has = elim (cases other item fresh has) [
  | inl same ↦ (id, subst (λ (i : Fresh). Contains (new_node id other.task other.set ∷ fresh_nodes ids fresh) (new_node id i.task i.set)) same (here (new_node id other.task other.set) (fresh_nodes ids fresh)))
  | inr later ↦
      let rest : (i : NodeId) × Contains (fresh_nodes ids fresh) (new_node i item.task item.set) = in_fresh ids fresh item (omega (arith, as_many)) later in
      (rest.0, there (new_node id other.task other.set) (new_node rest.0 item.task item.set) (fresh_nodes ids fresh) rest.1)
]

-- ---- kept nodes

abbrev after : List SetChange → Node → Node
after changes node = record node { set = set_after changes node }

from_kept : (ended : NodeId) (changes : List SetChange) (old : List Node) (x : Node) → Contains (with_sets changes (without ended old)) x → (was : Node) × Contains old was × (was.id ≢ ended) × (x ≡ after changes was)
from_kept ended changes old x has =
    let was : (node : Node) × Contains (without ended old) node × (after changes node ≡ x) = from_map (after changes) (without ended old) x has in
    let stays : Contains old was.0 × (not (is_at ended was.0) ≡ true) = from_filter (λ (n : Node). not (is_at ended n)) old was.0 was.1 in
    (was.0, stays.0, (λ same. true≢false (sym (is_at-same ended was.0 same) ∙ false_from_not (is_at ended was.0) stays.1)), sym was.2)

in_kept : (ended : NodeId) (changes : List SetChange) (old : List Node) (was : Node) → Contains old was → was.id ≢ ended → Contains (with_sets changes (without ended old)) (after changes was)
in_kept ended changes old was has differs = in_map (after changes) (without ended old) was (in_filter (λ (n : Node). not (is_at ended n)) old was has (ap not (not_at ended was differs)))

-- ---- laws

pub rewrites_keep_nodes : RewritesKeepNodes
rewrites_keep_nodes old ended changes fresh now graph added id node differs is =
    let found : Contains old node × (node.id ≡ id) = ids_find_nodes old id node is in
    let among : Contains now (after changes node) =
    subst (λ (l : List Node). Contains l (after changes node)) (sym added.nodes)
    (in_puts_old (fresh_nodes added.ids fresh) (with_sets changes (without ended old)) (after changes node) (in_kept ended changes old node found.0 (λ same. differs (sym found.1 ∙ same)))) in
    ap (node_at now) (sym found.1) ∙ nodes_have_ids now (after changes node) graph among

pub rewrites_add_nodes : IsExactOrder → RewritesAddNodes
rewrites_add_nodes exact old ended changes fresh now graph added item has =
    let some : (id : NodeId) × Contains (fresh_nodes added.ids fresh) (new_node id item.task item.set) = in_fresh added.ids fresh item added.one_each has in
    let node : Node = new_node some.0 item.task item.set in
    let among : Contains now node = subst (λ (l : List Node). Contains l node) (sym added.nodes) (in_puts_new (fresh_nodes added.ids fresh) (with_sets changes (without ended old)) node some.1) in
    (some.0, nodes_have_ids now node graph among, nodes_have_keys exact now node graph among)

pub rewrites_add_no_other : RewritesAddNoOther
rewrites_add_no_other old ended changes fresh now added node has =
    elim (from_puts (fresh_nodes added.ids fresh) (with_sets changes (without ended old)) node (subst (λ (l : List Node). Contains l node) added.nodes has)) [
      | inl new ↦ inr (from_fresh added.ids fresh node new)
      | inr kept ↦ inl (from_kept ended changes old node kept)
    ]

task_of_found : (nodes : List Node) (id : NodeId) (node : Node) → node_at nodes id ≡ Some node → task_at nodes id ≡ Some node.task
task_of_found nodes id node is = ap (option_map (λ (n : Node). n.task)) is

has_found : (nodes : List Node) (id : NodeId) (node : Node) → node_at nodes id ≡ Some node → HasNode nodes id
has_found nodes id node is = subst IsSome (sym is) refl

pub rewrites_replace_tasks : RewritesReplaceTasks
rewrites_replace_tasks old ended changes fresh now node graph added is =
    tasks-added (with_sets changes (without ended old)) fresh now added
    ∙ ap (put_all (fresh_tasks fresh)) (tasks-with_sets changes (without ended old) ∙ tasks-without ended old node.task graph (task_of_found old ended node is))

pub rewrites_end_nodes : IsExactOrder → WithoutMakesNew → RewritesEndNodes
rewrites_end_nodes exact makes_new old ended changes fresh now node graph keys added is =
    let new : IsNewKey node.task.key (put_all (fresh_tasks fresh) (tasks_without_key node.task.key (tasks_of old))) =
    new_key_put_all node.task.key (fresh_tasks fresh) (tasks_without_key node.task.key (tasks_of old)) (none_has_key ended old node.task fresh keys.new (task_of_found old ended node is)) (makes_new node.task.key (tasks_of old)) in
    (new_keys_find_none exact now node.task.key).1 (subst (IsNewKey node.task.key) (sym (rewrites_replace_tasks old ended changes fresh now node graph added is)) new)

-- ---- what a put or a look-up finds is there

pub there_by_put : (now : List Node) (node : Node) (nodes : List Node) → now ≡ put_node node nodes → IsGraph now → HasNode now node.id
there_by_put now node nodes is graph = has_found now node.id node (nodes_have_ids now node graph (subst (λ (l : List Node). Contains l node) (sym is) (in_put_new node nodes)))

pub there_by_key : IsExactOrder → (nodes : List Node) (key : Key) (found : Option Node) → IsGraph nodes → node_with_key nodes key ≡ found → IfSome (option_map (λ (node : Node). node.id) found) (HasNode nodes)
there_by_key exact nodes key None graph is = tt
there_by_key exact nodes key (Some node) graph is = has_found nodes node.id node (nodes_have_ids nodes node graph (keys_find_nodes exact nodes key node is).0)

pub new_by_key : IsExactOrder → (nodes : List Node) (key : Key) (found : Option Node) → node_with_key nodes key ≡ found → IfNone (option_map (λ (node : Node). node.id) found) (IsNewKey key (tasks_of nodes))
new_by_key exact nodes key None is = (new_keys_find_none exact nodes key).0 is
new_by_key exact nodes key (Some node) is = tt

pub there_by_least : (nodes : List Node) → IsGraph nodes → IfSome (least_of nodes) (HasNode nodes)
there_by_least [] graph = tt
there_by_least (node ∷ nodes) graph = has_found (node ∷ nodes) node.id node (nodes_have_ids (node ∷ nodes) node graph (here node nodes))

pub none_by_least : (nodes : List Node) → IfNone (least_of nodes) (nodes ≡ [])
none_by_least [] = refl
none_by_least (node ∷ nodes) = tt
