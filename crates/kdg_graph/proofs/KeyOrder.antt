-- Nodes in key order, filters of them, and the place of a key among them.
use Rattle.std.proofs.Common.{◌≡◌, ℕ, zero, suc, ◌<◌, ◌≤◌, Bool, true, false, cond, List, [], ◌∷◌, length, get_or, Option, Some, None, refl, sym, ◌∙◌, ap, arith, filter, insert, Ordering, Less, Equal, Greater, is_eq, is_lt, not, subst, Contains, true≢false, drop}
use Rattle.std.specs.List.Sorted.{IsPartitionedBy, IsPartitionPoint}
use Rattle.plain_laws.specs.Orderings.{less_from_test, equal_from_test}
use Rattle.task_order.specs.KeyLaws.{not_past_earlier}
use Rattle.kdg_graph.proofs.Common.{AllByRecursion, tied_itself, ordering_reverse, Key, Task, key_cmp, key_cmp_total, IsAscending, put_in, Node, node_with_key, put_node, tasks_of, cond_both, false_from_ne_true, NodeId, put_if, IsGraph, is_at, node_at, without, here, there, IsRank, IsRankPast, later_than}
use Rattle.kdg_graph.proofs.LookUps.{ids_find_nodes, key_later, none_at, without_none}
use Rattle.kdg_graph.specs.NodeLaws.{same_id, ascending_filtered}

-- ---- nodes in key order

-- the tasks of the nodes with one more
pub tasks-put_node : (node : Node) (nodes : List Node) → tasks_of (put_node node nodes) ≡ put_in node.task (tasks_of nodes)
tasks-put_node node [] = refl
tasks-put_node node (other ∷ nodes) =
    elim (is_lt (key_cmp other.task.key node.task.key)) as (λ past. tasks_of (cond past (other ∷ put_node node nodes) (node ∷ other ∷ nodes)) ≡ cond past (other.task ∷ put_in node.task (tasks_of nodes)) (node.task ∷ other.task ∷ tasks_of nodes)) [
      | true ↦ ap (λ rest. other.task ∷ rest) (tasks-put_node node nodes)
      | false ↦ refl
    ]

-- ---- the search for the place of a key

-- whether a node is earlier than the key
abbrev pub is_before : Key → Node → Bool
is_before key node = is_lt (key_cmp node.task.key key)

-- an earlier node has only earlier ones before it
first_earlier : (key : Key) (node : Node) (nodes : List Node) → AllByRecursion (λ other. key_cmp node.task.key other.key ≡ Less) (tasks_of nodes) → (j : ℕ) (d : Node) → j < length nodes → is_before key (get_or nodes j d) ≡ true → is_before key node ≡ true
first_earlier key node [] all j d inside earlier = absurd (omega (arith, inside))
first_earlier key node (other ∷ nodes) all zero d inside earlier = ap is_lt (key_cmp_total.trans node.task.key other.task.key key all.0 (less_from_test _ earlier))
first_earlier key node (other ∷ nodes) all (suc j) d inside earlier = first_earlier key node nodes all.1 j d (omega (arith, inside)) earlier

pub is_partitioned : (key : Key) (nodes : List Node) → IsAscending (tasks_of nodes) → IsPartitionedBy (is_before key) nodes
is_partitioned key [] up i j d ordered inside earlier = absurd (omega (arith, inside))
is_partitioned key (node ∷ nodes) up zero zero d ordered inside earlier = earlier
is_partitioned key (node ∷ nodes) up zero (suc j) d ordered inside earlier = first_earlier key node nodes up.0 j d (omega (arith, inside)) earlier
is_partitioned key (node ∷ nodes) up (suc i) zero d ordered inside earlier = absurd (omega (arith, ordered))
is_partitioned key (node ∷ nodes) up (suc i) (suc j) d ordered inside earlier = is_partitioned key nodes up.1 i j d (omega (arith, ordered)) (omega (arith, inside)) earlier

-- a node goes to its place, behind those that are earlier
pub insert_at_point : (node : Node) (nodes : List Node) (place : ℕ) → place ≤ length nodes
    → IsPartitionPoint (λ other. is_before node.task.key other ≡ true) (λ other. is_before node.task.key other ≡ false) nodes place → insert nodes place node ≡ put_node node nodes
insert_at_point node [] zero inside point = refl
insert_at_point node [] (suc place) inside point = absurd (omega (arith, inside))
insert_at_point node (other ∷ nodes) zero inside point =
    sym (ap (λ past. cond past (other ∷ put_node node nodes) (node ∷ other ∷ nodes)) (point.1 0 other (omega arith) (omega arith)))
insert_at_point node (other ∷ nodes) (suc place) inside point =
    ap (λ rest. other ∷ rest) (insert_at_point node nodes place (omega (arith, inside)) ((λ k d from upto. point.0 (suc k) d (omega arith) (omega (arith, upto))), (λ k d from upto. point.1 (suc k) d (omega (arith, from)) (omega (arith, upto)))))
    ∙ sym (ap (λ past. cond past (other ∷ put_node node nodes) (node ∷ other ∷ nodes)) (point.0 0 other (omega arith) (omega arith)))

-- ---- the node with a key

eq_from_test : (o : Ordering) (test : Bool) → is_lt o ≡ false → is_eq o ≡ test → o ≡ cond test Equal Greater
eq_from_test Less test not_less is = cc
eq_from_test Equal test not_less is = ap (λ b. cond b Equal Greater) is
eq_from_test Greater test not_less is = ap (λ b. cond b Equal Greater) is

by_test : (test : Bool) (node : Node) (rest : Option Node) → (test ≡ false → rest ≡ None) → cond test (Some node) rest ≡ cond test (Some node) None
by_test true node rest none = refl
by_test false node rest none = none refl

none_behind : (key first : Key) (nodes : List Node) → key_cmp key first ≡ Less → AllByRecursion (λ other. key_cmp first other.key ≡ Less) (tasks_of nodes) → node_with_key nodes key ≡ None
none_behind key first [] later all = refl
none_behind key first (node ∷ nodes) later all =
    let turns : key_cmp node.task.key key ≡ Greater = key_cmp_total.antisymm node.task.key key ∙ ap ordering_reverse (key_cmp_total.trans key first node.task.key later all.0) in
    ap (λ test. cond test (Some node) (node_with_key nodes key)) (ap is_eq turns) ∙ none_behind key first nodes later all.1

-- it is at the place where the earlier ones end, or else there is none
with_key_at_point : (key : Key) (nodes : List Node) (place : ℕ) (d : Node) → IsAscending (tasks_of nodes) → place < length nodes
    → IsPartitionPoint (λ other. is_before key other ≡ true) (λ other. is_before key other ≡ false) nodes place → node_with_key nodes key ≡ cond (is_eq (key_cmp (get_or nodes place d).task.key key)) (Some (get_or nodes place d)) None
with_key_at_point key [] place d up inside point = absurd (omega (arith, inside))
with_key_at_point key (node ∷ nodes) zero d up inside point =
    let rest : is_eq (key_cmp node.task.key key) ≡ false → node_with_key nodes key ≡ None = λ other.
    let greater : key_cmp node.task.key key ≡ Greater = eq_from_test (key_cmp node.task.key key) false (point.1 0 node (omega arith) (omega (arith, inside))) other in
    none_behind key node.task.key nodes (key_cmp_total.antisymm key node.task.key ∙ ap ordering_reverse greater) up.0 in
    by_test (is_eq (key_cmp node.task.key key)) node (node_with_key nodes key) rest
with_key_at_point key (node ∷ nodes) (suc place) d up inside point =
    let less : key_cmp node.task.key key ≡ Less = less_from_test _ (point.0 0 node (omega arith) (omega arith)) in
    ap (λ test. cond test (Some node) (node_with_key nodes key)) (ap is_eq less)
    ∙ with_key_at_point key nodes place d up.1 (omega (arith, inside)) ((λ k e from upto. point.0 (suc k) e (omega arith) (omega (arith, upto))), (λ k e from upto. point.1 (suc k) e (omega (arith, from)) (omega (arith, upto))))

pub found_at_point : (key : Key) (nodes : List Node) (place : ℕ) (node : Node) (test : Bool) → IsAscending (tasks_of nodes) → place < length nodes
    → IsPartitionPoint (λ other. is_before key other ≡ true) (λ other. is_before key other ≡ false) nodes place → node ≡ get_or nodes place node → is_eq (key_cmp node.task.key key) ≡ test → node_with_key nodes key ≡ cond test (Some node) None
found_at_point key nodes place node test up inside point here is =
    with_key_at_point key nodes place node up inside point ∙ (λ i. cond (is_eq (key_cmp (sym here i).task.key key)) (Some (sym here i)) None) ∙ ap (λ b. cond b (Some node) None) is

pub no_key_past_all : (key : Key) (nodes : List Node) (place : ℕ) → length nodes ≤ place
    → IsPartitionPoint (λ other. is_before key other ≡ true) (λ other. is_before key other ≡ false) nodes place → node_with_key nodes key ≡ None
no_key_past_all key [] place beyond point = refl
no_key_past_all key (node ∷ nodes) zero beyond point = absurd (omega (arith, beyond))
no_key_past_all key (node ∷ nodes) (suc place) beyond point =
    let less : key_cmp node.task.key key ≡ Less = less_from_test _ (point.0 0 node (omega arith) (omega arith)) in
    ap (λ test. cond test (Some node) (node_with_key nodes key)) (ap is_eq less)
    ∙ no_key_past_all key nodes place (omega (arith, beyond)) ((λ k e from upto. point.0 (suc k) e (omega arith) (omega (arith, upto))), (λ k e from upto. point.1 (suc k) e (omega (arith, from)) (omega (arith, upto))))

-- ---- filters, and orders of keys

pub not_itself : (key : Key) → is_lt (key_cmp key key) ≡ false
not_itself key = ap is_lt (tied_itself key_cmp_total key)

pub all_later : (key : Key) (nodes : List Node) → AllByRecursion (λ other. key_cmp key other.key ≡ Less) (tasks_of nodes) → AllByRecursion (λ node. is_lt (key_cmp key node.task.key) ≡ true) nodes
all_later key [] all = tt
all_later key (node ∷ nodes) all = (ap is_lt all.0, all_later key nodes all.1)

pub earlier_at : (P : Task → Type 0) (nodes : List Node) (at : ℕ) (d : Node) → at < length nodes → AllByRecursion P (tasks_of nodes) → P (get_or nodes at d).task
earlier_at P [] at d inside all = absurd (omega (arith, inside))
earlier_at P (node ∷ nodes) zero d inside all = all.0
earlier_at P (node ∷ nodes) (suc at) d inside all = earlier_at P nodes at d (omega (arith, inside)) all.1

-- ---- one step of a filter

pub kept : (p : Node → Bool) (node : Node) (nodes : List Node) → p node ≡ true → filter p (node ∷ nodes) ≡ node ∷ filter p nodes
kept p node nodes is = ap (λ test. cond test (node ∷ filter p nodes) (filter p nodes)) is

pub dropped : (p : Node → Bool) (node : Node) (nodes : List Node) → p node ≡ false → filter p (node ∷ nodes) ≡ filter p nodes
dropped p node nodes is = ap (λ test. cond test (node ∷ filter p nodes) (filter p nodes)) is

commute_by : (p q : Node → Bool) (node : Node) (nodes : List Node) (a b : Bool) → p node ≡ a → q node ≡ b → filter p (filter q nodes) ≡ filter q (filter p nodes)
    → filter p (cond b (node ∷ filter q nodes) (filter q nodes)) ≡ filter q (cond a (node ∷ filter p nodes) (filter p nodes))
commute_by p q node nodes true true p_is q_is rest = kept p node (filter q nodes) p_is ∙ ap (λ l. node ∷ l) rest ∙ sym (kept q node (filter p nodes) q_is)
commute_by p q node nodes true false p_is q_is rest = rest ∙ sym (dropped q node (filter p nodes) q_is)
commute_by p q node nodes false true p_is q_is rest = dropped p node (filter q nodes) p_is ∙ rest
commute_by p q node nodes false false p_is q_is rest = rest

-- two filters in either order
pub filters_commute : (p q : Node → Bool) (nodes : List Node) → filter p (filter q nodes) ≡ filter q (filter p nodes)
filters_commute p q [] = refl
filters_commute p q (node ∷ nodes) = commute_by p q node nodes (p node) (q node) refl refl (filters_commute p q nodes)

-- tests that agree at each node select the same
pub same_filter : (p q : Node → Bool) (nodes : List Node) → ((node : Node) → Contains nodes node → p node ≡ q node) → filter p nodes ≡ filter q nodes
same_filter p q [] same = refl
same_filter p q (node ∷ nodes) same =
    let rest : filter p nodes ≡ filter q nodes = same_filter p q nodes (λ other has. same other (there node other nodes has)) in
    λ i. cond (same node (here node nodes) i) (node ∷ rest i) (rest i)

-- a test that is passed only where another is keeps no more
pub no_more_kept : (p q : Node → Bool) (nodes : List Node) → ((node : Node) → p node ≡ true → q node ≡ true) → length (filter p nodes) ≤ length (filter q nodes)
no_more_kept p q [] each = omega arith
no_more_kept p q (node ∷ nodes) each =
    let rest : length (filter p nodes) ≤ length (filter q nodes) = no_more_kept p q nodes each in
    let by_case : (one two : Bool) → (one ≡ true → two ≡ true) → length (cond one (node ∷ filter p nodes) (filter p nodes)) ≤ length (cond two (node ∷ filter q nodes) (filter q nodes)) = elim [
      | true ↦ elim [ true ↦ λ _. omega (arith, rest) | false ↦ λ passes. absurd (true≢false (sym (passes refl))) ]
      | false ↦ elim [ true ↦ λ _. omega (arith, rest) | false ↦ λ _. omega (arith, rest) ]
    ] in
    by_case (p node) (q node) (each node)

-- ---- a node that comes

-- where none is earlier it comes first
pub put_first : (node : Node) (nodes : List Node) → AllByRecursion (λ other. is_before node.task.key other ≡ false) nodes → put_node node nodes ≡ node ∷ nodes
put_first node [] all = refl
put_first node (other ∷ nodes) all = ap (λ test. cond test (other ∷ put_node node nodes) (node ∷ other ∷ nodes)) all.0

not_before : (key first : Key) (other : Node) → is_lt (key_cmp first key) ≡ false → key_cmp first other.task.key ≡ Less → is_before key other ≡ false
not_before key first other is later = false_from_ne_true _ (λ earlier. true≢false (sym (ap is_lt (key_cmp_total.trans first other.task.key key later (less_from_test _ earlier))) ∙ is))

pub none_before : (key first : Key) (nodes : List Node) → is_lt (key_cmp first key) ≡ false → AllByRecursion (λ other. key_cmp first other.key ≡ Less) (tasks_of nodes) → AllByRecursion (λ other. is_before key other ≡ false) nodes
none_before key first [] is all = tt
none_before key first (other ∷ nodes) is all = (not_before key first other is all.0, none_before key first nodes is all.1)

none_before_filtered : (p : Node → Bool) (key : Key) (nodes : List Node) → AllByRecursion (λ other. is_before key other ≡ false) nodes → AllByRecursion (λ other. is_before key other ≡ false) (filter p nodes)
none_before_filtered p key [] all = tt
none_before_filtered p key (node ∷ nodes) all =
    let rest = none_before_filtered p key nodes all.1 in
    cond_both (p node) (node ∷ filter p nodes) (filter p nodes) (AllByRecursion (λ other. is_before key other ≡ false)) (λ _. (all.0, rest)) (λ _. rest)

put_kept_by : (p : Node → Bool) (node other : Node) (nodes : List Node) (past test : Bool) → p node ≡ true → is_before node.task.key other ≡ past → p other ≡ test → AllByRecursion (λ later. key_cmp other.task.key later.key ≡ Less) (tasks_of nodes)
    → filter p (put_node node nodes) ≡ put_node node (filter p nodes) → filter p (cond past (other ∷ put_node node nodes) (node ∷ other ∷ nodes)) ≡ put_node node (cond test (other ∷ filter p nodes) (filter p nodes))
put_kept_by p node other nodes true true is past_is test_is all rest =
    kept p other (put_node node nodes) test_is ∙ ap (λ l. other ∷ l) rest ∙ sym (ap (λ past. cond past (other ∷ put_node node (filter p nodes)) (node ∷ other ∷ filter p nodes)) past_is)
put_kept_by p node other nodes true false is past_is test_is all rest = dropped p other (put_node node nodes) test_is ∙ rest
put_kept_by p node other nodes false true is past_is test_is all rest =
    kept p node (other ∷ nodes) is ∙ ap (λ l. node ∷ l) (kept p other nodes test_is) ∙ sym (ap (λ past. cond past (other ∷ put_node node (filter p nodes)) (node ∷ other ∷ filter p nodes)) past_is)
put_kept_by p node other nodes false false is past_is test_is all rest =
    kept p node (other ∷ nodes) is ∙ ap (λ l. node ∷ l) (dropped p other nodes test_is)
    ∙ sym (put_first node (filter p nodes) (none_before_filtered p node.task.key nodes (none_before node.task.key other.task.key nodes past_is all)))

-- the filter has it at its place, or not at all
pub put_kept : (p : Node → Bool) (node : Node) (nodes : List Node) → p node ≡ true → IsAscending (tasks_of nodes) → filter p (put_node node nodes) ≡ put_node node (filter p nodes)
put_kept p node [] is up = kept p node [] is
put_kept p node (other ∷ nodes) is up = put_kept_by p node other nodes (is_before node.task.key other) (p other) is refl refl up.0 (put_kept p node nodes is up.1)

pub put_dropped : (p : Node → Bool) (node : Node) (nodes : List Node) → p node ≡ false → filter p (put_node node nodes) ≡ filter p nodes
put_dropped p node [] is = dropped p node [] is
put_dropped p node (other ∷ nodes) is =
    elim (is_before node.task.key other) as (λ past. filter p (cond past (other ∷ put_node node nodes) (node ∷ other ∷ nodes)) ≡ filter p (other ∷ nodes)) [
      | true ↦ ap (λ l. cond (p other) (other ∷ l) l) (put_dropped p node nodes is)
      | false ↦ dropped p node (other ∷ nodes) is
    ]

-- ---- a node that goes

-- put in again it stands where it stood
pub put_without : (id : NodeId) (nodes : List Node) (node : Node) → IsGraph nodes → node_at nodes id ≡ Some node → put_node node (without id nodes) ≡ nodes
put_without id [] node graph is = cc
put_without id (first ∷ nodes) node graph is =
    let rest : IsGraph nodes = record { ascending = graph.ascending.1; own_ids = graph.own_ids.1; sets = graph.sets.1 } in
    let by_case : (test : Bool) → is_at id first ≡ test → cond test (Some first) (node_at nodes id) ≡ Some node → put_node node (cond (not test) (first ∷ without id nodes) (without id nodes)) ≡ first ∷ nodes = elim [
      | true ↦ λ at found.
          let same : first ≡ node = cc in
          ap (put_node node) (without_none id nodes (none_at first.id id nodes (same_id id first at) graph.own_ids.0))
          ∙ subst (λ (n : Node). put_node n nodes ≡ first ∷ nodes) same (put_first first nodes (none_before first.task.key first.task.key nodes (not_itself first.task.key) graph.ascending.0))
      | false ↦ λ _ found.
          ap (λ past. cond past (first ∷ put_node node (without id nodes)) (node ∷ first ∷ without id nodes)) (ap is_lt (key_later first nodes node graph.ascending.0 (ids_find_nodes nodes id node found).0))
          ∙ ap (λ l. first ∷ l) (put_without id nodes node rest found)
    ] in
    by_case (is_at id first) refl is

put_if_by : (p : Node → Bool) (node : Node) (nodes : List Node) (test : Bool) → p node ≡ test → IsAscending (tasks_of nodes) → filter p (put_node node nodes) ≡ put_if test node (filter p nodes)
put_if_by p node nodes true is up = put_kept p node nodes is up
put_if_by p node nodes false is up = put_dropped p node nodes is

-- a filter of the nodes, by that of the others
pub filter_with : (p : Node → Bool) (id : NodeId) (nodes : List Node) (node : Node) → IsGraph nodes → node_at nodes id ≡ Some node → filter p nodes ≡ put_if (p node) node (filter p (without id nodes))
filter_with p id nodes node graph is =
    ap (filter p) (sym (put_without id nodes node graph is)) ∙ put_if_by p node (without id nodes) (p node) refl (ascending_filtered (λ other. not (is_at id other)) nodes graph.ascending)

-- ---- the place where the nodes that are later than a key begin

-- whether the node is later than the key
abbrev pub is_past : Key → Node → Bool
is_past key node = is_lt (key_cmp key node.task.key)

pub rank_rest : (key : Key) (node : Node) (some : List Node) (place : ℕ) → IsRank key (node ∷ some) (suc place) → IsRank key some place
rank_rest key node some place rank = record {
  inside = omega (arith, rank.inside);
  point = ((λ k d from upto. rank.point.0 (suc k) d (omega arith) (omega (arith, upto))), (λ k d from upto. rank.point.1 (suc k) d (omega (arith, from)) (omega (arith, upto))));
}

past_rest : (key : Key) (node : Node) (some : List Node) (place : ℕ) → IsRankPast key (node ∷ some) (suc place) → IsRankPast key some place
past_rest key node some place rank = record {
  inside = omega (arith, rank.inside);
  point = ((λ k d from upto. rank.point.0 (suc k) d (omega arith) (omega (arith, upto))), (λ k d from upto. rank.point.1 (suc k) d (omega (arith, from)) (omega (arith, upto))));
}

before_point : (key : Key) (node : Node) (some : List Node) (place : ℕ) → is_past key node ≡ false → IsRankPast key some place → (k : ℕ) (d : Node) → k < suc place → is_past key (get_or (node ∷ some) k d) ≡ false
before_point key node some place is rank zero d upto = is
before_point key node some place is rank (suc k) d upto = rank.point.0 k d (omega arith) (omega (arith, upto))

behind_point : (key : Key) (node : Node) (some : List Node) (place : ℕ) → IsRankPast key some place → (k : ℕ) (d : Node) → suc place ≤ k → k < length (node ∷ some) → is_past key (get_or (node ∷ some) k d) ≡ true
behind_point key node some place rank zero d from upto = absurd (omega (arith, from))
behind_point key node some place rank (suc k) d from upto = rank.point.1 k d (omega (arith, from)) (omega (arith, upto))

past_cons : (key : Key) (node : Node) (some : List Node) (place : ℕ) → is_past key node ≡ false → IsRankPast key some place → IsRankPast key (node ∷ some) (suc place)
past_cons key node some place is rank = record {
  inside = omega (arith, rank.inside);
  point = ((λ k d from upto. before_point key node some place is rank k d upto), (λ k d from upto. behind_point key node some place rank k d from upto));
}

-- an earlier node isn't later, nor is one at the key
pub earlier_not_past : (key : Key) (node : Node) → is_before key node ≡ true → is_past key node ≡ false
earlier_not_past key node is = not_past_earlier node.task.key key (less_from_test _ is)

tied_not_past : (key : Key) (node : Node) → is_eq (key_cmp node.task.key key) ≡ true → is_past key node ≡ false
tied_not_past key node is = ap is_lt (key_cmp_total.antisymm key node.task.key ∙ ap ordering_reverse (equal_from_test _ is))

greater_left : (o : Ordering) → is_lt o ≡ false → is_eq o ≡ false → o ≡ Greater
greater_left Less lt eq = absurd (true≢false lt)
greater_left Equal lt eq = absurd (true≢false eq)
greater_left Greater lt eq = refl

-- what isn't earlier and isn't at the key is later
left_past : (key : Key) (node : Node) → is_before key node ≡ false → is_eq (key_cmp node.task.key key) ≡ false → key_cmp key node.task.key ≡ Less
left_past key node lt eq = key_cmp_total.antisymm key node.task.key ∙ ap ordering_reverse (greater_left _ lt eq)

all_past : (key first : Key) (some : List Node) → key_cmp first key ≡ Equal → AllByRecursion (λ other. key_cmp first other.key ≡ Less) (tasks_of some) → IsRankPast key some 0
all_past key first some tied all = record {
  inside = omega arith;
  point = ((λ k d from upto. absurd (omega (arith, upto))), (λ k d from upto. ap is_lt (sym (key_cmp_total.congr first key (get_or some k d).task.key tied) ∙ earlier_at (λ other. key_cmp first other.key ≡ Less) some k d upto all)));
}

pub past_tied : (key : Key) (some : List Node) (place : ℕ) (d : Node) → IsAscending (tasks_of some) → IsRank key some place → place < length some → is_eq (key_cmp (get_or some place d).task.key key) ≡ true → IsRankPast key some (suc place)
past_tied key [] place d up rank inside is = absurd (omega (arith, inside))
past_tied key (node ∷ some) zero d up rank inside is = past_cons key node some 0 (tied_not_past key node is) (all_past key node.task.key some (equal_from_test _ is) up.0)
past_tied key (node ∷ some) (suc place) d up rank inside is =
    past_cons key node some (suc place) (earlier_not_past key node (rank.point.0 0 node (omega arith) (omega arith))) (past_tied key some place d up.1 (rank_rest key node some place rank) (omega (arith, inside)) is)

later_there : (key : Key) (node : Node) (some : List Node) → key_cmp key node.task.key ≡ Less → AllByRecursion (λ other. key_cmp node.task.key other.key ≡ Less) (tasks_of some) → (k : ℕ) (d : Node) → k < length (node ∷ some) → is_past key (get_or (node ∷ some) k d) ≡ true
later_there key node some later all zero d upto = ap is_lt later
later_there key node some later all (suc k) d upto = ap is_lt (key_cmp_total.trans key node.task.key (get_or some k d).task.key later (earlier_at (λ other. key_cmp node.task.key other.key ≡ Less) some k d (omega (arith, upto)) all))

pub past_untied : (key : Key) (some : List Node) (place : ℕ) (d : Node) → IsAscending (tasks_of some) → IsRank key some place → (place < length some → is_eq (key_cmp (get_or some place d).task.key key) ≡ false) → IsRankPast key some place
past_untied key [] place d up rank differs = record { inside = rank.inside; point = ((λ k e from upto. absurd (omega (arith, upto, rank.inside))), (λ k e from upto. absurd (omega (arith, upto)))) }
past_untied key (node ∷ some) zero d up rank differs = record {
  inside = omega arith;
  point = ((λ k e from upto. absurd (omega (arith, upto))), (λ k e from upto. later_there key node some (left_past key node (rank.point.1 0 node (omega arith) (omega arith)) (differs (omega arith))) up.0 k e upto));
}
past_untied key (node ∷ some) (suc place) d up rank differs =
    past_cons key node some place (earlier_not_past key node (rank.point.0 0 node (omega arith) (omega arith))) (past_untied key some place d up.1 (rank_rest key node some place rank) (λ inside. differs (omega (arith, inside))))

-- where all are earlier, none is later
pub past_nothing : (key : Key) (some : List Node) (place : ℕ) → IsAscending (tasks_of some) → IsRank key some place → length some ≡ place → IsRankPast key some place
past_nothing key some place up rank end = record {
  inside = rank.inside;
  point = ((λ k d from upto. earlier_not_past key (get_or some k d) (rank.point.0 k d from upto)), (λ k d from upto. absurd (omega (arith, from, upto, end))));
}

-- from there on stand exactly those that are later
pub drop_past : (key : Key) (some : List Node) (place : ℕ) → IsRankPast key some place → drop place some ≡ later_than key some
drop_past key [] zero rank = refl
drop_past key [] (suc place) rank = refl
drop_past key (node ∷ some) zero rank =
    let first : is_past key node ≡ true = rank.point.1 0 node (omega arith) (omega arith) in
    let rest : IsRankPast key some 0 = record { inside = omega arith; point = ((λ k d from upto. absurd (omega (arith, upto))), (λ k d from upto. rank.point.1 (suc k) d (omega arith) (omega (arith, upto)))) } in
    ap (λ l. node ∷ l) (drop_past key some 0 rest) ∙ sym (kept (is_past key) node some first)
drop_past key (node ∷ some) (suc place) rank = drop_past key some place (past_rest key node some place rank) ∙ sym (dropped (is_past key) node some (rank.point.0 0 node (omega arith) (omega arith)))
