-- The places of the nodes that one node may block alone.
use Rattle.std.proofs.Common.{◌≡◌, ℕ, zero, suc, ◌+◌, ◌-◌, ◌≤◌, Bool, true, false, cond, List, [], ◌∷◌, length, take, drop, Option, Some, None, refl, sym, ◌∙◌, ap, subst, arith, Contains, slice_get, filter, Less, is_lt, true≢false}
use Rattle.plain_laws.specs.Orderings.{less_from_test}
use Rattle.task_order.specs.KeyLaws.{not_past_earlier}
use Rattle.kdg_graph.proofs.Common.{AllByRecursion, count_by-le-length, length-filter, false_from_ne_true, false≢true, Key, key_cmp, key_cmp_total, IsAscending, Access, Read, Write, access_at, allows_write, clash, writes, NodeId, IsRankPast, clashes_at, clashing_at, front_after, up_to_writer, Node, IsGraph, ids_of, later_than, least_of, node_at, tasks_of, from_filter, here}
use Rattle.kdg_graph.proofs.KeyOrder.{dropped, filters_commute, kept, not_itself, drop_past, is_past}
use Rattle.kdg_graph.proofs.Lanes.{length-ids}
use Rattle.kdg_graph.proofs.LookUps.{key_later, nodes_have_ids}
use Rattle.kdg_graph.specs.NodeLaws.{ascending_filtered}

-- ---- the nodes behind a place

pub later_clashing : (key : Key) (loc : ℕ) (access : Access) (nodes : List Node) (place : ℕ) → IsRankPast key (clashing_at loc access nodes) place → drop place (clashing_at loc access nodes) ≡ clashing_at loc access (later_than key nodes)
later_clashing key loc access nodes place rank = drop_past key (clashing_at loc access nodes) place rank ∙ filters_commute (is_past key) (clashes_at loc access) nodes

pub none_clashing : (key : Key) (loc : ℕ) (access : Access) (nodes : List Node) → clashing_at loc access nodes ≡ [] → clashing_at loc access (later_than key nodes) ≡ []
none_clashing key loc access nodes none = filters_commute (clashes_at loc access) (is_past key) nodes ∙ ap (filter (is_past key)) none

pub ids-drop : (place : ℕ) (nodes : List Node) → drop place (ids_of nodes) ≡ ids_of (drop place nodes)
ids-drop zero [] = refl
ids-drop zero (node ∷ nodes) = refl
ids-drop (suc place) [] = refl
ids-drop (suc place) (node ∷ nodes) = ids-drop place nodes

pub ids-take : (place : ℕ) (nodes : List Node) → take place (ids_of nodes) ≡ ids_of (take place nodes)
ids-take zero [] = refl
ids-take (suc place) [] = refl
ids-take zero (node ∷ nodes) = refl
ids-take (suc place) (node ∷ nodes) = ap (λ rest. node.id ∷ rest) (ids-take place nodes)

-- the id at a place is that of the first behind it
pub first_from : (place : ℕ) (nodes : List Node) → slice_get (ids_of nodes) place ≡ least_of (drop place nodes)
first_from zero [] = refl
first_from (suc place) [] = refl
first_from zero (node ∷ nodes) = refl
first_from (suc place) (node ∷ nodes) = first_from place nodes

pub none_dropped : (place : ℕ) (nodes : List Node) → length nodes ≤ place → drop place nodes ≡ []
none_dropped zero [] beyond = refl
none_dropped (suc place) [] beyond = refl
none_dropped zero (node ∷ nodes) beyond = absurd (omega (arith, beyond))
none_dropped (suc place) (node ∷ nodes) beyond = none_dropped place nodes (omega (arith, beyond))

-- ---- up to the first that writes

-- who writes clashes with each access
write_clashes : (access : Access) (found : Option Access) → clash (Some Read) found ≡ true → clash (Some access) found ≡ true
write_clashes Read found is = is
write_clashes Write None is = absurd (false≢true is)
write_clashes Write (Some x) is = refl

filter_within_by : (p q : Node → Bool) (node : Node) (nodes : List Node) (a b : Bool) → p node ≡ a → q node ≡ b → (a ≡ true → b ≡ true) → filter p (filter q nodes) ≡ filter p nodes → filter p (cond b (node ∷ filter q nodes) (filter q nodes)) ≡ cond a (node ∷ filter p nodes) (filter p nodes)
filter_within_by p q node nodes true true p_is q_is within rest = kept p node (filter q nodes) p_is ∙ ap (λ l. node ∷ l) rest
filter_within_by p q node nodes true false p_is q_is within rest = absurd (false≢true (within refl))
filter_within_by p q node nodes false true p_is q_is within rest = dropped p node (filter q nodes) p_is ∙ rest
filter_within_by p q node nodes false false p_is q_is within rest = rest

pub filter_within : (p q : Node → Bool) → ((node : Node) → p node ≡ true → q node ≡ true) → (nodes : List Node) → filter p (filter q nodes) ≡ filter p nodes
filter_within p q within [] = refl
filter_within p q within (node ∷ nodes) = filter_within_by p q node nodes (p node) (q node) refl refl (within node) (filter_within p q within nodes)

pub writers_within : (loc : ℕ) (access : Access) (nodes : List Node) → clashing_at loc Read (clashing_at loc access nodes) ≡ clashing_at loc Read nodes
writers_within loc access nodes = filter_within (clashes_at loc Read) (clashes_at loc access) (λ node is. write_clashes access (access_at node.set loc) is) nodes

pub reads_by : (found : Option Access) → clash (Some Read) found ≡ allows_write found
reads_by None = refl
reads_by (Some Read) = refl
reads_by (Some Write) = refl

no_writer_by : (loc : ℕ) (node : Node) (nodes : List Node) (test : Bool) → clashes_at loc Read node ≡ test → cond test (node ∷ clashing_at loc Read nodes) (clashing_at loc Read nodes) ≡ [] → (clashing_at loc Read nodes ≡ [] → up_to_writer loc nodes ≡ nodes)
    → (node ∷ cond (writes node.set loc) [] (up_to_writer loc nodes)) ≡ node ∷ nodes
no_writer_by loc node nodes true is none rest = absurd (let wrong : node ∷ clashing_at loc Read nodes ≡ [] = none in cc)
no_writer_by loc node nodes false is none rest = ap (λ l. node ∷ l) (ap (λ test. cond test [] (up_to_writer loc nodes)) (sym (reads_by (access_at node.set loc)) ∙ is) ∙ rest none)

-- where none writes it is all of them
pub no_writer : (loc : ℕ) (nodes : List Node) → clashing_at loc Read nodes ≡ [] → up_to_writer loc nodes ≡ nodes
no_writer loc [] none = refl
no_writer loc (node ∷ nodes) none = no_writer_by loc node nodes (clashes_at loc Read node) refl none (no_writer loc nodes)

past_rest : (key : Key) (node : Node) (some : List Node) (place : ℕ) → IsRankPast key (node ∷ some) (suc place) → IsRankPast key some place
past_rest key node some place rank = record {
  inside = omega (arith, rank.inside);
  point = ((λ k d from upto. rank.point.0 (suc k) d (omega arith) (omega (arith, upto))), (λ k d from upto. rank.point.1 (suc k) d (omega (arith, from)) (omega (arith, upto))));
}

-- no node is past itself, and all behind it are
alone : (first : Node) (nodes : List Node) (place : ℕ) → AllByRecursion (λ other. key_cmp first.task.key other.key ≡ Less) (tasks_of nodes) → IsRankPast first.task.key nodes place → take place nodes ≡ []
alone first [] zero all rank = refl
alone first [] (suc place) all rank = absurd (omega (arith, rank.inside))
alone first (node ∷ nodes) zero all rank = refl
alone first (node ∷ nodes) (suc place) all rank = absurd (true≢false (sym (ap is_lt all.0) ∙ rank.point.0 0 node (omega arith) (omega arith)))

up_to_by : (loc : ℕ) (node writer : Node) (nodes rest : List Node) (place : ℕ) (test : Bool) → IsAscending (tasks_of (node ∷ nodes)) → clashes_at loc Read node ≡ test → cond test (node ∷ clashing_at loc Read nodes) (clashing_at loc Read nodes) ≡ writer ∷ rest
    → IsRankPast writer.task.key (node ∷ nodes) (suc place) → (clashing_at loc Read nodes ≡ writer ∷ rest → take place nodes ≡ up_to_writer loc nodes)
    → node ∷ take place nodes ≡ node ∷ cond (writes node.set loc) [] (up_to_writer loc nodes)
up_to_by loc node writer nodes rest place true up is first rank later =
    let same : node ≡ writer = cc in
    let own : IsRankPast node.task.key nodes place = subst (λ (n : Node). IsRankPast n.task.key nodes place) (sym same) (past_rest writer.task.key node nodes place rank) in
    ap (λ l. node ∷ l) (alone node nodes place up.0 own ∙ sym (ap (λ test. cond test [] (up_to_writer loc nodes)) (sym (reads_by (access_at node.set loc)) ∙ is)))
up_to_by loc node writer nodes rest place false up is first rank later =
    ap (λ l. node ∷ l) (later first ∙ sym (ap (λ test. cond test [] (up_to_writer loc nodes)) (sym (reads_by (access_at node.set loc)) ∙ is)))

starts_by : (loc : ℕ) (node writer : Node) (nodes rest : List Node) (test : Bool) → AllByRecursion (λ other. key_cmp node.task.key other.key ≡ Less) (tasks_of nodes) → clashes_at loc Read node ≡ test
    → cond test (node ∷ clashing_at loc Read nodes) (clashing_at loc Read nodes) ≡ writer ∷ rest → is_past writer.task.key node ≡ false
starts_by loc node writer nodes rest true all is first = let same : node ≡ writer = cc in subst (λ (n : Node). is_past n.task.key node ≡ false) same (not_itself node.task.key)
starts_by loc node writer nodes rest false all is first =
    let has : Contains nodes writer = (from_filter (clashes_at loc Read) nodes writer (subst (λ (l : List Node). Contains l writer) (sym first) (here writer rest))).0 in
    not_past_earlier node.task.key writer.task.key (key_later node nodes writer all has)

-- up to the place that is past the first writer
pub up_to_first : (loc : ℕ) (writer : Node) (nodes rest : List Node) (place : ℕ) → IsAscending (tasks_of nodes) → clashing_at loc Read nodes ≡ writer ∷ rest → IsRankPast writer.task.key nodes place → take place nodes ≡ up_to_writer loc nodes
up_to_first loc writer [] rest place up first rank = absurd (let wrong : [] ≡ writer ∷ rest = first in cc)
up_to_first loc writer (node ∷ nodes) rest zero up first rank =
    absurd (true≢false (sym (rank.point.1 0 node (omega arith) (omega arith)) ∙ starts_by loc node writer nodes rest (clashes_at loc Read node) up.0 refl first))
up_to_first loc writer (node ∷ nodes) rest (suc place) up first rank =
    up_to_by loc node writer nodes rest place (clashes_at loc Read node) up refl first rank (λ later. up_to_first loc writer nodes rest place up.1 later (past_rest writer.task.key node nodes place rank))

-- ---- from one place to the other

-- what isn't past a key isn't past a later one
not_past : (key : Key) (writer node : Node) → is_past key writer ≡ true → is_past key node ≡ false → is_past writer.task.key node ≡ false
not_past key writer node later is = false_from_ne_true _ (λ past. true≢false (sym (ap is_lt (key_cmp_total.trans key writer.task.key node.task.key (less_from_test _ later) (less_from_test _ past))) ∙ is))

pub ends_behind : (key : Key) (writer : Node) (nodes : List Node) (start end : ℕ) → is_past key writer ≡ true → IsRankPast key nodes start → IsRankPast writer.task.key nodes end → start ≤ end
ends_behind key writer nodes zero end later from to = omega arith
ends_behind key writer [] (suc start) end later from to = absurd (omega (arith, from.inside))
ends_behind key writer (node ∷ nodes) (suc start) zero later from to =
    absurd (true≢false (sym (to.point.1 0 node (omega arith) (omega arith)) ∙ not_past key writer node later (from.point.0 0 node (omega arith) (omega arith))))
ends_behind key writer (node ∷ nodes) (suc start) (suc end) later from to = omega (arith, ends_behind key writer nodes start end later (past_rest key node nodes start from) (past_rest writer.task.key node nodes end to))

past_dropped : (key : Key) (nodes : List Node) (start width end : ℕ) → end ≡ start + width → IsRankPast key nodes end → IsRankPast key (drop start nodes) width
past_dropped key nodes zero width end fits rank = let same : end ≡ width = omega (arith, fits) in subst (IsRankPast key nodes) same rank
past_dropped key [] (suc start) width end fits rank = absurd (omega (arith, fits, rank.inside))
past_dropped key (node ∷ nodes) (suc start) width zero fits rank = absurd (omega (arith, fits))
past_dropped key (node ∷ nodes) (suc start) width (suc end) fits rank = past_dropped key nodes start width end (omega (arith, fits)) (past_rest key node nodes end rank)

pub front_to_writer : (key : Key) (loc : ℕ) (access : Access) (writer : Node) (rest nodes : List Node) (ids : List NodeId) (start end : ℕ) → IsAscending (tasks_of nodes) → ids ≡ ids_of (clashing_at loc access nodes)
    → clashing_at loc Read (later_than key nodes) ≡ writer ∷ rest → IsRankPast key (clashing_at loc access nodes) start → IsRankPast writer.task.key (clashing_at loc access nodes) end
    → (start ≤ end) × (take (end - start) (drop start ids) ≡ ids_of (front_after loc access key nodes))
front_to_writer key loc access writer rest nodes ids start end up are first from to =
    let some : List Node = clashing_at loc access nodes in
    let has : Contains (later_than key nodes) writer = (from_filter (clashes_at loc Read) (later_than key nodes) writer (subst (λ (l : List Node). Contains l writer) (sym first) (here writer rest))).0 in
    let later : is_past key writer ≡ true = (from_filter (is_past key) nodes writer has).1 in
    let fits : start ≤ end = ends_behind key writer some start end later from to in
    let behind : drop start some ≡ clashing_at loc access (later_than key nodes) = later_clashing key loc access nodes start from in
    let rank : IsRankPast writer.task.key (clashing_at loc access (later_than key nodes)) (end - start) = subst (λ (l : List Node). IsRankPast writer.task.key l (end - start)) behind (past_dropped writer.task.key some start (end - start) end (omega (arith, fits)) to) in
    let up_later : IsAscending (tasks_of (clashing_at loc access (later_than key nodes))) = ascending_filtered (clashes_at loc access) (later_than key nodes) (ascending_filtered (is_past key) nodes up) in (
      fits,
      ap (λ l. take (end - start) (drop start l)) are ∙ ap (take (end - start)) (ids-drop start some) ∙ ids-take (end - start) (drop start some) ∙ ap (λ l. ids_of (take (end - start) l)) behind
          ∙ ap ids_of (up_to_first loc writer (clashing_at loc access (later_than key nodes)) rest (end - start) up_later (writers_within loc access (later_than key nodes) ∙ first) rank),
    )

take_none : (width : ℕ) → take {A = NodeId} width [] ≡ []
take_none zero = refl
take_none (suc width) = refl

take_rest : (ids : List NodeId) (start width : ℕ) → length ids ≤ start + width → take width (drop start ids) ≡ drop start ids
take_rest [] zero width fits = take_none width
take_rest [] (suc start) width fits = take_none width
take_rest (id ∷ ids) zero zero fits = absurd (omega (arith, fits))
take_rest (id ∷ ids) zero (suc width) fits = ap (λ l. id ∷ l) (take_rest ids zero width (omega (arith, fits)))
take_rest (id ∷ ids) (suc start) width fits = take_rest ids start width (omega (arith, fits))

pub front_to_end : (key : Key) (loc : ℕ) (access : Access) (nodes : List Node) (ids : List NodeId) (start : ℕ) → ids ≡ ids_of (clashing_at loc access nodes) → clashing_at loc Read (later_than key nodes) ≡ []
    → IsRankPast key (clashing_at loc access nodes) start → take (length ids - start) (drop start ids) ≡ ids_of (front_after loc access key nodes)
front_to_end key loc access nodes ids start are none from =
    take_rest ids start (length ids - start) (omega arith) ∙ ap (drop start) are ∙ ids-drop start (clashing_at loc access nodes) ∙ ap ids_of (later_clashing key loc access nodes start from)
    ∙ ap ids_of (sym (no_writer loc (clashing_at loc access (later_than key nodes)) (writers_within loc access (later_than key nodes) ∙ none)))

-- ---- where all write

full_by : (p : Node → Bool) (node : Node) (nodes : List Node) (test : Bool) → p node ≡ test → length (filter p (node ∷ nodes)) ≡ suc (length nodes) → test ≡ true
full_by p node nodes true is full = refl
full_by p node nodes false is full = absurd (omega (arith, ap length (dropped p node nodes is), full, length-filter p nodes, count_by-le-length p nodes))

-- a filter that drops none
filter_full : (p : Node → Bool) (nodes : List Node) → length (filter p nodes) ≡ length nodes → filter p nodes ≡ nodes
filter_full p [] full = refl
filter_full p (node ∷ nodes) full =
    let is : p node ≡ true = full_by p node nodes (p node) refl full in
    kept p node nodes is ∙ ap (λ l. node ∷ l) (filter_full p nodes (omega (arith, ap length (kept p node nodes is), full)))

first_alone : (loc : ℕ) (nodes : List Node) → clashing_at loc Read nodes ≡ nodes → up_to_writer loc nodes ≡ take 1 nodes
first_alone loc [] all = refl
first_alone loc (node ∷ nodes) all =
    let is : clashes_at loc Read node ≡ true = full_by (clashes_at loc Read) node nodes (clashes_at loc Read node) refl (ap length all) in
    ap (λ test. node ∷ cond test [] (up_to_writer loc nodes)) (sym (reads_by (access_at node.set loc)) ∙ is)

pub front_alone : (key : Key) (loc : ℕ) (access : Access) (nodes : List Node) (ids : List NodeId) (start : ℕ) → ids ≡ ids_of (clashing_at loc access nodes) → length (clashing_at loc access nodes) ≡ length (clashing_at loc Read nodes)
    → IsRankPast key (clashing_at loc access nodes) start → take (start + 1 - start) (drop start ids) ≡ ids_of (front_after loc access key nodes)
front_alone key loc access nodes ids start are full from =
    let some : List Node = clashing_at loc access nodes in
    let later : List Node = clashing_at loc access (later_than key nodes) in
    let behind : drop start some ≡ later = later_clashing key loc access nodes start from in
    let past : later ≡ filter (is_past key) some = filters_commute (clashes_at loc access) (is_past key) nodes in
    let all : clashing_at loc Read some ≡ some = filter_full (clashes_at loc Read) some (ap length (writers_within loc access nodes) ∙ sym full) in
    let all_later : clashing_at loc Read later ≡ later = ap (filter (clashes_at loc Read)) past ∙ filters_commute (clashes_at loc Read) (is_past key) some ∙ ap (filter (is_past key)) all ∙ sym past in
    let one : start + 1 - start ≡ 1 = omega arith in
    ap (λ n. take n (drop start ids)) one ∙ ap (λ l. take 1 (drop start l)) are ∙ ap (take 1) (ids-drop start some) ∙ ids-take 1 (drop start some) ∙ ap (λ l. ids_of (take 1 l)) behind ∙ ap ids_of (sym (first_alone loc later all_later))

-- where none is later
pub front_none : (key : Key) (loc : ℕ) (access : Access) (nodes : List Node) (ids : List NodeId) (start : ℕ) → ids ≡ ids_of (clashing_at loc access nodes) → start ≡ length ids → IsRankPast key (clashing_at loc access nodes) start
    → take (start - start) (drop start ids) ≡ ids_of (front_after loc access key nodes)
front_none key loc access nodes ids start are end from =
    let some : List Node = clashing_at loc access nodes in
    let beyond : length some ≤ start = omega (arith, end, ap length are, length-ids some) in
    let none : start - start ≡ 0 = omega arith in
    ap (λ n. take n (drop start ids)) none ∙ ap (take 0) (ap (drop start) are ∙ ids-drop start some ∙ ap ids_of (none_dropped start some beyond))
    ∙ ap (λ l. ids_of (up_to_writer loc l)) (sym (none_dropped start some beyond) ∙ later_clashing key loc access nodes start from)

-- ---- the first that is found

pub none_first : (nodes : List Node) → least_of nodes ≡ None → nodes ≡ []
none_first [] none = refl
none_first (node ∷ nodes) none = absurd (let wrong : Some node.id ≡ None = none in cc)

pub some_first : (nodes : List Node) (id : NodeId) → least_of nodes ≡ Some id → (node : Node) × (rest : List Node) × (nodes ≡ node ∷ rest) × (node.id ≡ id)
some_first [] id is = absurd (let wrong : None ≡ Some id = is in cc)
some_first (node ∷ nodes) id is = (node, nodes, refl, (let same : Some node.id ≡ Some id = is in cc))

-- where all that an access clashes with are later, so are all writers
pub writers_later : (key : Key) (loc : ℕ) (access : Access) (nodes : List Node) → IsRankPast key (clashing_at loc access nodes) 0 → clashing_at loc Read nodes ≡ clashing_at loc Read (later_than key nodes)
writers_later key loc access nodes rank =
    sym (writers_within loc access nodes) ∙ ap (clashing_at loc Read) (later_clashing key loc access nodes 0 rank) ∙ writers_within loc access (later_than key nodes)

-- the first writer behind a key is a node of the graph
pub first_writer : (key : Key) (loc : ℕ) (nodes : List Node) (id : NodeId) → IsGraph nodes → least_of (clashing_at loc Read (later_than key nodes)) ≡ Some id
    → (writer : Node) × (rest : List Node) × (clashing_at loc Read (later_than key nodes) ≡ writer ∷ rest) × (node_at nodes id ≡ Some writer)
first_writer key loc nodes id graph is =
    let found = some_first (clashing_at loc Read (later_than key nodes)) id is in
    let writer : Node = found.0 in
    let has : Contains (clashing_at loc Read (later_than key nodes)) writer = subst (λ (l : List Node). Contains l writer) (sym found.2) (here writer found.1) in
    let among : Contains nodes writer = (from_filter (is_past key) nodes writer (from_filter (clashes_at loc Read) (later_than key nodes) writer has).0).0 in
    (writer, found.1, found.2, subst (λ (n : NodeId). node_at nodes n ≡ Some writer) found.3 (nodes_have_ids nodes writer graph among))
