-- How bytes compare that are kept in nodes.
use Rattle.std.specs.Cmp.Lexicographic.{slice_cmp}
use Rattle.std.specs.declared.cmp.Ordering.{Ordering}
use Rattle.std.specs.declared.cmp.Ordering.TheVariants.{Less}
use Rattle.std.specs.Ordering.{nat_cmp, ordering_then}
use Rattle.std.proofs.Common.{◌≡◌, ℕ, ◌+◌, ◌*◌, ◌%◌, ◌<◌, ◌≤◌, List, [], ◌∷◌, ◌++◌, length, take, drop, take-append-drop, refl, sym, ◌∙◌, ap, append_assoc, length-append, arith}
use Rattle.task_order.specs.SharedBytes.{IsNode}
use Rattle.task_order.specs.declared.path.node.TheConstants.{IN_PLACE, FULL_NODE}
use Rattle.task_order.specs.PathCode.{first_word}
use Rattle.task_order.proofs.Beginnings.{first_word-longer}
use Rattle.task_order.specs.Comparing.{slice_cmp-append, slice_cmp-ends, slice_cmp-upto, then_assoc}

-- what decides below a level decides against all bytes that go on behind it
pub order-below : (before own below other upper all : List ℕ) → length before ≡ length below → length own ≤ length other → below ++ other ≡ upper → upper ≡ take (length upper) all
    → ordering_then (slice_cmp nat_cmp (before ++ own) all) Less ≡ ordering_then (slice_cmp nat_cmp before below) (ordering_then (slice_cmp nat_cmp own other) Less)
order-below before own below other upper all same upto is begins =
    let whole : all ≡ (below ++ other) ++ drop (length upper) all = sym (take-append-drop (length upper) all) ∙ ap (λ front. front ++ drop (length upper) all) (sym begins ∙ sym is) in
    ap (λ (bytes : List ℕ). ordering_then (slice_cmp nat_cmp (before ++ own) bytes) Less) whole
    ∙ slice_cmp-upto (before ++ own) (below ++ other) (drop (length upper) all) (simp length-append (omega arith))
    ∙ ap (λ (o : Ordering). ordering_then o Less) (slice_cmp-append before below own other same)
    ∙ then_assoc (slice_cmp nat_cmp before below) (slice_cmp nat_cmp own other) Less

-- of bytes at different levels those with fewer come first, where they are equal so far
pub order-deeper : (nodes rest before bytes other other_rest : List ℕ) (o : Ordering) → nodes ≡ before ++ bytes → length (nodes ++ rest) ≤ length other → 0 < length other_rest
    → o ≡ ordering_then (slice_cmp nat_cmp (before ++ (bytes ++ rest)) other) Less → o ≡ slice_cmp nat_cmp (nodes ++ rest) (other ++ other_rest)
order-deeper nodes rest before bytes other other_rest o split upto goes_on is =
    let whole : before ++ (bytes ++ rest) ≡ nodes ++ rest = sym (append_assoc before bytes rest) ∙ ap (λ front. front ++ rest) (sym split) in
    is ∙ ap (λ (all : List ℕ). ordering_then (slice_cmp nat_cmp all other) Less) whole ∙ sym (slice_cmp-ends (nodes ++ rest) other other_rest upto goes_on)

-- where there are nodes, some bytes are behind them
pub some_behind : (nodes rest : List ℕ) → (length rest ≡ 0 → nodes ≡ []) → 0 < length nodes → 0 < length rest
some_behind nodes [] goes_on some = absurd (omega (arith, ap length (goes_on refl)))
some_behind nodes (byte ∷ rest) goes_on some = omega arith

-- ---- nodes at one level

pub same_level : {a_beginning b_beginning : ℕ} → (a_level : ℕ) (a_bytes a_before : List ℕ) (b_level : ℕ) (b_bytes b_before : List ℕ) → IsNode a_level a_beginning a_bytes a_before → IsNode b_level b_beginning b_bytes b_before
    → length (a_before ++ a_bytes) ≡ length (b_before ++ b_bytes) → (length a_before ≡ length b_before) × (length a_bytes ≡ length b_bytes)
same_level a_level a_bytes a_before b_level b_bytes b_before a_node b_node same =
    let all : length a_before + length a_bytes ≡ length b_before + length b_bytes = sym (length-append a_before a_bytes) ∙ same ∙ length-append b_before b_bytes in
    (omega arith, omega arith)

-- what is found at a level decides before what was found above it
pub order-found : (a_bytes a_before b_bytes b_before : List ℕ) (order found : Ordering) → length a_before ≡ length b_before → ordering_then (slice_cmp nat_cmp a_bytes b_bytes) order ≡ found
    → ordering_then (slice_cmp nat_cmp (a_before ++ a_bytes) (b_before ++ b_bytes)) order ≡ ordering_then (slice_cmp nat_cmp a_before b_before) found
order-found a_bytes a_before b_bytes b_before order found same is =
    ap (λ (o : Ordering). ordering_then o order) (slice_cmp-append a_before b_before a_bytes b_bytes same)
    ∙ then_assoc (slice_cmp nat_cmp a_before b_before) (slice_cmp nat_cmp a_bytes b_bytes) order
    ∙ ap (ordering_then (slice_cmp nat_cmp a_before b_before)) is

-- the levels of a node and of the one before it, where the node is the first behind a level
pub levels_below : {lower_beginning upper_beginning : ℕ} → (level : ℕ) (before : List ℕ) (lower_level : ℕ) (lower below : List ℕ) (upper_level : ℕ) (upper upper_before all : List ℕ) → length before ≡ FULL_NODE * level
    → IsNode lower_level lower_beginning lower below → IsNode upper_level upper_beginning upper upper_before → upper_before ≡ below ++ lower → upper_before ++ upper ≡ all
    → FULL_NODE * (level + 1) < length all → length all ≤ FULL_NODE * (level + 1) + FULL_NODE → (length before ≡ length below) × (length lower ≡ FULL_NODE) × (IN_PLACE ≤ length upper)
levels_below level before lower_level lower below upper_level upper upper_before all full lower_node upper_node lower_all upper_all not_below not_above =
    let lower_length : length upper_before ≡ length below + length lower = ap length lower_all ∙ length-append below lower in
    let upper_length : length upper_before + length upper ≡ length all = sym (length-append upper_before upper) ∙ ap length upper_all in
    let a = lower_node.full_before in
    let b = lower_node.not_many in
    let d = upper_node.full_before in
    let e = upper_node.not_few in
    let f = upper_node.not_many in
    let g = lower_node.not_few in
    (omega arith, omega arith, e)

-- ---- nodes that grow

first_word-more : (beginning : ℕ) (before bytes new : List ℕ) → beginning ≡ first_word (before ++ bytes) → IN_PLACE ≤ length bytes → beginning ≡ first_word ((before ++ bytes) ++ new)
first_word-more beginning before bytes new begins not_few =
    begins ∙ sym (first_word-longer (before ++ bytes) new (omega (arith, length-append before bytes)))

-- a node that isn't full takes more
pub IsNode-more : (level beginning : ℕ) (bytes before new : List ℕ) → IsNode level beginning bytes before → length new ≡ IN_PLACE → length (before ++ bytes) % IN_PLACE ≡ 0 → length bytes < FULL_NODE
    → IsNode level beginning (bytes ++ new) before
IsNode-more level beginning bytes before new node is whole room =
    let all : length (before ++ bytes) ≡ length before + length bytes = length-append before bytes in
    let joined : length (bytes ++ new) ≡ length bytes + length new = length-append bytes new in
    let full = node.full_before in
    record {
      full_before = full;
      not_few = omega arith;
      not_many = omega arith;
      begins = first_word-more beginning before bytes new node.begins node.not_few ∙ ap first_word (append_assoc before bytes new);
    }

-- a full node has the next one behind it
pub IsNode-next : (level beginning : ℕ) (bytes before new : List ℕ) → IsNode level beginning bytes before → length new ≡ IN_PLACE → FULL_NODE ≤ length bytes
    → IsNode (level + 1) beginning new (before ++ bytes)
IsNode-next level beginning bytes before new node is full =
    let all : length (before ++ bytes) ≡ length before + length bytes = length-append before bytes in
    let levels = node.full_before in
    let most = node.not_many in
    record {
      full_before = omega arith;
      not_few = omega arith;
      not_many = omega arith;
      begins = first_word-more beginning before bytes new node.begins node.not_few;
    }
