-- Where a key belongs in a list of tasks that is cut into blocks.
use Rattle.std.proofs.Common.{◌≡◌, ℕ, zero, suc, ◌-◌, ◌<◌, ◌≤◌, inl, inr, Bool, true, false, not, cond, List, [], ◌∷◌, ◌++◌, length, take, drop, get_or, refl, sym, ◌∙◌, ap, subst, arith, append_assoc}
use Rattle.std.proofs.Math.Seq.{take-append_seam, drop-append_seam}
use Rattle.std.proofs.lemmas.Bool.{true≢false, not-true, cond_both}
use Rattle.std.proofs.lemmas.List.{get_or_default}
use Rattle.std.proofs.lemmas.List.Sums.{length-filter, count_by-le-length}
use Rattle.std.specs.List.{AllByRecursion}
use Rattle.std.specs.List.Sorted.{IsPartitionedBy, IsPartitionPoint}
use Rattle.std.specs.declared.cmp.Ordering.{Ordering}
use Rattle.std.specs.declared.cmp.Ordering.TheVariants.{Less, Equal, Greater}
use Rattle.std.specs.Ordering.{is_lt, is_le}
use Rattle.plain_laws.specs.Orderings.{less_from_test}
use Rattle.plain_laws.specs.Lists.{All-weaker, All-append, All-parts}
use Rattle.task_order.specs.declared.key.Key.{Key}
use Rattle.task_order.specs.declared.task.Task.{Task}
use Rattle.task_order.specs.Key.{key_cmp, key_cmp_total}
use Rattle.task_order.specs.TaskList.{IsAscending, is_earlier, tasks_before, tasks_from}
use Rattle.task_order.specs.Blocks.{tasks_in, starts_by, IsGapless, block_at, IsPlace}
use Rattle.task_order.proofs.KeyOrder.{key_cmp-exact, key_cmp-turned}
use Rattle.task_order.proofs.Fronts.{before_and_from, all_before}
use Rattle.task_order.specs.KeyLaws.{key_cmp-turned_back}

-- ---- parts of an ascending list

-- each task of the first list is earlier than each of the second
abbrev pub AreInTurn : List Task → List Task → Type 0
AreInTurn tasks others = AllByRecursion (λ task. AllByRecursion (λ other. key_cmp task.key other.key ≡ Less) others) tasks

pub record IsAscendingParts (tasks others : List Task) : Type 0 where
  pub first : IsAscending tasks
  pub second : IsAscending others
  pub turn : AreInTurn tasks others

pub ascending_parts : (tasks others : List Task) → IsAscending (tasks ++ others) → IsAscendingParts tasks others
ascending_parts [] others up = record { first = tt; second = up; turn = tt }
ascending_parts (task ∷ tasks) others up =
    let rest : IsAscendingParts tasks others = ascending_parts tasks others up.1 in
    let later = All-parts (λ other. key_cmp task.key other.key ≡ Less) tasks others up.0 in
    record { first = (later.0, rest.first); second = rest.second; turn = (later.1, rest.turn) }

pub ascending_from_parts : (tasks others : List Task) → IsAscendingParts tasks others → IsAscending (tasks ++ others)
ascending_from_parts [] others parts = parts.second
ascending_from_parts (task ∷ tasks) others parts = (
  All-append (λ other. key_cmp task.key other.key ≡ Less) tasks others parts.first.0 parts.turn.0,
  ascending_from_parts tasks others (record { first = parts.first.1; second = parts.second; turn = parts.turn.1 }),
)

-- ---- the tasks before a key

-- an earlier task has only earlier ones before it
pub first_earlier : (key : Key) (task : Task) (tasks : List Task) → AllByRecursion (λ other. key_cmp task.key other.key ≡ Less) tasks → (j : ℕ) (d : Task) → j < length tasks → is_earlier key (get_or tasks j d) ≡ true → is_earlier key task ≡ true
first_earlier key task [] all j d inside earlier = absurd (omega (arith, inside))
first_earlier key task (other ∷ tasks) all zero d inside earlier = ap is_lt (key_cmp_total.trans task.key other.key key all.0 (less_from_test _ earlier))
first_earlier key task (other ∷ tasks) all (suc j) d inside earlier = first_earlier key task tasks all.1 j d (omega (arith, inside)) earlier

pub before-cons : (key : Key) (task : Task) (tasks : List Task) (test : Bool) → is_earlier key task ≡ test → tasks_before key (task ∷ tasks) ≡ cond test (task ∷ tasks_before key tasks) (tasks_before key tasks)
before-cons key task tasks test is = ap (λ b. cond b (task ∷ tasks_before key tasks) (tasks_before key tasks)) is

-- ---- the search among the blocks

-- what is earlier than a task that is not later than the key is earlier than the key
before_by : (a b key : Key) (o : Ordering) → key_cmp b key ≡ o → key_cmp a b ≡ Less → is_le o ≡ true → key_cmp a key ≡ Less
before_by a b key Less is earlier up_to = key_cmp_total.trans a b key earlier is
before_by a b key Equal is earlier up_to = subst (λ k. key_cmp a k ≡ Less) (key_cmp-exact b key is) earlier
before_by a b key Greater is earlier up_to = absurd (true≢false (sym up_to))

-- a task before a block that starts by the key is earlier than the key
pub earlier_than_started : (key : Key) (task : Task) (blocks : List (List Task)) (at : ℕ) (d : List Task) → AllByRecursion (λ other. key_cmp task.key other.key ≡ Less) (tasks_in blocks)
    → at < length blocks → starts_by key (get_or blocks at d) ≡ true → key_cmp task.key key ≡ Less
earlier_than_started key task [] at d all inside starts = absurd (omega (arith, inside))
earlier_than_started key task ([] ∷ blocks) zero d all inside starts = absurd (true≢false (sym starts))
earlier_than_started key task ((other ∷ block) ∷ blocks) zero d all inside starts = before_by task.key other.key key _ refl all.0 starts
earlier_than_started key task (block ∷ blocks) (suc at) d all inside starts =
    earlier_than_started key task blocks at d (All-parts (λ other. key_cmp task.key other.key ≡ Less) block (tasks_in blocks) all).1 (omega (arith, inside)) starts

first_starts : (key : Key) (block : List Task) (blocks : List (List Task)) → 0 < length block → IsAscending (block ++ tasks_in blocks) → (j : ℕ) (d : List Task) → j < length blocks → starts_by key (get_or blocks j d) ≡ true → starts_by key block ≡ true
first_starts key [] blocks filled up j d inside starts = absurd (omega (arith, filled))
first_starts key (task ∷ block) blocks filled up j d inside starts =
    ap is_le (earlier_than_started key task blocks j d (All-parts (λ other. key_cmp task.key other.key ≡ Less) block (tasks_in blocks) up.0).1 inside starts)

partitioned_filled : (key : Key) (blocks : List (List Task)) → AllByRecursion (λ block. 0 < length block) blocks → IsAscending (tasks_in blocks) → IsPartitionedBy (starts_by key) blocks
partitioned_filled key [] filled up i j d ordered inside starts = absurd (omega (arith, inside))
partitioned_filled key (block ∷ blocks) filled up zero zero d ordered inside starts = starts
partitioned_filled key (block ∷ blocks) filled up zero (suc j) d ordered inside starts = first_starts key block blocks filled.0 up j d (omega (arith, inside)) starts
partitioned_filled key (block ∷ blocks) filled up (suc i) zero d ordered inside starts = absurd (omega (arith, ordered))
partitioned_filled key (block ∷ blocks) filled up (suc i) (suc j) d ordered inside starts =
    partitioned_filled key blocks filled.1 (ascending_parts block (tasks_in blocks) up).second i j d (omega (arith, ordered)) (omega (arith, inside)) starts

pub partitioned_short : {X : Type 0} (p : X → Bool) (xs : List X) → length xs ≤ 1 → IsPartitionedBy p xs
partitioned_short p xs short i j d ordered inside passes =
    let same : j ≡ i = omega (arith, short, ordered, inside) in
    subst (λ k. p (get_or xs k d) ≡ true) same passes

pub blocks_partitioned : (key : Key) (blocks : List (List Task)) → IsGapless blocks → IsAscending (tasks_in blocks) → IsPartitionedBy (starts_by key) blocks
blocks_partitioned key blocks (inl short) up = partitioned_short (starts_by key) blocks short
blocks_partitioned key blocks (inr filled) up = partitioned_filled key blocks filled up

-- ---- the place

later_by : (a key : Key) (o : Ordering) → key_cmp a key ≡ o → is_le o ≡ false → key_cmp key a ≡ Less
later_by a key Less is late = absurd (true≢false late)
later_by a key Equal is late = absurd (true≢false late)
later_by a key Greater is late = key_cmp-turned a key is

-- the tasks of a block that doesn't start by the key are later
later_block : (key : Key) (block : List Task) → IsAscending block → starts_by key block ≡ false → AllByRecursion (λ task. key_cmp key task.key ≡ Less) block
later_block key [] up late = tt
later_block key (task ∷ block) up late =
    let first : key_cmp key task.key ≡ Less = later_by task.key key _ refl late in
    (first, All-weaker (λ other. key_cmp task.key other.key ≡ Less) (λ other. key_cmp key other.key ≡ Less) (λ other. key_cmp_total.trans key task.key other.key first) block up.0)

later_blocks : (key : Key) (blocks : List (List Task)) → IsAscending (tasks_in blocks) → ((k : ℕ) (d : List Task) → k < length blocks → starts_by key (get_or blocks k d) ≡ false)
    → AllByRecursion (λ task. key_cmp key task.key ≡ Less) (tasks_in blocks)
later_blocks key [] up late = tt
later_blocks key (block ∷ blocks) up late =
    let parts = ascending_parts block (tasks_in blocks) up in
    All-append (λ task. key_cmp key task.key ≡ Less) block (tasks_in blocks)
    (later_block key block parts.first (late 0 [] (omega arith)))
    (later_blocks key blocks parts.second (λ k d inside. late (suc k) d (omega (arith, inside))))

pub not_earlier_from_later : (key : Key) (tasks : List Task) → AllByRecursion (λ task. key_cmp key task.key ≡ Less) tasks → AllByRecursion (λ task. is_earlier key task ≡ false) tasks
not_earlier_from_later key tasks all =
    All-weaker (λ task. key_cmp key task.key ≡ Less) (λ task. is_earlier key task ≡ false) (λ task later. ap is_lt (key_cmp-turned_back key task.key later)) tasks all

pub place_at_front : (key : Key) (blocks : List (List Task)) → IsAscending (tasks_in blocks) → ((k : ℕ) (d : List Task) → k < length blocks → starts_by key (get_or blocks k d) ≡ false) → IsPlace key blocks 0 0
place_at_front key [] up late = record { there = inr (omega arith); within = omega arith; earlier = tt; not_earlier = tt; later = tt }
place_at_front key (block ∷ blocks) up late =
    let parts = ascending_parts block (tasks_in blocks) up in
    record {
      there = inl (omega arith);
      within = omega arith;
      earlier = tt;
      not_earlier = not_earlier_from_later key block (later_block key block parts.first (late 0 [] (omega arith)));
      later = later_blocks key blocks parts.second (λ k d inside. late (suc k) d (omega (arith, inside)));
    }

all_from : (key : Key) (tasks : List Task) → AllByRecursion (λ task. is_earlier key task ≡ false) (tasks_from key tasks)
all_from key [] = tt
all_from key (task ∷ tasks) =
    cond_both (not (is_earlier key task)) (task ∷ tasks_from key tasks) (tasks_from key tasks) (λ l. AllByRecursion (λ other. is_earlier key other ≡ false) l)
    (λ late. (not-true _ late, all_from key tasks)) (λ _. all_from key tasks)

take_before : (key : Key) (tasks : List Task) → IsAscending tasks → take (length (tasks_before key tasks)) tasks ≡ tasks_before key tasks
take_before key tasks up = ap (take (length (tasks_before key tasks))) (before_and_from key tasks up) ∙ take-append_seam (tasks_before key tasks) (tasks_from key tasks)

drop_before : (key : Key) (tasks : List Task) → IsAscending tasks → drop (length (tasks_before key tasks)) tasks ≡ tasks_from key tasks
drop_before key tasks up = ap (drop (length (tasks_before key tasks))) (before_and_from key tasks up) ∙ drop-append_seam (tasks_before key tasks) (tasks_from key tasks)

pub place_in_block : (key : Key) (blocks : List (List Task)) (at : ℕ) → IsAscending (tasks_in blocks) → at < length blocks → starts_by key (block_at blocks at) ≡ true
    → ((k : ℕ) (d : List Task) → at < k → k < length blocks → starts_by key (get_or blocks k d) ≡ false) → IsPlace key blocks at (length (tasks_before key (block_at blocks at)))
place_in_block key [] at up inside starts late = absurd (omega (arith, inside))
place_in_block key (block ∷ blocks) zero up inside starts late =
    let parts = ascending_parts block (tasks_in blocks) up in
    record {
      there = inl inside;
      within = omega (arith, length-filter (is_earlier key) block, count_by-le-length (is_earlier key) block);
      earlier = subst (λ l. AllByRecursion (λ task. key_cmp task.key key ≡ Less) l) (sym (take_before key block parts.first)) (all_before key block);
      not_earlier = subst (λ l. AllByRecursion (λ task. is_earlier key task ≡ false) l) (sym (drop_before key block parts.first)) (all_from key block);
      later = later_blocks key blocks parts.second (λ k d inside'. late (suc k) d (omega arith) (omega (arith, inside')));
    }
place_in_block key (block ∷ blocks) (suc at) up inside starts late =
    let parts = ascending_parts block (tasks_in blocks) up in
    let below : at < length blocks = omega (arith, inside) in
    let rest = place_in_block key blocks at parts.second below starts (λ k d after inside'. late (suc k) d (omega (arith, after)) (omega (arith, inside'))) in
    let front = All-weaker (λ task. AllByRecursion (λ other. key_cmp task.key other.key ≡ Less) (tasks_in blocks)) (λ task. key_cmp task.key key ≡ Less)
    (λ task all. earlier_than_started key task blocks at [] all below starts) block parts.turn in
    record {
      there = inl inside;
      within = rest.within;
      earlier = subst (λ l. AllByRecursion (λ task. key_cmp task.key key ≡ Less) l) (sym (append_assoc block (tasks_in (take at blocks)) (take (length (tasks_before key (block_at blocks at))) (block_at blocks at))))
          (All-append (λ task. key_cmp task.key key ≡ Less) block (tasks_in (take at blocks) ++ take (length (tasks_before key (block_at blocks at))) (block_at blocks at)) front rest.earlier);
      not_earlier = rest.not_earlier;
      later = rest.later;
    }

-- ---- the place that the search finds

abbrev IsStarted : Key → List (List Task) → ℕ → Type 0
IsStarted key blocks count = IsPartitionPoint (λ block. starts_by key block ≡ true) (λ block. starts_by key block ≡ false) blocks count

pub place_before_all : (key : Key) (blocks : List (List Task)) (count : ℕ) → IsAscending (tasks_in blocks) → count ≡ 0 → IsStarted key blocks count → IsPlace key blocks 0 0
place_before_all key blocks count up none point = place_at_front key blocks up (λ k d inside. point.1 k d (omega (arith, none)) inside)

pub block_ascends : (blocks : List (List Task)) (at : ℕ) → IsAscending (tasks_in blocks) → IsAscending (block_at blocks at)
block_ascends [] at up = tt
block_ascends (block ∷ blocks) zero up = (ascending_parts block (tasks_in blocks) up).first
block_ascends (block ∷ blocks) (suc at) up = block_ascends blocks at (ascending_parts block (tasks_in blocks) up).second

pub place_found : (key : Key) (blocks : List (List Task)) (count at place : ℕ) → IsAscending (tasks_in blocks) → 1 ≤ count → at ≡ count - 1 → count ≤ length blocks → IsStarted key blocks count
    → place ≡ length (tasks_before key (block_at blocks at)) → IsPlace key blocks at place
place_found key blocks count at place up some is inside point found =
    subst (λ n. IsPlace key blocks at n) (sym found)
    (place_in_block key blocks at up (omega (arith, some, is, inside)) (point.0 at [] (omega arith) (omega (arith, some, is)))
    (λ k d after below. point.1 k d (omega (arith, some, is, after)) below))

pub block_read : (inner blocks : List (List Task)) (count at : ℕ) (block : List Task) → inner ≡ blocks → block ≡ get_or inner at block → 1 ≤ count → at ≡ count - 1 → count ≤ length blocks → block ≡ block_at blocks at
block_read inner blocks count at block same is some before inside =
    is ∙ ap (λ l. get_or l at block) same ∙ get_or_default blocks at block [] (omega (arith, some, before, inside))
