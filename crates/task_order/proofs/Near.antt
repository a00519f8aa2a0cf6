-- A key that belongs into a block, where no block behind it starts by the key.
use Rattle.std.proofs.Common.{◌≡◌, ℕ, zero, suc, ◌+◌, ◌<◌, ◌≤◌, ◌⊎◌, inl, inr, Bool, true, false, List, [], ◌∷◌, length, get_or, refl, sym, ◌∙◌, ap, subst, arith}
use Rattle.std.proofs.lemmas.Bool.{true≢false}
use Rattle.std.proofs.lemmas.List.{get_or_default}
use Rattle.std.specs.List.{AllByRecursion}
use Rattle.std.specs.declared.cmp.Ordering.TheVariants.{Less}
use Rattle.std.specs.Ordering.{is_lt}
use Rattle.task_order.specs.declared.key.Key.{Key}
use Rattle.task_order.specs.declared.task.Task.{Task}
use Rattle.task_order.specs.Key.{key_cmp}
use Rattle.task_order.specs.TaskList.{IsAscending, is_earlier, tasks_before}
use Rattle.task_order.specs.Blocks.{tasks_in, starts_by, IsGapless, block_at, IsPlace}
use Rattle.task_order.proofs.Counts.{counts_earlier}
use Rattle.task_order.proofs.Places.{ascending_parts, AreInTurn, block_ascends, blocks_partitioned, earlier_than_started, place_at_front, place_in_block}
use Rattle.task_order.proofs.Priorities.{started_from_some}

all_at : (P : Task → Type 0) (tasks : List Task) (i : ℕ) (d : Task) → AllByRecursion P tasks → i < length tasks → P (get_or tasks i d)
all_at P [] i d all inside = absurd (omega (arith, inside))
all_at P (task ∷ tasks) zero d all inside = all.0
all_at P (task ∷ tasks) (suc i) d all inside = all_at P tasks i d all.1 (omega (arith, inside))

-- where no more tasks of a block are earlier, the one at that place isn't
late_at : (key : Key) (tasks : List Task) (place : ℕ) (d : Task) (test : Bool) → IsAscending tasks → place ≡ length (tasks_before key tasks) → place < length tasks → is_earlier key (get_or tasks place d) ≡ test → test ≡ false
late_at key tasks place d true up found below is = absurd (omega (arith, found, counts_earlier key tasks place d up below is))
late_at key tasks place d false up found below is = refl

-- a block behind a task that isn't earlier doesn't start by the key
not_started_by : (key : Key) (task : Task) (blocks : List (List Task)) (k : ℕ) (d : List Task) (test : Bool) → AllByRecursion (λ other. key_cmp task.key other.key ≡ Less) (tasks_in blocks)
    → k < length blocks → is_earlier key task ≡ false → starts_by key (get_or blocks k d) ≡ test → test ≡ false
not_started_by key task blocks k d true all inside late is =
    absurd (true≢false (sym (ap is_lt (earlier_than_started key task blocks k d all inside is)) ∙ late))
not_started_by key task blocks k d false all inside late is = refl

no_start_behind : (key : Key) (block : List Task) (blocks : List (List Task)) (place k : ℕ) (d : List Task) → IsAscending block → AreInTurn block (tasks_in blocks)
    → place ≡ length (tasks_before key block) → place < length block → k < length blocks → starts_by key (get_or blocks k d) ≡ false
no_start_behind key [] blocks place k d up turn found below inside = absurd (omega (arith, below))
no_start_behind key (first ∷ block) blocks place k d up turn found below inside =
    let task = get_or (first ∷ block) place first in
    not_started_by key task blocks k d _ (all_at (λ task. AllByRecursion (λ other. key_cmp task.key other.key ≡ Less) (tasks_in blocks)) (first ∷ block) place first turn below) inside
    (late_at key (first ∷ block) place first _ up found below refl) refl

no_start_after : (key : Key) (blocks : List (List Task)) (at place k : ℕ) (d : List Task) → IsAscending (tasks_in blocks) → place ≡ length (tasks_before key (block_at blocks at)) → place < length (block_at blocks at)
    → at < k → k < length blocks → starts_by key (get_or blocks k d) ≡ false
no_start_after key [] at place k d up found below after inside = absurd (omega (arith, inside))
no_start_after key (block ∷ blocks) at place zero d up found below after inside = absurd (omega (arith, after))
no_start_after key (block ∷ blocks) zero place (suc k) d up found below after inside =
    let parts = ascending_parts block (tasks_in blocks) up in
    no_start_behind key block blocks place k d parts.first parts.turn found below (omega (arith, inside))
no_start_after key (block ∷ blocks) (suc at) place (suc k) d up found below after inside =
    no_start_after key blocks at place k d (ascending_parts block (tasks_in blocks) up).second found below (omega (arith, after)) (omega (arith, inside))

-- where the next block doesn't start by the key, no later one does
no_start_from : (key : Key) (blocks : List (List Task)) (next k : ℕ) (d : List Task) (test : Bool) → IsGapless blocks → IsAscending (tasks_in blocks) → starts_by key (block_at blocks next) ≡ false
    → next ≤ k → k < length blocks → starts_by key (get_or blocks k d) ≡ test → test ≡ false
no_start_from key blocks next k d true gapless up late from inside is =
    let first : starts_by key (get_or blocks next d) ≡ true = blocks_partitioned key blocks gapless up next k d from inside is in
    absurd (true≢false (sym first ∙ ap (starts_by key) (get_or_default blocks next d [] (omega (arith, from, inside))) ∙ late))
no_start_from key blocks next k d false gapless up late from inside is = refl

no_start : (key : Key) (blocks : List (List Task)) (at place k : ℕ) (d : List Task) → IsAscending (tasks_in blocks) → IsGapless blocks → place ≡ length (tasks_before key (block_at blocks at))
    → (place < length (block_at blocks at)) ⊎ (starts_by key (block_at blocks (at + 1)) ≡ false) → at < k → k < length blocks → starts_by key (get_or blocks k d) ≡ false
no_start key blocks at place k d up gapless found (inl below) after inside = no_start_after key blocks at place k d up found below after inside
no_start key blocks at place k d up gapless found (inr late) after inside = no_start_from key blocks (at + 1) k d _ gapless up late (omega (arith, after)) inside refl

pub place_near : (key : Key) (blocks : List (List Task)) (at place : ℕ) → IsAscending (tasks_in blocks) → IsGapless blocks → at < length blocks → 0 < place → place ≡ length (tasks_before key (block_at blocks at))
    → (place < length (block_at blocks at)) ⊎ (starts_by key (block_at blocks (at + 1)) ≡ false) → IsPlace key blocks at place
place_near key blocks at place up gapless inside some found ends =
    subst (λ n. IsPlace key blocks at n) (sym found)
    (place_in_block key blocks at up inside (started_from_some key (block_at blocks at) (block_ascends blocks at up) (omega (arith, some, found)))
    (λ k d after below. no_start key blocks at place k d up gapless found ends after below))

-- a key before the first task
pub place_before_first : (key : Key) (blocks : List (List Task)) → IsAscending (tasks_in blocks) → IsGapless blocks → starts_by key (block_at blocks 0) ≡ false → IsPlace key blocks 0 0
place_before_first key blocks up gapless late = place_at_front key blocks up (λ k d inside. no_start_from key blocks 0 k d _ gapless up late (omega arith) inside refl)
