-- How a block's first task compares with a key by what the block knows of it.
use Rattle.std.specs.Cmp.Lexicographic.{slice_cmp, nat_list_cmp_total}
use Rattle.std.specs.declared.cmp.Ordering.{Ordering}
use Rattle.std.specs.declared.cmp.Ordering.TheVariants.{Less, Greater}
use Rattle.std.specs.Ordering.{is_le, nat_cmp, ordering_then, ordering_reverse}
use Rattle.std.proofs.Common.{◌≡◌, ◌≢◌, ℕ, zero, suc, ◌<◌, ◌≤◌, false, nat_lt, List, [], ◌∷◌, length, refl, sym, ◌∙◌, ap, subst, arith, lt-ltb}
use Rattle.plain_laws.specs.Orderings.{nat_cmp-same}
use Rattle.task_order.specs.declared.key.Key.{Key}
use Rattle.task_order.specs.declared.task.Task.{Task}
use Rattle.task_order.specs.PathCode.{CanCode, path_beginning}
use Rattle.task_order.specs.Blocks.{starts_by, IsFirstPriority, IsFirstBeginning, IsBlock, full_length}
use Rattle.std.specs.List.{insert}
use Rattle.std.proofs.lemmas.List.Edits.{length-insert}
use Rattle.task_order.proofs.Beginnings.{lower_beginnings_come_first}

-- a first task at the key's priority is earlier than the key where its path begins with a lower number
pub starts_by-lower : (key : Key) (beginning : ℕ) (tasks : List Task) → IsFirstPriority key.prio tasks → IsFirstBeginning beginning tasks → CanCode 0 key.path → beginning < path_beginning key.path
    → starts_by key tasks ≡ nat_lt 0 (length tasks)
starts_by-lower key beginning [] prio known fits lower = refl
starts_by-lower key beginning (task ∷ tasks) prio known fits lower =
    let below : slice_cmp nat_cmp task.key.path key.path ≡ Less = lower_beginnings_come_first task.key.path key.path known.1 fits (subst (λ (n : ℕ). n < path_beginning key.path) known.0 lower) in
    ap (λ (o : Ordering). is_le (ordering_then (nat_cmp task.key.prio key.prio) o)) below
    ∙ ap (λ (n : ℕ). is_le (ordering_then (nat_cmp n key.prio) Less)) (sym prio)
    ∙ ap (λ (o : Ordering). is_le (ordering_then o Less)) (nat_cmp-same key.prio)
    ∙ sym (lt-ltb 0 (length (task ∷ tasks)) (omega arith))

-- and later where it begins with a higher one
pub starts_by-higher : (key : Key) (beginning : ℕ) (tasks : List Task) → IsFirstPriority key.prio tasks → IsFirstBeginning beginning tasks → CanCode 0 key.path → path_beginning key.path < beginning
    → starts_by key tasks ≡ false
starts_by-higher key beginning [] prio known fits higher = refl
starts_by-higher key beginning (task ∷ tasks) prio known fits higher =
    let below : slice_cmp nat_cmp key.path task.key.path ≡ Less = lower_beginnings_come_first key.path task.key.path fits known.1 (subst (λ (n : ℕ). path_beginning key.path < n) known.0 higher) in
    ap (λ (o : Ordering). is_le (ordering_then (nat_cmp task.key.prio key.prio) o)) (nat_list_cmp_total.antisymm task.key.path key.path ∙ ap ordering_reverse below)
    ∙ ap (λ (n : ℕ). is_le (ordering_then (nat_cmp n key.prio) Greater)) (sym prio)
    ∙ ap (λ (o : Ordering). is_le (ordering_then o Greater)) (nat_cmp-same key.prio)

-- ---- a task that is put in

first_priority_kept : (prio : ℕ) (tasks : List Task) (place : ℕ) (task : Task) → place ≤ length tasks → place ≢ 0 → IsFirstPriority prio tasks → IsFirstPriority prio (insert tasks place task)
first_priority_kept prio tasks zero task within behind known = absurd (behind refl)
first_priority_kept prio [] (suc place) task within behind known = absurd (omega arith)
first_priority_kept prio (other ∷ tasks) (suc place) task within behind known = known

first_beginning_kept : (beginning : ℕ) (tasks : List Task) (place : ℕ) (task : Task) → place ≤ length tasks → place ≢ 0 → IsFirstBeginning beginning tasks → IsFirstBeginning beginning (insert tasks place task)
first_beginning_kept beginning tasks zero task within behind known = absurd (behind refl)
first_beginning_kept beginning [] (suc place) task within behind known = absurd (omega arith)
first_beginning_kept beginning (other ∷ tasks) (suc place) task within behind known = known

-- a block stays one where a task is put behind its first
pub IsBlock-behind : (prio beginning : ℕ) (tasks : List Task) (place : ℕ) (task : Task) (capacity more : ℕ) → IsBlock prio beginning tasks capacity → length tasks < full_length → place ≤ length tasks → place ≢ 0 → capacity ≤ more
    → IsBlock prio beginning (insert tasks place task) more
IsBlock-behind prio beginning tasks place task capacity more block room within behind larger =
    let enough = block.room in
    record {
      first_prio = first_priority_kept prio tasks place task within behind block.first_prio;
      first_beginning = first_beginning_kept beginning tasks place task within behind block.first_beginning;
      few = omega (arith, length-insert tasks place task within);
      room = omega arith;
    }

-- and where one is put before it
pub IsBlock-before : (prio beginning : ℕ) (tasks : List Task) (task : Task) (first capacity more : ℕ) → IsBlock prio beginning tasks capacity → length tasks < full_length → capacity ≤ more → IsFirstBeginning first (task ∷ tasks)
    → IsBlock task.key.prio first (insert tasks 0 task) more
IsBlock-before prio beginning tasks task first capacity more block room larger known =
    let enough = block.room in
    record {
      first_prio = refl;
      first_beginning = known;
      few = omega (arith, length-insert tasks 0 task (omega arith));
      room = omega arith;
    }
