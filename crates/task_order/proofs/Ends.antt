-- A key that is later than the last task.
use Rattle.std.proofs.Common.{◌≡◌, ℕ, zero, suc, ◌+◌, ◌<◌, inl, false, List, [], ◌∷◌, ◌++◌, length, take, drop, Option, Some, sym, ◌∙◌, ap, subst, arith, append-nil}
use Rattle.std.specs.Prelude.{slice_get}
use Rattle.std.specs.Option.{unwrap_or}
use Rattle.std.specs.List.{AllByRecursion}
use Rattle.std.specs.declared.cmp.Ordering.TheVariants.{Less}
use Rattle.plain_laws.specs.Lists.{All-weaker, All-append}
use Rattle.task_order.specs.declared.key.Key.{Key}
use Rattle.task_order.specs.declared.task.Task.{Task}
use Rattle.task_order.specs.Key.{key_cmp, key_cmp_total}
use Rattle.task_order.specs.TaskList.{IsAscending, is_earlier}
use Rattle.task_order.specs.Blocks.{tasks_in, block_at, IsPlace}
use Rattle.task_order.proofs.Places.{ascending_parts, IsAscendingParts, AreInTurn, block_ascends}
use Rattle.task_order.proofs.Cuts.{tasks_in-at, take-all, drop-all}

abbrev AllEarlier : Key → List Task → Type 0
AllEarlier key tasks = AllByRecursion (λ task. key_cmp task.key key ≡ Less) tasks

-- where the last task is earlier, all are
all_by_last : (key : Key) (tasks : List Task) (n : ℕ) (last : Task) → IsAscending tasks → slice_get tasks n ≡ Some last → n + 1 ≡ length tasks → key_cmp last.key key ≡ Less → AllEarlier key tasks
all_by_last key [] n last up is end earlier = tt
all_by_last key (task ∷ []) zero last up is end earlier =
    (subst (λ (t : Task). key_cmp t.key key ≡ Less) (sym (ap (λ (o : Option Task). unwrap_or o task) is)) earlier, tt)
all_by_last key (task ∷ []) (suc n) last up is end earlier = absurd (omega (arith, end))
all_by_last key (task ∷ next ∷ tasks) zero last up is end earlier = absurd (omega (arith, end))
all_by_last key (task ∷ next ∷ tasks) (suc n) last up is end earlier =
    let rest : AllEarlier key (next ∷ tasks) = all_by_last key (next ∷ tasks) n last up.1 is (omega (arith, end)) earlier in
    (key_cmp_total.trans task.key next.key key up.0.0 rest.0, rest)

-- tasks before earlier ones are earlier
earlier_before : (key : Key) (front block : List Task) → AreInTurn front block → 0 < length block → AllEarlier key block → AllEarlier key front
earlier_before key front [] turn some all = absurd (omega (arith, some))
earlier_before key front (first ∷ block) turn some all =
    All-weaker (λ task. AllByRecursion (λ other. key_cmp task.key other.key ≡ Less) (first ∷ block)) (λ task. key_cmp task.key key ≡ Less)
    (λ task later. key_cmp_total.trans task.key first.key key later.0 all.0) front turn

no_more : (blocks : List (List Task)) (at : ℕ) → at + 1 ≡ length blocks → drop (suc at) blocks ≡ []
no_more blocks at is = drop-all blocks (suc at) (omega (arith, is))

pub place_at_end : (key : Key) (blocks : List (List Task)) (at n place : ℕ) (last : Task) → IsAscending (tasks_in blocks) → at + 1 ≡ length blocks → slice_get (block_at blocks at) n ≡ Some last → n + 1 ≡ length (block_at blocks at)
    → place ≡ length (block_at blocks at) → key_cmp last.key key ≡ Less → IsPlace key blocks at place
place_at_end key blocks at n place last up inside is end all earlier =
    let block = block_at blocks at in
    let below : at < length blocks = omega (arith, inside) in
    let none : drop (suc at) blocks ≡ [] = no_more blocks at inside in
    let parts : IsAscendingParts (tasks_in (take at blocks)) (block ++ tasks_in (drop (suc at) blocks)) =
    ascending_parts (tasks_in (take at blocks)) (block ++ tasks_in (drop (suc at) blocks)) (subst IsAscending (tasks_in-at blocks at below) up) in
    let whole : block ++ tasks_in (drop (suc at) blocks) ≡ block = ap (λ l. block ++ tasks_in l) none ∙ append-nil block in
    let block_all : AllEarlier key block = all_by_last key block n last (block_ascends blocks at up) is end earlier in
    let front_all : AllEarlier key (tasks_in (take at blocks)) = earlier_before key (tasks_in (take at blocks)) block (subst (AreInTurn (tasks_in (take at blocks))) whole parts.turn) (omega (arith, end)) block_all in
    record {
      there = inl below;
      within = omega (arith, all);
      earlier = All-append (λ task. key_cmp task.key key ≡ Less) (tasks_in (take at blocks)) (take place block) front_all (subst (AllEarlier key) (sym (take-all block place all)) block_all);
      not_earlier = subst (λ l. AllByRecursion (λ task. is_earlier key task ≡ false) l) (sym (drop-all block place all)) tt;
      later = subst (λ l. AllByRecursion (λ task. key_cmp key task.key ≡ Less) (tasks_in l)) (sym none) tt;
    }
