-- The task with a key, in a list of tasks that is cut into blocks.
use Rattle.std.proofs.Common.{◌≡◌, ◌≢◌, ℕ, zero, suc, ◌+◌, ◌-◌, ◌<◌, ◌^◌, inl, ⊎_elim, true, false, List, [], ◌∷◌, ◌++◌, length, take, drop, Option, Some, None, refl, sym, ◌∙◌, ap, subst, arith, length-drop}
use Rattle.std.specs.Prelude.{MatchOption, IfSome, IfNone, slice_get}
use Rattle.std.specs.Borrow.{Bor}
use Rattle.std.specs.Map.Iter.{deref}
use Rattle.std.specs.Option.{option_map, unwrap_or}
use Rattle.std.specs.List.{AllByRecursion, Contains, remove}
use Rattle.std.proofs.lemmas.List.Elements.{filter-append, Contains-append_left, Contains-append_right}
use Rattle.std.proofs.lemmas.Option.{get_or_from_slice_get}
use Rattle.std.proofs.lemmas.Bool.{true≢false}
use Rattle.std.specs.Ordering.{is_lt, is_eq}
use Rattle.std.specs.declared.cmp.Ordering.{Ordering}
use Rattle.std.specs.declared.cmp.Ordering.TheVariants.{Less, Equal, Greater}
use Rattle.plain_laws.specs.Lists.{All-weaker, All-append, drop-found}
use Rattle.task_order.specs.declared.key.Key.{Key}
use Rattle.task_order.specs.declared.task.Task.{Task}
use Rattle.task_order.specs.Key.{key_cmp, key_cmp_total}
use Rattle.task_order.specs.TaskList.{IsAscending, IsNewKey, put_in, is_earlier, without}
use Rattle.task_order.specs.Blocks.{tasks_in, block_at, IsGapless, IsPlace, IsFound, AreBlocks, IsElsewhere}
use Rattle.task_order.proofs.KeyOrder.{earlier_connected}
use Rattle.task_order.proofs.TaskLists.{IsNewKey-rest, IsAscending-put_in}
use Rattle.task_order.proofs.Places.{AreInTurn, IsAscendingParts, ascending_parts}
use Rattle.task_order.proofs.Cuts.{tasks_in-at, tasks_in-cut, regroup}
use Rattle.task_order.proofs.Without.{without_new_key, without-first, stays, put_in_restores}
use Rattle.task_order.specs.TaskListLaws.{length-put_in, IsAscending-filter}
use Rattle.task_order.specs.KeyLaws.{differ_from_earlier}

-- the tasks from a place on begin with the one there
abbrev BeginsThere : List Task → ℕ → Option Task → Type 0
BeginsThere tasks place answer = MatchOption answer (drop place tasks ≡ []) (λ task. drop place tasks ≡ task ∷ drop (suc place) tasks)

begins_there : (tasks : List Task) (place : ℕ) → BeginsThere tasks place (slice_get tasks place)
begins_there [] zero = refl
begins_there [] (suc place) = refl
begins_there (task ∷ tasks) zero = refl
begins_there (task ∷ tasks) (suc place) = begins_there tasks place

pub found_in_tasks : (blocks : List (List Task)) (at place : ℕ) (task : Task) → at < length blocks → place < length (block_at blocks at) → slice_get (block_at blocks at) place ≡ Some task → Contains (tasks_in blocks) task
found_in_tasks blocks at place task inside within is =
    let block = block_at blocks at in
    let there : Contains block task = (place, within, get_or_from_slice_get block place task task is) in
    subst (λ tasks. Contains tasks task) (sym (tasks_in-at blocks at inside))
    (Contains-append_right (tasks_in (take at blocks)) (block ++ tasks_in (drop (suc at) blocks)) task (Contains-append_left block (tasks_in (drop (suc at) blocks)) task there))

-- ---- a key that isn't there

differ_from_later : (key : Key) (tasks : List Task) → AllByRecursion (λ task. key_cmp key task.key ≡ Less) tasks → IsNewKey key tasks
differ_from_later key tasks = All-weaker (λ task. key_cmp key task.key ≡ Less) (λ task. task.key ≢ key) (λ task later same. differ_from_earlier key task.key later (sym same)) tasks

differ_from_all_earlier : (key : Key) (tasks : List Task) → AllByRecursion (λ task. key_cmp task.key key ≡ Less) tasks → IsNewKey key tasks
differ_from_all_earlier key tasks = All-weaker (λ task. key_cmp task.key key ≡ Less) (λ task. task.key ≢ key) (λ task earlier. differ_from_earlier task.key key earlier) tasks

pub late_and_other : (key : Key) (task : Task) → is_earlier key task ≡ false → task.key ≢ key → key_cmp key task.key ≡ Less
late_and_other key task late differ =
    ⊎_elim (λ earlier. absurd (true≢false (sym (ap is_lt earlier) ∙ late))) (λ later. later) (earlier_connected task.key key differ)

new_from : (key : Key) (task : Task) (tasks rest : List Task) → tasks ≡ task ∷ rest → IsAscending tasks → AllByRecursion (λ other. is_earlier key other ≡ false) tasks → task.key ≢ key → IsNewKey key tasks
new_from key task tasks rest is up late differ =
    let up' : IsAscending (task ∷ rest) = subst IsAscending is up in
    let late' : AllByRecursion (λ other. is_earlier key other ≡ false) (task ∷ rest) = subst (λ l. AllByRecursion (λ other. is_earlier key other ≡ false) l) is late in
    let later : key_cmp key task.key ≡ Less = late_and_other key task late'.0 differ in
    subst (IsNewKey key) (sym is)
    (differ, differ_from_later key rest (All-weaker (λ other. key_cmp task.key other.key ≡ Less) (λ other. key_cmp key other.key ≡ Less) (λ other. key_cmp_total.trans key task.key other.key later) rest up'.0))

new_behind : (key : Key) (block : List Task) (place : ℕ) (answer : Option Task) → BeginsThere block place answer → IsAscending (drop place block) → AllByRecursion (λ other. is_earlier key other ≡ false) (drop place block)
    → ((task : Task) → answer ≡ Some task → task.key ≢ key) → IsNewKey key (drop place block)
new_behind key block place None begins up late differ = subst (IsNewKey key) (sym begins) tt
new_behind key block place (Some task) begins up late differ = new_from key task (drop place block) (drop (suc place) block) begins up late (differ task refl)

-- a key is new where the task at its place has another
pub new_from_place : (key : Key) (blocks : List (List Task)) (at place : ℕ) → IsAscending (tasks_in blocks) → IsPlace key blocks at place → ((task : Task) → slice_get (block_at blocks at) place ≡ Some task → task.key ≢ key) → IsNewKey key (tasks_in blocks)
new_from_place key blocks at place up found differ =
    let block = block_at blocks at in
    let front = tasks_in (take at blocks) ++ take place block in
    let back = drop place block ++ tasks_in (drop (suc at) blocks) in
    let cut = tasks_in-cut blocks at place found.there in
    let parts : IsAscendingParts front back = ascending_parts front back (subst IsAscending cut up) in
    let block_up : IsAscending (drop place block) = (ascending_parts (drop place block) (tasks_in (drop (suc at) blocks)) parts.second).first in
    subst (IsNewKey key) (sym cut)
    (All-append (λ task. task.key ≢ key) front back (differ_from_all_earlier key front found.earlier)
    (All-append (λ task. task.key ≢ key) (drop place block) (tasks_in (drop (suc at) blocks))
    (new_behind key block place (slice_get block place) (begins_there block place) block_up found.not_earlier differ)
    (differ_from_later key (tasks_in (drop (suc at) blocks)) found.later)))

-- ---- a task taken out

new_in_front : (task : Task) (front rest : List Task) → AreInTurn front (task ∷ rest) → IsNewKey task.key front
new_in_front task front rest turn =
    All-weaker (λ other. AllByRecursion (λ next. key_cmp other.key next.key ≡ Less) (task ∷ rest)) (λ other. other.key ≢ task.key) (λ other all. differ_from_earlier other.key task.key all.0) front turn

without-middle : (task : Task) (front rest : List Task) → IsAscending (front ++ task ∷ rest) → without task.key (front ++ task ∷ rest) ≡ front ++ rest
without-middle task front rest up =
    let parts = ascending_parts front (task ∷ rest) up in
    filter-append (stays task.key) front (task ∷ rest)
    ∙ (λ i. without_new_key task.key front (new_in_front task front rest parts.turn) i ++ without-first task rest (IsNewKey-rest task.key rest parts.second.0) i)

pub without_at : (blocks : List (List Task)) (at place : ℕ) (task : Task) → IsAscending (tasks_in blocks) → at < length blocks → slice_get (block_at blocks at) place ≡ Some task
    → tasks_in (take at blocks) ++ (remove (block_at blocks at) place ++ tasks_in (drop (suc at) blocks)) ≡ without task.key (tasks_in blocks)
without_at blocks at place task up inside is =
    let block = block_at blocks at in
    let before = tasks_in (take at blocks) in
    let after = tasks_in (drop (suc at) blocks) in
    let front = before ++ take place block in
    let rest = drop (suc place) block ++ after in
    let cut : tasks_in blocks ≡ front ++ task ∷ rest = tasks_in-cut blocks at place (inl inside) ∙ ap (λ l. front ++ (l ++ after)) (drop-found block place task is) in
    sym (regroup before (take place block) (drop (suc place) block) after)
    ∙ sym (without-middle task front rest (subst IsAscending cut up))
    ∙ ap (without task.key) (sym cut)

-- ---- the length

pub length-without : (task : Task) (tasks : List Task) → IsAscending tasks → Contains tasks task → length (without task.key tasks) + 1 ≡ length tasks
length-without task tasks up has =
    sym (length-put_in task (without task.key tasks)) ∙ ap length (put_in_restores task tasks up has)

-- ---- what the calls tell

none_within : (block : List Task) (place : ℕ) → place < length block → (answer : Option Task) → BeginsThere block place answer → answer ≡ None → ⊥
none_within block place within None begins is = omega (arith, within, ap length begins, length-drop place block)
none_within block place within (Some task) begins is = absurd (cc)

pub found_is_there : (key : Key) (blocks : List (List Task)) (at place : ℕ) → IsFound key blocks at place → slice_get (block_at blocks at) place ≡ None → ⊥
found_is_there key blocks at place found is = none_within (block_at blocks at) place found.within (slice_get (block_at blocks at) place) (begins_there (block_at blocks at) place) is

abbrev IsTheTask : Key → List Task → Task → Type 0
IsTheTask key tasks task = (task.key ≡ key) × Contains tasks task

pub the_task : (key : Key) (blocks : List (List Task)) (at place : ℕ) (task : Task) → IsFound key blocks at place → slice_get (block_at blocks at) place ≡ Some task → IsTheTask key (tasks_in blocks) task
the_task key blocks at place task found is = (found.has task is, found_in_tasks blocks at place task found.inside found.within is)

pub got_the_task : (key : Key) (blocks : List (List Task)) (at place : ℕ) (answer : Option (Bor Task)) → IsFound key blocks at place → option_map deref answer ≡ slice_get (block_at blocks at) place
    → IfSome answer (λ task. IsTheTask key (tasks_in blocks) task.now)
got_the_task key blocks at place None found is = tt
got_the_task key blocks at place (Some task) found is = the_task key blocks at place task.now found (sym is)

pub got_some : (P : Type 0) (key : Key) (blocks : List (List Task)) (at place : ℕ) (answer : Option (Bor Task)) → IsFound key blocks at place → option_map deref answer ≡ slice_get (block_at blocks at) place → IfNone answer P
got_some P key blocks at place None found is = absurd (found_is_there key blocks at place found (sym is))
got_some P key blocks at place (Some task) found is = tt

pub blocks_after_insert : (task : Task) (blocks left : List (List Task)) (len : ℕ) → AreBlocks blocks len → IsNewKey task.key (tasks_in blocks) → tasks_in left ≡ put_in task (tasks_in blocks) → IsGapless left → len + 1 < 2 ^ 63 → AreBlocks left (len + 1)
blocks_after_insert task blocks left len are new is gapless small = record {
  ascending = subst IsAscending (sym is) (IsAscending-put_in task (tasks_in blocks) new are.ascending);
  gapless = gapless;
  count = omega (arith, are.count, ap length is, length-put_in task (tasks_in blocks));
  small = small;
}

pub blocks_after_remove : (task : Task) (blocks left : List (List Task)) (len : ℕ) → AreBlocks blocks len → Contains (tasks_in blocks) task → tasks_in left ≡ without task.key (tasks_in blocks) → IsGapless left → AreBlocks left (len - 1)
blocks_after_remove task blocks left len are has is gapless = record {
  ascending = subst IsAscending (sym is) (IsAscending-filter (stays task.key) (tasks_in blocks) are.ascending);
  gapless = gapless;
  count = omega (arith, are.count, ap length is, length-without task (tasks_in blocks) are.ascending has);
  small = omega (arith, are.small);
}

pub other_there : (key : Key) (blocks : List (List Task)) (at place : ℕ) (answer : Option (Bor Task)) (shown : Bor Task) → option_map deref answer ≡ slice_get (block_at blocks at) place → answer ≡ Some shown → shown.now.key ≢ key
    → (task : Task) → slice_get (block_at blocks at) place ≡ Some task → task.key ≢ key
other_there key blocks at place answer shown told is differ task there same =
    let one : Some shown.now ≡ Some task = ap (option_map deref) (sym is) ∙ told ∙ there in
    differ (ap (λ (o : Option Task). (unwrap_or o task).key) one ∙ same)

pub none_there : (key : Key) (blocks : List (List Task)) (at place : ℕ) (answer : Option (Bor Task)) → option_map deref answer ≡ slice_get (block_at blocks at) place → answer ≡ None
    → (task : Task) → slice_get (block_at blocks at) place ≡ Some task → task.key ≢ key
none_there key blocks at place answer told is task there same =
    let one : None ≡ Some task = ap (option_map deref) (sym is) ∙ told ∙ there in
    absurd (cc)

pub tells_Equal : (o : Ordering) → true ≡ is_eq o → o ≡ Equal
tells_Equal Less is = absurd (true≢false is)
tells_Equal Equal is = refl
tells_Equal Greater is = absurd (true≢false is)

slice_get_inside : {X : Type 0} (xs : List X) (i : ℕ) (x : X) → slice_get xs i ≡ Some x → i < length xs
slice_get_inside [] zero x is = cc
slice_get_inside [] (suc i) x is = cc
slice_get_inside (y ∷ ys) zero x is = omega arith
slice_get_inside (y ∷ ys) (suc i) x is = let inside = slice_get_inside ys i x is in omega arith

block_inside : (blocks : List (List Task)) (at place : ℕ) (task : Task) → slice_get (block_at blocks at) place ≡ Some task → at < length blocks
block_inside [] zero place task is = let none : place < 0 = slice_get_inside [] place task is in absurd (omega arith)
block_inside [] (suc at) place task is = let none : place < 0 = slice_get_inside [] place task is in absurd (omega arith)
block_inside (block ∷ blocks) zero place task is = omega arith
block_inside (block ∷ blocks) (suc at) place task is = let inside = block_inside blocks at place task is in omega arith

pub found_there : (key : Key) (blocks : List (List Task)) (at place : ℕ) (answer : Option (Bor Task)) (shown : Bor Task) → option_map deref answer ≡ slice_get (block_at blocks at) place
    → answer ≡ Some shown → shown.now.key ≡ key → IsFound key blocks at place
found_there key blocks at place answer shown is shown_is same =
    let got : slice_get (block_at blocks at) place ≡ Some shown.now = sym is ∙ ap (option_map deref) shown_is in
    record {
      inside = block_inside blocks at place shown.now got;
      within = slice_get_inside (block_at blocks at) place shown.now got;
      has = λ task found. let task_is : task ≡ shown.now = cc (sym found ∙ got) in ap (λ (t : Task). t.key) task_is ∙ same;
    }

pub if_none : {A : Type 0} (P Q : Type 0) (answer : Option A) → (P → Q) → IfNone answer P → IfNone answer Q
if_none P Q (Some found) leads is = is
if_none P Q None leads is = leads is

-- where the task at a key's place has another key, the key is new
pub new_from_elsewhere : (key : Key) (blocks : List (List Task)) (at place : ℕ) (answer : Option (ℕ × ℕ)) → IsAscending (tasks_in blocks) → IsPlace key blocks at place
    → IfNone answer (IsElsewhere key blocks at place) → IfNone answer (IsNewKey key (tasks_in blocks))
new_from_elsewhere key blocks at place answer ascending is_place elsewhere =
    if_none (IsElsewhere key blocks at place) (IsNewKey key (tasks_in blocks)) answer (new_from_place key blocks at place ascending is_place) elsewhere
