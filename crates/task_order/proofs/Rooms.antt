-- Places in blocks that aren't full.
use Rattle.std.proofs.Common.{◌≡◌, ◌≢◌, ℕ, zero, suc, ◌+◌, ◌<◌, ◌≤◌, inl, inr, false, List, [], ◌∷◌, ◌++◌, length, take, drop, set, refl, sym, ◌∙◌, ap, subst, arith, length-append, length-take, length-drop, length-set, add-one}
use Rattle.std.specs.List.{AllByRecursion, insert, remove}
use Rattle.std.specs.declared.cmp.Ordering.TheVariants.{Less}
use Rattle.plain_laws.specs.Lists.{All-take, All-drop, All-append, All-parts}
use Rattle.task_order.specs.declared.key.Key.{Key}
use Rattle.task_order.specs.declared.task.Task.{Task}
use Rattle.task_order.specs.Key.{key_cmp}
use Rattle.task_order.specs.TaskList.{IsNewKey, is_earlier}
use Rattle.task_order.specs.Blocks.{tasks_in, IsFilled, IsGapless, block_at, full_length, IsPlace, AreOthersFilled, IsFree}
use Rattle.task_order.proofs.Cuts.{tasks_in-cut, take_more, take-all}
use Rattle.task_order.proofs.Found.{late_and_other}

-- ---- a block between others

take_front : {X : Type 0} (front rest : List X) (at : ℕ) → at ≡ length front → take at (front ++ rest) ≡ front
take_front [] [] zero is = refl
take_front [] (x ∷ rest) zero is = refl
take_front [] rest (suc at) is = absurd (omega (arith, is))
take_front (first ∷ front) rest zero is = absurd (omega (arith, is))
take_front (first ∷ front) rest (suc at) is = ap (λ l. first ∷ l) (take_front front rest at (omega (arith, is)))

drop_behind : (front rest : List (List Task)) (block : List Task) (at : ℕ) → at ≡ length front → drop (suc at) (front ++ block ∷ rest) ≡ rest
drop_behind [] rest block zero is = refl
drop_behind [] rest block (suc at) is = absurd (omega (arith, is))
drop_behind (first ∷ front) rest block zero is = absurd (omega (arith, is))
drop_behind (first ∷ front) rest block (suc at) is = drop_behind front rest block at (omega (arith, is))

block_between : (front rest : List (List Task)) (block : List Task) (at : ℕ) → at ≡ length front → block_at (front ++ block ∷ rest) at ≡ block
block_between [] rest block zero is = refl
block_between [] rest block (suc at) is = absurd (omega (arith, is))
block_between (first ∷ front) rest block zero is = absurd (omega (arith, is))
block_between (first ∷ front) rest block (suc at) is = block_between front rest block at (omega (arith, is))

-- what makes a place in a block a key's
record Surround (key : Key) (front rest : List (List Task)) (block : List Task) (place : ℕ) : Type 0 where
  pub within : place ≤ length block
  pub earlier : AllByRecursion (λ task. key_cmp task.key key ≡ Less) (tasks_in front ++ take place block)
  pub not_earlier : AllByRecursion (λ task. is_earlier key task ≡ false) (drop place block)
  pub later : AllByRecursion (λ task. key_cmp key task.key ≡ Less) (tasks_in rest)

place_between : (key : Key) (front rest : List (List Task)) (block : List Task) (at place : ℕ) → at ≡ length front → Surround key front rest block place → IsPlace key (front ++ block ∷ rest) at place
place_between key front rest block at place is around =
    let same = sym (block_between front rest block at is) in
    record {
      there = inl (omega (arith, is, length-append front (block ∷ rest)));
      within = subst (λ b. place ≤ length b) same around.within;
      earlier = subst (λ b. AllByRecursion (λ task. key_cmp task.key key ≡ Less) (tasks_in (take at (front ++ block ∷ rest)) ++ take place b)) same
          (subst (λ bs. AllByRecursion (λ task. key_cmp task.key key ≡ Less) (tasks_in bs ++ take place block)) (sym (take_front front (block ∷ rest) at is)) around.earlier);
      not_earlier = subst (λ b. AllByRecursion (λ task. is_earlier key task ≡ false) (drop place b)) same around.not_earlier;
      later = subst (λ bs. AllByRecursion (λ task. key_cmp key task.key ≡ Less) (tasks_in bs)) (sym (drop_behind front rest block at is)) around.later;
    }

free_between : (front rest : List (List Task)) (block : List Task) (at : ℕ) → at ≡ length front → length block < full_length → AllByRecursion IsFilled front → AllByRecursion IsFilled rest → IsFree (front ++ block ∷ rest) at
free_between front rest block at is few before behind = record {
  room = record {
    inside = omega (arith, is, length-append front (block ∷ rest));
    room = subst (λ b. length b < full_length) (sym (block_between front rest block at is)) few;
  };
  others = inr (subst (λ bs. AllByRecursion IsFilled (bs ++ drop (suc at) (front ++ block ∷ rest))) (sym (take_front front (block ∷ rest) at is))
      (subst (λ bs. AllByRecursion IsFilled (front ++ bs)) (sym (drop_behind front rest block at is)) (All-append IsFilled front rest before behind)));
}

-- ---- an empty block put in

pub tasks_in-empty_put : (blocks : List (List Task)) (at : ℕ) → tasks_in (insert blocks at []) ≡ tasks_in blocks
tasks_in-empty_put [] zero = refl
tasks_in-empty_put [] (suc at) = refl
tasks_in-empty_put (block ∷ blocks) zero = refl
tasks_in-empty_put (block ∷ blocks) (suc at) = ap (λ l. block ++ l) (tasks_in-empty_put blocks at)

-- a key whose place is the end of a block belongs to an empty one behind that
pub place_in_next : (key : Key) (blocks : List (List Task)) (at place : ℕ) → IsPlace key blocks at place → at < length blocks → place ≡ length (block_at blocks at) → IsPlace key (insert blocks (suc at) []) (suc at) 0
place_in_next key blocks at place found inside end =
    place_between key (take (suc at) blocks) (drop (suc at) blocks) [] (suc at) 0 (omega (arith, length-take (suc at) blocks, inside)) (record {
      within = omega arith;
      earlier = All-append (λ task. key_cmp task.key key ≡ Less) (tasks_in (take (suc at) blocks)) []
          (subst (λ l. AllByRecursion (λ task. key_cmp task.key key ≡ Less) l) (ap (λ l. tasks_in (take at blocks) ++ l) (take-all (block_at blocks at) place end) ∙ sym (take_more blocks at inside)) found.earlier) tt;
      not_earlier = tt;
      later = found.later;
    })

pub free_next : (blocks : List (List Task)) (at : ℕ) → at < length blocks → AllByRecursion IsFilled blocks → IsFree (insert blocks (suc at) []) (suc at)
free_next blocks at inside filled =
    free_between (take (suc at) blocks) (drop (suc at) blocks) [] (suc at) (omega (arith, length-take (suc at) blocks, inside)) (omega arith) (All-take IsFilled (suc at) blocks filled) (All-drop IsFilled (suc at) blocks filled)

-- ---- a block that is cut in two

take_take : (place cut : ℕ) (tasks : List Task) → place ≤ cut → take place (take cut tasks) ≡ take place tasks
take_take zero zero [] below = refl
take_take zero (suc cut) [] below = refl
take_take (suc place) zero [] below = absurd (omega (arith, below))
take_take (suc place) (suc cut) [] below = refl
take_take zero zero (task ∷ tasks) below = refl
take_take zero (suc cut) (task ∷ tasks) below = refl
take_take (suc place) zero (task ∷ tasks) below = absurd (omega (arith, below))
take_take (suc place) (suc cut) (task ∷ tasks) below = ap (λ l. task ∷ l) (take_take place cut tasks (omega (arith, below)))

All-drop_take : (P : Task → Type 0) (place cut : ℕ) (tasks : List Task) → AllByRecursion P (drop place tasks) → AllByRecursion P (drop place (take cut tasks))
All-drop_take P zero cut tasks all = All-take P cut tasks all
All-drop_take P (suc place) zero [] all = tt
All-drop_take P (suc place) (suc cut) [] all = tt
All-drop_take P (suc place) zero (task ∷ tasks) all = tt
All-drop_take P (suc place) (suc cut) (task ∷ tasks) all = All-drop_take P place cut tasks all

All-drop_more : (P : Task → Type 0) (place cut : ℕ) (tasks : List Task) → place ≤ cut → AllByRecursion P (drop place tasks) → AllByRecursion P (drop cut tasks)
All-drop_more P zero cut tasks below all = All-drop P cut tasks all
All-drop_more P (suc place) zero tasks below all = absurd (omega (arith, below))
All-drop_more P (suc place) (suc cut) [] below all = tt
All-drop_more P (suc place) (suc cut) (task ∷ tasks) below all = All-drop_more P place cut tasks (omega (arith, below)) all

all_later : (key : Key) (tasks : List Task) → AllByRecursion (λ task. is_earlier key task ≡ false) tasks → IsNewKey key tasks → AllByRecursion (λ task. key_cmp key task.key ≡ Less) tasks
all_later key [] late new = tt
all_later key (task ∷ tasks) late new = (late_and_other key task late.0 new.0, all_later key tasks late.1 new.1)

later_in_block : (key : Key) (blocks : List (List Task)) (at place : ℕ) → IsPlace key blocks at place → IsNewKey key (tasks_in blocks) → AllByRecursion (λ task. key_cmp key task.key ≡ Less) (drop place (block_at blocks at))
later_in_block key blocks at place found new =
    let block = block_at blocks at in
    let back = tasks_in (drop (suc at) blocks) in
    let cut : IsNewKey key ((tasks_in (take at blocks) ++ take place block) ++ (drop place block ++ back)) = subst (IsNewKey key) (tasks_in-cut blocks at place found.there) new in
    let behind = (All-parts (λ task. task.key ≢ key) (tasks_in (take at blocks) ++ take place block) (drop place block ++ back) cut).1 in
    all_later key (drop place block) found.not_earlier (All-parts (λ task. task.key ≢ key) (drop place block) back behind).0

-- a key keeps its place where the block is cut there or behind it
pub place_in_split : (key : Key) (blocks : List (List Task)) (at place cut : ℕ) → IsPlace key blocks at place → IsNewKey key (tasks_in blocks) → at < length blocks → place ≤ cut → cut ≤ length (block_at blocks at)
    → IsPlace key (take at blocks ++ take cut (block_at blocks at) ∷ drop cut (block_at blocks at) ∷ drop (at + 1) blocks) at place
place_in_split key blocks at place cut found new inside below few =
    let block = block_at blocks at in
    rw add-one
    (place_between key (take at blocks) (drop cut block ∷ drop (suc at) blocks) (take cut block) at place (omega (arith, length-take at blocks, inside)) (record {
      within = omega (arith, length-take cut block, below, few);
      earlier = subst (λ l. AllByRecursion (λ task. key_cmp task.key key ≡ Less) (tasks_in (take at blocks) ++ l)) (sym (take_take place cut block below)) found.earlier;
      not_earlier = All-drop_take (λ task. is_earlier key task ≡ false) place cut block found.not_earlier;
      later = All-append (λ task. key_cmp key task.key ≡ Less) (drop cut block) (tasks_in (drop (suc at) blocks))
          (All-drop_more (λ task. key_cmp key task.key ≡ Less) place cut block below (later_in_block key blocks at place found new)) found.later;
    }))

pub free_split : (blocks : List (List Task)) (at cut : ℕ) → at < length blocks → AllByRecursion IsFilled blocks → cut < full_length → cut < length (block_at blocks at)
    → IsFree (take at blocks ++ take cut (block_at blocks at) ∷ drop cut (block_at blocks at) ∷ drop (at + 1) blocks) at
free_split blocks at cut inside filled few below =
    let block = block_at blocks at in
    rw add-one
    (free_between (take at blocks) (drop cut block ∷ drop (suc at) blocks) (take cut block) at (omega (arith, length-take at blocks, inside)) (omega (arith, length-take cut block, few)) (All-take IsFilled at blocks filled)
    (omega (arith, length-drop cut block, below), All-drop IsFilled (suc at) blocks filled))

-- ---- a block with room

all_with_one : (blocks : List (List Task)) (at : ℕ) (block : List Task) → IsFilled block → AllByRecursion IsFilled (remove blocks at) → AllByRecursion IsFilled (set blocks at block)
all_with_one [] zero block filled all = tt
all_with_one [] (suc at) block filled all = tt
all_with_one (first ∷ blocks) zero block filled all = (filled, all)
all_with_one (first ∷ blocks) (suc at) block filled all = (all.0, all_with_one blocks at block filled all.1)

pub gapless_with_one : (blocks : List (List Task)) (at : ℕ) (block : List Task) → AreOthersFilled blocks at → IsFilled block → IsGapless (set blocks at block)
gapless_with_one blocks at block (inl short) filled = inl (omega (arith, length-set blocks at block, short))
gapless_with_one blocks at block (inr all) filled = inr (all_with_one blocks at block filled all)

pub length-insert : (tasks : List Task) (place : ℕ) (task : Task) → place ≤ length tasks → length (insert tasks place task) ≡ suc (length tasks)
length-insert tasks place task within = omega (arith, length-append (take place tasks) (task ∷ drop place tasks), length-take place tasks, length-drop place tasks, within)

-- ---- an empty block before all

later_than : (key : Key) (blocks : List (List Task)) → IsPlace key blocks 0 0 → IsNewKey key (tasks_in blocks) → AllByRecursion (λ task. key_cmp key task.key ≡ Less) (tasks_in blocks)
later_than key [] found new = tt
later_than key (block ∷ blocks) found new = All-append (λ task. key_cmp key task.key ≡ Less) block (tasks_in blocks) (later_in_block key (block ∷ blocks) 0 0 found new) found.later

-- a new key before all tasks belongs to an empty block there
pub place_in_first : (key : Key) (blocks : List (List Task)) → IsPlace key blocks 0 0 → IsNewKey key (tasks_in blocks) → IsPlace key (insert blocks 0 []) 0 0
place_in_first key blocks found new =
    place_between key [] blocks [] 0 0 (omega arith) (record {
      within = omega arith;
      earlier = tt;
      not_earlier = tt;
      later = later_than key blocks found new;
    })

pub free_first : (blocks : List (List Task)) → AllByRecursion IsFilled blocks → IsFree (insert blocks 0 []) 0
free_first blocks filled = free_between [] blocks [] 0 (omega arith) (omega arith) tt filled
