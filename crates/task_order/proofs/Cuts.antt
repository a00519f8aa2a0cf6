-- What a list of tasks is where its blocks change.
use Rattle.std.proofs.Common.{◌≡◌, ℕ, zero, suc, ◌+◌, ◌<◌, ◌≤◌, ◌⊎◌, inl, inr, true, false, List, [], ◌∷◌, ◌++◌, length, take, drop, set, refl, sym, ◌∙◌, ap, arith, append_assoc, append-nil, length-append, length-take, length-set, add-one}
use Rattle.std.proofs.lemmas.List.Elements.{filter-append}
use Rattle.std.proofs.lemmas.List.Sums.{length-filter, count_by-le-length}
use Rattle.std.specs.Ordering.{is_lt}
use Rattle.std.specs.Prelude.{slice_get}
use Rattle.std.specs.List.{AllByRecursion, insert, remove}
use Rattle.std.specs.declared.cmp.Ordering.TheVariants.{Less}
use Rattle.plain_laws.specs.Lists.{All-weaker, All-append, filter-all, filter-none}
use Rattle.task_order.specs.declared.key.Key.{Key}
use Rattle.task_order.specs.declared.task.Task.{Task}
use Rattle.task_order.specs.Key.{key_cmp}
use Rattle.task_order.specs.TaskList.{put_in, is_earlier, tasks_before}
use Rattle.task_order.specs.Blocks.{tasks_in, IsFilled, IsGapless, block_at, IsPlace}
use Rattle.task_order.proofs.TaskLists.{put_in-behind}
use Rattle.task_order.proofs.Fronts.{put_in-front}
use Rattle.task_order.proofs.Places.{not_earlier_from_later}

-- ---- the tasks of a list of blocks

pub tasks_in-append : (blocks more : List (List Task)) → tasks_in (blocks ++ more) ≡ tasks_in blocks ++ tasks_in more
tasks_in-append [] more = refl
tasks_in-append (block ∷ blocks) more = ap (λ l. block ++ l) (tasks_in-append blocks more) ∙ sym (append_assoc block (tasks_in blocks) (tasks_in more))

-- one block after those before it, and before the others
pub tasks_in-at : (blocks : List (List Task)) (at : ℕ) → at < length blocks → tasks_in blocks ≡ tasks_in (take at blocks) ++ (block_at blocks at ++ tasks_in (drop (suc at) blocks))
tasks_in-at [] at inside = absurd (omega (arith, inside))
tasks_in-at (block ∷ blocks) zero inside = refl
tasks_in-at (block ∷ blocks) (suc at) inside =
    ap (λ l. block ++ l) (tasks_in-at blocks at (omega (arith, inside))) ∙ sym (append_assoc block (tasks_in (take at blocks)) (block_at blocks at ++ tasks_in (drop (suc at) blocks)))

pub tasks_in-set : (blocks : List (List Task)) (at : ℕ) (block : List Task) → at < length blocks → tasks_in (set blocks at block) ≡ tasks_in (take at blocks) ++ (block ++ tasks_in (drop (suc at) blocks))
tasks_in-set [] at block inside = absurd (omega (arith, inside))
tasks_in-set (first ∷ blocks) zero block inside = refl
tasks_in-set (first ∷ blocks) (suc at) block inside =
    ap (λ l. first ++ l) (tasks_in-set blocks at block (omega (arith, inside))) ∙ sym (append_assoc first (tasks_in (take at blocks)) (block ++ tasks_in (drop (suc at) blocks)))

take-drop : {X : Type 0} (xs : List X) (n : ℕ) → take n xs ++ drop n xs ≡ xs
take-drop [] zero = refl
take-drop [] (suc n) = refl
take-drop (x ∷ xs) zero = refl
take-drop (x ∷ xs) (suc n) = ap (λ l. x ∷ l) (take-drop xs n)

tasks_in-split_by : (blocks : List (List Task)) (at place : ℕ) → at < length blocks
    → tasks_in (take at blocks ++ take place (block_at blocks at) ∷ drop place (block_at blocks at) ∷ drop (suc at) blocks) ≡ tasks_in blocks
tasks_in-split_by blocks at place inside =
    let block = block_at blocks at in
    let rest = drop (suc at) blocks in
    tasks_in-append (take at blocks) (take place block ∷ drop place block ∷ rest)
    ∙ ap (λ l. tasks_in (take at blocks) ++ l) (sym (append_assoc (take place block) (drop place block) (tasks_in rest)) ∙ ap (λ l. l ++ tasks_in rest) (take-drop block place))
    ∙ sym (tasks_in-at blocks at inside)

-- a block that is cut in two
pub tasks_in-split : (blocks : List (List Task)) (at place : ℕ) → at < length blocks
    → tasks_in (take at blocks ++ take place (block_at blocks at) ∷ drop place (block_at blocks at) ∷ drop (at + 1) blocks) ≡ tasks_in blocks
tasks_in-split blocks at place inside =
    rw add-one (tasks_in-split_by blocks at place inside)

-- an empty block that is left out
pub tasks_in-remove : (blocks : List (List Task)) (at : ℕ) → at < length blocks → block_at blocks at ≡ [] → tasks_in (remove blocks at) ≡ tasks_in blocks
tasks_in-remove blocks at inside none =
    tasks_in-append (take at blocks) (drop (suc at) blocks)
    ∙ ap (λ block. tasks_in (take at blocks) ++ (block ++ tasks_in (drop (suc at) blocks))) (sym none) ∙ sym (tasks_in-at blocks at inside)

-- ---- a task put in

pub put_in-parts : (task : Task) (front back : List Task) → AllByRecursion (λ other. key_cmp other.key task.key ≡ Less) front → AllByRecursion (λ other. is_earlier task.key other ≡ false) back
    → put_in task (front ++ back) ≡ front ++ task ∷ back
put_in-parts task [] back earlier late = put_in-front task back late
put_in-parts task (other ∷ front) back earlier late = put_in-behind task other (front ++ back) earlier.0 ∙ ap (λ l. other ∷ l) (put_in-parts task front back earlier.1 late)

pub regroup : (a b c d : List Task) → (a ++ b) ++ (c ++ d) ≡ a ++ ((b ++ c) ++ d)
regroup a b c d = append_assoc a b (c ++ d) ∙ ap (λ l. a ++ l) (sym (append_assoc b c d))

cut_of_none : (at place : ℕ) → [] ≡ (tasks_in (take at []) ++ take place (block_at [] at)) ++ (drop place (block_at [] at) ++ tasks_in (drop (suc at) []))
cut_of_none zero zero = refl
cut_of_none zero (suc place) = refl
cut_of_none (suc at) zero = refl
cut_of_none (suc at) (suc place) = refl

-- the tasks before a place, and the others
pub tasks_in-cut : (blocks : List (List Task)) (at place : ℕ) → (at < length blocks) ⊎ (length blocks + at ≡ 0)
    → tasks_in blocks ≡ (tasks_in (take at blocks) ++ take place (block_at blocks at)) ++ (drop place (block_at blocks at) ++ tasks_in (drop (suc at) blocks))
tasks_in-cut blocks at place (inl inside) =
    let block = block_at blocks at in
    tasks_in-at blocks at inside
    ∙ ap (λ l. tasks_in (take at blocks) ++ (l ++ tasks_in (drop (suc at) blocks))) (sym (take-drop block place))
    ∙ sym (regroup (tasks_in (take at blocks)) (take place block) (drop place block) (tasks_in (drop (suc at) blocks)))
tasks_in-cut [] at place (inr none) = cut_of_none at place
tasks_in-cut (block ∷ blocks) at place (inr none) = absurd (omega (arith, none))

late_from_place : (key : Key) (blocks : List (List Task)) (at place : ℕ) → IsPlace key blocks at place → AllByRecursion (λ task. is_earlier key task ≡ false) (drop place (block_at blocks at) ++ tasks_in (drop (suc at) blocks))
late_from_place key blocks at place found =
    All-append (λ task. is_earlier key task ≡ false) (drop place (block_at blocks at)) (tasks_in (drop (suc at) blocks)) found.not_earlier (not_earlier_from_later key (tasks_in (drop (suc at) blocks)) found.later)

-- a task goes to the place of its key
pub put_in-at : (task : Task) (blocks : List (List Task)) (at place : ℕ) → IsPlace task.key blocks at place
    → put_in task (tasks_in blocks) ≡ (tasks_in (take at blocks) ++ take place (block_at blocks at)) ++ task ∷ (drop place (block_at blocks at) ++ tasks_in (drop (suc at) blocks))
put_in-at task blocks at place found =
    ap (put_in task) (tasks_in-cut blocks at place found.there)
    ∙ put_in-parts task (tasks_in (take at blocks) ++ take place (block_at blocks at)) (drop place (block_at blocks at) ++ tasks_in (drop (suc at) blocks)) found.earlier (late_from_place task.key blocks at place found)

-- into its block
pub put_in-block : (task : Task) (blocks : List (List Task)) (at place : ℕ) → IsPlace task.key blocks at place → at < length blocks
    → tasks_in (set blocks at (insert (block_at blocks at) place task)) ≡ put_in task (tasks_in blocks)
put_in-block task blocks at place found inside =
    let block = block_at blocks at in
    tasks_in-set blocks at (insert block place task) inside
    ∙ sym (regroup (tasks_in (take at blocks)) (take place block) (task ∷ drop place block) (tasks_in (drop (suc at) blocks)))
    ∙ sym (put_in-at task blocks at place found)

pub take_more : (blocks : List (List Task)) (at : ℕ) → at < length blocks → tasks_in (take (suc at) blocks) ≡ tasks_in (take at blocks) ++ block_at blocks at
take_more [] at inside = absurd (omega (arith, inside))
take_more (block ∷ blocks) zero inside = append-nil block
take_more (block ∷ blocks) (suc at) inside = ap (λ l. block ++ l) (take_more blocks at (omega (arith, inside))) ∙ sym (append_assoc block (tasks_in (take at blocks)) (block_at blocks at))

pub take-all : {X : Type 0} (xs : List X) (n : ℕ) → n ≡ length xs → take n xs ≡ xs
take-all [] zero is = refl
take-all [] (suc n) is = refl
take-all (x ∷ xs) zero is = absurd (omega (arith, is))
take-all (x ∷ xs) (suc n) is = ap (λ l. x ∷ l) (take-all xs n (omega (arith, is)))

pub drop-all : {X : Type 0} (xs : List X) (n : ℕ) → n ≡ length xs → drop n xs ≡ []
drop-all [] zero is = refl
drop-all [] (suc n) is = refl
drop-all (x ∷ xs) zero is = absurd (omega (arith, is))
drop-all (x ∷ xs) (suc n) is = drop-all xs n (omega (arith, is))

-- ---- tasks before a key

pub rank_from_place : (key : Key) (blocks : List (List Task)) (at place : ℕ) → IsPlace key blocks at place → length (tasks_before key (tasks_in blocks)) ≡ place + length (tasks_in (take at blocks))
rank_from_place key blocks at place found =
    let block = block_at blocks at in
    let front = tasks_in (take at blocks) ++ take place block in
    let back = drop place block ++ tasks_in (drop (suc at) blocks) in
    let all : tasks_before key (tasks_in blocks) ≡ front =
    ap (tasks_before key) (tasks_in-cut blocks at place found.there) ∙ filter-append (is_earlier key) front back
    ∙ (λ i. filter-all (is_earlier key) front (All-weaker (λ task. key_cmp task.key key ≡ Less) (λ task. is_earlier key task ≡ true) (λ task earlier. ap is_lt earlier) front found.earlier) i
    ++ filter-none (is_earlier key) back (late_from_place key blocks at place found) i)
    ∙ append-nil front in
    omega (arith, ap length all, length-append (tasks_in (take at blocks)) (take place block), length-take place block, found.within)

-- ---- no gaps

-- beside a block with a task, each block has one
pub all_filled : (blocks : List (List Task)) (at : ℕ) → IsGapless blocks → at < length blocks → IsFilled (block_at blocks at) → AllByRecursion IsFilled blocks
all_filled blocks at (inr all) inside filled = all
all_filled [] at (inl short) inside filled = tt
all_filled (block ∷ []) zero (inl short) inside filled = (filled, tt)
all_filled (block ∷ []) (suc at) (inl short) inside filled = absurd (omega (arith, inside))
all_filled (block ∷ next ∷ blocks) at (inl short) inside filled = absurd (omega (arith, short))

others_stay : (blocks : List (List Task)) (at : ℕ) (block : List Task) → AllByRecursion IsFilled blocks → AllByRecursion IsFilled (remove (set blocks at block) at)
others_stay [] zero block all = tt
others_stay [] (suc at) block all = tt
others_stay (first ∷ blocks) zero block all = all.1
others_stay (first ∷ blocks) (suc at) block all = (all.0, others_stay blocks at block all.1)

-- all but one have tasks where that one has changed
pub others_filled : (blocks : List (List Task)) (at : ℕ) (block : List Task) → IsGapless blocks → (length (set blocks at block) ≤ 1) ⊎ AllByRecursion IsFilled (remove (set blocks at block) at)
others_filled blocks at block (inl short) = inl (omega (arith, length-set blocks at block, short))
others_filled blocks at block (inr all) = inr (others_stay blocks at block all)

all_from_others : (blocks : List (List Task)) (at : ℕ) → at < length blocks → IsFilled (block_at blocks at) → AllByRecursion IsFilled (remove blocks at) → AllByRecursion IsFilled blocks
all_from_others [] at inside filled all = tt
all_from_others (block ∷ blocks) zero inside filled all = (filled, all)
all_from_others (block ∷ blocks) (suc at) inside filled all = (all.0, all_from_others blocks at (omega (arith, inside)) filled all.1)

pub gapless-kept : (blocks : List (List Task)) (at : ℕ) → at < length blocks → IsFilled (block_at blocks at) → (length blocks ≤ 1) ⊎ AllByRecursion IsFilled (remove blocks at) → IsGapless blocks
gapless-kept blocks at inside filled (inl short) = inl short
gapless-kept blocks at inside filled (inr all) = inr (all_from_others blocks at inside filled all)

pub gapless-removed : (blocks : List (List Task)) (at : ℕ) → 1 < length blocks → (length blocks ≤ 1) ⊎ AllByRecursion IsFilled (remove blocks at) → IsGapless (remove blocks at)
gapless-removed blocks at many (inl short) = absurd (omega (arith, many, short))
gapless-removed blocks at many (inr all) = inr all

-- ---- what the calls leave

pub inside_from_place : (blocks : List (List Task)) (at : ℕ) → (at < length blocks) ⊎ (length blocks + at ≡ 0) → 0 < length blocks → at < length blocks
inside_from_place blocks at (inl inside) some = inside
inside_from_place blocks at (inr none) some = absurd (omega (arith, none, some))

pub below_place : (blocks : List (List Task)) (at i : ℕ) → (at < length blocks) ⊎ (length blocks + at ≡ 0) → i < at → i < length blocks
below_place blocks at i (inl inside) below = omega (arith, inside, below)
below_place blocks at i (inr none) below = absurd (omega (arith, none, below))

take_le : (blocks : List (List Task)) (i at : ℕ) → i ≤ at → length (tasks_in (take i blocks)) ≤ length (tasks_in (take at blocks))
take_le [] zero zero up_to = omega arith
take_le [] zero (suc at) up_to = omega arith
take_le [] (suc i) at up_to = omega arith
take_le (block ∷ blocks) zero at up_to = omega arith
take_le (block ∷ blocks) (suc i) zero up_to = absurd (omega (arith, up_to))
take_le (block ∷ blocks) (suc i) (suc at) up_to =
    omega (arith, take_le blocks i at (omega (arith, up_to)), length-append block (tasks_in (take i blocks)), length-append block (tasks_in (take at blocks)))

-- one more block counted
pub count_more : (blocks : List (List Task)) (i : ℕ) → i < length blocks → length (tasks_in (take (i + 1) blocks)) ≡ length (tasks_in (take i blocks)) + length (block_at blocks i)
count_more blocks i inside = rw add-one (ap length (take_more blocks i inside) ∙ length-append (tasks_in (take i blocks)) (block_at blocks i))

pub count_within : (key : Key) (blocks : List (List Task)) (at place i : ℕ) → IsPlace key blocks at place → i ≤ at → place + length (tasks_in (take i blocks)) ≤ length (tasks_in blocks)
count_within key blocks at place i found up_to =
    omega (arith, take_le blocks i at up_to, rank_from_place key blocks at place found, length-filter (is_earlier key) (tasks_in blocks), count_by-le-length (is_earlier key) (tasks_in blocks))

pub first_of_blocks : (blocks : List (List Task)) → IsGapless blocks → slice_get (block_at blocks 0) 0 ≡ slice_get (tasks_in blocks) 0
first_of_blocks [] gapless = refl
first_of_blocks ((task ∷ block) ∷ blocks) gapless = refl
first_of_blocks ([] ∷ []) gapless = refl
first_of_blocks ([] ∷ next ∷ blocks) (inl short) = absurd (omega (arith, short))
first_of_blocks ([] ∷ next ∷ blocks) (inr filled) = absurd (omega (arith, filled.0))
