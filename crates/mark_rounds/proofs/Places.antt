-- Lists that a loop goes over by a place, and what stands there.
use Rattle.std.proofs.Common.{◌≡◌, ℕ, zero, suc, ◌+◌, ◌<◌, List, [], ◌∷◌, ◌++◌, length, map, drop, get_or, Some, refl, sym, ap, subst, ◌∙◌, append_assoc, add-one, drop-cons, arith}
use Rattle.std.specs.Prelude.{slice_get}
use Rattle.std.specs.Borrow.{Bor}
use Rattle.std.specs.List.{AllByRecursion}
use Rattle.plain_laws.specs.Lists.{All-get_or}
use Rattle.task_order.specs.declared.task.Task.{Task}
use Rattle.rw_sets.specs.Accesses.{Accesses}
use Rattle.mark_board.specs.declared.view.Mark.{Mark}
use Rattle.mark_board.specs.Markers.{marks_of}
use Rattle.mark_board.specs.Ranks.{marks_from}
use Rattle.app_laws.specs.Applications.{Application, set_in}
use Rattle.mark_rounds.specs.Pending.{sets_in, tasks_in}

pub left_one : {X : Type 0} (xs : List X) (i : ℕ) (x : X) → i < length xs → x ≡ get_or xs i x → drop i xs ≡ x ∷ drop (suc i) xs
left_one xs i x within here = drop-cons xs i x within ∙ ap (λ first. first ∷ drop (suc i) xs) (sym here)

-- what stands at a place holds what all hold
pub holds_at : {X : Type 0} (P : X → Type 0) (xs : List X) (i : ℕ) (x : X) → i < length xs → x ≡ get_or xs i x → AllByRecursion P xs → P x
holds_at P xs i x within here all = subst P (sym here) (All-get_or P xs i x within all)

-- what all tasks hold, the lent ones do
pub all_lent : (P : Task → Type 0) (tasks : List (Bor Task)) → AllByRecursion P (tasks_in tasks) → AllByRecursion (λ (task : Bor Task). P task.now) tasks
all_lent P [] all = tt
all_lent P (task ∷ tasks) all = (all.0, all_lent P tasks all.1)

-- the lent task at a place is the task there
pub task_at : (tasks : List (Bor Task)) (i : ℕ) (task : Bor Task) → i < length tasks → task ≡ get_or tasks i task → slice_get (tasks_in tasks) i ≡ Some task.now
task_at [] i task within here = absurd (omega (arith, within))
task_at (first ∷ tasks) zero task within here = ap (λ (t : Bor Task). Some t.now) (sym here)
task_at (first ∷ tasks) (suc i) task within here = task_at tasks i task (omega (arith, within)) here

-- what a function makes of all stands at the place
pub made_at : {X Y : Type 0} (f : X → Y) (xs : List X) (ys : List Y) (i : ℕ) (x : X) (y : Y) → ys ≡ map f xs → i < length xs → x ≡ get_or xs i x → y ≡ get_or ys i y → y ≡ f x
made_at {X} {Y} f xs ys i x y are within here there = at xs i x y within here (subst (λ (all : List Y). y ≡ get_or all i y) are there)
  where
    at : (xs : List X) (i : ℕ) (x : X) (y : Y) → i < length xs → x ≡ get_or xs i x → y ≡ get_or (map f xs) i y → y ≡ f x
    at [] i x y within here there = absurd (omega (arith, within))
    at (first ∷ xs) zero x y within here there = there ∙ ap f (sym here)
    at (first ∷ xs) (suc i) x y within here there = at xs i x y (omega (arith, within)) here there

-- one more of what a function makes
pub one_more : {X Y : Type 0} (f : X → Y) (xs : List X) (i : ℕ) (x : X) (made whole : List Y) (y : Y) → i < length xs → x ≡ get_or xs i x → y ≡ f x → made ++ map f (drop i xs) ≡ whole
    → (made ++ y ∷ []) ++ map f (drop (i + 1) xs) ≡ whole
one_more {X} {Y} f xs i x made whole y within here is so_far =
    rw (is, add-one)
    (append_assoc made (f x ∷ []) (map f (drop (suc i) xs)) ∙ ap (λ (rest : List X). made ++ map f rest) (sym (left_one xs i x within here)) ∙ so_far)

-- the marks of one set more
pub one_more_marked : (sets : List Accesses) (i : ℕ) (set : Accesses) (made whole : List Mark) → i < length sets → set ≡ get_or sets i set → made ++ marks_from i (drop i sets) ≡ whole
    → (made ++ marks_of i set) ++ marks_from (i + 1) (drop (i + 1) sets) ≡ whole
one_more_marked sets i set made whole within here so_far =
    rw add-one
    (append_assoc made (marks_of i set) (marks_from (suc i) (drop (suc i) sets)) ∙ ap (λ (rest : List Accesses). made ++ marks_from i rest) (sym (left_one sets i set within here)) ∙ so_far)

-- the sets of lent tasks are those of the tasks
pub sets_are : {V : Type 0} (app : Application V) (cells : List V) (tasks : List (Bor Task)) → sets_in app cells tasks ≡ map (set_in app cells) (tasks_in tasks)
sets_are app cells [] = refl
sets_are app cells (task ∷ tasks) = ap (λ (rest : List Accesses). set_in app cells task.now ∷ rest) (sets_are app cells tasks)

pub as_many_tasks : (tasks : List (Bor Task)) → length (tasks_in tasks) ≡ length tasks
as_many_tasks [] = refl
as_many_tasks (task ∷ tasks) = ap suc (as_many_tasks tasks)

pub as_many_sets : {V : Type 0} (app : Application V) (cells : List V) (tasks : List (Bor Task)) → length (sets_in app cells tasks) ≡ length tasks
as_many_sets app cells [] = refl
as_many_sets app cells (task ∷ tasks) = ap suc (as_many_sets app cells tasks)
