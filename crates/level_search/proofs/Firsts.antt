-- The first visits to vertices, and the other ones.
use Rattle.std.specs.Prelude.{◌≡◌, ℕ, suc, ◌==◌, if◌then◌else◌, Bool, List, [], ◌∷◌, ◌++◌}
use Rattle.std.specs.List.{AllByRecursion, list_any}
use Rattle.std.specs.declared.cmp.Ordering.TheVariants.{Less}
use Rattle.std.proofs.lemmas.Bool.{cond_both}
use Rattle.plain_laws.specs.Lists.{All-append, All-behind, All-front}
use Rattle.task_order.specs.declared.task.Task.{Task}
use Rattle.task_order.specs.Key.{key_cmp}
use Rattle.task_order.specs.TaskList.{IsAscending}

-- whether the vertex is one of those seen
abbrev pub is_seen : ℕ → List ℕ → Bool
is_seen vertex seen = list_any (λ other. other == vertex) seen

-- the visits to vertices that weren't seen before
abbrev pub firsts : List ℕ → List Task → List Task
firsts seen [] = []
firsts seen (task ∷ tasks) =
    if is_seen (suc task.body.at) seen then firsts (suc task.body.at ∷ seen) tasks else task ∷ firsts (suc task.body.at ∷ seen) tasks

-- the visits to vertices that were
abbrev pub others : List ℕ → List Task → List Task
others seen [] = []
others seen (task ∷ tasks) =
    if is_seen (suc task.body.at) seen then task ∷ others (suc task.body.at ∷ seen) tasks else others (suc task.body.at ∷ seen) tasks

-- ---- tasks in order

-- the tasks in front of one are earlier, and those behind it are later
pub earlier_front : (front : List Task) (task : Task) (rest : List Task) → IsAscending (front ++ task ∷ rest) → AllByRecursion (λ other. key_cmp other.key task.key ≡ Less) front
earlier_front [] task rest up = tt
earlier_front (first ∷ front) task rest up = ((All-behind (λ other. key_cmp first.key other.key ≡ Less) front (task ∷ rest) up.0).0, earlier_front front task rest up.1)

pub later_behind : (front : List Task) (task : Task) (rest : List Task) → IsAscending (front ++ task ∷ rest) → AllByRecursion (λ other. key_cmp task.key other.key ≡ Less) rest
later_behind [] task rest up = up.0
later_behind (first ∷ front) task rest up = later_behind front task rest up.1

-- they stay in order without it
pub ascending_without : (front : List Task) (task : Task) (rest : List Task) → IsAscending (front ++ task ∷ rest) → IsAscending (front ++ rest)
ascending_without [] task rest up = up.1
ascending_without (first ∷ front) task rest up =
    let Later = λ (other : Task). key_cmp first.key other.key ≡ Less in
    (All-append Later front rest (All-front Later front (task ∷ rest) up.0) (All-behind Later front (task ∷ rest) up.0).1, ascending_without front task rest up.1)

-- ---- the other visits, which are some of all

pub all_others : (P : Task → Type 0) (seen : List ℕ) (tasks : List Task) → AllByRecursion P tasks → AllByRecursion P (others seen tasks)
all_others P seen [] all = tt
all_others P seen (task ∷ tasks) all =
    let rest = all_others P (suc task.body.at ∷ seen) tasks all.1 in
    cond_both (is_seen (suc task.body.at) seen) (task ∷ others (suc task.body.at ∷ seen) tasks) (others (suc task.body.at ∷ seen) tasks) (AllByRecursion P)
    (λ was. (all.0, rest)) (λ not. rest)

pub ascending_others : (seen : List ℕ) (tasks : List Task) → IsAscending tasks → IsAscending (others seen tasks)
ascending_others seen [] up = tt
ascending_others seen (task ∷ tasks) up =
    let rest = ascending_others (suc task.body.at ∷ seen) tasks up.1 in
    cond_both (is_seen (suc task.body.at) seen) (task ∷ others (suc task.body.at ∷ seen) tasks) (others (suc task.body.at ∷ seen) tasks) IsAscending
    (λ was. (all_others (λ other. key_cmp task.key other.key ≡ Less) (suc task.body.at ∷ seen) tasks up.0, rest)) (λ not. rest)
