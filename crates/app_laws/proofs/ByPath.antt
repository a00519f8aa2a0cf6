-- Tasks in the order of their paths.
use Rattle.std.proofs.Common.{◌≡◌, ℕ, suc, ◌<◌, Bool, false, List, [], ◌∷◌, length, get_or, refl, sym, ap, ◌∙◌, arith}
use Rattle.std.specs.Cmp.{IsStrictWeakOrder, IsTotalOrder, on_total}
use Rattle.std.specs.Cmp.Lexicographic.{nat_list_cmp_total, slice_cmp}
use Rattle.std.specs.List.{AllByRecursion, IsDistinct}
use Rattle.std.specs.List.Sorted.{IsPermutation, IsSortedBy}
use Rattle.std.specs.Ordering.{eq_by_cmp, is_eq, is_lt, nat_cmp, ordering_reverse}
use Rattle.std.specs.declared.cmp.Ordering.{Ordering}
use Rattle.std.specs.declared.cmp.Ordering.TheVariants.{Less, Equal, Greater}
use Rattle.std.proofs.lemmas.Bool.{true≢false}
use Rattle.std.proofs.lemmas.Cmp.{eq_by_cmp_equiv}
use Rattle.std.proofs.lemmas.List.MinMax.{ranks_by}
use Rattle.std.proofs.lemmas.List.Sorted.{sorted_far}
use Rattle.std.proofs.lemmas.Map.Keys.{IsDistinct-IsPermutation, apart_from_distinct}
use Rattle.std.proofs.lemmas.Map.Lookups.{exact_bytes}
use Rattle.plain_laws.specs.Lists.{All-weaker}
use Rattle.task_order.specs.declared.task.Task.{Task}
use Rattle.app_laws.specs.Order.{Pairwise}
use Rattle.app_laws.specs.ApartLaws.{differ_from_no_prefix, TasksApart}

-- how tasks compare by their paths alone
abbrev path_cmp : Task → Task → Ordering
path_cmp task other = slice_cmp nat_cmp task.key.path other.key.path

path_cmp_total : IsTotalOrder path_cmp
path_cmp_total = on_total (λ (task : Task). task.key.path) nat_list_cmp_total

abbrev pub is_before : Task → Task → Bool
is_before task other = is_lt (path_cmp task other)

pub before_ranks : IsStrictWeakOrder is_before
before_ranks = ranks_by nat_list_cmp_total (λ (task : Task). task.key.path)

-- ---- paths that are apart, in whatever order

differ_from_apart : (task other : Task) → TasksApart task other → eq_by_cmp path_cmp task other ≡ false
differ_from_apart task other apart = by_order (path_cmp task other) refl
  where
    by_order : (order : Ordering) → path_cmp task other ≡ order → is_eq order ≡ false
    by_order Less is = refl
    by_order Greater is = refl
    by_order Equal is = absurd (differ_from_no_prefix task.key.path other.key.path apart.not_before (exact_bytes task.key.path other.key.path is))

distinct_from_apart : (tasks : List Task) → Pairwise TasksApart tasks → IsDistinct (eq_by_cmp path_cmp) tasks
unfolding IsDistinct
distinct_from_apart [] pairs = tt
distinct_from_apart (task ∷ tasks) pairs = (
  All-weaker (TasksApart task) (λ other. eq_by_cmp path_cmp task other ≡ false) (differ_from_apart task) tasks pairs.0,
  distinct_from_apart tasks pairs.1,
)

-- ---- a sorted list

ascends : (order turned : Ordering) → order ≡ ordering_reverse turned → is_lt turned ≡ false → is_eq order ≡ false → order ≡ Less
ascends order Less is not_less differs = absurd (true≢false not_less)
ascends order Equal is not_less differs = absurd (true≢false (sym (ap is_eq is) ∙ differs))
ascends order Greater is not_less differs = is

all_from_places : {X : Type 0} (P : X → Type 0) (xs : List X) → ((i : ℕ) (d : X) → i < length xs → P (get_or xs i d)) → AllByRecursion P xs
all_from_places P [] each = tt
all_from_places P (x ∷ xs) each = (each 0 x (omega arith), all_from_places P xs (λ i d inside. each (suc i) d (omega (arith, inside))))

pairs_from_places : {X : Type 0} (R : X → X → Type 0) (xs : List X) → ((i j : ℕ) (d : X) → i < j → j < length xs → R (get_or xs i d) (get_or xs j d)) → Pairwise R xs
pairs_from_places R [] each = tt
pairs_from_places R (x ∷ xs) each = (
  all_from_places (R x) xs (λ j d inside. each 0 (suc j) d (omega arith) (omega (arith, inside))),
  pairs_from_places R xs (λ i j d before inside. each (suc i) (suc j) d (omega (arith, before)) (omega (arith, inside))),
)

-- tasks whose paths are apart, sorted by their paths
pub sorted_by_path : (pending tasks : List Task) → Pairwise TasksApart pending → IsPermutation pending tasks → IsSortedBy is_before tasks
    → Pairwise (λ task other. path_cmp task other ≡ Less) tasks
sorted_by_path pending tasks apart same sorted =
    let distinct = IsDistinct-IsPermutation (eq_by_cmp path_cmp) (eq_by_cmp_equiv path_cmp_total).symm pending tasks same (distinct_from_apart pending apart) in
    pairs_from_places (λ (task other : Task). path_cmp task other ≡ Less) tasks (λ i j d before inside.
    ascends _ _ (path_cmp_total.antisymm (get_or tasks i d) (get_or tasks j d))
    (sorted_far is_before before_ranks tasks sorted i j d (omega (arith, before)) inside)
    (apart_from_distinct (eq_by_cmp path_cmp) tasks i j d distinct before inside))
