-- Where a key belongs by its priority alone.
use Rattle.std.proofs.Common.{◌≡◌, ℕ, ◌+◌, ◌-◌, ◌<◌, ◌≤◌, ◌⊎◌, inl, inr, Bool, true, false, List, [], ◌∷◌, ◌++◌, length, get_or, refl, sym, ◌∙◌, ap, subst, arith, length-append}
use Rattle.std.proofs.lemmas.Bool.{cases_lt}
use Rattle.std.proofs.lemmas.Bool.Decides.{nat_tests}
use Rattle.std.proofs.lemmas.List.{get_or_append_left, get_or-append-add, get_or-append_right}
use Rattle.std.specs.Cmp.Lexicographic.{slice_cmp}
use Rattle.std.specs.declared.cmp.Ordering.{Ordering}
use Rattle.std.specs.declared.cmp.Ordering.TheVariants.{Greater}
use Rattle.std.specs.Ordering.{nat_cmp, ordering_then, is_lt, is_le}
use Rattle.plain_laws.specs.Orderings.{less_from_test}
use Rattle.task_order.specs.declared.key.Key.{Key}
use Rattle.task_order.specs.declared.task.Task.{Task}
use Rattle.task_order.specs.Key.{key_cmp}
use Rattle.task_order.specs.TaskList.{IsAscending, is_earlier, tasks_before}
use Rattle.task_order.specs.Blocks.{starts_by, IsEndOfPriority}
use Rattle.task_order.proofs.Fronts.{before-late}
use Rattle.task_order.proofs.Places.{before-cons}
use Rattle.task_order.proofs.Counts.{counts_late, count_within_list}

then_above : (m n : ℕ) (o : Ordering) → n < m → ordering_then (nat_cmp m n) o ≡ Greater
then_above m n o above = grind (arith, nat_tests)

-- a key of a greater priority is later
prio_above : (a b : Key) → b.prio < a.prio → key_cmp a b ≡ Greater
prio_above a b above = then_above a.prio b.prio (slice_cmp nat_cmp a.path b.path) above

-- ---- the tasks of a block

-- no more tasks are earlier
end_bounds_by : (key : Key) (tasks : List Task) (place : ℕ) → IsAscending tasks → IsEndOfPriority key.prio tasks place → (place < length tasks) ⊎ (length tasks ≤ place) → length (tasks_before key tasks) ≤ place
end_bounds_by key [] place up end within = omega arith
end_bounds_by key (task ∷ tasks) place up end (inl below) =
    counts_late key (task ∷ tasks) place task up below (ap is_lt (prio_above (get_or (task ∷ tasks) place task).key key (end.1 task below)))
end_bounds_by key (task ∷ tasks) place up end (inr above) = omega (arith, above, count_within_list key (task ∷ tasks))

pub end_bounds : (key : Key) (tasks : List Task) (place : ℕ) → IsAscending tasks → IsEndOfPriority key.prio tasks place → length (tasks_before key tasks) ≤ place
end_bounds key tasks place up end = end_bounds_by key tasks place up end (cases_lt place (length tasks))

-- ---- the place

starts_by_test : (key : Key) (task : Task) (block : List Task) (test : Bool) → is_earlier key task ≡ test → IsAscending (task ∷ block) → 0 < length (tasks_before key (task ∷ block)) → starts_by key (task ∷ block) ≡ true
starts_by_test key task block true is up some = ap is_le (less_from_test _ is)
starts_by_test key task block false is up some = absurd (omega (arith, some, ap length (before-cons key task block false is), ap length (before-late key task block is up.0)))

-- a block with an earlier task starts by the key
pub started_from_some : (key : Key) (block : List Task) → IsAscending block → 0 < length (tasks_before key block) → starts_by key block ≡ true
started_from_some key [] up some = absurd (omega (arith, some))
started_from_some key (task ∷ block) up some = starts_by_test key task block _ refl up some

-- ---- the two parts of a block

end_in_front_by : (prio : ℕ) (front back : List Task) (place : ℕ) (d : Task) → IsEndOfPriority prio front place → ((d : Task) → 0 < length back → prio < (get_or back 0 d).key.prio) → place < length (front ++ back)
    → (place < length front) ⊎ (length front ≤ place) → prio < (get_or (front ++ back) place d).key.prio
end_in_front_by prio front back place d end above below (inl inside) = subst (λ (t : Task). prio < t.key.prio) (sym (get_or_append_left front back d place inside)) (end.1 d inside)
end_in_front_by prio front back place d end above below (inr outside) =
    let same : place - length front ≡ 0 = omega (arith, end.0, outside) in
    subst (λ (t : Task). prio < t.key.prio) (sym (get_or-append_right front back (length front) place d refl outside ∙ ap (λ n. get_or back n d) same)) (above d (omega (arith, below, outside, end.0, length-append front back)))

-- the end in the first part, where the second has none or starts above
pub end_in_front : (prio : ℕ) (front back : List Task) (place : ℕ) → IsEndOfPriority prio front place → ((d : Task) → 0 < length back → prio < (get_or back 0 d).key.prio) → IsEndOfPriority prio (front ++ back) place
end_in_front prio front back place end above = (omega (arith, end.0, length-append front back), λ d below. end_in_front_by prio front back place d end above below (cases_lt place (length front)))

-- the end in the second part
pub end_in_back : (prio : ℕ) (front back : List Task) (place : ℕ) → IsEndOfPriority prio back place → IsEndOfPriority prio (front ++ back) (length front + place)
end_in_back prio front back place end = (
  omega (arith, end.0, length-append front back),
  λ d below. subst (λ (t : Task). prio < t.key.prio) (sym (get_or-append-add front back place d)) (end.1 d (omega (arith, below, length-append front back))),
)
