-- The earliest of the pending tasks decides whether a task is safe.
use Rattle.std.proofs.Common.{◌≡◌, ◌∙◌, ◌+◌, ◌<◌, ◌≤◌, ℕ, true, false, List, [], ◌∷◌, Some, None, slice_get, ap, sym, refl, subst, arith, inl, inr}
use Rattle.std.specs.Prelude.{nat_lt}
use Rattle.std.specs.List.{AllByRecursion}
use Rattle.std.specs.Ordering.{is_ge, is_lt}
use Rattle.std.specs.declared.cmp.Ordering.{Ordering}
use Rattle.std.specs.declared.cmp.Ordering.TheVariants.{Less, Equal, Greater}
use Rattle.std.proofs.lemmas.Bool.{cases_Bool, false≢true}
use Rattle.std.proofs.lemmas.Bool.Decides.{nat_tests}
use Rattle.std.proofs.lemmas.Option.{same_Some}
use Rattle.plain_laws.specs.Orderings.{less_from_test}
use Rattle.task_order.specs.declared.task.Task.{Task}
use Rattle.task_order.specs.Key.{key_cmp, key_cmp_total}
use Rattle.task_order.specs.TaskList.{IsAscending, is_earlier, tasks_before}
use Rattle.task_order.specs.KeyLaws.{earlier_prio}
use Rattle.hook_app.specs.Hooked.{is_ahead}

not_less : (order : Ordering) → is_ge order ≡ true → order ≡ Less → ⊥
not_less Less is e = false≢true is
not_less Equal is e = absurd cc
not_less Greater is e = absurd cc

less_from : (order : Ordering) → is_ge order ≡ false → order ≡ Less
less_from Less is = refl
less_from Equal is = absurd (false≢true (sym is))
less_from Greater is = absurd (false≢true (sym is))

-- all come late enough where each of them does
all_late : (ahead : ℕ) (task : Task) (tasks : List Task) → AllByRecursion (λ other. task.key.prio < other.key.prio + ahead) tasks → is_ahead ahead task (tasks_before task.key tasks) ≡ true
all_late ahead task [] late = refl
all_late ahead task (other ∷ tasks) late = elim (cases_Bool (is_earlier task.key other)) [
  | inl earlier ↦
      let here : nat_lt task.key.prio (other.key.prio + ahead) ≡ true = grind (arith, nat_tests, late.0) in
      rw (earlier, here) (all_late ahead task tasks late.1)
  | inr later ↦ rw later (all_late ahead task tasks late.1)
]

late_after : (ahead : ℕ) (task first : Task) (rest : List Task) → AllByRecursion (λ other. key_cmp first.key other.key ≡ Less) rest → task.key.prio < first.key.prio + ahead
    → AllByRecursion (λ other. task.key.prio < other.key.prio + ahead) rest
late_after ahead task first [] later far = tt
late_after ahead task first (other ∷ rest) later far =
    let above = earlier_prio first.key other.key (ap is_lt later.0) in (omega (arith, above, far), late_after ahead task first rest later.1 far)

-- where the first one isn't earlier, none is
none_before : (task first : Task) (rest : List Task) → AllByRecursion (λ other. key_cmp first.key other.key ≡ Less) rest → (key_cmp first.key task.key ≡ Less → ⊥) → tasks_before task.key rest ≡ []
none_before task first [] later at_front = refl
none_before task first (other ∷ rest) later at_front = elim (cases_Bool (is_earlier task.key other)) [
  | inl earlier ↦ absurd (at_front (key_cmp_total.trans first.key other.key task.key later.0 (less_from_test (key_cmp other.key task.key) earlier)))
  | inr late ↦ rw late (none_before task first rest later.1 at_front)
]

-- where the first one comes late enough, each earlier one does
first_late : (ahead : ℕ) (task first : Task) (rest : List Task) → IsAscending (first ∷ rest) → task.key.prio < first.key.prio + ahead → is_ahead ahead task (tasks_before task.key (first ∷ rest)) ≡ true
first_late ahead task first rest up far = all_late ahead task (first ∷ rest) (far, late_after ahead task first rest up.0 far)

first_not_earlier : (ahead : ℕ) (task first : Task) (rest : List Task) → IsAscending (first ∷ rest) → (key_cmp first.key task.key ≡ Less → ⊥) → is_ahead ahead task (tasks_before task.key (first ∷ rest)) ≡ true
first_not_earlier ahead task first rest up at_front = elim (cases_Bool (is_earlier task.key first)) [
  | inl earlier ↦ absurd (at_front (less_from_test (key_cmp first.key task.key) earlier))
  | inr late ↦ rw (late, none_before task first rest up.0 at_front) refl
]

first_counts : (ahead : ℕ) (task first : Task) (rest : List Task) → key_cmp first.key task.key ≡ Less → first.key.prio + ahead ≤ task.key.prio → is_ahead ahead task (tasks_before task.key (first ∷ rest)) ≡ false
first_counts ahead task first rest earlier near =
    let here : nat_lt task.key.prio (first.key.prio + ahead) ≡ false = grind (arith, nat_tests, near) in
    let is : is_earlier task.key first ≡ true = ap is_lt earlier in
    rw (is, here) refl

-- where the earliest of the pending tasks comes late enough, so does each earlier one
pub earliest_far : (ahead : ℕ) (task first : Task) (pending : List Task) → IsAscending pending → Some first ≡ slice_get pending 0 → task.key.prio < first.key.prio + ahead
    → true ≡ is_ahead ahead task (tasks_before task.key pending)
earliest_far ahead task first [] up is far = absurd (cc)
earliest_far ahead task first (other ∷ rest) up is far =
    let same : first ≡ other = same_Some first other is in
    sym (first_late ahead task other rest up (subst (λ (least : Task). task.key.prio < least.key.prio + ahead) same far))

-- where it doesn't, it is the one that counts, unless it isn't earlier
pub earliest_near : (ahead : ℕ) (task first : Task) (pending : List Task) → IsAscending pending → Some first ≡ slice_get pending 0 → first.key.prio + ahead ≤ task.key.prio
    → is_ge (key_cmp first.key task.key) ≡ is_ahead ahead task (tasks_before task.key pending)
earliest_near ahead task first [] up is near = absurd (cc)
earliest_near ahead task first (other ∷ rest) up is near =
    let same : first ≡ other = same_Some first other is in
    subst (λ (least : Task). is_ge (key_cmp least.key task.key) ≡ is_ahead ahead task (tasks_before task.key (other ∷ rest))) (sym same)
    (first_decides ahead task other rest up (subst (λ (least : Task). least.key.prio + ahead ≤ task.key.prio) same near))
  where
    first_decides : (ahead : ℕ) (task first : Task) (rest : List Task) → IsAscending (first ∷ rest) → first.key.prio + ahead ≤ task.key.prio
        → is_ge (key_cmp first.key task.key) ≡ is_ahead ahead task (tasks_before task.key (first ∷ rest))
    first_decides ahead task first rest up near = elim (cases_Bool (is_ge (key_cmp first.key task.key))) [
      | inl at_front ↦ at_front ∙ sym (first_not_earlier ahead task first rest up (not_less (key_cmp first.key task.key) at_front))
      | inr earlier ↦ earlier ∙ sym (first_counts ahead task first rest (less_from (key_cmp first.key task.key) earlier) near)
    ]

-- where it has a higher priority than the task, nothing is earlier
pub none_is_below : (ahead : ℕ) (task first : Task) (pending : List Task) → IsAscending pending → Some first ≡ slice_get pending 0 → task.key.prio < first.key.prio
    → true ≡ is_ahead ahead task (tasks_before task.key pending)
none_is_below ahead task first pending up is above = earliest_far ahead task first pending up is (omega arith)

pub none_is_pending : (ahead : ℕ) (task : Task) (pending : List Task) → None ≡ slice_get pending 0 → true ≡ is_ahead ahead task (tasks_before task.key pending)
none_is_pending ahead task [] is = refl
none_is_pending ahead task (other ∷ rest) is = absurd (cc)
