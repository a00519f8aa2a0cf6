-- How often the other visits go to a vertex: once less than all of them.
use Rattle.std.specs.Prelude.{◌≡◌, ◌≢◌, ℕ, suc, ◌-◌, ◌==◌, Bool, true, false, List, [], ◌∷◌, length, filter, refl}
use Rattle.std.proofs.Common.{arith, ap, sym, ◌∙◌, cond, inl, inr}
use Rattle.std.proofs.lemmas.Bool.{cases_eq, cond-true, cond-false, false≢true, or_left, or_right, or_from}
use Rattle.std.proofs.lemmas.Bool.Decides.{nat_tests}
use Rattle.std.proofs.lemmas.List.Sums.{length-filter}
use Rattle.task_order.specs.declared.task.Task.{Task}
use Rattle.level_search.specs.Counts.{IsMost, times}
use Rattle.level_search.proofs.Acting.{vertices_of}
use Rattle.level_search.proofs.Firsts.{is_seen, others}

-- the number, as often as it stands there
abbrev same : ℕ → List ℕ → List ℕ
same number numbers = filter (λ other. other == number) numbers

equal : (a b : ℕ) → a ≡ b → (a == b) ≡ true
equal a b is = grind (arith, nat_tests)

unequal : (a b : ℕ) → (a ≡ b → ⊥) → (a == b) ≡ false
unequal a b differs = grind (arith, nat_tests)

-- the other visits behind a task
abbrev left_from : List ℕ → Task → List Task → List Task
left_from seen task tasks = others (suc task.body.at ∷ seen) tasks

module _ (vertex : ℕ) where
  abbrev visits : List Task → List ℕ
  visits tasks = same vertex (vertices_of tasks)

  -- where the vertex was seen, none is missing
  seen_counted : (seen : List ℕ) (tasks : List Task) → is_seen vertex seen ≡ true → length (visits (others seen tasks)) ≡ length (visits tasks)
  seen_counted seen [] is = refl
  seen_counted seen (task ∷ tasks) is =
      by_case (is_seen (suc task.body.at) seen) refl (seen_counted (suc task.body.at ∷ seen) tasks (or_right (suc task.body.at == vertex) (is_seen vertex seen) is))
    where
      by_case : (was : Bool) → is_seen (suc task.body.at) seen ≡ was → length (visits (left_from seen task tasks)) ≡ length (visits tasks) → length (visits (cond was (task ∷ left_from seen task tasks) (left_from seen task tasks))) ≡ length (visits (task ∷ tasks))
      by_case true was rest = elim (suc task.body.at == vertex) as (λ b. length (cond b (suc task.body.at ∷ visits (left_from seen task tasks)) (visits (left_from seen task tasks))) ≡ length (cond b (suc task.body.at ∷ visits tasks) (visits tasks))) [
        | true ↦ ap suc rest
        | false ↦ rest
      ]
      by_case false not rest = elim (cases_eq (suc task.body.at) vertex) [
        | inl here ↦ absurd (false≢true (sym not ∙ ap (λ v. is_seen v seen) here ∙ is))
        | inr elsewhere ↦ rest ∙ sym (ap length (cond-false (suc task.body.at == vertex) (suc task.body.at ∷ visits tasks) (visits tasks) (unequal (suc task.body.at) vertex elsewhere)))
      ]

  -- and where it wasn't, the first one is
  unseen_counted : (seen : List ℕ) (tasks : List Task) → is_seen vertex seen ≡ false → length (visits (others seen tasks)) ≡ length (visits tasks) - 1
  unseen_counted seen [] is = refl
  unseen_counted seen (task ∷ tasks) is = elim (cases_eq (suc task.body.at) vertex) [
    | inl here ↦
        let left = left_from seen task tasks in
        let test : (suc task.body.at == vertex) ≡ true = equal (suc task.body.at) vertex here in
        let first : is_seen (suc task.body.at) seen ≡ false = ap (λ v. is_seen v seen) here ∙ is in
        let all : length (visits left) ≡ length (visits tasks) = seen_counted (suc task.body.at ∷ seen) tasks (or_left (suc task.body.at == vertex) (is_seen vertex seen) test) in
        let one : length (visits (task ∷ tasks)) ≡ suc (length (visits tasks)) = ap length (cond-true (suc task.body.at == vertex) (suc task.body.at ∷ visits tasks) (visits tasks) test) in
        let missing : length (visits (others seen (task ∷ tasks))) ≡ length (visits left) = ap (λ ts. length (visits ts)) (cond-false (is_seen (suc task.body.at) seen) (task ∷ left) left first) in
        omega (arith, all, one, missing)
    | inr elsewhere ↦
        let left = left_from seen task tasks in
        let test : (suc task.body.at == vertex) ≡ false = unequal (suc task.body.at) vertex elsewhere in
        let fewer : length (visits left) ≡ length (visits tasks) - 1 = unseen_counted (suc task.body.at ∷ seen) tasks (or_from (suc task.body.at == vertex) (is_seen vertex seen) test is) in
        let none : (ts : List Task) → length (visits (task ∷ ts)) ≡ length (visits ts) = λ ts. ap length (cond-false (suc task.body.at == vertex) (suc task.body.at ∷ visits ts) (visits ts) test) in
        let same-left : length (visits (others seen (task ∷ tasks))) ≡ length (visits left) =
        elim (is_seen (suc task.body.at) seen) as (λ b. length (visits (cond b (task ∷ left) left)) ≡ length (visits left)) [
          | true ↦ none left
          | false ↦ refl
        ] in
        same-left ∙ fewer ∙ ap (λ n. n - 1) (sym (none tasks))
  ]

-- the other visits go to each vertex once less
pub once_less : (number : ℕ) (tasks : List Task) → times number (vertices_of (others [] tasks)) ≡ times number (vertices_of tasks) - 1
once_less number tasks =
    sym (length-filter (λ other. other == number) (vertices_of (others [] tasks)))
    ∙ unseen_counted number [] tasks refl
    ∙ ap (λ n. n - 1) (length-filter (λ other. other == number) (vertices_of tasks))

-- so the most of them are one less
pub most_less : (most : ℕ) (tasks : List Task) → IsMost (vertices_of tasks) (suc most) → IsMost (vertices_of (others [] tasks)) most
most_less most tasks is = record {
  upper = λ number. omega (arith, once_less number tasks, is.upper number);
  number = is.number;
  as_often = omega (arith, once_less is.number tasks, is.as_often);
}

-- where none goes to a vertex, there is none
pub none_visits : (tasks : List Task) → IsMost (vertices_of tasks) 0 → tasks ≡ []
none_visits [] is = refl
none_visits (task ∷ tasks) is =
    let vertex = suc task.body.at in
    let counted = length-filter (λ other. other == vertex) (vertices_of (task ∷ tasks)) in
    let one = ap length (cond-true (vertex == vertex) (vertex ∷ same vertex (vertices_of tasks)) (same vertex (vertices_of tasks)) (equal vertex vertex refl)) in
    absurd (omega (arith, counted, one, is.upper vertex))

-- and where some do, there are some
pub some_visits : (most : ℕ) (tasks : List Task) → IsMost (vertices_of tasks) (suc most) → tasks ≢ []
some_visits most [] is none = absurd (omega (arith, is.as_often))
some_visits most (task ∷ tasks) is none = absurd cc
