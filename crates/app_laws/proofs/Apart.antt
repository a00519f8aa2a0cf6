-- Paths of which none is a prefix of another.
use Rattle.std.proofs.Common.{◌≡◌, ◌≢◌, ℕ, suc, ◌<◌, true, false, nat_eq, List, [], ◌∷◌, ◌++◌, refl, sym, ◌∙◌, ⊎_elim, arith, eq-eqb}
use Rattle.std.specs.List.{AllByRecursion}
use Rattle.std.proofs.lemmas.Bool.{true≢false, ne_eqb, and_cases, and_left, and_right, cases_eq}
use Rattle.task_order.specs.declared.key.Key.{Key}
use Rattle.task_order.specs.declared.start.Start.{Start}
use Rattle.task_order.specs.declared.task.Task.{Task}
use Rattle.task_order.specs.Key.{child_key}
use Rattle.app_laws.specs.Execution.{children_from, first_from}
use Rattle.app_laws.specs.Order.{is_prefix, AreApart, Pairwise}
use Rattle.app_laws.specs.ApartLaws.{TasksApart}

-- what goes on from a path is a prefix of no more than the path is
pub is_prefix-longer : (path other : List ℕ) (number : ℕ) → is_prefix path other ≡ false → is_prefix (path ++ number ∷ []) other ≡ false
is_prefix-longer [] other number none = absurd (true≢false none)
is_prefix-longer (n ∷ path) [] number none = refl
is_prefix-longer (n ∷ path) (m ∷ other) number none =
    ⊎_elim
    (λ apart. and_left (nat_eq n m) (is_prefix (path ++ number ∷ []) other) apart)
    (λ none'. and_right (nat_eq n m) (is_prefix (path ++ number ∷ []) other) (is_prefix-longer path other number none'))
    (and_cases (nat_eq n m) (is_prefix path other) none)

-- what is apart from a path is no prefix of what goes on from it
is_prefix-of_longer : (path other : List ℕ) (number : ℕ) → is_prefix path other ≡ false → is_prefix other path ≡ false → is_prefix other (path ++ number ∷ []) ≡ false
is_prefix-of_longer [] other number before after = absurd (true≢false before)
is_prefix-of_longer (n ∷ path) [] number before after = absurd (true≢false after)
is_prefix-of_longer (n ∷ path) (m ∷ other) number before after =
    ⊎_elim
    (λ same. ⊎_elim
    (λ apart. absurd (true≢false (sym (eq-eqb n m same) ∙ apart)))
    (λ before'. ⊎_elim
    (λ apart. and_left (nat_eq m n) (is_prefix other (path ++ number ∷ [])) apart)
    (λ after'. and_right (nat_eq m n) (is_prefix other (path ++ number ∷ [])) (is_prefix-of_longer path other number before' after'))
    (and_cases (nat_eq m n) (is_prefix other path) after))
    (and_cases (nat_eq n m) (is_prefix path other) before))
    (λ differ. and_left (nat_eq m n) (is_prefix other (path ++ number ∷ [])) (ne_eqb m n (λ same. differ (sym same))))
    (cases_eq n m)

-- a longer path is no prefix of its beginning
pub is_prefix-longer_self : (path : List ℕ) (number : ℕ) → is_prefix (path ++ number ∷ []) path ≡ false
is_prefix-longer_self [] number = refl
is_prefix-longer_self (n ∷ path) number = and_right (nat_eq n n) (is_prefix (path ++ number ∷ []) path) (is_prefix-longer_self path number)

is_prefix-sibling : (path : List ℕ) (first second : ℕ) → first ≢ second → is_prefix (path ++ first ∷ []) (path ++ second ∷ []) ≡ false
is_prefix-sibling [] first second differ = and_left (nat_eq first second) true (ne_eqb first second differ)
is_prefix-sibling (n ∷ path) first second differ = and_right (nat_eq n n) (is_prefix (path ++ first ∷ []) (path ++ second ∷ [])) (is_prefix-sibling path first second differ)

siblings_apart : (path : List ℕ) (first second : ℕ) → first < second → AreApart (path ++ first ∷ []) (path ++ second ∷ [])
siblings_apart path first second below = record {
  not_before = is_prefix-sibling path first second (λ same. omega arith);
  not_after = is_prefix-sibling path second first (λ same. omega arith);
}

pub apart_longer : (path other : List ℕ) (number : ℕ) → AreApart path other → AreApart (path ++ number ∷ []) other
apart_longer path other number apart = record {
  not_before = is_prefix-longer path other number apart.not_before;
  not_after = is_prefix-of_longer path other number apart.not_before apart.not_after;
}

-- what is true of each child of a list
pub All-children : (P : Task → Type 0) (Q : Start → Type 0) (parent : Key)
    → ((number : ℕ) (child : Start) → Q child → P (record { key = child_key parent number child.prio; body = child.body }))
    → (number : ℕ) (children : List Start) → AllByRecursion Q children → AllByRecursion P (children_from parent number children)
All-children P Q parent each number [] all = tt
All-children P Q parent each number (child ∷ children) all = (each number child all.0, All-children P Q parent each (suc number) children all.1)

pub All-first : (P : Task → Type 0) (Q : Start → Type 0)
    → ((number : ℕ) (start : Start) → Q start → P (record { key = record { prio = start.prio; path = number ∷ [] }; body = start.body }))
    → (number : ℕ) (first : List Start) → AllByRecursion Q first → AllByRecursion P (first_from number first)
All-first P Q each number [] all = tt
All-first P Q each number (start ∷ first) all = (each number start all.0, All-first P Q each (suc number) first all.1)

-- children are apart from a sibling with a lower number, and from one another
children_apart_from : (parent : Key) (low prio : ℕ) (task : Task) → task.key ≡ child_key parent low prio
    → (number : ℕ) → low < number → (children : List Start) → AllByRecursion (TasksApart task) (children_from parent number children)
children_apart_from parent low prio task is number below [] = tt
children_apart_from parent low prio task is number below (child ∷ children) =
    (rw is (siblings_apart parent.path low number below), children_apart_from parent low prio task is (suc number) (omega arith) children)

pub children_apart : (parent : Key) (number : ℕ) (children : List Start) → Pairwise TasksApart (children_from parent number children)
children_apart parent number [] = tt
children_apart parent number (child ∷ children) =
    (children_apart_from parent number child.prio (record { key = child_key parent number child.prio; body = child.body }) refl (suc number) (omega arith) children, children_apart parent (suc number) children)

first_apart_from : (low prio : ℕ) (task : Task) → task.key ≡ record { prio = prio; path = low ∷ [] }
    → (number : ℕ) → low < number → (first : List Start) → AllByRecursion (TasksApart task) (first_from number first)
first_apart_from low prio task is number below [] = tt
first_apart_from low prio task is number below (start ∷ first) =
    (rw is (siblings_apart [] low number below), first_apart_from low prio task is (suc number) (omega arith) first)

pub first_apart : (number : ℕ) (first : List Start) → Pairwise TasksApart (first_from number first)
first_apart number [] = tt
first_apart number (start ∷ first) =
    (first_apart_from number start.prio (record { key = record { prio = start.prio; path = number ∷ [] }; body = start.body }) refl (suc number) (omega arith) first, first_apart (suc number) first)
