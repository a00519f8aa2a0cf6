-- Lemmas on lists, for the proofs of this crate and of those above it.
use Rattle.std.proofs.Common.{◌≡◌, ◌||◌, Bool, true, false, List, [], ◌∷◌, ◌++◌, refl, sym, ◌∙◌, ap}
use Rattle.std.specs.List.{AllByRecursion, list_any}
use Rattle.plain_laws.specs.Lists.{All-joined, All-middle}
use Rattle.task_order.specs.TaskListLaws.{All-put_in}
use Rattle.app_laws.specs.Order.{Pairwise}

-- ---- all but one

pub all_but_one : {X : Type 0} (P : X → Type 0) (xs : List X) (x : X) (ys : List X) → AllByRecursion P (xs ++ x ∷ ys) → AllByRecursion P (xs ++ ys)
all_but_one P [] x ys all = all.1
all_but_one P (y ∷ xs) x ys all = (all.0, all_but_one P xs x ys all.1)

pub pairwise_but_one : {X : Type 0} (R : X → X → Type 0) (xs : List X) (x : X) (ys : List X) → Pairwise R (xs ++ x ∷ ys) → Pairwise R (xs ++ ys)
pairwise_but_one R [] x ys pairs = pairs.1
pairwise_but_one R (y ∷ xs) x ys pairs = (all_but_one (R y) xs x ys pairs.0, pairwise_but_one R xs x ys pairs.1)

pub pairwise_with_one : {X : Type 0} (R : X → X → Type 0) → ((x y : X) → R x y → R y x) → (xs : List X) (x : X) (ys : List X) → Pairwise R (xs ++ x ∷ ys) → AllByRecursion (R x) (xs ++ ys)
pairwise_with_one R turned [] x ys pairs = pairs.0
pairwise_with_one R turned (y ∷ xs) x ys pairs = (turned y x (All-middle (R y) xs x ys pairs.0), pairwise_with_one R turned xs x ys pairs.1)

pub any_but_one : {X : Type 0} (p : X → Bool) (xs : List X) (x : X) (ys : List X) → list_any p (xs ++ x ∷ ys) ≡ true → p x ≡ false → list_any p (xs ++ ys) ≡ true
any_but_one p [] x ys any fails = sym (ap (λ (test : Bool). test || list_any p ys) fails) ∙ any
any_but_one p (y ∷ xs) x ys any fails = by_case (p y) any (λ rest. any_but_one p xs x ys rest fails)
  where
    by_case : (test : Bool) → (test || list_any p (xs ++ x ∷ ys)) ≡ true → (list_any p (xs ++ x ∷ ys) ≡ true → list_any p (xs ++ ys) ≡ true) → (test || list_any p (xs ++ ys)) ≡ true
    by_case true any later = refl
    by_case false any later = later any
