-- What holds of all items of a list, as tasks are put in and others are left out.
use Rattle.std.proofs.Common.{◌≡◌, ℕ, true, nat_eq, suc, length, List, [], ◌∷◌, ◌++◌, map, refl, sym, ap, subst, eqb-true}
use Rattle.std.proofs.lemmas.Bool.{and_from, and_parts, true≢false}
use Rattle.std.specs.List.{AllByRecursion}
use Rattle.app_laws.specs.Order.{is_prefix, Pairwise}
use Rattle.app_laws.specs.ApartLaws.{TasksApart-turned}

pub prefixes_follow : (path other last : List ℕ) → is_prefix path other ≡ true → is_prefix other last ≡ true → is_prefix path last ≡ true
prefixes_follow [] other last first second = refl
prefixes_follow (n ∷ path) [] last first second = absurd (true≢false (sym first))
prefixes_follow (n ∷ path) (m ∷ other) [] first second = absurd (true≢false (sym second))
prefixes_follow (n ∷ path) (m ∷ other) (k ∷ last) first second =
    let one = and_parts (nat_eq n m) (is_prefix path other) first in
    let two = and_parts (nat_eq m k) (is_prefix other last) second in
    and_from (nat_eq n k) (is_prefix path last) (subst (λ (number : ℕ). nat_eq number k ≡ true) (sym (eqb-true n m one.0)) two.0) (prefixes_follow path other last one.1 two.1)

-- ---- an item in the middle

pub all-inserted : {X : Type 0} (P : X → Type 0) (xs : List X) (x : X) (ys : List X) → P x → AllByRecursion P (xs ++ ys) → AllByRecursion P (xs ++ x ∷ ys)
all-inserted P [] x ys one all = (one, all)
all-inserted P (y ∷ xs) x ys one all = (all.0, all-inserted P xs x ys one all.1)

pub pairwise-inserted : {X : Type 0} (R : X → X → Type 0) (xs : List X) (x : X) (ys : List X) → AllByRecursion (λ y. R y x) xs → AllByRecursion (R x) ys → Pairwise R (xs ++ ys) → Pairwise R (xs ++ x ∷ ys)
pairwise-inserted R [] x ys front back pairs = (back, pairs)
pairwise-inserted R (y ∷ xs) x ys front back pairs = (all-inserted (R y) xs x ys front.0 pairs.0, pairwise-inserted R xs x ys front.1 back pairs.1)

pub length-inserted : {X : Type 0} (xs : List X) (x : X) (ys : List X) → length (xs ++ x ∷ ys) ≡ suc (length (xs ++ ys))
length-inserted [] x ys = refl
length-inserted (y ∷ xs) x ys = ap suc (length-inserted xs x ys)

pub length-mapped : {X Y : Type 0} (f : X → Y) (xs : List X) → length (map f xs) ≡ length xs
length-mapped f [] = refl
length-mapped f (x ∷ xs) = ap suc (length-mapped f xs)
