-- The numbers of the seats of a team.
use Rattle.std.proofs.Common.{◌≡◌, ℕ, zero, suc, List, [], ◌∷◌, ◌++◌, refl, sym, ap, ◌∙◌}
use Rattle.plain_laws.specs.Ranges.{down_from-others_stay}
use Rattle.free_pool.specs.Team.{up_to}

pub no_snoc : {X : Type 0} (xs : List X) (x : X) → xs ++ x ∷ [] ≡ [] → ⊥
no_snoc [] x same = cc
no_snoc (y ∷ xs) x same = cc

pub head_same : {X : Type 0} {x y : X} {xs ys : List X} → x ∷ xs ≡ y ∷ ys → x ≡ y
head_same same = cc

pub tail_same : {X : Type 0} {x y : X} {xs ys : List X} → x ∷ xs ≡ y ∷ ys → xs ≡ ys
tail_same same = cc

-- the last element, and those before it
pub last_same : {X : Type 0} (xs ys : List X) (x y : X) → xs ++ x ∷ [] ≡ ys ++ y ∷ [] → (xs ≡ ys) × (x ≡ y)
last_same [] [] x y same = (refl, head_same same)
last_same [] (b ∷ ys) x y same = absurd (no_snoc ys y (sym (tail_same same)))
last_same (a ∷ xs) [] x y same = absurd (no_snoc xs x (tail_same same))
last_same {X} (a ∷ xs) (b ∷ ys) x y same =
    let rest = last_same xs ys x y (tail_same same) in
    (ap (λ (first : X). first ∷ xs) (head_same same) ∙ ap (λ (others : List X). b ∷ others) rest.0, rest.1)

-- the last of the numbers from 1 to n is n
pub last_number : (n : ℕ) (numbers : List ℕ) (number : ℕ) → numbers ++ number ∷ [] ≡ up_to n → (m : ℕ) × (n ≡ suc m) × (numbers ≡ up_to m) × (number ≡ suc m)
last_number zero numbers number same = absurd (no_snoc numbers number same)
last_number (suc m) numbers number same = let is = last_same numbers (up_to m) number (suc m) same in (m, refl, is.0, is.1)

pub no_number : (n : ℕ) → [] ≡ up_to n → n ≡ 0
no_number zero none = refl
no_number (suc n) none = absurd (no_snoc (up_to n) (suc n) (sym none))
