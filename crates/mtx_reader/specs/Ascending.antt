-- Lists in strictly ascending order, and lists of numbers that follow one another.
use Rattle.std.specs.Prelude.{◌≡◌, ℕ, zero, suc, ◌+◌, ◌<◌, ◌≤◌, Bool, true, List, [], ◌∷◌, ◌++◌, map, filter, refl}
use Rattle.std.specs.List.{AllByRecursion}
use Rattle.std.specs.Cmp.{IsTotalOrder}
use Rattle.std.specs.Ordering.{nat_cmp, ordering_reverse}
use Rattle.std.specs.declared.cmp.Ordering.{Ordering}
use Rattle.std.specs.declared.cmp.Ordering.TheVariants.{Less, Equal, Greater}
use Rattle.std.proofs.Common.{◌⊎◌, inl, inr, arith, sym, ap, ◌∙◌, subst}
use Rattle.std.proofs.lemmas.Bool.{cond_both, cond-true, cases_eq}
use Rattle.std.proofs.lemmas.Cmp.{tied_itself, nat_cmp_total}
use Rattle.plain_laws.specs.Lists.{All-push}
use Rattle.plain_laws.specs.Orderings.{same_from_cmp, nat_cmp-below}

-- each item comes before each after it
abbrev pub IsAscendingBy : {X : Type 0} → (X → X → Ordering) → List X → Type 0
IsAscendingBy cmp [] = Unit {0}
IsAscendingBy cmp (x ∷ xs) = AllByRecursion (λ y. cmp x y ≡ Less) xs × IsAscendingBy cmp xs

-- the numbers from a first one on, as many as are asked for
abbrev pub numbers_from : ℕ → ℕ → List ℕ
numbers_from first zero = []
numbers_from first (suc count) = first ∷ numbers_from (suc first) count

-- the list has the item
abbrev pub IsIn : {X : Type 0} → List X → X → Type 0
IsIn [] x = ⊥
IsIn (y ∷ ys) x = (y ≡ x) ⊎ IsIn ys x

pub all_in : {X : Type 0} (P : X → Type 0) (xs : List X) (x : X) → AllByRecursion P xs → IsIn xs x → P x
all_in P [] x all there = absurd there
all_in P (y ∷ ys) x all (inl at) = subst P at all.0
all_in P (y ∷ ys) x all (inr there) = all_in P ys x all.1 there

pub all_from_in : {X : Type 0} (P : X → Type 0) (xs : List X) → ((x : X) → IsIn xs x → P x) → AllByRecursion P xs
all_from_in P [] each = tt
all_from_in P (x ∷ xs) each = (each x (inl refl), all_from_in P xs (λ y there. each y (inr there)))

pub in_left : {X : Type 0} (xs ys : List X) (x : X) → IsIn xs x → IsIn (xs ++ ys) x
in_left [] ys x there = absurd there
in_left (z ∷ zs) ys x (inl at) = inl at
in_left (z ∷ zs) ys x (inr there) = inr (in_left zs ys x there)

pub in_right : {X : Type 0} (xs ys : List X) (x : X) → IsIn ys x → IsIn (xs ++ ys) x
in_right [] ys x there = there
in_right (z ∷ zs) ys x there = inr (in_right zs ys x there)

pub in_either : {X : Type 0} (xs ys : List X) (x : X) → IsIn (xs ++ ys) x → IsIn xs x ⊎ IsIn ys x
in_either [] ys x there = inr there
in_either (z ∷ zs) ys x (inl at) = inl (inl at)
in_either (z ∷ zs) ys x (inr there) = moved (in_either zs ys x there)
  where
    moved : IsIn zs x ⊎ IsIn ys x → IsIn (z ∷ zs) x ⊎ IsIn ys x
    moved (inl left) = inl (inr left)
    moved (inr right) = inr right

pub in_map : {X Y : Type 0} (f : X → Y) (xs : List X) (x : X) → IsIn xs x → IsIn (map f xs) (f x)
in_map f [] x there = absurd there
in_map f (y ∷ ys) x (inl at) = inl (ap f at)
in_map f (y ∷ ys) x (inr there) = inr (in_map f ys x there)

pub from_map : {X Y : Type 0} (f : X → Y) (xs : List X) (y : Y) → IsIn (map f xs) y → (x : X) × IsIn xs x × (f x ≡ y)
from_map f [] y there = absurd there
from_map f (x ∷ xs) y (inl at) = (x, inl refl, at)
from_map f (x ∷ xs) y (inr there) = let found = from_map f xs y there in (found.0, inr found.1, found.2)

pub in_filter : {X : Type 0} (test : X → Bool) (xs : List X) (x : X) → IsIn xs x → test x ≡ true → IsIn (filter test xs) x
in_filter test [] x there passes = absurd there
in_filter test (y ∷ ys) x (inl at) passes = subst (λ zs. IsIn zs x) (sym (cond-true (test y) _ _ (ap test at ∙ passes))) (inl at)
in_filter test (y ∷ ys) x (inr there) passes =
    cond_both (test y) (y ∷ filter test ys) (filter test ys) (λ zs. IsIn zs x) (λ kept. inr (in_filter test ys x there passes)) (λ dropped. in_filter test ys x there passes)

pub from_filter : {X : Type 0} (test : X → Bool) (xs : List X) (x : X) → IsIn (filter test xs) x → IsIn xs x × (test x ≡ true)
from_filter test [] x there = absurd there
from_filter test (y ∷ ys) x there =
    cond_both (test y) (y ∷ filter test ys) (filter test ys) (λ zs. IsIn zs x → IsIn (y ∷ ys) x × (test x ≡ true))
    (λ kept here. elim here [
      | inl at ↦ (inl at, ap test (sym at) ∙ kept)
      | inr later ↦ let found = from_filter test ys x later in (inr found.0, found.1)
    ])
    (λ dropped here. let found = from_filter test ys x here in (inr found.0, found.1)) there

module _ {X : Type 0} (cmp : X → X → Ordering) where
  pub ascending_push : (xs : List X) (x : X) → IsAscendingBy cmp xs → AllByRecursion (λ y. cmp y x ≡ Less) xs → IsAscendingBy cmp (xs ++ x ∷ [])
  ascending_push [] x up before = (tt, tt)
  ascending_push (y ∷ ys) x up before = (All-push (λ z. cmp y z ≡ Less) ys x up.0 before.0, ascending_push ys x up.1 before.1)

  pub ascending_append : (xs ys : List X) → IsAscendingBy cmp xs → IsAscendingBy cmp ys → ((x y : X) → IsIn xs x → IsIn ys y → cmp x y ≡ Less) → IsAscendingBy cmp (xs ++ ys)
  ascending_append [] ys up also before = also
  ascending_append (x ∷ xs) ys up also before = (
    all_from_in (λ z. cmp x z ≡ Less) (xs ++ ys) (λ z there. by_side z (in_either xs ys z there)),
    ascending_append xs ys up.1 also (λ z y there here. before z y (inr there) here),
  )
    where
      by_side : (z : X) → IsIn xs z ⊎ IsIn ys z → cmp x z ≡ Less
      by_side z (inl there) = all_in (λ w. cmp x w ≡ Less) xs z up.0 there
      by_side z (inr there) = before x z (inl refl) there

  pub ascending_filter : (test : X → Bool) (xs : List X) → IsAscendingBy cmp xs → IsAscendingBy cmp (filter test xs)
  ascending_filter test [] up = tt
  ascending_filter test (x ∷ xs) up =
      cond_both (test x) (x ∷ filter test xs) (filter test xs) (IsAscendingBy cmp)
      (λ kept. (
        all_from_in (λ y. cmp x y ≡ Less) (filter test xs) (λ y there. all_in (λ z. cmp x z ≡ Less) xs y up.0 (from_filter test xs y there).0),
        ascending_filter test xs up.1,
      ))
      (λ dropped. ascending_filter test xs up.1)

pub ascending_map : {X Y : Type 0} (cmp : X → X → Ordering) (by : Y → Y → Ordering) (f : X → Y) → ((x y : X) → cmp x y ≡ Less → by (f x) (f y) ≡ Less)
    → (xs : List X) → IsAscendingBy cmp xs → IsAscendingBy by (map f xs)
ascending_map cmp by f rises [] up = tt
ascending_map cmp by f rises (x ∷ xs) up = (
  all_from_in (λ y. by (f x) y ≡ Less) (map f xs) (λ y there. let found = from_map f xs y there in subst (λ z. by (f x) z ≡ Less) found.2 (rises x found.0 (all_in (λ z. cmp x z ≡ Less) xs found.0 up.0 found.1))),
  ascending_map cmp by f rises xs up.1,
)

module _ {X : Type 0} {cmp : X → X → Ordering} (total : IsTotalOrder cmp) (alike : (x y : X) → cmp x y ≡ Equal → x ≡ y) where
  -- nothing comes before itself
  pub not_before_itself : (x : X) → cmp x x ≡ Less → ⊥
  not_before_itself x before = let same : Less ≡ Equal = sym before ∙ tied_itself total x in cc

  pub not_both : (x y : X) → cmp x y ≡ Less → cmp y x ≡ Less → ⊥
  not_both x y before after = let same : Less ≡ Greater = sym before ∙ total.antisymm x y ∙ ap ordering_reverse after in cc

  same_first : (x y : X) (xs ys : List X) → IsAscendingBy cmp (x ∷ xs) → IsAscendingBy cmp (y ∷ ys) → IsIn (y ∷ ys) x → IsIn (x ∷ xs) y → x ≡ y
  same_first x y xs ys up also (inl at) there = sym at
  same_first x y xs ys up also (inr here) (inl at) = at
  same_first x y xs ys up also (inr here) (inr there) =
      absurd (not_both x y (all_in (λ z. cmp x z ≡ Less) xs y up.0 there) (all_in (λ z. cmp y z ≡ Less) ys x also.0 here))

  -- what stands behind the first item of one list stands behind the same item of the other
  behind : (x : X) (xs ys : List X) (z : X) → IsAscendingBy cmp (x ∷ xs) → IsIn xs z → IsIn (x ∷ ys) z → IsIn ys z
  behind x xs ys z up here (inl at) = absurd (not_before_itself z (subst (λ w. cmp w z ≡ Less) at (all_in (λ w. cmp x w ≡ Less) xs z up.0 here)))
  behind x xs ys z up here (inr there) = there

  -- two ascending lists that have the same items are the same
  pub same_members : (xs ys : List X) → IsAscendingBy cmp xs → IsAscendingBy cmp ys → ((x : X) → IsIn xs x → IsIn ys x) → ((x : X) → IsIn ys x → IsIn xs x) → xs ≡ ys
  same_members [] [] up also there back = refl
  same_members [] (y ∷ ys) up also there back = absurd (back y (inl refl))
  same_members (x ∷ xs) [] up also there back = absurd (there x (inl refl))
  same_members (x ∷ xs) (y ∷ ys) up also there back =
      let first : x ≡ y = same_first x y xs ys up also (there x (inl refl)) (back y (inl refl)) in
      let rest : xs ≡ ys = same_members xs ys up.1 also.1
      (λ z here. behind x xs ys z up here (subst (λ w. IsIn (w ∷ ys) z) (sym first) (there z (inr here))))
      (λ z here. behind y ys xs z also here (subst (λ w. IsIn (w ∷ xs) z) first (back z (inr here)))) in
      ap (λ w. w ∷ xs) first ∙ ap (λ zs. y ∷ zs) rest

-- two ascending lists of numbers that have the same ones are the same
pub same_numbers : (xs ys : List ℕ) → IsAscendingBy nat_cmp xs → IsAscendingBy nat_cmp ys → ((x : ℕ) → IsIn xs x → IsIn ys x) → ((x : ℕ) → IsIn ys x → IsIn xs x) → xs ≡ ys
same_numbers xs ys up also there back = same_members nat_cmp_total same_from_cmp xs ys up also there back

pub in_numbers : (first count n : ℕ) → first ≤ n → n < first + count → IsIn (numbers_from first count) n
in_numbers first zero n from below = absurd (omega arith)
in_numbers first (suc count) n from below = elim (cases_eq first n) [
  | inl at ↦ inl at
  | inr differs ↦ inr (in_numbers (suc first) count n (omega (arith, differs)) (omega arith))
]

pub from_numbers : (first count n : ℕ) → IsIn (numbers_from first count) n → (first ≤ n) × (n < first + count)
from_numbers first zero n there = absurd there
from_numbers first (suc count) n (inl at) = (omega arith, omega arith)
from_numbers first (suc count) n (inr there) = let found = from_numbers (suc first) count n there in (omega (arith, found.0), omega (arith, found.1))

pub ascending_numbers : (first count : ℕ) → IsAscendingBy nat_cmp (numbers_from first count)
ascending_numbers first zero = tt
ascending_numbers first (suc count) = (
  all_from_in (λ y. nat_cmp first y ≡ Less) (numbers_from (suc first) count) (λ y there. nat_cmp-below first y (omega (arith, (from_numbers (suc first) count y there).0))),
  ascending_numbers (suc first) count,
)
